use Rattle.std.proofs.lemmas.Result.{IfOk-from_err}
use Rattle.std.proofs.Common.{◌≡◌, drop, length, ap, sym, ◌∙◌, arith, map}
use Rattle.std.proofs.lemmas.List.{drop_all}
use Rattle.ll_bank.specs.Nodes.{term_trees, form_tree}
use Rattle.ll_bank.proofs.CallerLemmas.{Extends-refl, Extends-trans, HasForm-extends, AllInTerms-extends}
use Rattle.ll_laws.specs.Module.{load_all}
use Rattle.ll_laws.specs.Shown.{clause_tree}
use Rattle.ll_modules.specs.Loads.{arguments_env}
use Rattle.ll_modules.proofs.Loading.{closed_now, clause_heads, clause_loaded}
use Rattle.ll_modules.proofs.load_clauses.Goals as goal

pub loop-i-init : goal.loop-i-init
loop-i-init c = record {
  shows = record {
    inside = c.requires.goal;
    tree = ap (λ cs. load_all (arguments_env (term_trees c.args.bank.now c.args.args.now)) (map (clause_tree c.args.bank.now) cs)
        (form_tree c.args.bank.now c.args.goal.0)) (sym (drop_all (length c.args.clauses.now) c.args.clauses.now (omega arith)));
  };
  keeps = Extends-refl c.args.bank.now;
}

pub load_clause-requires : goal.load_clause-requires
load_clause-requires c = record {
  form = HasForm-extends c.loop-i.invariant.keeps _ (c.requires.clauses _ _ (omega arith));
  goal = c.loop-i.invariant.shows.inside;
  places = AllInTerms-extends c.loop-i.invariant.keeps c.args.args.now c.requires.places;
  closed = closed_now c.loop-i.invariant.keeps c.args.args.now c.requires.places c.requires.closed;
  heads = clause_heads c.loop-i.invariant.keeps c.args.args.now c.requires.places c.requires.closed c.args.clauses.now _ _ (omega arith) c.requires.clauses
      c.requires.heads;
}

pub loop-i-preserved : goal.loop-i-preserved
loop-i-preserved c = record {
  shows = record {
    inside = c.in_ok-at.ensures.shows.inside;
    tree =
        c.in_ok-at.ensures.shows.tree
        ∙ clause_loaded c.loop-i.invariant.keeps c.args.args.now c.requires.places c.requires.closed c.args.clauses.now c.loop-i.i _ _
        (form_tree c.args.bank.now c.args.goal.0) c.loop-i-test.true c.loop-i.auto.i c.requires.clauses c.loop-i.invariant.shows.tree;
  };
  keeps = Extends-trans c.loop-i.invariant.keeps c.in_ok-at.ensures.keeps;
}

pub returns-clause-shows : goal.returns-clause-shows
returns-clause-shows c =
    let zero : c.loop-i.i ≡ 0 = omega arith in
    record {
      inside = c.loop-i.invariant.shows.inside;
      tree =
          c.loop-i.invariant.shows.tree
          ∙ ap (λ n. load_all (arguments_env (term_trees c.args.bank.now c.args.args.now)) (map (clause_tree c.args.bank.now) (drop n c.args.clauses.now))
          (form_tree c.args.bank.now c.args.goal.0)) zero;
    }

pub returns-in_err-at-clause-shows : goal.returns-in_err-at-clause-shows
returns-in_err-at-clause-shows c = IfOk-from_err c.from_residual.result _ c.from_residual.ensures.0
