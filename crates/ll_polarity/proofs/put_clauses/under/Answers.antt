use Rattle.std.proofs.Common.{◌≡◌, suc, ◌+◌, refl, ap, ◌∙◌, arith}
use Rattle.std.proofs.lemmas.Result.{IfOk-from_err}
use Rattle.ll_bank.specs.Form.{Forall}
use Rattle.ll_bank.specs.Nodes.{form_tree}
use Rattle.ll_bank.proofs.CallerLemmas.{Extends-refl, Extends-trans}
use Rattle.ll_laws.specs.Module.{forall_all}
use Rattle.ll_polarity.proofs.put_clauses.under.Goals as goal

pub loop-passed-init : goal.loop-passed-init
loop-passed-init c = record { shows = record { inside = c.requires; tree = refl }; keeps = Extends-refl c.args.bank.now }

pub loop-passed-preserved : goal.loop-passed-preserved
loop-passed-preserved c = record {
  shows = record {
    inside = c.in_ok-form.ensures.shows.inside;
    tree =
        c.in_ok-form.ensures.shows.tree
        ∙ (ap Forall c.loop-passed.invariant.shows.tree
        ∙ ap (λ n. forall_all n (form_tree c.args.bank.now c.args.body.0)) (let e : suc c.loop-passed._passed ≡ c.loop-passed._passed + 1 = omega arith in e));
  };
  keeps = Extends-trans c.loop-passed.invariant.keeps c.in_ok-form.ensures.keeps;
}

pub returns-in_err-form-clause-shows : goal.returns-in_err-form-clause-shows
returns-in_err-form-clause-shows c = IfOk-from_err c.from_residual.result _ c.from_residual.ensures.0
