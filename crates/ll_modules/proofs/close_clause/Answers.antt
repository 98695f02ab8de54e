use Rattle.std.proofs.Common.{◌≡◌, ◌-◌, take, length, ap, sym, ◌∙◌, arith}
use Rattle.std.proofs.lemmas.List.{take_all, length-map}
use Rattle.ll_bank.specs.Form.{close_form}
use Rattle.ll_bank.specs.declared.At.{At}
use Rattle.ll_bank.specs.Nodes.{term_tree, term_trees, form_tree}
use Rattle.ll_bank.proofs.CallerLemmas.{Extends-refl, Extends-trans, HasTerm-extends}
use Rattle.ll_modules.specs.Loads.{arguments_env}
use Rattle.ll_modules.proofs.Closing.{closes_nothing}
use Rattle.ll_modules.proofs.Loading.{one_less, heads_now}
use Rattle.ll_modules.proofs.close_clause.Goals as goal

pub loop-i-init : goal.loop-i-init
loop-i-init c =
    let l = length-map c.args.args.now (λ (a : At). term_tree c.args.bank.now a.0) in
    record {
      inside = c.requires.form;
      closes = ap (λ ts. close_form (arguments_env ts) (form_tree c.args.bank.now c.args.form.0))
          (take_all (length c.args.args.now) (term_trees c.args.bank.now c.args.args.now) (omega arith));
      keeps = Extends-refl c.args.bank.now;
    }

pub instantiate-requires : goal.instantiate-requires
instantiate-requires c = record {
  body = c.loop-i.invariant.inside;
  value = HasTerm-extends c.loop-i.invariant.keeps _ (c.requires.places _ _ (omega arith));
  heads =
      heads_now c.loop-i.invariant.keeps c.args.args.now c.requires.places c.requires.closed c.loop-i.i _ _ _ c.loop-i-test.true c.loop-i.auto.i
      c.loop-i.invariant.closes c.requires.heads;
}

pub loop-i-preserved : goal.loop-i-preserved
loop-i-preserved c = record {
  inside = c.in_ok-at.ensures.shows.inside;
  closes =
      ap (close_form (arguments_env (take (c.loop-i.i - 1) (term_trees c.args.bank.now c.args.args.now)))) c.in_ok-at.ensures.shows.tree
      ∙ one_less c.loop-i.invariant.keeps c.args.args.now c.requires.places c.requires.closed c.loop-i.i _ _ _ c.loop-i-test.true c.loop-i.auto.i
      c.loop-i.invariant.closes;
  keeps = Extends-trans c.loop-i.invariant.keeps c.in_ok-at.ensures.keeps;
}

pub returns-clause-shows : goal.returns-clause-shows
returns-clause-shows c =
    let zero : c.loop-i.i ≡ 0 = omega arith in
    record {
      inside = c.loop-i.invariant.inside;
      tree = sym (closes_nothing (form_tree c.loop-i.bank c.loop-i.at.0))
          ∙ (ap (λ n. close_form (arguments_env (take n (term_trees c.args.bank.now c.args.args.now))) (form_tree c.loop-i.bank c.loop-i.at.0)) (sym zero)
          ∙ c.loop-i.invariant.closes);
    }
