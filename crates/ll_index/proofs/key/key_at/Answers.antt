use Rattle.std.proofs.lemmas.Result.{IfOk-from_err}
use Rattle.std.proofs.Common.{ap, sym, ◌∙◌, length}
use Rattle.std.specs.Prelude.{Some}
use Rattle.ll_bank.specs.Nodes.{term_tree, term_trees}
use Rattle.ll_index.specs.declared.key.Key.TheVariants.{Named}
use Rattle.ll_index.specs.Keys.{named_key, sign_of_first}
use Rattle.ll_index.proofs.KeyLemmas.{key_of-app}
use Rattle.ll_index.proofs.key.key_at.Goals as goal

pub returns-in_ok-first-in-App-Name-default : goal.returns-in_ok-first-in-App-Name-default
returns-in_ok-first-in-App-Name-default c =
    ap (λ k. Named c.in-App-Name-default.name k c.in_ok-first-in-App-Name-default.first) c.in_ok-arity-in-App-Name-default.ensures.same
    ∙ (ap (Named c.in-App-Name-default.name (length c.in-App-Name-default.args.now)) c.in_ok-first-in-App-Name-default.ensures
    ∙ sym (key_of-app c.args.bank.now (term_tree c.args.bank.now c.args.head.0) c.in-App-Name-default.field-0 c.in-App-Name-default.args.now c.args.by_sign
    c.in-App-Name-default.ensures.shown.0
    ∙ ap (λ h. named_key (Some h) (length c.in-App-Name-default.args.now)
    (sign_of_first c.args.by_sign (term_trees c.args.bank.now c.in-App-Name-default.args.now))) c.in-App-Name-default.field-0-is))

pub returns-in-App-Eigen-default : goal.returns-in-App-Eigen-default
returns-in-App-Eigen-default c =
    sym (key_of-app c.args.bank.now (term_tree c.args.bank.now c.args.head.0) c.in-App-Eigen-default.field-0 c.in-App-Eigen-default.field-1.now c.args.by_sign
    c.in-App-Eigen-default.ensures.shown.0
    ∙ ap (λ h. named_key (Some h) (length c.in-App-Eigen-default.field-1.now)
    (sign_of_first c.args.by_sign (term_trees c.args.bank.now c.in-App-Eigen-default.field-1.now))) c.in-App-Eigen-default.field-0-is)

pub returns-in-App-Bound-default : goal.returns-in-App-Bound-default
returns-in-App-Bound-default c =
    sym (key_of-app c.args.bank.now (term_tree c.args.bank.now c.args.head.0) c.in-App-Bound-default.field-0 c.in-App-Bound-default.field-1.now c.args.by_sign
    c.in-App-Bound-default.ensures.shown.0
    ∙ ap (λ h. named_key (Some h) (length c.in-App-Bound-default.field-1.now)
    (sign_of_first c.args.by_sign (term_trees c.args.bank.now c.in-App-Bound-default.field-1.now))) c.in-App-Bound-default.field-0-is)

pub returns-in_err-arity-in-App-Name-default : goal.returns-in_err-arity-in-App-Name-default
returns-in_err-arity-in-App-Name-default c = IfOk-from_err c.from_residual.result _ c.from_residual.ensures.0

pub returns-in_err-first-in-App-Name-default : goal.returns-in_err-first-in-App-Name-default
returns-in_err-first-in-App-Name-default c =
    IfOk-from_err c.from_residual-in_err-first-in-App-Name-default.result _ c.from_residual-in_err-first-in-App-Name-default.ensures.0
