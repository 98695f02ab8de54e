use Rattle.std.proofs.Common.{ap, sym, ◌∙◌}
use Rattle.std.proofs.lemmas.Result.{IfOk-from_err}
use Rattle.ll_bank.specs.Nodes.{term_tree, term_trees}
use Rattle.ll_laws.specs.Number.{is_number, operators_of, value_of}
use Rattle.ll_sequent.proofs.NumberLemmas.{app_no_number}
use Rattle.ll_sequent.proofs.numbers.is_value.Goals as goal

pub returns-in-App : goal.returns-in-App
returns-in-App c =
    let v = value_of (operators_of c.args.names.now) (term_tree c.args.bank.now c.args.right.0) in
    sym (ap (λ t. is_number t v) c.in-App.ensures.shown.0 ∙ app_no_number c.in-App.field-0 (term_trees c.args.bank.now c.in-App.field-1.now) v)

pub returns-in_err-found : goal.returns-in_err-found
returns-in_err-found c = IfOk-from_err c.from_residual.result _ c.from_residual.ensures.0
