use Rattle.std.proofs.lemmas.Result.{IfOk-from_err}
use Rattle.std.proofs.Common.{ap}
use Rattle.ll_bank.specs.Nodes.{term_trees}
use Rattle.ll_engine.proofs.answer.with_steps.Goals as goal

pub invariant_of-result : goal.invariant_of-result
invariant_of-result c = c.requires

pub returns : goal.returns
returns c = ap (λ steps. record { terms = term_trees c.args.bank c.args.terms.items; steps = steps }) c.in_ok-steps.ensures.items

pub returns-in_err-steps : goal.returns-in_err-steps
returns-in_err-steps c = IfOk-from_err c.from_residual.result _ c.from_residual.ensures.0
