use Rattle.std.proofs.lemmas.Result.{IfOk-from_err}
use Rattle.ll_laws.specs.Problem.{start_of}
use Rattle.ll_engine.specs.Pointed.{choices_of}
use Rattle.ll_engine.proofs.turns.Stepping.{healthy_start}
use Rattle.ll_engine.proofs.engine.Engine.start_with.Goals as goal

pub invariant_of-result : goal.invariant_of-result
invariant_of-result c =
    λ _. (
      c.in_ok-choices.ensures.sound,
      healthy_start (choices_of c.in_ok-choices.choices) c.args.problem.now (start_of c.args.problem.now)
          c.in_ok-choices.ensures.start,
    )

pub returns-in_err-choices : goal.returns-in_err-choices
returns-in_err-choices c = IfOk-from_err c.from_residual.result _ c.from_residual.ensures.0
