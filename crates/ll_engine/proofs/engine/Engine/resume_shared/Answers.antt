use Rattle.std.proofs.lemmas.Result.{IfOk-from_err}
use Rattle.std.proofs.Common.{◌∙◌}
use Rattle.std.specs.Arc.{arc_value}
use Rattle.ll_engine.specs.Pointed.{choices_of}
use Rattle.ll_engine.proofs.turns.Resuming.{healthy_begins, resumes_with, resumes_owing}
use Rattle.ll_engine.proofs.engine.Engine.resume_shared.Goals as goal

pub begun-requires-clause-healthy : goal.begun-requires-clause-healthy
begun-requires-clause-healthy c =
    let z = c.in_ok-choices.choices in healthy_begins (arc_value c.args.frozen) c.args.k z.began (choices_of z) c.in_ok-choices.ensures.begins

pub returns-clause-resumed : goal.returns-clause-resumed
returns-clause-resumed c =
    let z = c.in_ok-choices.choices in c.begun.ensures ∙ resumes_with (arc_value c.args.frozen) c.args.k z.began (choices_of z) c.in_ok-choices.ensures.begins

pub returns-clause-owes : goal.returns-clause-owes
returns-clause-owes c =
    let z = c.in_ok-choices.choices in
    λ owes g. resumes_owing (arc_value c.args.frozen) c.args.k c.args.problem.now _ owes
    (c.begun.ensures ∙ resumes_with (arc_value c.args.frozen) c.args.k z.began (choices_of z) c.in_ok-choices.ensures.begins) c.requires.of g

pub returns-in_err-choices-clause-resumed : goal.returns-in_err-choices-clause-resumed
returns-in_err-choices-clause-resumed c = IfOk-from_err c.from_residual.result _ c.from_residual.ensures.0

pub returns-in_err-choices-clause-owes : goal.returns-in_err-choices-clause-owes
returns-in_err-choices-clause-owes c = IfOk-from_err c.from_residual.result _ c.from_residual.ensures.0
