use Rattle.std.proofs.Common.{◌∙◌, rules, sym, ap}
use Rattle.std.proofs.lemmas.Result.{IfOk-from_err}
use Rattle.std.specs.Arc.{arc_value}
use Rattle.ll_engine.specs.Pointed.{choices_of}
use Rattle.ll_engine.proofs.turns.Resuming.{healthy_begins, resumes_with, resumes_owing}
use Rattle.ll_engine.proofs.engine.Engine.advance.Goals as goal

pub begun-requires-clause-healthy : goal.begun-requires-clause-healthy
begun-requires-clause-healthy c =
    let z = c.in_ok-choices.choices in healthy_begins (arc_value c.args.to) c.args.k z.began (choices_of z) c.in_ok-choices.ensures.begins

pub returns-clause-resumed : goal.returns-clause-resumed
returns-clause-resumed c =
    let z = c.in_ok-choices.choices in c.begun.ensures ∙ resumes_with (arc_value c.args.to) c.args.k z.began (choices_of z) c.in_ok-choices.ensures.begins

pub returns-clause-owes : goal.returns-clause-owes
returns-clause-owes c =
    let z = c.in_ok-choices.choices in
    λ owes g. resumes_owing (arc_value c.args.to) c.args.k c.args.self.problem _ owes
    (c.begun.ensures ∙ resumes_with (arc_value c.args.to) c.args.k z.began (choices_of z) c.in_ok-choices.ensures.begins) c.requires.of g

pub returns-in_err-choices-clause-resumed : goal.returns-in_err-choices-clause-resumed
returns-in_err-choices-clause-resumed c = IfOk-from_err c.from_residual.result _ c.from_residual.ensures.0

pub returns-in_err-choices-clause-owes : goal.returns-in_err-choices-clause-owes
returns-in_err-choices-clause-owes c = IfOk-from_err c.from_residual.result _ c.from_residual.ensures.0

pub resume_shared-requires-clause-inside : goal.resume_shared-requires-clause-inside
resume_shared-requires-clause-inside c = c.requires.inside

pub returns-then-spent-clause-resumed : goal.returns-then-spent-clause-resumed
returns-then-spent-clause-resumed c = c.resume_shared.ensures.resumed

pub advance-requires-clause-inside : goal.advance-requires-clause-inside
advance-requires-clause-inside c = c.requires.inside

pub begun-requires-clause-sound : goal.begun-requires-clause-sound
begun-requires-clause-sound c = c.in_ok-choices.ensures.sound

pub returns-then-spent-clause-owes : goal.returns-then-spent-clause-owes
returns-then-spent-clause-owes c = search rules

pub advance-requires-clause-index : goal.advance-requires-clause-index
advance-requires-clause-index c = (c.self.invariant c.if-spent.false).0.index

pub advance-requires-clause-based : goal.advance-requires-clause-based
advance-requires-clause-based c = (c.self.invariant c.if-spent.false).0.based

pub resume_shared-requires-clause-of : goal.resume_shared-requires-clause-of
resume_shared-requires-clause-of c = c.requires.of ∙ sym (ap (λ v. v.problem) c.self.view_is)

pub advance-requires-clause-of : goal.advance-requires-clause-of
advance-requires-clause-of c = c.requires.of ∙ sym (ap (λ v. v.problem) c.self.view_is)
