use Rattle.std.proofs.Common.{◌≡◌, ◌∙◌, sym, subst, IfOk}
use Rattle.std.specs.Arc.{arc_value}
use Rattle.ll_freeze.specs.Frozen.{alternatives_in}
use Rattle.ll_engine.specs.Seen.{Owing}
use Rattle.ll_crew.proofs.Finishing.{kept_some, its_problems}
use Rattle.ll_crew.proofs.piece.engine_for.Goals as goal

pub returns-in-Some-clause-problem : goal.returns-in-Some-clause-problem
returns-in-Some-clause-problem g c =
    subst (λ p. IfOk c.advance.result (λ (e : Owing). e.problem ≡ p))
    (kept_some c.args.job.now.problem.now c.args.kept.now c.in-Some.engine (sym c.take.ensures.value ∙ c.in-Some.is) c.requires.kept)
    (its_problems (alternatives_in (arc_value c.args.claimed.batch)) c.args.claimed.k c.in-Some.engine.problem c.advance.result c.requires.inside
    c.advance.ensures.owes)

pub returns-in-None-clause-problem : goal.returns-in-None-clause-problem
returns-in-None-clause-problem g c =
    its_problems (alternatives_in (arc_value c.args.claimed.batch)) c.args.claimed.k c.args.job.now.problem.now c.resume_shared.result c.requires.inside
    c.resume_shared.ensures.owes

pub advance-requires-clause-inside : goal.advance-requires-clause-inside
advance-requires-clause-inside g c = c.requires.inside

pub resume_shared-requires-clause-inside : goal.resume_shared-requires-clause-inside
resume_shared-requires-clause-inside g c = c.requires.inside

pub resume_shared-requires-clause-of : goal.resume_shared-requires-clause-of
resume_shared-requires-clause-of g c = c.requires.of
