use Rattle.ll_cover.specs.Covering.{IsPassing}
use Rattle.ll_cover.proofs.covering.first_cover.Given as goal

abbrev pub invariant-loop-branch : goal.invariant-loop-branch
invariant-loop-branch l = IsPassing l.problem l.derivation l.engine.events l.number

abbrev pub decreases-loop-branch : goal.decreases-loop-branch
decreases-loop-branch l = l.engine.work
