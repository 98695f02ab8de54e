use Rattle.ll_crew.specs.Alone.{IsAlone}
use Rattle.ll_crew.proofs.alone.search_alone.Given as goal

abbrev pub invariant-stretches : goal.invariant-stretches
invariant-stretches g l = IsAlone g.O.Outlet l.fn.out l.fn.problem l.engine l.out l.counts

abbrev pub decreases-stretches : goal.decreases-stretches
decreases-stretches g l = l.engine.work
