use Rattle.std.proofs.Common.{◌≡◌, ◌-◌}
use Rattle.ll_deepen.specs.Deciding.{IsUndecidedTo}
use Rattle.ll_laws.specs.Valid.{IsValid}
use Rattle.ll_top.specs.DeepenEnds.{with_bound}
use Rattle.ll_top.proofs.deepening.decide.Given as goal

abbrev pub invariant-loop-counts : goal.invariant-loop-counts
invariant-loop-counts g l = record {
  undecided : IsUndecidedTo l.initial.problem l.series l.bound;
  same : with_bound l.problem 0 ≡ with_bound l.initial.problem 0;
  valid : IsValid l.problem;
}

abbrev pub decreases-loop-counts : goal.decreases-loop-counts
decreases-loop-counts g l = l.series.to - l.bound
