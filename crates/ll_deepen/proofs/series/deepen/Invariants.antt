use Rattle.std.proofs.Common.{◌≡◌, ◌≤◌, max, ◌-◌}
use Rattle.ll_deepen.specs.Deciding.{IsUndecidedTo}
use Rattle.ll_deepen.proofs.series.deepen.Given as goal

abbrev pub invariant-loop-counts : goal.invariant-loop-counts
invariant-loop-counts g l =
    IsUndecidedTo (g.T.Trial.problem l.initial.trial) l.series l.bound
    × (g.T.Trial.problem l.trial ≡ g.T.Trial.problem l.initial.trial)
    × (g.T.Trial.most l.initial.trial ≤ g.T.Trial.most l.trial)
    × (g.T.Trial.most l.trial ≤ max (g.T.Trial.most l.initial.trial) l.bound)

abbrev pub decreases-loop-counts : goal.decreases-loop-counts
decreases-loop-counts g l = l.series.to - l.bound
