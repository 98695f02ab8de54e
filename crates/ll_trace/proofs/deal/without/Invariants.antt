use Rattle.std.proofs.Common.{◌≡◌, ◌++◌, drop}
use Rattle.ll_laws.specs.Dealing.{without}
use Rattle.ll_trace.proofs.deal.without.Given as goal

abbrev pub invariant-loop-other : goal.invariant-loop-other
invariant-loop-other l = l.rest.items ++ without l.label (drop l.other-index l.labels) ≡ without l.label l.labels
