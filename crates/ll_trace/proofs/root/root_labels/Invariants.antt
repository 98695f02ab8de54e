use Rattle.std.proofs.Common.{◌≡◌, take}
use Rattle.ll_trace.specs.Start.{linear_labels}
use Rattle.ll_trace.proofs.root.root_labels.Given as goal

abbrev pub invariant-loop-label : goal.invariant-loop-label
invariant-loop-label l = l.labels.items ≡ linear_labels 0 (take l.label l.clauses)
