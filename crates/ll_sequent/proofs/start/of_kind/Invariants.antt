use Rattle.std.proofs.Common.{◌≡◌, ◌++◌, drop}
use Rattle.ll_sequent.specs.Starting.{of_kind}
use Rattle.ll_sequent.proofs.start.of_kind.Given as goal

abbrev pub invariant-loop-label : goal.invariant-loop-label
invariant-loop-label l = l.found.items ++ of_kind l.kind l.label (drop l.label l.clauses) ≡ of_kind l.kind 0 l.clauses
