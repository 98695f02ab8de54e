use Rattle.std.proofs.Common.{◌≡◌, take}
use Rattle.std.specs.Prelude.{filter}
use Rattle.ll_laws.specs.Shows.{has}
use Rattle.ll_sequent.specs.declared.sequents.Resource.{Resource}
use Rattle.ll_sequent.proofs.labels.part_of.Given as goal

abbrev pub invariant-loop-each : goal.invariant-loop-each
invariant-loop-each l = l.found.items ≡ filter (λ (r : Resource). has l.set r.label) (take l.each-index l.resources)
