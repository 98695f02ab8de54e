use Rattle.std.proofs.Common.{◌≡◌, take}
use Rattle.std.specs.List.{list_all}
use Rattle.ll_laws.specs.Shows.{has, one_of}
use Rattle.ll_sequent.specs.declared.sequents.Resource.{Resource}
use Rattle.ll_sequent.proofs.labels.are_in_one.Given as goal

abbrev pub invariant-loop-each : goal.invariant-loop-each
invariant-loop-each l = l.all ≡ list_all (λ (r : Resource). one_of (has l.fn.left r.label) (has l.fn.right r.label)) (take l.each-index l.resources)
