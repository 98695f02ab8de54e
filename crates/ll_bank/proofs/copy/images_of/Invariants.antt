use Rattle.std.proofs.Common.{◌≡◌, map, take, Some}
use Rattle.std.specs.Ordering.{nat_cmp}
use Rattle.std.specs.BTreeMap.{get}
use Rattle.ll_bank.proofs.copy.images_of.Given as goal

abbrev pub invariant-loop-place : goal.invariant-loop-place
invariant-loop-place l = map Some l.found.items ≡ map (λ a. get nat_cmp l.images a.0) (take l.place-index l.places)
