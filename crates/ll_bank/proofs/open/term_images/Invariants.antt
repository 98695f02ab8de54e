use Rattle.std.proofs.Common.{◌≡◌, map, take, Some}
use Rattle.std.specs.BTreeMap.{get}
use Rattle.ll_bank.specs.Instantiated.{by_spot}
use Rattle.ll_bank.proofs.open.term_images.Given as goal

abbrev pub invariant-loop-term : goal.invariant-loop-term
invariant-loop-term l = map Some l.found.items ≡ map (λ a. get by_spot l.images (a.0, l.level)) (take l.term-index l.terms)
