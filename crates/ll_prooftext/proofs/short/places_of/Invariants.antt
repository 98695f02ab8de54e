use Rattle.std.proofs.Common.{◌≡◌, ◌++◌, take}
use Rattle.std.specs.List.{flat_map}
use Rattle.ll_prooftext.specs.Short.{rule_places}
use Rattle.ll_prooftext.proofs.short.places_of.Given as goal

abbrev pub invariant-loop-i : goal.invariant-loop-i
invariant-loop-i l = l.places.items ≡ l.asked ++ flat_map rule_places (take l.i l.nodes)
