use Rattle.std.proofs.Common.{map, take}
use Rattle.std.specs.String.{string_bytes}
use Rattle.ll_polarity.specs.Places.{FindsFirst}
use Rattle.ll_polarity.proofs.asking.places_by.Given as goal

abbrev pub invariant-loop-place : goal.invariant-loop-place
invariant-loop-place l = FindsFirst l.found.places (map string_bytes (take l.place l.texts))
