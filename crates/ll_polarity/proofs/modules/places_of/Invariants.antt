use Rattle.std.proofs.Common.{map, take}
use Rattle.ll_polarity.specs.Numbered.{text_of}
use Rattle.ll_polarity.specs.Places.{FindsFirst}
use Rattle.ll_polarity.proofs.modules.places_of.Given as goal

abbrev pub invariant-loop-place : goal.invariant-loop-place
invariant-loop-place l = FindsFirst l.found.places (map (λ m. text_of l.names m.name.name) (take l.place l.modules))
