-- Copies of a batch that wait for a claim.
use Rattle.std.specs.Prelude.{◌≡◌, ℕ, List, map}
use Rattle.std.specs.Arc.{arc_value}
use Rattle.ll_laws.specs.Spread.{alternatives_of}
use Rattle.ll_laws.specs.Sound.{Every}
use Rattle.ll_core.specs.Formed.{place_in}
use Rattle.ll_core.specs.declared.room.Waiting.{Waiting}

pub record AreCopies {N : Type 0} (number len : ℕ) (value : N) (copies : List (Waiting N)) : Type 0 where
  pub places : map place_in copies ≡ alternatives_of number len
  pub values : Every (λ (w : Waiting N). arc_value w.copy ≡ value) copies
