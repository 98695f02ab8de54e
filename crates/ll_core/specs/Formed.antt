-- What holds of each pool, whatever was reported.
use Rattle.std.specs.Prelude.{◌≡◌, ℕ, ◌+◌, ◌≤◌, List, ◌++◌, Some, slice_get, map, length}
use Rattle.std.specs.Arc.{arc_value}
use Rattle.ll_laws.specs.Pool.{Owed, Piece, Alternative}
use Rattle.ll_laws.specs.Spread.{owed_by}
use Rattle.ll_laws.specs.Sound.{Each, count_open}
use Rattle.ll_core.specs.Order.{Orderly}
use Rattle.ll_laws.specs.declared.Event.{Event}
use Rattle.ll_core.specs.declared.room.Waiting.{Waiting}

abbrev pub place_of : Piece Event → Alternative
place_of x = record { batch = x.batch; k = x.k }

abbrev pub place_in : {N : Type 0} → Waiting N → Alternative
place_in w = record { batch = w.batch; k = w.k }

pub record Formed {N : Type 0} (alternatives : N → List (Owed Event)) (batches : List N) (pieces : List (Piece Event)) (waiting : List (Waiting N))
    (capacity open_now : ℕ) : Type 0 where
  pub order : Orderly (λ b. length (owed_by (map alternatives batches) b)) (map place_of pieces ++ map place_in waiting)
  pub copies : Each waiting (λ w. slice_get batches w.batch ≡ Some (arc_value w.copy))
  pub room : length pieces + length waiting ≤ capacity
  pub small : length pieces + length waiting ≤ 4294967295
  pub few : length batches ≤ length pieces + length waiting
  pub busy : open_now ≡ count_open pieces
