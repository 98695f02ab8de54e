-- A stack that says what is left of a walk, the top at its end.
use Rattle.std.specs.Prelude.{◌≡◌, ℕ, ◌+◌, ◌-◌, ◌<◌, ◌≤◌, List, [], ◌∷◌, ◌++◌, Bool, true, not, if◌then◌else◌, nat_lt, length, flat_map}
use Rattle.std.specs.List.{list_all}
use Rattle.ll_laws.specs.Pool.{Owed, Piece, PoolData, Alternative}
use Rattle.ll_laws.specs.Spread.{numbers, last_first, walk_alternative, walk_deep, kids_of, length_of}
use Rattle.ll_laws.specs.Sound.{Every, is_taken, is_taken_status}

-- the alternatives of a batch from this one on, each with what stands below it
abbrev pub rest : (ℕ → ℕ → List ℕ) → (ℕ → ℕ) → ℕ → Alternative → List Alternative
rest kids len n e = flat_map (walk_alternative kids (walk_deep kids len n) e.batch) (numbers e.k (len e.batch - e.k))

abbrev pub begin : ℕ → Alternative
begin c = record { batch = c; k = 0 }

abbrev pub next_of : (ℕ → ℕ) → Alternative → List Alternative
next_of len e = if nat_lt (e.k + 1) (len e.batch) then record { batch = e.batch; k = e.k + 1 } ∷ [] else []

module _ {E : Type 0} where
  -- how many batches the pieces that are not taken have published
  abbrev pub untaken : List (Piece E) → ℕ
  untaken [] = 0
  untaken (x ∷ xs) = (if is_taken_status x.status then 0 else length x.published) + untaken xs

-- n batches; taken says which alternatives are taken, and the pieces that are not taken have published `more` batches
pub record Points (kids : ℕ → ℕ → List ℕ) (len : ℕ → ℕ) (n : ℕ) (taken : Alternative → Bool) (more : ℕ) (stack : List Alternative) : Type 0 where
  pub front : List Alternative
  pub order : walk_deep kids len n 0 ≡ front ++ last_first (rest kids len n) stack
  pub before : list_all taken front ≡ true
  pub others : list_all (λ a. not (taken a)) (last_first (rest kids len n) stack) ≡ true
  pub valid : Every (λ (e : Alternative). e.k < len e.batch) stack
  -- so no push wants memory where there is room for n
  pub deep : length stack + more ≤ n

module _ {N E : Type 0} (alternatives : N → List (Owed E)) where
  abbrev pub PointsIn : PoolData N E → List Alternative → Type 0
  PointsIn p stack = Points (kids_of p.pieces) (length_of alternatives p) (length p.batches) (is_taken p.pieces) (untaken p.pieces) stack
