-- Sound pools: the invariant of every run.
use Rattle.std.specs.Prelude.{◌≡◌, ℕ, ◌+◌, ◌<◌, ◌≤◌, List, [], ◌∷◌, ◌++◌, Bool, true, false, not, Option, Some, None, if◌then◌else◌, ◌==◌, length, slice_get}
use Rattle.std.specs.Prelude.{flat_map, sum_by}
use Rattle.std.specs.List.{list_all}
use Rattle.ll_laws.specs.Search.{cut_count}
use Rattle.ll_laws.specs.Pool.{Owed, Status, Open, Closed, Taken, Piece, PoolData, Alternative}
use Rattle.ll_laws.specs.Spread.{owed_by, owed_at, given_events, given_cost, share, owes_of, walk, piece_of}

-- P holds of each element
abbrev pub Each : {X : Type 0} → List X → (X → Type 0) → Type 0
Each {X = X} xs P = (i : ℕ) (x : X) → slice_get xs i ≡ Some x → P x

-- the same, by the list
abbrev pub Every : {X : Type 0} → (X → Type 0) → List X → Type 0
Every P [] = Unit {0}
Every P (x ∷ xs) = P x × Every P xs

-- how often b stands in the list
abbrev pub count_of : ℕ → List ℕ → ℕ
count_of b [] = 0
count_of b (c ∷ cs) = (if c == b then 1 else 0) + count_of b cs

-- the pieces of the walk that are taken are the first ones
abbrev pub TakenFirst : (Alternative → Bool) → List Alternative → Type 0
TakenFirst taken walk = (front : List Alternative) × (back : List Alternative) × (walk ≡ front ++ back) × (list_all taken front ≡ true)
    × (list_all (λ a. not (taken a)) back ≡ true)

module _ {E : Type 0} where
  -- alternative k of batch b is claimed
  abbrev pub HasPiece : List (Piece E) → ℕ → ℕ → Type 0
  HasPiece pieces b k = (i : ℕ) × (x : Piece E) × (slice_get pieces i ≡ Some x) × (x.batch ≡ b) × (x.k ≡ k)

  abbrev pub is_open : Status E → Bool
  is_open Open = true
  is_open (Closed report) = false
  is_open Taken = false

  abbrev pub is_taken_status : Status E → Bool
  is_taken_status Open = false
  is_taken_status (Closed report) = false
  is_taken_status Taken = true

  abbrev pub is_taken_piece : Option (Piece E) → Bool
  is_taken_piece None = false
  is_taken_piece (Some x) = is_taken_status x.status

  -- the alternative is claimed, and its report was taken
  abbrev pub is_taken : List (Piece E) → Alternative → Bool
  is_taken pieces a = is_taken_piece (piece_of pieces a)

  -- how many pieces are open
  abbrev pub count_open : List (Piece E) → ℕ
  count_open [] = 0
  count_open (x ∷ xs) = (if is_open x.status then 1 else 0) + count_open xs

  -- the batches that the pieces published, one piece after the other
  abbrev pub all_published : List (Piece E) → List ℕ
  all_published pieces = flat_map (λ (x : Piece E). x.published) pieces

  -- the report that tells what is owed
  abbrev pub report_of : Owed E → Owed E
  report_of o = record { events = o.events; cost = cut_count o.cost }

  -- where a report waits to be taken, it tells the share
  abbrev pub Reported : Owed E → Status E → Type 0
  Reported share Open = Unit {0}
  Reported share (Closed report) = report ≡ report_of share
  Reported share Taken = Unit {0}

module _ {N E : Type 0} (alternatives : N → List (Owed E)) where
  -- the parts of soundness that hold whatever was reported
  pub record Shaped (p : PoolData N E) : Type 0 where
    -- each piece names an alternative, no two the same one, and the claimed ones of a batch are its first ones
    pub named : Each p.pieces (λ (x : Piece E). x.k < length (owed_by (owes_of alternatives p) x.batch))
    pub apart : (i j : ℕ) (x y : Piece E) → slice_get p.pieces i ≡ Some x → slice_get p.pieces j ≡ Some y → x.batch ≡ y.batch → x.k ≡ y.k → i ≡ j
    pub first : Each p.pieces (λ (x : Piece E). (k : ℕ) → k < x.k → HasPiece p.pieces x.batch k)
    -- each batch but 0 was published once, by a piece of an older batch
    pub once : (b : ℕ) → 0 < b → b < length p.batches → count_of b (all_published p.pieces) ≡ 1
    pub only : Each p.pieces (λ (x : Piece E). Every (λ c. (x.batch < c) × (c < length p.batches)) x.published)
    -- the counts
    pub busy : p.busy ≡ count_open p.pieces
    pub total : p.total ≡ sum_by length (owes_of alternatives p)
    pub small : p.total ≤ 4294967295
    pub untried : p.untried + length p.pieces ≡ p.total
    -- the taken pieces are the first ones in walk order
    pub taken : TakenFirst (λ a. is_taken_piece (piece_of p.pieces a)) (walk alternatives p)
    -- each worker has at most one open piece
    pub workers : Each p.pieces (λ (x : Piece E). x.worker < p.workers)
    pub one_open : (i j : ℕ) (x y : Piece E) → slice_get p.pieces i ≡ Some x → slice_get p.pieces j ≡ Some y → x.status ≡ Open → y.status ≡ Open
        → x.worker ≡ y.worker → i ≡ j

module _ {N Of E : Type 0} (of : N → Of) (alternatives : N → List (Owed E)) where
  -- Every batch is of the problem, and the root owes the pair.
  pub record Sound (p : PoolData N E) (problem : Of) (pair : Owed E) : Type 0 where
    pub shape : Shaped alternatives p
    -- batch 0 has one alternative, which owes the pair
    pub root : slice_get (owes_of alternatives p) 0 ≡ Some (pair ∷ [])
    -- what an alternative owes ends with what its batches owe
    pub events : Each p.pieces (λ (x : Piece E). (owed_at (owes_of alternatives p) x.batch x.k).events ≡ (share (owes_of alternatives p) x).events
        ++ given_events (owes_of alternatives p) x)
    pub costs : Each p.pieces (λ (x : Piece E). given_cost (owes_of alternatives p) x ≤ (owed_at (owes_of alternatives p) x.batch x.k).cost)
    -- the reports tell the shares
    pub reports : Each p.pieces (λ (x : Piece E). Reported (share (owes_of alternatives p) x) x.status)
    pub alike : Each p.batches (λ n. of n ≡ problem)
