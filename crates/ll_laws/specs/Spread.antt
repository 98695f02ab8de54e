-- How a pool is read: the walk over its tree, what each piece owes, and what the whole pool owes.
use Rattle.std.specs.Prelude.{ℕ, zero, suc, ◌-◌, List, [], ◌∷◌, ◌++◌, Bool, Option, Some, None, ◌==◌, ◌&&◌, length, map, take, slice_get, find, flat_map}
use Rattle.std.specs.Prelude.{sum_by}
use Rattle.ll_laws.specs.Pool.{Owed, Status, Open, Closed, Taken, Piece, PoolData, Alternative}

-- from, from + 1, .., n numbers
abbrev pub numbers : ℕ → ℕ → List ℕ
numbers from zero = []
numbers from (suc n) = from ∷ numbers (suc from) n

-- the n alternatives of batch b
abbrev pub alternatives_of : ℕ → ℕ → List Alternative
alternatives_of b n = map (λ k. record { batch = b; k = k }) (numbers 0 n)

-- what f makes of the elements, the last one first
abbrev pub last_first : {X A : Type 0} → (X → List A) → List X → List A
last_first f [] = []
last_first f (x ∷ xs) = last_first f xs ++ f x

-- an alternative, and then the batches that its piece published, the last published first
abbrev pub walk_alternative : (ℕ → ℕ → List ℕ) → (ℕ → List Alternative) → ℕ → ℕ → List Alternative
walk_alternative kids walk b k = record { batch = b; k = k } ∷ last_first walk (kids b k)

-- The alternatives of batch b by rising k, each with what stands below it, no deeper than `deep`. `kids b k` are the batches that the
-- piece of alternative k of batch b published, and `len b` is the length of batch b.
abbrev pub walk_deep : (ℕ → ℕ → List ℕ) → (ℕ → ℕ) → ℕ → ℕ → List Alternative
walk_deep kids len zero b = []
walk_deep kids len (suc deep) b = flat_map (walk_alternative kids (walk_deep kids len deep) b) (numbers 0 (len b))

module _ {E : Type 0} where
  -- the piece is this alternative
  abbrev pub is_of : Alternative → Piece E → Bool
  is_of a x = (a.batch == x.batch) && (a.k == x.k)

  -- the piece that an alternative is, where it is claimed
  abbrev pub piece_of : List (Piece E) → Alternative → Option (Piece E)
  piece_of pieces a = find (is_of a) pieces

  abbrev pub published_by : Option (Piece E) → List ℕ
  published_by None = []
  published_by (Some x) = x.published

  -- the batches that the piece of alternative k of batch b published
  abbrev pub kids_of : List (Piece E) → ℕ → ℕ → List ℕ
  kids_of pieces b k = published_by (piece_of pieces (record { batch = b; k = k }))

  abbrev pub list_or_empty : Option (List (Owed E)) → List (Owed E)
  list_or_empty None = []
  list_or_empty (Some os) = os

  abbrev pub owed_or_nothing : Option (Owed E) → Owed E
  owed_or_nothing None = record { events = []; cost = 0 }
  owed_or_nothing (Some o) = o

  -- the alternatives of each batch
  abbrev pub owed_by : List (List (Owed E)) → ℕ → List (Owed E)
  owed_by owes b = list_or_empty (slice_get owes b)

  -- what alternative k of batch b owes
  abbrev pub owed_at : List (List (Owed E)) → ℕ → ℕ → Owed E
  owed_at owes b k = owed_or_nothing (slice_get (owed_by owes b) k)

  -- what whole batches owe
  abbrev pub batch_events : List (List (Owed E)) → ℕ → List E
  batch_events owes b = flat_map (λ (o : Owed E). o.events) (owed_by owes b)

  abbrev pub batch_cost : List (List (Owed E)) → ℕ → ℕ
  batch_cost owes b = sum_by (λ (o : Owed E). o.cost) (owed_by owes b)

  -- what the batches of a piece owe, in reading order
  abbrev pub given_events : List (List (Owed E)) → Piece E → List E
  given_events owes x = last_first (batch_events owes) x.published

  abbrev pub given_cost : List (List (Owed E)) → Piece E → ℕ
  given_cost owes x = sum_by (batch_cost owes) x.published

  -- what a piece's alternative owes, without what its batches owe
  abbrev pub share : List (List (Owed E)) → Piece E → Owed E
  share owes x = record {
    events = take (length (owed_at owes x.batch x.k).events - length (given_events owes x)) (owed_at owes x.batch x.k).events;
    cost = (owed_at owes x.batch x.k).cost - given_cost owes x;
  }

  -- the events of a piece: its report's where it is closed and not taken, its share's otherwise
  abbrev pub piece_events : List (List (Owed E)) → Piece E → Status E → List E
  piece_events owes x Open = (share owes x).events
  piece_events owes x (Closed report) = report.events
  piece_events owes x Taken = (share owes x).events

  -- the events of an alternative: what it owes where it is untried, those of its piece otherwise
  abbrev pub gives : List (List (Owed E)) → Alternative → Option (Piece E) → List E
  gives owes a None = (owed_at owes a.batch a.k).events
  gives owes a (Some x) = piece_events owes x x.status

module _ {N E : Type 0} (alternatives : N → List (Owed E)) where
  -- what the alternatives of each batch owe
  abbrev pub owes_of : PoolData N E → List (List (Owed E))
  owes_of p = map alternatives p.batches

  -- the number of alternatives of batch b
  abbrev pub length_of : PoolData N E → ℕ → ℕ
  length_of p b = length (owed_by (owes_of p) b)

  -- The order in which the pool is read, from the alternative of batch 0. Numbers rise on the way down, so no way is longer than the
  -- number of batches.
  abbrev pub walk : PoolData N E → List Alternative
  walk p = walk_deep (kids_of p.pieces) (length_of p) (length p.batches) 0

  -- the events of the whole pool, in walk order
  abbrev pub spread : PoolData N E → List E
  spread p = flat_map (λ (a : Alternative). gives (owes_of p) a (piece_of p.pieces a)) (walk p)
