-- What a sound pool is like, and what it spreads.
use Rattle.std.proofs.Common.{◌≡◌, ℕ, zero, suc, ◌<◌, ◌≤◌, List, [], ◌∷◌, ◌++◌, length, map, refl, sym, ap, ◌∙◌, subst, ⊎_elim, arith, append-nil, Option}
use Rattle.std.proofs.Common.{Some, None}
use Rattle.std.specs.Prelude.{flat_map, slice_get}
use Rattle.std.proofs.lemmas.List.Folds.{flat_map-map}
use Rattle.ll_laws.specs.Pool.{Owed, Status, Open, Closed, Taken, Piece, PoolData, Alternative}
use Rattle.ll_laws.specs.Spread.{numbers, last_first, piece_of, kids_of, published_by, owed_by, owed_at, list_or_empty, owed_or_nothing, batch_events}
use Rattle.ll_laws.specs.Spread.{given_events, share, piece_events, gives, owes_of, length_of, spread}
use Rattle.ll_laws.specs.Sound.{Every, Each, Reported, Sound}
use Rattle.std.proofs.lemmas.Bool.{cases_lt}
use Rattle.ll_list_laws.proofs.CallerLemmas.{none_not_some, some_is}
use Rattle.ll_core.proofs.walks.Walks.{every_more, walk_gives}
use Rattle.ll_core.proofs.events.Pieces.{lookup}

module _ {X Y : Type 0} where
  pub get_map : (f : X → Y) (xs : List X) (i : ℕ) (y : Y) → slice_get (map f xs) i ≡ Some y → (x : X) × (slice_get xs i ≡ Some x) × (f x ≡ y)
  get_map f [] i y e = absurd (none_not_some y e)
  get_map f (x ∷ xs) zero y e = (x, refl, some_is (f x) y e)
  get_map f (x ∷ xs) (suc i) y e = get_map f xs i y e

  pub get_map_at : (f : X → Y) (xs : List X) (i : ℕ) (x : X) → slice_get xs i ≡ Some x → slice_get (map f xs) i ≡ Some (f x)
  get_map_at f [] i x e = absurd (none_not_some x e)
  get_map_at f (y ∷ xs) zero x e = ap (λ z. Some (f z)) (some_is y x e)
  get_map_at f (y ∷ xs) (suc i) x e = get_map_at f xs i x e

  pub get_map_past : (f : X → Y) (xs : List X) (i : ℕ) → length xs ≤ i → slice_get (map f xs) i ≡ None
  get_map_past f [] i h = refl
  get_map_past f (x ∷ xs) zero h = absurd (omega arith)
  get_map_past f (x ∷ xs) (suc i) h = get_map_past f xs i (omega arith)

numbers_suc : (from n : ℕ) → numbers (suc from) n ≡ map suc (numbers from n)
numbers_suc from zero = refl
numbers_suc from (suc n) = ap (λ l. suc from ∷ l) (numbers_suc (suc from) n)

-- a list read by its index
pub by_index : {X A : Type 0} (g : X → List A) (h : Option X → List A) → ((x : X) → h (Some x) ≡ g x) → (xs : List X)
    → flat_map g xs ≡ flat_map (λ k. h (slice_get xs k)) (numbers 0 (length xs))
by_index g h e [] = refl
by_index g h e (x ∷ xs) =
    (λ i. sym (e x) i ++ by_index g h e xs i)
    ∙ ap (λ l. h (Some x) ++ l) (sym (ap (flat_map (λ k. h (slice_get (x ∷ xs) k))) (numbers_suc 0 (length xs))
    ∙ flat_map-map (λ k. h (slice_get (x ∷ xs) k)) suc (numbers 0 (length xs))))

module _ {E : Type 0} where
  pub owed_past : {N : Type 0} (alternatives : N → List (Owed E)) (batches : List N) (b : ℕ) → length batches ≤ b → owed_by (map alternatives batches) b ≡ []
  owed_past alternatives batches b h = ap list_or_empty (get_map_past alternatives batches b h)

  pub owed_before : {N : Type 0} (alternatives : N → List (Owed E)) (batches : List N) (b k : ℕ) → k < length (owed_by (map alternatives batches) b)
      → b < length batches
  owed_before alternatives batches b k inside = ⊎_elim (λ (h : b < length batches). h)
      (λ (h : length batches ≤ b). let z : length (owed_by (map alternatives batches) b) ≡ 0 = ap length (owed_past alternatives batches b h) in
      absurd (omega arith)) (cases_lt b (length batches))

  pub batch_events_is : (owes : List (List (Owed E))) (b : ℕ)
      → batch_events owes b ≡ flat_map (λ k. (owed_at owes b k).events) (numbers 0 (length (owed_by owes b)))
  batch_events_is owes b = by_index (λ (o : Owed E). o.events) (λ (o : Option (Owed E)). (owed_or_nothing o).events) (λ x. refl) (owed_by owes b)

  -- a claimed alternative: what its piece gives, and then its batches, is what it owes
  status_gives : (owes : List (List (Owed E))) (x : Piece E) (s : Status E) → Reported (share owes x) s → piece_events owes x s ≡ (share owes x).events
  status_gives owes x Open r = refl
  status_gives owes x (Closed report) r = ap (λ (o : Owed E). o.events) r
  status_gives owes x Taken r = refl

  alternative_gives : (owes : List (List (Owed E))) (pieces : List (Piece E))
      → Each pieces (λ (x : Piece E). (owed_at owes x.batch x.k).events ≡ (share owes x).events ++ given_events owes x)
      → Each pieces (λ (x : Piece E). Reported (share owes x) x.status)
      → (a : Alternative) (o : Option (Piece E)) → piece_of pieces a ≡ o
      → gives owes a o ++ last_first (batch_events owes) (published_by o) ≡ (owed_at owes a.batch a.k).events
  alternative_gives owes pieces whole reports a None e = append-nil (owed_at owes a.batch a.k).events
  alternative_gives owes pieces whole reports a (Some x) e =
      let l = lookup pieces a x e in
      ap (λ es. es ++ given_events owes x) (status_gives owes x x.status (reports l.0 x l.1))
      ∙ (sym (whole l.0 x l.1) ∙ (λ i. (owed_at owes (l.2 i) (l.3 i)).events))

  kids_case : (pieces : List (Piece E)) (n : ℕ) → Each pieces (λ (x : Piece E). Every (λ c. (x.batch < c) × (c < n)) x.published)
      → (a : Alternative) (o : Option (Piece E)) → piece_of pieces a ≡ o → Every (λ c. (a.batch < c) × (c < n)) (published_by o)
  kids_case pieces n only a None e = tt
  kids_case pieces n only a (Some x) e = let l = lookup pieces a x e in subst (λ b. Every (λ c. (b < c) × (c < n)) x.published) l.2 (only l.0 x l.1)

  pub kids_within : (pieces : List (Piece E)) (n : ℕ) → Each pieces (λ (x : Piece E). Every (λ c. (x.batch < c) × (c < n)) x.published)
      → (b k : ℕ) → Every (λ c. (b < c) × (c < n)) (kids_of pieces b k)
  kids_within pieces n only b k = kids_case pieces n only (record { batch = b; k = k }) (piece_of pieces (record { batch = b; k = k })) refl

module _ {N E : Type 0} (alternatives : N → List (Owed E)) (p : PoolData N E) where
  pub ends : (b : ℕ) → length p.batches ≤ b → length_of alternatives p b ≡ 0
  ends b h = ap length (owed_past alternatives p.batches b h)

module _ {N Of E : Type 0} (of : N → Of) (alternatives : N → List (Owed E)) (p : PoolData N E) (problem : Of) (pair : Owed E) where
  -- what a sound pool spreads is what its root owes
  pub spread_is : Sound of alternatives p problem pair → spread alternatives p ≡ pair.events
  spread_is s =
      let owes : List (List (Owed E)) = owes_of alternatives p in
      let kids : ℕ → ℕ → List ℕ = kids_of p.pieces in
      walk_gives kids (length_of alternatives p) (length p.batches) (ends alternatives p)
      (λ b k inside. every_more (λ c. (b < c) × (c < length p.batches)) (λ c. b < c) (kids b k) (λ c h. h.0)
      (kids_within p.pieces (length p.batches) s.shape.only b k))
      (λ a. gives owes a (piece_of p.pieces a)) (λ b k. (owed_at owes b k).events) (batch_events owes) (batch_events_is owes)
      (λ b k inside. alternative_gives owes p.pieces s.events s.reports (record { batch = b; k = k }) (piece_of p.pieces (record { batch = b; k = k })) refl)
      (length p.batches) 0 (omega arith)
      ∙ (ap (λ o. flat_map (λ (o : Owed E). o.events) (list_or_empty o)) s.root ∙ append-nil pair.events)
