-- The reports that were taken from a pool: what the front of its walk owes.
use Rattle.std.specs.Prelude.{◌≡◌, ℕ, ◌+◌, List, [], ◌∷◌, ◌++◌, true, not, flat_map, sum_by, Option, Some, None}
use Rattle.std.specs.List.{list_all}
use Rattle.ll_laws.specs.Pool.{Owed, Piece, PoolData, Alternative}
use Rattle.ll_laws.specs.Spread.{owed_at, share, owes_of, piece_of, gives, walk}
use Rattle.ll_laws.specs.Search.{cut_count}
use Rattle.ll_laws.specs.Sound.{Sound, is_taken}
use Rattle.ll_laws.specs.Later.{Later}
use Rattle.ll_laws.specs.CoreEvents.{CoreEvent, Starve, Stop, Ready, Events, opening, Does, Lawful, report_taken, reports_left}
use Rattle.ll_core.specs.Laws.{IsTakenAt}

-- the sum of a number of each
abbrev pub total : {X : Type 0} → (X → ℕ) → List X → ℕ
total f [] = 0
total f (x ∷ xs) = f x + total f xs

-- the same pieces are taken in both pools
abbrev pub SameTaken : {N E : Type 0} → PoolData N E → PoolData N E → Type 0
SameTaken p q = (i : ℕ) → (IsTakenAt p i → IsTakenAt q i) × (IsTakenAt q i → IsTakenAt p i)

-- both pools are starved or none is, and both are stopped or none is
abbrev pub SameMarks : {N E : Type 0} → PoolData N E → PoolData N E → Type 0
SameMarks p q = (q.starved ≡ p.starved) × (q.stopped ≡ p.stopped)

-- the event takes no report
abbrev pub TakesNone : {N E : Type 0} → CoreEvent N E → Type 0
TakesNone (Ready (Events report)) = ⊥
TakesNone _ = Unit {0}

-- the event neither starves nor stops the pool
abbrev pub MarksNone : {N E : Type 0} → CoreEvent N E → Type 0
MarksNone (Starve w) = ⊥
MarksNone Stop = ⊥
MarksNone _ = Unit {0}

module _ {E : Type 0} where
  -- what the share of an alternative costs
  abbrev pub share_cost : List (List (Owed E)) → Alternative → Option (Piece E) → ℕ
  share_cost owes a None = (owed_at owes a.batch a.k).cost
  share_cost owes a (Some x) = (share owes x).cost

module _ {N Of E : Type 0} (of : N → Of) (alternatives : N → List (Owed E)) where
  -- the events of an alternative's own share
  abbrev pub value : PoolData N E → Alternative → List E
  value p a = gives (owes_of alternatives p) a (piece_of p.pieces a)

  -- and its cost
  abbrev pub price : PoolData N E → Alternative → ℕ
  price p a = share_cost (owes_of alternatives p) a (piece_of p.pieces a)

  -- the events of reports, in order
  abbrev pub events_in : List (Owed E) → List E
  events_in reports = flat_map (λ (o : Owed E). o.events) reports

  -- what they cost together
  abbrev pub cost_in : List (Owed E) → ℕ
  cost_in reports = total (λ (o : Owed E). o.cost) reports

  -- these reports are what the taken front of the walk owes, and nothing behind it is taken
  pub record Given (p : PoolData N E) (reports : List (Owed E)) : Type 0 where
    pub front : List Alternative
    pub back : List Alternative
    pub order : walk alternatives p ≡ front ++ back
    pub before : list_all (is_taken p.pieces) front ≡ true
    pub others : list_all (λ a. not (is_taken p.pieces a)) back ≡ true
    pub events : events_in reports ≡ flat_map (value p) front
    pub costs : cut_count (cost_in reports) ≡ cut_count (total (price p) front)

  -- from a new pool nothing was taken
  abbrev pub NoneGiven : Type 0
  NoneGiven = (root : N) (workers : ℕ) → Given (opening root workers) []

  -- a lawful event adds the report that it takes, if it takes one
  abbrev pub GivenOn : Type 0
  GivenOn =
      (p q : PoolData N E) (problem : Of) (pair : Owed E) (reports : List (Owed E)) → Sound of alternatives p problem pair
      → Given p reports → (e : CoreEvent N E) → Lawful of alternatives p e → Does alternatives p e q → Given q (reports ++ report_taken e)

  -- Where a later pool has the same pieces taken, the reports that were taken are what the taken front of its walk owes, too: whatever
  -- others published meanwhile stands behind it.
  abbrev pub TakenStays : Type 0
  TakenStays =
      (p q : PoolData N E) (problem : Of) (pair : Owed E) (reports : List (Owed E)) → Sound of alternatives p problem pair
      → Sound of alternatives q problem pair
      → Later p q → SameTaken p q → Given p reports → Given q reports

  -- what was taken is the front of what the root owes
  abbrev pub GivenInFront : Type 0
  GivenInFront =
      (p : PoolData N E) (problem : Of) (pair : Owed E) (reports : List (Owed E)) → Sound of alternatives p problem pair → Given p reports
      → (rest : List E) × (pair.events ≡ events_in reports ++ rest)

  -- where nothing is untried or open, what was taken and then what is left, in walk order, is what the root owes
  abbrev pub GivenAndLeft : Type 0
  GivenAndLeft =
      (p : PoolData N E) (problem : Of) (pair : Owed E) (reports : List (Owed E)) → Sound of alternatives p problem pair → p.untried ≡ 0 → p.busy ≡ 0
      → Given p reports
      → (events_in (reports ++ reports_left alternatives p) ≡ pair.events)
      × (cut_count (sum_by (λ (o : Owed E). o.cost) (reports ++ reports_left alternatives p)) ≡ cut_count pair.cost)

  -- an event that takes no report, of whichever worker, leaves the taken pieces as they are
  abbrev pub LeavesTaken : Type 0
  LeavesTaken = (p q : PoolData N E) (e : CoreEvent N E) → Does alternatives p e q → TakesNone e → SameTaken p q

  -- an event that neither starves nor stops the pool leaves both marks as they are
  abbrev pub LeavesMarks : Type 0
  LeavesMarks = (p q : PoolData N E) (e : CoreEvent N E) → Does alternatives p e q → MarksNone e → SameMarks p q
