-- The laws of core events, for any batches and events.
use Rattle.std.specs.Prelude.{◌≡◌, ◌⊎◌, ℕ, ◌+◌, List, [], ◌∷◌, ◌++◌, Some, length, slice_get, flat_map, sum_by}
use Rattle.ll_laws.specs.Pool.{Owed, Taken, Piece, PoolData, Alternative}
use Rattle.ll_laws.specs.Spread.{share, owed_at, owes_of, spread}
use Rattle.ll_laws.specs.Search.{cut_count}
use Rattle.ll_laws.specs.Sound.{Sound}
use Rattle.ll_laws.specs.Later.{Later}
use Rattle.ll_laws.specs.CoreEvents.{CoreEvent, Claim, Publish, Report, Work, Done, opening, new_piece, with_batch, Holds, NoOpen, Does, By, Lawful, RunsTo}
use Rattle.ll_laws.specs.CoreEvents.{claim_of, report_taken, reports_left}

-- no alternative stands in the list twice
abbrev pub AllDifferent : List Alternative → Type 0
AllDifferent xs = (i j : ℕ) (a : Alternative) → slice_get xs i ≡ Some a → slice_get xs j ≡ Some a → i ≡ j

-- the event makes no piece, publishes nothing and closes no piece
abbrev pub IsQuiet : {N E : Type 0} → CoreEvent N E → Type 0
IsQuiet (Claim w (Work i b k)) = ⊥
IsQuiet (Publish w n Done) = ⊥
IsQuiet (Report w report) = ⊥
IsQuiet _ = Unit {0}

-- piece i is taken
abbrev pub IsTakenAt : {N E : Type 0} → PoolData N E → ℕ → Type 0
IsTakenAt {E = E} p i = (x : Piece E) × (slice_get p.pieces i ≡ Some x) × (x.status ≡ Taken)

module _ {N Of E : Type 0} (of : N → Of) (alternatives : N → List (Owed E)) where
  -- ---- one event

  -- a lawful event keeps a pool sound, for the same problem and the same pair that the root owes
  abbrev pub KeepsSound : Type 0
  KeepsSound =
      (p q : PoolData N E) (e : CoreEvent N E) (problem : Of) (pair : Owed E) → Sound of alternatives p problem pair → Lawful of alternatives p e
      → Does alternatives p e q
      → Sound of alternatives q problem pair

  -- an event leads to a later pool
  abbrev pub LeadsOn : Type 0
  LeadsOn = (p q : PoolData N E) (e : CoreEvent N E) → Does alternatives p e q → Later p q

  -- an event of another worker, and a quiet one of any, leaves a worker's open piece open, with its share
  abbrev pub LeavesOpen : Type 0
  LeavesOpen =
      (p q : PoolData N E) (e : CoreEvent N E) (problem : Of) (pair : Owed E) (v w i : ℕ) (x : Piece E) → Sound of alternatives p problem pair
      → Does alternatives p e q → By v e → (v ≡ w → ⊥) ⊎ IsQuiet e
      → Holds p w i x → Holds q w i x × (share (owes_of alternatives q) x ≡ share (owes_of alternatives p) x)

  -- and a worker that has no open piece has none after it
  abbrev pub LeavesNone : Type 0
  LeavesNone = (p q : PoolData N E) (e : CoreEvent N E) (v w : ℕ) → Does alternatives p e q → By v e → (v ≡ w → ⊥) ⊎ IsQuiet e → NoOpen p w → NoOpen q w

  -- the piece that a claim makes is open under the worker, and owes all that its alternative owes
  abbrev pub ClaimGives : Type 0
  ClaimGives =
      (p q : PoolData N E) (w i b k : ℕ) → Does alternatives p (Claim w (Work i b k)) q
      → Holds q w i (new_piece w b k) × (share (owes_of alternatives q) (new_piece w b k) ≡ owed_at (owes_of alternatives p) b k)

  -- a publishing splits what the worker's piece owes: what it then owes, followed by what the batch owes, is what it owed, and the
  -- costs add up
  abbrev pub PublishSplits : Type 0
  PublishSplits =
      (p q : PoolData N E) (problem : Of) (pair : Owed E) (w i : ℕ) (x : Piece E) (n : N) → Sound of alternatives p problem pair
      → Lawful of alternatives p (Publish w n Done) → Does alternatives p (Publish w n Done) q → Holds p w i x
      → Holds q w i (with_batch (length p.batches) x)
      × ((share (owes_of alternatives q) (with_batch (length p.batches) x)).events ++ flat_map (λ (o : Owed E). o.events) (alternatives n)
      ≡ (share (owes_of alternatives p) x).events)
      × ((share (owes_of alternatives q) (with_batch (length p.batches) x)).cost + sum_by (λ (o : Owed E). o.cost) (alternatives n)
      ≡ (share (owes_of alternatives p) x).cost)

  -- after its report a worker has no open piece
  abbrev pub ReportCloses : Type 0
  ReportCloses = (p q : PoolData N E) (problem : Of) (pair : Owed E) (w : ℕ) (report : Owed E) → Sound of alternatives p problem pair
      → Does alternatives p (Report w report) q → NoOpen q w

  -- only worker 0 changes which pieces are taken
  abbrev pub TakesAlone : Type 0
  TakesAlone = (p q : PoolData N E) (e : CoreEvent N E) (v i : ℕ) → Does alternatives p e q → By v e → (v ≡ 0 → ⊥)
      → (IsTakenAt p i → IsTakenAt q i) × (IsTakenAt q i → IsTakenAt p i)

  -- the number of workers never changes
  abbrev pub KeepsWorkers : Type 0
  KeepsWorkers = (p q : PoolData N E) (e : CoreEvent N E) → Does alternatives p e q → q.workers ≡ p.workers

  -- ---- runs

  -- what a sound pool spreads is the events that its root owes
  abbrev pub SpreadsRoot : Type 0
  SpreadsRoot = (p : PoolData N E) (problem : Of) (pair : Owed E) → Sound of alternatives p problem pair → spread alternatives p ≡ pair.events

  -- every list of lawful events from a new pool leads to a sound pool, which spreads what the root owes
  abbrev pub RunsSound : Type 0
  RunsSound =
      (root : N) (workers : ℕ) (pair : Owed E) (es : List (CoreEvent N E)) (q : PoolData N E) → alternatives root ≡ pair ∷ []
      → RunsTo of alternatives (opening root workers) es q
      → Sound of alternatives q (of root) pair × (spread alternatives q ≡ pair.events)

  -- no alternative is claimed twice
  abbrev pub ClaimsOnce : Type 0
  ClaimsOnce =
      (root : N) (workers : ℕ) (pair : Owed E) (es : List (CoreEvent N E)) (q : PoolData N E) → alternatives root ≡ pair ∷ []
      → RunsTo of alternatives (opening root workers) es q
      → AllDifferent (flat_map claim_of es)

  -- Where nothing is untried or open, the reports that were taken and then those that are left, in walk order, are the events that the
  -- root owes, and their costs sum to its cost, cut at the greatest u64.
  abbrev pub ReportsOwed : Type 0
  ReportsOwed =
      (root : N) (workers : ℕ) (pair : Owed E) (es : List (CoreEvent N E)) (q : PoolData N E) → alternatives root ≡ pair ∷ []
      → RunsTo of alternatives (opening root workers) es q → q.untried ≡ 0 → q.busy ≡ 0
      → (flat_map (λ (o : Owed E). o.events) (flat_map report_taken es ++ reports_left alternatives q) ≡ pair.events)
      × (cut_count (sum_by (λ (o : Owed E). o.cost) (flat_map report_taken es ++ reports_left alternatives q)) ≡ cut_count pair.cost)

  -- ---- later pools

  abbrev pub LaterItself : Type 0
  LaterItself = (p : PoolData N E) → Later p p

  abbrev pub LaterOn : Type 0
  LaterOn = (p q r : PoolData N E) → Later p q → Later q r → Later p r

  -- after a sound pool in which nothing is untried or open nothing comes
  abbrev pub NothingComes : Type 0
  NothingComes =
      (p q : PoolData N E) (problem : Of) (pair : Owed E) → Sound of alternatives p problem pair → Sound of alternatives q problem pair → Later p q
      → p.untried ≡ 0 → p.busy ≡ 0
      → (q.batches ≡ p.batches) × (length q.pieces ≡ length p.pieces) × (q.untried ≡ 0) × (q.busy ≡ 0)
