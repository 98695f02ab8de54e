-- The core events: what each call does to a pool, with its answer, and when it is lawful.
use Rattle.std.specs.Prelude.{◌≡◌, ℕ, zero, suc, ◌+◌, ◌-◌, ◌<◌, ◌≤◌, List, [], ◌∷◌, ◌++◌, Bool, true, false, Option, Some, None, length, slice_get, flat_map}
use Rattle.std.specs.Prelude.{sum_by}
use Rattle.std.specs.List.{list_all}
use Rattle.ll_laws.specs.Pool.{Owed, Status, Open, Closed, Taken, Piece, PoolData, Alternative, place}
use Rattle.ll_laws.specs.Spread.{share, owes_of, walk, length_of, piece_of}
use Rattle.ll_laws.specs.Sound.{Each, HasPiece, report_of, is_taken}

-- ---- what a call is answered

-- the piece that was made, its batch and its number there; or how many pieces are open; or why there is nothing to claim
pub data ClaimAnswer : Type 0 where
  Work : ℕ → ℕ → ℕ → ClaimAnswer
  Idle : ℕ → ClaimAnswer
  Finished : ClaimAnswer
  Starved : ClaimAnswer
  Stopped : ClaimAnswer

-- it was published; or the pool, which has so many alternatives, has no place for it; or memory was wanting
pub data PublishAnswer : Type 0 where
  Done : PublishAnswer
  Full : ℕ → PublishAnswer
  NoMemory : PublishAnswer

-- the report of the next piece; or the next is the open piece with this number, or is not claimed; or there is no next
pub data ReadyAnswer (E : Type 0) : Type 0 where
  Events : Owed E → ReadyAnswer E
  NotYet : Option ℕ → ReadyAnswer E
  All : ReadyAnswer E

-- what a look shows
pub record Overview : Type 0 where
  pub untried : ℕ
  pub busy : ℕ
  pub starved : Bool
  pub stopped : Bool

-- a call of a worker, with what it was given and its answer
pub data CoreEvent (N E : Type 0) : Type 0 where
  Claim : ℕ → ClaimAnswer → CoreEvent N E
  Publish : ℕ → N → PublishAnswer → CoreEvent N E
  Report : ℕ → Owed E → CoreEvent N E
  Starve : ℕ → CoreEvent N E
  Stop : CoreEvent N E
  Look : Overview → CoreEvent N E
  Ready : ReadyAnswer E → CoreEvent N E

-- ---- what changes

-- xs with f done to the element at i
abbrev pub change : {X : Type 0} → ℕ → (X → X) → List X → List X
change i f [] = []
change zero f (x ∷ xs) = f x ∷ xs
change (suc i) f (x ∷ xs) = x ∷ change i f xs

module _ {E : Type 0} where
  -- alternative k of batch b, just claimed by worker w
  abbrev pub new_piece : ℕ → ℕ → ℕ → Piece E
  new_piece w b k = record { batch = b; k = k; worker = w; published = []; status = Open }

  -- the piece has published batch n too
  abbrev pub with_batch : ℕ → Piece E → Piece E
  with_batch n x = record x { published = x.published ++ n ∷ [] }

  abbrev pub with_status : Status E → Piece E → Piece E
  with_status s x = record x { status = s }

module _ {N E : Type 0} where
  -- a new pool
  abbrev pub opening : N → ℕ → PoolData N E
  opening root workers = record { batches = root ∷ []; pieces = []; workers = workers; busy = 0; total = 1; untried = 1; starved = false; stopped = false }

  -- worker w has claimed alternative k of batch b
  abbrev pub claimed : PoolData N E → ℕ → ℕ → ℕ → PoolData N E
  claimed p w b k = record p { pieces = p.pieces ++ new_piece w b k ∷ []; busy = p.busy + 1; untried = p.untried - 1 }

  -- piece i has published the batch n, which has so many alternatives
  abbrev pub published : PoolData N E → ℕ → N → ℕ → PoolData N E
  published p i n len = record p {
    batches = p.batches ++ n ∷ [];
    pieces = change i (with_batch (length p.batches)) p.pieces;
    total = p.total + len;
    untried =
        p.untried + len;
  }

  -- piece i is closed with the report
  abbrev pub reported : PoolData N E → ℕ → Owed E → PoolData N E
  reported p i report = record p { pieces = change i (with_status (Closed report)) p.pieces; busy = p.busy - 1 }

  -- the report of piece i was taken
  abbrev pub took : PoolData N E → ℕ → PoolData N E
  took p i = record p { pieces = change i (with_status Taken) p.pieces }

  abbrev pub starves : PoolData N E → PoolData N E
  starves p = record p { starved = true }

  abbrev pub stops : PoolData N E → PoolData N E
  stops p = record p { stopped = true }

  -- the pool is neither starved nor stopped
  abbrev pub GoesOn : PoolData N E → Type 0
  GoesOn p = (p.stopped ≡ false) × (p.starved ≡ false)

  -- piece i is open
  abbrev pub IsOpenAt : PoolData N E → ℕ → Type 0
  IsOpenAt p i = (x : Piece E) × (slice_get p.pieces i ≡ Some x) × (x.status ≡ Open)

  -- piece i, which is x, is open under worker w
  pub record Holds (p : PoolData N E) (w i : ℕ) (x : Piece E) : Type 0 where
    pub piece : slice_get p.pieces i ≡ Some x
    pub open_still : x.status ≡ Open
    pub worker : x.worker ≡ w

  -- worker w has no open piece
  abbrev pub NoOpen : PoolData N E → ℕ → Type 0
  NoOpen p w = (i : ℕ) (x : Piece E) → slice_get p.pieces i ≡ Some x → x.status ≡ Open → x.worker ≡ w → ⊥

-- ---- what each event does

module _ {N E : Type 0} (alternatives : N → List (Owed E)) where
  -- alternative k of batch b is the next one of its batch to be claimed
  pub record Untried (p : PoolData N E) (b k : ℕ) : Type 0 where
    pub some : 0 < p.untried
    pub inside : k < length_of alternatives p b
    pub free : (i : ℕ) (x : Piece E) → slice_get p.pieces i ≡ Some x → x.batch ≡ b → x.k ≡ k → ⊥
    pub next : (j : ℕ) → j < k → HasPiece p.pieces b j

  -- worker w claims: the answers are judged in the order stopped, starved, an untried alternative, an open piece
  abbrev pub Claims : PoolData N E → ℕ → ClaimAnswer → PoolData N E → Type 0
  Claims p w (Work i b k) q = GoesOn p × Untried p b k × (i ≡ length p.pieces) × (q ≡ claimed p w b k)
  Claims p w (Idle busy) q = GoesOn p × (p.untried ≡ 0) × (0 < p.busy) × (busy ≡ p.busy) × (q ≡ p)
  Claims p w Finished q = GoesOn p × (p.untried ≡ 0) × (p.busy ≡ 0) × (q ≡ p)
  Claims p w Starved q = (p.stopped ≡ false) × (p.starved ≡ true) × (q ≡ p)
  Claims p w Stopped q = (p.stopped ≡ true) × (q ≡ p)

  -- piece i publishes a batch: a pool has at most 4294967295 alternatives
  abbrev pub Publishes : PoolData N E → ℕ → N → PublishAnswer → PoolData N E → Type 0
  Publishes p i n Done q = (p.total + length (alternatives n) ≤ 4294967295) × (q ≡ published p i n (length (alternatives n)))
  Publishes p i n (Full total) q = (4294967295 < p.total + length (alternatives n)) × (total ≡ p.total) × (q ≡ p)
  Publishes p i n NoMemory q = (p.total + length (alternatives n) ≤ 4294967295) × (q ≡ p)

  abbrev pub Looks : PoolData N E → Overview → PoolData N E → Type 0
  Looks p seen q = (seen ≡ record { untried = p.untried; busy = p.busy; starved = p.starved; stopped = p.stopped }) × (q ≡ p)

  -- a is the first in walk order that is not taken
  pub record Next (p : PoolData N E) (a : Alternative) : Type 0 where
    pub front : List Alternative
    pub back : List Alternative
    pub order : walk alternatives p ≡ front ++ a ∷ back
    pub before : list_all (is_taken p.pieces) front ≡ true
    pub untaken : is_taken p.pieces a ≡ false

  -- piece i, which is x, is the first in walk order that is not taken, and it is closed with this report
  pub record MayTake (p : PoolData N E) (i : ℕ) (x : Piece E) (report : Owed E) : Type 0 where
    pub piece : slice_get p.pieces i ≡ Some x
    pub closed : x.status ≡ Closed report
    pub next : Next p (place x)

  -- the report of the next piece in walk order is taken, or there is none to be taken
  abbrev pub Readies : PoolData N E → ReadyAnswer E → PoolData N E → Type 0
  Readies p (Events report) q = (i : ℕ) × (x : Piece E) × MayTake p i x report × (q ≡ took p i)
  Readies p (NotYet (Some i)) q = (x : Piece E) × (slice_get p.pieces i ≡ Some x) × (x.status ≡ Open) × Next p (place x) × (q ≡ p)
  Readies p (NotYet None) q = (a : Alternative) × Next p a × (piece_of p.pieces a ≡ None) × (q ≡ p)
  Readies p All q = Each p.pieces (λ (x : Piece E). x.status ≡ Taken) × (p.untried ≡ 0) × (q ≡ p)

  -- the pool p goes over into the pool q by this event
  abbrev pub Does : PoolData N E → CoreEvent N E → PoolData N E → Type 0
  Does p (Claim w answer) q = Claims p w answer q
  Does p (Publish w n answer) q = (i : ℕ) × (x : Piece E) × Holds p w i x × Publishes p i n answer q
  Does p (Report w report) q = (i : ℕ) × (x : Piece E) × Holds p w i x × (q ≡ reported p i report)
  Does p (Starve w) q = q ≡ starves p
  Does p Stop q = q ≡ stops p
  Does p (Look seen) q = Looks p seen q
  Does p (Ready answer) q = Readies p answer q

-- ---- which events are lawful

-- worker w may make this event: taking is for worker 0 alone, and any worker may stop the pool or look at it
abbrev pub By : {N E : Type 0} → ℕ → CoreEvent N E → Type 0
By w (Claim v answer) = v ≡ w
By w (Publish v n answer) = v ≡ w
By w (Report v report) = v ≡ w
By w (Starve v) = v ≡ w
By w Stop = Unit {0}
By w (Look seen) = Unit {0}
By w (Ready answer) = w ≡ 0

module _ {N Of E : Type 0} (of : N → Of) (alternatives : N → List (Owed E)) where
  -- the batch has an alternative and is of what the root is of; the share of the piece x ends with what the batch owes, and costs at
  -- least as much
  pub record Splits (p : PoolData N E) (x : Piece E) (n : N) : Type 0 where
    pub some : 0 < length (alternatives n)
    pub alike : (root : N) → slice_get p.batches 0 ≡ Some root → of n ≡ of root
    pub rest : List E
    pub ends : (share (owes_of alternatives p) x).events ≡ rest ++ flat_map (λ (o : Owed E). o.events) (alternatives n)
    pub cost : sum_by (λ (o : Owed E). o.cost) (alternatives n) ≤ (share (owes_of alternatives p) x).cost

  -- A worker claims where it has no open piece. The share of its open piece ends with what it publishes, and a report tells the share.
  abbrev pub Lawful : PoolData N E → CoreEvent N E → Type 0
  Lawful p (Claim w answer) = (w < p.workers) × NoOpen p w
  Lawful p (Publish w n answer) = (i : ℕ) × (x : Piece E) × Holds p w i x × Splits p x n
  Lawful p (Report w report) = (i : ℕ) × (x : Piece E) × Holds p w i x × (report ≡ report_of (share (owes_of alternatives p) x))
  Lawful p (Starve w) = Unit {0}
  Lawful p Stop = Unit {0}
  Lawful p (Look seen) = Unit {0}
  Lawful p (Ready answer) = Unit {0}

  -- the lawful events lead from the pool p to the pool q, one after the other
  abbrev pub RunsTo : PoolData N E → List (CoreEvent N E) → PoolData N E → Type 0
  RunsTo p [] q = q ≡ p
  RunsTo p (e ∷ es) q = (m : PoolData N E) × Lawful p e × Does alternatives p e m × RunsTo m es q

-- ---- what a run has claimed and taken

module _ {N E : Type 0} where
  -- the alternative that this event claims
  abbrev pub claim_of : CoreEvent N E → List Alternative
  claim_of (Claim w (Work i b k)) = record { batch = b; k = k } ∷ []
  claim_of _ = []

  -- the report that this event takes
  abbrev pub report_taken : CoreEvent N E → List (Owed E)
  report_taken (Ready (Events report)) = report ∷ []
  report_taken _ = []

module _ {E : Type 0} where
  abbrev pub report_in : Status E → List (Owed E)
  report_in Open = []
  report_in (Closed report) = report ∷ []
  report_in Taken = []

  -- the report of a piece that is closed and not taken
  abbrev pub report_left : Option (Piece E) → List (Owed E)
  report_left None = []
  report_left (Some x) = report_in x.status

-- the reports that are still to be taken, in walk order
abbrev pub reports_left : {N E : Type 0} → (N → List (Owed E)) → PoolData N E → List (Owed E)
reports_left {E = E} alternatives p = flat_map (λ (a : Alternative). report_left {E = E} (piece_of p.pieces a)) (walk alternatives p)
