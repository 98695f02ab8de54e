-- What a seat knows of its pool, which pools fit it, and which changes it may make.
use Rattle.std.specs.Prelude.{◌≡◌, ℕ, suc, ◌+◌, ◌<◌, ◌≤◌, List, [], ◌∷◌, false, not, ◌&&◌, ◌||◌, ◌==◌, Option, Some, None, if◌then◌else◌, option_map, slice_get}
use Rattle.ll_turn.specs.Numbers.{Numbers}
use Rattle.ll_laws.specs.declared.Event.{Event}
use Rattle.ll_laws.specs.Pool.{Owed, Piece, PoolData}
use Rattle.ll_laws.specs.Spread.{share, owes_of, owed_or_nothing}
use Rattle.ll_laws.specs.Sound.{Sound, is_open}
use Rattle.ll_laws.specs.Later.{Later}
use Rattle.ll_laws.specs.CoreEvents.{CoreEvent, Holds, NoOpen, Does, By, Lawful}
use Rattle.ll_core.specs.Laws.{IsTakenAt}
use Rattle.ll_pool.specs.declared.data.PoolProblem.{PoolProblem}
use Rattle.ll_pool.specs.declared.data.OpenPiece.{OpenPiece}
use Rattle.ll_pool.specs.declared.data.SeatData.{SeatData}

abbrev pub number_of : OpenPiece → ℕ
number_of piece = piece.number

-- The first of the pieces that is open under the worker, with its share. The pieces have the numbers from i on
abbrev pub open_from : List (List (Owed Event)) → ℕ → ℕ → List (Piece Event) → Option OpenPiece
open_from owes worker i [] = None
open_from owes worker i (x ∷ xs) = if is_open x.status && (x.worker == worker) then Some (record { number = i; owes = share owes x }) else
    open_from owes worker (suc i) xs

module _ {N : Type 0} where
  -- the worker's number, and those that it has to give
  abbrev pub numbers_of : SeatData N → Numbers
  numbers_of mine = record { own = mine.worker; from = mine.from; end = mine.end }

  -- the seat of worker 0 at this pool, which has the numbers of all other workers to give
  abbrev pub new_seat : PoolData N Event → SeatData N
  new_seat p = record { worker = 0; from = 1; end = p.workers; piece = None; seen = p; turns = 0; quit = false }

  -- A seat without the least number that it has to give, and a new seat with this number. The new one has no open piece and has taken
  -- no turn, and it has last seen what the other has
  abbrev pub parts : SeatData N → SeatData N × SeatData N
  parts mine = (
    record mine { from = mine.from + 1 },
    record { worker = mine.from; from = 0; end = 0; piece = None; seen = mine.seen; turns = 0; quit = false },
  )

module _ {N Of : Type 0} (of : N → Of) (alternatives : N → List (Owed Event)) where
  -- what a pool with this root is of, and what the root owes
  abbrev pub problem_of : N → PoolProblem Of
  problem_of root = record { of = of root; owes = owed_or_nothing (slice_get (alternatives root) 0) }

  -- what the first seat of a pool begins with: a pool without a root is of nothing
  abbrev pub first_seat : PoolData N Event → Option (PoolProblem Of) × SeatData N
  first_seat p = (option_map problem_of (slice_get p.batches 0), new_seat p)

module _ {N : Type 0} (alternatives : N → List (Owed Event)) where
  -- the worker's open piece is this one, with its share; or it has none
  abbrev pub HasPiece : PoolData N Event → ℕ → Option OpenPiece → Type 0
  HasPiece p worker None = NoOpen p worker
  HasPiece p worker (Some piece) = (x : Piece Event) × Holds p worker piece.number x × (piece.owes ≡ share (owes_of alternatives p) x)

  -- the open piece of a worker
  abbrev pub open_piece : PoolData N Event → ℕ → Option OpenPiece
  open_piece p worker = open_from (owes_of alternatives p) worker 0 p.pieces

  -- What a seat knows after it has changed the pool. It has quit where the change starved or stopped the pool
  abbrev pub after_change : PoolData N Event → SeatData N → PoolData N Event → SeatData N
  after_change before mine after = record {
    worker = mine.worker;
    from = mine.from;
    end = mine.end;
    piece = open_piece after mine.worker;
    seen = after;
    turns = mine.turns + 1;
    quit = mine.quit || ((after.starved && not before.starved) || (after.stopped && not before.stopped));
  }

module _ {N Of : Type 0} (of : N → Of) (alternatives : N → List (Owed Event)) where
  -- the change is one lawful event of the seat's worker
  abbrev pub ChangesLawfully : PoolData N Event → SeatData N → PoolData N Event → Type 0
  ChangesLawfully before mine after = (e : CoreEvent N Event) × By mine.worker e × Lawful of alternatives before e × Does alternatives before e after

  -- the pool and the seat belong to one problem
  pub record SeatFits (p : PoolData N Event) (problem : Option (PoolProblem Of)) (mine : SeatData N) : Type 0 where
    -- the pool is sound for the problem
    pub asked : PoolProblem Of
    pub is_asked : problem ≡ Some asked
    pub sound : Sound of alternatives p asked.of asked.owes
    -- and later than what the seat has last seen
    pub later : Later mine.seen p
    -- what the seat owes is what its worker's open piece owes
    pub piece : HasPiece alternatives p mine.worker mine.piece
    -- the number and those to give are numbers of workers, the ones to give above the own one
    pub few : p.workers ≤ 64
    pub own_below : mine.worker < p.workers
    pub range : mine.from < mine.end → (mine.worker < mine.from) × (mine.end ≤ p.workers)
    -- no worker whose number is still to be given has an open piece
    pub none_open : (worker : ℕ) → mine.from ≤ worker → worker < mine.end → NoOpen p worker
    -- worker 0 knows which pieces are taken
    pub taken : mine.worker ≡ 0 → (i : ℕ) → (IsTakenAt mine.seen i → IsTakenAt p i) × (IsTakenAt p i → IsTakenAt mine.seen i)
