-- What the calls of a shared pool do.
use Rattle.std.specs.Prelude.{◌≡◌, ◌≢◌, ◌⊎◌, ℕ, ◌+◌, ◌≤◌, List, [], ◌++◌, true, Option, Some, None, IsSomeAnd, slice_get, flat_map, sum_by}
use Rattle.std.specs.Arc.{arc_value}
use Rattle.std.specs.declared.result.Result.{Result}
use Rattle.std.specs.declared.result.Result.TheVariants.{Ok, Err}
use Rattle.atomic_table.specs.Seated.{TableId}
use Rattle.ll_turn.specs.Sight.{Sight}
use Rattle.ll_laws.specs.declared.Event.{Event}
use Rattle.ll_laws.specs.Pool.{Owed, PoolData}
use Rattle.ll_laws.specs.CoreEvents.{opening}
use Rattle.ll_core.specs.declared.answers.Claimed.{Claimed}
use Rattle.ll_core.specs.declared.answers.Claimed.TheVariants.{Work}
use Rattle.ll_core.specs.declared.answers.PublishFault.{PublishFault}
use Rattle.ll_pool.specs.Fits.{problem_of, new_seat, after_change, SeatFits}
use Rattle.ll_pool.specs.declared.data.PoolProblem.{PoolProblem}
use Rattle.ll_pool.specs.declared.data.OpenPiece.{OpenPiece}
use Rattle.ll_pool.specs.declared.data.SeatData.{SeatData}

-- what a contract sees of a shared pool: the name of its turn, and the number of workers that it was made with
pub record PoolSight : Type 0 where
  pub table : TableId
  pub workers : ℕ

-- what a contract sees of a seat: the pass that it is
abbrev pub SeatSight : Type 0 → Type 0 → Type 0
SeatSight N Of = Sight (PoolData N Event) (Option (PoolProblem Of)) (SeatData N)

-- the pool is starved or stopped
abbrev pub HasQuit : {N : Type 0} → PoolData N Event → Type 0
HasQuit p = (p.starved ≡ true) ⊎ (p.stopped ≡ true)

-- what is owed ends with what a batch with these alternatives owes, and costs at least as much
pub record EndsWith (owes : Owed Event) (batch : List (Owed Event)) : Type 0 where
  pub rest : List Event
  pub events : owes.events ≡ rest ++ flat_map (λ (o : Owed Event). o.events) batch
  pub cost : sum_by (λ (o : Owed Event). o.cost) batch ≤ owes.cost

-- the same piece owes what the batch does not owe: what it owes, followed by what the batch owes, is what it owed
pub record IsRest (batch : List (Owed Event)) (before after : OpenPiece) : Type 0 where
  pub number : after.number ≡ before.number
  pub events : after.owes.events ++ flat_map (λ (o : Owed Event). o.events) batch ≡ before.owes.events
  pub cost : after.owes.cost + sum_by (λ (o : Owed Event). o.cost) batch ≡ before.owes.cost

module _ {N : Type 0} where
  -- the number of the piece that was made
  abbrev pub number_made : Claimed N → Option ℕ
  number_made (Work piece batch k) = Some piece
  number_made _ = None

  -- with work the seat's open piece owes what its alternative owes, and with every other answer the seat has none
  abbrev pub OwesWork : (N → List (Owed Event)) → Claimed N → Option OpenPiece → Type 0
  OwesWork alternatives (Work piece batch k) after = (owes : Owed Event) × (slice_get (alternatives (arc_value batch)) k ≡ Some owes)
      × (after ≡ Some (record { number = piece; owes = owes }))
  OwesWork alternatives _ after = after ≡ None

  -- after it has published the batch the seat owes the rest, and after a fault what it owed
  abbrev pub OwesRest : List (Owed Event) → Result (Unit {0}) (PublishFault N) → Option OpenPiece → Option OpenPiece → Type 0
  OwesRest batch (Ok done) before after = IsSomeAnd before (λ whole. IsSomeAnd after (λ rest. IsRest batch whole rest))
  OwesRest batch (Err fault) before after = after ≡ before

module _ {N Of : Type 0} (of : N → Of) (alternatives : N → List (Owed Event)) where
  -- the seat of worker 0 at a new pool with this root
  abbrev pub IsFirstSeat : N → ℕ → TableId → SeatSight N Of → Type 0
  IsFirstSeat root workers table seat = seat ≡ record {
    table = table;
    problem = Some (problem_of of alternatives root);
    mine = new_seat (opening root workers);
    before = None;
    given = [];
  }

  -- In one turn the seat found a pool that fits it and changed it so. It left a pool that fits what it then knows
  pub record OneTurn (change : PoolData N Event → PoolData N Event → Type 0) (before after : SeatSight N Of) : Type 0 where
    pub found : PoolData N Event
    pub left : PoolData N Event
    pub fits : SeatFits of alternatives found before.problem before.mine
    pub changed : change found left
    pub seat : after ≡ record before { mine = after_change alternatives found before.mine left }
    pub fits_left : SeatFits of alternatives left after.problem after.mine

  -- where one pool fits two seats with different numbers, no piece is the open piece of both
  abbrev pub NoPieceTwice : Type 0
  NoPieceTwice =
      (p : PoolData N Event) (problem : Option (PoolProblem Of)) (one other : SeatData N) (a b : OpenPiece) → SeatFits of alternatives p problem one
      → SeatFits of alternatives p problem other → one.worker ≢ other.worker
      → one.piece ≡ Some a → other.piece ≡ Some b → a.number ≢ b.number
