-- What the tests keep of a seat.
use Rattle.std.specs.Prelude.{◌≡◌, [], Option, IsSome, IsSomeAnd}
use Rattle.ll_laws.specs.declared.Event.{Event}
use Rattle.ll_laws.specs.Pool.{Owed}
use Rattle.ll_pool.specs.Turns.{PoolSight, SeatSight}
use Rattle.ll_pool.specs.declared.data.OpenPiece.{OpenPiece}

-- a seat of this pool, which is of something
abbrev pub IsSeatOf : {N Of : Type 0} → PoolSight → SeatSight N Of → Type 0
IsSeatOf pool seat = (seat.table ≡ pool.table) × IsSome seat.problem

-- it is one still, of the same worker, with the same seats made from it
abbrev pub IsSameSeat : {N Of : Type 0} → PoolSight → SeatSight N Of → SeatSight N Of → Type 0
IsSameSeat pool before after = IsSeatOf pool after × (after.mine.worker ≡ before.mine.worker) × (after.given ≡ before.given)

abbrev pub nothing : Owed Event
nothing = record { events = []; cost = 0 }

-- there is an open piece, and it owes nothing
abbrev pub OwesNothing : Option OpenPiece → Type 0
OwesNothing piece = IsSomeAnd piece (λ (piece : OpenPiece). piece.owes ≡ nothing)
