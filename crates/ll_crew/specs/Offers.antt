-- What became of a batch that was to be published.
use Rattle.std.specs.Prelude.{ℕ, List, Option, IsSomeAnd}
use Rattle.std.specs.declared.sync.Arc.{Arc}
use Rattle.std.specs.declared.alloc.Global.{Global}
use Rattle.ll_laws.specs.declared.Event.{Event}
use Rattle.ll_laws.specs.Pool.{Owed}
use Rattle.ll_pool.specs.Turns.{IsRest}
use Rattle.ll_pool.specs.declared.data.OpenPiece.{OpenPiece}
use Rattle.ll_freeze.specs.Frozen.{FrozenSight}
use Rattle.ll_crew.specs.declared.sharing.Offered.{Offered}
use Rattle.ll_crew.specs.declared.sharing.Offered.TheVariants.{Taken, Back}

-- of the piece that there was the rest is left, once these alternatives at its end were given away
abbrev pub LeavesRest : List (Owed Event) → Option OpenPiece → Option OpenPiece → Type 0
LeavesRest given before after =
    IsSomeAnd before (λ (whole : OpenPiece). IsSomeAnd after (λ (rest : OpenPiece). IsRest given whole rest))

-- where the pool has it: of so many others that were woken
abbrev pub IfTaken : Offered → (ℕ → Type 0) → Type 0
IfTaken (Taken others) claim = claim others
IfTaken (Back batch) claim = Unit {0}

-- where it came back
abbrev pub IfBack : Offered → (Arc FrozenSight Global → Type 0) → Type 0
IfBack (Taken others) claim = Unit {0}
IfBack (Back batch) claim = claim batch
