-- What a held value ends as, after a write through the reference that it lends.
use Rattle.std.specs.Borrow.{Lends, MutBor, Fml, RattleType}
use Rattle.ll_turn.specs.contracts.held.Held.{the_row}

-- the held value ends as the last value behind the reference
abbrev pub LendsValue : (R : RattleType) → MutBor R.Denot → MutBor R.Denot → Fml
LendsValue R held lent = Lends (the_row R) R held lent (λ value. value)
