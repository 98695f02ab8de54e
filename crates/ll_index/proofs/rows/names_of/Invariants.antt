use Rattle.std.proofs.Common.{take, All}
use Rattle.ll_index.specs.Rows.{IsNamedBelow}
use Rattle.ll_index.proofs.rows.names_of.Given as goal

abbrev pub invariant-loop-at : goal.invariant-loop-at
invariant-loop-at l = All (IsNamedBelow l.names) (take l.at l.keys)
