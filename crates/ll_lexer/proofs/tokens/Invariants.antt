use Rattle.std.proofs.Common.{◌-◌, length}
use Rattle.ll_lexer.proofs.Turns.{IsReadTo}
use Rattle.ll_lexer.proofs.tokens.Given as goal

abbrev pub invariant-loop-i : goal.invariant-loop-i
invariant-loop-i l = IsReadTo l.text l.rows.items l.at l.i

abbrev pub decreases-loop-i : goal.decreases-loop-i
decreases-loop-i l = length l.text - l.i
