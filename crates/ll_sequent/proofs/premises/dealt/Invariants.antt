use Rattle.std.proofs.Common.{map}
use Rattle.ll_laws.specs.ShownLines.{part_line}
use Rattle.ll_sequent.proofs.DealLemmas.{IsInDeal}
use Rattle.ll_sequent.proofs.premises.dealt.Given as goal

abbrev pub invariant-loop-i : goal.invariant-loop-i
invariant-loop-i l = IsInDeal (map part_line l.parts) l.goals l.free l.initial.left.items l.i l.left.items l.sequents.items
