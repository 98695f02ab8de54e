use Rattle.std.proofs.Common.{length, take, All}
use Rattle.ll_bank.specs.Nodes.{Extends}
use Rattle.ll_sequent.specs.Copied.{AreCopies, AreBelow, IsLineBelow}
use Rattle.ll_sequent.proofs.copies.copies_of.Given as goal

abbrev pub invariant-loop-i : goal.invariant-loop-i
invariant-loop-i l = record {
  copies : AreCopies l.terms l.bank l.copies.items;
  asked : AreBelow (length l.copies.items) l.asked;
  lines : All (IsLineBelow (length l.copies.items)) (take l.i l.rules);
  keeps : Extends l.fn.bank l.bank;
}
