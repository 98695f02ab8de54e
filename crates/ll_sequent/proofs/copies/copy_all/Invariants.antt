use Rattle.std.proofs.Common.{◌≤◌, length, take}
use Rattle.ll_bank.specs.Nodes.{Extends}
use Rattle.ll_sequent.specs.Copied.{AreCopies, AreBelow}
use Rattle.ll_sequent.proofs.copies.copy_all.Given as goal

abbrev pub invariant-loop-i : goal.invariant-loop-i
invariant-loop-i l = record {
  copies : AreCopies l.terms l.bank l.copies.items;
  reach : AreBelow (length l.copies.items) (take l.i l.places);
  more : length l.fn.copies.items ≤ length l.copies.items;
  keeps : Extends l.fn.bank l.bank;
}
