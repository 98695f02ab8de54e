use Rattle.std.proofs.Common.{◌-◌, ◌+◌, ◌≤◌, length}
use Rattle.ll_bank.specs.Nodes.{Extends}
use Rattle.ll_sequent.specs.Copied.{AreCopies}
use Rattle.ll_sequent.proofs.copies.copy_up_to.Given as goal

abbrev pub invariant-loop-last : goal.invariant-loop-last
invariant-loop-last l = record {
  copies : AreCopies l.terms l.bank l.copies.items;
  more : length l.fn.copies.items ≤ length l.copies.items;
  keeps : Extends l.fn.bank l.bank;
}

abbrev pub decreases-loop-last : goal.decreases-loop-last
decreases-loop-last l = l.last.0 + 1 - length l.copies.items
