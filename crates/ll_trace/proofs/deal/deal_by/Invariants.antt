use Rattle.std.proofs.Common.{◌≡◌, [], ◌∷◌, length, drop, map}
use Rattle.std.specs.Prelude.{Some}
use Rattle.ll_bank.specs.Nodes.{Nodes}
use Rattle.ll_laws.specs.Line.{trees_of}
use Rattle.ll_laws.specs.Shows.{Tree}
use Rattle.ll_laws.specs.ShownLines.{line_of, HasLines}
use Rattle.ll_trace.proofs.Sharing.{DealLeft}
use Rattle.ll_trace.proofs.deal.deal_by.Given as goal

abbrev pub invariant-loop-node : goal.invariant-loop-node
invariant-loop-node l = record {
  dealt : (bank : Nodes) (x : Tree) → trees_of (map (line_of bank) l.fn.rules.items) ≡ Some (x ∷ [])
      → DealLeft (map (line_of bank) l.node-iterator.rest.items) x l.fn.labels.items (map (line_of bank) l.rules.items) l.pending.items
      (drop (length l.rules.items) l.outline.uses);
  left : drop (length l.rules.items) l.fn.rules.items ≡ l.node-iterator.rest.items;
  done : (bank : Nodes) → HasLines bank l.fn.rules.items → HasLines bank l.rules.items;
}
