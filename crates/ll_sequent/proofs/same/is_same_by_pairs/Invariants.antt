use Rattle.std.proofs.Common.{◌≡◌}
use Rattle.ll_bank.specs.Nodes.{term_tree}
use Rattle.ll_sequent.specs.Copied.{ArePairs, AreSame}
use Rattle.ll_sequent.proofs.same.is_same_by_pairs.Given as goal

abbrev pub invariant-loop : goal.invariant-loop
invariant-loop l = record {
  inside : ArePairs l.bank l.pairs.items;
  same : AreSame l.bank l.pairs.items → term_tree l.bank l.fn.left.0 ≡ term_tree l.bank l.fn.right.0;
}
