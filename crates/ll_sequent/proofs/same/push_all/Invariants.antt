use Rattle.std.proofs.Common.{◌≡◌, ℕ, ◌<◌, get_or}
use Rattle.ll_bank.specs.declared.At.{At}
use Rattle.ll_bank.specs.Nodes.{Nodes, term_tree, AllInTerms}
use Rattle.ll_sequent.specs.Copied.{ArePairs, AreSame}
use Rattle.ll_sequent.proofs.same.push_all.Given as goal

abbrev pub invariant-loop-i : goal.invariant-loop-i
invariant-loop-i l = record {
  inside : (bank : Nodes) → AllInTerms bank l.args → AllInTerms bank l.others → ArePairs bank l.fn.pairs.items → ArePairs bank l.pairs.items;
  same : (bank : Nodes) → AreSame bank l.pairs.items → AreSame bank l.fn.pairs.items
      × ((j : ℕ) (d : At) → j < l.i → term_tree bank (get_or l.args j d).0 ≡ term_tree bank (get_or l.others j d).0);
}
