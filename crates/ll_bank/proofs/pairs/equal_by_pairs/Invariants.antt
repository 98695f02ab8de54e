use Rattle.std.proofs.Common.{◌≡◌, ◌↔◌}
use Rattle.ll_bank.specs.Nodes.{term_tree}
use Rattle.ll_bank.specs.Pairs.{AreInBanks, AreEqual}
use Rattle.ll_bank.proofs.pairs.equal_by_pairs.Given as goal

abbrev pub invariant-loop : goal.invariant-loop
invariant-loop l = record {
  inside : AreInBanks l.bank l.other l.pairs.items;
  equal : AreEqual l.bank l.other l.pairs.items ↔ (term_tree l.bank l.fn.at.0 ≡ term_tree l.other l.fn.there.0);
}
