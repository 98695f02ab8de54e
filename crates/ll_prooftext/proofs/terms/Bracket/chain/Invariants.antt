use Rattle.std.proofs.Common.{◌≤◌, drop, length}
use Rattle.ll_bank.specs.Nodes.{ShowsTerm, Extends, term_tree}
use Rattle.ll_prooftext.specs.Brackets.{chain_term}
use Rattle.ll_prooftext.proofs.terms.Bracket.chain.Given as goal

abbrev pub invariant-loop-left : goal.invariant-loop-left
invariant-loop-left l = record {
  within : l.left ≤ length l.fn.self.items.items;
  shows : ShowsTerm l.bank l.term.0 (chain_term l.fn.bank (drop l.left l.fn.self.items.items) (term_tree l.fn.bank l.fn.last.0));
  keeps : Extends l.fn.bank l.bank;
}

abbrev pub decreases-loop-left : goal.decreases-loop-left
decreases-loop-left l = l.left
