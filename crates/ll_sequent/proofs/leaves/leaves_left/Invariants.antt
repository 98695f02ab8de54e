use Rattle.std.proofs.Common.{◌≡◌, ◌+◌, length}
use Rattle.ll_bank.specs.Nodes.{form_tree}
use Rattle.ll_laws.specs.Leaf.{ways}
use Rattle.ll_sequent.specs.Constants.{AllInForms}
use Rattle.ll_laws.proofs.CallerLemmas.{waiting_ways}
use Rattle.ll_sequent.specs.Opened.{waiting_size}
use Rattle.ll_sequent.proofs.leaves.leaves_left.Given as goal

abbrev pub invariant-walk : goal.invariant-walk
invariant-walk l = record {
  inside : AllInForms l.bank l.waiting.items;
  so_far : l.fn.leaf + waiting_ways l.bank l.waiting.items ≡ length (ways (form_tree l.bank l.fn.clause.0)) + l.left;
}

abbrev pub decreases-walk : goal.decreases-walk
decreases-walk l = waiting_size l.bank l.waiting.items
