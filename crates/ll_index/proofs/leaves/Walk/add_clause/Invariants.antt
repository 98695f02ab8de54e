use Rattle.ll_bank.specs.Nodes.{form_tree}
use Rattle.ll_index.specs.Standing.{standing_leaves}
use Rattle.ll_index.specs.Listed.{numbered}
use Rattle.ll_index.specs.Walks.{waiting_size}
use Rattle.ll_index.proofs.WalkLemmas.{Walked}
use Rattle.ll_index.proofs.leaves.Walk.add_clause.Given as goal

abbrev pub invariant-loop-part : goal.invariant-loop-part
invariant-loop-part l = Walked l.bank l.label (numbered l.label 0 (standing_leaves (form_tree l.bank l.fn.clause.0))) l.fn.self l.self l.leaf

abbrev pub decreases-loop-part : goal.decreases-loop-part
decreases-loop-part l = waiting_size l.bank l.self.waiting.items
