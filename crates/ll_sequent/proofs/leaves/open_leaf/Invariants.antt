use Rattle.ll_bank.specs.Nodes.{term_trees}
use Rattle.ll_sequent.proofs.WayLemmas.{IsOnWay}
use Rattle.ll_sequent.proofs.leaves.open_leaf.Given as goal

abbrev pub invariant-way : goal.invariant-way
invariant-way l = IsOnWay l.fn.bank l.fn.clause.0 l.fn.leaf (term_trees l.fn.bank l.values) l.bank l.form.0 l.leaf l.passed l.premises.items

abbrev pub decreases-way : goal.decreases-way
decreases-way l = l.form.0
