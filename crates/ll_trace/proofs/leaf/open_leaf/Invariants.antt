use Rattle.ll_bank.specs.Nodes.{form_tree}
use Rattle.ll_trace.specs.Opening.{IsOnWay, way_size}
use Rattle.ll_trace.proofs.leaf.open_leaf.Given as goal

abbrev pub invariant-loop-parts : goal.invariant-loop-parts
invariant-loop-parts l = IsOnWay l.forms l.fn.clause.0 l.fn.leaf l.initial.goals.items l.form.0 l.leaf l.quantifiers l.goals.items l.parts.items

abbrev pub decreases-loop-parts : goal.decreases-loop-parts
decreases-loop-parts l = way_size (form_tree l.forms l.form.0)
