use Rattle.std.proofs.Common.{◌≡◌, ◌<◌, ◌+◌, All, length}
use Rattle.ll_bank.specs.Nodes.{form_tree}
use Rattle.ll_laws.specs.Leaf.{ways}
use Rattle.ll_laws.proofs.CallerLemmas.{waiting_ways}
use Rattle.ll_trace.specs.Opening.{waiting_size}
use Rattle.ll_trace.proofs.leaf.count_leaves.Given as goal

abbrev pub invariant-loop-form : goal.invariant-loop-form
invariant-loop-form l = record {
  inside : All (λ f. f.0 < length l.forms.forms) l.waiting.items;
  so_far : l.count + waiting_ways l.forms l.waiting.items ≡ length (ways (form_tree l.forms l.fn.clause.0));
}

abbrev pub decreases-loop-form : goal.decreases-loop-form
decreases-loop-form l = waiting_size l.forms l.waiting.items
