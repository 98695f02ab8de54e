use Rattle.std.proofs.Common.{◌≡◌, ◌<◌, ◌+◌, All, length}
use Rattle.ll_bank.specs.Nodes.{form_tree}
use Rattle.ll_laws.specs.Leaf.{ways}
use Rattle.ll_laws.proofs.CallerLemmas.{waiting_ways}
use Rattle.ll_engine.specs.Leaves.{waiting_size}
use Rattle.ll_engine.proofs.candidates.count_all.Given as goal

abbrev pub invariant-loop-form : goal.invariant-loop-form
invariant-loop-form l = record {
  inside : All (λ f. f.0 < length l.bank.forms) l.waiting.items;
  so_far : l.count + waiting_ways l.bank l.waiting.items ≡ length (ways (form_tree l.bank l.fn.clause.0));
}

abbrev pub decreases-loop-form : goal.decreases-loop-form
decreases-loop-form l = waiting_size l.bank l.waiting.items
