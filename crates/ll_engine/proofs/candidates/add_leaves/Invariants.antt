use Rattle.std.proofs.Common.{◌≡◌, ◌<◌, ◌++◌, All, length}
use Rattle.ll_bank.specs.Nodes.{form_tree}
use Rattle.ll_engine.specs.Leaves.{heads, head_tries, waiting_heads, waiting_size}
use Rattle.ll_engine.specs.Matches.{HasCellsIn, head_fits, all_found}
use Rattle.ll_engine.proofs.candidates.add_leaves.Given as goal

abbrev pub invariant-loop-form : goal.invariant-loop-form
invariant-loop-form l = record {
  inside : All (λ f. f.0 < length l.store.bank.forms) l.waiting.items;
  cells : All (HasCellsIn l.store) (waiting_heads l.store.bank l.waiting.items);
  so_far : all_found l.found ++ head_tries (head_fits l.store l.asked) l.label l.leaf (waiting_heads l.store.bank l.waiting.items)
      ≡ all_found l.initial.found ++ head_tries (head_fits l.store l.asked) l.label 0 (heads (form_tree l.store.bank l.fn.clause.0));
}

abbrev pub decreases-loop-form : goal.decreases-loop-form
decreases-loop-form l = waiting_size l.store.bank l.waiting.items
