use Rattle.std.proofs.Common.{◌≡◌}
use Rattle.std.specs.List.{flat_map}
use Rattle.ll_bank.specs.Nodes.{term_trees}
use Rattle.ll_prooftext.specs.Table.{completed}
use Rattle.ll_prooftext.specs.Tables.{IsBuilding, tasks_weight}
use Rattle.ll_prooftext.proofs.table.table_with.Given as goal

abbrev pub invariant-loop-task : goal.invariant-loop-task
invariant-loop-task l =
    IsBuilding l.bank (flat_map completed (term_trees l.bank l.fields)) l.table l.tasks.items × (l.table.classes ≡ l.fn.classes)

abbrev pub decreases-loop-task : goal.decreases-loop-task
decreases-loop-task l = tasks_weight l.bank l.tasks.items
