use Rattle.ll_prooftext.proofs.tabling.Tasks.{task_numbered, task_inside}
use Rattle.std.proofs.lemmas.Result.{IfOk-from_err}
use Rattle.std.proofs.Common.{◌<◌, ◌++◌, length, get_or, ap, sym, subst, ◌∙◌, refl, rules}
use Rattle.std.specs.List.{flat_map}
use Rattle.ll_bank.specs.Nodes.{term_trees}
use Rattle.ll_prooftext.specs.declared.classes.Classes.{Classes}
use Rattle.ll_prooftext.specs.declared.table.Table.{Table}
use Rattle.ll_prooftext.specs.Table.{completed, rows_in}
use Rattle.ll_prooftext.specs.Tables.{IsBuilding, tasks_weight, entries}
use Rattle.ll_prooftext.proofs.tabling.TableSteps.{taken_on, table_done, table_starts, building_starts, argument_numbered}
use Rattle.ll_prooftext.proofs.table.table_with.Goals as goal

pub loop-task-init : goal.loop-task-init
loop-task-init c =
    let start : Table = record { classes = c.args.classes; numbered = c.in_ok-vec.field-0; rows = c.new.result } in (
      subst (λ ts. IsBuilding c.args.bank.now (flat_map completed (term_trees c.args.bank.now c.args.fields.now)) start ts)
          (sym (c.in_ok-push_entries.ensures ∙ ap (λ ts. ts ++ entries c.args.fields.now) c.new-tasks.ensures.items))
          (building_starts c.args.bank.now c.args.fields.now start
          (table_starts c.args.bank.now start c.requires.classes (c.in_ok-vec.ensures.items_if_clones_equal (search rules)) c.new.ensures.items)
          c.requires.numbered),
      refl,
    )

pub loop-task-preserved : goal.loop-task-preserved
loop-task-preserved c =
    let goes = taken_on c.args.bank.now (term_trees c.args.bank.now c.args.fields.now) c.loop-task.table c.pop.new.self.items c.in-Some.task c.take.new.self
    c.take.new.tasks.items
    (subst (IsBuilding c.args.bank.now (flat_map completed (term_trees c.args.bank.now c.args.fields.now)) c.loop-task.table) c.in-Some.ensures.items
    c.loop-task.invariant.0) c.in_ok-take.ensures in (
      goes.building,
      goes.same ∙ c.loop-task.invariant.1,
    )

pub loop-task-smaller : goal.loop-task-smaller
loop-task-smaller c =
    let goes = taken_on c.args.bank.now (term_trees c.args.bank.now c.args.fields.now) c.loop-task.table c.pop.new.self.items c.in-Some.task c.take.new.self
    c.take.new.tasks.items
    (subst (IsBuilding c.args.bank.now (flat_map completed (term_trees c.args.bank.now c.args.fields.now)) c.loop-task.table) c.in-Some.ensures.items
    c.loop-task.invariant.0) c.in_ok-take.ensures in
    subst (λ ts. tasks_weight c.args.bank.now c.take.new.tasks.items < tasks_weight c.args.bank.now ts) (sym c.in-Some.ensures.items) goes.lighter

pub returns-clause-table : goal.returns-clause-table
returns-clause-table c =
    table_done c.args.bank.now (term_trees c.args.bank.now c.args.fields.now) c.loop-task.table c.loop-task.tasks.items c.loop-task.invariant.0 (search rules)

pub returns-clause-reach : goal.returns-clause-reach
returns-clause-reach c =
    λ k d l. argument_numbered c.args.bank.now c.loop-task.table (rows_in c.loop-task.invariant.0.done) c.loop-task.invariant.0.table
    (get_or c.args.fields.now k d).0 (subst (λ (t : Classes). (get_or c.args.fields.now k d).0 < length t.numbers.items) (sym c.loop-task.invariant.1)
    (c.requires.numbered k d l))

pub returns-clause-same : goal.returns-clause-same
returns-clause-same c = c.loop-task.invariant.1

pub returns-in_err-vec-clause-table : goal.returns-in_err-vec-clause-table
returns-in_err-vec-clause-table c = IfOk-from_err c.from_residual.result _ c.from_residual.ensures.0

pub returns-in_err-vec-clause-same : goal.returns-in_err-vec-clause-same
returns-in_err-vec-clause-same c = IfOk-from_err c.from_residual.result _ c.from_residual.ensures.0

pub returns-in_err-vec-clause-reach : goal.returns-in_err-vec-clause-reach
returns-in_err-vec-clause-reach c = IfOk-from_err c.from_residual.result _ c.from_residual.ensures.0

pub returns-in_err-push_entries-clause-table : goal.returns-in_err-push_entries-clause-table
returns-in_err-push_entries-clause-table c = IfOk-from_err c.from_residual-in_err-push_entries.result _ c.from_residual-in_err-push_entries.ensures.0

pub returns-in_err-push_entries-clause-same : goal.returns-in_err-push_entries-clause-same
returns-in_err-push_entries-clause-same c = IfOk-from_err c.from_residual-in_err-push_entries.result _ c.from_residual-in_err-push_entries.ensures.0

pub returns-in_err-push_entries-clause-reach : goal.returns-in_err-push_entries-clause-reach
returns-in_err-push_entries-clause-reach c = IfOk-from_err c.from_residual-in_err-push_entries.result _ c.from_residual-in_err-push_entries.ensures.0

pub returns-in_err-take-clause-table : goal.returns-in_err-take-clause-table
returns-in_err-take-clause-table c = IfOk-from_err c.from_residual-in_err-take.result _ c.from_residual-in_err-take.ensures.0

pub returns-in_err-take-clause-same : goal.returns-in_err-take-clause-same
returns-in_err-take-clause-same c = IfOk-from_err c.from_residual-in_err-take.result _ c.from_residual-in_err-take.ensures.0

pub returns-in_err-take-clause-reach : goal.returns-in_err-take-clause-reach
returns-in_err-take-clause-reach c = IfOk-from_err c.from_residual-in_err-take.result _ c.from_residual-in_err-take.ensures.0

pub take-requires-clause-numbered : goal.take-requires-clause-numbered
take-requires-clause-numbered c =
    task_numbered c.args.bank.now (flat_map completed (term_trees c.args.bank.now c.args.fields.now)) c.loop-task.table c.loop-task.tasks.items
    c.pop.new.self.items c.in-Some.task c.in-Some.ensures.items c.loop-task.invariant.0

pub take-requires-clause-inside : goal.take-requires-clause-inside
take-requires-clause-inside c =
    task_inside c.args.bank.now (flat_map completed (term_trees c.args.bank.now c.args.fields.now)) c.loop-task.table c.loop-task.tasks.items
    c.pop.new.self.items c.in-Some.task c.in-Some.ensures.items c.loop-task.invariant.0
