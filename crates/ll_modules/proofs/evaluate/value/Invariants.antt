use Rattle.std.proofs.Common.{◌≡◌, ◌+◌}
use Rattle.std.specs.Ordering.{nat_cmp}
use Rattle.std.specs.BTreeMap.{get}
use Rattle.ll_bank.specs.Nodes.{term_tree}
use Rattle.ll_laws.specs.Number.{operators_of, value_of}
use Rattle.ll_modules.specs.Values.{ended, todo_value, frames_work, todo_work, AreInside, AreNoted, AreKnown, IsTodoInside}
use Rattle.ll_modules.proofs.evaluate.value.Given as goal

abbrev pub invariant-loop-todo : goal.invariant-loop-todo
invariant-loop-todo l = record {
  same : ended (operators_of l.names) l.bank l.frames.items (todo_value (operators_of l.names) l.bank l.todo)
      ≡ value_of (operators_of l.names) (term_tree l.bank l.fn.at.0);
  inside : AreInside l.bank l.frames.items;
  next_inside : IsTodoInside l.bank l.todo;
  noted : AreNoted (operators_of l.names) l.bank l.frames.items (todo_value (operators_of l.names) l.bank l.todo);
  known : AreKnown (operators_of l.names) l.bank (get nat_cmp l.known);
}

abbrev pub decreases-loop-todo : goal.decreases-loop-todo
decreases-loop-todo l = frames_work l.bank l.frames.items + todo_work l.bank l.todo
