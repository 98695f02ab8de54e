use Rattle.std.proofs.Common.{inl, inr}
use Rattle.ll_store.proofs.packed.Entry.lowered.Goals as goal
use Rattle.ll_store.proofs.packed.Entry.lowered.Goals.{else-var-via-then-var+else-level-lt-NOTHING, else-var-via-else-var}

pub returns-else-var-clause-made : goal.returns-else-var-clause-made
returns-else-var-clause-made c = _

pub returns-else-var-clause-refused : goal.returns-else-var-clause-refused
returns-else-var-clause-refused c =
    elim c.else-var.branch [
      | else-var-via-then-var+else-level-lt-NOTHING w ↦ inr w.if-level-lt-NOTHING.false
      | else-var-via-else-var w ↦ inl w.if-var.false
    ]
