use Rattle.std.specs.Prelude.{[], ◌∷◌}
use Rattle.ll_bank.specs.Term.{app, close}
use Rattle.ll_bank.specs.Nodes.{term_tree, term_trees}
use Rattle.ll_unify.specs.Solving.{wanted}
use Rattle.ll_bank.specs.Environments.{values_in}
use Rattle.ll_store.specs.Stored.{stored, KeepsMarks}
use Rattle.ll_store.specs.Tables.{table_of}
use Rattle.ll_bind.specs.Heads.{pending}
use Rattle.ll_bind.proofs.Heads.{IsMatching, patterns_weight}
use Rattle.ll_bind.proofs.head.unify_args.Given as goal

abbrev pub invariant-loop-next : goal.invariant-loop-next
invariant-loop-next l = record {
  matching : IsMatching l.fn.store.bank l.store.bank (table_of l.fn.store.cells.cells) (table_of l.store.cells.cells)
      (wanted l.fn.store.bank (table_of l.fn.store.cells.cells) (app l.fn.sign (term_trees l.fn.store.bank l.fn.args) ∷ [])
      (close (values_in l.environment) (term_tree l.fn.store.bank l.fn.head.0) ∷ []))
      l.fresh (values_in l.environment) (pending l.next l.equations.items);
  marks : KeepsMarks (stored l.fn.store) (stored l.store);
}

abbrev pub decreases-loop-next : goal.decreases-loop-next
decreases-loop-next l = patterns_weight l.store.bank (pending l.next l.equations.items)
