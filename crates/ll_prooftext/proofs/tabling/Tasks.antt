-- The task that is taken next.
use Rattle.std.proofs.Common.{◌≡◌, List, [], ◌∷◌, ◌++◌, All, subst, arith}
use Rattle.ll_list_laws.proofs.CallerLemmas.{All-last}
use Rattle.ll_bank.specs.Term.{Term}
use Rattle.ll_bank.specs.Nodes.{Nodes, HasTerm}
use Rattle.ll_prooftext.specs.declared.table.Table.{Table}
use Rattle.ll_prooftext.specs.declared.table.Task.{Task}
use Rattle.ll_prooftext.specs.Tables.{HasNumberAt, task_at, IsBuilding}

module _ (bank : Nodes) (whole : List Term) (t : Table) (tasks rest : List Task) (x : Task) (is : tasks ≡ rest ++ x ∷ []) (b : IsBuilding bank whole t tasks)
  where
    pub task_numbered : HasNumberAt t (task_at x)
    task_numbered = All-last (λ (y : Task). HasNumberAt t (task_at y)) rest x
        (subst (All (λ (y : Task). HasNumberAt t (task_at y))) is b.inside)

    pub task_inside : HasTerm bank (task_at x)
    task_inside = let low = task_numbered.inside in let w = b.table.classes.numbers.inside in omega arith
