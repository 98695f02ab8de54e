use Rattle.std.proofs.Common.{subst}
use Rattle.ll_bank.specs.Term.{Con, close}
use Rattle.ll_bank.specs.declared.Head.{Head}
use Rattle.ll_bank.proofs.CallerLemmas.{Extends-refl}
use Rattle.ll_unify.specs.Bindings.{HasCells}
use Rattle.ll_bank.specs.Environments.{values_in}
use Rattle.ll_store.specs.Tables.{table_of}
use Rattle.ll_bind.proofs.build.build_head.Goals as goal

pub returns-in-Name-clause-keeps : goal.returns-in-Name-clause-keeps
returns-in-Name-clause-keeps c = Extends-refl c.args.store.now.bank

pub returns-in-Eigen-clause-keeps : goal.returns-in-Eigen-clause-keeps
returns-in-Eigen-clause-keeps c = Extends-refl c.args.store.now.bank

pub value_of-requires-clause-vars : goal.value_of-requires-clause-vars
value_of-requires-clause-vars c =
    let s = c.args.store.now in
    subst (HasCells s.bank (table_of s.cells.cells)) (c.in-Some.ensures.is 0)
    (subst (λ (h : Head). HasCells s.bank (table_of s.cells.cells) (close (values_in c.args.environment) (Con h))) c.in-Bound.is c.requires.vars)
