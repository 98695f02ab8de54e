use Rattle.std.proofs.Common.{◌≡◌, true, All, ap, sym, subst, ◌∙◌}
use Rattle.ll_bank.specs.Term.{Term, close, applies_heads}
use Rattle.ll_bank.specs.Nodes.{term_tree, term_trees}
use Rattle.ll_bank.proofs.CallerLemmas.{Extends-refl, length-before}
use Rattle.ll_unify.specs.Bindings.{HasCells}
use Rattle.ll_bank.specs.Environments.{values_in}
use Rattle.ll_store.specs.Tables.{table_of}
use Rattle.ll_bind.specs.Built.{AreBuilt}
use Rattle.ll_bind.proofs.Shapes.{args-cells, args-heads, built-none}
use Rattle.ll_bind.proofs.build.read_args.Goals as goal

pub returns-in_err-put_args-clause-keeps : goal.returns-in_err-put_args-clause-keeps
returns-in_err-put_args-clause-keeps c = Extends-refl c.args.store.now.bank

pub returns-then-environment-eq0-clause-keeps : goal.returns-then-environment-eq0-clause-keeps
returns-then-environment-eq0-clause-keeps c = Extends-refl c.args.store.now.bank

pub returns-then-environment-eq0-clause-built : goal.returns-then-environment-eq0-clause-built
returns-then-environment-eq0-clause-built c =
    let s = c.args.store.now in let t = table_of s.cells.cells in let env = values_in c.args.environment in
    let u = term_tree s.bank c.args.atom.0 in let trees = c.in_ok-put_args.ensures.trees in let ats = c.put_args.new.args.items in
    subst (λ us. AreBuilt s.bank t env us ats) trees
    (built-none s.bank t env (length-before c.args.environment.end c.args.environment.count ∙ c.if-environment-eq0.true) ats c.in_ok-put_args.ensures.inside
    (subst (All (λ v. HasCells s.bank t (close env v))) (sym trees) (args-cells s.bank t env u c.requires.begins c.requires.vars)))

pub build_all-requires-clause-heads : goal.build_all-requires-clause-heads
build_all-requires-clause-heads c =
    let s = c.args.store.now in let env = values_in c.args.environment in
    subst (All (λ (v : Term). applies_heads (close env v) ≡ true))
    (sym (ap (term_trees s.bank) c.deref_mut.ensures.value ∙ c.in_ok-put_args.ensures.trees))
    (args-heads env (term_tree s.bank c.args.atom.0) c.requires.begins c.requires.heads)

pub build_all-requires-clause-vars : goal.build_all-requires-clause-vars
build_all-requires-clause-vars c =
    let s = c.args.store.now in let t = table_of s.cells.cells in let env = values_in c.args.environment in
    subst (All (λ (v : Term). HasCells s.bank t (close env v)))
    (sym (ap (term_trees s.bank) c.deref_mut.ensures.value ∙ c.in_ok-put_args.ensures.trees))
    (args-cells s.bank t env (term_tree s.bank c.args.atom.0) c.requires.begins c.requires.vars)
