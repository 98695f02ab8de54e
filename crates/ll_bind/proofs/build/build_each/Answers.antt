use Rattle.std.specs.Prelude.{slice_index_or}
use Rattle.std.proofs.Common.{◌≡◌, true, ap, refl, sym, subst, ◌∙◌}
use Rattle.ll_bank.specs.declared.At.{At}
use Rattle.ll_bank.specs.Term.{Term, close}
use Rattle.ll_bank.specs.Nodes.{term_tree}
use Rattle.ll_unify.specs.Bindings.{HasCells}
use Rattle.ll_unify.proofs.CallerLemmas.{table-extends}
use Rattle.ll_bank.specs.Environments.{values_in}
use Rattle.ll_store.specs.Tables.{table_of}
use Rattle.ll_bind.specs.Built.{ShowsSame, is_bare}
use Rattle.ll_bind.proofs.Heads.{cells_more}
use Rattle.ll_bind.proofs.Building.{so_far-none, so_far-more, so_far-tree, so_far-all, at-place}
use Rattle.ll_bind.proofs.build.build_each.Goals as goal

pub loop-index-init : goal.loop-index-init
loop-index-init c =
    let s = c.args.store.now in
    record { so_far = so_far-none s.bank (table_of s.cells.cells) (values_in c.args.environment) c.args.patterns.now; cells = refl }

pub build_bare-requires-clause-table : goal.build_bare-requires-clause-table
build_bare-requires-clause-table c =
    let s = c.args.store.now in let inv = c.loop-index.invariant in
    rw inv.cells (table-extends s.bank c.loop-index.store.bank (table_of s.cells.cells) c.requires.table inv.so_far.keeps)

pub build_bare-requires-clause-bare : goal.build_bare-requires-clause-bare
build_bare-requires-clause-bare c =
    let s = c.args.store.now in let inv = c.loop-index.invariant in let d : At = record { 0 = 0 } in
    ap (is_bare c.args.environment.count)
    (so_far-tree s.bank c.loop-index.store.bank (table_of s.cells.cells) (values_in c.args.environment) c.args.patterns.now c.loop-index.patterns
    c.loop-index.index d c.requires.patterns c.loop-index-test.true inv.so_far)
    ∙ at-place (λ u. is_bare c.args.environment.count u ≡ true) s.bank c.args.patterns.now c.loop-index.index d c.requires.bare
    c.loop-index-test.true

pub build_bare-requires-clause-vars : goal.build_bare-requires-clause-vars
build_bare-requires-clause-vars c =
    let s = c.args.store.now in let inv = c.loop-index.invariant in let d : At = record { 0 = 0 } in let env = values_in c.args.environment in
    let t = table_of s.cells.cells in
    rw inv.cells (subst (λ (u : Term). HasCells c.loop-index.store.bank t (close env u))
    (sym (so_far-tree s.bank c.loop-index.store.bank t env c.args.patterns.now c.loop-index.patterns c.loop-index.index d c.requires.patterns
    c.loop-index-test.true inv.so_far))
    (cells_more s.bank c.loop-index.store.bank t c.requires.table inv.so_far.keeps _
    (at-place (λ u. HasCells s.bank t (close env u)) s.bank c.args.patterns.now c.loop-index.index d c.requires.vars c.loop-index-test.true)))

pub loop-index-preserved : goal.loop-index-preserved
loop-index-preserved c =
    let s = c.args.store.now in let inv = c.loop-index.invariant in let d : At = record { 0 = 0 } in let env = values_in c.args.environment in
    let t = table_of s.cells.cells in let a = c.in_ok-patterns.field-0 in
    record {
      so_far = so_far-more s.bank c.loop-index.store.bank c.build_bare.new.store.bank t env c.args.patterns.now c.loop-index.patterns c.loop-index.index d a
          c.requires.table c.loop-index-test.true inv.so_far c.in_ok-patterns.ensures.keeps
          (subst (λ (u : Term). ShowsSame c.build_bare.new.store.bank t a.0 (close env u))
          (so_far-tree s.bank c.loop-index.store.bank t env c.args.patterns.now c.loop-index.patterns c.loop-index.index d c.requires.patterns
          c.loop-index-test.true inv.so_far)
          (subst (λ cs. ShowsSame c.build_bare.new.store.bank (table_of cs.cells) a.0
          (close env (term_tree c.loop-index.store.bank (slice_index_or c.loop-index.patterns c.loop-index.index d).0))) inv.cells
          c.in_ok-patterns.ensures.same));
      cells = c.in_ok-patterns.ensures.cells ∙ inv.cells;
    }

pub returns-clause-built : goal.returns-clause-built
returns-clause-built c =
    let s = c.args.store.now in let inv = c.loop-index.invariant in
    so_far-all s.bank c.loop-index.store.bank (table_of s.cells.cells) (values_in c.args.environment) c.args.patterns.now c.loop-index.patterns
    c.loop-index.index c.loop-index-test.false inv.so_far
