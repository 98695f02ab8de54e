use Rattle.std.specs.Prelude.{slice_index_or}
use Rattle.std.proofs.Common.{◌≡◌, true, ap, refl, sym, subst, ◌∙◌}
use Rattle.ll_bank.specs.declared.At.{At}
use Rattle.ll_bank.specs.Term.{Term, close, applies_heads}
use Rattle.ll_bank.specs.Nodes.{term_tree}
use Rattle.ll_unify.specs.Bindings.{HasCells}
use Rattle.ll_unify.proofs.CallerLemmas.{table-extends}
use Rattle.ll_bank.specs.Environments.{values_in}
use Rattle.ll_store.specs.Tables.{table_of}
use Rattle.ll_bind.specs.Built.{ShowsSame}
use Rattle.ll_bind.proofs.Heads.{cells_more}
use Rattle.ll_bind.proofs.Building.{so_far-none, so_far-more, so_far-tree, so_far-all, at-place}
use Rattle.ll_bind.proofs.build.build_all.Goals as goal

pub loop-index-init : goal.loop-index-init
loop-index-init c =
    let s = c.args.store.now in
    record { so_far = so_far-none s.bank (table_of s.cells.cells) (values_in c.args.environment) c.args.patterns.now; cells = refl }

pub build-requires-clause-table : goal.build-requires-clause-table
build-requires-clause-table c =
    let s = c.args.store.now in let inv = c.loop-index.invariant in
    rw inv.cells (table-extends s.bank c.loop-index.store.bank (table_of s.cells.cells) c.requires.table inv.so_far.keeps)

pub build-requires-clause-heads : goal.build-requires-clause-heads
build-requires-clause-heads c =
    let s = c.args.store.now in let inv = c.loop-index.invariant in let d : At = record { 0 = 0 } in
    ap (λ (u : Term). applies_heads (close (values_in c.args.environment) u))
    (so_far-tree s.bank c.loop-index.store.bank (table_of s.cells.cells) (values_in c.args.environment) c.args.patterns.now c.loop-index.patterns
    c.loop-index.index d c.requires.patterns c.loop-index-test.true inv.so_far)
    ∙ at-place (λ u. applies_heads (close (values_in c.args.environment) u) ≡ true) s.bank c.args.patterns.now c.loop-index.index d c.requires.heads
    c.loop-index-test.true

pub build-requires-clause-vars : goal.build-requires-clause-vars
build-requires-clause-vars c =
    let s = c.args.store.now in let inv = c.loop-index.invariant in let d : At = record { 0 = 0 } in let env = values_in c.args.environment in
    let t = table_of s.cells.cells in
    rw inv.cells (subst (λ (u : Term). HasCells c.loop-index.store.bank t (close env u))
    (sym (so_far-tree s.bank c.loop-index.store.bank t env c.args.patterns.now c.loop-index.patterns c.loop-index.index d c.requires.patterns
    c.loop-index-test.true inv.so_far))
    (cells_more s.bank c.loop-index.store.bank t c.requires.table inv.so_far.keeps _
    (at-place (λ u. HasCells s.bank t (close env u)) s.bank c.args.patterns.now c.loop-index.index d c.requires.vars c.loop-index-test.true)))

pub loop-index-preserved : goal.loop-index-preserved
loop-index-preserved c =
    let s = c.args.store.now in let inv = c.loop-index.invariant in let d : At = record { 0 = 0 } in let env = values_in c.args.environment in
    let t = table_of s.cells.cells in let a = c.in_ok-patterns.field-0 in
    record {
      so_far = so_far-more s.bank c.loop-index.store.bank c.build.new.store.bank t env c.args.patterns.now c.loop-index.patterns c.loop-index.index d a
          c.requires.table c.loop-index-test.true inv.so_far c.in_ok-patterns.ensures.keeps
          (subst (λ (u : Term). ShowsSame c.build.new.store.bank t a.0 (close env u))
          (so_far-tree s.bank c.loop-index.store.bank t env c.args.patterns.now c.loop-index.patterns c.loop-index.index d c.requires.patterns
          c.loop-index-test.true inv.so_far)
          (subst (λ cs. ShowsSame c.build.new.store.bank (table_of cs.cells) a.0
          (close env (term_tree c.loop-index.store.bank (slice_index_or c.loop-index.patterns c.loop-index.index d).0))) inv.cells
          c.in_ok-patterns.ensures.same));
      cells = c.in_ok-patterns.ensures.cells ∙ inv.cells;
    }

pub returns-clause-built : goal.returns-clause-built
returns-clause-built c =
    let s = c.args.store.now in let inv = c.loop-index.invariant in
    so_far-all s.bank c.loop-index.store.bank (table_of s.cells.cells) (values_in c.args.environment) c.args.patterns.now c.loop-index.patterns
    c.loop-index.index c.loop-index-test.false inv.so_far
