use Rattle.std.proofs.lemmas.Result.{IfOk-from_err}
use Rattle.std.proofs.Common.{refl, ◌∙◌, ◌+◌, arith}
use Rattle.ll_bank.proofs.CallerLemmas.{Extends-refl, Extends-trans}
use Rattle.ll_unify.proofs.BindingLaws.{table-extends, place-extends}
use Rattle.ll_unify.proofs.Copies.{copies-rebase, final-none, final-more}
use Rattle.ll_unify.proofs.read.read_cells.Goals as goal

pub loop-var-init : goal.loop-var-init
loop-var-init g c = record {
  keeps = Extends-refl c.args.bank.now;
  known = λ at copy k. let q = rw c.new-known.ensures.empty at k in cc;
  cells = rw c.new-cells.ensures.items (final-none c.args.bank.now (g.T.Bindings.table c.args.table.now));
}

pub value-to-requires : goal.value-to-requires
value-to-requires g c = let b = c.requires.table.bound in let n = c.requires.count in omega arith

pub cell_copy-requires-clause-table : goal.cell_copy-requires-clause-table
cell_copy-requires-clause-table g c = table-extends c.args.bank.now c.loop-var.bank (g.T.Bindings.table c.args.table.now) c.requires.table
    c.loop-var.invariant.keeps

pub cell_copy-requires-clause-to : goal.cell_copy-requires-clause-to
cell_copy-requires-clause-to g c = λ at e.
    place-extends c.args.bank.now c.loop-var.bank (g.T.Bindings.table c.args.table.now) at.0 c.requires.table c.loop-var.invariant.keeps
    (c.requires.places c.loop-var.var at (c.value-to.ensures ∙ e))

pub loop-var-preserved : goal.loop-var-preserved
loop-var-preserved g c =
    let first = c.args.bank.now in
    let t = g.T.Bindings.table c.args.table.now in
    record {
      keeps = Extends-trans c.loop-var.invariant.keeps c.in_ok-copy.ensures.keeps;
      known = copies-rebase c.loop-var.bank c.cell_copy.new.bank c.cell_copy.new.bank t _
          (table-extends first c.loop-var.bank t c.requires.table c.loop-var.invariant.keeps) c.in_ok-copy.ensures.keeps c.in_ok-copy.ensures.known;
      cells = rw c.in_ok-push.ensures.items
          (final-more first c.loop-var.bank c.cell_copy.new.bank t c.loop-var.var (c.loop-var.var + 1) c.loop-var.cells.items _ c.in_ok-copy.copy
          c.requires.table c.loop-var.invariant.keeps c.in_ok-copy.ensures.keeps refl c.value-to.ensures c.loop-var.invariant.cells c.in_ok-copy.ensures.copy);
    }

pub returns-in_err-copy-clause-keeps : goal.returns-in_err-copy-clause-keeps
returns-in_err-copy-clause-keeps g c = Extends-trans c.loop-var.invariant.keeps c.cell_copy.ensures.keeps

pub returns-in_err-push-clause-keeps : goal.returns-in_err-push-clause-keeps
returns-in_err-push-clause-keeps g c = Extends-trans c.loop-var.invariant.keeps c.cell_copy.ensures.keeps

pub returns-in_err-copy-clause-cells : goal.returns-in_err-copy-clause-cells
returns-in_err-copy-clause-cells g c = IfOk-from_err c.from_residual.result _ c.from_residual.ensures.0

pub returns-in_err-push-clause-cells : goal.returns-in_err-push-clause-cells
returns-in_err-push-clause-cells g c = IfOk-from_err c.from_residual-in_err-push.result _ c.from_residual-in_err-push.ensures.0
