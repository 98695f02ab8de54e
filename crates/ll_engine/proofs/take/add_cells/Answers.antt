use Rattle.std.proofs.lemmas.Result.{IfOk-from_err}
use Rattle.std.proofs.Common.{arith, ap, ◌∙◌, sym, refl, append_assoc, ◌++◌, ◌+◌, replicate, ◌∷◌, [], None}
use Rattle.std.proofs.lemmas.List.{append-nil}
use Rattle.ll_store.specs.declared.cells.Cell.{Cell}
use Rattle.ll_store.specs.Stored.{stored}
use Rattle.ll_freeze.proofs.CallerLemmas.{store_same, store_then}
use Rattle.ll_engine.proofs.inferences.TakeLemmas.{replicate_push}
use Rattle.ll_engine.proofs.take.add_cells.Goals as goal

pub loop-init : goal.loop-init
loop-init c = record { cells = sym (append-nil c.args.store.now.cells.cells); bank = refl; marks = store_same (stored c.args.store.now) }

pub loop-preserved : goal.loop-preserved
loop-preserved c =
    let cell : Cell = record { to = None; level = c.args.level } in let old = c.args.store.now.cells.cells in
    record {
      cells =
          c.in_ok-fresh.ensures.cells
          ∙ (ap (λ xs. xs ++ cell ∷ []) c.loop.invariant.cells
          ∙ (append_assoc old (replicate c.loop.counter cell) (cell ∷ [])
          ∙ ap (λ xs. old ++ xs) (sym (replicate_push cell c.loop.counter (c.loop.counter + 1) (omega arith)))));
      bank = c.fresh.ensures.bank ∙ c.loop.invariant.bank;
      marks = store_then (stored c.args.store.now) (stored c.loop.store) (stored c.fresh.new.self) c.loop.invariant.marks c.fresh.ensures.marks;
    }

pub returns-in_err-fresh-clause-bank : goal.returns-in_err-fresh-clause-bank
returns-in_err-fresh-clause-bank c = c.fresh.ensures.bank ∙ c.loop.invariant.bank

pub returns-in_err-fresh-clause-marks : goal.returns-in_err-fresh-clause-marks
returns-in_err-fresh-clause-marks c = store_then (stored c.args.store.now) (stored c.loop.store) (stored c.fresh.new.self) c.loop.invariant.marks
    c.fresh.ensures.marks

pub returns-in_err-fresh-clause-cells : goal.returns-in_err-fresh-clause-cells
returns-in_err-fresh-clause-cells c = IfOk-from_err c.from_residual.result _ c.from_residual.ensures.0
