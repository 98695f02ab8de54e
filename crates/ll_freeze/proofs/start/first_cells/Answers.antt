use Rattle.std.proofs.lemmas.Result.{IfOk-from_err}
use Rattle.std.proofs.Common.{arith, ap, ◌∙◌, sym, ◌++◌, ◌+◌, ◌∷◌, []}
use Rattle.ll_freeze.proofs.Starting.{cells_push}
use Rattle.ll_freeze.proofs.start.first_cells.Goals as goal

pub loop-preserved : goal.loop-preserved
loop-preserved c =
    record {
      bank = c.fresh.ensures.bank ∙ c.loop.invariant.bank;
      cells = c.in_ok-fresh.ensures.cells ∙ (ap (λ xs. xs ++ record { to = _; level = 0 } ∷ []) c.loop.invariant.cells
          ∙ sym (cells_push c.loop.counter (c.loop.counter + 1) (omega arith)));
    }

pub returns-in_err-fresh-clause-bank : goal.returns-in_err-fresh-clause-bank
returns-in_err-fresh-clause-bank c = IfOk-from_err c.from_residual.result _ c.from_residual.ensures.0

pub returns-in_err-fresh-clause-cells : goal.returns-in_err-fresh-clause-cells
returns-in_err-fresh-clause-cells c = IfOk-from_err c.from_residual.result _ c.from_residual.ensures.0
