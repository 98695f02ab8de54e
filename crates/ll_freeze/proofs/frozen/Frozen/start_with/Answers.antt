use Rattle.std.proofs.lemmas.Result.{IfOk-from_err}
use Rattle.std.proofs.Common.{sym, subst, ◌≤◌, arith}
use Rattle.std.specs.Arc.{arc_value}
use Rattle.ll_laws.specs.Problem.{ProblemTree}
use Rattle.ll_store.specs.Stored.{stored, state_of as store_of}
use Rattle.ll_store.specs.Layered.{LayersSight}
use Rattle.ll_freeze.specs.Parts.{Parts, parts_of}
use Rattle.ll_freeze.specs.Indexed.{IsIndexOf}
use Rattle.ll_freeze.specs.Fits.{Fits}
use Rattle.ll_freeze.proofs.Marks.{cells_within}
use Rattle.ll_freeze.proofs.Freezing.{starts}
use Rattle.ll_freeze.proofs.frozen.Frozen.start_with.Goals as goal

pub whole-requires : goal.whole-requires
whole-requires c =
    let s = c.parted-rest.result.1 in
    cells_within s.bank s.cells.cells (subst (λ (m : Parts). Fits m) (sym c.parted-rest.ensures) c.in_ok-machine.ensures.fits).bound

pub invariant_of-result : goal.invariant_of-result
invariant_of-result c =
    let made = starts c.args.problem.now (parts_of c.in_ok-machine.machine) c.parted-rest.result.0 (store_of (stored c.parted-rest.result.1))
    c.in_ok-layers.layers c.in_ok-untried.untried.items c.in_ok-machine.ensures c.parted-rest.ensures c.in_ok-layers.ensures
    c.in_ok-untried.ensures.items in (
      made.frozen,
      subst (λ (p : ProblemTree). IsIndexOf p (arc_value c.args.index)) (sym made.problem) c.requires.index,
      subst (λ (l : LayersSight). l.depth ≤ 64) (sym c.in_ok-layers.ensures) (omega arith),
    )

pub returns : goal.returns
returns c =
    (starts c.args.problem.now (parts_of c.in_ok-machine.machine) c.parted-rest.result.0 (store_of (stored c.parted-rest.result.1)) c.in_ok-layers.layers
    c.in_ok-untried.untried.items c.in_ok-machine.ensures c.parted-rest.ensures c.in_ok-layers.ensures c.in_ok-untried.ensures.items).sight

pub returns-in_err-untried : goal.returns-in_err-untried
returns-in_err-untried c = IfOk-from_err c.from_residual.result _ c.from_residual.ensures.0

pub returns-in_err-machine : goal.returns-in_err-machine
returns-in_err-machine c = IfOk-from_err c.from_residual-in_err-machine.result _ c.from_residual-in_err-machine.ensures.0

pub returns-in_err-layers : goal.returns-in_err-layers
returns-in_err-layers c = IfOk-from_err c.from_residual-in_err-layers.result _ c.from_residual-in_err-layers.ensures.0
