use Rattle.std.proofs.lemmas.Result.{IfOk-from_err}
use Rattle.std.proofs.Common.{refl}
use Rattle.ll_store.specs.Stored.{stored, state_of as store_of}
use Rattle.ll_freeze.specs.Parts.{parts_of}
use Rattle.ll_freeze.specs.Onward.{base_in}
use Rattle.ll_freeze.proofs.Freezing.{fits_with, thaws_with, same_store}
use Rattle.ll_freeze.proofs.frozen.Frozen.machine_over.Goals as goal

pub machine-requires : goal.machine-requires
machine-requires c =
    let i = c.self.inside in let st = store_of (stored c.args.store) in
    record {
      fits = fits_with i.rest st i.layers (same_store (base_in st) st i.rest i.layers i.untried.items i.starts c.args.self.now c.requires refl
          c.self.view_is) c.self.invariant.0.fits;
    }

pub returns : goal.returns
returns c =
    let i = c.self.inside in let st = store_of (stored c.args.store) in
    thaws_with i.rest st i.layers (parts_of c.in_ok-machine.machine) i.untried.items i.starts c.args.self.now
    (same_store (base_in st) st i.rest i.layers i.untried.items i.starts c.args.self.now c.requires refl c.self.view_is) c.self.view_is
    c.in_ok-machine.ensures

pub returns-in_err-machine : goal.returns-in_err-machine
returns-in_err-machine c = IfOk-from_err c.from_residual.result _ c.from_residual.ensures.0
