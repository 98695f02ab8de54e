use Rattle.std.proofs.lemmas.Result.{IfOk-from_err}
use Rattle.ll_store.specs.Stored.{stored, state_of as store_of}
use Rattle.ll_freeze.proofs.rest.Rest.machine.Goals as goal

pub image-requires : goal.image-requires
image-requires c = c.requires.fits.top

pub returns : goal.returns
returns c = c.in_ok-problem.ensures (store_of (stored c.args.store)) c.requires.fits

pub returns-in_err-problem : goal.returns-in_err-problem
returns-in_err-problem c = IfOk-from_err c.from_residual.result _ c.from_residual.ensures.0
