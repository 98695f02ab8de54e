use Rattle.std.proofs.lemmas.Result.{IfOk-from_err}
use Rattle.ll_parser.proofs.raws.store.Goals as goal

pub returns-in_err-extend_from_slice-clause-span : goal.returns-in_err-extend_from_slice-clause-span
returns-in_err-extend_from_slice-clause-span c = IfOk-from_err c.from_residual.result _ c.from_residual.ensures.0

pub returns-in_err-extend_from_slice-clause-places : goal.returns-in_err-extend_from_slice-clause-places
returns-in_err-extend_from_slice-clause-places c = IfOk-from_err c.from_residual.result _ c.from_residual.ensures.0
