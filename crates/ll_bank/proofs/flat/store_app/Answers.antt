use Rattle.std.proofs.lemmas.Result.{IfOk-from_err}
use Rattle.ll_bank.proofs.flat.store_app.Goals as goal

pub returns-in_err-span-clause-stored : goal.returns-in_err-span-clause-stored
returns-in_err-span-clause-stored c = IfOk-from_err c.from_residual.result _ c.from_residual.ensures.0

pub returns-in_err-span-clause-behind : goal.returns-in_err-span-clause-behind
returns-in_err-span-clause-behind c = IfOk-from_err c.from_residual.result _ c.from_residual.ensures.0

pub returns-in_err-extend_from_slice-clause-stored : goal.returns-in_err-extend_from_slice-clause-stored
returns-in_err-extend_from_slice-clause-stored c =
    IfOk-from_err c.from_residual-in_err-extend_from_slice.result _ c.from_residual-in_err-extend_from_slice.ensures.0

pub returns-in_err-extend_from_slice-clause-behind : goal.returns-in_err-extend_from_slice-clause-behind
returns-in_err-extend_from_slice-clause-behind c =
    IfOk-from_err c.from_residual-in_err-extend_from_slice.result _ c.from_residual-in_err-extend_from_slice.ensures.0

pub returns-in-Err-clause-stored : goal.returns-in-Err-clause-stored
returns-in-Err-clause-stored c = _

pub returns-in-Err-clause-behind : goal.returns-in-Err-clause-behind
returns-in-Err-clause-behind c = _

pub returns-clause-refused_terms : goal.returns-clause-refused_terms
returns-clause-refused_terms c = _

pub returns-clause-refused_arguments : goal.returns-clause-refused_arguments
returns-clause-refused_arguments c = _
