use Rattle.std.proofs.lemmas.Result.{IfOk-from_err}
use Rattle.ll_prooftext.proofs.terms.Open.close_item.Goals as goal

pub returns-in_err-sign-clause-step : goal.returns-in_err-sign-clause-step
returns-in_err-sign-clause-step c = IfOk-from_err c.from_residual.result _ c.from_residual.ensures.0

pub returns-in_err-add_item-clause-step : goal.returns-in_err-add_item-clause-step
returns-in_err-add_item-clause-step c = IfOk-from_err c.from_residual-in_err-add_item.result _ c.from_residual-in_err-add_item.ensures.0

pub sign_at-requires : goal.sign_at-requires
sign_at-requires c = c.requires

pub returns-in_err-sign-clause-grows : goal.returns-in_err-sign-clause-grows
returns-in_err-sign-clause-grows c = c.sign_at.ensures.grows

pub returns-in_err-add_item-clause-grows : goal.returns-in_err-add_item-clause-grows
returns-in_err-add_item-clause-grows c = c.sign_at.ensures.grows

pub returns-clause-grows : goal.returns-clause-grows
returns-clause-grows c = c.sign_at.ensures.grows

pub returns-in_default-clause-grows : goal.returns-in_default-clause-grows
returns-in_default-clause-grows c = c.sign_at.ensures.grows
