use Rattle.std.proofs.lemmas.Result.{IfOk-from_err}
use Rattle.ll_sequent.proofs.copies.copies_at.Goals as goal

pub returns-in_err-put_copies : goal.returns-in_err-put_copies
returns-in_err-put_copies c = IfOk-from_err c.from_residual.result _ c.from_residual.ensures.0
