use Rattle.std.proofs.lemmas.Result.{IfOk-from_err}
use Rattle.std.proofs.Common.{ap, sym, ◌∙◌, Some}
use Rattle.ll_prooftext.proofs.tabling.Classing.{sign_gain, same_sign}
use Rattle.ll_prooftext.proofs.classes.number_of_sign.Goals as goal

pub returns-clause-gain : goal.returns-clause-gain
returns-clause-gain c = sign_gain c.args.signs.now.keys c.insert_full.new.self.keys c.args.sign c.in_ok-number.ensures.keys c.in_ok-number.ensures.unique

pub returns-clause-number : goal.returns-clause-number
returns-clause-number c = let s = c.in_ok-number.ensures.stored in s.1 ∙ ap Some (sym (same_sign c.args.sign s.0 s.2))

pub returns-in_err-number-clause-gain : goal.returns-in_err-number-clause-gain
returns-in_err-number-clause-gain c = IfOk-from_err c.from_residual.result _ c.from_residual.ensures.0

pub returns-in_err-number-clause-number : goal.returns-in_err-number-clause-number
returns-in_err-number-clause-number c = IfOk-from_err c.from_residual.result _ c.from_residual.ensures.0
