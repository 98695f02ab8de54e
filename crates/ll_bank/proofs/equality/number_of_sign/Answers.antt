use Rattle.std.proofs.lemmas.Result.{IfOk-from_err}
use Rattle.ll_bank.proofs.SignLemmas.{sign_grows, sign_number}
use Rattle.ll_bank.proofs.equality.number_of_sign.Goals as goal

pub returns-clause-grows : goal.returns-clause-grows
returns-clause-grows c = sign_grows c.args.signs.now.keys c.insert_full.new.self.keys c.args.sign c.requires.table c.requires.below c.in_ok-number.ensures.keys

pub returns-clause-number : goal.returns-clause-number
returns-clause-number c =
    let s = c.in_ok-number.ensures.stored in
    sign_number c.args.signs.now.keys c.insert_full.new.self.keys c.args.sign c.requires.table c.requires.below c.in_ok-number.ensures.keys
    c.in_ok-number.number s.0 s.1 s.2

pub returns-in_err-number-clause-grows : goal.returns-in_err-number-clause-grows
returns-in_err-number-clause-grows c = IfOk-from_err c.from_residual.result _ c.from_residual.ensures.0

pub returns-in_err-number-clause-number : goal.returns-in_err-number-clause-number
returns-in_err-number-clause-number c = IfOk-from_err c.from_residual.result _ c.from_residual.ensures.0
