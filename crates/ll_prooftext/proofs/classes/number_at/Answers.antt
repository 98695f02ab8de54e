use Rattle.std.proofs.lemmas.Result.{IfOk-from_err}
use Rattle.std.proofs.Common.{arith, get_or}
use Rattle.ll_bank.specs.Nodes.{term_tree}
use Rattle.ll_prooftext.proofs.tabling.Classing.{number_more, number_stays}
use Rattle.ll_prooftext.proofs.classes.number_at.Goals as goal

pub loop-arg-preserved : goal.loop-arg-preserved
loop-arg-preserved c =
    let arg = (get_or c.in-App.args.now c.loop-arg.arg-index (record { 0 = 0 })).0 in
    let lower = c.in-App.ensures.shown.1 c.loop-arg.arg-index (record { 0 = 0 }) (omega arith) in
    let here = c.requires.numbered.each arg (omega (arith, lower, c.requires.next)) in
    number_more c.args.bank.now c.args.at.0 c.in-App.args.now c.loop-arg.arg-index c.args.signs.now.keys c.loop-arg.signs.keys
    c.number_of_sign-in-loop-arg.new.signs.keys c.loop-arg.number
    c.in_ok-number-in-App-2.number (get_or c.args.numbers.now arg 0) c.loop-arg.invariant c.in_ok-number-in-App-2.ensures.gain (record { 0 = 0 }) (omega arith)
    (number_stays c.args.signs.now.keys c.loop-arg.signs.keys c.loop-arg.invariant.gain (get_or c.args.numbers.now arg 0) (term_tree c.args.bank.now arg) here)
    c.in_ok-number-in-App-2.ensures.number

pub returns-in_err-number-in-App-clause-gain : goal.returns-in_err-number-in-App-clause-gain
returns-in_err-number-in-App-clause-gain c = IfOk-from_err c.from_residual.result _ c.from_residual.ensures.0

pub returns-in_err-number-in-App-clause-number : goal.returns-in_err-number-in-App-clause-number
returns-in_err-number-in-App-clause-number c = IfOk-from_err c.from_residual.result _ c.from_residual.ensures.0

pub returns-in_err-number-in-App-2-clause-gain : goal.returns-in_err-number-in-App-2-clause-gain
returns-in_err-number-in-App-2-clause-gain c = IfOk-from_err c.from_residual-in_err-number-in-App-2.result _ c.from_residual-in_err-number-in-App-2.ensures.0

pub returns-in_err-number-in-App-2-clause-number : goal.returns-in_err-number-in-App-2-clause-number
returns-in_err-number-in-App-2-clause-number c = IfOk-from_err c.from_residual-in_err-number-in-App-2.result _ c.from_residual-in_err-number-in-App-2.ensures.0

pub returns-after-loop-arg-clause-gain : goal.returns-after-loop-arg-clause-gain
returns-after-loop-arg-clause-gain c = c.loop-arg.invariant.gain
