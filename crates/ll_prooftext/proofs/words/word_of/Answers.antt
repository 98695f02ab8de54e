use Rattle.std.proofs.lemmas.Result.{IfOk-from_err}
use Rattle.ll_prooftext.proofs.spelling.Kept.{grows_none}
use Rattle.std.proofs.Common.{arith, rules}
use Rattle.ll_bank.proofs.CallerLemmas.{Extends-refl}
use Rattle.ll_prooftext.proofs.spelling.Spellings.{no_variable, no_eigen}
use Rattle.ll_prooftext.proofs.spelling.Mentioning.{variable_mentions, eigen_mentions, number_mentions}
use Rattle.ll_prooftext.proofs.spelling.Found.{grows_name, moves_none, moves_name, name_is, eigen_is, variable_is}
use Rattle.ll_prooftext.proofs.words.word_of.Goals as goal

pub returns-in_ok-var-in-Some-wide_number_of-clause-found : goal.returns-in_ok-var-in-Some-wide_number_of-clause-found
returns-in_ok-var-in-Some-wide_number_of-clause-found c =
    variable_is c.args.names.now c.var.new.self c.args.bytes.now c.in-Some.rest.now c.in-Some-wide_number_of.number c.in_ok-var-in-Some-wide_number_of.field-0.0
    c.in-Some.ensures c.in-Some-wide_number_of.ensures (omega arith)
    c.in_ok-var-in-Some-wide_number_of.ensures.shows

pub returns-in_ok-var-in-Some-wide_number_of-clause-moves : goal.returns-in_ok-var-in-Some-wide_number_of-clause-moves
returns-in_ok-var-in-Some-wide_number_of-clause-moves c =
    moves_none c.args.names.now c.args.bank.now c.var.new.self c.args.bytes.now c.in_ok-var-in-Some-wide_number_of.ensures.keeps
    (variable_mentions c.args.bytes.now c.in-Some.rest.now c.in-Some-wide_number_of.number (omega arith) c.in-Some.ensures c.in-Some-wide_number_of.ensures)

pub returns-in-Some-integer_of-clause-moves : goal.returns-in-Some-integer_of-clause-moves
returns-in-Some-integer_of-clause-moves c =
    moves_none c.args.names.now c.args.bank.now c.int.new.self c.args.bytes.now c.in_ok-int.ensures.keeps
    (number_mentions c.args.bytes.now _ (search rules) c.in-Some-integer_of.ensures)

pub returns-in-None-clause-found : goal.returns-in-None-clause-found
returns-in-None-clause-found c = no_variable c.args.bytes.now c.in-Some.rest.now c.in-Some.ensures c.in-None.ensures

pub returns-in-Some-number_of-clause-found : goal.returns-in-Some-number_of-clause-found
returns-in-Some-number_of-clause-found c = eigen_is c.args.names.now c.args.bytes.now c.in-Some-behind.rest.now c.in-Some-number_of.number
    c.in-Some-behind.ensures c.in-Some-number_of.ensures (omega arith)

pub returns-in-Some-number_of-clause-moves : goal.returns-in-Some-number_of-clause-moves
returns-in-Some-number_of-clause-moves c =
    moves_none c.args.names.now c.args.bank.now c.args.bank.now c.args.bytes.now (Extends-refl c.args.bank.now)
    (eigen_mentions c.args.bytes.now c.in-Some-behind.rest.now c.in-Some-number_of.number (omega arith) c.in-Some-behind.ensures
    c.in-Some-number_of.ensures)

pub returns-in-None-number_of-clause-found : goal.returns-in-None-number_of-clause-found
returns-in-None-number_of-clause-found c = no_eigen c.args.bytes.now c.in-Some-behind.rest.now c.in-Some-behind.ensures c.in-None-number_of.ensures

pub returns-in_ok-add-in-Some-name_of-clause-found : goal.returns-in_ok-add-in-Some-name_of-clause-found
returns-in_ok-add-in-Some-name_of-clause-found c =
    name_is c.add.new.self c.in_ok-add-in-Some-name_of.field-0 c.in-Some-name_of.text.now c.args.bytes.now c.in_ok-add-in-Some-name_of.ensures.text
    c.in-Some-name_of.ensures.is c.in-Some-name_of.ensures.plain

pub returns-in_ok-add-in-Some-name_of-clause-moves : goal.returns-in_ok-add-in-Some-name_of-clause-moves
returns-in_ok-add-in-Some-name_of-clause-moves c =
    moves_name c.args.names.now c.add.new.self c.args.bank.now c.in-Some-name_of.text.now c.args.bytes.now c.in_ok-add-in-Some-name_of.ensures.added
    c.in-Some-name_of.ensures.is c.in-Some-name_of.ensures.plain

pub returns-in_ok-add-in-Some-name_of-clause-grows : goal.returns-in_ok-add-in-Some-name_of-clause-grows
returns-in_ok-add-in-Some-name_of-clause-grows c = grows_name c.args.names.now c.add.new.self c.in-Some-name_of.text.now
    c.in_ok-add-in-Some-name_of.ensures.added

pub returns-in_err-var-in-Some-wide_number_of-clause-found : goal.returns-in_err-var-in-Some-wide_number_of-clause-found
returns-in_err-var-in-Some-wide_number_of-clause-found c = IfOk-from_err c.from_residual.result _ c.from_residual.ensures.0

pub returns-in_err-var-in-Some-wide_number_of-clause-moves : goal.returns-in_err-var-in-Some-wide_number_of-clause-moves
returns-in_err-var-in-Some-wide_number_of-clause-moves c = IfOk-from_err c.from_residual.result _ c.from_residual.ensures.0

pub returns-in_err-int-clause-found : goal.returns-in_err-int-clause-found
returns-in_err-int-clause-found c = IfOk-from_err c.from_residual-in_err-int.result _ c.from_residual-in_err-int.ensures.0

pub returns-in_err-int-clause-moves : goal.returns-in_err-int-clause-moves
returns-in_err-int-clause-moves c = IfOk-from_err c.from_residual-in_err-int.result _ c.from_residual-in_err-int.ensures.0

pub returns-in_err-add-in-Some-name_of-clause-found : goal.returns-in_err-add-in-Some-name_of-clause-found
returns-in_err-add-in-Some-name_of-clause-found c =
    IfOk-from_err c.from_residual-in_err-add-in-Some-name_of.result _ c.from_residual-in_err-add-in-Some-name_of.ensures.0

pub returns-in_err-add-in-Some-name_of-clause-moves : goal.returns-in_err-add-in-Some-name_of-clause-moves
returns-in_err-add-in-Some-name_of-clause-moves c =
    IfOk-from_err c.from_residual-in_err-add-in-Some-name_of.result _ c.from_residual-in_err-add-in-Some-name_of.ensures.0

pub returns-in_err-var-in-Some-wide_number_of-clause-grows : goal.returns-in_err-var-in-Some-wide_number_of-clause-grows
returns-in_err-var-in-Some-wide_number_of-clause-grows c = grows_none c.args.names.now

pub returns-in_ok-var-in-Some-wide_number_of-clause-grows : goal.returns-in_ok-var-in-Some-wide_number_of-clause-grows
returns-in_ok-var-in-Some-wide_number_of-clause-grows c = grows_none c.args.names.now

pub returns-in-None-clause-grows : goal.returns-in-None-clause-grows
returns-in-None-clause-grows c = grows_none c.args.names.now

pub returns-in-Some-number_of-clause-grows : goal.returns-in-Some-number_of-clause-grows
returns-in-Some-number_of-clause-grows c = grows_none c.args.names.now

pub returns-in-None-number_of-clause-grows : goal.returns-in-None-number_of-clause-grows
returns-in-None-number_of-clause-grows c = grows_none c.args.names.now

pub returns-in_err-int-clause-grows : goal.returns-in_err-int-clause-grows
returns-in_err-int-clause-grows c = grows_none c.args.names.now

pub returns-in-Some-integer_of-clause-grows : goal.returns-in-Some-integer_of-clause-grows
returns-in-Some-integer_of-clause-grows c = grows_none c.args.names.now

pub returns-in-None-clause-moves : goal.returns-in-None-clause-moves
returns-in-None-clause-moves c = _

pub returns-in-None-number_of-clause-moves : goal.returns-in-None-number_of-clause-moves
returns-in-None-number_of-clause-moves c = _

pub returns-in-None-name_of-clause-moves : goal.returns-in-None-name_of-clause-moves
returns-in-None-name_of-clause-moves c = _

pub returns-in-None-name_of-clause-grows : goal.returns-in-None-name_of-clause-grows
returns-in-None-name_of-clause-grows c = grows_none c.args.names.now
