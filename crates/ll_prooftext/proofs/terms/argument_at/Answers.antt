use Rattle.std.proofs.lemmas.Result.{IfOk-from_err}
use Rattle.ll_prooftext.proofs.spelling.Arguments.{no_argument, other_end, word_argument, not_ended}
use Rattle.ll_prooftext.proofs.terms.argument_at.Goals as goal

pub returns-in_ok-term_of-in-Some-2-clause-found : goal.returns-in_ok-term_of-in-Some-2-clause-found
returns-in_ok-term_of-in-Some-2-clause-found c =
    word_argument c.args.names.now c.args.bank.now c.args.bytes.now c.word_at.new.names c.word_at.new.bank c.term_of.new.bank c.in-Some-2.word
    c.in-Some-2.rest.now c.in_ok-term_of-in-Some-2.field-0.0 (rw c.in-Some-2.is at c.in_ok-word.ensures.moves)
    (rw c.in-Some-2.is at c.in_ok-word.ensures.found) (c.is_at_end.ensures.0 c.if-not-is_at_end.false) c.in_ok-term_of-in-Some-2.ensures.term
    c.in_ok-term_of-in-Some-2.ensures.keeps

pub returns-then-not-is_at_end-clause-found : goal.returns-then-not-is_at_end-clause-found
returns-then-not-is_at_end-clause-found c =
    other_end c.word_at.new.names c.word_at.new.bank c.args.bytes.now c.in-Some-2.word c.in-Some-2.rest.now c.in_default.ensures
    (rw c.in-Some-2.is at c.in_ok-word.ensures.found) (not_ended c.is_at_end.ensures c.if-not-is_at_end.true)

pub returns-in-None-clause-found : goal.returns-in-None-clause-found
returns-in-None-clause-found c = no_argument c.args.bytes.now c.in_default.ensures (rw c.in-None.is at c.in_ok-word.ensures.found)

pub returns-in_err-word-clause-found : goal.returns-in_err-word-clause-found
returns-in_err-word-clause-found c = IfOk-from_err c.from_residual.result _ c.from_residual.ensures.0

pub returns-in_err-term_of-in-Some-2-clause-found : goal.returns-in_err-term_of-in-Some-2-clause-found
returns-in_err-term_of-in-Some-2-clause-found c =
    IfOk-from_err c.from_residual-in_err-term_of-in-Some-2.result _ c.from_residual-in_err-term_of-in-Some-2.ensures.0

pub returns-in_err-word-clause-grows : goal.returns-in_err-word-clause-grows
returns-in_err-word-clause-grows c = c.word_at.ensures.grows

pub returns-in_err-term_of-in-Some-2-clause-grows : goal.returns-in_err-term_of-in-Some-2-clause-grows
returns-in_err-term_of-in-Some-2-clause-grows c = c.word_at.ensures.grows

pub returns-in_ok-term_of-in-Some-2-clause-grows : goal.returns-in_ok-term_of-in-Some-2-clause-grows
returns-in_ok-term_of-in-Some-2-clause-grows c = c.word_at.ensures.grows

pub returns-then-not-is_at_end-clause-grows : goal.returns-then-not-is_at_end-clause-grows
returns-then-not-is_at_end-clause-grows c = c.word_at.ensures.grows

pub returns-in-None-clause-grows : goal.returns-in-None-clause-grows
returns-in-None-clause-grows c = c.word_at.ensures.grows
