use Rattle.std.proofs.lemmas.Result.{IfOk-from_err}
use Rattle.ll_prooftext.proofs.spelling.Spellings.{no_word_at}
use Rattle.ll_prooftext.proofs.spelling.Found.{moves_word}
use Rattle.ll_prooftext.proofs.words.word_at.Goals as goal

pub returns-in-Some-clause-found : goal.returns-in-Some-clause-found
returns-in-Some-clause-found c = record {
  spelling = c.split_word.result.0.now;
  is = c.split_word.ensures.is;
  end = c.split_word.ensures.stops;
  word =
      rw c.in-Some.is at c.in_ok-word.ensures.found;
}

pub returns-in-Some-clause-moves : goal.returns-in-Some-clause-moves
returns-in-Some-clause-moves c = moves_word c.args.names.now c.args.bank.now c.args.bytes.now c.split_word.result.0.now c.split_word.result.1.now
    c.word_of.new.names c.word_of.new.bank c.split_word.ensures.is c.split_word.ensures.free c.split_word.ensures.stops
    (rw c.in-Some.is at c.in_ok-word.ensures.moves)

pub returns-in-None-clause-found : goal.returns-in-None-clause-found
returns-in-None-clause-found c = no_word_at c.args.bytes.now c.split_word.result.0.now c.split_word.result.1.now c.split_word.ensures.is
    c.split_word.ensures.free c.split_word.ensures.stops (rw c.in-None.is at c.in_ok-word.ensures.found)

pub returns-in_err-word-clause-found : goal.returns-in_err-word-clause-found
returns-in_err-word-clause-found c = IfOk-from_err c.from_residual.result _ c.from_residual.ensures.0

pub returns-in_err-word-clause-moves : goal.returns-in_err-word-clause-moves
returns-in_err-word-clause-moves c = IfOk-from_err c.from_residual.result _ c.from_residual.ensures.0

pub returns-in_err-word-clause-grows : goal.returns-in_err-word-clause-grows
returns-in_err-word-clause-grows c = c.word_of.ensures.grows

pub returns-in-Some-clause-grows : goal.returns-in-Some-clause-grows
returns-in-Some-clause-grows c = c.word_of.ensures.grows

pub returns-in-None-clause-grows : goal.returns-in-None-clause-grows
returns-in-None-clause-grows c = c.word_of.ensures.grows

pub returns-in-None-clause-moves : goal.returns-in-None-clause-moves
returns-in-None-clause-moves c = _
