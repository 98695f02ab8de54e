use Rattle.std.proofs.Common.{sym}
use Rattle.ll_top.proofs.wording.WordsLemmas.{read_number}
use Rattle.ll_top.proofs.forms.words.number.Goals as goal

pub returns-in-Err : goal.returns-in-Err
returns-in-Err c = let e = read_number c.args.word.now c.parse.result (sym c.if-not-is_number.ensures) c.parse.ensures.value.0 in let f = c.in-Err.is in cc
