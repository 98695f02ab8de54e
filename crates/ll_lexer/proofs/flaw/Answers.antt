use Rattle.ll_lexer.specs.Reading.{past_64_bits}
use Rattle.ll_lexer.proofs.Numerals.{number-spelled, long-word}
use Rattle.ll_lexer.proofs.flaw.Goals as goal

pub value_of-requires : goal.value_of-requires
value_of-requires c = number-spelled c.args.word.now (rw c.in-Number.is at c.requires)

pub returns-in-None : goal.returns-in-None
returns-in-None c = rw c.in-Number.is (past_64_bits c.in-None.ensures)

pub returns-then-word-gt-LONGEST_NAME : goal.returns-then-word-gt-LONGEST_NAME
returns-then-word-gt-LONGEST_NAME c = long-word c.args.kind c.args.word.now c.in-Name.is c.if-word-gt-LONGEST_NAME.true
