use Rattle.std.proofs.Common.{sym}
use Rattle.ll_lexer.proofs.Longest.{word-shaped, word-longest, number-longest, none-empty}
use Rattle.ll_lexer.proofs.lexeme.longest_token.Goals as goal

pub word_kind-requires : goal.word_kind-requires
word_kind-requires c = rw (c.word_len-n.ensures.run, c.in-Some.ensures.cases.0)
    (word-shaped c.in-Some.first.now c.in-Some.rest.now (sym c.if-is_word_start.ensures))

pub returns-then-is_word_start : goal.returns-then-is_word_start
returns-then-is_word_start c = rw (c.word_len-n.ensures.run, c.in-Some.ensures.cases.0)
    (word-longest c.in-Some.first.now c.in-Some.rest.now c.word_kind.result (sym c.if-is_word_start.ensures)
    (rw (c.word_len-n.ensures.run, c.in-Some.ensures.cases.0) at c.word_kind.ensures))

pub returns-then-is_digit : goal.returns-then-is_digit
returns-then-is_digit c = rw (c.digits_len.ensures.run, c.in-Some.ensures.cases.0)
    (number-longest c.in-Some.first.now c.in-Some.rest.now (sym c.if-is_digit.ensures))

pub returns-in_default : goal.returns-in_default
returns-in_default c = none-empty c.args.bytes.now c.in_default.ensures.cases
