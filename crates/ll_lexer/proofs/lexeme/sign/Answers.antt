use Rattle.std.proofs.Common.{sym, arith}
use Rattle.std.proofs.lemmas.Bool.Decides.{nat_tests}
use Rattle.ll_lexer.proofs.Longest.{byte-none}
use Rattle.ll_lexer.proofs.Signs.{signs}
use Rattle.ll_lexer.proofs.lexeme.sign.Goals as goal

pub returns-in-46 : goal.returns-in-46
returns-in-46 c = rw c.in-46.is (signs.dot c.args.rest.now)

pub returns-in-44 : goal.returns-in-44
returns-in-44 c = rw c.in-44.is (signs.comma c.args.rest.now)

pub returns-in-38 : goal.returns-in-38
returns-in-38 c = rw c.in-38.is (signs.ampersand c.args.rest.now)

pub returns-in-59 : goal.returns-in-59
returns-in-59 c = rw c.in-59.is (signs.semicolon c.args.rest.now)

pub returns-in-40 : goal.returns-in-40
returns-in-40 c = rw c.in-40.is (signs.paren_left c.args.rest.now)

pub returns-in-41 : goal.returns-in-41
returns-in-41 c = rw c.in-41.is (signs.paren_right c.args.rest.now)

pub returns-in-123 : goal.returns-in-123
returns-in-123 c = rw c.in-123.is (signs.brace_left c.args.rest.now)

pub returns-in-125 : goal.returns-in-125
returns-in-125 c = rw c.in-125.is (signs.brace_right c.args.rest.now)

pub returns-in-92 : goal.returns-in-92
returns-in-92 c = rw c.in-92.is (signs.backslash c.args.rest.now)

pub returns-in-58 : goal.returns-in-58
returns-in-58 c = rw c.in-58.is (signs.cons_sign c.args.rest.now (sym c.if-starts_with.ensures.value))

pub returns-in-58-2 : goal.returns-in-58-2
returns-in-58-2 c = rw c.in-58.is (signs.colon_dash c.args.rest.now (sym c.if-starts_with-2.ensures.value))

pub returns-in-60 : goal.returns-in-60
returns-in-60 c = rw c.in-60.is (signs.left_arrow c.args.rest.now (sym c.if-starts_with-3.ensures.value))

pub returns-in-60-2 : goal.returns-in-60-2
returns-in-60-2 c = rw c.in-60.is (signs.less c.args.rest.now (sym c.if-starts_with-3.ensures.value))

pub returns-in-61 : goal.returns-in-61
returns-in-61 c = rw c.in-61.is (signs.right_arrow c.args.rest.now (sym c.if-starts_with-4.ensures.value))

pub returns-in-61-2 : goal.returns-in-61-2
returns-in-61-2 c = rw c.in-61.is (signs.most c.args.rest.now (sym c.if-starts_with-5.ensures.value))

pub returns-in-43 : goal.returns-in-43
returns-in-43 c = rw c.in-43.is (signs.plus c.args.rest.now)

pub returns-in-42 : goal.returns-in-42
returns-in-42 c = rw c.in-42.is (signs.star c.args.rest.now)

pub returns-in_default : goal.returns-in_default
returns-in_default c = rw c.in-58.is (signs.no_colon c.args.rest.now (sym c.if-starts_with.ensures.value) (sym c.if-starts_with-2.ensures.value))

pub returns-in_default-2 : goal.returns-in_default-2
returns-in_default-2 c = rw c.in-61.is (signs.no_equals c.args.rest.now (sym c.if-starts_with-4.ensures.value) (sym c.if-starts_with-5.ensures.value))

pub returns-in_default-3 : goal.returns-in_default-3
returns-in_default-3 c = byte-none c.args.first c.args.rest.now (grind (arith, nat_tests))
