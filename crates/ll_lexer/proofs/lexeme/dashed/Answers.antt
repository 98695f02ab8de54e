use Rattle.std.proofs.Common.{sym, refl, arith}
use Rattle.ll_lexer.proofs.Signs.{signs}
use Rattle.ll_lexer.proofs.Longest.{dashed-longest, minus-longest}
use Rattle.ll_lexer.proofs.lexeme.dashed.Goals as goal

pub returns-then-starts_with : goal.returns-then-starts_with
returns-then-starts_with c = signs.lolli c.args.rest.now (sym c.if-starts_with.ensures.value)

pub returns-then-starts_with-2 : goal.returns-then-starts_with-2
returns-then-starts_with-2 c = signs.load_arrow c.args.rest.now (sym c.if-starts_with-2.ensures.value)

pub returns-then-digits-gt0 : goal.returns-then-digits-gt0
returns-then-digits-gt0 c = dashed-longest c.args.rest.now c.digits_len-digits.result c.digits_len-digits.ensures.run c.if-digits-gt0.true

pub returns-else-digits-gt0 : goal.returns-else-digits-gt0
returns-else-digits-gt0 c = minus-longest c.args.rest.now (let r = c.digits_len-digits.ensures.run in
    omega arith) (rw (← c.if-starts_with.ensures.value, ← c.if-starts_with-2.ensures.value) refl)
