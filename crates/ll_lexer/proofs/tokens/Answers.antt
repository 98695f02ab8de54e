use Rattle.std.proofs.Common.{◌≡◌, ◌+◌, drop, refl, sym, ◌∙◌, ap, subst, arith}
use Rattle.std.specs.List.{prefix_len}
use Rattle.ll_lexer.specs.Spelling.{HasNone}
use Rattle.ll_lexer.specs.Reading.{is_no_lf}
use Rattle.ll_lexer.proofs.Turns.{rest-all, token-found, token-bytes, token-length, after-blank, after-comment, after-token, bad-byte, flawed-token, all-read}
use Rattle.ll_lexer.proofs.tokens.Goals as goal

pub loop-i-preserved-then-is_blank : goal.loop-i-preserved-then-is_blank
loop-i-preserved-then-is_blank c = rw c.after-at.ensures (after-blank c.args.text.now c.loop-i.rows.items c.loop-i.at c.loop-i.i c.loop-i.invariant
    c.loop-i-test.true (sym c.if-is_blank.ensures))

pub loop-i-preserved-then-b-eq37 : goal.loop-i-preserved-then-b-eq37
loop-i-preserved-then-b-eq37 c =
    let r : c.comment_len-n.result ≡ prefix_len is_no_lf (drop (c.loop-i.i + 1) c.args.text.now) =
    c.comment_len-n.ensures.run ∙ ap (prefix_len is_no_lf) (rest-all c.args.text.now (c.loop-i.i + 1)) in
    rw c.columns-at.ensures (after-comment c.args.text.now c.loop-i.rows.items c.loop-i.at c.loop-i.i c.comment_len-n.result c.loop-i.invariant
    c.loop-i-test.true c.if-b-eq37.true r)

pub returns-in_default-clause-err : goal.returns-in_default-clause-err
returns-in_default-clause-err c = bad-byte c.args.text.now c.loop-i.rows.items c.loop-i.at c.loop-i.i c.loop-i.invariant c.loop-i-test.true
    (subst HasNone (rest-all c.args.text.now c.loop-i.i) c.in_default.ensures) (sym c.if-is_blank.ensures) c.if-b-eq37.false

pub flaw-requires : goal.flaw-requires
flaw-requires c = rw token-bytes (token-found c.args.text.now c.loop-i.i c.in-Some.kind c.in-Some.n c.in-Some.ensures).spells

pub returns-in-Some-flaw-clause-err : goal.returns-in-Some-flaw-clause-err
returns-in-Some-flaw-clause-err c = flawed-token c.args.text.now c.loop-i.rows.items c.loop-i.at c.loop-i.i c.in-Some.kind c.in-Some.n c.in-Some-flaw.flaw
    c.loop-i.invariant
    (token-found c.args.text.now c.loop-i.i c.in-Some.kind c.in-Some.n c.in-Some.ensures) (rw token-bytes at c.in-Some-flaw.ensures)

pub loop-i-smaller : goal.loop-i-smaller
loop-i-smaller c =
    let l = token-found c.args.text.now c.loop-i.i c.in-Some.kind c.in-Some.n c.in-Some.ensures in
    let some = token-length (drop c.loop-i.i c.args.text.now) c.in-Some.kind c.in-Some.n l in
    omega arith

pub loop-i-preserved : goal.loop-i-preserved
loop-i-preserved c = rw (c.columns-at-else-b-eq37.ensures, c.in_ok-push.ensures.items)
    (after-token c.args.text.now c.loop-i.rows.items c.loop-i.at c.loop-i.i c.in-Some.kind c.in-Some.n c.loop-i.invariant
    (token-found c.args.text.now c.loop-i.i c.in-Some.kind c.in-Some.n c.in-Some.ensures) (rw token-bytes at c.in_default-flaw.ensures))

pub invariant_of-result : goal.invariant_of-result
invariant_of-result c = all-read c.args.text.now c.loop-i.rows.items c.loop-i.at c.loop-i.i c.loop-i.invariant c.loop-i-test.false

pub returns-clause-ok : goal.returns-clause-ok
returns-clause-ok c = (refl, all-read c.args.text.now c.loop-i.rows.items c.loop-i.at c.loop-i.i c.loop-i.invariant c.loop-i-test.false)
