use Rattle.std.proofs.Common.{sym, ◌∙◌}
use Rattle.ll_bind.proofs.Heads.{apart_heads, apart_lengths}
use Rattle.ll_bind.proofs.head.pair.Goals as goal

pub returns-then-not-is_same_head : goal.returns-then-not-is_same_head
returns-then-not-is_same_head c = λ nodes i j.
    apart_heads nodes c.args.sign c.args.head c.args.places.now c.args.patterns.now c.requires.fixed
    (sym c.is_same_head.ensures ∙ c.if-not-is_same_head.true)

pub returns-then-places-patterns : goal.returns-then-places-patterns
returns-then-places-patterns c = λ nodes i j.
    apart_lengths nodes c.args.sign c.args.head c.args.places.now c.args.patterns.now c.requires.fixed c.if-places-patterns.true
