use Rattle.std.proofs.Common.{◌&&◌, not, ap, sym, ◌∙◌, arith, get_or, false, below_more}
use Rattle.std.specs.Prelude.{reverse}
use Rattle.std.proofs.lemmas.List.{length-reverse}
use Rattle.ll_resources.proofs.MarkLemmas.{within-passed, within-failed}
use Rattle.ll_resources.proofs.marks.is_within.Goals as goal

pub loop-i-preserved : goal.loop-i-preserved
loop-i-preserved c =
    below_more _ _ c.loop-i.invariant
    (ap (λ x. x && not (get_or (reverse c.args.second.now) c.loop-i.i false)) (sym c.mark_at-one.ensures)
    ∙ (ap (λ y. c.mark_at-one.result && not y) (sym c.mark_at-other.ensures) ∙ c.if-one-other.false))

pub returns-then-one-other : goal.returns-then-one-other
returns-then-one-other c =
    sym (within-failed c.args.count c.loop-i.i (reverse c.args.first.now) (reverse c.args.second.now) (omega (arith, c.loop-i-test.true, c.min-i-end.ensures))
    (ap (λ x. x && not (get_or (reverse c.args.second.now) c.loop-i.i false)) (sym c.mark_at-one.ensures)
    ∙ (ap (λ y. c.mark_at-one.result && not y) (sym c.mark_at-other.ensures) ∙ c.if-one-other.true)))

pub returns : goal.returns
returns c =
    sym (within-passed c.args.count c.loop-i.i (reverse c.args.first.now) (reverse c.args.second.now) c.loop-i.invariant
    (λ k l m. let n = length-reverse c.args.first.now in omega (arith, n, l, m, c.loop-i-test.false, c.min-i-end.ensures)))
