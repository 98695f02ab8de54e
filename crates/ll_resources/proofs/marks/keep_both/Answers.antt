use Rattle.std.proofs.Common.{◌≡◌, ◌<◌, ◌-◌, ◌&&◌, false, ap, ◌∙◌, arith, get_or, length}
use Rattle.std.specs.Prelude.{reverse}
use Rattle.std.proofs.lemmas.List.{length-set}
use Rattle.ll_resources.proofs.MarkLemmas.{done-more, left-more, both-done}
use Rattle.ll_resources.proofs.marks.keep_both.Goals as goal

pub loop-i-preserved : goal.loop-i-preserved
loop-i-preserved c =
    let first = c.args.first.now in let bs = c.args.second.now.items in let i = c.loop-i.i in
    let n : c.len-count.result ≡ length bs = omega (arith, c.len-count.ensures, c.args.second.now.ok.0) in
    let inside : i < length c.loop-i.second.items = omega (arith, c.loop-i-test.true, n, c.loop-i.invariant.len) in
    let v : (c.mark_in-other.result && c.mark_at-one.result) ≡ (get_or bs i false && get_or (reverse first) (length bs - 1 - i) false) =
    ap (λ x. x && c.mark_at-one.result) (c.mark_in-other.ensures
    ∙ (ap (λ xs. get_or xs i false) c.as_slice.ensures.value ∙ c.loop-i.invariant.left i (omega arith)))
    ∙ ap (λ y. get_or bs i false && y) (c.mark_at-one.ensures ∙ ap (λ m. get_or (reverse first) (m - 1 - i) false) n) in
    record {
      len = let e = ap length c.set_mark.ensures.mark in let k = length-set c.loop-i.second.items i (c.mark_in-other.result && c.mark_at-one.result) in
          e ∙ (k ∙ c.loop-i.invariant.len);
      room = c.set_mark.ensures.room ∙ c.loop-i.invariant.room;
      done = done-more first bs c.loop-i.second.items _ i _ inside c.set_mark.ensures.mark v c.loop-i.invariant.done;
      left = left-more bs c.loop-i.second.items _ i _ c.set_mark.ensures.mark c.loop-i.invariant.left;
    }

pub returns-clause-both : goal.returns-clause-both
returns-clause-both c =
    let n : c.len-count.result ≡ length c.args.second.now.items = omega (arith, c.len-count.ensures, c.args.second.now.ok.0) in
    both-done c.args.first.now c.args.second.now.items c.loop-i.second.items c.loop-i.invariant.len
    (λ k l. c.loop-i.invariant.done k (omega (arith, l, n, c.loop-i-test.false)))
