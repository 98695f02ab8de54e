use Rattle.std.proofs.Common.{◌≡◌, ◌+◌, ◌<◌, ◌≤◌, ℕ, List, [], length, drop, sym, ap, ◌∙◌, arith}
use Rattle.std.specs.Prelude.{reverse}
use Rattle.std.proofs.lemmas.List.{length-reverse, get_or-reverse, drop_all}
use Rattle.ll_resources.specs.declared.state.Stored.{Stored}
use Rattle.ll_resources.specs.Raw.{first_place}
use Rattle.ll_resources.proofs.SeenLemmas.{place-more, place-here}
use Rattle.ll_resources.proofs.state.place_of.Goals as goal

none-before : (n : ℕ) → n ≡ 0 + n
none-before n = omega arith

-- where none of them has the label
none-here : {C : Type 0} (label : ℕ) (es : List (Stored C)) (i : ℕ) → first_place label (reverse es) ≡ i + first_place label (drop i (reverse es))
    → i ≤ length es → length es ≤ i → length es ≡ first_place label (reverse es)
none-here label es i h low high =
    let n = length-reverse es in
    let rest : drop i (reverse es) ≡ [] = drop_all i (reverse es) (omega (arith, n, high)) in
    let e : first_place label (reverse es) ≡ i + 0 = h ∙ ap (λ ds. i + first_place label ds) rest in
    omega (arith, e, low, high)

pub loop-i-preserved : goal.loop-i-preserved
loop-i-preserved g c =
    let es = c.args.entries.now in let x = c.index-entries-entries.result in
    let n = length-reverse es in
    let l : c.loop-i.i < length es = omega (arith, c.loop-i-test.true) in
    place-more c.args.label (reverse es) c.loop-i.i x (omega (arith, n, l)) (c.index-entries-entries.is ∙ sym (get_or-reverse es c.loop-i.i x l))
    c.if-entry-label.false c.loop-i.invariant

pub returns-then-entry-label : goal.returns-then-entry-label
returns-then-entry-label g c =
    let es = c.args.entries.now in let x = c.index-entries-entries.result in
    let n = length-reverse es in
    let l : c.loop-i.i < length es = omega (arith, c.loop-i-test.true) in
    place-here c.args.label (reverse es) c.loop-i.i x (omega (arith, n, l)) (c.index-entries-entries.is ∙ sym (get_or-reverse es c.loop-i.i x l))
    c.if-entry-label.true c.loop-i.invariant

pub loop-i-init : goal.loop-i-init
loop-i-init g c = none-before _

pub returns : goal.returns
returns g c = none-here c.args.label c.args.entries.now c.loop-i.i c.loop-i.invariant c.loop-i.auto.i-end c.loop-i-test.false
