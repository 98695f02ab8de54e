use Rattle.std.proofs.Common.{◌≡◌, ◌-◌, ◌<◌, ℕ, List, [], ◌∷◌, ◌++◌, Option, Some, length, get_or, refl, sym, subst, ◌∙◌, ap, arith}
use Rattle.std.specs.Option.{IsSome}
use Rattle.ll_turn.specs.Views.{live}
use Rattle.ll_turn.specs.declared.view.Stage.TheVariants.{Rests}
use Rattle.ll_turn.proofs.Passes.{runs_first, first_numbers}
use Rattle.ll_turn.specs.declared.turn.NewFault.TheVariants.{OutOfMemory}
use Rattle.ll_turn.proofs.turn.Turn.new.Goals as goal

-- the last of one is that one
popped : {X : Type 0} (xs : List X) (n : ℕ) (x : X) (last : Option X) → xs ≡ x ∷ [] → n ≡ length xs
    → ((d : X) → 0 < n → last ≡ Some (get_or xs (n - 1) d)) → last ≡ Some x
popped xs n x last e k h =
    let one : n ≡ 1 = k ∙ ap length e in
    h x (omega (arith, one)) ∙ (λ i. Some (get_or (e i) (one i - 1) x))

some-same : {X : Type 0} {x y : X} → Some x ≡ Some y → x ≡ y
some-same e = cc

pub invariant_of-result-in-Ok-lay-2 : goal.invariant_of-result-in-Ok-lay-2
invariant_of-result-in-Ok-lay-2 g c = let laid = c.in-Ok-lay in
    runs_first g.S.Kept.numbers (g.S.Kept.begin c.args.value).0 (g.S.Kept.begin c.args.value).1 laid.seat.me (g.S.Kept.begins_first c.args.value c.requires)
    (laid.ensures.first ∙ ap (λ v. (live (g.S.Kept.begin v).0 (g.S.Kept.begin v).1 Rests [], [])) c.of-origin.ensures)

pub returns-in-Ok-lay-clause-numbers : goal.returns-in-Ok-lay-clause-numbers
returns-in-Ok-lay-clause-numbers g c = let laid = c.in-Ok-lay in
    first_numbers g.S.Kept.numbers (g.S.Kept.begin c.args.value).0 (g.S.Kept.begin c.args.value).1 laid.seat.me _
    (g.S.Kept.begins_first c.args.value c.requires)
    (laid.ensures.first ∙ ap (λ v. (live (g.S.Kept.begin v).0 (g.S.Kept.begin v).1 Rests [], [])) c.of-origin.ensures)

pub returns-in_default-clause-ok : goal.returns-in_default-clause-ok
returns-in_default-clause-ok g c = _

pub returns-in_default-clause-numbers : goal.returns-in_default-clause-numbers
returns-in_default-clause-numbers g c = _

pub returns-in-Ok-lay-clause-err : goal.returns-in-Ok-lay-clause-err
returns-in-Ok-lay-clause-err g c = _

pub returns-clause-ok : goal.returns-clause-ok
returns-clause-ok g c = _

pub returns-clause-numbers : goal.returns-clause-numbers
returns-clause-numbers g c = _

pub returns-in_default-clause-err : goal.returns-in_default-clause-err
returns-in_default-clause-err g c = refl

pub lay-requires-clause-slots : goal.lay-requires-clause-slots
lay-requires-clause-slots g c =
    c.push_reserved.ensures.items ∙ (λ i. c.in-Ok.ensures.items i ++ Some (sym c.of-origin.ensures i) ∷ [])

pub lay-requires-clause-fits : goal.lay-requires-clause-fits
lay-requires-clause-fits g c =
    subst (λ v. g.S.Kept.fit v (g.S.Kept.begin v).0 (g.S.Kept.begin v).1) (sym c.of-origin.ensures) c.requires

pub invariant_of-result : goal.invariant_of-result
invariant_of-result g c = c.in-Ok-lay.ensures.table.0

pub unwrap-requires : goal.unwrap-requires
unwrap-requires g c =
    let slots : c.in-Err.field-0.slots.items ≡ Some c.args.value ∷ [] =
    c.in-Err.ensures.err ∙ (c.push_reserved.ensures.items ∙ ap (λ xs. xs ++ Some c.args.value ∷ []) c.in-Ok.ensures.items) in
    let last = popped c.in-Err.field-0.slots.items _ (Some c.args.value) c.pop.result slots c.in-Err.field-0.slots.ok.0 c.pop.ensures.value in
    subst IsSome (sym last) refl

pub unwrap-value-requires : goal.unwrap-value-requires
unwrap-value-requires g c =
    let slots : c.in-Err.field-0.slots.items ≡ Some c.args.value ∷ [] =
    c.in-Err.ensures.err ∙ (c.push_reserved.ensures.items ∙ ap (λ xs. xs ++ Some c.args.value ∷ []) c.in-Ok.ensures.items) in
    let last = popped c.in-Err.field-0.slots.items _ (Some c.args.value) c.pop.result slots c.in-Err.field-0.slots.ok.0 c.pop.ensures.value in
    subst IsSome (sym (some-same (sym c.unwrap.ensures ∙ last))) refl

pub returns-clause-err : goal.returns-clause-err
returns-clause-err g c =
    let slots : c.in-Err.field-0.slots.items ≡ Some c.args.value ∷ [] =
    c.in-Err.ensures.err ∙ (c.push_reserved.ensures.items ∙ ap (λ xs. xs ++ Some c.args.value ∷ []) c.in-Ok.ensures.items) in
    let last = popped c.in-Err.field-0.slots.items _ (Some c.args.value) c.pop.result slots c.in-Err.field-0.slots.ok.0 c.pop.ensures.value in
    ap OutOfMemory (some-same (sym c.unwrap-value.ensures ∙ some-same (sym c.unwrap.ensures ∙ last)))
