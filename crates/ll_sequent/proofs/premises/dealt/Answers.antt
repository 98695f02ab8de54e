use Rattle.std.proofs.Common.{◌∷◌, ◌+◌, ◌∙◌, ◌<◌, refl, ap, sym, subst, List, map, drop, length, get_or, vec_len, arith}
use Rattle.std.proofs.lemmas.Result.{IfOk-from_err}
use Rattle.std.proofs.lemmas.List.{length-map}
use Rattle.std.proofs.lemmas.Bool.{eqb-true, eqb-false}
use Rattle.std.specs.Prelude.{filter, not}
use Rattle.std.specs.List.{list_all}
use Rattle.ll_list_laws.proofs.CallerLemmas.{empty_from_length as empty_list}
use Rattle.ll_laws.specs.Shows.{has}
use Rattle.ll_sequent.specs.declared.sequents.Sequent.{Sequent}
use Rattle.ll_laws.specs.ShownLines.{part_line}
use Rattle.ll_sequent.specs.declared.sequents.Resource.{Resource}
use Rattle.ll_sequent.specs.Named.{has_resource}
use Rattle.ll_sequent.proofs.DealLemmas.{IsInDeal, line_now, deal_bounded, deal_free, deal_unnamed, deal_left, deal_end}
use Rattle.ll_sequent.proofs.premises.dealt.Goals.{in-Bounded+else-not-are_labels_of+in_ok-part-in-Bounded+in_ok-left-in-Bounded, in-Unbounded}
use Rattle.ll_sequent.proofs.premises.dealt.Goals as goal

pub returns-then-not-are_labels_of : goal.returns-then-not-are_labels_of
returns-then-not-are_labels_of c = λ bank gs t f. (
  refl,
  deal_unnamed (map part_line c.args.parts.now) c.args.goals.now c.args.free c.args.bounded.items c.loop-i.i c.loop-i.left.items c.loop-i.sequents.items
      c.loop-i.invariant bank gs t f c.in-Bounded.labels.items
      (line_now c.args.parts.now c.loop-i.i c.index-parts-i.result c.loop-i-test.true c.index-parts-i.is
      ∙ ap (λ p. part_line p ∷ drop (c.loop-i.i + 1) (map part_line c.args.parts.now)) c.in-Bounded.is)
      ((λ j. list_all (has_resource (sym c.deref-in-Bounded.ensures.value j)) (sym c.deref.ensures.value j))
      ∙ (sym c.are_labels_of.ensures ∙ c.if-not-are_labels_of.true)),
)

pub returns-then-is_empty : goal.returns-then-is_empty
returns-then-is_empty c = λ bank gs t f.
    let l = length-map c.args.parts.now part_line in
    deal_end (map part_line c.args.parts.now) c.args.goals.now c.args.free c.args.bounded.items c.loop-i.i c.loop-i.left.items c.loop-i.sequents.items
    c.loop-i.invariant bank gs t f (omega arith)
    (empty_list c.loop-i.left.items (let z = eqb-true (vec_len c.loop-i.left) 0 (sym c.is_empty.ensures ∙ c.if-is_empty.true) in omega arith))

pub returns : goal.returns
returns c = λ bank gs t f.
    let l = length-map c.args.parts.now part_line in (
      refl,
      deal_left (map part_line c.args.parts.now) c.args.goals.now c.args.free c.args.bounded.items c.loop-i.i c.loop-i.left.items c.loop-i.sequents.items
          c.loop-i.invariant bank gs t f (omega arith)
          (let z = eqb-false (vec_len c.loop-i.left) 0 (sym c.is_empty.ensures ∙ c.if-is_empty.false) in omega arith),
    )

pub loop-i-preserved : goal.loop-i-preserved
loop-i-preserved c =
    let q : Sequent = record { free = c.args.free; bounded = c.match-parts-i.bounded; goal = get_or c.args.goals.now c.loop-i.i (record { 0 = 0 }) } in
    let now = line_now c.args.parts.now c.loop-i.i c.index-parts-i.result c.loop-i-test.true c.index-parts-i.is in
    let low : c.loop-i.i < length c.args.goals.now = omega arith in
    elim c.match-parts-i.branch [
      | in-Bounded+else-not-are_labels_of+in_ok-part-in-Bounded+in_ok-left-in-Bounded w ↦
          let named = (λ j. list_all (has_resource (sym w.deref-in-Bounded.ensures.value j)) (sym w.deref.ensures.value j))
          ∙ (sym w.are_labels_of.ensures ∙ w.if-not-are_labels_of.false) in
          let given = ap (λ v. v.items) w.bounded-is
          ∙ (w.in_ok-part-in-Bounded.ensures ∙ (λ j. filter (λ (r : Resource). has (w.deref-in-Bounded-2.ensures.value j) r.label)
          (w.deref-in-Bounded-3.ensures.value j))) in
          let rest_is = ap (λ v. v.items) w.left-is
          ∙ (w.in_ok-left-in-Bounded.ensures ∙ (λ j. filter (λ (r : Resource). not (has (w.deref-in-Bounded-4.ensures.value j) r.label))
          (w.deref-in-Bounded-5.ensures.value j))) in
          deal_bounded (map part_line c.args.parts.now) c.args.goals.now c.args.free c.args.bounded.items c.loop-i.i c.loop-i.left.items c.loop-i.sequents.items
          c.push.new.self.items (record { 0 = 0 }) q low c.loop-i.invariant
          c.in_ok-push.ensures.items refl refl (part_line c.index-parts-i.result) now w.in-Bounded.labels.items (ap part_line w.in-Bounded.is) named given
          c.match-parts-i.left.items rest_is
      | in-Unbounded w ↦
          let P : List Resource → Type 0 = λ left. IsInDeal (map part_line c.args.parts.now) c.args.goals.now c.args.free c.args.bounded.items (c.loop-i.i + 1)
          left c.push.new.self.items in
          subst P (sym (ap (λ v. v.items) w.left-is))
          (deal_free (map part_line c.args.parts.now) c.args.goals.now c.args.free c.args.bounded.items c.loop-i.i c.loop-i.left.items c.loop-i.sequents.items
          c.push.new.self.items (record { 0 = 0 }) q low c.loop-i.invariant
          c.in_ok-push.ensures.items refl refl (part_line c.index-parts-i.result) now (ap part_line w.in-Unbounded.is)
          (ap (λ v. v.items) w.bounded-is ∙ w.new-bounded.ensures.items))
    ]

pub returns-in_err-part-in-Bounded : goal.returns-in_err-part-in-Bounded
returns-in_err-part-in-Bounded c = IfOk-from_err c.from_residual.result _ c.from_residual.ensures.0

pub returns-in_err-left-in-Bounded : goal.returns-in_err-left-in-Bounded
returns-in_err-left-in-Bounded c = IfOk-from_err c.from_residual-in_err-left-in-Bounded.result _ c.from_residual-in_err-left-in-Bounded.ensures.0

pub returns-in_err-push : goal.returns-in_err-push
returns-in_err-push c = IfOk-from_err c.from_residual-in_err-push.result _ c.from_residual-in_err-push.ensures.0
