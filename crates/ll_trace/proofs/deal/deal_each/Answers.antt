use Rattle.std.proofs.Common.{◌≡◌, ℕ, List, [], ◌∷◌, ◌+◌, ap, subst, refl, ◌∙◌, drop, map, arith, Vec, Global}
use Rattle.std.proofs.lemmas.Result.{IfOk-from_err}
use Rattle.std.specs.Prelude.{filter, not}
use Rattle.ll_trace.specs.Shares.{goes_to_first}
use Rattle.std.proofs.lemmas.List.{drop_all}
use Rattle.ll_laws.specs.declared.Part.{Part}
use Rattle.ll_laws.specs.declared.Part.TheVariants.{Bounded, Unbounded}
use Rattle.ll_laws.specs.Line.{PartLine, Labels}
use Rattle.ll_laws.specs.ShownLines.{part_line}
use Rattle.ll_trace.specs.declared.deal.Share.{Share}
use Rattle.ll_trace.specs.declared.deal.Fork.{Fork}
use Rattle.ll_trace.specs.declared.spans.Span.{Span}
use Rattle.ll_trace.specs.Spans.{span_or_none}
use Rattle.ll_trace.proofs.Making.{drop_item}
use Rattle.ll_trace.proofs.Sharing.{PartsDealt, dealt-start, bounded-step, unbounded-step, dealt-end}
use Rattle.ll_trace.proofs.deal.deal_each.Goals as goal
use Rattle.ll_trace.proofs.deal.deal_each.Goals.{in-Bounded+in_ok-mine-in-Bounded+in_ok-copy-in-Bounded+in_ok-push-in-Bounded+in_ok-push-in-Bounded-2}
use Rattle.ll_trace.proofs.deal.deal_each.Goals.{in-Unbounded+in_ok-push-in-Unbounded+in_ok-below-in-Unbounded+in_ok-push-in-Unbounded-2}

pub loop-part-init : goal.loop-part-init
loop-part-init c = λ ts us ps more h f e d.
    dealt-start c.args.outline.now c.args.start c.args.end c.args.level c.args.labels.now.items ps ts us more (map part_line c.args.parts.now)
    c.args.dealt.now.items c.args.shares.now.items c.requires.dealt c.requires.shares h f e d

pub loop-part-preserved : goal.loop-part-preserved
loop-part-preserved c = λ ts us ps more h f e d.
    let w = c.loop-part.invariant ts us ps more h f e d in
    let di : map part_line (drop c.loop-part.part-index c.args.parts.now) ≡ part_line c.part-item.result
    ∷ map part_line (drop (c.loop-part.part-index + 1) c.args.parts.now) =
    ap (map part_line) (drop_item c.args.parts.now c.loop-part.part-index c.part-item.result c.loop-part-test.true c.part-item.is) in
    let z = subst (λ (ls : List PartLine). PartsDealt c.args.outline.now c.loop-part.from c.args.end c.args.level c.args.labels.now.items ps ts us more ls
    c.loop-part.labels.items c.loop-part.dealt.items c.loop-part.shares.items) di w in
    let ls = map part_line (drop (c.loop-part.part-index + 1) c.args.parts.now) in
    let sp : c.span_at-first.result ≡ span_or_none c.args.outline.now.spans.items c.loop-part.from =
    c.span_at-first.ensures ∙ ap (λ (ss : List Span). span_or_none ss c.loop-part.from) c.deref.ensures.value in
    let fork : Fork = record { level = c.args.level; from = c.loop-part.from; first = c.span_at-first.result; end = c.args.end } in
    elim c.match-part.branch [
      | in-Bounded+in_ok-mine-in-Bounded+in_ok-copy-in-Bounded+in_ok-push-in-Bounded+in_ok-push-in-Bounded-2 w ↦
          bounded-step c.args.outline.now c.loop-part.from c.match-part.from c.args.end c.args.level c.args.labels.now.items ps ts us more
          w.in-Bounded.field-0.items ls c.loop-part.labels.items c.match-part.labels.items c.loop-part.dealt.items c.match-part.dealt.items
          c.loop-part.shares.items c.match-part.shares.items
          (Bounded w.in_ok-copy-in-Bounded.copy) (record { labels = w.in_ok-mine-in-Bounded.mine; level = c.args.level }) fork
          (record { level = refl; from = refl; first = sp; end = refl }) (w.from-is ∙ ap (λ (s : Span). s.end) sp)
          (w.in_ok-mine-in-Bounded.ensures.first
          ∙ ap (filter (goes_to_first c.args.outline.now.uses fork)) w.deref-in-Bounded.ensures.value)
          refl
          (ap (λ (v : Vec ℕ Global). v.items) w.labels-is
          ∙ (w.in_ok-mine-in-Bounded.ensures.others
          ∙ ap (filter (λ n. not (goes_to_first c.args.outline.now.uses fork n))) w.deref-in-Bounded.ensures.value))
          (ap Labels (w.in_ok-copy-in-Bounded.ensures.items ∙ w.deref-in-Bounded-2.ensures.value))
          (ap (λ (v : Vec Part Global). v.items) w.dealt-is ∙ w.in_ok-push-in-Bounded.ensures.items)
          (ap (λ (v : Vec Share Global). v.items) w.shares-is ∙ w.in_ok-push-in-Bounded-2.ensures.items)
          (subst (λ (p : Part). PartsDealt c.args.outline.now c.loop-part.from c.args.end c.args.level c.args.labels.now.items ps ts us more (part_line p ∷ ls)
          c.loop-part.labels.items c.loop-part.dealt.items c.loop-part.shares.items) w.in-Bounded.is z)
      | in-Unbounded+in_ok-push-in-Unbounded+in_ok-below-in-Unbounded+in_ok-push-in-Unbounded-2 w ↦
          unbounded-step c.args.outline.now c.loop-part.from c.match-part.from c.args.end c.args.level c.args.labels.now.items ps ts us more ls
          c.loop-part.labels.items c.match-part.labels.items c.loop-part.dealt.items c.match-part.dealt.items c.loop-part.shares.items
          c.match-part.shares.items
          Unbounded (record { labels = w.new.result; level = w.in_ok-below-in-Unbounded.below })
          (w.from-is ∙ ap (λ (s : Span). s.end) sp) w.new.ensures.items w.in_ok-below-in-Unbounded.ensures (ap (λ (v : Vec ℕ Global). v.items) w.labels-is) refl
          (ap (λ (v : Vec Part Global). v.items) w.dealt-is ∙ w.in_ok-push-in-Unbounded.ensures.items)
          (ap (λ (v : Vec Share Global). v.items) w.shares-is ∙ w.in_ok-push-in-Unbounded-2.ensures.items)
          (subst (λ (p : Part). PartsDealt c.args.outline.now c.loop-part.from c.args.end c.args.level c.args.labels.now.items ps ts us more (part_line p ∷ ls)
          c.loop-part.labels.items c.loop-part.dealt.items c.loop-part.shares.items) w.in-Unbounded.is z)
    ]

pub returns : goal.returns
returns c = λ ts us ps more h f e d.
    let w = c.loop-part.invariant ts us ps more h f e d in
    let di : map part_line (drop c.loop-part.part-index c.args.parts.now) ≡ [] =
    ap (map part_line) (drop_all c.loop-part.part-index c.args.parts.now (omega arith)) in
    dealt-end c.args.outline.now c.loop-part.from c.args.end c.args.level c.args.labels.now.items ps ts us more c.loop-part.labels.items c.loop-part.dealt.items
    c.loop-part.shares.items
    (subst (λ (ls : List PartLine). PartsDealt c.args.outline.now c.loop-part.from c.args.end c.args.level c.args.labels.now.items ps ts us more ls
    c.loop-part.labels.items c.loop-part.dealt.items c.loop-part.shares.items) di w)

pub returns-in_err-below-in-Unbounded : goal.returns-in_err-below-in-Unbounded
returns-in_err-below-in-Unbounded c = IfOk-from_err c.from_residual-in_err-below-in-Unbounded.result _ c.from_residual-in_err-below-in-Unbounded.ensures.0

pub returns-in_err-copy-in-Bounded : goal.returns-in_err-copy-in-Bounded
returns-in_err-copy-in-Bounded c = IfOk-from_err c.from_residual-in_err-copy-in-Bounded.result _ c.from_residual-in_err-copy-in-Bounded.ensures.0

pub returns-in_err-mine-in-Bounded : goal.returns-in_err-mine-in-Bounded
returns-in_err-mine-in-Bounded c = IfOk-from_err c.from_residual.result _ c.from_residual.ensures.0

pub returns-in_err-push-in-Bounded : goal.returns-in_err-push-in-Bounded
returns-in_err-push-in-Bounded c = IfOk-from_err c.from_residual-in_err-push-in-Bounded.result _ c.from_residual-in_err-push-in-Bounded.ensures.0

pub returns-in_err-push-in-Bounded-2 : goal.returns-in_err-push-in-Bounded-2
returns-in_err-push-in-Bounded-2 c = IfOk-from_err c.from_residual-in_err-push-in-Bounded-2.result _ c.from_residual-in_err-push-in-Bounded-2.ensures.0

pub returns-in_err-push-in-Unbounded : goal.returns-in_err-push-in-Unbounded
returns-in_err-push-in-Unbounded c = IfOk-from_err c.from_residual-in_err-push-in-Unbounded.result _ c.from_residual-in_err-push-in-Unbounded.ensures.0

pub returns-in_err-push-in-Unbounded-2 : goal.returns-in_err-push-in-Unbounded-2
returns-in_err-push-in-Unbounded-2 c = IfOk-from_err c.from_residual-in_err-push-in-Unbounded-2.result _ c.from_residual-in_err-push-in-Unbounded-2.ensures.0
