use Rattle.std.proofs.Common.{◌≡◌, List, [], ◌∷◌, ◌+◌, ap, sym, subst, ◌∙◌, drop, map, arith}
use Rattle.std.proofs.lemmas.List.{drop_all}
use Rattle.ll_laws.specs.declared.Part.{Part}
use Rattle.ll_laws.specs.Line.{PartLine}
use Rattle.ll_laws.specs.ShownLines.{part_line}
use Rattle.ll_trace.specs.declared.spans.Span.{Span}
use Rattle.std.specs.Prelude.{◌||◌}
use Rattle.ll_trace.proofs.Making.{drop_item}
use Rattle.ll_trace.proofs.Spanning.{PartsLeft, parts-start, parts-step, parts-end, erases_more}
use Rattle.ll_trace.proofs.spans.span_of_parts.Goals as goal
use Rattle.ll_trace.proofs.spans.span_of_parts.Goals.{in-Bounded+then-span, in-Bounded+else-span, in-Unbounded}

pub loop-part-init : goal.loop-part-init
loop-part-init c = λ ts us ps h f. parts-start c.args.spans.now c.args.first (map part_line c.args.parts.now) ts us ps h f

pub loop-part-preserved : goal.loop-part-preserved
loop-part-preserved c = λ ts us ps h f.
    let w = c.loop-part.invariant ts us ps h f in
    let d : map part_line (drop c.loop-part.part-index c.args.parts.now) ≡ part_line c.part-item.result
    ∷ map part_line (drop (c.loop-part.part-index + 1) c.args.parts.now) =
    ap (map part_line) (drop_item c.args.parts.now c.loop-part.part-index c.part-item.result c.loop-part-test.true c.part-item.is) in
    let z = subst (λ (ls : List PartLine). PartsLeft c.args.spans.now c.args.first c.loop-part.span ls ps us) d w in
    parts-step (part_line c.part-item.result) (map part_line (drop (c.loop-part.part-index + 1) c.args.parts.now)) c.args.spans.now c.args.first
    c.loop-part.span c.span_at-next.result c.match-part.span ps us c.span_at-next.ensures
    (elim c.match-part.branch [
      | in-Bounded+then-span w ↦ ap (λ (s : Span). s.end) w.span-is
      | in-Bounded+else-span w ↦ ap (λ (s : Span). s.end) w.span-is
      | in-Unbounded w ↦ ap (λ (s : Span). s.end) w.span-is
    ])
    (elim c.match-part.branch [
      | in-Bounded+then-span w ↦ ap (λ (s : Span). s.erases) w.span-is
          ∙ (w.if-span.true ∙ sym (ap (λ b. b || c.span_at-next.result.erases) w.if-span.true)
          ∙ ap (λ (p : Part). erases_more (part_line p) c.loop-part.span.erases c.span_at-next.result.erases) (sym w.in-Bounded.is))
      | in-Bounded+else-span w ↦ ap (λ (s : Span). s.erases) w.span-is
          ∙ (sym (ap (λ b. b || c.span_at-next.result.erases) w.if-span.false)
          ∙ ap (λ (p : Part). erases_more (part_line p) c.loop-part.span.erases c.span_at-next.result.erases) (sym w.in-Bounded.is))
      | in-Unbounded w ↦ ap (λ (s : Span). s.erases) w.span-is
          ∙ ap (λ (p : Part). erases_more (part_line p) c.loop-part.span.erases c.span_at-next.result.erases) (sym w.in-Unbounded.is)
    ])
    z

pub returns : goal.returns
returns c = λ ts us ps h f.
    let w = c.loop-part.invariant ts us ps h f in
    let d : map part_line (drop c.loop-part.part-index c.args.parts.now) ≡ [] =
    ap (map part_line) (drop_all c.loop-part.part-index c.args.parts.now (omega arith)) in
    parts-end c.args.spans.now c.args.first c.loop-part.span ps us
    (subst (λ (ls : List PartLine). PartsLeft c.args.spans.now c.args.first c.loop-part.span ls ps us) d w)
