use Rattle.std.proofs.Common.{◌≡◌, ◌<◌, List, ◌∷◌, ◌+◌, ◌-◌, ap, sym, subst, refl, ◌∙◌, length, length-set, drop, map, arith}
use Rattle.std.proofs.lemmas.Result.{IfOk-from_err}
use Rattle.std.proofs.lemmas.List.{length-map, drop-map}
use Rattle.ll_laws.specs.Line.{Line}
use Rattle.ll_laws.specs.ShownLines.{line_of}
use Rattle.ll_trace.specs.declared.spans.Span.{Span}
use Rattle.ll_trace.specs.Spans.{GivesSpan}
use Rattle.ll_trace.proofs.Making.{drop_item}
use Rattle.ll_trace.proofs.Spanning.{fits-past, spans-step}
use Rattle.ll_trace.proofs.spans.spans.Goals as goal

pub loop-at-init : goal.loop-at-init
loop-at-init c = record {
  size = let k = c.in_ok-spans.spans.ok.0 in let n = c.in_ok-spans.ensures.len in omega (arith, k, n);
  fits = λ bank at ts le h. let m = length-map c.args.rules.now (line_of bank) in
      fits-past c.in_ok-spans.spans.items (map (line_of bank) c.args.rules.now) at ts (omega (arith, m, le)) h;
}

pub loop-at-preserved : goal.loop-at-preserved
loop-at-preserved c =
    let lt : c.loop-at.at - 1 < length c.args.rules.now = omega arith in
    let ls : c.loop-at.at - 1 < length c.loop-at.spans.items = let z = c.loop-at.invariant.size in omega (arith, z) in
    record {
      size = length-set c.loop-at.spans.items (c.loop-at.at - 1) c.span_of.result ∙ c.loop-at.invariant.size;
      fits = λ bank at ts le h.
          let d : drop (c.loop-at.at - 1) (map (line_of bank) c.args.rules.now) ≡ line_of bank c.index-rules-at.result
          ∷ drop (c.loop-at.at - 1 + 1) (map (line_of bank) c.args.rules.now) =
          drop-map (line_of bank) (c.loop-at.at - 1) c.args.rules.now
          ∙ (ap (map (line_of bank)) (drop_item c.args.rules.now (c.loop-at.at - 1) c.index-rules-at.result lt c.index-rules-at.is)
          ∙ ap (λ (ls : List Line). line_of bank c.index-rules-at.result ∷ ls) (sym (drop-map (line_of bank) (c.loop-at.at - 1 + 1) c.args.rules.now))) in
          spans-step (map (line_of bank) c.args.rules.now) c.loop-at.spans.items _ (c.loop-at.at - 1) c.span_of.result (line_of bank c.index-rules-at.result) d
          refl ls
          (λ at ts m k. c.loop-at.invariant.fits bank at ts (omega (arith, m)) k)
          (λ ts vs p f. subst (λ (s : List Span). GivesSpan c.index-rules-at.result (c.loop-at.at - 1 + 1) s c.span_of.result) c.deref.ensures.value
          c.span_of.ensures bank ts vs p f) at ts le h;
    }

pub returns : goal.returns
returns c = λ bank at ts h. c.loop-at.invariant.fits bank at ts (omega arith) h

pub returns-in_err-spans : goal.returns-in_err-spans
returns-in_err-spans c = IfOk-from_err c.from_residual.result _ c.from_residual.ensures.0
