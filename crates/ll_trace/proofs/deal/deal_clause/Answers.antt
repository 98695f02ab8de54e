use Rattle.std.proofs.Common.{List, ◌++◌, ap, ◌∙◌}
use Rattle.std.proofs.lemmas.Result.{IfOk-from_err}
use Rattle.ll_laws.specs.Dealing.{without}
use Rattle.ll_trace.specs.declared.deal.Share.{Share}
use Rattle.ll_trace.specs.declared.spans.Span.{Span}
use Rattle.ll_trace.specs.Spans.{span_or_none}
use Rattle.ll_trace.proofs.Sharing.{clause-step}
use Rattle.ll_trace.proofs.deal.deal_clause.Goals as goal

pub returns : goal.returns
returns c = λ leaf terms bank ts vs h f1 f2 d.
    clause-step c.args.label leaf (terms bank) c.args.outline.now c.args.at c.args.share c.args.parts.now c.in_ok-dealt.dealt.items c.in_ok-dealt.shares.items
    c.args.pending.now.items c.append.new.self.items c.in_ok-labels.labels.items c.span_at-end.result.end ts vs
    (c.in_ok-labels.ensures ∙ ap (without c.args.label) c.deref.ensures.value)
    (ap (λ (z : Span). z.end) (c.span_at-end.ensures ∙ ap (λ (ss : List Span). span_or_none ss c.args.at) c.deref-2.ensures.value))
    (c.in_ok-append.ensures.items ∙ ap (λ (xs : List Share). c.args.pending.now.items ++ xs) c.reverse.ensures.items)
    (λ us ps more k f e g. c.in_ok-dealt.ensures ts us ps more k f e g) h f1 f2 d

pub returns-in_err-append : goal.returns-in_err-append
returns-in_err-append c = IfOk-from_err c.from_residual-in_err-append.result _ c.from_residual-in_err-append.ensures.0

pub returns-in_err-dealt : goal.returns-in_err-dealt
returns-in_err-dealt c = IfOk-from_err c.from_residual-in_err-dealt.result _ c.from_residual-in_err-dealt.ensures.0

pub returns-in_err-labels : goal.returns-in_err-labels
returns-in_err-labels c = IfOk-from_err c.from_residual.result _ c.from_residual.ensures.0
