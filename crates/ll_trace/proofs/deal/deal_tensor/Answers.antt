use Rattle.std.proofs.Common.{◌≡◌, List, ◌+◌, ap, sym, subst, refl, ◌∙◌}
use Rattle.std.proofs.lemmas.Result.{IfOk-from_err}
use Rattle.std.specs.Prelude.{filter, not}
use Rattle.ll_laws.specs.Line.{Line, TensorLine}
use Rattle.ll_trace.specs.declared.deal.Fork.{Fork}
use Rattle.ll_trace.specs.declared.deal.Share.{Share}
use Rattle.ll_trace.specs.declared.spans.Span.{Span}
use Rattle.ll_trace.specs.Shares.{goes_to_first, IsNodeStep}
use Rattle.ll_trace.specs.Spans.{span_or_none}
use Rattle.ll_trace.proofs.Sharing.{tensor-step}
use Rattle.ll_trace.proofs.deal.deal_tensor.Goals as goal

pub returns-clause-dealt : goal.returns-clause-dealt
returns-clause-dealt c = λ s t bank ts vs h f1 f2 d.
    let fork : Fork = record { level = c.args.share.level; from = c.args.at + 1; first = c.span_at-first.result; end = c.span_at-end.result.end } in
    let first : Share = record { labels = c.in_ok-mine.mine; level = c.args.share.level } in
    let second : Share = record { labels = c.in_ok-mine.others; level = c.args.share.level } in
    let lines : TensorLine c.in_ok-mine.mine.items c.in_ok-mine.others.items ≡ TensorLine c.in_ok-left.left.items c.in_ok-right.right.items =
    ap (λ xs. TensorLine xs c.in_ok-mine.others.items) (sym (c.in_ok-left.ensures.items ∙ c.deref-4.ensures.value))
    ∙ ap (TensorLine c.in_ok-left.left.items) (sym (c.in_ok-right.ensures.items ∙ c.deref-5.ensures.value)) in
    subst (λ (l : Line). IsNodeStep c.args.outline.now (c.args.at + 1) c.args.share c.args.pending.now.items c.push-2.new.self.items l ts vs) lines
    (tensor-step c.args.outline.now c.args.at c.args.share first second fork c.args.pending.now.items c.push.new.self.items c.push-2.new.self.items s t ts vs
    (record {
      level = refl;
      from = refl;
      first = c.span_at-first.ensures ∙ ap (λ (ss : List Span). span_or_none ss (c.args.at + 1)) c.deref-2.ensures.value;
      end = ap (λ (z : Span). z.end) (c.span_at-end.ensures ∙ ap (λ (ss : List Span). span_or_none ss c.args.at) c.deref.ensures.value);
    })
    (c.in_ok-mine.ensures.first
    ∙ ap (filter (goes_to_first c.args.outline.now.uses fork)) c.deref-3.ensures.value)
    refl
    (c.in_ok-mine.ensures.others
    ∙ ap (filter (λ n. not (goes_to_first c.args.outline.now.uses fork n))) c.deref-3.ensures.value)
    refl c.in_ok-push.ensures.items c.in_ok-push-2.ensures.items h f1 f2 d)

pub returns-in_err-left-clause-dealt : goal.returns-in_err-left-clause-dealt
returns-in_err-left-clause-dealt c = IfOk-from_err c.from_residual-in_err-left.result _ c.from_residual-in_err-left.ensures.0

pub returns-in_err-left-clause-keeps : goal.returns-in_err-left-clause-keeps
returns-in_err-left-clause-keeps c = IfOk-from_err c.from_residual-in_err-left.result _ c.from_residual-in_err-left.ensures.0

pub returns-in_err-mine-clause-dealt : goal.returns-in_err-mine-clause-dealt
returns-in_err-mine-clause-dealt c = IfOk-from_err c.from_residual.result _ c.from_residual.ensures.0

pub returns-in_err-mine-clause-keeps : goal.returns-in_err-mine-clause-keeps
returns-in_err-mine-clause-keeps c = IfOk-from_err c.from_residual.result _ c.from_residual.ensures.0

pub returns-in_err-push-2-clause-dealt : goal.returns-in_err-push-2-clause-dealt
returns-in_err-push-2-clause-dealt c = IfOk-from_err c.from_residual-in_err-push-2.result _ c.from_residual-in_err-push-2.ensures.0

pub returns-in_err-push-2-clause-keeps : goal.returns-in_err-push-2-clause-keeps
returns-in_err-push-2-clause-keeps c = IfOk-from_err c.from_residual-in_err-push-2.result _ c.from_residual-in_err-push-2.ensures.0

pub returns-in_err-push-clause-dealt : goal.returns-in_err-push-clause-dealt
returns-in_err-push-clause-dealt c = IfOk-from_err c.from_residual-in_err-push.result _ c.from_residual-in_err-push.ensures.0

pub returns-in_err-push-clause-keeps : goal.returns-in_err-push-clause-keeps
returns-in_err-push-clause-keeps c = IfOk-from_err c.from_residual-in_err-push.result _ c.from_residual-in_err-push.ensures.0

pub returns-in_err-right-clause-dealt : goal.returns-in_err-right-clause-dealt
returns-in_err-right-clause-dealt c = IfOk-from_err c.from_residual-in_err-right.result _ c.from_residual-in_err-right.ensures.0

pub returns-in_err-right-clause-keeps : goal.returns-in_err-right-clause-keeps
returns-in_err-right-clause-keeps c = IfOk-from_err c.from_residual-in_err-right.result _ c.from_residual-in_err-right.ensures.0

pub returns-clause-keeps : goal.returns-clause-keeps
returns-clause-keeps c = _
