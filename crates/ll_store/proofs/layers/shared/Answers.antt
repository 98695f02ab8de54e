use Rattle.std.proofs.lemmas.Result.{IfOk-from_err}
use Rattle.std.proofs.Common.{ap, ◌∙◌}
use Rattle.std.proofs.lemmas.List.{take_all}
use Rattle.ll_store.specs.Layered.{segments_of}
use Rattle.ll_store.proofs.layers.shared.Goals as goal

pub returns-in_err-made : goal.returns-in_err-made
returns-in_err-made c = IfOk-from_err c.from_residual.result _ c.from_residual.ensures.0

pub returns-in_err-try_clone : goal.returns-in_err-try_clone
returns-in_err-try_clone c = IfOk-from_err c.from_residual-in_err-try_clone.result _ c.from_residual-in_err-try_clone.ensures.0

pub returns-in_err-push : goal.returns-in_err-push
returns-in_err-push c = IfOk-from_err c.from_residual-in_err-push.result _ c.from_residual-in_err-push.ensures.0

pub loop-segment-init : goal.loop-segment-init
loop-segment-init c = ap segments_of c.in_ok-made.ensures.items

pub returns : goal.returns
returns c =
    c.loop-segment.invariant ∙ ap segments_of (take_all c.loop-segment.segment-index c.args.segments.now c.loop-segment-test.false)
