use Rattle.std.proofs.Common.{◌≡◌, ◌++◌, ap, refl, ◌∙◌, length, drop, map, reverse, arith}
use Rattle.std.proofs.lemmas.Result.{IfOk-from_err}
use Rattle.ll_trace.specs.Picks.{level_of_part}
use Rattle.ll_trace.proofs.Picking.{push-start, push-step}
use Rattle.ll_trace.proofs.picks.push_levels.Goals as goal

pub loop-index-init : goal.loop-index-init
loop-index-init c = push-start c.args.pending.now.items c.args.level (length c.args.parts.now) c.args.parts.now refl

pub loop-index-preserved : goal.loop-index-preserved
loop-index-preserved c =
    push-step c.args.pending.now.items c.loop-index.pending.items c.push.new.self.items c.args.level c.loop-index.index c.args.parts.now
    c.index-parts-index.result c.in_ok-below.below
    c.loop-index-test.true c.loop-index.auto.index c.index-parts-index.is c.in_ok-below.ensures c.loop-index.invariant c.in_ok-push.ensures.items

pub returns : goal.returns
returns c = let z : c.loop-index.index ≡ 0 = omega arith in c.loop-index.invariant
    ∙ ap (λ i. c.args.pending.now.items ++ reverse (map (level_of_part c.args.level) (drop i c.args.parts.now))) z

pub returns-in_err-below : goal.returns-in_err-below
returns-in_err-below c = IfOk-from_err c.from_residual.result _ c.from_residual.ensures.0

pub returns-in_err-push : goal.returns-in_err-push
returns-in_err-push c = IfOk-from_err c.from_residual-in_err-push.result _ c.from_residual-in_err-push.ensures.0
