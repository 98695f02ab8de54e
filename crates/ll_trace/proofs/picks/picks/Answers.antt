use Rattle.std.proofs.Common.{◌≡◌, List, [], ◌∷◌, ◌++◌, ◌+◌, ap, subst, ◌∙◌, drop, map, arith}
use Rattle.std.proofs.lemmas.Result.{IfOk-from_err}
use Rattle.std.proofs.lemmas.List.{drop_all}
use Rattle.ll_laws.specs.Line.{Line}
use Rattle.ll_laws.specs.ShownLines.{line_of}
use Rattle.ll_trace.proofs.Making.{drop_item}
use Rattle.ll_trace.proofs.Picking.{PicksLeft, picks-start, picks-step, picks-end}
use Rattle.ll_trace.proofs.picks.picks.Goals as goal

pub loop-rule-init : goal.loop-rule-init
loop-rule-init c = λ bank x h.
    picks-start (map (line_of bank) c.args.rules.now) x c.new-picks.result.items c.push.new.self.items c.new-picks.ensures.items
    (c.in_ok-push.ensures.items ∙ ap (λ bs. bs ++ 0 ∷ []) c.new-pending.ensures.items) h

pub loop-rule-preserved : goal.loop-rule-preserved
loop-rule-preserved c = λ bank x h.
    let d : map (line_of bank) (drop c.loop-rule.rule-index c.args.rules.now) ≡ line_of bank c.rule-item.result
    ∷ map (line_of bank) (drop (c.loop-rule.rule-index + 1) c.args.rules.now) =
    ap (map (line_of bank)) (drop_item c.args.rules.now c.loop-rule.rule-index c.rule-item.result c.loop-rule-test.true c.rule-item.is) in
    picks-step (line_of bank c.rule-item.result) (map (line_of bank) (drop (c.loop-rule.rule-index + 1) c.args.rules.now)) x c.loop-rule.picks.items
    c.push-in-loop-rule.new.self.items c.in_ok-pick.pick c.loop-rule.pending.items c.pop.new.self.items c.pick_of.new.pending.items c.pop.result
    c.unwrap_or-level.result
    c.pop.ensures.items c.unwrap_or-level.ensures c.in_ok-push-2.ensures.items (λ h. let k = c.loop-rule.pending.ok.0 in
    c.pop.ensures.variant.1 (omega (arith, h, k))) (λ ts vs p. c.in_ok-pick.ensures bank ts vs p)
    (subst (λ (ls : List Line). PicksLeft ls x c.loop-rule.picks.items c.loop-rule.pending.items) d (c.loop-rule.invariant bank x h))

pub returns : goal.returns
returns c = λ bank x h.
    let d : map (line_of bank) (drop c.loop-rule.rule-index c.args.rules.now) ≡ [] =
    ap (map (line_of bank)) (drop_all c.loop-rule.rule-index c.args.rules.now (omega arith)) in
    picks-end x c.loop-rule.picks.items c.loop-rule.pending.items
    (subst (λ (ls : List Line). PicksLeft ls x c.loop-rule.picks.items c.loop-rule.pending.items) d (c.loop-rule.invariant bank x h))

pub returns-in_err-pick : goal.returns-in_err-pick
returns-in_err-pick c = IfOk-from_err c.from_residual-in_err-pick.result _ c.from_residual-in_err-pick.ensures.0

pub returns-in_err-push : goal.returns-in_err-push
returns-in_err-push c = IfOk-from_err c.from_residual.result _ c.from_residual.ensures.0

pub returns-in_err-push-2 : goal.returns-in_err-push-2
returns-in_err-push-2 c = IfOk-from_err c.from_residual-in_err-push-2.result _ c.from_residual-in_err-push-2.ensures.0
