use Rattle.std.proofs.Common.{refl}
use Rattle.std.proofs.lemmas.Result.{IfOk-from_err}
use Rattle.ll_trace.proofs.NodeLemmas.{part_start, part_may, part_more, part_end}
use Rattle.ll_trace.proofs.walk.nodes.Goals as goal

pub loop-step-init : goal.loop-step-init
loop-step-init c =
    part_start c.args.forms.now c.args.modules.now c.args.terms.now c.args.steps.now c.args.walker c.new-nodes.result.items c.new-nodes.ensures.items
    c.requires.inside c.requires.used c.requires.told

pub next-requires-clause-modules : goal.next-requires-clause-modules
next-requires-clause-modules c = c.requires.modules

pub next-requires-clause-inside : goal.next-requires-clause-inside
next-requires-clause-inside c = c.loop-step.invariant.inside

pub next-requires-clause-used : goal.next-requires-clause-used
next-requires-clause-used c = c.loop-step.invariant.used

pub next-requires-clause-may : goal.next-requires-clause-may
next-requires-clause-may c =
    part_may c.args.forms.now c.args.modules.now c.args.terms.now c.args.steps.now c.args.walker c.loop-step.step-index c.loop-step.walker
    c.loop-step.nodes.items _ c.loop-step.invariant c.loop-step-test.true

pub loop-step-preserved : goal.loop-step-preserved
loop-step-preserved c =
    part_more c.args.forms.now c.args.modules.now c.args.terms.now c.args.steps.now c.args.walker c.loop-step.step-index _ c.loop-step.walker c.next.new.self
    c.loop-step.nodes.items c.push.new.self.items _ c.in_ok-node.node
    c.loop-step.invariant c.loop-step-test.true c.in_ok-node.ensures c.in_ok-push.ensures.items refl

pub returns : goal.returns
returns c =
    part_end c.args.forms.now c.args.modules.now c.args.terms.now c.args.steps.now c.args.walker c.loop-step.walker c.loop-step.nodes.items
    c.loop-step.step-index c.loop-step-test.false c.loop-step.invariant

pub returns-in_err-node : goal.returns-in_err-node
returns-in_err-node c = IfOk-from_err c.from_residual.result _ c.from_residual.ensures.0

pub returns-in_err-push : goal.returns-in_err-push
returns-in_err-push c = IfOk-from_err c.from_residual-in_err-push.result _ c.from_residual-in_err-push.ensures.0
