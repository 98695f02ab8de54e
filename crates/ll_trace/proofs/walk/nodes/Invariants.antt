use Rattle.ll_trace.specs.Walker.{IsPartWay}
use Rattle.ll_trace.proofs.walk.nodes.Given as goal

abbrev pub invariant-loop-step : goal.invariant-loop-step
invariant-loop-step l = IsPartWay l.forms l.modules l.terms l.steps l.fn.walker l.step-index l.walker l.nodes.items
