use Rattle.std.proofs.Common.{take}
use Rattle.ll_polarity.proofs.problems.QueryParts.{AreAsked}
use Rattle.ll_polarity.proofs.asking.asked.Given as goal

abbrev pub invariant-loop-variable : goal.invariant-loop-variable
invariant-loop-variable l = AreAsked l.texts l.fn.names (take l.variable-index l.variables) l.names l.asked.items
