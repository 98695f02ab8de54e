use Rattle.std.proofs.Common.{take}
use Rattle.ll_unify.specs.Bindings.{Falls}
use Rattle.ll_unify.proofs.bind.lower.Given as goal

abbrev pub invariant-loop-var : goal.invariant-loop-var
invariant-loop-var g l = record {
  falls : Falls (g.T.Bindings.table l.fn.table) (g.T.Bindings.table l.table) (take l.var-index l.vars) l.level;
  grows : g.T.Bindings.grows l.fn.table l.table;
}
