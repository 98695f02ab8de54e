use Rattle.std.proofs.Common.{suc, length}
use Rattle.ll_bank.specs.Nodes.{term_tree}
use Rattle.ll_unify.specs.Bindings.{IsPlaceOf, AreSame, IsAmong, chain}
use Rattle.ll_unify.proofs.table.walk.Given as goal

abbrev pub invariant-loop-to : goal.invariant-loop-to
invariant-loop-to g l = record {
  place : IsPlaceOf l.bank (g.T.Bindings.table l.table) l.end.0;
  same : AreSame l.bank (g.T.Bindings.table l.table) (term_tree l.bank l.end.0) (term_tree l.bank l.fn.at.0);
  among : IsAmong (g.T.Bindings.table l.table) l.fn.at l.end;
}

abbrev pub decreases-loop-to : goal.decreases-loop-to
decreases-loop-to g l = chain l.bank (g.T.Bindings.table l.table).bound (suc (length (g.T.Bindings.table l.table).bound)) (term_tree l.bank l.end.0)
