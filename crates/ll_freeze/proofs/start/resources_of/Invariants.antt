use Rattle.std.proofs.Common.{◌≡◌, map, take}
use Rattle.ll_laws.specs.declared.Clause.{Clause}
use Rattle.ll_freeze.proofs.start.resources_of.Given as goal

abbrev pub invariant-loop-clause : goal.invariant-loop-clause
invariant-loop-clause l = l.made.items ≡ map (λ (c : Clause). (c.kind, c.form)) (take l.clause-index l.clauses)
