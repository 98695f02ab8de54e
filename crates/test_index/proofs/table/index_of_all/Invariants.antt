use Rattle.ll_laws.specs.Shown.{HasClauses}
use Rattle.test_index.proofs.table.index_of_all.Given as goal

abbrev pub invariant-loop-label : goal.invariant-loop-label
invariant-loop-label l = HasClauses l.bank l.clauses.items
