use Rattle.ll_bank.specs.Nodes.{HasTerm}
use Rattle.test_search.proofs.bank.doubled.Given as goal

abbrev pub invariant-loop : goal.invariant-loop
invariant-loop l = HasTerm l.bank l.at.0
