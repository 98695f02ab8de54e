use Rattle.ll_bank.specs.Nodes.{HasForm}
use Rattle.test_search.proofs.bank.leftmost.Given as goal

abbrev pub invariant-loop : goal.invariant-loop
invariant-loop l = HasForm l.bank l.at.0
