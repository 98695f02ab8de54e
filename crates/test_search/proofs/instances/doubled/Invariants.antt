use Rattle.std.proofs.Common.{◌≤◌, length}
use Rattle.ll_bank.specs.Nodes.{HasTerm}
use Rattle.test_search.proofs.instances.doubled.Given as goal

abbrev pub invariant-loop : goal.invariant-loop
invariant-loop l = HasTerm l.bank l.at.0 × (length l.initial.bank.terms ≤ length l.bank.terms)
