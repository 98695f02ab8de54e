use Rattle.ll_bank.specs.Nodes.{HasTerm}
use Rattle.test_texts.proofs.answers.list.Given as goal

abbrev pub invariant-loop-passed : goal.invariant-loop-passed
invariant-loop-passed l = HasTerm l.bank l.at.0
