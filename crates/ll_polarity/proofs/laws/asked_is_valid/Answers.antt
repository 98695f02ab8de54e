use Rattle.std.proofs.Common.{length, arith}
use Rattle.ll_polarity.specs.Asks.{part_of}
use Rattle.ll_polarity.proofs.problems.Problems.{part_valid, asked_problem_valid}
use Rattle.ll_polarity.proofs.laws.asked_is_valid.Goals as goal

pub returns-clause-part : goal.returns-clause-part
returns-clause-part c = λ program whole faultless. part_valid program (length (part_of program).names) faultless whole (omega arith)

pub returns-clause-problem : goal.returns-clause-problem
returns-clause-problem c = asked_problem_valid
