use Rattle.ll_parser.specs.Text.{programs}
use Rattle.ll_parser.specs.FlatText.{FlatProgram, program_start, program_step, program_final}
use Rattle.ll_parser.proofs.machines.Decides.{one-parse}
use Rattle.ll_parser.proofs.machines.Programs.{decides-programs}
use Rattle.ll_parser.proofs.verdicts.Answer.{has-answer}
use Rattle.ll_parser.proofs.verdicts.Exclusive.{one-tree, one-fault, no-fault}
use Rattle.ll_parser.proofs.laws.one_program.Goals as goal

pub returns-clause-either : goal.returns-clause-either
returns-clause-either c = λ limit ts end. has-answer programs FlatProgram program_start program_step program_final decides-programs limit end ts

pub returns-clause-tree : goal.returns-clause-tree
returns-clause-tree c = λ limit ts p q d e. one-tree programs (one-parse programs FlatProgram program_start program_step program_final decides-programs) ts p q
    d.0 e.0

pub returns-clause-fault : goal.returns-clause-fault
returns-clause-fault c = λ limit ts end. one-fault programs limit ts end

pub returns-clause-not_both : goal.returns-clause-not_both
returns-clause-not_both c = λ limit ts end. no-fault programs limit ts end
