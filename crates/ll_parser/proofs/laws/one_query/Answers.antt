use Rattle.ll_parser.specs.Text.{queries}
use Rattle.ll_parser.specs.FlatText.{FlatQuery, query_start, query_step, query_final}
use Rattle.ll_parser.proofs.machines.Decides.{one-parse}
use Rattle.ll_parser.proofs.machines.Queries.{decides-queries}
use Rattle.ll_parser.proofs.verdicts.Answer.{has-answer}
use Rattle.ll_parser.proofs.verdicts.Exclusive.{one-tree, one-fault, no-fault}
use Rattle.ll_parser.proofs.laws.one_query.Goals as goal

pub returns-clause-either : goal.returns-clause-either
returns-clause-either c = λ limit ts end. has-answer queries FlatQuery query_start query_step query_final decides-queries limit end ts

pub returns-clause-tree : goal.returns-clause-tree
returns-clause-tree c = λ limit ts p q d e. one-tree queries (one-parse queries FlatQuery query_start query_step query_final decides-queries) ts p q d.0 e.0

pub returns-clause-fault : goal.returns-clause-fault
returns-clause-fault c = λ limit ts end. one-fault queries limit ts end

pub returns-clause-not_both : goal.returns-clause-not_both
returns-clause-not_both c = λ limit ts end. no-fault queries limit ts end
