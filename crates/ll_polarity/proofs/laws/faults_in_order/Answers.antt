use Rattle.ll_polarity.proofs.faults.TextOrder.{order_program, order_query}
use Rattle.ll_polarity.proofs.laws.faults_in_order.Goals as goal

pub returns-clause-program : goal.returns-clause-program
returns-clause-program c = order_program

pub returns-clause-query : goal.returns-clause-query
returns-clause-query c = order_query
