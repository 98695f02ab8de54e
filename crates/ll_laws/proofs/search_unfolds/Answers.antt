use Rattle.ll_laws.proofs.search.SearchLaws.{events_none, cost_none, events_answer, cost_answer, events_reached, cost_zero, events_step, cost_step}
use Rattle.ll_laws.proofs.search_unfolds.Goals as goal

pub returns-clause-stuck : goal.returns-clause-stuck
returns-clause-stuck c = λ m n s h. (events_none m n s h, cost_none m n s h)

pub returns-clause-ended : goal.returns-clause-ended
returns-clause-ended c = λ m n s t h e. (events_answer m n s t h e, cost_answer m n s t h e)

pub returns-clause-bound : goal.returns-clause-bound
returns-clause-bound c = λ m s t i rest h e. (events_reached m s t i rest h e, cost_zero m s)

pub returns-clause-stepped : goal.returns-clause-stepped
returns-clause-stepped c = λ m n s t i rest h e. (events_step m n s t i rest h e, cost_step m n s t i rest h e)
