use Rattle.ll_core.proofs.walks.FrontStays.{given_later}
use Rattle.ll_core.proofs.events.LawfulEvents.{leaves_taken, leaves_marks}
use Rattle.ll_core.proofs.runs.Owing.{opening_given, step_given, given_in_front, all_events, all_costs}
use Rattle.ll_core.proofs.laws.taken_reports.Goals as goal

pub returns-clause-none : goal.returns-clause-none
returns-clause-none g c = λ root workers. opening_given g.N.Batch.of g.N.Batch.alternatives root workers

pub returns-clause-on : goal.returns-clause-on
returns-clause-on g c = λ p q problem pair reports s given e l d. step_given g.N.Batch.of g.N.Batch.alternatives p q problem pair reports s given e l d

pub returns-clause-stays : goal.returns-clause-stays
returns-clause-stays g c = λ p q problem pair reports s t later same given.
    given_later g.N.Batch.of g.N.Batch.alternatives p q problem pair s t later same reports given

pub returns-clause-front : goal.returns-clause-front
returns-clause-front g c = λ p problem pair reports s given. given_in_front g.N.Batch.of g.N.Batch.alternatives p problem pair reports s given

pub returns-clause-left : goal.returns-clause-left
returns-clause-left g c = λ p problem pair reports s untried busy given. (
  all_events g.N.Batch.of g.N.Batch.alternatives p problem pair s untried busy reports given,
  all_costs g.N.Batch.of g.N.Batch.alternatives p problem pair s untried busy reports given,
)

pub returns-clause-leaves_taken : goal.returns-clause-leaves_taken
returns-clause-leaves_taken g c = λ p q e d none. leaves_taken g.N.Batch.of g.N.Batch.alternatives p q e d none

pub returns-clause-leaves_marks : goal.returns-clause-leaves_marks
returns-clause-leaves_marks g c = λ p q e d none. leaves_marks g.N.Batch.of g.N.Batch.alternatives p q e d none
