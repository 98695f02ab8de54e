use Rattle.ll_core.proofs.events.LawfulEvents.{keeps_sound, holds_kept, none_kept, share_later, claim_gives, publish_splits, report_closes, takes_alone}
use Rattle.ll_core.proofs.events.LawfulEvents.{workers_kept}
use Rattle.ll_core.proofs.runs.LaterPools.{later_event}
use Rattle.ll_core.proofs.laws.lawful_events.Goals as goal

pub returns-clause-sound : goal.returns-clause-sound
returns-clause-sound g c = λ p q e problem pair s l d. keeps_sound g.N.Batch.of g.N.Batch.alternatives p q problem pair s e l d

pub returns-clause-later : goal.returns-clause-later
returns-clause-later g c = λ p q e d. later_event g.N.Batch.alternatives p q e d

pub returns-clause-others_open : goal.returns-clause-others_open
returns-clause-others_open g c = λ p q e problem pair v w i x s d by other h. (
  holds_kept g.N.Batch.of g.N.Batch.alternatives p q v w e d by other i x h,
  let piece = h.piece in share_later g.N.Batch.of g.N.Batch.alternatives p q e s.shape d i x piece,
)

pub returns-clause-others_none : goal.returns-clause-others_none
returns-clause-others_none g c = λ p q e v w d by other h. none_kept g.N.Batch.of g.N.Batch.alternatives p q v w e d by other h

pub returns-clause-claims : goal.returns-clause-claims
returns-clause-claims g c = λ p q w i b k d. claim_gives g.N.Batch.of g.N.Batch.alternatives p q w i b k d

pub returns-clause-publishes : goal.returns-clause-publishes
returns-clause-publishes g c = λ p q problem pair w i x n s l d h. publish_splits g.N.Batch.of g.N.Batch.alternatives p q problem pair w i x n s l d h

pub returns-clause-reports : goal.returns-clause-reports
returns-clause-reports g c = λ p q problem pair w report s d. report_closes g.N.Batch.of g.N.Batch.alternatives p q w report s.shape d

pub returns-clause-takes : goal.returns-clause-takes
returns-clause-takes g c = λ p q e v i d by other. takes_alone g.N.Batch.of g.N.Batch.alternatives p q e v i d by other

pub returns-clause-workers : goal.returns-clause-workers
returns-clause-workers g c = λ p q e d. workers_kept g.N.Batch.of g.N.Batch.alternatives p q e d
