use Rattle.ll_core.proofs.sound.Facts.{spread_is}
use Rattle.ll_core.proofs.runs.Runs.{runs_sound, claims_once}
use Rattle.ll_core.proofs.runs.Owing.{reports_owed}
use Rattle.ll_core.proofs.laws.every_run.Goals as goal

pub returns-clause-spreads : goal.returns-clause-spreads
returns-clause-spreads g c = λ p problem pair s. spread_is g.N.Batch.of g.N.Batch.alternatives p problem pair s

pub returns-clause-sound : goal.returns-clause-sound
returns-clause-sound g c = λ root workers pair es q e r. runs_sound g.N.Batch.of g.N.Batch.alternatives root workers pair es q e r

pub returns-clause-once : goal.returns-clause-once
returns-clause-once g c = λ root workers pair es q e r. claims_once g.N.Batch.of g.N.Batch.alternatives root workers pair es q e r

pub returns-clause-reports : goal.returns-clause-reports
returns-clause-reports g c = λ root workers pair es q e r u b. reports_owed g.N.Batch.of g.N.Batch.alternatives root workers pair es q e r u b
