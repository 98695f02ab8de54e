use Rattle.ll_top.proofs.AgreeingSessions.{session-is-runs}
use Rattle.ll_top.proofs.agreeing.session_is_runs.Goals as goal

pub returns : goal.returns
returns c = session-is-runs c.faults_in_order.ensures.query
