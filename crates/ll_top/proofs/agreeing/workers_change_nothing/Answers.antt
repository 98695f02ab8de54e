use Rattle.ll_top.proofs.AgreeingWorkers.{workers-change-nothing}
use Rattle.ll_top.proofs.agreeing.workers_change_nothing.Goals as goal

pub returns : goal.returns
returns c = workers-change-nothing
