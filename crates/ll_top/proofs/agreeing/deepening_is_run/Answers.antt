use Rattle.ll_top.proofs.AgreeingDeepenings.{deepening-is-run}
use Rattle.ll_top.proofs.agreeing.deepening_is_run.Goals as goal

pub returns : goal.returns
returns c = deepening-is-run
