use Rattle.ll_laws.proofs.derivations.DealtShown.{runs-shown}
use Rattle.ll_laws.proofs.runs_are_shown.Goals as goal

pub returns : goal.returns
returns c = runs-shown
