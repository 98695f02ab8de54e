use Rattle.ll_laws.proofs.derivations.DealtShown.{answers-shown}
use Rattle.ll_laws.proofs.answers_are_shown.Goals as goal

pub returns : goal.returns
returns c = answers-shown
