use Rattle.ll_top.proofs.following.Kept.{answers_are_kept, derivations_are_kept}
use Rattle.ll_top.proofs.textbook.answers_are_kept.Goals as goal

pub returns-clause-kept : goal.returns-clause-kept
returns-clause-kept c = answers_are_kept

pub returns-clause-derivations : goal.returns-clause-derivations
returns-clause-derivations c = derivations_are_kept
