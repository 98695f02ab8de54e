use Rattle.ll_bank.proofs.CallerLemmas.{Extends-refl}
use Rattle.ll_sequent.proofs.premises.goal_of.Goals as goal

pub returns-in-Bounded-clause-keeps : goal.returns-in-Bounded-clause-keeps
returns-in-Bounded-clause-keeps c = Extends-refl c.args.bank.now
