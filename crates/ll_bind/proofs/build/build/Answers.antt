use Rattle.ll_bank.proofs.CallerLemmas.{Extends-refl}
use Rattle.ll_bind.proofs.build.build.Goals as goal

pub returns-in-Kept-clause-keeps : goal.returns-in-Kept-clause-keeps
returns-in-Kept-clause-keeps c = Extends-refl c.args.store.now.bank
