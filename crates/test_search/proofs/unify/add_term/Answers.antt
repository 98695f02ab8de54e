use Rattle.ll_bank.proofs.CallerLemmas.{Extends-refl}
use Rattle.test_search.proofs.unify.add_term.Goals as goal

pub returns-else-number-count-clause-keeps : goal.returns-else-number-count-clause-keeps
returns-else-number-count-clause-keeps c = Extends-refl c.args.bank.now

pub returns-else-part-made-clause-keeps : goal.returns-else-part-made-clause-keeps
returns-else-part-made-clause-keeps c = Extends-refl c.args.bank.now

pub returns-else-first-made-clause-keeps : goal.returns-else-first-made-clause-keeps
returns-else-first-made-clause-keeps c = Extends-refl c.args.bank.now
