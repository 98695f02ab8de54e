use Rattle.ll_bank.proofs.CallerLemmas.{Extends-refl}
use Rattle.ll_prooftext.proofs.terms.term_of.Goals as goal

pub returns-in-Term-clause-keeps : goal.returns-in-Term-clause-keeps
returns-in-Term-clause-keeps c = Extends-refl c.args.bank.now
