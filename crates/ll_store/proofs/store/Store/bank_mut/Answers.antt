use Rattle.std.proofs.Common.{refl}
use Rattle.ll_store.specs.Stored.{stored}
use Rattle.ll_store.proofs.MarkLemmas.{marks-extend}
use Rattle.ll_store.proofs.store.Store.bank_mut.Goals as goal

pub returns : goal.returns
returns c = ((refl, λ w. refl), record { lends = tt; value = refl; marks = λ nodes e. marks-extend (stored c.args.self.now) nodes e })
