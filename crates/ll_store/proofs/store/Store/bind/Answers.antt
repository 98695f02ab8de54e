use Rattle.std.proofs.Common.{refl}
use Rattle.ll_store.specs.declared.store.Store.{Store}
use Rattle.ll_store.specs.Stored.{stored}
use Rattle.ll_store.proofs.MarkLemmas.{marks-grow}
use Rattle.ll_store.proofs.store.Store.bind.Goals as goal

pub returns-clause-marks : goal.returns-clause-marks
returns-clause-marks c =
    let new : Store = record { bank = c.args.self.now.bank; cells = c.bind.new.self } in
    marks-grow (stored c.args.self.now) (stored new) c.bind.ensures.grows.more refl c.bind.ensures.grows.changes c.bind.ensures.grows.back
