use Rattle.std.proofs.Common.{refl}
use Rattle.ll_store.specs.declared.store.Store.{Store}
use Rattle.ll_store.specs.Stored.{stored}
use Rattle.ll_store.proofs.MarkLemmas.{marks-grow}
use Rattle.ll_store.proofs.store.Store.lower.Goals as goal

pub returns-clause-marks : goal.returns-clause-marks
returns-clause-marks c =
    let new : Store = record { bank = c.args.self.now.bank; cells = c.lower.new.self } in
    marks-grow (stored c.args.self.now) (stored new) c.lower.ensures.grows.more refl c.lower.ensures.grows.changes c.lower.ensures.grows.back
