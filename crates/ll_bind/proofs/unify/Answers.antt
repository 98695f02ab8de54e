use Rattle.std.proofs.Common.{refl}
use Rattle.ll_store.specs.declared.store.Store.{Store}
use Rattle.ll_store.specs.Stored.{stored}
use Rattle.ll_store.proofs.CallerLemmas.{marks-grow}
use Rattle.ll_bind.proofs.unify.Goals as goal

pub returns-clause-marks : goal.returns-clause-marks
returns-clause-marks c =
    let new : Store = record { bank = c.args.store.now.bank; cells = c.unify.new.table } in
    let g = c.unify.ensures.grows in
    marks-grow (stored c.args.store.now) (stored new) g.more refl g.changes g.back
