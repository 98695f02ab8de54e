use Rattle.ll_store.specs.declared.store.Store.{Store}
use Rattle.ll_bank.proofs.CallerLemmas.{Extends-refl}
use Rattle.ll_bind.proofs.Heads.{marks_more}
use Rattle.ll_bind.proofs.head.meet.Goals as goal

pub returns-clause-marks : goal.returns-clause-marks
returns-clause-marks c =
    let new : Store = record { bank = c.args.store.now.bank; cells = c.unify_end.new.table } in
    marks_more c.args.store.now new (Extends-refl c.args.store.now.bank) c.unify_end.ensures.grows
