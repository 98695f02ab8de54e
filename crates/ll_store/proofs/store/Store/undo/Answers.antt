use Rattle.ll_store.specs.declared.store.Store.{Store}
use Rattle.ll_store.specs.Stored.{stored}
use Rattle.ll_store.proofs.MarkLemmas.{marks-undone}
use Rattle.ll_store.proofs.store.Store.undo.Goals as goal

pub returns-clause-marks : goal.returns-clause-marks
returns-clause-marks c =
    let new : Store = record { bank = c.cut-2.new.self; cells = c.cut.new.self } in
    marks-undone (stored c.args.self.now) (stored new) c.args.mark c.requires c.cut.ensures.changes c.cut.ensures.cells c.cut-2.ensures
