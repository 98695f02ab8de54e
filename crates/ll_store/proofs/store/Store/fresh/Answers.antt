use Rattle.std.proofs.Common.{refl, sym, None, subst}
use Rattle.ll_store.specs.declared.cells.Cell.{Cell}
use Rattle.ll_store.specs.declared.store.Store.{Store}
use Rattle.ll_store.specs.Trails.{Trailed}
use Rattle.ll_store.specs.Stored.{Stored, stored, KeepsMarks}
use Rattle.ll_store.proofs.MarkLemmas.{marks-cell, marks-same, either-way}
use Rattle.ll_store.proofs.store.Store.fresh.Goals as goal

pub returns-clause-marks : goal.returns-clause-marks
returns-clause-marks c =
    let d : Cell = record { to = None; level = c.args.level } in
    let new : Store = record { bank = c.args.self.now.bank; cells = c.fresh.new.self } in
    either-way c.fresh.result
    (λ e. marks-cell (stored c.args.self.now) (stored new) d refl c.fresh.ensures.changes e)
    (λ e. subst (λ (t : Trailed). let s : Stored = record { nodes = c.args.self.now.bank; cells = t.cells; changes = t.changes } in
    KeepsMarks (stored c.args.self.now) s) (sym e) (marks-same (stored c.args.self.now)))
    c.fresh.ensures.cells c.fresh.ensures.refused
