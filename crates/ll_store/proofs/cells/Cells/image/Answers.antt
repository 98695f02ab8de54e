use Rattle.std.proofs.Common.{◌≡◌, sym, ap, ◌∙◌, List, map, take, drop}
use Rattle.std.proofs.lemmas.List.{take-map}
use Rattle.ll_store.specs.declared.packed.Slot.{Slot}
use Rattle.ll_store.specs.declared.packed.Entry.{Entry}
use Rattle.ll_store.specs.Cells.{before}
use Rattle.ll_store.specs.Packed.{cell_of, change_of}
use Rattle.ll_store.specs.Trails.{Trailed}
use Rattle.ll_store.proofs.CellLemmas.{before-take}
use Rattle.std.proofs.lemmas.Result.{IfOk-from_err}
use Rattle.ll_store.proofs.cells.Cells.image.Goals as goal

pub returns-clause-cells : goal.returns-clause-cells
returns-clause-cells c =
    let past = drop c.args.changes (map change_of c.self.inside.trail.items) in
    let first : c.in_ok-slots.slots.items ≡ take c.args.cells c.self.inside.slots.items =
    c.in_ok-slots.ensures.items ∙ ap (take c.args.cells) c.deref.ensures.value in
    c.take_back.ensures
    ∙ (ap (λ (xs : List Entry). before (drop c.args.changes (map change_of xs)) (map cell_of c.in_ok-slots.slots.items)) c.as_slice.ensures.value
    ∙ (ap (λ (xs : List Slot). before past (map cell_of xs)) first
    ∙ (ap (before past) (sym (take-map cell_of c.args.cells c.self.inside.slots.items))
    ∙ (sym (before-take c.args.cells past (map cell_of c.self.inside.slots.items))
    ∙ ap (λ (s : Trailed). take c.args.cells (before (drop c.args.changes s.changes) s.cells)) c.self.view_is))))

pub returns-clause-changes : goal.returns-clause-changes
returns-clause-changes c =
    ap (map change_of) (c.in_ok-trail.ensures.items ∙ ap (take c.args.changes) c.deref-2.ensures.value)
    ∙ (sym (take-map change_of c.args.changes c.self.inside.trail.items) ∙ ap (λ (s : Trailed). take c.args.changes s.changes) c.self.view_is)

pub returns-in_err-slots-clause-cells : goal.returns-in_err-slots-clause-cells
returns-in_err-slots-clause-cells c = IfOk-from_err c.from_residual.result _ c.from_residual.ensures.0

pub returns-in_err-slots-clause-changes : goal.returns-in_err-slots-clause-changes
returns-in_err-slots-clause-changes c = IfOk-from_err c.from_residual.result _ c.from_residual.ensures.0

pub returns-in_err-trail-clause-cells : goal.returns-in_err-trail-clause-cells
returns-in_err-trail-clause-cells c = IfOk-from_err c.from_residual-in_err-trail.result _ c.from_residual-in_err-trail.ensures.0

pub returns-in_err-trail-clause-changes : goal.returns-in_err-trail-clause-changes
returns-in_err-trail-clause-changes c = IfOk-from_err c.from_residual-in_err-trail.result _ c.from_residual-in_err-trail.ensures.0
