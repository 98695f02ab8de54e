use Rattle.std.proofs.Common.{sym, ap, ◌∙◌, List, map, take, drop}
use Rattle.std.proofs.lemmas.List.{take-map}
use Rattle.ll_store.specs.declared.packed.Entry.{Entry}
use Rattle.ll_store.specs.Cells.{before}
use Rattle.ll_store.specs.Packed.{cell_of, change_of}
use Rattle.ll_store.specs.Trails.{Trailed}
use Rattle.ll_store.proofs.cells.Cells.cut.Goals as goal

pub returns-clause-cells : goal.returns-clause-cells
returns-clause-cells c =
    ap (map cell_of) c.truncate-2.ensures.items
    ∙ (sym (take-map cell_of c.args.cells c.take_back.new.cells.items)
    ∙ ap (take c.args.cells) (c.take_back.ensures
    ∙ (ap (λ (xs : List Entry). before (drop c.args.changes (map change_of xs)) (map cell_of c.self.inside.slots.items)) c.as_slice.ensures.value
    ∙ ap (λ (s : Trailed). before (drop c.args.changes s.changes) s.cells) c.self.view_is)))

pub returns-clause-changes : goal.returns-clause-changes
returns-clause-changes c =
    ap (map change_of) c.truncate.ensures.items
    ∙ (sym (take-map change_of c.args.changes c.self.inside.trail.items) ∙ ap (λ (s : Trailed). take c.args.changes s.changes) c.self.view_is)
