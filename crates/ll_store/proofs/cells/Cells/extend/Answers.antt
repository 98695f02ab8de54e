use Rattle.std.proofs.Common.{map, ap, sym, ◌∙◌, ◌++◌, take, drop, length}
use Rattle.std.proofs.lemmas.List.{length-map}
use Rattle.ll_store.specs.Cells.{before}
use Rattle.ll_store.specs.Packed.{cell_of, change_of}
use Rattle.ll_store.specs.Trails.{Trailed}
use Rattle.ll_store.specs.Segments.{CellSight, Renewed, renewed_of, renew, changes_in}
use Rattle.ll_store.proofs.SegmentLemmas.{given-back}
use Rattle.ll_store.proofs.cells.Cells.extend.Goals as goal

pub returns-in-Err-clause-refused : goal.returns-in-Err-clause-refused
returns-in-Err-clause-refused c =
    let i = c.self.inside in let s = c.segment.inside in
    let now : Trailed = record { cells = map cell_of c.renew.new.cells.items; changes = map change_of c.note_changes.new.trail.items } in
    given-back c.args.segment.now c.args.self.now now c.cut.new.self s.count c.len-changes.result c.requires
    (ap (λ (v : CellSight). v.count) c.segment.view_is)
    (c.len-changes.ensures ∙ (i.trail.ok.0 ∙ (sym (length-map i.trail.items change_of) ∙ ap (λ (t : Trailed). length t.changes) c.self.view_is)))
    (c.renew.ensures ∙ (λ j. renew (map renewed_of (c.deref-2.ensures.value j)) (map cell_of i.slots.items))
    ∙ (λ j. renew (c.segment.view_is j).renewed (c.self.view_is j).cells))
    (c.in_ok-note_changes.ensures.noted
    ∙ (ap (λ rs. map change_of i.trail.items ++ map (λ (r : Renewed). r.change) (map renewed_of rs)) c.deref.ensures.value
    ∙ (λ j. (c.self.view_is j).changes ++ changes_in (c.segment.view_is j))))
    (c.cut.ensures.cells
    ∙ ap (λ xs. take s.count (before (drop c.len-changes.result (map change_of c.note_changes.new.trail.items)) (map cell_of xs))) c.in-Err.ensures.items)
    c.cut.ensures.changes
