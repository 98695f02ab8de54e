use Rattle.std.proofs.Common.{refl, sym, ap, ◌∙◌, map, take, drop}
use Rattle.std.proofs.lemmas.List.{drop-map}
use Rattle.ll_store.specs.Packed.{cell_of, change_of}
use Rattle.ll_store.specs.Segments.{renewed_of, renewals}
use Rattle.ll_store.proofs.SegmentLemmas.{now_cells, leads-cut, many}
use Rattle.std.proofs.lemmas.Result.{IfOk-from_err}
use Rattle.ll_store.proofs.cells.Cells.segment.Goals as goal

pub renewals-requires-clause-count : goal.renewals-requires-clause-count
renewals-requires-clause-count c =
    let t = c.args.self.now in let i = c.self.inside in
    many t.cells (drop c.args.to.1 t.changes) c.args.from.0 c.args.to.0 c.take_back.new.cells.items c.deref-2.result.now c.requires.cells.0 c.requires.cells.1
    (now_cells i.slots.items c.in_ok-now.now.items c.take_back.new.cells.items i.trail.items c.as_slice.result.now t c.args.to.0 c.args.to.1
    (c.in_ok-now.ensures.items ∙ ap (take c.args.to.0) c.deref.ensures.value) c.as_slice.ensures.value
    c.take_back.ensures c.self.view_is) c.deref-2.ensures.value

pub behind-requires : goal.behind-requires
behind-requires c =
    let t = c.args.self.now in let i = c.self.inside in
    many t.cells (drop c.args.to.1 t.changes) c.args.from.0 c.args.to.0 c.take_back.new.cells.items c.deref-3.result.now c.requires.cells.0 c.requires.cells.1
    (now_cells i.slots.items c.in_ok-now.now.items c.take_back.new.cells.items i.trail.items c.as_slice.result.now t c.args.to.0 c.args.to.1
    (c.in_ok-now.ensures.items ∙ ap (take c.args.to.0) c.deref.ensures.value) c.as_slice.ensures.value
    c.take_back.ensures c.self.view_is) c.deref-3.ensures.value

pub returns : goal.returns
returns c =
    let t = c.args.self.now in let i = c.self.inside in let now = c.take_back.new.cells.items in
    leads-cut t i.slots.items now i.trail.items c.args.from c.args.to
    (record { count = c.args.from.0; renewed = map renewed_of c.in_ok-renewed.renewed.items; more = map cell_of c.in_ok-more.more.items })
    c.requires.cells.0 c.requires.cells.1 c.requires.changes.0 c.requires.changes.1
    (now_cells i.slots.items c.in_ok-now.now.items now i.trail.items c.as_slice.result.now t c.args.to.0 c.args.to.1
    (c.in_ok-now.ensures.items ∙ ap (take c.args.to.0) c.deref.ensures.value) c.as_slice.ensures.value c.take_back.ensures c.self.view_is)
    c.self.view_is refl
    (c.in_ok-renewed.ensures ∙ (λ j. renewals c.args.from.0 (map cell_of (c.deref-2.ensures.value j))
    (map change_of (drop c.args.from.1 (take c.args.to.1 (c.as_slice-2.ensures.value j))))))
    (ap (map cell_of) (c.in_ok-more.ensures ∙ ap (drop c.args.from.0) c.deref-3.ensures.value) ∙ sym (drop-map cell_of c.args.from.0 now))

pub returns-in_err-now : goal.returns-in_err-now
returns-in_err-now c = IfOk-from_err c.from_residual.result _ c.from_residual.ensures.0

pub returns-in_err-renewed : goal.returns-in_err-renewed
returns-in_err-renewed c = IfOk-from_err c.from_residual-in_err-renewed.result _ c.from_residual-in_err-renewed.ensures.0

pub returns-in_err-more : goal.returns-in_err-more
returns-in_err-more c = IfOk-from_err c.from_residual-in_err-more.result _ c.from_residual-in_err-more.ensures.0
