use Rattle.std.proofs.lemmas.Result.{IfOk-from_err}
use Rattle.std.proofs.Common.{◌≡◌, sym, ap, ◌∙◌, ◌++◌, ◌∷◌, [], map, slice_index_or}
use Rattle.std.proofs.lemmas.List.{map-append}
use Rattle.std.proofs.Math.ListN.{get_or-map}
use Rattle.ll_store.specs.Trails.{Trailed}
use Rattle.ll_store.specs.declared.cells.Change.TheVariants.{Lowered}
use Rattle.ll_store.specs.Cells.{update, with_level, taken_back}
use Rattle.ll_store.specs.Packed.{cell_of, change_of}
use Rattle.ll_store.proofs.CellLemmas.{lower-back}
use Rattle.ll_store.proofs.cells.Cells.lower.Goals as goal

pub returns-clause-grows : goal.returns-clause-grows
returns-clause-grows c =
    let f = with_level c.args.level in
    let slot = c.index.result.now in
    let cells : map cell_of c.set_level.new.cells.items ≡ update c.args.var f c.args.self.now.cells =
    c.set_level.ensures ∙ ap (λ (s : Trailed). update c.args.var f s.cells) c.self.view_is in
    record {
      more = Lowered c.args.var slot.level ∷ [];
      changes = ap (map change_of) c.in_ok-push.ensures.items
          ∙ (map-append change_of c.self.inside.trail.items (c.in_ok-entry.entry ∷ [])
          ∙ (λ i. (c.self.view_is i).changes ++ c.in_ok-entry.ensures.made i ∷ []));
      back = ap (taken_back (Lowered c.args.var slot.level)) cells
          ∙ lower-back c.args.var c.args.level (cell_of slot) c.args.self.now.cells
          (ap cell_of c.index.ensures ∙ (sym (get_or-map cell_of c.self.inside.slots.items c.args.var slot)
          ∙ ap (λ (s : Trailed). slice_index_or s.cells c.args.var (cell_of slot)) c.self.view_is));
    }

pub returns-in_err-entry-clause-cells : goal.returns-in_err-entry-clause-cells
returns-in_err-entry-clause-cells c = IfOk-from_err c.from_residual.result _ c.from_residual.ensures.0

pub returns-in_err-push-clause-cells : goal.returns-in_err-push-clause-cells
returns-in_err-push-clause-cells c = IfOk-from_err c.from_residual-in_err-push.result _ c.from_residual-in_err-push.ensures.0

pub returns-clause-refused : goal.returns-clause-refused
returns-clause-refused c = _
