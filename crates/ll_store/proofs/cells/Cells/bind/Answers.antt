use Rattle.std.proofs.lemmas.Result.{IfOk-from_err}
use Rattle.std.proofs.Common.{◌≡◌, ap, ◌∙◌, ◌++◌, ◌∷◌, [], map, Some}
use Rattle.std.proofs.lemmas.List.{map-append}
use Rattle.ll_store.specs.declared.cells.Change.TheVariants.{Bound}
use Rattle.ll_store.specs.Cells.{update, with_to, taken_back}
use Rattle.ll_store.specs.Packed.{cell_of, change_of}
use Rattle.ll_store.proofs.CellLemmas.{bind-back}
use Rattle.ll_store.proofs.cells.Cells.bind.Goals as goal

pub returns-clause-grows : goal.returns-clause-grows
returns-clause-grows c =
    let cells : map cell_of c.set_to.new.cells.items ≡ update c.args.var (with_to (Some c.args.to)) c.args.self.now.cells =
    c.set_to.ensures ∙ (λ i. update c.args.var (with_to (c.in_ok-kept.ensures.kept i)) (c.self.view_is i).cells) in
    record {
      more = Bound c.args.var ∷ [];
      changes = ap (map change_of) c.in_ok-push.ensures.items
          ∙ (map-append change_of c.self.inside.trail.items (c.in_ok-entry.entry ∷ [])
          ∙ (λ i. (c.self.view_is i).changes ++ c.in_ok-entry.ensures.made i ∷ []));
      back = ap (taken_back (Bound c.args.var)) cells ∙ bind-back c.args.var c.args.to c.args.self.now.cells c.requires;
    }

pub returns-in_err-kept-clause-cells : goal.returns-in_err-kept-clause-cells
returns-in_err-kept-clause-cells c = IfOk-from_err c.from_residual.result _ c.from_residual.ensures.0

pub returns-in_err-entry-clause-cells : goal.returns-in_err-entry-clause-cells
returns-in_err-entry-clause-cells c = IfOk-from_err c.from_residual-in_err-entry.result _ c.from_residual-in_err-entry.ensures.0

pub returns-in_err-push-clause-cells : goal.returns-in_err-push-clause-cells
returns-in_err-push-clause-cells c = IfOk-from_err c.from_residual-in_err-push.result _ c.from_residual-in_err-push.ensures.0

pub returns-clause-refused : goal.returns-clause-refused
returns-clause-refused c = _
