use Rattle.std.proofs.lemmas.Result.{IfOk-from_err}
use Rattle.std.proofs.Common.{sym, ap, ◌∙◌, ◌++◌, map, arith}
use Rattle.std.proofs.lemmas.List.{append-nil, map-append}
use Rattle.ll_store.specs.Packed.{cell_of, change_of}
use Rattle.ll_store.specs.Segments.{renewed_of, changed_in, renewal}
use Rattle.ll_store.proofs.SegmentLemmas.{noted-in, noted-out}
use Rattle.ll_store.proofs.segment.note.Goals as goal

pub returns-then-count-var : goal.returns-then-count-var
returns-then-count-var c =
    sym (append-nil (map renewed_of c.args.made.now.items))
    ∙ ap (λ rs. map renewed_of c.args.made.now.items ++ rs) (sym
    (noted-out c.args.count (renewal (map cell_of c.args.cells.now) (change_of c.args.entry)) (changed_in (change_of c.args.entry)) c.var-var.result
    c.var-var.ensures c.if-count-var.true))

pub returns : goal.returns
returns c =
    ap (map renewed_of) c.in_ok-push.ensures.items
    ∙ (map-append renewed_of c.args.made.now.items _
    ∙ ap (λ rs. map renewed_of c.args.made.now.items ++ rs) (noted-in c.args.count c.args.cells.now c.args.entry _ c.var-var.result c.var-var.ensures
    (omega (arith, c.if-count-var.false)) c.requires))

pub returns-in_err-push : goal.returns-in_err-push
returns-in_err-push c = IfOk-from_err c.from_residual.result _ c.from_residual.ensures.0
