use Rattle.std.proofs.lemmas.Result.{IfOk-from_err}
use Rattle.std.proofs.Common.{arith, map}
use Rattle.ll_store.specs.Packed.{cell_of}
use Rattle.ll_store.specs.Segments.{renewed_of}
use Rattle.ll_store.proofs.SegmentLemmas.{renewals-step}
use Rattle.ll_store.proofs.segment.renewals.Goals as goal

pub loop-at-preserved : goal.loop-at-preserved
loop-at-preserved c =
    renewals-step c.args.changes.now c.args.range.0 c.loop-at.at _ c.args.count (map cell_of c.args.cells.now) (map renewed_of c.loop-at.made.items)
    (map renewed_of c.note.new.made.items) (omega arith) (omega arith) c.loop-at.invariant
    c.in_ok-note.ensures

pub returns-in_err-note : goal.returns-in_err-note
returns-in_err-note c = IfOk-from_err c.from_residual.result _ c.from_residual.ensures.0
