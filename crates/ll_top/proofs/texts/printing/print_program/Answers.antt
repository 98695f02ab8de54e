use Rattle.std.proofs.lemmas.Result.{err_from_is_err_and}
use Rattle.std.proofs.Common.{refl, le_refl, ap, Some}
use Rattle.ll_edge.proofs.CallerLemmas.{taken_front}
use Rattle.ll_top.proofs.judging.ToldLemmas.{shelf-read, shelf-refused, sink-still}
use Rattle.ll_top.proofs.texts.printing.print_program.Goals as goal

pub returns-in_err-bytes-clause-kept : goal.returns-in_err-bytes-clause-kept
returns-in_err-bytes-clause-kept g c = c.in_err-bytes.ensures.kept

pub returns-in_err-write_all-clause-kept : goal.returns-in_err-write_all-clause-kept
returns-in_err-write_all-clause-kept g c = c.in_ok-bytes.ensures.kept

pub returns-clause-kept : goal.returns-clause-kept
returns-clause-kept g c = c.in_ok-bytes.ensures.kept

pub returns-in_err-bytes-clause-sink_faults_kept : goal.returns-in_err-bytes-clause-sink_faults_kept
returns-in_err-bytes-clause-sink_faults_kept g c = le_refl _

pub returns-in_err-write_all-clause-sink_faults_kept : goal.returns-in_err-write_all-clause-sink_faults_kept
returns-in_err-write_all-clause-sink_faults_kept g c = c.in_err-write_all.ensures.faults_kept

pub returns-clause-sink_faults_kept : goal.returns-clause-sink_faults_kept
returns-clause-sink_faults_kept g c = c.in_ok-write_all.ensures.faults_kept

pub returns-clause-ends : goal.returns-clause-ends
returns-clause-ends g c = λ told fits.
    (c.in_ok-bytes.bytes.items, c.in_ok-bytes.ensures.bytes told fits, ap Some (rw c.deref.ensures.value at c.in_ok-write_all.ensures.takes))

pub returns-in_err-write_all-clause-ends : goal.returns-in_err-write_all-clause-ends
returns-in_err-write_all-clause-ends g c =
    let p = err_from_is_err_and c.from_residual-in_err-write_all.result c.from_residual-in_err-write_all.ensures.1 in
    λ told fits. rw (p.1, p.2) (
      c.in_ok-bytes.bytes.items,
      c.in_ok-bytes.ensures.bytes told fits,
      c.in_err-write_all.ensures.failed,
      taken_front (rw c.deref.ensures.value at c.in_err-write_all.ensures.takes_front),
    )

pub returns-in_err-bytes-clause-shelf_told : goal.returns-in_err-bytes-clause-shelf_told
returns-in_err-bytes-clause-shelf_told g c =
    let p = err_from_is_err_and c.from_residual.result c.from_residual.ensures.1 in rw (p.1, p.2) (shelf-refused c.in_err-bytes.ensures.shelf_told)

pub returns-in_err-write_all-clause-shelf_told : goal.returns-in_err-write_all-clause-shelf_told
returns-in_err-write_all-clause-shelf_told g c = shelf-read _ c.in_ok-bytes.ensures.shelf_told

pub returns-clause-shelf_told : goal.returns-clause-shelf_told
returns-clause-shelf_told g c = shelf-read _ c.in_ok-bytes.ensures.shelf_told

pub returns-in_err-bytes-clause-sink_told : goal.returns-in_err-bytes-clause-sink_told
returns-in_err-bytes-clause-sink_told g c = sink-still _ _ c.from_residual.result refl
