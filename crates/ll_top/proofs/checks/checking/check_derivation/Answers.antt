use Rattle.std.proofs.Common.{refl, le_refl}
use Rattle.std.proofs.lemmas.Result.{err_from_is_err_and}
use Rattle.ll_top.proofs.judging.ToldLemmas.{shelf-read, shelf-refused, sink-still}
use Rattle.ll_top.proofs.checks.checking.check_derivation.Goals as goal

pub returns-in_err-write_finding-clause-ends : goal.returns-in_err-write_finding-clause-ends
returns-in_err-write_finding-clause-ends g c =
    let p = err_from_is_err_and c.from_residual-in_err-write_finding.result c.from_residual-in_err-write_finding.ensures.1 in
    λ told fits.
    rw (p.1, p.2) (
      c.in_ok-finding.finding,
      c.in_ok-finding.ensures.finds told fits,
      c.in_err-write_finding.ensures.failed,
      c.in_err-write_finding.ensures.prefix,
    )

pub returns-in_err-finding-clause-kept : goal.returns-in_err-finding-clause-kept
returns-in_err-finding-clause-kept g c = c.in_err-finding.ensures.kept

pub returns-in_err-write_finding-clause-kept : goal.returns-in_err-write_finding-clause-kept
returns-in_err-write_finding-clause-kept g c = c.in_ok-finding.ensures.kept

pub returns-clause-kept : goal.returns-clause-kept
returns-clause-kept g c = c.in_ok-finding.ensures.kept

pub returns-in_err-finding-clause-sink_faults_kept : goal.returns-in_err-finding-clause-sink_faults_kept
returns-in_err-finding-clause-sink_faults_kept g c = le_refl _

pub returns-in_err-write_finding-clause-sink_faults_kept : goal.returns-in_err-write_finding-clause-sink_faults_kept
returns-in_err-write_finding-clause-sink_faults_kept g c = c.in_err-write_finding.ensures.faults_kept

pub returns-clause-sink_faults_kept : goal.returns-clause-sink_faults_kept
returns-clause-sink_faults_kept g c = c.in_ok-write_finding.ensures.faults_kept

pub returns-clause-ends : goal.returns-clause-ends
returns-clause-ends g c = λ told fits. (c.in_ok-finding.ensures.finds told fits, c.in_ok-write_finding.ensures.line)

pub returns-in_err-finding-clause-shelf_told : goal.returns-in_err-finding-clause-shelf_told
returns-in_err-finding-clause-shelf_told g c =
    let p = err_from_is_err_and c.from_residual.result c.from_residual.ensures.1 in rw (p.1, p.2) (shelf-refused c.in_err-finding.ensures.shelf_told)

pub returns-in_err-write_finding-clause-shelf_told : goal.returns-in_err-write_finding-clause-shelf_told
returns-in_err-write_finding-clause-shelf_told g c = shelf-read _ c.in_ok-finding.ensures.shelf_told

pub returns-clause-shelf_told : goal.returns-clause-shelf_told
returns-clause-shelf_told g c = shelf-read _ c.in_ok-finding.ensures.shelf_told

pub returns-in_err-finding-clause-sink_told : goal.returns-in_err-finding-clause-sink_told
returns-in_err-finding-clause-sink_told g c = sink-still _ _ c.from_residual.result refl
