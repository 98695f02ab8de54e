use Rattle.std.proofs.Common.{refl, le_refl}
use Rattle.std.proofs.lemmas.Result.{IfOk-from_err, err_from_is_err_and}
use Rattle.ll_top.specs.texts.CallEnds.{nothing}
use Rattle.ll_top.specs.forms.Words.{shown_words}
use Rattle.ll_top.proofs.outcomes.OutcomeLemmas.{run-ended-as, not-prepared, run-reads}
use Rattle.ll_top.proofs.judging.ToldLemmas.{shelf-read, shelf-refused, sink-still}
use Rattle.ll_top.proofs.run_texts.Goals as goal

pub returns-clause-ends : goal.returns-clause-ends
returns-clause-ends g c =
    λ told fits. run-ended-as told _ _ (shown_words c.args.command.now) _ c.in_ok-problem.problem _ _ _ _ _ refl (c.in_ok-problem.ensures.prepares told fits)
    c.in_ok-problem.ensures.valid c.run.ensures.found c.run.ensures.text c.run.ensures.refused
    c.run.ensures.prefix

pub returns-in_err-problem-clause-kept : goal.returns-in_err-problem-clause-kept
returns-in_err-problem-clause-kept g c = c.in_err-problem.ensures.kept

pub returns-in_err-problem-clause-sink_faults_kept : goal.returns-in_err-problem-clause-sink_faults_kept
returns-in_err-problem-clause-sink_faults_kept g c = le_refl _

pub returns-in_err-problem-clause-ends : goal.returns-in_err-problem-clause-ends
returns-in_err-problem-clause-ends g c = λ told fits.
    not-prepared told _ _ _ (shown_words c.args.command.now) _ _ _ c.from_residual.ensures.1 (c.in_err-problem.ensures.prepares told fits)

pub returns-clause-kept : goal.returns-clause-kept
returns-clause-kept g c = c.in_ok-problem.ensures.kept

pub returns-clause-sink_faults_kept : goal.returns-clause-sink_faults_kept
returns-clause-sink_faults_kept g c = c.run.ensures.faults_kept

pub returns-clause-run_reads : goal.returns-clause-run_reads
returns-clause-run_reads g c =
    run-reads (shown_words c.args.command.now) _ _ _ _ c.in_ok-problem.problem _ c.in_ok-problem.ensures.reads c.run.ensures.found
    c.run.ensures.text

pub returns-in_err-problem-clause-run_reads : goal.returns-in_err-problem-clause-run_reads
returns-in_err-problem-clause-run_reads g c = IfOk-from_err c.from_residual.result _ c.from_residual.ensures.0

pub returns-in_err-problem-clause-shelf_told : goal.returns-in_err-problem-clause-shelf_told
returns-in_err-problem-clause-shelf_told g c =
    let p = err_from_is_err_and c.from_residual.result c.from_residual.ensures.1 in rw (p.1, p.2) (shelf-refused c.in_err-problem.ensures.shelf_told)

pub returns-in_err-problem-clause-sink_told : goal.returns-in_err-problem-clause-sink_told
returns-in_err-problem-clause-sink_told g c = sink-still _ _ c.from_residual.result refl

pub returns-clause-shelf_told : goal.returns-clause-shelf_told
returns-clause-shelf_told g c = shelf-read _ c.in_ok-problem.ensures.shelf_told

pub returns-clause-sink_told : goal.returns-clause-sink_told
returns-clause-sink_told g c = c.run.ensures.sink_told

pub returns-in_err-index-clause-kept : goal.returns-in_err-index-clause-kept
returns-in_err-index-clause-kept g c = c.in_ok-problem.ensures.kept

pub returns-in_err-index-clause-sink_faults_kept : goal.returns-in_err-index-clause-sink_faults_kept
returns-in_err-index-clause-sink_faults_kept g c = le_refl _

pub returns-in_err-index-clause-sink_told : goal.returns-in_err-index-clause-sink_told
returns-in_err-index-clause-sink_told g c = sink-still _ _ c.from_residual-in_err-index.result refl

pub returns-in_err-index-clause-shelf_told : goal.returns-in_err-index-clause-shelf_told
returns-in_err-index-clause-shelf_told g c = shelf-read _ c.in_ok-problem.ensures.shelf_told

pub returns-in_err-index-clause-run_reads : goal.returns-in_err-index-clause-run_reads
returns-in_err-index-clause-run_reads g c = IfOk-from_err c.from_residual-in_err-index.result _ c.from_residual-in_err-index.ensures.0

pub returns-in_err-index-clause-ends : goal.returns-in_err-index-clause-ends
returns-in_err-index-clause-ends g c = λ told fits.
    let p = err_from_is_err_and c.from_residual-in_err-index.result c.from_residual-in_err-index.ensures.1 in
    rw (p.1, p.2) (nothing refl)
