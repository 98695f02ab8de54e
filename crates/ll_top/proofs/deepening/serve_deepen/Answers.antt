use Rattle.std.proofs.Common.{le_trans}
use Rattle.ll_top.specs.Endings.{status_of_found}
use Rattle.ll_top.specs.OwnEnds.{NoneFails}
use Rattle.ll_top.specs.forms.Words.{shown_deepen}
use Rattle.ll_top.proofs.outcomes.OwnLemmas.{done-ends}
use Rattle.ll_top.proofs.judging.ToldLemmas.{status-done}
use Rattle.std.specs.Prelude.{Some}
use Rattle.ll_top.proofs.calls.RefusedLemmas.{deepen-refused, refusal-past, refusal-told}
use Rattle.ll_top.proofs.deepening.serve_deepen.Goals as goal

pub returns-in-Ok-clause-ends : goal.returns-in-Ok-clause-ends
returns-in-Ok-clause-ends g c = λ told fits.
    done-ends _ status_of_found NoneFails _ _ _ c.in-Ok.found _ c.found_status.ensures (c.in-Ok.ensures.ends told fits)

pub returns-in-Ok-clause-kept : goal.returns-in-Ok-clause-kept
returns-in-Ok-clause-kept g c = c.in-Ok.ensures.kept

pub returns-in-Ok-clause-sink_faults_kept : goal.returns-in-Ok-clause-sink_faults_kept
returns-in-Ok-clause-sink_faults_kept g c = c.in-Ok.ensures.sink_faults_kept

pub returns-in-Ok-clause-deepened : goal.returns-in-Ok-clause-deepened
returns-in-Ok-clause-deepened g c = λ small told fits. rw c.found_status.ensures (c.in-Ok.ensures.deepened told fits)

pub returns-in-Ok-clause-faults_told : goal.returns-in-Ok-clause-faults_told
returns-in-Ok-clause-faults_told g c = status-done _ c.in-Ok.ensures.shelf_told c.in-Ok.ensures.sink_told

pub returns-in-Err-clause-ends : goal.returns-in-Err-clause-ends
returns-in-Err-clause-ends g c = λ told fits.
    deepen-refused g.O.Sink.faults (λ s. Some (g.O.Sink.taken s)) c.args.sink.now c.deepen_texts.new.sink c.end_refused.new.sink
    c.in-Err.ensures.sink_faults_kept _ told _ _ c.in-Err.refusal (shown_deepen c.args.deepen.now) (c.in-Err.ensures.ends told fits) c.end_refused.ensures.ends

pub returns-in-Err-clause-kept : goal.returns-in-Err-clause-kept
returns-in-Err-clause-kept g c = c.in-Err.ensures.kept

pub returns-in-Err-clause-sink_faults_kept : goal.returns-in-Err-clause-sink_faults_kept
returns-in-Err-clause-sink_faults_kept g c = le_trans c.in-Err.ensures.sink_faults_kept c.end_refused.ensures.faults_kept

pub returns-in-Err-clause-faults_told : goal.returns-in-Err-clause-faults_told
returns-in-Err-clause-faults_told g c =
    refusal-told g.F.Shelf.faults g.F.Shelf.absences g.O.Sink.faults _ _ c.args.sink.now c.deepen_texts.new.sink c.end_refused.new.sink _ _ _ _ _
    c.in-Err.refusal c.in-Err.ensures.shelf_told c.in-Err.ensures.sink_told c.end_refused.ensures.write_told c.end_refused.ensures.ends

pub returns-in-Err-clause-deepened : goal.returns-in-Err-clause-deepened
returns-in-Err-clause-deepened g c = λ small. absurd (refusal-past _ _ _ _ _ _ c.in-Err.refusal c.end_refused.ensures.ends small)
