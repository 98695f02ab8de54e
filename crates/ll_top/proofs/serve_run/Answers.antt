use Rattle.std.proofs.Common.{◌∙◌, arith, le_trans}
use Rattle.ll_top.specs.forms.Words.{shown_words}
use Rattle.ll_top.proofs.outcomes.OutcomeLemmas.{found-ends}
use Rattle.ll_top.proofs.calls.ProvedLemmas.{run-shown}
use Rattle.ll_top.proofs.calls.NothingLemmas.{asks-in-vain}
use Rattle.ll_top.proofs.judging.ToldLemmas.{status-done}
use Rattle.std.specs.Prelude.{Some}
use Rattle.ll_top.proofs.calls.RefusedLemmas.{run-refused, refusal-past, refusal-told}
use Rattle.ll_top.proofs.serve_run.Goals as goal

pub returns-in-Ok-clause-ends : goal.returns-in-Ok-clause-ends
returns-in-Ok-clause-ends g c = λ told fits.
    found-ends told _ _ _ (shown_words c.args.run.now) _ _ c.in-Ok.found _ c.found_status.ensures (c.in-Ok.ensures.ends told fits)

pub returns-in-Ok-clause-proved : goal.returns-in-Ok-clause-proved
returns-in-Ok-clause-proved g c = λ _ told fits.
    let h = c.in-Ok.ensures.ends told fits in
    run-shown c.answers_are_shown.ensures c.answers_are_what_follows.ensures.answers c.answers_are_what_follows.ensures.instances
    c.answers_are_what_follows.ensures.answered told (shown_words c.args.run.now) _ _ h.0 h.1 h.2 h.4

pub returns-in-Ok-clause-nothing : goal.returns-in-Ok-clause-nothing
returns-in-Ok-clause-nothing g c = λ one told fits.
    let h = c.in-Ok.ensures.ends told fits in
    asks-in-vain c.answers_are_what_follows.ensures.nothing c.answers_are_what_follows.ensures.numberless told (shown_words c.args.run.now) h.0 _ h.1 h.2
    (c.found_status.ensures ∙ h.3) one

pub returns-in-Ok-clause-kept : goal.returns-in-Ok-clause-kept
returns-in-Ok-clause-kept g c = c.in-Ok.ensures.kept

pub returns-in-Ok-clause-sink_faults_kept : goal.returns-in-Ok-clause-sink_faults_kept
returns-in-Ok-clause-sink_faults_kept g c = c.in-Ok.ensures.sink_faults_kept

pub returns-in-Ok-clause-run_reads : goal.returns-in-Ok-clause-run_reads
returns-in-Ok-clause-run_reads g c = λ _.
    let r = c.in-Ok.ensures.run_reads in record { problem = r.problem; reads = r.reads; takes = r.takes; status_is = c.found_status.ensures ∙ r.status_is }

pub returns-in-Ok-clause-faults_told : goal.returns-in-Ok-clause-faults_told
returns-in-Ok-clause-faults_told g c = status-done _ c.in-Ok.ensures.shelf_told c.in-Ok.ensures.sink_told

pub returns-in-Err-clause-ends : goal.returns-in-Err-clause-ends
returns-in-Err-clause-ends g c = λ told fits.
    run-refused g.O.Sink.faults (λ s. Some (g.O.Sink.taken s)) c.args.sink.now c.run_texts.new.sink c.end_refused.new.sink
    c.in-Err.ensures.sink_faults_kept _ told _ _ c.in-Err.refusal (shown_words c.args.run.now) (c.in-Err.ensures.ends told fits) c.end_refused.ensures.ends

pub returns-in-Err-clause-kept : goal.returns-in-Err-clause-kept
returns-in-Err-clause-kept g c = c.in-Err.ensures.kept

pub returns-in-Err-clause-sink_faults_kept : goal.returns-in-Err-clause-sink_faults_kept
returns-in-Err-clause-sink_faults_kept g c = le_trans c.in-Err.ensures.sink_faults_kept c.end_refused.ensures.faults_kept

pub returns-in-Err-clause-faults_told : goal.returns-in-Err-clause-faults_told
returns-in-Err-clause-faults_told g c =
    refusal-told g.F.Shelf.faults g.F.Shelf.absences g.O.Sink.faults _ _ c.args.sink.now c.run_texts.new.sink c.end_refused.new.sink _ _ _ _ _
    c.in-Err.refusal c.in-Err.ensures.shelf_told c.in-Err.ensures.sink_told c.end_refused.ensures.write_told c.end_refused.ensures.ends

pub returns-in-Err-clause-proved : goal.returns-in-Err-clause-proved
returns-in-Err-clause-proved g c = λ small. absurd (refusal-past _ _ _ _ _ _ c.in-Err.refusal c.end_refused.ensures.ends small)

pub returns-in-Err-clause-nothing : goal.returns-in-Err-clause-nothing
returns-in-Err-clause-nothing g c = λ one. absurd (refusal-past _ _ _ _ _ _ c.in-Err.refusal c.end_refused.ensures.ends (omega (arith, one)))

pub returns-in-Err-clause-run_reads : goal.returns-in-Err-clause-run_reads
returns-in-Err-clause-run_reads g c = λ small. absurd (refusal-past _ _ _ _ _ _ c.in-Err.refusal c.end_refused.ensures.ends small)
