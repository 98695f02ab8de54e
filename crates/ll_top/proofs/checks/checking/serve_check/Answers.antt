use Rattle.std.proofs.Common.{ap, sym, ◌∙◌, le_trans}
use Rattle.ll_edge.proofs.CallerLemmas.{Rose-later}
use Rattle.ll_top.specs.forms.Words.{shown_check}
use Rattle.ll_top.specs.texts.Endings.{cause_of}
use Rattle.ll_top.specs.checks.Outcome.{name_in_check}
use Rattle.ll_top.proofs.verdicts.OutcomeLemmas.{finding-ends, check-cut-ends, check-refusal-ends, check-memory-ends}
use Rattle.ll_top.proofs.judging.OutcomeLemmas.{refuses-later}
use Rattle.ll_top.proofs.judging.ToldLemmas.{status-done, status-unwritable, status-memory, status-refused}
use Rattle.ll_top.proofs.verdicts.ProvedLemmas.{is-proved, refused-not-zero}
use Rattle.ll_top.proofs.checks.checking.serve_check.Goals as goal

pub returns-in-Ok-clause-ends : goal.returns-in-Ok-clause-ends
returns-in-Ok-clause-ends g c = λ told fits.
    finding-ends told _ _ (shown_check c.args.check.now) _ _ _ c.in-Ok.finding _ c.finding_status.ensures (c.in-Ok.ensures.ends told fits)

pub returns-in-Err-Unwritable-clause-ends : goal.returns-in-Err-Unwritable-clause-ends
returns-in-Err-Unwritable-clause-ends g c = λ told fits. check-cut-ends told _ _ (shown_check c.args.check.now) _ _ _
    (rw c.in-Err-Unwritable.field-0-is at (c.in-Err-Unwritable.ensures.ends told fits))

pub returns-in-Err-Text-clause-ends : goal.returns-in-Err-Text-clause-ends
returns-in-Err-Text-clause-ends g c =
    λ told fits. let h = rw c.in-Err-Text.field-0-is at (c.in-Err-Text.ensures.ends told fits) in
    let check = shown_check c.args.check.now in
    let same = c.cause.ensures ∙ ap (λ n. cause_of n c.in-Err-Text.refusal) c.checked_name.ensures in
    check-refusal-ends told _ _ check _ _ _ _ (cause_of (name_in_check check c.in-Err-Text.role) c.in-Err-Text.refusal) _ h.0 h.1
    (refuses-later _ _ _ _ _ _ (Rose-later _ _ _ c.in-Err-Text.ensures.sink_faults_kept) (rw same at c.refuse.ensures.refuses))

pub returns-in-Ok-clause-kept : goal.returns-in-Ok-clause-kept
returns-in-Ok-clause-kept g c = c.in-Ok.ensures.kept

pub returns-in-Ok-clause-sink_faults_kept : goal.returns-in-Ok-clause-sink_faults_kept
returns-in-Ok-clause-sink_faults_kept g c = c.in-Ok.ensures.sink_faults_kept

pub returns-in-Err-Text-clause-kept : goal.returns-in-Err-Text-clause-kept
returns-in-Err-Text-clause-kept g c = c.in-Err-Text.ensures.kept

pub returns-in-Err-Text-clause-sink_faults_kept : goal.returns-in-Err-Text-clause-sink_faults_kept
returns-in-Err-Text-clause-sink_faults_kept g c = le_trans c.in-Err-Text.ensures.sink_faults_kept c.refuse.ensures.faults_kept

pub returns-in-Err-Unwritable-clause-kept : goal.returns-in-Err-Unwritable-clause-kept
returns-in-Err-Unwritable-clause-kept g c = c.in-Err-Unwritable.ensures.kept

pub returns-in-Err-Unwritable-clause-sink_faults_kept : goal.returns-in-Err-Unwritable-clause-sink_faults_kept
returns-in-Err-Unwritable-clause-sink_faults_kept g c = c.in-Err-Unwritable.ensures.sink_faults_kept

pub returns-in-Err-OutOfMemory-clause-kept : goal.returns-in-Err-OutOfMemory-clause-kept
returns-in-Err-OutOfMemory-clause-kept g c = c.in-Err-OutOfMemory.ensures.kept

pub returns-in-Err-OutOfMemory-clause-sink_faults_kept : goal.returns-in-Err-OutOfMemory-clause-sink_faults_kept
returns-in-Err-OutOfMemory-clause-sink_faults_kept g c = c.in-Err-OutOfMemory.ensures.sink_faults_kept

pub returns-in-Err-OutOfMemory-clause-ends : goal.returns-in-Err-OutOfMemory-clause-ends
returns-in-Err-OutOfMemory-clause-ends g c =
    λ told fits.
    check-memory-ends told _ _ (shown_check c.args.check.now) _ _ _ (rw c.in-Err-OutOfMemory.field-0-is at (c.in-Err-OutOfMemory.ensures.ends told fits))

pub returns-in-Ok-clause-proved : goal.returns-in-Ok-clause-proved
returns-in-Ok-clause-proved g c = λ zero told fits.
    is-proved c.answers_are_what_follows.ensures.unlabelled told (shown_check c.args.check.now) _ _ c.in-Ok.finding
    (sym c.finding_status.ensures ∙ zero) (c.in-Ok.ensures.ends told fits).0

pub returns-in-Err-Text-clause-proved : goal.returns-in-Err-Text-clause-proved
returns-in-Err-Text-clause-proved g c = λ zero. absurd (refused-not-zero _ _ _ _ _ c.refuse.ensures.refuses zero)

pub returns-in-Ok-clause-faults_told : goal.returns-in-Ok-clause-faults_told
returns-in-Ok-clause-faults_told g c = status-done _ c.in-Ok.ensures.shelf_told c.in-Ok.ensures.sink_told

pub returns-in-Err-Text-clause-faults_told : goal.returns-in-Err-Text-clause-faults_told
returns-in-Err-Text-clause-faults_told g c =
    status-refused _ _ c.in-Err-Text.refusal _ _ _ _ _ (rw c.in-Err-Text.field-0-is at c.in-Err-Text.ensures.shelf_told)
    (rw c.in-Err-Text.field-0-is at c.in-Err-Text.ensures.sink_told) c.refuse.ensures.write_told c.cause.ensures c.refuse.ensures.refuses

pub returns-in-Err-Unwritable-clause-faults_told : goal.returns-in-Err-Unwritable-clause-faults_told
returns-in-Err-Unwritable-clause-faults_told g c = status-unwritable

pub returns-in-Err-OutOfMemory-clause-faults_told : goal.returns-in-Err-OutOfMemory-clause-faults_told
returns-in-Err-OutOfMemory-clause-faults_told g c =
    status-memory (rw c.in-Err-OutOfMemory.field-0-is at c.in-Err-OutOfMemory.ensures.shelf_told)
    (rw c.in-Err-OutOfMemory.field-0-is at c.in-Err-OutOfMemory.ensures.sink_told)
