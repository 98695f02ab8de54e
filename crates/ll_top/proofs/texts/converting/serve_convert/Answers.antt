use Rattle.std.proofs.Common.{refl, le_refl, ap, None, Some}
use Rattle.ll_edge.proofs.CallerLemmas.{taken_front}
use Rattle.ll_top.specs.forms.Words.{shown_convert}
use Rattle.ll_top.specs.texts.Faults.{OversizedAs}
use Rattle.ll_top.specs.texts.Endings.{cause_of}
use Rattle.ll_top.proofs.judging.ConvertLemmas.{converted-ends, convert-cut-ends, convert-refusal-ends}
use Rattle.ll_top.proofs.judging.ToldLemmas.{status-done, status-lined, status-unwritable, status-memory, status-refused}
use Rattle.ll_top.proofs.texts.converting.serve_convert.Goals as goal

pub returns-in-Ok-clause-ends : goal.returns-in-Ok-clause-ends
returns-in-Ok-clause-ends g c =
    λ told fits. converted-ends told _ _ (shown_convert c.args.convert.now) _ _ _ c.in-Ok-Whole.text.items
    (rw c.in-Ok-Whole.field-0-is at (c.in-Ok-Whole.ensures.converts told fits)) (ap Some (rw c.deref.ensures.value at c.in-Ok.ensures.takes))

pub returns-in-Ok-Whole-clause-ends : goal.returns-in-Ok-Whole-clause-ends
returns-in-Ok-Whole-clause-ends g c =
    λ told fits. convert-cut-ends told _ _ (shown_convert c.args.convert.now) _ _ _ c.in-Ok-Whole.text.items
    (rw c.in-Ok-Whole.field-0-is at (c.in-Ok-Whole.ensures.converts told fits)) c.in-Err.ensures.failed
    (taken_front (rw c.deref.ensures.value at c.in-Err.ensures.takes_front))

pub returns-in-Ok-TooLong-clause-ends : goal.returns-in-Ok-TooLong-clause-ends
returns-in-Ok-TooLong-clause-ends g c =
    let convert = shown_convert c.args.convert.now in
    λ told fits. convert-refusal-ends told _ _ convert _ _ _ (OversizedAs convert.proof convert.version) _ (rw c.in-Ok-TooLong.field-0-is at
    (c.in-Ok-TooLong.ensures.converts told fits))
    c.refuse.ensures.refuses

pub returns-in-Err-Text-clause-ends : goal.returns-in-Err-Text-clause-ends
returns-in-Err-Text-clause-ends g c =
    let convert = shown_convert c.args.convert.now in
    λ told fits. convert-refusal-ends told _ _ convert _ _ _ (cause_of convert.proof c.in-Err-Text.refusal) _ (rw c.in-Err-Text.field-0-is at
    (c.in-Err-Text.ensures.converts told fits))
    (rw c.cause.ensures at c.refuse-in-Err-Text.ensures.refuses)

pub returns-in-Ok-clause-kept : goal.returns-in-Ok-clause-kept
returns-in-Ok-clause-kept g c = c.conversion.ensures.kept

pub returns-in-Ok-Whole-clause-kept : goal.returns-in-Ok-Whole-clause-kept
returns-in-Ok-Whole-clause-kept g c = c.conversion.ensures.kept

pub returns-in-Ok-TooLong-clause-kept : goal.returns-in-Ok-TooLong-clause-kept
returns-in-Ok-TooLong-clause-kept g c = c.conversion.ensures.kept

pub returns-in-Err-Text-clause-kept : goal.returns-in-Err-Text-clause-kept
returns-in-Err-Text-clause-kept g c = c.conversion.ensures.kept

pub returns-clause-kept : goal.returns-clause-kept
returns-clause-kept g c = c.conversion.ensures.kept

pub returns-in-Ok-clause-sink_faults_kept : goal.returns-in-Ok-clause-sink_faults_kept
returns-in-Ok-clause-sink_faults_kept g c = c.write_all.ensures.faults_kept

pub returns-in-Ok-Whole-clause-sink_faults_kept : goal.returns-in-Ok-Whole-clause-sink_faults_kept
returns-in-Ok-Whole-clause-sink_faults_kept g c = c.write_all.ensures.faults_kept

pub returns-in-Ok-TooLong-clause-sink_faults_kept : goal.returns-in-Ok-TooLong-clause-sink_faults_kept
returns-in-Ok-TooLong-clause-sink_faults_kept g c = c.refuse.ensures.faults_kept

pub returns-in-Err-Text-clause-sink_faults_kept : goal.returns-in-Err-Text-clause-sink_faults_kept
returns-in-Err-Text-clause-sink_faults_kept g c = c.refuse-in-Err-Text.ensures.faults_kept

pub returns-clause-sink_faults_kept : goal.returns-clause-sink_faults_kept
returns-clause-sink_faults_kept g c = le_refl _

pub unreachable-requires : goal.unreachable-requires
unreachable-requires g c = rw c.in-Err-Unwritable.field-0-is at (c.in-Err-Unwritable.ensures.converts None tt)

pub returns-in-Ok-clause-faults_told : goal.returns-in-Ok-clause-faults_told
returns-in-Ok-clause-faults_told g c = status-done 0 c.in-Ok-Whole.ensures.shelf_told c.in-Ok.ensures.no_fault

pub returns-in-Ok-Whole-clause-faults_told : goal.returns-in-Ok-Whole-clause-faults_told
returns-in-Ok-Whole-clause-faults_told g c = status-unwritable

pub returns-in-Ok-TooLong-clause-faults_told : goal.returns-in-Ok-TooLong-clause-faults_told
returns-in-Ok-TooLong-clause-faults_told g c = status-lined _ c.in-Ok-TooLong.ensures.shelf_told refl c.refuse.ensures.write_told

pub returns-in-Err-Text-clause-faults_told : goal.returns-in-Err-Text-clause-faults_told
returns-in-Err-Text-clause-faults_told g c =
    status-refused c.args.convert.now.proof.now _ c.in-Err-Text.refusal _ _ _ _ _ (rw c.in-Err-Text.field-0-is at c.in-Err-Text.ensures.shelf_told) refl
    c.refuse-in-Err-Text.ensures.write_told c.cause.ensures c.refuse-in-Err-Text.ensures.refuses

pub returns-clause-faults_told : goal.returns-clause-faults_told
returns-clause-faults_told g c = status-memory (rw c.in-Err-OutOfMemory.field-0-is at c.in-Err-OutOfMemory.ensures.shelf_told) refl
