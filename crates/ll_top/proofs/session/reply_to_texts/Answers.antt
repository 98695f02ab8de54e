use Rattle.ll_edge.specs.Counts.{Rose}
use denote.Builtin.{unit}
use Rattle.std.proofs.Common.{None, refl, le_refl}
use Rattle.std.proofs.lemmas.Result.{IfOk-from_err, err_from_is_err_and}
use Rattle.ll_top.specs.forms.Words.{shown_session}
use Rattle.ll_top.proofs.judging.PrepareLemmas.{not-read-after}
use Rattle.ll_edge.proofs.CallerLemmas.{kept_trans, fits_first, fits_second}
use Rattle.ll_top.proofs.calls.SessionLemmas.{program-not-read, queries-not-read, texts-ended}
use Rattle.ll_top.proofs.calls.RightLemmas.{FollowingLaws, session-shown}
use Rattle.ll_top.specs.Shown.{SessionShown}
use Rattle.std.specs.Prelude.{Option, Some}
use Rattle.ll_edge.specs.Log.{ToldFits}
use Rattle.ll_edge.specs.Texts.{Texts}
use Rattle.ll_list_laws.proofs.CallerLemmas.{OnOk-weaker as on-ok}
use Rattle.ll_top.proofs.judging.ToldLemmas.{shelf-read, shelf-later, shelf-refused, sink-still}
use Rattle.ll_top.proofs.session.reply_to_texts.Goals as goal

pub returns-in_err-program-clause-ends : goal.returns-in_err-program-clause-ends
returns-in_err-program-clause-ends g c =
    let p = err_from_is_err_and c.from_residual.result c.from_residual.ensures.1 in
    λ told fits. rw (p.1, p.2) (program-not-read {A = unit.Denot} told _ _ (shown_session c.args.session.now) (λ x. 0) _ _ _
    (c.in_err-program.ensures.refused told fits))

pub returns-in_err-text-clause-ends : goal.returns-in_err-text-clause-ends
returns-in_err-text-clause-ends g c =
    let p = err_from_is_err_and c.from_residual-in_err-text.result c.from_residual-in_err-text.ensures.1 in
    let one = c.in_ok-program.ensures.kept in
    λ told fits. rw (p.1, p.2) (queries-not-read {A = unit.Denot} told _ _ (shown_session c.args.session.now) (λ x. 0) _ _ _ _
    (c.in_ok-program.ensures.read told (fits_first told _ _ _ c.in_err-text.ensures.kept.grew fits))
    (not-read-after _ told _ _ _ one
    (c.in_err-text.ensures.refused told (fits_second told _ _ _ one.grew fits))))

pub returns-clause-ends : goal.returns-clause-ends
returns-clause-ends g c =
    λ told fits.
    texts-ended {A = unit.Denot} told _ _ (shown_session c.args.session.now) (λ x. 0)
    (Rose (g.O.Sink.faults c.args.sink.now) (g.O.Sink.faults c.reply_to_text.new.sink)) c.in_ok-program.program.items c.in_ok-text.text.items
    (c.in_ok-program.ensures.read told (fits_first told _ _ _ c.in_ok-text.ensures.kept.grew fits))
    (c.in_ok-text.ensures.read told (fits_second told _ _ _ c.in_ok-program.ensures.kept.grew fits)) (Some (g.O.Sink.taken c.args.sink.now))
    (Some (g.O.Sink.taken c.reply_to_text.new.sink)) _
    (rw (c.deref.ensures.value, c.deref-2.ensures.value) at c.reply_to_text.ensures.ends)

pub returns-in_err-program-clause-kept : goal.returns-in_err-program-clause-kept
returns-in_err-program-clause-kept g c = c.in_err-program.ensures.kept

pub returns-in_err-program-clause-sink_faults_kept : goal.returns-in_err-program-clause-sink_faults_kept
returns-in_err-program-clause-sink_faults_kept g c = le_refl _

pub returns-in_err-text-clause-kept : goal.returns-in_err-text-clause-kept
returns-in_err-text-clause-kept g c = kept_trans c.in_ok-program.ensures.kept c.in_err-text.ensures.kept

pub returns-clause-kept : goal.returns-clause-kept
returns-clause-kept g c = kept_trans c.in_ok-program.ensures.kept c.in_ok-text.ensures.kept

pub returns-in_err-text-clause-sink_faults_kept : goal.returns-in_err-text-clause-sink_faults_kept
returns-in_err-text-clause-sink_faults_kept g c = le_refl _

pub returns-clause-sink_faults_kept : goal.returns-clause-sink_faults_kept
returns-clause-sink_faults_kept g c = c.reply_to_text.ensures.faults_kept

pub reply_to_text-requires-clause-program : goal.reply_to_text-requires-clause-program
reply_to_text-requires-clause-program g c κs within = rw c.deref.ensures.value (c.in_ok-program.ensures.read None tt).within

pub reply_to_text-requires-clause-text : goal.reply_to_text-requires-clause-text
reply_to_text-requires-clause-text g c κs within = rw c.deref-2.ensures.value (c.in_ok-text.ensures.read None tt).within

pub returns-in_err-program-clause-replied : goal.returns-in_err-program-clause-replied
returns-in_err-program-clause-replied g c = IfOk-from_err c.from_residual.result _ c.from_residual.ensures.0

pub returns-in_err-text-clause-replied : goal.returns-in_err-text-clause-replied
returns-in_err-text-clause-replied g c = IfOk-from_err c.from_residual-in_err-text.result _ c.from_residual-in_err-text.ensures.0

pub returns-clause-replied : goal.returns-clause-replied
returns-clause-replied g c =
    let laws : FollowingLaws = record {
      shown = c.answers_are_shown.ensures;
      answers = c.answers_are_what_follows.ensures.answers;
      instances = c.answers_are_what_follows.ensures.instances;
      answered = c.answers_are_what_follows.ensures.answered;
      nothing = c.answers_are_what_follows.ensures.nothing;
      numberless = c.answers_are_what_follows.ensures.numberless;
    } in
    let session = shown_session c.args.session.now in
    let program = c.in_ok-program.program.items in
    let text = c.in_ok-text.text.items in
    let replied = rw (c.deref.ensures.value, c.deref-2.ensures.value) at c.reply_to_text.ensures.replied in
    on-ok {Q = (told : Option Texts) → ToldFits told (g.F.Shelf.log c.args.shelf.now) (g.F.Shelf.log c.read-2.new.shelf)
    → SessionShown told session (Some (g.O.Sink.taken c.args.sink.now)) (Some (g.O.Sink.taken c.reply_to_text.new.sink))}
    c.reply_to_text.result
    (λ written told fits. session-shown laws told session program text written.0 _ _
    (c.in_ok-program.ensures.read told (fits_first told _ _ _ c.in_ok-text.ensures.kept.grew fits))
    (c.in_ok-text.ensures.read told (fits_second told _ _ _ c.in_ok-program.ensures.kept.grew fits)) written.1 written.2) replied

pub returns-in_err-program-clause-shelf_told : goal.returns-in_err-program-clause-shelf_told
returns-in_err-program-clause-shelf_told g c =
    let p = err_from_is_err_and c.from_residual.result c.from_residual.ensures.1 in rw (p.1, p.2) (shelf-refused c.in_err-program.ensures.shelf_told)

pub returns-in_err-text-clause-shelf_told : goal.returns-in_err-text-clause-shelf_told
returns-in_err-text-clause-shelf_told g c =
    let p = err_from_is_err_and c.from_residual-in_err-text.result c.from_residual-in_err-text.ensures.1 in
    rw (p.1, p.2) (shelf-later _ c.in_ok-program.ensures.shelf_told (shelf-refused c.in_err-text.ensures.shelf_told))

pub returns-clause-shelf_told : goal.returns-clause-shelf_told
returns-clause-shelf_told g c = shelf-read _ (shelf-later _ c.in_ok-program.ensures.shelf_told c.in_ok-text.ensures.shelf_told)

pub returns-in_err-program-clause-sink_told : goal.returns-in_err-program-clause-sink_told
returns-in_err-program-clause-sink_told g c = sink-still _ _ c.from_residual.result refl

pub returns-in_err-text-clause-sink_told : goal.returns-in_err-text-clause-sink_told
returns-in_err-text-clause-sink_told g c = sink-still _ _ c.from_residual-in_err-text.result refl

pub returns-clause-sink_told : goal.returns-clause-sink_told
returns-clause-sink_told g c = c.reply_to_text.ensures.sink_told
