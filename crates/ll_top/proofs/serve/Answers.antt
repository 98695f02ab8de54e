use Rattle.std.proofs.Common.{◌≡◌, ◌∙◌, ℕ, List, false, refl, sym, ap, subst, inl, inr}
use Rattle.ll_top.specs.declared.forms.words.Command.{Command}
use Rattle.ll_top.specs.forms.Words.{IsCommand, IsBounded, IsInWorkersForm, word_texts}
use Rattle.ll_top.specs.forms.Words.{shown_words, shown_session, shown_deepen, shown_made_run, shown_check, shown_convert, shown_make}
use Rattle.ll_top.specs.forms.CommandKinds.{command_kind, has_team}
use Rattle.ll_top.proofs.wording.FirstWords.{run-kind, session-kind, deepen-kind, made-run-kind, asked-alone, asked-run, asked-in-form}
use Rattle.ll_top.proofs.wording.FirstWords.{workers-in-form, bad-not-in-form}
use Rattle.ll_edge.proofs.CallerLemmas.{kept_none}
use Rattle.ll_top.proofs.outcomes.CallLemmas.{run-call, session-call, deepen-call, made-run-call, print-call, check-call, convert-call, make-call}
use Rattle.ll_top.proofs.outcomes.CallLemmas.{usage-call, usage-misused, plain-misused}
use Rattle.ll_top.proofs.calls.ProvedLemmas.{shown-run, same-reads, shown-session, shown-deepen}
use Rattle.ll_top.proofs.calls.NothingLemmas.{vain-run}
use Rattle.ll_top.proofs.judging.ToldLemmas.{status-shelfless}
use Rattle.ll_top.proofs.serve.Goals as goal

-- words of a form with workers ask for no other command
none-alone : (words : List (List ℕ)) (c d : Command) → c ≡ d → IsCommand words c → has_team (command_kind d) ≡ false → IsInWorkersForm words → ⊥
none-alone words c d e a h f = asked-alone words c a (ap (λ x. has_team (command_kind x)) e ∙ h) f

pub serve_check-requires : goal.serve_check-requires
serve_check-requires g c = record { bound = subst IsBounded c.in-Check.is c.in-Ok.ensures.bound }

pub serve_convert-requires : goal.serve_convert-requires
serve_convert-requires g c = record { version = subst IsBounded c.in-Convert.is c.in-Ok.ensures.bound }

pub serve_make-requires : goal.serve_make-requires
serve_make-requires g c = subst IsBounded c.in-Make.is c.in-Ok.ensures.bound

pub returns-in-Run-clause-outcome : goal.returns-in-Run-clause-outcome
returns-in-Run-clause-outcome g c =
    let words = word_texts c.args.words.now in
    λ told fits. run-call words told _ _ _ _ _ _ (shown_words c.in-Run.run') (subst (IsCommand words) c.in-Run.is c.in-Ok.ensures.command)
    (c.serve_run.ensures.ends told fits)

pub returns-in-Run-clause-kept : goal.returns-in-Run-clause-kept
returns-in-Run-clause-kept g c = c.serve_run.ensures.kept

pub returns-in-Run-clause-sink_faults_kept : goal.returns-in-Run-clause-sink_faults_kept
returns-in-Run-clause-sink_faults_kept g c = c.serve_run.ensures.sink_faults_kept

pub returns-in-Run-clause-faults_told : goal.returns-in-Run-clause-faults_told
returns-in-Run-clause-faults_told g c = c.serve_run.ensures.faults_told

pub returns-in-Run-clause-run_reads : goal.returns-in-Run-clause-run_reads
returns-in-Run-clause-run_reads g c = λ run is small.
    let words = word_texts c.args.words.now in
    same-reads words (shown_words c.in-Run.run') run _ _ _ _ _ (subst (IsCommand words) c.in-Run.is c.in-Ok.ensures.command) is
    (c.serve_run.ensures.run_reads small)

pub returns-in-Run-clause-proved : goal.returns-in-Run-clause-proved
returns-in-Run-clause-proved g c = λ run is small told fits.
    let words = word_texts c.args.words.now in
    shown-run words told (shown_words c.in-Run.run') run _ _ (subst (IsCommand words) c.in-Run.is c.in-Ok.ensures.command) is
    (c.serve_run.ensures.proved small told fits)

pub returns-in-Run-clause-nothing : goal.returns-in-Run-clause-nothing
returns-in-Run-clause-nothing g c = λ run is one told fits.
    let words = word_texts c.args.words.now in
    vain-run words told (shown_words c.in-Run.run') run (subst (IsCommand words) c.in-Run.is c.in-Ok.ensures.command) is
    (c.serve_run.ensures.nothing one told fits)

pub returns-in-Run-clause-replied : goal.returns-in-Run-clause-replied
returns-in-Run-clause-replied g c = λ session is zero told fits.
    let words = word_texts c.args.words.now in
    let cmd = subst (IsCommand words) c.in-Run.is c.in-Ok.ensures.command in
    absurd (let k = sym (session-kind words is.form) ∙ run-kind words cmd.form in cc)

pub returns-in-Run-clause-deepened : goal.returns-in-Run-clause-deepened
returns-in-Run-clause-deepened g c = λ deepen is small told fits.
    let words = word_texts c.args.words.now in
    let cmd = subst (IsCommand words) c.in-Run.is c.in-Ok.ensures.command in
    absurd (let k = sym (deepen-kind words is.form) ∙ run-kind words cmd.form in cc)

pub returns-in-Run-clause-misused : goal.returns-in-Run-clause-misused
returns-in-Run-clause-misused g c = λ h. absurd (h (asked-in-form (word_texts c.args.words.now) c.in-Ok.command c.in-Ok.ensures.command))

pub returns-in-Session-clause-outcome : goal.returns-in-Session-clause-outcome
returns-in-Session-clause-outcome g c =
    let words = word_texts c.args.words.now in
    λ told fits. session-call words told _ _ _ _ _ _ (shown_session c.in-Session.session) (subst (IsCommand words) c.in-Session.is c.in-Ok.ensures.command)
    (c.serve_session.ensures.ends told fits)

pub returns-in-Session-clause-kept : goal.returns-in-Session-clause-kept
returns-in-Session-clause-kept g c = c.serve_session.ensures.kept

pub returns-in-Session-clause-sink_faults_kept : goal.returns-in-Session-clause-sink_faults_kept
returns-in-Session-clause-sink_faults_kept g c = c.serve_session.ensures.sink_faults_kept

pub returns-in-Session-clause-faults_told : goal.returns-in-Session-clause-faults_told
returns-in-Session-clause-faults_told g c = c.serve_session.ensures.faults_told

pub returns-in-Session-clause-run_reads : goal.returns-in-Session-clause-run_reads
returns-in-Session-clause-run_reads g c = λ run is small.
    absurd (let k = asked-run (word_texts c.args.words.now) c.in-Ok.command _ c.in-Session.is c.in-Ok.ensures.command is.form in cc)

pub returns-in-Session-clause-proved : goal.returns-in-Session-clause-proved
returns-in-Session-clause-proved g c = λ run is small told fits.
    absurd (let k = asked-run (word_texts c.args.words.now) c.in-Ok.command _ c.in-Session.is c.in-Ok.ensures.command is.form in cc)

pub returns-in-Session-clause-nothing : goal.returns-in-Session-clause-nothing
returns-in-Session-clause-nothing g c = λ run is one told fits.
    absurd (let k = asked-run (word_texts c.args.words.now) c.in-Ok.command _ c.in-Session.is c.in-Ok.ensures.command is.form in cc)

pub returns-in-Session-clause-replied : goal.returns-in-Session-clause-replied
returns-in-Session-clause-replied g c = λ session is zero told fits.
    let words = word_texts c.args.words.now in
    shown-session words told (shown_session c.in-Session.session) session _ _ (subst (IsCommand words) c.in-Session.is c.in-Ok.ensures.command) is
    (c.serve_session.ensures.replied zero told fits)

pub returns-in-Session-clause-deepened : goal.returns-in-Session-clause-deepened
returns-in-Session-clause-deepened g c = λ deepen is small told fits.
    let words = word_texts c.args.words.now in
    let cmd = subst (IsCommand words) c.in-Session.is c.in-Ok.ensures.command in
    absurd (let k = sym (deepen-kind words is.form) ∙ session-kind words cmd.form in cc)

pub returns-in-Session-clause-misused : goal.returns-in-Session-clause-misused
returns-in-Session-clause-misused g c = λ h. absurd (h (asked-in-form (word_texts c.args.words.now) c.in-Ok.command c.in-Ok.ensures.command))

pub returns-in-Deepen-clause-outcome : goal.returns-in-Deepen-clause-outcome
returns-in-Deepen-clause-outcome g c =
    let words = word_texts c.args.words.now in
    λ told fits. deepen-call words told _ _ _ _ _ _ (shown_deepen c.in-Deepen.deepen) (subst (IsCommand words) c.in-Deepen.is c.in-Ok.ensures.command)
    (c.serve_deepen.ensures.ends told fits)

pub returns-in-Deepen-clause-kept : goal.returns-in-Deepen-clause-kept
returns-in-Deepen-clause-kept g c = c.serve_deepen.ensures.kept

pub returns-in-Deepen-clause-sink_faults_kept : goal.returns-in-Deepen-clause-sink_faults_kept
returns-in-Deepen-clause-sink_faults_kept g c = c.serve_deepen.ensures.sink_faults_kept

pub returns-in-Deepen-clause-faults_told : goal.returns-in-Deepen-clause-faults_told
returns-in-Deepen-clause-faults_told g c = c.serve_deepen.ensures.faults_told

pub returns-in-Deepen-clause-run_reads : goal.returns-in-Deepen-clause-run_reads
returns-in-Deepen-clause-run_reads g c = λ run is small.
    absurd (let k = asked-run (word_texts c.args.words.now) c.in-Ok.command _ c.in-Deepen.is c.in-Ok.ensures.command is.form in cc)

pub returns-in-Deepen-clause-proved : goal.returns-in-Deepen-clause-proved
returns-in-Deepen-clause-proved g c = λ run is small told fits.
    absurd (let k = asked-run (word_texts c.args.words.now) c.in-Ok.command _ c.in-Deepen.is c.in-Ok.ensures.command is.form in cc)

pub returns-in-Deepen-clause-nothing : goal.returns-in-Deepen-clause-nothing
returns-in-Deepen-clause-nothing g c = λ run is one told fits.
    absurd (let k = asked-run (word_texts c.args.words.now) c.in-Ok.command _ c.in-Deepen.is c.in-Ok.ensures.command is.form in cc)

pub returns-in-Deepen-clause-replied : goal.returns-in-Deepen-clause-replied
returns-in-Deepen-clause-replied g c = λ session is zero told fits.
    let words = word_texts c.args.words.now in
    let cmd = subst (IsCommand words) c.in-Deepen.is c.in-Ok.ensures.command in
    absurd (let k = sym (session-kind words is.form) ∙ deepen-kind words cmd.form in cc)

pub returns-in-Deepen-clause-deepened : goal.returns-in-Deepen-clause-deepened
returns-in-Deepen-clause-deepened g c = λ deepen is small told fits.
    let words = word_texts c.args.words.now in
    shown-deepen words told (shown_deepen c.in-Deepen.deepen) deepen _ _ _ (subst (IsCommand words) c.in-Deepen.is c.in-Ok.ensures.command) is
    (c.serve_deepen.ensures.deepened small told fits)

pub returns-in-Deepen-clause-misused : goal.returns-in-Deepen-clause-misused
returns-in-Deepen-clause-misused g c = λ h. absurd (h (asked-in-form (word_texts c.args.words.now) c.in-Ok.command c.in-Ok.ensures.command))

pub returns-in-MadeRun-clause-outcome : goal.returns-in-MadeRun-clause-outcome
returns-in-MadeRun-clause-outcome g c =
    let words = word_texts c.args.words.now in
    λ told fits. made-run-call words told _ _ _ _ _ _ (shown_made_run c.in-MadeRun.made) (subst (IsCommand words) c.in-MadeRun.is c.in-Ok.ensures.command)
    c.serve_made_run.ensures.ends

pub returns-in-MadeRun-clause-kept : goal.returns-in-MadeRun-clause-kept
returns-in-MadeRun-clause-kept g c = kept_none

pub returns-in-MadeRun-clause-sink_faults_kept : goal.returns-in-MadeRun-clause-sink_faults_kept
returns-in-MadeRun-clause-sink_faults_kept g c = c.serve_made_run.ensures.faults_kept

pub returns-in-MadeRun-clause-faults_told : goal.returns-in-MadeRun-clause-faults_told
returns-in-MadeRun-clause-faults_told g c = status-shelfless _ c.serve_made_run.ensures.write_told

pub returns-in-MadeRun-clause-run_reads : goal.returns-in-MadeRun-clause-run_reads
returns-in-MadeRun-clause-run_reads g c = λ run is small.
    absurd (let k = asked-run (word_texts c.args.words.now) c.in-Ok.command _ c.in-MadeRun.is c.in-Ok.ensures.command is.form in cc)

pub returns-in-MadeRun-clause-proved : goal.returns-in-MadeRun-clause-proved
returns-in-MadeRun-clause-proved g c = λ run is small told fits.
    absurd (let k = asked-run (word_texts c.args.words.now) c.in-Ok.command _ c.in-MadeRun.is c.in-Ok.ensures.command is.form in cc)

pub returns-in-MadeRun-clause-nothing : goal.returns-in-MadeRun-clause-nothing
returns-in-MadeRun-clause-nothing g c = λ run is one told fits.
    absurd (let k = asked-run (word_texts c.args.words.now) c.in-Ok.command _ c.in-MadeRun.is c.in-Ok.ensures.command is.form in cc)

pub returns-in-MadeRun-clause-replied : goal.returns-in-MadeRun-clause-replied
returns-in-MadeRun-clause-replied g c = λ session is zero told fits.
    let words = word_texts c.args.words.now in
    let cmd = subst (IsCommand words) c.in-MadeRun.is c.in-Ok.ensures.command in
    absurd (let k = sym (session-kind words is.form) ∙ made-run-kind words (shown_made_run c.in-MadeRun.made).make.kind cmd.form in cc)

pub returns-in-MadeRun-clause-deepened : goal.returns-in-MadeRun-clause-deepened
returns-in-MadeRun-clause-deepened g c = λ deepen is small told fits.
    let words = word_texts c.args.words.now in
    let cmd = subst (IsCommand words) c.in-MadeRun.is c.in-Ok.ensures.command in
    absurd (let k = sym (deepen-kind words is.form) ∙ made-run-kind words (shown_made_run c.in-MadeRun.made).make.kind cmd.form in cc)

pub returns-in-MadeRun-clause-misused : goal.returns-in-MadeRun-clause-misused
returns-in-MadeRun-clause-misused g c = λ h. absurd (h (asked-in-form (word_texts c.args.words.now) c.in-Ok.command c.in-Ok.ensures.command))

pub returns-in-Print-clause-outcome : goal.returns-in-Print-clause-outcome
returns-in-Print-clause-outcome g c =
    let words = word_texts c.args.words.now in
    λ told fits. print-call words told _ _ _ _ _ _ c.in-Print.name.now (subst (IsCommand words) c.in-Print.is c.in-Ok.ensures.command)
    (c.serve_print.ensures.ends told fits)

pub returns-in-Print-clause-misused : goal.returns-in-Print-clause-misused
returns-in-Print-clause-misused g c = λ h. absurd (h (asked-in-form (word_texts c.args.words.now) c.in-Ok.command c.in-Ok.ensures.command))

pub returns-in-Print-clause-kept : goal.returns-in-Print-clause-kept
returns-in-Print-clause-kept g c = c.serve_print.ensures.kept

pub returns-in-Print-clause-sink_faults_kept : goal.returns-in-Print-clause-sink_faults_kept
returns-in-Print-clause-sink_faults_kept g c = c.serve_print.ensures.sink_faults_kept

pub returns-in-Print-clause-faults_told : goal.returns-in-Print-clause-faults_told
returns-in-Print-clause-faults_told g c = c.serve_print.ensures.faults_told

pub returns-in-Print-clause-run_reads : goal.returns-in-Print-clause-run_reads
returns-in-Print-clause-run_reads g c = λ run is small.
    absurd (none-alone (word_texts c.args.words.now) c.in-Ok.command _ c.in-Print.is c.in-Ok.ensures.command refl (inl (inl is.form)))

pub returns-in-Print-clause-proved : goal.returns-in-Print-clause-proved
returns-in-Print-clause-proved g c = λ run is small told fits.
    absurd (none-alone (word_texts c.args.words.now) c.in-Ok.command _ c.in-Print.is c.in-Ok.ensures.command refl (inl (inl is.form)))

pub returns-in-Print-clause-nothing : goal.returns-in-Print-clause-nothing
returns-in-Print-clause-nothing g c = λ run is one told fits.
    absurd (none-alone (word_texts c.args.words.now) c.in-Ok.command _ c.in-Print.is c.in-Ok.ensures.command refl (inl (inl is.form)))

pub returns-in-Print-clause-replied : goal.returns-in-Print-clause-replied
returns-in-Print-clause-replied g c = λ session is zero told fits.
    absurd (none-alone (word_texts c.args.words.now) c.in-Ok.command _ c.in-Print.is c.in-Ok.ensures.command refl (inl (inr (inl is.form))))

pub returns-in-Print-clause-deepened : goal.returns-in-Print-clause-deepened
returns-in-Print-clause-deepened g c = λ deepen is small told fits.
    absurd (none-alone (word_texts c.args.words.now) c.in-Ok.command _ c.in-Print.is c.in-Ok.ensures.command refl (inr is.form))

pub returns-in-Check-clause-outcome : goal.returns-in-Check-clause-outcome
returns-in-Check-clause-outcome g c =
    let words = word_texts c.args.words.now in
    λ told fits. check-call words told _ _ _ _ _ _ (shown_check c.in-Check.check) (subst (IsCommand words) c.in-Check.is c.in-Ok.ensures.command)
    (c.serve_check.ensures.ends told fits)

pub returns-in-Check-clause-misused : goal.returns-in-Check-clause-misused
returns-in-Check-clause-misused g c = λ h. absurd (h (asked-in-form (word_texts c.args.words.now) c.in-Ok.command c.in-Ok.ensures.command))

pub returns-in-Check-clause-kept : goal.returns-in-Check-clause-kept
returns-in-Check-clause-kept g c = c.serve_check.ensures.kept

pub returns-in-Check-clause-sink_faults_kept : goal.returns-in-Check-clause-sink_faults_kept
returns-in-Check-clause-sink_faults_kept g c = c.serve_check.ensures.sink_faults_kept

pub returns-in-Check-clause-faults_told : goal.returns-in-Check-clause-faults_told
returns-in-Check-clause-faults_told g c = c.serve_check.ensures.faults_told

pub returns-in-Check-clause-run_reads : goal.returns-in-Check-clause-run_reads
returns-in-Check-clause-run_reads g c = λ run is small.
    absurd (none-alone (word_texts c.args.words.now) c.in-Ok.command _ c.in-Check.is c.in-Ok.ensures.command refl (inl (inl is.form)))

pub returns-in-Check-clause-proved : goal.returns-in-Check-clause-proved
returns-in-Check-clause-proved g c = λ run is small told fits.
    absurd (none-alone (word_texts c.args.words.now) c.in-Ok.command _ c.in-Check.is c.in-Ok.ensures.command refl (inl (inl is.form)))

pub returns-in-Check-clause-nothing : goal.returns-in-Check-clause-nothing
returns-in-Check-clause-nothing g c = λ run is one told fits.
    absurd (none-alone (word_texts c.args.words.now) c.in-Ok.command _ c.in-Check.is c.in-Ok.ensures.command refl (inl (inl is.form)))

pub returns-in-Check-clause-replied : goal.returns-in-Check-clause-replied
returns-in-Check-clause-replied g c = λ session is zero told fits.
    absurd (none-alone (word_texts c.args.words.now) c.in-Ok.command _ c.in-Check.is c.in-Ok.ensures.command refl (inl (inr (inl is.form))))

pub returns-in-Check-clause-deepened : goal.returns-in-Check-clause-deepened
returns-in-Check-clause-deepened g c = λ deepen is small told fits.
    absurd (none-alone (word_texts c.args.words.now) c.in-Ok.command _ c.in-Check.is c.in-Ok.ensures.command refl (inr is.form))

pub returns-in-Convert-clause-outcome : goal.returns-in-Convert-clause-outcome
returns-in-Convert-clause-outcome g c =
    let words = word_texts c.args.words.now in
    λ told fits. convert-call words told _ _ _ _ _ _ (shown_convert c.in-Convert.convert)
    (subst (IsCommand words) c.in-Convert.is c.in-Ok.ensures.command) (c.serve_convert.ensures.ends told fits)

pub returns-in-Convert-clause-misused : goal.returns-in-Convert-clause-misused
returns-in-Convert-clause-misused g c = λ h. absurd (h (asked-in-form (word_texts c.args.words.now) c.in-Ok.command c.in-Ok.ensures.command))

pub returns-in-Convert-clause-kept : goal.returns-in-Convert-clause-kept
returns-in-Convert-clause-kept g c = c.serve_convert.ensures.kept

pub returns-in-Convert-clause-sink_faults_kept : goal.returns-in-Convert-clause-sink_faults_kept
returns-in-Convert-clause-sink_faults_kept g c = c.serve_convert.ensures.sink_faults_kept

pub returns-in-Convert-clause-faults_told : goal.returns-in-Convert-clause-faults_told
returns-in-Convert-clause-faults_told g c = c.serve_convert.ensures.faults_told

pub returns-in-Convert-clause-run_reads : goal.returns-in-Convert-clause-run_reads
returns-in-Convert-clause-run_reads g c = λ run is small.
    absurd (none-alone (word_texts c.args.words.now) c.in-Ok.command _ c.in-Convert.is c.in-Ok.ensures.command refl (inl (inl is.form)))

pub returns-in-Convert-clause-proved : goal.returns-in-Convert-clause-proved
returns-in-Convert-clause-proved g c = λ run is small told fits.
    absurd (none-alone (word_texts c.args.words.now) c.in-Ok.command _ c.in-Convert.is c.in-Ok.ensures.command refl (inl (inl is.form)))

pub returns-in-Convert-clause-nothing : goal.returns-in-Convert-clause-nothing
returns-in-Convert-clause-nothing g c = λ run is one told fits.
    absurd (none-alone (word_texts c.args.words.now) c.in-Ok.command _ c.in-Convert.is c.in-Ok.ensures.command refl (inl (inl is.form)))

pub returns-in-Convert-clause-replied : goal.returns-in-Convert-clause-replied
returns-in-Convert-clause-replied g c = λ session is zero told fits.
    absurd (none-alone (word_texts c.args.words.now) c.in-Ok.command _ c.in-Convert.is c.in-Ok.ensures.command refl (inl (inr (inl is.form))))

pub returns-in-Convert-clause-deepened : goal.returns-in-Convert-clause-deepened
returns-in-Convert-clause-deepened g c = λ deepen is small told fits.
    absurd (none-alone (word_texts c.args.words.now) c.in-Ok.command _ c.in-Convert.is c.in-Ok.ensures.command refl (inr is.form))

pub returns-in-Make-clause-outcome : goal.returns-in-Make-clause-outcome
returns-in-Make-clause-outcome g c =
    let words = word_texts c.args.words.now in
    λ told fits. make-call words told _ _ _ _ _ _ (shown_make c.in-Make.make) (subst (IsCommand words) c.in-Make.is c.in-Ok.ensures.command)
    c.serve_make.ensures.ends

pub returns-in-Make-clause-misused : goal.returns-in-Make-clause-misused
returns-in-Make-clause-misused g c = λ h. absurd (h (asked-in-form (word_texts c.args.words.now) c.in-Ok.command c.in-Ok.ensures.command))

pub returns-in-Make-clause-kept : goal.returns-in-Make-clause-kept
returns-in-Make-clause-kept g c = kept_none

pub returns-in-Make-clause-sink_faults_kept : goal.returns-in-Make-clause-sink_faults_kept
returns-in-Make-clause-sink_faults_kept g c = c.serve_make.ensures.faults_kept

pub returns-in-Make-clause-faults_told : goal.returns-in-Make-clause-faults_told
returns-in-Make-clause-faults_told g c = status-shelfless _ c.serve_make.ensures.write_told

pub returns-in-Make-clause-run_reads : goal.returns-in-Make-clause-run_reads
returns-in-Make-clause-run_reads g c = λ run is small.
    absurd (none-alone (word_texts c.args.words.now) c.in-Ok.command _ c.in-Make.is c.in-Ok.ensures.command refl (inl (inl is.form)))

pub returns-in-Make-clause-proved : goal.returns-in-Make-clause-proved
returns-in-Make-clause-proved g c = λ run is small told fits.
    absurd (none-alone (word_texts c.args.words.now) c.in-Ok.command _ c.in-Make.is c.in-Ok.ensures.command refl (inl (inl is.form)))

pub returns-in-Make-clause-nothing : goal.returns-in-Make-clause-nothing
returns-in-Make-clause-nothing g c = λ run is one told fits.
    absurd (none-alone (word_texts c.args.words.now) c.in-Ok.command _ c.in-Make.is c.in-Ok.ensures.command refl (inl (inl is.form)))

pub returns-in-Make-clause-replied : goal.returns-in-Make-clause-replied
returns-in-Make-clause-replied g c = λ session is zero told fits.
    absurd (none-alone (word_texts c.args.words.now) c.in-Ok.command _ c.in-Make.is c.in-Ok.ensures.command refl (inl (inr (inl is.form))))

pub returns-in-Make-clause-deepened : goal.returns-in-Make-clause-deepened
returns-in-Make-clause-deepened g c = λ deepen is small told fits.
    absurd (none-alone (word_texts c.args.words.now) c.in-Ok.command _ c.in-Make.is c.in-Ok.ensures.command refl (inr is.form))

pub returns-in-Err-clause-outcome : goal.returns-in-Err-clause-outcome
returns-in-Err-clause-outcome g c = λ told fits.
    usage-call (word_texts c.args.words.now) told _ _ _ _ _ _ c.in-Err.number c.in-Err.ensures.command c.refuse.ensures.refuses

pub returns-in-Err-clause-kept : goal.returns-in-Err-clause-kept
returns-in-Err-clause-kept g c = kept_none

pub returns-in-Err-clause-sink_faults_kept : goal.returns-in-Err-clause-sink_faults_kept
returns-in-Err-clause-sink_faults_kept g c = c.refuse.ensures.faults_kept

pub returns-in-Err-clause-faults_told : goal.returns-in-Err-clause-faults_told
returns-in-Err-clause-faults_told g c = status-shelfless _ c.refuse.ensures.write_told

pub returns-in-Err-clause-misused : goal.returns-in-Err-clause-misused
returns-in-Err-clause-misused g c = λ h. plain-misused _ 3 6 (usage-misused c.in-Err.number _ _ _ _ c.refuse.ensures.refuses)

pub returns-in-Err-clause-run_reads : goal.returns-in-Err-clause-run_reads
returns-in-Err-clause-run_reads g c = λ run is small.
    let words = word_texts c.args.words.now in
    absurd (bad-not-in-form words c.in-Err.number c.in-Err.ensures.command (workers-in-form words (inl (inl is.form))))

pub returns-in-Err-clause-proved : goal.returns-in-Err-clause-proved
returns-in-Err-clause-proved g c = λ run is small told fits.
    let words = word_texts c.args.words.now in
    absurd (bad-not-in-form words c.in-Err.number c.in-Err.ensures.command (workers-in-form words (inl (inl is.form))))

pub returns-in-Err-clause-nothing : goal.returns-in-Err-clause-nothing
returns-in-Err-clause-nothing g c = λ run is one told fits.
    let words = word_texts c.args.words.now in
    absurd (bad-not-in-form words c.in-Err.number c.in-Err.ensures.command (workers-in-form words (inl (inl is.form))))

pub returns-in-Err-clause-replied : goal.returns-in-Err-clause-replied
returns-in-Err-clause-replied g c = λ session is zero told fits.
    let words = word_texts c.args.words.now in
    absurd (bad-not-in-form words c.in-Err.number c.in-Err.ensures.command (workers-in-form words (inl (inr (inl is.form)))))

pub returns-in-Err-clause-deepened : goal.returns-in-Err-clause-deepened
returns-in-Err-clause-deepened g c = λ deepen is small told fits.
    let words = word_texts c.args.words.now in
    absurd (bad-not-in-form words c.in-Err.number c.in-Err.ensures.command (workers-in-form words (inr is.form)))
