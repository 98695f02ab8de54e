use Rattle.std.proofs.lemmas.Result.{IfOk-from_err}
use Rattle.std.proofs.Common.{ap, ◌∙◌}
use Rattle.ll_top.specs.declared.forms.words.FormWord.TheVariants as form
use Rattle.ll_top.specs.forms.Words.{word_texts}
use Rattle.ll_top.specs.forms.Words.{IsCommand, IsBadWord}
use Rattle.ll_top.specs.forms.FormWords.{form_word}
use Rattle.ll_top.proofs.wording.WordValues.{bad-answer}
use Rattle.ll_top.proofs.wording.FirstWords.{bad-among, bad-first, make-answer, first-lacks, first-other, first-same}
use Rattle.ll_top.proofs.forms.words.read_command.Goals as goal

pub returns-in_default-clause-command : goal.returns-in_default-clause-command
returns-in_default-clause-command c = bad-first (word_texts c.args.words.now) (first-lacks c.args.words.now c.in_default.ensures.value)

pub returns-in_default-form_of-clause-command : goal.returns-in_default-form_of-clause-command
returns-in_default-form_of-clause-command c = bad-first (word_texts c.args.words.now)
    (first-other c.args.words.now c.in-Some.first c.in-Some.ensures.value c.in_default-form_of.ensures)

pub returns-in_err-read_run-in-Run-clause-command : goal.returns-in_err-read_run-in-Run-clause-command
returns-in_err-read_run-in-Run-clause-command c =
    let words = word_texts c.args.words.now in
    let bad = c.in_err-read_run-in-Run.ensures.run in
    bad-answer (IsCommand words) (IsBadWord words) _ _ c.from_residual.ensures.1
    (bad-among form.Run words _ bad.place (first-same form.Run c.args.words.now c.in-Some.first c.in-Some.ensures.value
    (c.in-Some-form_of.ensures ∙ ap form_word c.in-Run.is)) bad.is bad.bad)

pub returns-in_err-read_session-in-Session-clause-command : goal.returns-in_err-read_session-in-Session-clause-command
returns-in_err-read_session-in-Session-clause-command c =
    let words = word_texts c.args.words.now in
    let bad = c.in_err-read_session-in-Session.ensures.session in
    bad-answer (IsCommand words) (IsBadWord words) _ _ c.from_residual-in_err-read_session-in-Session.ensures.1
    (bad-among form.Session words _ bad.place (first-same form.Session c.args.words.now c.in-Some.first c.in-Some.ensures.value
    (c.in-Some-form_of.ensures ∙ ap form_word c.in-Session.is)) bad.is bad.bad)

pub returns-in_err-read_deepen-in-Deepen-clause-command : goal.returns-in_err-read_deepen-in-Deepen-clause-command
returns-in_err-read_deepen-in-Deepen-clause-command c =
    let words = word_texts c.args.words.now in
    let bad = c.in_err-read_deepen-in-Deepen.ensures.deepen in
    bad-answer (IsCommand words) (IsBadWord words) _ _ c.from_residual-in_err-read_deepen-in-Deepen.ensures.1
    (bad-among form.Deepen words _ bad.place (first-same form.Deepen c.args.words.now c.in-Some.first c.in-Some.ensures.value
    (c.in-Some-form_of.ensures ∙ ap form_word c.in-Deepen.is)) bad.is bad.bad)

pub returns-in_err-read_print-in-Print-clause-command : goal.returns-in_err-read_print-in-Print-clause-command
returns-in_err-read_print-in-Print-clause-command c =
    let words = word_texts c.args.words.now in
    let bad = c.in_err-read_print-in-Print.ensures in
    bad-answer (IsCommand words) (IsBadWord words) _ _ c.from_residual-in_err-read_print-in-Print.ensures.1
    (bad-among form.Print words _ bad.place (first-same form.Print c.args.words.now c.in-Some.first c.in-Some.ensures.value
    (c.in-Some-form_of.ensures ∙ ap form_word c.in-Print.is)) bad.is bad.bad)

pub returns-in_err-read_check-in-Check-clause-command : goal.returns-in_err-read_check-in-Check-clause-command
returns-in_err-read_check-in-Check-clause-command c =
    let words = word_texts c.args.words.now in
    let bad = c.in_err-read_check-in-Check.ensures in
    bad-answer (IsCommand words) (IsBadWord words) _ _ c.from_residual-in_err-read_check-in-Check.ensures.1
    (bad-among form.Check words _ bad.place (first-same form.Check c.args.words.now c.in-Some.first c.in-Some.ensures.value
    (c.in-Some-form_of.ensures ∙ ap form_word c.in-Check.is)) bad.is bad.bad)

pub returns-in_err-read_cover-in-Cover-clause-command : goal.returns-in_err-read_cover-in-Cover-clause-command
returns-in_err-read_cover-in-Cover-clause-command c =
    let words = word_texts c.args.words.now in
    let bad = c.in_err-read_cover-in-Cover.ensures.cover in
    bad-answer (IsCommand words) (IsBadWord words) _ _ c.from_residual-in_err-read_cover-in-Cover.ensures.1
    (bad-among form.Cover words _ bad.place (first-same form.Cover c.args.words.now c.in-Some.first c.in-Some.ensures.value
    (c.in-Some-form_of.ensures ∙ ap form_word c.in-Cover.is)) bad.is bad.bad)

pub returns-in_err-read_convert-in-Convert-clause-command : goal.returns-in_err-read_convert-in-Convert-clause-command
returns-in_err-read_convert-in-Convert-clause-command c =
    let words = word_texts c.args.words.now in
    let bad = c.in_err-read_convert-in-Convert.ensures.convert in
    bad-answer (IsCommand words) (IsBadWord words) _ _ c.from_residual-in_err-read_convert-in-Convert.ensures.1
    (bad-among form.Convert words _ bad.place (first-same form.Convert c.args.words.now c.in-Some.first c.in-Some.ensures.value
    (c.in-Some-form_of.ensures ∙ ap form_word c.in-Convert.is)) bad.is bad.bad)

pub returns-in-Make-clause-command : goal.returns-in-Make-clause-command
returns-in-Make-clause-command c =
    let words = word_texts c.args.words.now in
    make-answer words (IsCommand words) c.read_make.result (first-same form.Make c.args.words.now c.in-Some.first c.in-Some.ensures.value
    (c.in-Some-form_of.ensures ∙ ap form_word c.in-Make.is)) c.read_make.ensures.command

pub returns-in_default-clause-bound : goal.returns-in_default-clause-bound
returns-in_default-clause-bound c = _

pub returns-in_default-form_of-clause-bound : goal.returns-in_default-form_of-clause-bound
returns-in_default-form_of-clause-bound c = _

pub returns-in_err-read_run-in-Run-clause-bound : goal.returns-in_err-read_run-in-Run-clause-bound
returns-in_err-read_run-in-Run-clause-bound c = IfOk-from_err c.from_residual.result _ c.from_residual.ensures.0

pub returns-in_err-read_session-in-Session-clause-bound : goal.returns-in_err-read_session-in-Session-clause-bound
returns-in_err-read_session-in-Session-clause-bound c =
    IfOk-from_err c.from_residual-in_err-read_session-in-Session.result _ c.from_residual-in_err-read_session-in-Session.ensures.0

pub returns-in_err-read_deepen-in-Deepen-clause-bound : goal.returns-in_err-read_deepen-in-Deepen-clause-bound
returns-in_err-read_deepen-in-Deepen-clause-bound c =
    IfOk-from_err c.from_residual-in_err-read_deepen-in-Deepen.result _ c.from_residual-in_err-read_deepen-in-Deepen.ensures.0

pub returns-in_err-read_print-in-Print-clause-bound : goal.returns-in_err-read_print-in-Print-clause-bound
returns-in_err-read_print-in-Print-clause-bound c =
    IfOk-from_err c.from_residual-in_err-read_print-in-Print.result _ c.from_residual-in_err-read_print-in-Print.ensures.0

pub returns-in_err-read_check-in-Check-clause-bound : goal.returns-in_err-read_check-in-Check-clause-bound
returns-in_err-read_check-in-Check-clause-bound c =
    IfOk-from_err c.from_residual-in_err-read_check-in-Check.result _ c.from_residual-in_err-read_check-in-Check.ensures.0

pub returns-in_err-read_cover-in-Cover-clause-bound : goal.returns-in_err-read_cover-in-Cover-clause-bound
returns-in_err-read_cover-in-Cover-clause-bound c =
    IfOk-from_err c.from_residual-in_err-read_cover-in-Cover.result _ c.from_residual-in_err-read_cover-in-Cover.ensures.0

pub returns-in_err-read_convert-in-Convert-clause-bound : goal.returns-in_err-read_convert-in-Convert-clause-bound
returns-in_err-read_convert-in-Convert-clause-bound c =
    IfOk-from_err c.from_residual-in_err-read_convert-in-Convert.result _ c.from_residual-in_err-read_convert-in-Convert.ensures.0

pub returns-in_ok-read_print-in-Print-clause-bound : goal.returns-in_ok-read_print-in-Print-clause-bound
returns-in_ok-read_print-in-Print-clause-bound c = _

pub returns-in_ok-read_run-in-Run-clause-command : goal.returns-in_ok-read_run-in-Run-clause-command
returns-in_ok-read_run-in-Run-clause-command c = c.in_ok-read_run-in-Run.ensures.run

pub returns-in_ok-read_run-in-Run-clause-bound : goal.returns-in_ok-read_run-in-Run-clause-bound
returns-in_ok-read_run-in-Run-clause-bound c = c.in_ok-read_run-in-Run.ensures.bound

pub returns-in_ok-read_session-in-Session-clause-command : goal.returns-in_ok-read_session-in-Session-clause-command
returns-in_ok-read_session-in-Session-clause-command c = c.in_ok-read_session-in-Session.ensures.session

pub returns-in_ok-read_session-in-Session-clause-bound : goal.returns-in_ok-read_session-in-Session-clause-bound
returns-in_ok-read_session-in-Session-clause-bound c = c.in_ok-read_session-in-Session.ensures.bound

pub returns-in_ok-read_deepen-in-Deepen-clause-command : goal.returns-in_ok-read_deepen-in-Deepen-clause-command
returns-in_ok-read_deepen-in-Deepen-clause-command c = c.in_ok-read_deepen-in-Deepen.ensures.deepen

pub returns-in_ok-read_deepen-in-Deepen-clause-bound : goal.returns-in_ok-read_deepen-in-Deepen-clause-bound
returns-in_ok-read_deepen-in-Deepen-clause-bound c = c.in_ok-read_deepen-in-Deepen.ensures.bound

pub returns-in_ok-read_print-in-Print-clause-command : goal.returns-in_ok-read_print-in-Print-clause-command
returns-in_ok-read_print-in-Print-clause-command c = c.in_ok-read_print-in-Print.ensures

pub returns-in_ok-read_check-in-Check-clause-command : goal.returns-in_ok-read_check-in-Check-clause-command
returns-in_ok-read_check-in-Check-clause-command c = c.in_ok-read_check-in-Check.ensures

pub returns-in_ok-read_cover-in-Cover-clause-command : goal.returns-in_ok-read_cover-in-Cover-clause-command
returns-in_ok-read_cover-in-Cover-clause-command c = c.in_ok-read_cover-in-Cover.ensures.cover

pub returns-in_ok-read_cover-in-Cover-clause-bound : goal.returns-in_ok-read_cover-in-Cover-clause-bound
returns-in_ok-read_cover-in-Cover-clause-bound c = c.in_ok-read_cover-in-Cover.ensures.bound

pub returns-in_ok-read_convert-in-Convert-clause-command : goal.returns-in_ok-read_convert-in-Convert-clause-command
returns-in_ok-read_convert-in-Convert-clause-command c = c.in_ok-read_convert-in-Convert.ensures.convert

pub returns-in_ok-read_convert-in-Convert-clause-bound : goal.returns-in_ok-read_convert-in-Convert-clause-bound
returns-in_ok-read_convert-in-Convert-clause-bound c = c.in_ok-read_convert-in-Convert.ensures.version

pub returns-in-Make-clause-bound : goal.returns-in-Make-clause-bound
returns-in-Make-clause-bound c = c.read_make.ensures.bound

pub read_run-requires : goal.read_run-requires
read_run-requires c = first-same form.Run c.args.words.now c.in-Some.first c.in-Some.ensures.value (c.in-Some-form_of.ensures ∙ ap form_word c.in-Run.is)

pub read_session-requires : goal.read_session-requires
read_session-requires c =
    first-same form.Session c.args.words.now c.in-Some.first c.in-Some.ensures.value (c.in-Some-form_of.ensures ∙ ap form_word c.in-Session.is)

pub read_deepen-requires : goal.read_deepen-requires
read_deepen-requires c =
    first-same form.Deepen c.args.words.now c.in-Some.first c.in-Some.ensures.value (c.in-Some-form_of.ensures ∙ ap form_word c.in-Deepen.is)

pub read_print-requires : goal.read_print-requires
read_print-requires c =
    first-same form.Print c.args.words.now c.in-Some.first c.in-Some.ensures.value (c.in-Some-form_of.ensures ∙ ap form_word c.in-Print.is)

pub read_check-requires : goal.read_check-requires
read_check-requires c =
    first-same form.Check c.args.words.now c.in-Some.first c.in-Some.ensures.value (c.in-Some-form_of.ensures ∙ ap form_word c.in-Check.is)

pub read_cover-requires : goal.read_cover-requires
read_cover-requires c =
    first-same form.Cover c.args.words.now c.in-Some.first c.in-Some.ensures.value (c.in-Some-form_of.ensures ∙ ap form_word c.in-Cover.is)

pub read_convert-requires : goal.read_convert-requires
read_convert-requires c =
    first-same form.Convert c.args.words.now c.in-Some.first c.in-Some.ensures.value (c.in-Some-form_of.ensures ∙ ap form_word c.in-Convert.is)

pub read_make-requires : goal.read_make-requires
read_make-requires c = first-same form.Make c.args.words.now c.in-Some.first c.in-Some.ensures.value (c.in-Some-form_of.ensures ∙ ap form_word c.in-Make.is)
