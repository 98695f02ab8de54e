use Rattle.std.proofs.lemmas.Result.{IfOk-from_err}
use Rattle.std.proofs.Common.{◌+◌, sym, subst}
use Rattle.ll_top.specs.declared.forms.searches.SearchOptions.{SearchOptions}
use Rattle.ll_top.specs.forms.Words.{word_texts}
use Rattle.ll_top.specs.forms.SearchOptions.{IsReadTo, IsBadSearchWord}
use Rattle.ll_top.proofs.wording.WordValues.{word-at, text-at, bad-answer}
use Rattle.ll_top.proofs.wording.SearchWords.{no-option, flag-read, bad-number, value-read}
use Rattle.ll_top.proofs.forms.searches.read_option.Goals as goal

pub returns-in_default-clause-read : goal.returns-in_default-clause-read
returns-in_default-clause-read c =
    no-option (word_texts c.args.words.now) c.args.form c.args.options c.args.at c.requires.read _ (word-at c.args.words.now c.args.at _ c.requires.within)
    c.in_default.ensures

pub returns-in_default-limits_of-clause-read : goal.returns-in_default-limits_of-clause-read
returns-in_default-limits_of-clause-read c =
    let words = word_texts c.args.words.now in
    subst (λ (o : SearchOptions). IsReadTo words c.args.form o (c.args.at + 1)) (sym c.with_value.ensures)
    (flag-read words c.args.form c.args.options c.args.at c.requires.read c.in-Some.option c.in-Some.ensures.1
    (text-at c.args.words.now c.args.at _ _ c.requires.within c.in-Some.ensures.0) c.in_default-limits_of.ensures)

pub returns-in_err-value-clause-read : goal.returns-in_err-value-clause-read
returns-in_err-value-clause-read c =
    let words = word_texts c.args.words.now in
    let limits = c.in-Some-limits_of.ensures in
    bad-answer (λ read. IsReadTo words c.args.form read.options read.next) (IsBadSearchWord c.args.form words) _ _ c.from_residual.ensures.1
    (bad-number words c.args.form c.args.options c.args.at c.requires.read c.in-Some.option c.in-Some.ensures.1
    (text-at c.args.words.now c.args.at _ _ c.requires.within c.in-Some.ensures.0) _ _ _
    c.in_err-value.ensures.0 limits.0 limits.1 limits.2 c.in_err-value.ensures.1)

pub returns-clause-read : goal.returns-clause-read
returns-clause-read c =
    let words = word_texts c.args.words.now in
    let limits = c.in-Some-limits_of.ensures in
    subst (λ (o : SearchOptions). IsReadTo words c.args.form o (c.args.at + 2)) (sym c.with_value-2.ensures)
    (value-read words c.args.form c.args.options c.args.at c.requires.read c.in-Some.option c.in-Some.ensures.1
    (text-at c.args.words.now c.args.at _ _ c.requires.within c.in-Some.ensures.0) _ _ _
    limits.0 limits.1 limits.2 c.in_ok-value.ensures)

pub returns-in_default-clause-further : goal.returns-in_default-clause-further
returns-in_default-clause-further c = _

pub returns-in_err-value-clause-further : goal.returns-in_err-value-clause-further
returns-in_err-value-clause-further c = IfOk-from_err c.from_residual.result _ c.from_residual.ensures.0
