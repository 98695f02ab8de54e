use Rattle.ll_top.specs.forms.Words.{word_texts}
use Rattle.ll_top.specs.forms.SearchOptions.{IsSearch, IsBadSearchWord}
use Rattle.ll_top.proofs.wording.WordValues.{bad-answer, has-name}
use Rattle.ll_top.proofs.wording.SearchWords.{no-first, no-second, names-read}
use Rattle.ll_top.proofs.forms.searches.read_search.Goals as goal

pub returns-in_err-first : goal.returns-in_err-first
returns-in_err-first c =
    let words = word_texts c.args.words.now in
    bad-answer (λ search. IsSearch words c.args.form search.first.now search.second.now search.options) (IsBadSearchWord c.args.form words) _ _
    c.from_residual.ensures.1
    (no-first c.args.form words c.requires _ c.in_err-first.ensures.0 c.in_err-first.ensures.1)

pub returns-in_err-second : goal.returns-in_err-second
returns-in_err-second c =
    let words = word_texts c.args.words.now in
    bad-answer (λ search. IsSearch words c.args.form search.first.now search.second.now search.options) (IsBadSearchWord c.args.form words) _ _
    c.from_residual-in_err-second.ensures.1
    (no-second c.args.form words c.requires (has-name words 1 _ c.in_ok-first.ensures.0 c.in_ok-first.ensures.1) _ c.in_err-second.ensures.0
    c.in_err-second.ensures.1)

pub read_options-requires : goal.read_options-requires
read_options-requires c =
    let words = word_texts c.args.words.now in
    names-read c.args.form words c.requires (has-name words 1 _ c.in_ok-first.ensures.0 c.in_ok-first.ensures.1)
    (has-name words 2 _ c.in_ok-second.ensures.0 c.in_ok-second.ensures.1)

pub returns-in_err-options : goal.returns-in_err-options
returns-in_err-options c =
    let words = word_texts c.args.words.now in
    bad-answer (λ search. IsSearch words c.args.form search.first.now search.second.now search.options) (IsBadSearchWord c.args.form words) _ _
    c.from_residual-in_err-options.ensures.1 c.in_err-options.ensures

pub returns : goal.returns
returns c = record { first_is = c.in_ok-first.ensures.0; second_is = c.in_ok-second.ensures.0; read = c.in_ok-options.ensures }
