use Rattle.std.proofs.lemmas.Result.{IfOk-from_err}
use Rattle.std.proofs.Common.{refl}
use Rattle.ll_top.specs.declared.forms.searches.SearchForm.TheVariants.{Session}
use Rattle.ll_top.specs.declared.forms.searches.SearchOption.TheVariants.{Bound, Workers}
use Rattle.ll_top.specs.forms.Words.{word_texts}
use Rattle.ll_top.specs.forms.Words.{IsSession, shown_session}
use Rattle.ll_top.specs.forms.SearchOptions.{IsBadSearchWord}
use Rattle.ll_top.proofs.wording.WordValues.{bad-answer}
use Rattle.ll_top.proofs.wording.SearchWords.{option-lacks, whole-session, number-within, text-length}
use Rattle.ll_top.proofs.forms.searches.read_session.Goals as goal

pub returns-in_err-search-clause-session : goal.returns-in_err-search-clause-session
returns-in_err-search-clause-session c =
    let words = word_texts c.args.words.now in
    bad-answer (λ session. IsSession words (shown_session session)) (IsBadSearchWord Session words) _ _ c.from_residual.ensures.1 c.in_err-search.ensures

pub returns-in_default-clause-session : goal.returns-in_default-clause-session
returns-in_default-clause-session c =
    option-lacks (word_texts c.args.words.now) Session c.in_ok-search.search.options Bound _ (text-length c.args.words.now) refl (λ m. refl) c.in_default.is
    c.in_ok-search.ensures.read

pub returns-in_default-workers-clause-session : goal.returns-in_default-workers-clause-session
returns-in_default-workers-clause-session c =
    option-lacks (word_texts c.args.words.now) Session c.in_ok-search.search.options Workers _ (text-length c.args.words.now) refl (λ m. refl)
    c.in_default-workers.is c.in_ok-search.ensures.read

pub returns-clause-session : goal.returns-clause-session
returns-clause-session c =
    whole-session (word_texts c.args.words.now) _ _ c.in_ok-search.search.options _ c.in-Some-workers.is _ c.in-Some.is c.in_ok-search.ensures

pub returns-clause-bound : goal.returns-clause-bound
returns-clause-bound c =
    let words = word_texts c.args.words.now in
    let search = c.in_ok-search.ensures in
    let bound = number-within words Session _ _ c.in_ok-search.search.options search Bound _ c.in-Some.is in
    let workers = number-within words Session _ _ c.in_ok-search.search.options search Workers _ c.in-Some-workers.is in
    (bound.1, (workers.0, workers.1))

pub returns-in_err-search-clause-bound : goal.returns-in_err-search-clause-bound
returns-in_err-search-clause-bound c = IfOk-from_err c.from_residual.result _ c.from_residual.ensures.0

pub returns-in_default-clause-bound : goal.returns-in_default-clause-bound
returns-in_default-clause-bound c = _

pub returns-in_default-workers-clause-bound : goal.returns-in_default-workers-clause-bound
returns-in_default-workers-clause-bound c = _
