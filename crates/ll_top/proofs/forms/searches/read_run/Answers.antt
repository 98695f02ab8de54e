use Rattle.std.proofs.lemmas.Result.{IfOk-from_err}
use Rattle.std.proofs.Common.{refl}
use Rattle.ll_top.specs.declared.forms.searches.SearchForm.TheVariants.{Run}
use Rattle.ll_top.specs.declared.forms.searches.SearchOption.TheVariants.{Bound, Workers, First}
use Rattle.ll_top.specs.forms.Words.{word_texts}
use Rattle.ll_top.specs.forms.Words.{IsRun, shown_words}
use Rattle.ll_top.specs.forms.SearchOptions.{IsBadSearchWord}
use Rattle.ll_top.proofs.wording.WordValues.{bad-answer}
use Rattle.ll_top.proofs.wording.SearchWords.{option-lacks, whole-run, number-within, first-positive, text-length}
use Rattle.ll_top.proofs.forms.searches.read_run.Goals as goal

pub returns-in_err-search-clause-run : goal.returns-in_err-search-clause-run
returns-in_err-search-clause-run c =
    let words = word_texts c.args.words.now in
    bad-answer (λ run. IsRun words (shown_words run)) (IsBadSearchWord Run words) _ _ c.from_residual.ensures.1 c.in_err-search.ensures

pub returns-in_default-clause-run : goal.returns-in_default-clause-run
returns-in_default-clause-run c =
    option-lacks (word_texts c.args.words.now) Run c.in_ok-search.search.options Bound _ (text-length c.args.words.now) refl (λ m. refl) c.in_default.is
    c.in_ok-search.ensures.read

pub returns-in_default-workers-clause-run : goal.returns-in_default-workers-clause-run
returns-in_default-workers-clause-run c =
    option-lacks (word_texts c.args.words.now) Run c.in_ok-search.search.options Workers _ (text-length c.args.words.now) refl (λ m. refl)
    c.in_default-workers.is c.in_ok-search.ensures.read

pub returns-clause-run : goal.returns-clause-run
returns-clause-run c =
    whole-run (word_texts c.args.words.now) _ _ c.in_ok-search.search.options _ c.in-Some-workers.is _ c.in-Some.is c.in_ok-search.ensures

pub returns-clause-bound : goal.returns-clause-bound
returns-clause-bound c =
    let words = word_texts c.args.words.now in
    let search = c.in_ok-search.ensures in
    let bound = number-within words Run _ _ c.in_ok-search.search.options search Bound _ c.in-Some.is in
    let workers = number-within words Run _ _ c.in_ok-search.search.options search Workers _ c.in-Some-workers.is in
    (bound.1, (workers.0, workers.1), first-positive c.in_ok-search.search.options (search.read.within First))

pub returns-in_err-search-clause-bound : goal.returns-in_err-search-clause-bound
returns-in_err-search-clause-bound c = IfOk-from_err c.from_residual.result _ c.from_residual.ensures.0

pub returns-in_default-clause-bound : goal.returns-in_default-clause-bound
returns-in_default-clause-bound c = _

pub returns-in_default-workers-clause-bound : goal.returns-in_default-workers-clause-bound
returns-in_default-workers-clause-bound c = _
