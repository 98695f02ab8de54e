use Rattle.std.proofs.lemmas.Result.{IfOk-from_err}
use Rattle.std.proofs.Common.{refl}
use Rattle.ll_top.specs.declared.forms.searches.SearchForm.TheVariants.{Deepen}
use Rattle.ll_top.specs.declared.forms.searches.SearchOption.TheVariants.{Workers, From, By, To}
use Rattle.ll_top.specs.forms.Words.{word_texts}
use Rattle.ll_top.specs.forms.Words.{IsDeepen, shown_deepen}
use Rattle.ll_top.specs.forms.SearchOptions.{IsBadSearchWord}
use Rattle.ll_top.proofs.wording.WordValues.{bad-answer}
use Rattle.ll_top.proofs.wording.SearchWords.{option-lacks, whole-deepen, whole-series, number-within, text-length}
use Rattle.ll_top.proofs.forms.searches.read_deepen.Goals as goal

pub returns-in_err-search-clause-deepen : goal.returns-in_err-search-clause-deepen
returns-in_err-search-clause-deepen c =
    let words = word_texts c.args.words.now in
    bad-answer (λ deepen. IsDeepen words (shown_deepen deepen)) (IsBadSearchWord Deepen words) _ _ c.from_residual.ensures.1 c.in_err-search.ensures

pub returns-in_default-clause-deepen : goal.returns-in_default-clause-deepen
returns-in_default-clause-deepen c =
    option-lacks (word_texts c.args.words.now) Deepen c.in_ok-search.search.options From _ (text-length c.args.words.now) refl (λ m. refl) c.in_default.is
    c.in_ok-search.ensures.read

pub returns-in_default-by-clause-deepen : goal.returns-in_default-by-clause-deepen
returns-in_default-by-clause-deepen c =
    option-lacks (word_texts c.args.words.now) Deepen c.in_ok-search.search.options By _ (text-length c.args.words.now) refl (λ m. refl) c.in_default-by.is
    c.in_ok-search.ensures.read

pub returns-in_default-to-clause-deepen : goal.returns-in_default-to-clause-deepen
returns-in_default-to-clause-deepen c =
    option-lacks (word_texts c.args.words.now) Deepen c.in_ok-search.search.options To _ (text-length c.args.words.now) refl (λ m. refl) c.in_default-to.is
    c.in_ok-search.ensures.read

pub returns-in_default-workers-clause-deepen : goal.returns-in_default-workers-clause-deepen
returns-in_default-workers-clause-deepen c =
    option-lacks (word_texts c.args.words.now) Deepen c.in_ok-search.search.options Workers _ (text-length c.args.words.now) refl (λ m. refl)
    c.in_default-workers.is c.in_ok-search.ensures.read

pub returns-clause-deepen : goal.returns-clause-deepen
returns-clause-deepen c =
    whole-deepen (word_texts c.args.words.now) _ _ c.in_ok-search.search.options _ c.in-Some-workers.is _ _ _ c.in-Some.is c.in-Some-by.is c.in-Some-to.is
    c.in_ok-search.ensures

pub returns-clause-bound : goal.returns-clause-bound
returns-clause-bound c =
    let words = word_texts c.args.words.now in
    let search = c.in_ok-search.ensures in
    let workers = number-within words Deepen _ _ c.in_ok-search.search.options search Workers _ c.in-Some-workers.is in (
      whole-series words _ _ c.in_ok-search.search.options _ c.in-Some-workers.is _ _ _ c.in-Some.is c.in-Some-by.is c.in-Some-to.is search,
      (workers.0, workers.1),
    )

pub returns-in_err-search-clause-bound : goal.returns-in_err-search-clause-bound
returns-in_err-search-clause-bound c = IfOk-from_err c.from_residual.result _ c.from_residual.ensures.0

pub returns-in_default-clause-bound : goal.returns-in_default-clause-bound
returns-in_default-clause-bound c = _

pub returns-in_default-by-clause-bound : goal.returns-in_default-by-clause-bound
returns-in_default-by-clause-bound c = _

pub returns-in_default-to-clause-bound : goal.returns-in_default-to-clause-bound
returns-in_default-to-clause-bound c = _

pub returns-in_default-workers-clause-bound : goal.returns-in_default-workers-clause-bound
returns-in_default-workers-clause-bound c = _
