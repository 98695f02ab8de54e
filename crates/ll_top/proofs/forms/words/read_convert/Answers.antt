use Rattle.std.proofs.lemmas.Result.{IfOk-from_err}
use Rattle.std.proofs.Common.{◌<◌, ◌≤◌, ℕ, List, length, refl, arith}
use Rattle.std.specs.Borrow.{Bor}
use Rattle.std.proofs.lemmas.List.{length-map}
use Rattle.ll_top.specs.forms.Words.{word_texts}
use Rattle.ll_top.specs.forms.Words.{IsConvert, convert_form, shown_convert}
use Rattle.ll_top.specs.forms.FormWords.{IsBadFormWord}
use Rattle.ll_top.proofs.wording.WordValues.{bad-answer, has-name, word-inside, this-word}
use Rattle.ll_top.proofs.wording.CommandWords.{no-converted, no-version_word, no-version, version-is, one-more_converted, whole-convert}
use Rattle.ll_top.proofs.forms.words.read_convert.Goals as goal

pub returns-in_err-proof-clause-convert : goal.returns-in_err-proof-clause-convert
returns-in_err-proof-clause-convert c =
    let words = word_texts c.args.words.now in
    bad-answer (λ convert. IsConvert words (shown_convert convert)) (IsBadFormWord convert_form words) _ _ c.from_residual.ensures.1
    (no-converted words c.requires _ c.in_err-proof.ensures.0 c.in_err-proof.ensures.1)

pub returns-in_err-this_at-clause-convert : goal.returns-in_err-this_at-clause-convert
returns-in_err-this_at-clause-convert c =
    let words = word_texts c.args.words.now in
    bad-answer (λ convert. IsConvert words (shown_convert convert)) (IsBadFormWord convert_form words) _ _ c.from_residual-in_err-this_at.ensures.1
    (no-version_word words c.requires (has-name words 1 _ c.in_ok-proof.ensures.0 c.in_ok-proof.ensures.1) _ c.in_err-this_at.ensures.0
    c.in_err-this_at.ensures.1)

pub returns-in_err-version-clause-convert : goal.returns-in_err-version-clause-convert
returns-in_err-version-clause-convert c =
    let words = word_texts c.args.words.now in
    bad-answer (λ convert. IsConvert words (shown_convert convert)) (IsBadFormWord convert_form words) _ _ c.from_residual-in_err-version.ensures.1
    (no-version words c.requires (has-name words 1 _ c.in_ok-proof.ensures.0 c.in_ok-proof.ensures.1) c.in_ok-this_at.ensures _ c.in_err-version.ensures.0
    c.in_err-version.ensures.1)

pub returns-then-words-gt4-clause-convert : goal.returns-then-words-gt4-clause-convert
returns-then-words-gt4-clause-convert c =
    let words = word_texts c.args.words.now in
    let same = length-map c.args.words.now (λ (b : Bor (List ℕ)). b.now) in
    let more : 4 < length words = let h = c.if-words-gt4.true in omega arith in
    one-more_converted words c.requires (has-name words 1 _ c.in_ok-proof.ensures.0 c.in_ok-proof.ensures.1) c.in_ok-this_at.ensures _ c.in_ok-version.ensures
    more

pub returns-clause-convert : goal.returns-clause-convert
returns-clause-convert c =
    let words = word_texts c.args.words.now in
    let same = length-map c.args.words.now (λ (b : Bor (List ℕ)). b.now) in
    let few : length words ≤ 4 = let h = c.if-words-gt4.false in omega arith in
    whole-convert words c.requires (has-name words 1 _ c.in_ok-proof.ensures.0 c.in_ok-proof.ensures.1) c.in_ok-this_at.ensures _ c.in_ok-version.ensures _ refl
    c.in_ok-proof.ensures.0 few

pub returns-clause-version : goal.returns-clause-version
returns-clause-version c =
    let words = word_texts c.args.words.now in
    version-is words c.requires (has-name words 1 _ c.in_ok-proof.ensures.0 c.in_ok-proof.ensures.1) c.in_ok-this_at.ensures _ c.in_ok-version.ensures

pub returns-in_err-proof-clause-version : goal.returns-in_err-proof-clause-version
returns-in_err-proof-clause-version c = IfOk-from_err c.from_residual.result _ c.from_residual.ensures.0

pub returns-in_err-this_at-clause-version : goal.returns-in_err-this_at-clause-version
returns-in_err-this_at-clause-version c = IfOk-from_err c.from_residual-in_err-this_at.result _ c.from_residual-in_err-this_at.ensures.0

pub returns-in_err-version-clause-version : goal.returns-in_err-version-clause-version
returns-in_err-version-clause-version c = IfOk-from_err c.from_residual-in_err-version.result _ c.from_residual-in_err-version.ensures.0

pub returns-then-words-gt4-clause-version : goal.returns-then-words-gt4-clause-version
returns-then-words-gt4-clause-version c = _

pub name_at-requires : goal.name_at-requires
name_at-requires c = word-inside c.args.words.now 0 _ (this-word (word_texts c.args.words.now) 0 _ c.requires)

pub this_at-requires : goal.this_at-requires
this_at-requires c = word-inside c.args.words.now 1 _ c.in_ok-proof.ensures.0

pub number_at-requires : goal.number_at-requires
number_at-requires c = word-inside c.args.words.now 2 _ (this-word (word_texts c.args.words.now) 2 _ c.in_ok-this_at.ensures)
