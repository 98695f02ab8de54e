use Rattle.std.proofs.Common.{◌<◌, ◌≤◌, ℕ, List, length, arith}
use Rattle.std.specs.Borrow.{Bor}
use Rattle.std.proofs.lemmas.List.{length-map}
use Rattle.ll_top.specs.forms.Words.{word_texts}
use Rattle.ll_top.specs.forms.Words.{IsPrint, print_form}
use Rattle.ll_top.specs.forms.FormWords.{IsBadFormWord}
use Rattle.ll_top.proofs.wording.WordValues.{bad-answer, has-name}
use Rattle.ll_top.proofs.wording.CommandWords.{no-name, one-more, whole-print}
use Rattle.ll_top.proofs.forms.words.read_print.Goals as goal

pub returns-in_err-name : goal.returns-in_err-name
returns-in_err-name c =
    let words = word_texts c.args.words.now in
    bad-answer (λ name. IsPrint words name.now) (IsBadFormWord print_form words) _ _ c.from_residual.ensures.1
    (no-name words c.requires _ c.in_err-name.ensures.0 c.in_err-name.ensures.1)

pub returns-then-words-gt2 : goal.returns-then-words-gt2
returns-then-words-gt2 c =
    let words = word_texts c.args.words.now in
    let same = length-map c.args.words.now (λ (b : Bor (List ℕ)). b.now) in
    let more : 2 < length words = let h = c.if-words-gt2.true in omega arith in
    one-more words c.requires (has-name words 1 _ c.in_ok-name.ensures.0 c.in_ok-name.ensures.1) more

pub returns : goal.returns
returns c =
    let words = word_texts c.args.words.now in
    let same = length-map c.args.words.now (λ (b : Bor (List ℕ)). b.now) in
    let few : length words ≤ 2 = let h = c.if-words-gt2.false in omega arith in
    whole-print words c.requires (has-name words 1 _ c.in_ok-name.ensures.0 c.in_ok-name.ensures.1) _ c.in_ok-name.ensures.0 few
