use Rattle.std.proofs.Common.{◌<◌, ◌≤◌, ℕ, List, length, refl, arith}
use Rattle.std.specs.Borrow.{Bor}
use Rattle.std.proofs.lemmas.List.{length-map}
use Rattle.ll_top.specs.forms.Words.{word_texts}
use Rattle.ll_top.specs.forms.Words.{IsCheck, check_form, shown_check}
use Rattle.ll_top.specs.forms.FormWords.{IsBadFormWord}
use Rattle.ll_top.proofs.wording.WordValues.{bad-answer, has-name, word-inside, this-word}
use Rattle.ll_top.proofs.wording.CommandWords.{no-checked_program, no-checked_query, no-checked_proof, one-more_checked, whole-check}
use Rattle.ll_top.proofs.forms.words.read_check.Goals as goal

pub returns-in_err-program : goal.returns-in_err-program
returns-in_err-program c =
    let words = word_texts c.args.words.now in
    bad-answer (λ check. IsCheck words (shown_check check)) (IsBadFormWord check_form words) _ _ c.from_residual.ensures.1
    (no-checked_program words c.requires _ c.in_err-program.ensures.0 c.in_err-program.ensures.1)

pub returns-in_err-query : goal.returns-in_err-query
returns-in_err-query c =
    let words = word_texts c.args.words.now in
    bad-answer (λ check. IsCheck words (shown_check check)) (IsBadFormWord check_form words) _ _ c.from_residual-in_err-query.ensures.1
    (no-checked_query words c.requires (has-name words 1 _ c.in_ok-program.ensures.0 c.in_ok-program.ensures.1) _ c.in_err-query.ensures.0
    c.in_err-query.ensures.1)

pub returns-in_err-proof : goal.returns-in_err-proof
returns-in_err-proof c =
    let words = word_texts c.args.words.now in
    bad-answer (λ check. IsCheck words (shown_check check)) (IsBadFormWord check_form words) _ _ c.from_residual-in_err-proof.ensures.1
    (no-checked_proof words c.requires (has-name words 1 _ c.in_ok-program.ensures.0 c.in_ok-program.ensures.1)
    (has-name words 2 _ c.in_ok-query.ensures.0 c.in_ok-query.ensures.1) _
    c.in_err-proof.ensures.0 c.in_err-proof.ensures.1)

pub returns-then-words-gt4 : goal.returns-then-words-gt4
returns-then-words-gt4 c =
    let words = word_texts c.args.words.now in
    let same = length-map c.args.words.now (λ (b : Bor (List ℕ)). b.now) in
    let more : 4 < length words = let h = c.if-words-gt4.true in omega arith in
    one-more_checked words c.requires (has-name words 1 _ c.in_ok-program.ensures.0 c.in_ok-program.ensures.1)
    (has-name words 2 _ c.in_ok-query.ensures.0 c.in_ok-query.ensures.1)
    (has-name words 3 _ c.in_ok-proof.ensures.0 c.in_ok-proof.ensures.1) more

pub returns : goal.returns
returns c =
    let words = word_texts c.args.words.now in
    let same = length-map c.args.words.now (λ (b : Bor (List ℕ)). b.now) in
    let few : length words ≤ 4 = let h = c.if-words-gt4.false in omega arith in
    whole-check words c.requires (has-name words 1 _ c.in_ok-program.ensures.0 c.in_ok-program.ensures.1)
    (has-name words 2 _ c.in_ok-query.ensures.0 c.in_ok-query.ensures.1)
    (has-name words 3 _ c.in_ok-proof.ensures.0 c.in_ok-proof.ensures.1) _ refl c.in_ok-program.ensures.0 c.in_ok-query.ensures.0 c.in_ok-proof.ensures.0 few

pub name_at-requires : goal.name_at-requires
name_at-requires c = word-inside c.args.words.now 0 _ (this-word (word_texts c.args.words.now) 0 _ c.requires)

pub name_at-requires-2 : goal.name_at-requires-2
name_at-requires-2 c = word-inside c.args.words.now 1 _ c.in_ok-program.ensures.0

pub name_at-requires-3 : goal.name_at-requires-3
name_at-requires-3 c = word-inside c.args.words.now 2 _ c.in_ok-query.ensures.0
