use Rattle.std.proofs.lemmas.Result.{IfOk-from_err}
use Rattle.std.proofs.Common.{◌<◌, ◌≤◌, ℕ, List, length, refl, arith}
use Rattle.std.specs.Borrow.{Bor}
use Rattle.std.proofs.lemmas.List.{length-map}
use Rattle.ll_top.specs.forms.Words.{word_texts}
use Rattle.ll_top.specs.forms.Words.{IsCheck, cover_form, shown_check}
use Rattle.ll_top.specs.forms.FormWords.{IsBadFormWord}
use Rattle.ll_top.proofs.wording.WordValues.{bad-answer, has-name, word-inside, this-word, value-small, number-word-at}
use Rattle.ll_top.proofs.wording.CommandWords.{no-covered_program, no-covered_query, no-covered_proof, no-bound_word, no-number, one-more_covered, whole-cover}
use Rattle.ll_top.proofs.forms.words.read_cover.Goals as goal

pub returns-in_err-program-clause-cover : goal.returns-in_err-program-clause-cover
returns-in_err-program-clause-cover c =
    let words = word_texts c.args.words.now in
    bad-answer (λ check. IsCheck words (shown_check check)) (IsBadFormWord cover_form words) _ _ c.from_residual.ensures.1
    (no-covered_program words c.requires _ c.in_err-program.ensures.0 c.in_err-program.ensures.1)

pub returns-in_err-query-clause-cover : goal.returns-in_err-query-clause-cover
returns-in_err-query-clause-cover c =
    let words = word_texts c.args.words.now in
    bad-answer (λ check. IsCheck words (shown_check check)) (IsBadFormWord cover_form words) _ _ c.from_residual-in_err-query.ensures.1
    (no-covered_query words c.requires (has-name words 1 _ c.in_ok-program.ensures.0 c.in_ok-program.ensures.1) _ c.in_err-query.ensures.0
    c.in_err-query.ensures.1)

pub returns-in_err-proof-clause-cover : goal.returns-in_err-proof-clause-cover
returns-in_err-proof-clause-cover c =
    let words = word_texts c.args.words.now in
    bad-answer (λ check. IsCheck words (shown_check check)) (IsBadFormWord cover_form words) _ _ c.from_residual-in_err-proof.ensures.1
    (no-covered_proof words c.requires (has-name words 1 _ c.in_ok-program.ensures.0 c.in_ok-program.ensures.1)
    (has-name words 2 _ c.in_ok-query.ensures.0 c.in_ok-query.ensures.1) _
    c.in_err-proof.ensures.0 c.in_err-proof.ensures.1)

pub returns-in_err-this_at-clause-cover : goal.returns-in_err-this_at-clause-cover
returns-in_err-this_at-clause-cover c =
    let words = word_texts c.args.words.now in
    bad-answer (λ check. IsCheck words (shown_check check)) (IsBadFormWord cover_form words) _ _ c.from_residual-in_err-this_at.ensures.1
    (no-bound_word words c.requires (has-name words 1 _ c.in_ok-program.ensures.0 c.in_ok-program.ensures.1)
    (has-name words 2 _ c.in_ok-query.ensures.0 c.in_ok-query.ensures.1)
    (has-name words 3 _ c.in_ok-proof.ensures.0 c.in_ok-proof.ensures.1) _ c.in_err-this_at.ensures.0 c.in_err-this_at.ensures.1)

pub returns-in_err-bound-clause-cover : goal.returns-in_err-bound-clause-cover
returns-in_err-bound-clause-cover c =
    let words = word_texts c.args.words.now in
    bad-answer (λ check. IsCheck words (shown_check check)) (IsBadFormWord cover_form words) _ _ c.from_residual-in_err-bound.ensures.1
    (no-number words c.requires (has-name words 1 _ c.in_ok-program.ensures.0 c.in_ok-program.ensures.1)
    (has-name words 2 _ c.in_ok-query.ensures.0 c.in_ok-query.ensures.1)
    (has-name words 3 _ c.in_ok-proof.ensures.0 c.in_ok-proof.ensures.1) c.in_ok-this_at.ensures _ c.in_err-bound.ensures.0 c.in_err-bound.ensures.1)

pub returns-then-words-gt6-clause-cover : goal.returns-then-words-gt6-clause-cover
returns-then-words-gt6-clause-cover c =
    let words = word_texts c.args.words.now in
    let same = length-map c.args.words.now (λ (b : Bor (List ℕ)). b.now) in
    let more : 6 < length words = let h = c.if-words-gt6.true in omega arith in
    one-more_covered words c.requires (has-name words 1 _ c.in_ok-program.ensures.0 c.in_ok-program.ensures.1)
    (has-name words 2 _ c.in_ok-query.ensures.0 c.in_ok-query.ensures.1)
    (has-name words 3 _ c.in_ok-proof.ensures.0 c.in_ok-proof.ensures.1) c.in_ok-this_at.ensures _ c.in_ok-bound.ensures more

pub returns-clause-cover : goal.returns-clause-cover
returns-clause-cover c =
    let words = word_texts c.args.words.now in
    let same = length-map c.args.words.now (λ (b : Bor (List ℕ)). b.now) in
    let few : length words ≤ 6 = let h = c.if-words-gt6.false in omega arith in
    whole-cover words c.requires (has-name words 1 _ c.in_ok-program.ensures.0 c.in_ok-program.ensures.1)
    (has-name words 2 _ c.in_ok-query.ensures.0 c.in_ok-query.ensures.1)
    (has-name words 3 _ c.in_ok-proof.ensures.0 c.in_ok-proof.ensures.1) c.in_ok-this_at.ensures _ c.in_ok-bound.ensures _ refl c.in_ok-program.ensures.0
    c.in_ok-query.ensures.0
    c.in_ok-proof.ensures.0 few

pub returns-in_err-program-clause-bound : goal.returns-in_err-program-clause-bound
returns-in_err-program-clause-bound c = IfOk-from_err c.from_residual.result _ c.from_residual.ensures.0

pub returns-in_err-query-clause-bound : goal.returns-in_err-query-clause-bound
returns-in_err-query-clause-bound c = IfOk-from_err c.from_residual-in_err-query.result _ c.from_residual-in_err-query.ensures.0

pub returns-in_err-proof-clause-bound : goal.returns-in_err-proof-clause-bound
returns-in_err-proof-clause-bound c = IfOk-from_err c.from_residual-in_err-proof.result _ c.from_residual-in_err-proof.ensures.0

pub returns-in_err-this_at-clause-bound : goal.returns-in_err-this_at-clause-bound
returns-in_err-this_at-clause-bound c = IfOk-from_err c.from_residual-in_err-this_at.result _ c.from_residual-in_err-this_at.ensures.0

pub returns-in_err-bound-clause-bound : goal.returns-in_err-bound-clause-bound
returns-in_err-bound-clause-bound c = IfOk-from_err c.from_residual-in_err-bound.result _ c.from_residual-in_err-bound.ensures.0

pub returns-then-words-gt6-clause-bound : goal.returns-then-words-gt6-clause-bound
returns-then-words-gt6-clause-bound c = _

pub name_at-requires : goal.name_at-requires
name_at-requires c = word-inside c.args.words.now 0 _ (this-word (word_texts c.args.words.now) 0 _ c.requires)

pub name_at-requires-2 : goal.name_at-requires-2
name_at-requires-2 c = word-inside c.args.words.now 1 _ c.in_ok-program.ensures.0

pub name_at-requires-3 : goal.name_at-requires-3
name_at-requires-3 c = word-inside c.args.words.now 2 _ c.in_ok-query.ensures.0

pub this_at-requires : goal.this_at-requires
this_at-requires c = word-inside c.args.words.now 3 _ c.in_ok-proof.ensures.0

pub number_at-requires : goal.number_at-requires
number_at-requires c = word-inside c.args.words.now 4 _ (this-word (word_texts c.args.words.now) 4 _ c.in_ok-this_at.ensures)

pub returns-clause-bound : goal.returns-clause-bound
returns-clause-bound c = let n = number-word-at (word_texts c.args.words.now) 5 0 1000000 _ c.in_ok-bound.ensures in value-small 0 1000000 n.word _ n.number
