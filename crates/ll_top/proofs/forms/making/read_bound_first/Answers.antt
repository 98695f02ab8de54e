use Rattle.std.proofs.lemmas.Result.{IfOk-from_err}
use Rattle.std.proofs.Common.{◌<◌, ◌≤◌, ℕ, List, length, arith}
use Rattle.std.specs.Prelude.{codes}
use Rattle.std.specs.Borrow.{Bor}
use Rattle.std.proofs.lemmas.List.{length-map}
use Rattle.ll_top.specs.declared.forms.making.MadeOptions.{MadeOptions}
use Rattle.ll_top.specs.forms.Words.{word_texts}
use Rattle.ll_top.specs.forms.Words.{greatest_bound}
use Rattle.ll_top.specs.forms.MakeForm.{IsBadMakeWord, HasOptions}
use Rattle.ll_top.proofs.wording.WordValues.{bad-answer, this-word, word-inside, value-small, number-word-at, value-least}
use Rattle.ll_top.proofs.wording.MakeLemmas.{no-options, no-value, no-second, no-last, one-more, whole-bound_first, bound_first, number-inside, text-inside}
use Rattle.ll_top.proofs.forms.making.read_bound_first.Goals as goal

pub returns-in_err-this_at-clause-options : goal.returns-in_err-this_at-clause-options
returns-in_err-this_at-clause-options c =
    let words = word_texts c.args.words.now in
    bad-answer (λ (o : MadeOptions). HasOptions words o.bound o.workers) (IsBadMakeWord words) _ _ c.from_residual.ensures.1
    (no-options words c.requires.front _ c.in_err-this_at.ensures.0 c.in_err-this_at.ensures.1 c.requires.other)

pub returns-in_err-bound-clause-options : goal.returns-in_err-bound-clause-options
returns-in_err-bound-clause-options c =
    let words = word_texts c.args.words.now in
    bad-answer (λ (o : MadeOptions). HasOptions words o.bound o.workers) (IsBadMakeWord words) _ _ c.from_residual-in_err-bound.ensures.1
    (no-value words c.requires.front bound_first (this-word words 3 (codes "--bound") c.in_ok-this_at.ensures) _ c.in_err-bound.ensures.0
    c.in_err-bound.ensures.1)

pub this_at-requires-2 : goal.this_at-requires-2
this_at-requires-2 c =
    let h = number-inside c.args.words.now 4 0 greatest_bound _ c.in_ok-bound.ensures in omega arith

pub returns-in_err-this_at-2-clause-options : goal.returns-in_err-this_at-2-clause-options
returns-in_err-this_at-2-clause-options c =
    let words = word_texts c.args.words.now in
    bad-answer (λ (o : MadeOptions). HasOptions words o.bound o.workers) (IsBadMakeWord words) _ _ c.from_residual-in_err-this_at-2.ensures.1
    (no-second words c.requires.front bound_first (this-word words 3 (codes "--bound") c.in_ok-this_at.ensures) _ c.in_ok-bound.ensures _
    c.in_err-this_at-2.ensures.0 c.in_err-this_at-2.ensures.1)

pub number_at-requires-2 : goal.number_at-requires-2
number_at-requires-2 c =
    let h = text-inside c.args.words.now 5 (codes "--workers") c.in_ok-this_at-2.ensures in omega arith

pub returns-in_err-workers-clause-options : goal.returns-in_err-workers-clause-options
returns-in_err-workers-clause-options c =
    let words = word_texts c.args.words.now in
    bad-answer (λ (o : MadeOptions). HasOptions words o.bound o.workers) (IsBadMakeWord words) _ _ c.from_residual-in_err-workers.ensures.1
    (no-last words c.requires.front bound_first (this-word words 3 (codes "--bound") c.in_ok-this_at.ensures) _ c.in_ok-bound.ensures c.in_ok-this_at-2.ensures
    _ c.in_err-workers.ensures.0 c.in_err-workers.ensures.1)

pub returns-then-words-gt7-clause-options : goal.returns-then-words-gt7-clause-options
returns-then-words-gt7-clause-options c =
    let words = word_texts c.args.words.now in
    let same = length-map c.args.words.now (λ (b : Bor (List ℕ)). b.now) in
    let more : 7 < length words = let h = c.if-words-gt7.true in omega arith in
    one-more words c.requires.front bound_first (this-word words 3 (codes "--bound") c.in_ok-this_at.ensures) _ c.in_ok-bound.ensures c.in_ok-this_at-2.ensures
    _ c.in_ok-workers.ensures more

pub returns-clause-options : goal.returns-clause-options
returns-clause-options c =
    let words = word_texts c.args.words.now in
    let same = length-map c.args.words.now (λ (b : Bor (List ℕ)). b.now) in
    let few : length words ≤ 7 = let h = c.if-words-gt7.false in omega arith in
    whole-bound_first words c.requires.front _ _ few (this-word words 3 (codes "--bound") c.in_ok-this_at.ensures) c.in_ok-bound.ensures
    c.in_ok-this_at-2.ensures c.in_ok-workers.ensures

pub returns-in_err-this_at-clause-bound : goal.returns-in_err-this_at-clause-bound
returns-in_err-this_at-clause-bound c = IfOk-from_err c.from_residual.result _ c.from_residual.ensures.0

pub returns-in_err-this_at-clause-workers : goal.returns-in_err-this_at-clause-workers
returns-in_err-this_at-clause-workers c = IfOk-from_err c.from_residual.result _ c.from_residual.ensures.0

pub returns-in_err-bound-clause-bound : goal.returns-in_err-bound-clause-bound
returns-in_err-bound-clause-bound c = IfOk-from_err c.from_residual-in_err-bound.result _ c.from_residual-in_err-bound.ensures.0

pub returns-in_err-bound-clause-workers : goal.returns-in_err-bound-clause-workers
returns-in_err-bound-clause-workers c = IfOk-from_err c.from_residual-in_err-bound.result _ c.from_residual-in_err-bound.ensures.0

pub returns-in_err-this_at-2-clause-bound : goal.returns-in_err-this_at-2-clause-bound
returns-in_err-this_at-2-clause-bound c = IfOk-from_err c.from_residual-in_err-this_at-2.result _ c.from_residual-in_err-this_at-2.ensures.0

pub returns-in_err-this_at-2-clause-workers : goal.returns-in_err-this_at-2-clause-workers
returns-in_err-this_at-2-clause-workers c = IfOk-from_err c.from_residual-in_err-this_at-2.result _ c.from_residual-in_err-this_at-2.ensures.0

pub returns-in_err-workers-clause-bound : goal.returns-in_err-workers-clause-bound
returns-in_err-workers-clause-bound c = IfOk-from_err c.from_residual-in_err-workers.result _ c.from_residual-in_err-workers.ensures.0

pub returns-in_err-workers-clause-workers : goal.returns-in_err-workers-clause-workers
returns-in_err-workers-clause-workers c = IfOk-from_err c.from_residual-in_err-workers.result _ c.from_residual-in_err-workers.ensures.0

pub returns-then-words-gt7-clause-bound : goal.returns-then-words-gt7-clause-bound
returns-then-words-gt7-clause-bound c = _

pub returns-then-words-gt7-clause-workers : goal.returns-then-words-gt7-clause-workers
returns-then-words-gt7-clause-workers c = _

pub number_at-requires : goal.number_at-requires
number_at-requires c = word-inside c.args.words.now 3 _ (this-word (word_texts c.args.words.now) 3 _ c.in_ok-this_at.ensures)

pub returns-clause-bound : goal.returns-clause-bound
returns-clause-bound c = let n = number-word-at (word_texts c.args.words.now) 4 0 1000000 _ c.in_ok-bound.ensures in value-small 0 1000000 n.word _ n.number

pub returns-clause-workers : goal.returns-clause-workers
returns-clause-workers c =
    let n = number-word-at (word_texts c.args.words.now) 6 1 64 _ c.in_ok-workers.ensures in
    (value-least 1 64 n.word _ n.number, value-small 1 64 n.word _ n.number)
