use Rattle.std.proofs.Common.{◌<◌, ◌≤◌, ℕ, List, length, arith, codes}
use Rattle.std.specs.Borrow.{Bor}
use Rattle.std.proofs.lemmas.List.{length-map}
use Rattle.std.proofs.lemmas.Result.{IfOk-from_err}
use Rattle.ll_top.specs.forms.Words.{word_texts}
use Rattle.ll_top.specs.forms.Words.{IsCommand}
use Rattle.ll_top.specs.forms.MakeForm.{IsBadMakeWord}
use Rattle.ll_top.proofs.wording.WordValues.{bad-answer, word-inside, number-word-at, value-least, value-small}
use Rattle.ll_top.proofs.wording.MakeLemmas.{no-kind, no-number, at-options, whole-make, whole-run, number-inside, text-inside}
use Rattle.ll_top.proofs.forms.making.read_make.Goals as goal

pub returns-in_err-kind-clause-command : goal.returns-in_err-kind-clause-command
returns-in_err-kind-clause-command c =
    let words = word_texts c.args.words.now in
    bad-answer (IsCommand words) (IsBadMakeWord words) _ _ c.from_residual.ensures.1
    (no-kind words c.requires _ c.in_err-kind.ensures.0 c.in_err-kind.ensures.1)

pub returns-in_err-number-clause-command : goal.returns-in_err-number-clause-command
returns-in_err-number-clause-command c =
    let words = word_texts c.args.words.now in
    bad-answer (IsCommand words) (IsBadMakeWord words) _ _ c.from_residual-in_err-number.ensures.1
    (no-number words c.requires _ c.in_ok-kind.ensures _ c.in_err-number.ensures.0
    (rw (c.least_number.ensures, c.greatest_number.ensures) at c.in_err-number.ensures.1))

pub returns-then-words-eq3-clause-command : goal.returns-then-words-eq3-clause-command
returns-then-words-eq3-clause-command c =
    let words = word_texts c.args.words.now in
    let same = length-map c.args.words.now (λ (b : Bor (List ℕ)). b.now) in
    let few : length words ≤ 3 = let h = c.if-words-eq3.true in omega arith in
    whole-make words c.requires _ c.in_ok-kind.ensures _ (rw (c.least_number.ensures, c.greatest_number.ensures) at c.in_ok-number.ensures) few

pub read_options-requires-clause-more : goal.read_options-requires-clause-more
read_options-requires-clause-more c =
    let h = number-inside c.args.words.now 2 _ _ _ c.in_ok-number.ensures in let n = c.if-words-eq3.false in omega arith

pub read_options-requires-clause-front : goal.read_options-requires-clause-front
read_options-requires-clause-front c =
    let words = word_texts c.args.words.now in
    let same = length-map c.args.words.now (λ (b : Bor (List ℕ)). b.now) in
    let h = number-inside c.args.words.now 2 _ _ _ c.in_ok-number.ensures in
    let more : 3 < length words = let n = c.if-words-eq3.false in omega arith in
    at-options words c.requires _ c.in_ok-kind.ensures _ (rw (c.least_number.ensures, c.greatest_number.ensures) at c.in_ok-number.ensures) more

pub returns-in_err-options-clause-command : goal.returns-in_err-options-clause-command
returns-in_err-options-clause-command c =
    let words = word_texts c.args.words.now in
    bad-answer (IsCommand words) (IsBadMakeWord words) _ _ c.from_residual-in_err-options.ensures.1 c.in_err-options.ensures.options

pub returns-clause-command : goal.returns-clause-command
returns-clause-command c =
    let words = word_texts c.args.words.now in
    whole-run words c.requires _ c.in_ok-kind.ensures _ (rw (c.least_number.ensures, c.greatest_number.ensures) at c.in_ok-number.ensures) _ _
    c.in_ok-options.ensures.options

pub kind_at-requires : goal.kind_at-requires
kind_at-requires c = let h = text-inside c.args.words.now 0 (codes "make") c.requires in omega arith

pub number_at-requires : goal.number_at-requires
number_at-requires c = let h = word-inside c.args.words.now 1 _ c.in_ok-kind.ensures in omega arith

pub returns-in_err-kind-clause-bound : goal.returns-in_err-kind-clause-bound
returns-in_err-kind-clause-bound c = IfOk-from_err c.from_residual.result _ c.from_residual.ensures.0

pub returns-in_err-number-clause-bound : goal.returns-in_err-number-clause-bound
returns-in_err-number-clause-bound c = IfOk-from_err c.from_residual-in_err-number.result _ c.from_residual-in_err-number.ensures.0

pub returns-in_err-options-clause-bound : goal.returns-in_err-options-clause-bound
returns-in_err-options-clause-bound c = IfOk-from_err c.from_residual-in_err-options.result _ c.from_residual-in_err-options.ensures.0

pub returns-then-words-eq3-clause-bound : goal.returns-then-words-eq3-clause-bound
returns-then-words-eq3-clause-bound c =
    let v =
    number-word-at (word_texts c.args.words.now) 2 _ _ _ (rw (c.least_number.ensures, c.greatest_number.ensures) at c.in_ok-number.ensures) in
    (value-least _ _ v.word _ v.number, value-small _ _ v.word _ v.number)

pub returns-clause-bound : goal.returns-clause-bound
returns-clause-bound c =
    let v =
    number-word-at (word_texts c.args.words.now) 2 _ _ _ (rw (c.least_number.ensures, c.greatest_number.ensures) at c.in_ok-number.ensures) in
    ((value-least _ _ v.word _ v.number, value-small _ _ v.word _ v.number), c.in_ok-options.ensures.bound, c.in_ok-options.ensures.workers)
