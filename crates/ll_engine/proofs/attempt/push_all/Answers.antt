use Rattle.std.proofs.lemmas.Result.{IfOk-from_err}
use Rattle.std.proofs.Common.{◌≡◌, ℕ, ◌<◌, ◌≤◌, ◌+◌, ◌-◌, ◌++◌, ◌∷◌, List, length, drop, get_or, ap, sym, ◌∙◌, arith}
use Rattle.std.proofs.lemmas.List.{drop_more}
use Rattle.ll_agenda.specs.Frames.{items_at}
use Rattle.ll_agenda.proofs.CallerLemmas.{Extends-trans}
use Rattle.ll_freeze.specs.declared.machine.Item.{Item}
use Rattle.ll_freeze.specs.Shown.{closed_goal}
use Rattle.ll_engine.proofs.attempt.push_all.Goals as goal

-- one more item in front of the rest
one_more : (xs : List Item) (at : ℕ) (d : Item) (rest : List Item) → 0 < at → at ≤ length xs
    → get_or xs (at - 1) d ∷ (drop at xs ++ rest) ≡ drop (at - 1) xs ++ rest
one_more xs at d rest p h =
    let e : at - 1 + 1 ≡ at = omega arith in
    sym (ap (λ ys. ys ++ rest) (drop_more xs (at - 1) d (omega arith)) ∙ ap (λ n. (get_or xs (at - 1) d ∷ drop n xs) ++ rest) e)

pub loop-at-preserved : goal.loop-at-preserved
loop-at-preserved c =
    let i = c.loop-at.invariant in let h = c.in_ok-top.ensures in let d = closed_goal (record { 0 = 0 }) in let xs = c.args.items.now in
    let rest = items_at c.args.agenda.now c.args.rest in (
      omega (arith, i.0),
      h.list.inside,
      h.list.list ∙ (ap (λ ys. get_or xs (c.loop-at.at - 1) d ∷ ys) i.2 ∙ one_more xs c.loop-at.at d rest c.loop-at-test.true i.0),
      Extends-trans i.3 h.keeps,
    )

pub returns-in_err-top-clause-shows : goal.returns-in_err-top-clause-shows
returns-in_err-top-clause-shows c = IfOk-from_err c.from_residual.result _ c.from_residual.ensures.0

pub returns-in_err-top-clause-keeps : goal.returns-in_err-top-clause-keeps
returns-in_err-top-clause-keeps c = IfOk-from_err c.from_residual.result _ c.from_residual.ensures.0
