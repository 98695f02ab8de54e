use Rattle.std.proofs.lemmas.Result.{IfOk-from_err}
use Rattle.ll_unify.specs.Pairs.{AreClasses}
use Rattle.std.proofs.Common.{length, ◌++◌, ◌∷◌, [], subst, sym, ◌∙◌, ap, List, ℕ, ◌≡◌, arith}
use Rattle.std.specs.Vec.{vec_len}
use Rattle.ll_unify.proofs.Pairs.{classes-more}
use Rattle.ll_unify.proofs.classes.grow.Goals as goal

pub fill-preserved : goal.fill-preserved
fill-preserved c =
    λ nodes t h. subst (λ (ups : List ℕ). AreClasses nodes t ups)
    (sym (c.in_ok-push.ensures.items ∙ ap (λ (n : ℕ). c.fill.list.items ++ n ∷ [])
    (c.len-place.ensures ∙ let e : vec_len c.fill.list ≡ length c.fill.list.items = omega (arith, c.fill.list.ok) in e)))
    (classes-more nodes t c.fill.list.items (c.fill.invariant nodes t h))

pub returns-in_err-push-clause-inside : goal.returns-in_err-push-clause-inside
returns-in_err-push-clause-inside c = IfOk-from_err c.from_residual.result _ c.from_residual.ensures.0

pub returns-in_err-push-clause-classes : goal.returns-in_err-push-clause-classes
returns-in_err-push-clause-classes c = IfOk-from_err c.from_residual.result _ c.from_residual.ensures.0
