use Rattle.std.proofs.lemmas.Result.{IfOk-from_err}
use Rattle.std.proofs.Common.{◌≡◌, sym, subst, ◌∙◌, ◌∷◌, ℕ, List, Bool, true, false}
use Rattle.std.specs.Prelude.{IsTrue}
use Rattle.ll_prooftext.specs.Reading.{IsAtEnd}
use Rattle.ll_prooftext.proofs.reading.Labels.{set_found}
use Rattle.ll_prooftext.proofs.sets.set_at.Goals as goal

rest_same : (xs ys tail : List ℕ) → tail ≡ 125 ∷ xs → tail ≡ 125 ∷ ys → xs ≡ ys
rest_same xs ys tail e f = let g : 125 ∷ xs ≡ 125 ∷ ys = sym e ∙ f in cc

not_true : {b : Bool} → IsTrue b → b ≡ false → ⊥
not_true t f = let u : false ≡ true = sym f ∙ t in let x : ⊥ = cc in x

pub returns-then-not-is_at_end : goal.returns-then-not-is_at_end
returns-then-not-is_at_end c = λ field r s e end.
    let k = set_found c.args.bytes.now c.in-Some.inside.now _ _ field r c.in-Some.ensures c.split_before.ensures.is c.split_before.ensures.free
    c.split_before.ensures.stops s e in (let q : c.in-Some-behind.rest.now ≡ r = rest_same c.in-Some-behind.rest.now r _ c.in-Some-behind.ensures k.1 in
    not_true (c.is_at_end.ensures.1 (subst IsAtEnd (sym q) end)) c.if-not-is_at_end.true)

pub returns-in-None : goal.returns-in-None
returns-in-None c = λ field r s e end.
    let k = set_found c.args.bytes.now c.in-Some.inside.now _ _ field r c.in-Some.ensures c.split_before.ensures.is c.split_before.ensures.free
    c.split_before.ensures.stops s e in (rw c.in-None.is at c.in_ok-labels.ensures) _ k.0

pub returns-in_err-labels : goal.returns-in_err-labels
returns-in_err-labels c = IfOk-from_err c.from_residual.result _ c.from_residual.ensures.0
