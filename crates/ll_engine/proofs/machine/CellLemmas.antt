-- What holds of the rest of a list, and what is lent of it.
use Rattle.std.proofs.Common.{◌≡◌, ◌∙◌, ◌-◌, ℕ, zero, suc, List, [], ◌∷◌, length, take, drop, All, arith}
use Rattle.std.proofs.lemmas.List.{take_all, length-drop}
use Rattle.std.proofs.lemmas.List.Elements.{All-tail}
use Rattle.ll_bank.specs.declared.At.{At}

pub all_drop : {X : Type 0} (P : X → Type 0) (n : ℕ) (xs : List X) → All P xs → All P (drop n xs)
all_drop P zero xs h = h
all_drop P (suc n) [] h = h
all_drop P (suc n) (x ∷ xs) h = all_drop P n xs (All-tail P x xs h)

-- what is lent of a list from a place on
pub slice_is : (lent terms : List At) (from before : ℕ) → lent ≡ terms → from ≡ before → take (length lent - from) (drop from lent) ≡ drop before terms
slice_is lent terms from before e f =
    let n = length-drop from lent in take_all (length lent - from) (drop from lent) (omega (arith, n)) ∙ (λ i. drop (f i) (e i))
