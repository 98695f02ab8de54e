-- What bound places stand for.
use Rattle.std.proofs.Common.{◌≡◌, ℕ, zero, suc, ◌+◌, ◌-◌, ◌<◌, ◌≤◌, length, ap, refl, ◌∙◌, arith}
use Rattle.ll_bank.specs.declared.Head.TheVariants.{Bound}
use Rattle.ll_bank.specs.Term.{Var, Con, place}
use Rattle.ll_bank.specs.Environments.{values_before}

-- a bound place stands for the variable that comes as far before the last one
pub place-before : (end count k n : ℕ) → k < count → count ≤ end → place (values_before end count) k n ≡ Var (end - 1 - k)
place-before end zero k n l h = absurd (omega (arith, l))
place-before end (suc count) zero n l h = ap Var (let e : end - 1 ≡ end - 1 - 0 = omega arith in e)
place-before end (suc count) (suc k) n l h =
    place-before (end - 1) count k n (omega (arith, l)) (omega (arith, h))
    ∙ ap Var (let e : end - 1 - 1 - k ≡ end - 1 - suc k = omega arith in e)

pub length-before : (end count : ℕ) → length (values_before end count) ≡ count
length-before end zero = refl
length-before end (suc count) = ap suc (length-before (end - 1) count)

-- and one that comes further out stands for itself
pub place-behind : (end count k n : ℕ) → length (values_before end count) ≤ k
    → place (values_before end count) k n ≡ Con (Bound (n + (k - length (values_before end count))))
place-behind end zero k n l = ap (λ j. Con (Bound (n + j))) (let e : k ≡ k - 0 = omega arith in e)
place-behind end (suc count) zero n l = absurd (omega (arith, l))
place-behind end (suc count) (suc k) n l =
    let many = length (values_before (end - 1) count) in
    place-behind (end - 1) count k n (omega (arith, l))
    ∙ ap (λ j. Con (Bound (n + j))) (let e : k - many ≡ suc k - suc many = omega arith in e)
