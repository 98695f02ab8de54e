-- What is read of a formula has no more quantifiers on the way to a leaf than its raw tree has nodes.
use Rattle.std.proofs.Common.{◌≡◌, ◌≤◌, ℕ, zero, suc, ◌+◌, List, [], ◌∷◌, ◌++◌, map, slice_get, Some, arith}
use Rattle.ll_laws.specs.Leaf.{ways}
use Rattle.ll_parser.specs.declared.Op.{Op}
use Rattle.ll_parser.specs.declared.Op.TheVariants as op
use Rattle.ll_parser.specs.Raw.{Raw, truth, erasure, braces, universal, existential, load, binary, is_goal, less_goal, most_goal, head, anything, int}
use Rattle.ll_parser.specs.Weights.{weight}
use Rattle.ll_polarity.specs.Scope.{Scope, binds}
use Rattle.ll_polarity.specs.Reading.{Met, joined, read_form}
use Rattle.ll_polarity.proofs.CallerLemmas.{few_ways}
use Rattle.ll_top.specs.spelled.Taking.{IsLight}

-- none is above n
UpTo : ℕ → List ℕ → Type 0
UpTo n [] = Unit {0}
UpTo n (w ∷ ws) = (w ≤ n) × UpTo n ws

up-more : (m n : ℕ) (ws : List ℕ) → m ≤ n → UpTo m ws → UpTo n ws
unfolding UpTo
up-more m n [] le h = tt
up-more m n (w ∷ ws) le h = (omega (arith, h.0, le), up-more m n ws le h.1)

up-then : (n : ℕ) (xs ys : List ℕ) → UpTo n xs → UpTo n ys → UpTo n (xs ++ ys)
unfolding UpTo
up-then n [] ys h i = i
up-then n (x ∷ xs) ys h i = (h.0, up-then n xs ys h.1 i)

up-suc : (n : ℕ) (ws : List ℕ) → UpTo n ws → UpTo (suc n) (map (λ n. suc n) ws)
unfolding UpTo
up-suc n [] h = tt
up-suc n (w ∷ ws) h = (omega (arith, h.0), up-suc n ws h.1)

up-at : (n : ℕ) (ws : List ℕ) (k w : ℕ) → UpTo n ws → slice_get ws k ≡ Some w → w ≤ n
unfolding UpTo
up-at n [] k w h e = cc
up-at n (x ∷ ws) zero w h e = let q : x ≡ w = cc in omega (arith, h.0, q)
up-at n (x ∷ ws) (suc k) w h e = up-at n ws k w h.1 e

few-quantifiers : (ms : List (List ℕ)) (scope : Scope) (met : Met) (r : Raw) → UpTo (weight r) (ways (read_form ms scope met r).it)
unfolding UpTo
few-quantifiers ms scope met (truth at) = tt
few-quantifiers ms scope met (erasure at) = tt
few-quantifiers ms scope met (braces at r) = tt
few-quantifiers ms scope met (universal at n r) =
    up-suc (weight r) (ways (read_form ms (binds n.text ∷ scope) met r).it) (few-quantifiers ms (binds n.text ∷ scope) met r)
few-quantifiers ms scope met (existential at n r) = tt
few-quantifiers ms scope met (load at m args r) = tt
few-quantifiers ms scope met (binary o at l r) = by o
    (up-more (weight l) (suc (weight l + weight r)) _ (omega arith) (few-quantifiers ms scope met l))
    (up-more (weight r) (suc (weight l + weight r)) _ (omega arith) (few-quantifiers ms scope (read_form ms scope met l).met r))
  where
    by : (o : Op) → UpTo (suc (weight l + weight r)) (ways (read_form ms scope met l).it)
        → UpTo (suc (weight l + weight r)) (ways (read_form ms scope (read_form ms scope met l).met r).it)
        → UpTo (suc (weight l + weight r)) (ways (joined o (read_form ms scope met l).it (read_form ms scope (read_form ms scope met l).met r).it))
    by op.ColonDash a b = a
    by op.LeftArrow a b = a
    by op.Lolli a b = b
    by op.RightArrow a b = b
    by op.Plus a b = tt
    by op.With a b =
        up-then (suc (weight l + weight r)) (ways (read_form ms scope met l).it) (ways (read_form ms scope (read_form ms scope met l).met r).it) a b
    by op.Tensor a b = tt
few-quantifiers ms scope met (is_goal at l r) = tt
few-quantifiers ms scope met (less_goal at l r) = tt
few-quantifiers ms scope met (most_goal at l r) = tt
few-quantifiers ms scope met (head n args) = (omega arith, tt)
few-quantifiers ms scope met (anything at) = (omega arith, tt)
few-quantifiers ms scope met (int at z) = (omega arith, tt)

pub light-read : (most : ℕ) (ms : List (List ℕ)) (scope : Scope) (met : Met) (r : Raw) → weight r ≤ most → IsLight most (read_form ms scope met r).it
light-read most ms scope met r le = record {
  leaves = omega (arith, few_ways ms scope met r, le);
  quantifiers = λ k n e. let h = up-at (weight r) (ways (read_form ms scope met r).it) k n (few-quantifiers ms scope met r) e in omega (arith, h, le);
}
