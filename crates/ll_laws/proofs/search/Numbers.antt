-- A value stays under every substitution, and so does a whole-number goal that holds.
use Rattle.std.proofs.Common.{◌≡◌, ℤ, refl, ap, ◌∙◌, Bool, true, Option, Some, None, ℕ}
use Rattle.std.proofs.lemmas.Bool.Decides.{Decides-int_eq}
use Rattle.std.specs.Prelude.{int_lt, int_le}
use Rattle.ll_bank.specs.Term.{Term, Var, Int, Con, Ap, sub}
use Rattle.ll_bank.specs.Form.{Relation, Is, Less, Most}
use Rattle.ll_laws.specs.Number.{Operator, Operators, operator_of, operated, exactly, combined, value_of, is_number, compared, holds}

-- what an operator made of its two sides
pub record Combined (o : Option Operator) (a b : Option ℤ) (z : ℤ) : Type 0 where
  pub operator : Operator
  pub left : ℤ
  pub right : ℤ
  pub is : o ≡ Some operator
  pub left_is : a ≡ Some left
  pub right_is : b ≡ Some right
  pub gives : exactly (operated operator left right) ≡ Some z

pub combined_of : (o : Option Operator) (a b : Option ℤ) (z : ℤ) → combined o a b ≡ Some z → Combined o a b z
combined_of (Some o) (Some x) (Some y) z h = record { operator = o; left = x; right = y; is = refl; left_is = refl; right_is = refl; gives = h }
combined_of (Some o) (Some x) None z h = cc
combined_of (Some o) None b z h = cc
combined_of None a b z h = cc

operator_sub : (ops : Operators) (f : ℕ → Term) (h : Term) (o : Operator) → operator_of ops h ≡ Some o → operator_of ops (sub f h) ≡ Some o
operator_sub ops f (Var x) o e = cc
operator_sub ops f (Int z) o e = cc
operator_sub ops f (Con k) o e = e
operator_sub ops f (Ap t u) o e = cc

-- a term that has a value holds no variable
pub value_sub : (ops : Operators) (f : ℕ → Term) (t : Term) (z : ℤ) → value_of ops t ≡ Some z → value_of ops (sub f t) ≡ Some z
value_sub ops f (Var x) z h = cc
value_sub ops f (Int y) z h = h
value_sub ops f (Con k) z h = cc
value_sub ops f (Ap (Var x) u) z h = cc
value_sub ops f (Ap (Int y) u) z h = cc
value_sub ops f (Ap (Con k) u) z h = cc
value_sub ops f (Ap (Ap k t) u) z h =
    let c = combined_of (operator_of ops k) (value_of ops t) (value_of ops u) z h in
    rw (operator_sub ops f k c.operator c.is, value_sub ops f t c.left c.left_is, value_sub ops f u c.right c.right_is) c.gives

is_sub : (ops : Operators) (f : ℕ → Term) (t u : Term) → is_number t (value_of ops u) ≡ true → is_number (sub f t) (value_of ops (sub f u)) ≡ true
is_sub ops f (Var x) u h = cc
is_sub ops f (Con k) u h = cc
is_sub ops f (Ap t s) u h = cc
is_sub ops f (Int y) u h = step (value_of ops u) refl h
  where
    step : (o : Option ℤ) → value_of ops u ≡ o → is_number (Int y) o ≡ true → is_number (Int y) (value_of ops (sub f u)) ≡ true
    step None e i = cc
    step (Some z) e i = ap (is_number (Int y)) (value_sub ops f u z e) ∙ i

compared_sub : (ops : Operators) (f : ℕ → Term) (test : ℤ → ℤ → Bool) (t u : Term) → compared test (value_of ops t) (value_of ops u) ≡ true
    → compared test (value_of ops (sub f t)) (value_of ops (sub f u)) ≡ true
compared_sub ops f test t u h = step (value_of ops t) refl (value_of ops u) refl h
  where
    step : (a : Option ℤ) → value_of ops t ≡ a → (b : Option ℤ) → value_of ops u ≡ b → compared test a b ≡ true
        → compared test (value_of ops (sub f t)) (value_of ops (sub f u)) ≡ true
    step None p b q i = cc
    step (Some x) p None q i = cc
    step (Some x) p (Some y) q i = rw (value_sub ops f t x p, value_sub ops f u y q) i

-- a goal that holds, holds under every substitution
pub holds_sub : (ops : Operators) (f : ℕ → Term) (r : Relation) (t u : Term) → holds ops r t u ≡ true → holds ops r (sub f t) (sub f u) ≡ true
holds_sub ops f Is t u h = is_sub ops f t u h
holds_sub ops f Less t u h = compared_sub ops f int_lt t u h
holds_sub ops f Most t u h = compared_sub ops f int_le t u h

-- an `is` holds where its left side is the value of its right one
pub is_holds : (ops : Operators) (t u : Term) (z : ℤ) → t ≡ Int z → value_of ops u ≡ Some z → holds ops Is t u ≡ true
is_holds ops t u z e h = rw (e, h) ((Decides-int_eq z z).1 refl)
