-- What bindings say when they are followed to the end.
use Rattle.std.proofs.Common.{◌≡◌, ℕ, zero, suc, ◌+◌, ◌<◌, ◌≤◌, inl, inr, Bool, true, false, List, [], ◌∷◌, length, refl, ap, sym, subst, ◌∙◌, arith}
use Rattle.std.specs.Prelude.{Option, Some, None, nat_lt, slice_index_or}
use Rattle.std.proofs.lemmas.Bool.{or_left, or_right, eq-eqb, ltb-true, ltb-false, cases_lt}
use Rattle.ll_bank.specs.declared.At.{At}
use Rattle.ll_bank.specs.Term.{Term, Var, Int, Con, Ap, sub, occurs}
use Rattle.ll_bank.specs.Nodes.{Nodes, term_tree}
use Rattle.ll_unify.specs.Bindings.{Table, cell, shown, followed, found, IsOrdered, Obeys, Leads, leads_to, one_more, chain}

-- two substitutions that agree on the variables of a term
pub sub-agree : (f g : ℕ → Term) (u : Term) → ((y : ℕ) → occurs y u ≡ true → f y ≡ g y) → sub f u ≡ sub g u
sub-agree f g (Var x) h = h x (eq-eqb x x refl)
sub-agree f g (Int z) h = refl
sub-agree f g (Con k) h = refl
sub-agree f g (Ap t a) h =
    let p = sub-agree f g t (λ y o. h y (or_left (occurs y t) (occurs y a) o)) in
    let q = sub-agree f g a (λ y o. h y (or_right (occurs y t) (occurs y a) o)) in cc

-- a cell that is bound lies among the cells
pub bound-inside : (os : List (Option At)) (x : ℕ) (at : At) → slice_index_or os x None ≡ Some at → x < length os
bound-inside [] x at e = cc
bound-inside (o ∷ os) zero at e = omega arith
bound-inside (o ∷ os) (suc x) at e = let h = bound-inside os x at e in omega arith

-- ---- counting

abbrev none_or_one : Bool → ℕ
none_or_one true = 0
none_or_one false = 1

module _ (r : ℕ → ℕ) where
  -- how many of the first n numbers have a rank up to v
  abbrev up_to : ℕ → ℕ → ℕ
  up_to zero v = 0
  up_to (suc n) v = none_or_one (nat_lt v (r n)) + up_to n v

  none-most : (b : Bool) → none_or_one b ≤ 1
  none-most true = omega arith
  none-most false = omega arith

  up_to-most : (n v : ℕ) → up_to n v ≤ n
  up_to-most zero v = omega arith
  up_to-most (suc n) v = let h = up_to-most n v in let k = none-most (nat_lt v (r n)) in omega arith

  one-grows : (n v w : ℕ) → v ≤ w → none_or_one (nat_lt v (r n)) ≤ none_or_one (nat_lt w (r n))
  one-grows n v w l = step (nat_lt v (r n)) (nat_lt w (r n)) refl refl
    where
      step : (a b : Bool) → nat_lt v (r n) ≡ a → nat_lt w (r n) ≡ b → none_or_one a ≤ none_or_one b
      step true b e f = omega arith
      step false true e f = let p = ltb-false v (r n) e in let q = ltb-true w (r n) f in absurd (omega arith)
      step false false e f = omega arith

  up_to-grows : (n v w : ℕ) → v ≤ w → up_to n v ≤ up_to n w
  up_to-grows zero v w l = omega arith
  up_to-grows (suc n) v w l = let h = up_to-grows n v w l in let k = one-grows n v w l in omega arith

  -- the number itself counts
  up_to-more : (n x v : ℕ) → x < n → v < r x → suc (up_to n v) ≤ up_to n (r x)
  up_to-more zero x v b l = absurd (omega arith)
  up_to-more (suc n) x v b l = elim (cases_lt x n) [
    | inl c ↦ let h = up_to-more n x v c l in let k = one-grows n v (r x) (omega arith) in omega arith
    | inr c ↦ last (omega arith)
  ]
    where
      last : x ≡ n → suc (up_to (suc n) v) ≤ up_to (suc n) (r x)
      last e =
          let h = up_to-grows n v (r x) (omega arith) in
          let p : none_or_one (nat_lt v (r n)) ≡ 0 = first (nat_lt v (r n)) refl in
          let q : none_or_one (nat_lt (r x) (r n)) ≡ 1 = second (nat_lt (r x) (r n)) refl in omega arith
        where
          same : r x ≡ r n
          same = ap r e

          first : (c : Bool) → nat_lt v (r n) ≡ c → none_or_one c ≡ 0
          first true f = refl
          first false f = let g = ltb-false v (r n) f in absurd (let s = same in omega arith)

          second : (c : Bool) → nat_lt (r x) (r n) ≡ c → none_or_one c ≡ 1
          second true f = let g = ltb-true (r x) (r n) f in absurd (let s = same in omega arith)
          second false f = refl

  up_to-some : (n x : ℕ) → x < n → 1 ≤ up_to n (r x)
  up_to-some zero x b = absurd (omega arith)
  up_to-some (suc n) x b = elim (cases_lt x n) [
    | inl c ↦ let h = up_to-some n x c in omega arith
    | inr c ↦ last (omega arith)
  ]
    where
      last : x ≡ n → 1 ≤ up_to (suc n) (r x)
      last e = second (nat_lt (r x) (r n)) refl
        where
          second : (c : Bool) → nat_lt (r x) (r n) ≡ c → 1 ≤ none_or_one c + up_to n (r x)
          second true f = let g = ltb-true (r x) (r n) f in let s = ap r e in absurd (omega arith)
          second false f = omega arith

-- ---- following bindings

-- an unbound variable stands for itself
pub followed-free : (nodes : Nodes) (bound : List (Option At)) (n x : ℕ) → slice_index_or bound x None ≡ None → followed nodes bound n x ≡ Var x
followed-free nodes bound zero x e = refl
followed-free nodes bound (suc n) x e = ap (λ o. sub (followed nodes bound n) (shown nodes x o)) e ∙ followed-free nodes bound n x e

pub found-free : (nodes : Nodes) (t : Table) (x : ℕ) → cell t x ≡ None → found nodes t x ≡ Var x
found-free nodes t x e = followed-free nodes t.bound (length t.bound) x e

module _ (nodes : Nodes) (t : Table) (h : IsOrdered nodes t) where
  -- how many cells have a rank up to that of a variable
  abbrev rank_of : ℕ → ℕ
  rank_of x = up_to h.rank (length t.bound) (h.rank x)

  settled-bound : (n x : ℕ) (at : At) → cell t x ≡ Some at → ((y : ℕ) → occurs y (term_tree nodes at.0) ≡ true
      → followed nodes t.bound (suc n) y ≡ followed nodes t.bound n y)
      → followed nodes t.bound (suc (suc n)) x ≡ followed nodes t.bound (suc n) x
  settled-bound n x at e h =
      ap (λ o. sub (followed nodes t.bound (suc n)) (shown nodes x o)) e
      ∙ (sub-agree (followed nodes t.bound (suc n)) (followed nodes t.bound n) (term_tree nodes at.0) h
      ∙ ap (λ o. sub (followed nodes t.bound n) (shown nodes x o)) (sym e))

  -- further steps change nothing
  settled : (n x : ℕ) → rank_of x ≤ n → followed nodes t.bound (suc n) x ≡ followed nodes t.bound n x
  settled zero x l = step (cell t x) refl
    where
      step : (o : Option At) → cell t x ≡ o → followed nodes t.bound 1 x ≡ followed nodes t.bound 0 x
      step None e = followed-free nodes t.bound 1 x e ∙ sym (followed-free nodes t.bound 0 x e)
      step (Some at) e = let p = up_to-some h.rank (length t.bound) x (bound-inside t.bound x at e) in absurd (omega arith)
  settled (suc n) x l = step (λ y. settled n y) (cell t x) refl
    where
      step : ((y : ℕ) → rank_of y ≤ n → followed nodes t.bound (suc n) y ≡ followed nodes t.bound n y)
          → (o : Option At) → cell t x ≡ o → followed nodes t.bound (suc (suc n)) x ≡ followed nodes t.bound (suc n) x
      step ih None e = followed-free nodes t.bound (suc (suc n)) x e ∙ sym (followed-free nodes t.bound (suc n) x e)
      step ih (Some at) e =
          settled-bound n x at e
          (λ y o. ih y (let p = up_to-more h.rank (length t.bound) x (h.rank y) (bound-inside t.bound x at e) (h.falls x at e y o) in omega arith))

  pub Obeys-found : Obeys nodes t (found nodes t)
  Obeys-found x at e =
      sym (settled (length t.bound) x (up_to-most h.rank (length t.bound) (h.rank x)))
      ∙ ap (λ o. sub (found nodes t) (shown nodes x o)) e

  -- nothing else goes along with the bindings and leaves unbound variables alone
  pub found-only : (s : ℕ → Term) → Obeys nodes t s → ((x : ℕ) → cell t x ≡ None → s x ≡ Var x) → (x : ℕ) → found nodes t x ≡ s x
  found-only s o f x = go (suc (h.rank x)) x (omega arith)
    where
      go : (n x : ℕ) → h.rank x < n → found nodes t x ≡ s x
      go zero x l = absurd (omega arith)
      go (suc n) x l = step (λ y m. go n y m) (cell t x) refl
        where
          step : ((y : ℕ) → h.rank y < n → found nodes t y ≡ s y) → (c : Option At) → cell t x ≡ c → found nodes t x ≡ s x
          step ih None e = found-free nodes t x e ∙ sym (f x e)
          step ih (Some at) e =
              Obeys-found x at e
              ∙ (sub-agree (found nodes t) s (term_tree nodes at.0) (λ y i. ih y (let q = h.falls x at e y i in omega arith)) ∙ sym (o x at e))

  -- ---- chains of variables

  chain-none : (m : ℕ) (u : Term) → leads_to t.bound u ≡ None → chain nodes t.bound m u ≡ 0
  chain-none zero u f = refl
  chain-none (suc m) u f = ap (one_more (λ at. chain nodes t.bound m (term_tree nodes at.0))) f

  chain-most : (n x : ℕ) → chain nodes t.bound n (Var x) ≤ rank_of x
  chain-most zero x = omega arith
  chain-most (suc n) x = step (λ y. chain-most n y) (cell t x) refl
    where
      step : ((y : ℕ) → chain nodes t.bound n (Var y) ≤ rank_of y) → (o : Option At) → cell t x ≡ o
          → one_more (λ at. chain nodes t.bound n (term_tree nodes at.0)) o ≤ rank_of x
      step ih None e = omega arith
      step ih (Some at) e = on (term_tree nodes at.0) refl
        where
          some : 1 ≤ rank_of x
          some = up_to-some h.rank (length t.bound) x (bound-inside t.bound x at e)

          same : (u : Term) → term_tree nodes at.0 ≡ u → chain nodes t.bound n (term_tree nodes at.0) ≡ chain nodes t.bound n u
          same u f = ap (chain nodes t.bound n) f

          on : (u : Term) → term_tree nodes at.0 ≡ u → suc (chain nodes t.bound n (term_tree nodes at.0)) ≤ rank_of x
          on (Var y) f =
              let i = ih y in let q = same (Var y) f in
              let r = up_to-more h.rank (length t.bound) x (h.rank y) (bound-inside t.bound x at e)
              (h.falls x at e y (subst (λ u. occurs y u ≡ true) (sym f) (eq-eqb y y refl))) in omega arith
          on (Int z) f = let s = some in let q = same (Int z) f in let p = chain-none n (Int z) refl in omega arith
          on (Con k) f = let s = some in let q = same (Con k) f in let p = chain-none n (Con k) refl in omega arith
          on (Ap g a) f = let s = some in let q = same (Ap g a) f in let p = chain-none n (Ap g a) refl in omega arith

  chain-settled : (n : ℕ) (u : Term) → chain nodes t.bound n u < n → chain nodes t.bound (suc n) u ≡ chain nodes t.bound n u
  chain-settled zero u l = absurd (omega arith)
  chain-settled (suc n) u l = step (λ w. chain-settled n w) (leads_to t.bound u) l
    where
      step : ((w : Term) → chain nodes t.bound n w < n → chain nodes t.bound (suc n) w ≡ chain nodes t.bound n w)
          → (o : Option At) → one_more (λ at. chain nodes t.bound n (term_tree nodes at.0)) o < suc n
          → one_more (λ at. chain nodes t.bound (suc n) (term_tree nodes at.0)) o ≡ one_more (λ at. chain nodes t.bound n (term_tree nodes at.0)) o
      step ih None k = refl
      step ih (Some at) k = ap suc (ih (term_tree nodes at.0) (omega arith))

  -- a step along a bound variable makes the chain shorter
  pub chain-step : (u : Term) (to : At) → Leads t u to → chain nodes t.bound (suc (length t.bound)) (term_tree nodes to.0) < chain nodes t.bound
      (suc (length t.bound)) u
  chain-step u to l =
      let w = whole in let k = here in
      let most = chain-most (suc (length t.bound)) l.var in let cells = up_to-most h.rank (length t.bound) (h.rank l.var) in
      let same = chain-settled (length t.bound) (term_tree nodes to.0) (omega arith) in omega arith
    where
      whole : chain nodes t.bound (suc (length t.bound)) u ≡ chain nodes t.bound (suc (length t.bound)) (Var l.var)
      whole = ap (chain nodes t.bound (suc (length t.bound))) l.is

      here : chain nodes t.bound (suc (length t.bound)) (Var l.var) ≡ suc (chain nodes t.bound (length t.bound) (term_tree nodes to.0))
      here = ap (one_more (λ at. chain nodes t.bound (length t.bound) (term_tree nodes at.0))) l.bound
