-- The eigenvariables of a run that stand for those of a derivation: a new one changes nothing that does not mention it, and what was moved
-- mentions no others.
use Rattle.std.proofs.Common.{◌≡◌, ◌<◌, ℕ, suc, refl, ap, sym, ◌∙◌, Bool, true, false, List, [], ◌∷◌, map, nat_eq, arith}
use Rattle.std.specs.Prelude.{◌&&◌, if◌then◌else◌, Option, Some, None, is_some}
use Rattle.std.specs.List.{list_any}
use Rattle.std.proofs.lemmas.Bool.{lt-ltb, ne_eqb, eq-eqb, eqb-false, and_from as and_intro}
use Rattle.ll_list_laws.proofs.CallerLemmas.{and_true_left as and_left, and_true_right as and_right}
use Rattle.ll_list_laws.proofs.CallerLemmas.{or_false_left as or_off_left, or_false_right as or_off_right}
use Rattle.ll_bank.specs.declared.Head.TheVariants.{Name, Eigen, Bound}
use Rattle.ll_bank.specs.Term.{Term, Var, Int, Con, Ap, head_of, is_closed, is_spine, has_eigen, eigens_below}
use Rattle.ll_bank.specs.Form.{Form, Top, One, Atom, With, Tensor, Plus, Bang, Lolli, Imp, Forall, Exists, Use, form_has_eigen, Num}
use Rattle.ll_laws.specs.Derive.{AreClosed}
use Rattle.ll_laws.specs.Run.{MayChoose}
use Rattle.ll_laws.proofs.search.AnswerSteps.{eigens_none}
use Rattle.ll_laws.proofs.completeness.Moving.{Numbers, known, numbered, move, move_form, More}
use Rattle.ll_laws.proofs.completeness.Grounding.{or_none}

-- eigenvariable c has the number j, and the others have theirs
abbrev pub add_number : Numbers → ℕ → ℕ → Numbers
add_number to c j x = if nat_eq x c then Some j else to x

pub more-numbers : (to : Numbers) (c j : ℕ) → More to (add_number to c j)
more-numbers to c j x h = step (nat_eq x c) h
  where
    step : (b : Bool) → is_some (to x) ≡ true → is_some (if b then Some j else to x) ≡ true
    step true h = refl
    step false h = h

pub own-number : (to : Numbers) (c j : ℕ) → add_number to c j c ≡ Some j
own-number to c j = ap (λ b. if b then Some j else to c) (eq-eqb c c refl)

-- ---- what does not mention the new one

module _ (to : Numbers) (c j : ℕ) (name : Term → ℕ) where
  other-number : (k : ℕ) → nat_eq c k ≡ false → add_number to c j k ≡ to k
  other-number k h = ap (λ b. if b then Some j else to k) (ne_eqb k c (λ e. let n : c ≡ k → ⊥ = eqb-false c k h in n (sym e)))

  known-fresh : (t : Term) → has_eigen c t ≡ false → known (add_number to c j) (head_of t) ≡ known to (head_of t)
  known-fresh (Var x) h = refl
  known-fresh (Int z) h = refl
  known-fresh (Con (Name n)) h = refl
  known-fresh (Con (Bound n)) h = refl
  known-fresh (Con (Eigen k)) h = ap (λ o. is_some o) (other-number k h)
  known-fresh (Ap f a) h = known-fresh f (or_off_left (has_eigen c f) (has_eigen c a) h)

  pub move-fresh : (t : Term) → has_eigen c t ≡ false → move (add_number to c j) name t ≡ move to name t
  move-fresh (Var x) h = refl
  move-fresh (Int z) h = refl
  move-fresh (Con (Name n)) h = refl
  move-fresh (Con (Bound n)) h = refl
  move-fresh (Con (Eigen k)) h = ap (λ o. numbered o (name (Con (Eigen k)))) (other-number k h)
  move-fresh (Ap f a) h =
      let l = or_off_left (has_eigen c f) (has_eigen c a) h in
      let p = move-fresh f l in
      let q = move-fresh a (or_off_right (has_eigen c f) (has_eigen c a) h) in
      let old : Bool → Term = λ b. if b then Ap (move to name f) (move to name a) else Var (name (Ap f a)) in
      let new : Bool → Term = λ b. if b then Ap (move (add_number to c j) name f) (move (add_number to c j) name a) else Var (name (Ap f a)) in
      let same : new (known to (head_of f)) ≡ old (known to (head_of f)) = choose (known to (head_of f)) p q in
      ap new (known-fresh f l) ∙ same
    where
      choose : (b : Bool) {x y z w : Term} → x ≡ y → z ≡ w → (if b then Ap x z else Var (name (Ap f a))) ≡ (if b then Ap y w else Var (name (Ap f a)))
      choose b p q = cc

  all-fresh : (ts : List Term) → list_any (has_eigen c) ts ≡ false → map (move (add_number to c j) name) ts ≡ map (move to name) ts
  all-fresh [] h = refl
  all-fresh (t ∷ ts) h =
      let p = move-fresh t (or_off_left (has_eigen c t) (list_any (has_eigen c) ts) h) in
      let q = all-fresh ts (or_off_right (has_eigen c t) (list_any (has_eigen c) ts) h) in cc

  pub form-fresh : (g : Form) → form_has_eigen c g ≡ false → move_form (add_number to c j) name g ≡ move_form to name g
  form-fresh Top h = refl
  form-fresh One h = refl
  form-fresh (Atom a) h = ap Atom (move-fresh a h)
  form-fresh (With f g) h = let p = form-fresh f (or_off_left (form_has_eigen c f) (form_has_eigen c g) h) in
      let q = form-fresh g (or_off_right (form_has_eigen c f) (form_has_eigen c g) h) in cc
  form-fresh (Tensor f g) h = let p = form-fresh f (or_off_left (form_has_eigen c f) (form_has_eigen c g) h) in
      let q = form-fresh g (or_off_right (form_has_eigen c f) (form_has_eigen c g) h) in cc
  form-fresh (Plus f g) h = let p = form-fresh f (or_off_left (form_has_eigen c f) (form_has_eigen c g) h) in
      let q = form-fresh g (or_off_right (form_has_eigen c f) (form_has_eigen c g) h) in cc
  form-fresh (Bang f) h = ap Bang (form-fresh f h)
  form-fresh (Lolli f g) h = let p = form-fresh f (or_off_left (form_has_eigen c f) (form_has_eigen c g) h) in
      let q = form-fresh g (or_off_right (form_has_eigen c f) (form_has_eigen c g) h) in cc
  form-fresh (Imp f g) h = let p = form-fresh f (or_off_left (form_has_eigen c f) (form_has_eigen c g) h) in
      let q = form-fresh g (or_off_right (form_has_eigen c f) (form_has_eigen c g) h) in cc
  form-fresh (Forall f) h = ap Forall (form-fresh f h)
  form-fresh (Exists f) h = ap Exists (form-fresh f h)
  form-fresh (Use m ts f) h =
      let p = all-fresh ts (or_off_left (list_any (has_eigen c) ts) (form_has_eigen c f) h) in
      let q = form-fresh f (or_off_right (list_any (has_eigen c) ts) (form_has_eigen c f) h) in cc
  form-fresh (Num r t u) h = let p = move-fresh t (or_off_left (has_eigen c t) (has_eigen c u) h) in
      let q = move-fresh u (or_off_right (has_eigen c t) (has_eigen c u) h) in cc

-- ---- numbers below the next one

-- each number is below e
abbrev pub NumbersBelow : Numbers → ℕ → Type 0
NumbersBelow to e = (c j : ℕ) → to c ≡ Some j → j < e

pub add-below : (to : Numbers) (c j : ℕ) → NumbersBelow to j → NumbersBelow (add_number to c j) (suc j)
add-below to c j b x k h = step (nat_eq x c) h
  where
    step : (y : Bool) → (if y then Some j else to x) ≡ Some k → k < suc j
    step true h = let e : j ≡ k = cc in omega arith
    step false h = let l = b x k h in omega arith

module _ (to : Numbers) (name : Term → ℕ) where
  numbered-below : (e : ℕ) (o : Option ℕ) (x : ℕ) → ((j : ℕ) → o ≡ Some j → j < e) → eigens_below e (numbered o x) ≡ true
  numbered-below e None x b = refl
  numbered-below e (Some j) x b = lt-ltb j e (b j refl)

  pub move-below : (e : ℕ) → NumbersBelow to e → (t : Term) → eigens_below e (move to name t) ≡ true
  move-below e b (Var x) = refl
  move-below e b (Int z) = refl
  move-below e b (Con (Name n)) = refl
  move-below e b (Con (Bound n)) = refl
  move-below e b (Con (Eigen c)) = numbered-below e (to c) (name (Con (Eigen c))) (b c)
  move-below e b (Ap f a) = step (known to (head_of f)) (move-below e b f) (move-below e b a)
    where
      step : (y : Bool) → eigens_below e (move to name f) ≡ true → eigens_below e (move to name a) ≡ true
          → eigens_below e (if y then Ap (move to name f) (move to name a) else Var (name (Ap f a))) ≡ true
      step true p q = and_intro _ _ p q
      step false p q = refl

  move-new : (e : ℕ) → NumbersBelow to e → (t : Term) → has_eigen e (move to name t) ≡ false
  move-new e b t = eigens_none e (move to name t) (move-below e b t)

  all-new : (e : ℕ) → NumbersBelow to e → (ts : List Term) → list_any (has_eigen e) (map (move to name) ts) ≡ false
  all-new e b [] = refl
  all-new e b (t ∷ ts) = or_none _ _ (move-new e b t) (all-new e b ts)

  pub form-new : (e : ℕ) → NumbersBelow to e → (g : Form) → form_has_eigen e (move_form to name g) ≡ false
  form-new e b Top = refl
  form-new e b One = refl
  form-new e b (Atom a) = move-new e b a
  form-new e b (With f g) = or_none _ _ (form-new e b f) (form-new e b g)
  form-new e b (Tensor f g) = or_none _ _ (form-new e b f) (form-new e b g)
  form-new e b (Plus f g) = or_none _ _ (form-new e b f) (form-new e b g)
  form-new e b (Bang f) = form-new e b f
  form-new e b (Lolli f g) = or_none _ _ (form-new e b f) (form-new e b g)
  form-new e b (Imp f g) = or_none _ _ (form-new e b f) (form-new e b g)
  form-new e b (Forall f) = form-new e b f
  form-new e b (Exists f) = form-new e b f
  form-new e b (Use m ts f) = or_none _ _ (all-new e b ts) (form-new e b f)
  form-new e b (Num r t u) = or_none _ _ (move-new e b t) (move-new e b u)

  -- ---- closed terms stay closed

  spine-stays : (t : Term) → is_spine t ≡ true → known to (head_of t) ≡ true → is_spine (move to name t) ≡ true
  spine-stays (Var x) h k = cc
  spine-stays (Int z) h k = cc
  spine-stays (Con (Name n)) h k = refl
  spine-stays (Con (Bound n)) h k = refl
  spine-stays (Con (Eigen c)) h k = step (to c) k
    where
      step : (o : Option ℕ) → is_some o ≡ true → is_spine (numbered o (name (Con (Eigen c)))) ≡ true
      step None h = cc
      step (Some j) h = refl
  spine-stays (Ap f a) h k = ap (λ b. is_spine (if b then Ap (move to name f) (move to name a) else Var (name (Ap f a)))) k ∙ spine-stays f h k

  pub move-closed : (t : Term) → is_closed t ≡ true → is_closed (move to name t) ≡ true
  move-closed (Var x) h = refl
  move-closed (Int z) h = refl
  move-closed (Con (Name n)) h = refl
  move-closed (Con (Bound n)) h = cc
  move-closed (Con (Eigen c)) h = step (to c)
    where
      step : (o : Option ℕ) → is_closed (numbered o (name (Con (Eigen c)))) ≡ true
      step None = refl
      step (Some j) = refl
  move-closed (Ap f a) h =
      let i = and_left (is_spine f && is_closed f) (is_closed a) h in
      step (known to (head_of f)) refl (and_left (is_spine f) (is_closed f) i) (move-closed f (and_right (is_spine f) (is_closed f) i))
      (move-closed a (and_right (is_spine f && is_closed f) (is_closed a) h))
    where
      step : (b : Bool) → known to (head_of f) ≡ b → is_spine f ≡ true → is_closed (move to name f) ≡ true → is_closed (move to name a) ≡ true
          → is_closed (if b then Ap (move to name f) (move to name a) else Var (name (Ap f a))) ≡ true
      step true q s p r = and_intro _ _ (and_intro _ _ (spine-stays f s q) p) r
      step false q s p r = refl

  pub moved-choice : (e : ℕ) → NumbersBelow to e → (us : List Term) → AreClosed us → MayChoose e (map (move to name) us)
  moved-choice e b [] h = tt
  moved-choice e b (u ∷ us) h = (move-closed u h.0, move-below e b u, moved-choice e b us h.1)
