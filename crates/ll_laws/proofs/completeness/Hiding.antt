-- Variables can be named so that closed terms are an instance of what hiding leaves of them.
use Rattle.std.proofs.Common.{◌≡◌, ◌≤◌, inl, inr, ℕ, suc, ◌+◌, ◌-◌, refl, ap, sym, ◌∙◌, Bool, true, false, List, [], ◌∷◌, ◌++◌, map, arith}
use Rattle.std.specs.Prelude.{◌&&◌, if◌then◌else◌, nat_lt, Some, slice_index_or}
use Rattle.std.specs.List.{list_all}
use Rattle.std.proofs.lemmas.Bool.{lt-ltb, le-ltb, eq-eqb, and_from as and_intro}
use Rattle.std.proofs.lemmas.Bool.Decides.{Decides-int_eq}
use Rattle.ll_list_laws.proofs.CallerLemmas.{and_true_left as and_left, and_true_right as and_right, lt_more}
use Rattle.ll_bank.specs.declared.Head.TheVariants.{Name, Eigen, Bound}
use Rattle.ll_bank.specs.Term.{Term, Var, Int, Con, Ap, sub, head_of, is_closed, is_spine}
use Rattle.ll_laws.specs.Unify.{Diff, Same, Clash, Meet, diff, when, and_then, vars_below}
use Rattle.ll_laws.specs.Instance.{is_eigen_head, hide}
use Rattle.ll_laws.specs.Completeness.{HiddenCover}
use Rattle.ll_laws.proofs.unification.UnifyLaws.{diff-same, head_eq-refl}
use Rattle.ll_laws.proofs.search.AnswerRuns.{Among}
use Rattle.ll_laws.proofs.search.LeafTries.{among_left, among_right}
use Rattle.ll_laws.proofs.completeness.Chosen.{closed_at}

-- ---- equal terms

diff-self : (t : Term) → diff t t ≡ Same
diff-self (Var x) = ap (λ b. if b then Same else Meet x (Var x)) (eq-eqb x x refl)
diff-self (Int z) = ap when ((Decides-int_eq z z).1 refl)
diff-self (Con h) = ap when (head_eq-refl h)
diff-self (Ap f a) = ap (λ d. and_then d (diff a a)) (diff-self f) ∙ diff-self a

is_same : Diff → Bool
is_same Same = true
is_same _ = false

-- the place of a term in a list
place_in : Term → List Term → ℕ
place_in t [] = 0
place_in t (x ∷ xs) = if is_same (diff t x) then 0 else suc (place_in t xs)

found_place : (t : Term) (xs : List Term) (y : ℕ) → Among t xs → slice_index_or xs (place_in t xs) (Var y) ≡ t
unfolding is_same place_in
found_place t [] y m = absurd m
found_place t (x ∷ xs) y m = step (diff t x) refl (found_place t xs y) m
  where
    other : (d : Diff) → d ≡ Same → is_same d ≡ true
    other d q = ap is_same q

    later : (d : Diff) → diff t x ≡ d → is_same d ≡ false → Among t (x ∷ xs) → Among t xs
    later d q h (inl e) = let w : is_same d ≡ true = ap is_same (sym q ∙ (ap (diff t) e ∙ diff-self t)) in let z : true ≡ false = sym w ∙ h in cc
    later d q h (inr m) = m

    step : (d : Diff) → diff t x ≡ d → (Among t xs → slice_index_or xs (place_in t xs) (Var y) ≡ t) → Among t (x ∷ xs)
        → slice_index_or (x ∷ xs) (if is_same d then 0 else suc (place_in t xs)) (Var y) ≡ t
    step Same q go m = sym (diff-same t x q)
    step Clash q go m = go (later Clash q refl m)
    step (Meet v w) q go m = go (later (Meet v w) q refl m)

-- ---- the parts that are hidden

hidden_parts : Term → List Term
hidden_parts (Var x) = []
hidden_parts (Int z) = []
hidden_parts (Con h) = if is_eigen_head (Some h) then Con h ∷ [] else []
hidden_parts (Ap f a) = if is_eigen_head (head_of f) then Ap f a ∷ [] else hidden_parts f ++ hidden_parts a

all_parts : List Term → List Term
all_parts [] = []
all_parts (t ∷ ts) = hidden_parts t ++ all_parts ts

-- a number above the variables of a term
above : Term → ℕ
above (Var x) = suc x
above (Int z) = 0
above (Con h) = 0
above (Ap f a) = above f + above a

above_all : List Term → ℕ
above_all [] = 0
above_all (t ∷ ts) = above t + above_all ts

below-more : (n m : ℕ) → n ≤ m → (t : Term) → vars_below n t ≡ true → vars_below m t ≡ true
below-more n m le (Var x) h = lt_more x n m le h
below-more n m le (Int z) h = refl
below-more n m le (Con h) w = refl
below-more n m le (Ap f a) h =
    and_intro _ _ (below-more n m le f (and_left (vars_below n f) (vars_below n a) h)) (below-more n m le a (and_right (vars_below n f) (vars_below n a) h))

below-above : (t : Term) → vars_below (above t) t ≡ true
unfolding above
below-above (Var x) = lt-ltb x (suc x) (omega arith)
below-above (Int z) = refl
below-above (Con h) = refl
below-above (Ap f a) = and_intro _ _ (below-more (above f) (above f + above a) (omega arith) f (below-above f))
    (below-more (above a) (above f + above a) (omega arith) a (below-above a))

all-closed-append : (xs ys : List Term) → list_all is_closed xs ≡ true → list_all is_closed ys ≡ true → list_all is_closed (xs ++ ys) ≡ true
all-closed-append [] ys h k = k
all-closed-append (x ∷ xs) ys h k = and_intro _ _ (and_left (is_closed x) (list_all is_closed xs) h)
    (all-closed-append xs ys (and_right (is_closed x) (list_all is_closed xs) h) k)

parts-closed : (t : Term) → is_closed t ≡ true → list_all is_closed (hidden_parts t) ≡ true
unfolding hidden_parts
parts-closed (Var x) h = refl
parts-closed (Int z) h = refl
parts-closed (Con (Name n)) h = refl
parts-closed (Con (Bound n)) h = refl
parts-closed (Con (Eigen n)) h = refl
parts-closed (Ap f a) h =
    let i = and_left (is_spine f && is_closed f) (is_closed a) h in
    step (is_eigen_head (head_of f)) (parts-closed f (and_right (is_spine f) (is_closed f) i))
    (parts-closed a (and_right (is_spine f && is_closed f) (is_closed a) h))
  where
    step : (b : Bool) → list_all is_closed (hidden_parts f) ≡ true → list_all is_closed (hidden_parts a) ≡ true
        → list_all is_closed (if b then Ap f a ∷ [] else hidden_parts f ++ hidden_parts a) ≡ true
    step true p q = ap (λ z. z && true) h
    step false p q = all-closed-append (hidden_parts f) (hidden_parts a) p q

all_parts-closed : (ts : List Term) → list_all is_closed ts ≡ true → list_all is_closed (all_parts ts) ≡ true
unfolding all_parts
all_parts-closed [] h = refl
all_parts-closed (t ∷ ts) h =
    all-closed-append (hidden_parts t) (all_parts ts) (parts-closed t (and_left (is_closed t) (list_all is_closed ts) h))
    (all_parts-closed ts (and_right (is_closed t) (list_all is_closed ts) h))

-- ---- the names, and what they stand for

module _ (n : ℕ) (parts : List Term) where
  name_of : Term → ℕ
  name_of t = n + place_in t parts

  value_of : ℕ → Term
  value_of x = if nat_lt x n then Var x else slice_index_or parts (x - n) (Var x)

  value_old : (x : ℕ) → nat_lt x n ≡ true → value_of x ≡ Var x
  unfolding value_of
  value_old x h = ap (λ b. if b then Var x else slice_index_or parts (x - n) (Var x)) h

  value_name : (t : Term) → Among t parts → value_of (name_of t) ≡ t
  unfolding value_of name_of
  value_name t m =
      let k : ℕ = place_in t parts in
      let off : nat_lt (n + k) n ≡ false = le-ltb (n + k) n (omega arith) in
      let e : (n + k) - n ≡ k = omega arith in
      ap (λ b. if b then Var (n + k) else slice_index_or parts ((n + k) - n) (Var (n + k))) off
      ∙ (ap (λ j. slice_index_or parts j (Var (n + k))) e ∙ found_place t parts (n + k) m)

  value-closed : list_all is_closed parts ≡ true → (x : ℕ) → is_closed (value_of x) ≡ true
  unfolding value_of
  value-closed h x = step (nat_lt x n)
    where
      step : (b : Bool) → is_closed (if b then Var x else slice_index_or parts (x - n) (Var x)) ≡ true
      step true = refl
      step false = closed_at parts (x - n) x h

  -- what was hidden comes back
  back : (t : Term) → vars_below n t ≡ true → ((u : Term) → Among u (hidden_parts t) → Among u parts) → sub value_of (hide name_of t) ≡ t
  unfolding hidden_parts
  back (Var x) h m = value_old x h
  back (Int z) h m = refl
  back (Con (Name k)) h m = refl
  back (Con (Bound k)) h m = refl
  back (Con (Eigen k)) h m = value_name (Con (Eigen k)) (m (Con (Eigen k)) (inl refl))
  back (Ap f a) h m = step (is_eigen_head (head_of f)) (back f (and_left (vars_below n f) (vars_below n a) h))
      (back a (and_right (vars_below n f) (vars_below n a) h)) m
    where
      step : (b : Bool) → (((u : Term) → Among u (hidden_parts f) → Among u parts) → sub value_of (hide name_of f) ≡ f)
          → (((u : Term) → Among u (hidden_parts a) → Among u parts) → sub value_of (hide name_of a) ≡ a)
          → ((u : Term) → Among u (if b then Ap f a ∷ [] else hidden_parts f ++ hidden_parts a) → Among u parts)
          → sub value_of (if b then Var (name_of (Ap f a)) else Ap (hide name_of f) (hide name_of a)) ≡ Ap f a
      step true p q m = value_name (Ap f a) (m (Ap f a) (inl refl))
      step false p q m =
          let x = p (λ u w. m u (among_left u (hidden_parts f) (hidden_parts a) w)) in
          let y = q (λ u w. m u (among_right u (hidden_parts f) (hidden_parts a) w)) in cc

  all_back : (ts : List Term) → above_all ts ≤ n → ((u : Term) → Among u (all_parts ts) → Among u parts) → ts ≡ map (sub value_of) (map (hide name_of) ts)
  unfolding above_all all_parts
  all_back [] h m = refl
  all_back (t ∷ ts) h m =
      let x = back t (below-more (above t) n (omega arith) t (below-above t)) (λ u w. m u (among_left u (hidden_parts t) (all_parts ts) w)) in
      let y = all_back ts (omega arith) (λ u w. m u (among_right u (hidden_parts t) (all_parts ts) w)) in cc

pub hidden_cover : HiddenCover
hidden_cover ts h = (
  name_of (above_all ts) (all_parts ts),
  record {
    values = value_of (above_all ts) (all_parts ts);
    closed = value-closed (above_all ts) (all_parts ts) (all_parts-closed ts h);
    is = all_back (above_all ts) (all_parts ts) ts (omega arith) (λ u m. m);
  },
)
