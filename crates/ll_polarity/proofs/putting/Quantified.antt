-- A clause with its variables quantified over it holds no variable, and is as good as before.
use Rattle.std.proofs.Common.{◌≡◌, ℕ, zero, suc, ◌+◌, ◌-◌, ◌<◌, ◌≤◌, Bool, true, false, List, [], ◌∷◌, ◌++◌, map, length, slice_get, if◌then◌else◌, refl}
use Rattle.std.proofs.Common.{subst, ap, ◌∙◌, arith, length-append, inl, inr}
use Rattle.std.specs.Prelude.{nat_lt, replicate, slice_index_or}
use Rattle.std.specs.List.{list_all}
use Rattle.std.proofs.lemmas.Bool.{ltb-true, lt-ltb, le-ltb, cases_lt}
use Rattle.std.proofs.lemmas.List.{length-map, length-replicate}
use Rattle.ll_bank.specs.declared.Head.TheVariants.{Name, Eigen, Bound}
use Rattle.ll_bank.specs.Term.{Term, Var, Int, Con, Ap, arity}
use Rattle.ll_bank.specs.Form.{Form, Top, One, Atom, With, Tensor, Plus, Bang, Lolli, Imp, Forall, Exists, Use, Num}
use Rattle.ll_laws.specs.Module.{ModuleTree, forall_all}
use Rattle.ll_laws.specs.Leaf.{ways}
use Rattle.ll_laws.specs.Valid.{Side, GoalSide, ClauseSide, Scope, given, each_term, names_below, arity_up_to, leaves_up_to}
use Rattle.ll_laws.proofs.CallerLemmas.{IsHead, Fit, AllFit, FormFits, other, opens_on, fits_module-length}
use Rattle.ll_polarity.specs.Reading.{moved_out, bind_term, bind_form, quantified}
use Rattle.ll_polarity.proofs.reading.Terms.{Room}
use Rattle.ll_polarity.proofs.reading.Forms.{IsGood, forall_good}

-- ---- places

-- the places of the inner scope, and n variables, are places of the outer one, inside d quantifiers
record Moves (n d : ℕ) (inner outer : Scope) : Type 0 where
  place : (k : ℕ) → nat_lt k (length inner) ≡ true → nat_lt (moved_out n d k) (length outer) ≡ true
  may : (k : ℕ) → slice_index_or inner k false ≡ true → slice_index_or outer (moved_out n d k) false ≡ true
  variable : (x : ℕ) → nat_lt x n ≡ true → nat_lt (d + (n - suc x)) (length outer) ≡ true

pub moved_near : (n d k : ℕ) → k < d → moved_out n d k ≡ k
moved_near n d k h = ap (λ b. if b then k else k + n) (lt-ltb k d h)

pub moved_far : (n d k : ℕ) → d ≤ k → moved_out n d k ≡ k + n
moved_far n d k h = ap (λ b. if b then k else k + n) (le-ltb k d h)

moved_first : (n d : ℕ) → moved_out n (suc d) 0 ≡ 0
moved_first n d = moved_near n (suc d) 0 (omega arith)

pub moved_next : (n d k : ℕ) → moved_out n (suc d) (suc k) ≡ suc (moved_out n d k)
moved_next n d k =
    elim (cases_lt k d) [
      | inl l ↦ (rw (moved_near n (suc d) (suc k) (omega arith), moved_near n d k l))
      | inr g ↦ (rw (moved_far n (suc d) (suc k) (omega arith), moved_far n d k g) (omega arith))
    ]

past_none : (n : ℕ) (scope : Scope) (k j : ℕ) → j ≡ k + n → slice_index_or (replicate n false ++ scope) j false ≡ slice_index_or scope k false
past_none zero scope k j e = ap (λ i. slice_index_or scope i false) (let z : j ≡ k = omega arith in z)
past_none (suc n) scope k zero e = absurd (omega arith)
past_none (suc n) scope k (suc j) e = past_none n scope k j (omega arith)

length_past : (n : ℕ) (scope : Scope) → length (replicate n false ++ scope) ≡ n + length scope
length_past n scope = length-append (replicate n false) scope ∙ ap (λ z. z + length scope) (length-replicate n false)

moves_all : (n : ℕ) (scope : Scope) → Moves n 0 scope (replicate n false ++ scope)
moves_all n scope = record {
  place = λ k h. (let l = ltb-true k (length scope) h in rw (moved_far n 0 k (omega arith), length_past n scope)
      (lt-ltb (k + n) (n + length scope) (omega arith)));
  may = λ k h. (rw (moved_far n 0 k (omega arith)) (past_none n scope k (k + n) refl ∙ h));
  variable = λ x h. (let l = ltb-true x n h in rw (length_past n scope) (lt-ltb (0 + (n - suc x)) (n + length scope) (omega arith)));
}

moves_under : (n d : ℕ) (b : Bool) (inner outer : Scope) → Moves n d inner outer → Moves n (suc d) (b ∷ inner) (b ∷ outer)
moves_under n d b inner outer m = record {
  place = place;
  may = may;
  variable = λ x h. (let l = ltb-true (d + (n - suc x)) (length outer) (m.variable x h) in lt-ltb (suc d + (n - suc x)) (suc (length outer)) (omega arith));
}
  where
    place : (k : ℕ) → nat_lt k (length (b ∷ inner)) ≡ true → nat_lt (moved_out n (suc d) k) (length (b ∷ outer)) ≡ true
    place zero h = rw (moved_first n d) (lt-ltb 0 (suc (length outer)) (omega arith))
    place (suc k) h =
        let l = ltb-true (suc k) (suc (length inner)) h in
        let g = ltb-true (moved_out n d k) (length outer) (m.place k (lt-ltb k (length inner) (omega arith))) in
        rw (moved_next n d k) (lt-ltb (suc (moved_out n d k)) (suc (length outer)) (omega arith))

    may : (k : ℕ) → slice_index_or (b ∷ inner) k false ≡ true → slice_index_or (b ∷ outer) (moved_out n (suc d) k) false ≡ true
    may zero h = rw (moved_first n d) h
    may (suc k) h = rw (moved_next n d k) (m.may k h)

-- ---- terms

module _ (modules : List ModuleTree) (n : ℕ) where
  bound_head : (d : ℕ) (inner outer : Scope) (t : Term) → Moves n d inner outer → IsHead inner t → IsHead outer (bind_term n d t)
  bound_head d inner outer (Var x) m h = absurd (cc (h.0))
  bound_head d inner outer (Int z) m h = absurd (cc (h.0))
  bound_head d inner outer (Con (Name k)) m h = (refl, refl)
  bound_head d inner outer (Con (Eigen k)) m h = (refl, refl)
  bound_head d inner outer (Con (Bound k)) m h = (refl, m.may k h.1)
  bound_head d inner outer (Ap f a) m h = bound_head d inner outer f m h

  bound_fit : (d : ℕ) (inner outer : Scope) (t : Term) → Moves n d inner outer → Fit (given modules n) inner t → Fit (given modules 0) outer (bind_term n d t)
  bound_fit d inner outer (Var x) m h = m.variable x h
  bound_fit d inner outer (Int z) m h = tt
  bound_fit d inner outer (Con (Name k)) m h = tt
  bound_fit d inner outer (Con (Eigen k)) m h = h
  bound_fit d inner outer (Con (Bound k)) m h = m.place k h
  bound_fit d inner outer (Ap f a) m h = (bound_head d inner outer f m h.0, bound_fit d inner outer f m h.1, bound_fit d inner outer a m h.2)

  bound_fits : (d : ℕ) (inner outer : Scope) (ts : List Term) → Moves n d inner outer → AllFit (given modules n) inner ts
      → AllFit (given modules 0) outer (map (bind_term n d) ts)
  bound_fits d inner outer [] m h = tt
  bound_fits d inner outer (t ∷ ts) m h = (bound_fit d inner outer t m h.0, bound_fits d inner outer ts m h.1)

  bound_form : (d : ℕ) (side : Side) (inner outer : Scope) (f : Form) → Moves n d inner outer → FormFits (given modules n) side inner f
      → FormFits (given modules 0) side outer (bind_form n d f)
  bound_form d side inner outer Top m h = tt
  bound_form d side inner outer One m h = h
  bound_form d side inner outer (Atom a) m h = (bound_head d inner outer a m h.0, bound_fit d inner outer a m h.1)
  bound_form d side inner outer (With f g) m h = (bound_form d side inner outer f m h.0, bound_form d side inner outer g m h.1)
  bound_form d side inner outer (Tensor f g) m h = (h.0, bound_form d side inner outer f m h.1, bound_form d side inner outer g m h.2)
  bound_form d side inner outer (Plus f g) m h = (h.0, bound_form d side inner outer f m h.1, bound_form d side inner outer g m h.2)
  bound_form d side inner outer (Bang f) m h = (h.0, bound_form d side inner outer f m h.1)
  bound_form d side inner outer (Lolli f g) m h = (bound_form d (other side) inner outer f m h.0, bound_form d side inner outer g m h.1)
  bound_form d side inner outer (Imp f g) m h = (bound_form d (other side) inner outer f m h.0, bound_form d side inner outer g m h.1)
  bound_form d side inner outer (Forall f) m h =
      bound_form (suc d) side (opens_on false side ∷ inner) (opens_on false side ∷ outer) f (moves_under n d (opens_on false side) inner outer m) h
  bound_form d side inner outer (Exists f) m h = (h.0, bound_form (suc d) side (false ∷ inner) (false ∷ outer) f (moves_under n d false inner outer m) h.1)
  bound_form d side inner outer (Use k ts f) m h = (
    h.0,
    fits_module-length (slice_get modules k) ts (map (bind_term n d) ts) (length-map ts (bind_term n d)) h.1,
    bound_fits d inner outer ts m h.2,
    bound_form d side inner outer f m h.3,
  )
  bound_form d side inner outer (Num r t u) m h = (h.0, bound_fit d inner outer t m h.1, bound_fit d inner outer u m h.2)

-- ---- tests that binding does not change

bound_names : (names n d : ℕ) (t : Term) → names_below names (bind_term n d t) ≡ names_below names t
bound_names names n d (Var x) = refl
bound_names names n d (Int z) = refl
bound_names names n d (Con (Name k)) = refl
bound_names names n d (Con (Eigen k)) = refl
bound_names names n d (Con (Bound k)) = refl
bound_names names n d (Ap f a) = let i = bound_names names n d f in let j = bound_names names n d a in cc

bound_arity : (n d : ℕ) (t : Term) → arity (bind_term n d t) ≡ arity t
bound_arity n d (Var x) = refl
bound_arity n d (Int z) = refl
bound_arity n d (Con (Name k)) = refl
bound_arity n d (Con (Eigen k)) = refl
bound_arity n d (Con (Bound k)) = refl
bound_arity n d (Ap f a) = ap (λ z. suc z) (bound_arity n d f)

bound_arguments : (most n d : ℕ) (t : Term) → arity_up_to most (bind_term n d t) ≡ arity_up_to most t
bound_arguments most n d (Var x) = refl
bound_arguments most n d (Int z) = refl
bound_arguments most n d (Con (Name k)) = refl
bound_arguments most n d (Con (Eigen k)) = refl
bound_arguments most n d (Con (Bound k)) = refl
bound_arguments most n d (Ap f a) = let h = bound_arity n d f in let i = bound_arguments most n d f in let j = bound_arguments most n d a in rw (h, i, j)

module _ (test : Term → Bool) (n : ℕ) (same : (d : ℕ) (t : Term) → test (bind_term n d t) ≡ test t) where
  bound_all : (d : ℕ) (ts : List Term) → list_all test (map (bind_term n d) ts) ≡ list_all test ts
  bound_all d [] = refl
  bound_all d (t ∷ ts) = let i = same d t in let j = bound_all d ts in cc

  bound_each : (m d : ℕ) (f : Form) → each_term (λ k. test) m (bind_form n d f) ≡ each_term (λ k. test) m f
  bound_each m d Top = refl
  bound_each m d One = refl
  bound_each m d (Atom a) = same d a
  bound_each m d (With f g) = let i = bound_each m d f in let j = bound_each m d g in cc
  bound_each m d (Tensor f g) = let i = bound_each m d f in let j = bound_each m d g in cc
  bound_each m d (Plus f g) = let i = bound_each m d f in let j = bound_each m d g in cc
  bound_each m d (Bang f) = bound_each m d f
  bound_each m d (Lolli f g) = let i = bound_each m d f in let j = bound_each m d g in cc
  bound_each m d (Imp f g) = let i = bound_each m d f in let j = bound_each m d g in cc
  bound_each m d (Forall f) = bound_each (suc m) (suc d) f
  bound_each m d (Exists f) = bound_each (suc m) (suc d) f
  bound_each m d (Use k ts f) = let i = bound_all d ts in let j = bound_each m d f in cc
  bound_each m d (Num r t u) = let i = same d t in let j = same d u in cc

pub bound_ways : (n d : ℕ) (f : Form) → ways (bind_form n d f) ≡ ways f
bound_ways n d Top = refl
bound_ways n d One = refl
bound_ways n d (Atom a) = refl
bound_ways n d (With f g) = let i = bound_ways n d f in let j = bound_ways n d g in cc
bound_ways n d (Tensor f g) = refl
bound_ways n d (Plus f g) = refl
bound_ways n d (Bang f) = refl
bound_ways n d (Lolli f g) = bound_ways n d g
bound_ways n d (Imp f g) = bound_ways n d g
bound_ways n d (Forall f) = ap (map (λ n. suc n)) (bound_ways n (suc d) f)
bound_ways n d (Exists f) = refl
bound_ways n d (Use k ts f) = refl
bound_ways n d (Num r t u) = refl

bound_leaves : (most n d : ℕ) (side : Side) (f : Form) → leaves_up_to most side (bind_form n d f) ≡ leaves_up_to most side f
bound_leaves most n d GoalSide Top = refl
bound_leaves most n d ClauseSide Top = refl
bound_leaves most n d GoalSide One = refl
bound_leaves most n d ClauseSide One = refl
bound_leaves most n d GoalSide (Atom a) = refl
bound_leaves most n d ClauseSide (Atom a) = refl
bound_leaves most n d GoalSide (With f g) = let i = bound_leaves most n d GoalSide f in let j = bound_leaves most n d GoalSide g in cc
bound_leaves most n d ClauseSide (With f g) =
    let w = bound_ways n d (With f g) in let i = bound_leaves most n d ClauseSide f in let j = bound_leaves most n d ClauseSide g in rw (w, i, j)
bound_leaves most n d GoalSide (Tensor f g) = let i = bound_leaves most n d GoalSide f in let j = bound_leaves most n d GoalSide g in cc
bound_leaves most n d ClauseSide (Tensor f g) = refl
bound_leaves most n d GoalSide (Plus f g) = let i = bound_leaves most n d GoalSide f in let j = bound_leaves most n d GoalSide g in cc
bound_leaves most n d ClauseSide (Plus f g) = refl
bound_leaves most n d GoalSide (Bang f) = bound_leaves most n d GoalSide f
bound_leaves most n d ClauseSide (Bang f) = refl
bound_leaves most n d GoalSide (Lolli f g) = let i = bound_leaves most n d ClauseSide f in let j = bound_leaves most n d GoalSide g in cc
bound_leaves most n d ClauseSide (Lolli f g) = let i = bound_leaves most n d GoalSide f in let j = bound_leaves most n d ClauseSide g in cc
bound_leaves most n d GoalSide (Imp f g) = let i = bound_leaves most n d ClauseSide f in let j = bound_leaves most n d GoalSide g in cc
bound_leaves most n d ClauseSide (Imp f g) = let i = bound_leaves most n d GoalSide f in let j = bound_leaves most n d ClauseSide g in cc
bound_leaves most n d GoalSide (Forall f) = bound_leaves most n (suc d) GoalSide f
bound_leaves most n d ClauseSide (Forall f) = bound_leaves most n (suc d) ClauseSide f
bound_leaves most n d GoalSide (Exists f) = bound_leaves most n (suc d) GoalSide f
bound_leaves most n d ClauseSide (Exists f) = refl
bound_leaves most n d GoalSide (Use k ts f) = bound_leaves most n d GoalSide f
bound_leaves most n d ClauseSide (Use k ts f) = refl
bound_leaves most n d GoalSide (Num r t u) = refl
bound_leaves most n d ClauseSide (Num r t u) = refl

-- ---- quantified formulas

one_inside : (n : ℕ) (scope : Scope) → false ∷ (replicate n false ++ scope) ≡ replicate n false ++ false ∷ scope
one_inside zero scope = refl
one_inside (suc n) scope = ap (λ z. false ∷ z) (one_inside n scope)

forall_all_good : (room : Room) (side : Side) (n : ℕ) (scope : Scope) (f : Form) → IsGood room side (replicate n false ++ scope) f
    → IsGood room side scope (forall_all n f)
forall_all_good room side zero scope f h = h
forall_all_good room side (suc n) scope f h = forall_good room side scope (forall_all n f)
    (forall_all_good room side n (false ∷ scope) f (subst (λ z. IsGood room side z f) (one_inside n scope) h))

-- a formula whose variables are quantified over it
pub quantified_good : (room : Room) (side : Side) (scope : Scope) (f : Form) → IsGood room side scope f
    → IsGood (record room { variables = 0 }) side scope (quantified room.variables f)
quantified_good room side scope f h =
    let n = room.variables in
    forall_all_good (record room { variables = 0 }) side n scope (bind_form n 0 f)
    (record {
      fits = bound_form room.modules n 0 side scope (replicate n false ++ scope) f (moves_all n scope) h.fits;
      named = λ m. bound_each (names_below room.names) n (bound_names room.names n) m 0 f ∙ h.named m;
      leaves = bound_leaves room.most n 0 side f ∙ h.leaves;
      arguments = λ m. bound_each (arity_up_to room.most) n (bound_arguments room.most n) m 0 f ∙ h.arguments m;
    })
