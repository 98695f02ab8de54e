-- A sound formula stays sound where a closed term, or an eigenvariable that may be a predicate, takes the place that a quantifier binds.
use Rattle.std.proofs.Common.{◌≡◌, ℕ, zero, suc, ◌+◌, ◌<◌, refl, ap, ◌∙◌, subst, Bool, true, false, List, [], ◌∷◌, ◌++◌, map, length, arith}
use Rattle.std.specs.Prelude.{◌&&◌, Some, None, slice_get, slice_index_or}
use Rattle.std.specs.List.{list_all}
use Rattle.std.proofs.lemmas.Bool.{and_from, and_parts, ltb-true, lt-ltb}
use Rattle.std.proofs.lemmas.List.{length-map}
use Rattle.ll_bank.specs.declared.Head.TheVariants.{Name, Eigen, Bound}
use Rattle.ll_bank.specs.Term.{Term, Var, Int, Con, Ap, Env, place, close, head_of, is_spine, is_closed}
use Rattle.ll_bank.specs.Form.{Form, Top, One, Atom, With, Tensor, Plus, Bang, Lolli, Imp, Forall, Exists, Use, Num, close_form, instantiate}
use Rattle.ll_bank.specs.Form.{form_applies_heads}
use Rattle.ll_laws.specs.Module.{ModuleTree}
use Rattle.ll_laws.specs.Valid.{Side, GoalSide, ClauseSide, Scope, places_below, each_term, may_head, is_headed, is_atom, has_heads, fits_module, loads_fit}
use Rattle.ll_laws.proofs.CallerLemmas.{fits_module-length, head_of_closed, headed_applies, all_headed}
use Rattle.ll_sequent.specs.Sequents.{IsSound}

-- ---- one environment

-- What stands for the places of a scope: with the scope `round` what is passed inside, it has no place that is free there, what may be a
-- head is one, and heads alone have arguments.
pub record Puts (e : Env) (inner outer : Scope) : Type 0 where
  pub free : (k : ℕ) (round : Scope) → k < length inner → places_below (length round + length outer) (place e k (length round)) ≡ true
  pub spines : (k : ℕ) (round : Scope) → may_head inner (Some (Bound k)) ≡ true → is_spine (place e k (length round)) ≡ true
  pub may : (k : ℕ) (round : Scope) → may_head inner (Some (Bound k)) ≡ true → may_head (round ++ outer) (head_of (place e k (length round))) ≡ true
  pub headed : (k : ℕ) (round : Scope) → is_headed (round ++ outer) (place e k (length round)) ≡ true

at_length : (round : Scope) (b : Bool) (outer : Scope) → slice_index_or (round ++ b ∷ outer) (length round) false ≡ b
at_length [] b outer = refl
at_length (x ∷ round) b outer = at_length round b outer

one_more : (round : Scope) (b : Bool) → length (round ++ b ∷ []) ≡ suc (length round)
one_more [] b = refl
one_more (x ∷ round) b = ap (λ n. suc n) (one_more round b)

behind : (round : Scope) (b : Bool) (outer : Scope) → (round ++ b ∷ []) ++ outer ≡ round ++ b ∷ outer
behind [] b outer = refl
behind (x ∷ round) b outer = ap (λ xs. x ∷ xs) (behind round b outer)

-- under a quantifier that stays
module _ {e : Env} {inner outer : Scope} (b : Bool) (h : Puts e inner outer) where
  under_free : (k : ℕ) (round : Scope) → k < length (b ∷ inner) → places_below (length round + length (b ∷ outer)) (place (None ∷ e) k (length round)) ≡ true
  under_free zero round l = lt-ltb (length round) (length round + length (b ∷ outer)) (omega arith)
  under_free (suc k) round l =
      let p = h.free k (round ++ b ∷ []) (omega arith) in
      let m : suc (length round) + length outer ≡ length round + suc (length outer) = omega arith in
      let P : ℕ → Type 0 = λ n. places_below (n + length outer) (place e k n) ≡ true in
      let q : P (suc (length round)) = subst P (one_more round b) p in
      let Q : ℕ → Type 0 = λ n. places_below n (place e k (suc (length round))) ≡ true in
      subst Q m q

  under_spines : (k : ℕ) (round : Scope) → may_head (b ∷ inner) (Some (Bound k)) ≡ true → is_spine (place (None ∷ e) k (length round)) ≡ true
  under_spines zero round m = refl
  under_spines (suc k) round m = let P : ℕ → Type 0 = λ n. is_spine (place e k n) ≡ true in subst P (one_more round b) (h.spines k (round ++ b ∷ []) m)

  under_may : (k : ℕ) (round : Scope) → may_head (b ∷ inner) (Some (Bound k)) ≡ true
      → may_head (round ++ b ∷ outer) (head_of (place (None ∷ e) k (length round))) ≡ true
  under_may zero round m = at_length round b outer ∙ m
  under_may (suc k) round m =
      let P : ℕ → Type 0 = λ n. may_head ((round ++ b ∷ []) ++ outer) (head_of (place e k n)) ≡ true in
      let Q : Scope → Type 0 = λ s. may_head s (head_of (place e k (suc (length round)))) ≡ true in
      subst Q (behind round b outer) (subst P (one_more round b) (h.may k (round ++ b ∷ []) m))

  under_headed : (k : ℕ) (round : Scope) → is_headed (round ++ b ∷ outer) (place (None ∷ e) k (length round)) ≡ true
  under_headed zero round = refl
  under_headed (suc k) round =
      let P : ℕ → Type 0 = λ n. is_headed ((round ++ b ∷ []) ++ outer) (place e k n) ≡ true in
      let Q : Scope → Type 0 = λ s. is_headed s (place e k (suc (length round))) ≡ true in
      subst Q (behind round b outer) (subst P (one_more round b) (h.headed k (round ++ b ∷ [])))

  under : Puts (None ∷ e) (b ∷ inner) (b ∷ outer)
  under = record { free = under_free; spines = under_spines; may = under_may; headed = under_headed }

-- ---- terms

term_free : {e : Env} {inner outer : Scope} → Puts e inner outer → (u : Term) → places_below (length inner) u ≡ true
    → places_below (length outer) (close e u) ≡ true
term_free h (Var x) p = refl
term_free h (Int z) p = refl
term_free h (Con (Name k)) p = refl
term_free h (Con (Eigen k)) p = refl
term_free {e} {inner} {outer} h (Con (Bound k)) p =
    let q = h.free k [] (ltb-true k (length inner) p) in
    let m : 0 + length outer ≡ length outer = omega arith in
    let P : ℕ → Type 0 = λ n. places_below n (place e k 0) ≡ true in subst P m q
term_free {e} {inner} {outer} h (Ap f a) p =
    let q = and_parts (places_below (length inner) f) (places_below (length inner) a) p in and_from _ _ (term_free h f q.0) (term_free h a q.1)

terms_free : {e : Env} {inner outer : Scope} → Puts e inner outer → (us : List Term) → list_all (places_below (length inner)) us ≡ true
    → list_all (places_below (length outer)) (map (close e) us) ≡ true
terms_free h [] p = refl
terms_free {e} {inner} {outer} h (u ∷ us) p =
    let q = and_parts (places_below (length inner) u) (list_all (places_below (length inner)) us) p in and_from _ _ (term_free h u q.0) (terms_free h us q.1)

spine_after : {e : Env} {inner outer : Scope} → Puts e inner outer → (u : Term) → is_spine u ≡ true → may_head inner (head_of u) ≡ true
    → is_spine (close e u) ≡ true
spine_after h (Var x) s m = s
spine_after h (Int z) s m = s
spine_after h (Con (Name k)) s m = refl
spine_after h (Con (Eigen k)) s m = refl
spine_after h (Con (Bound k)) s m = h.spines k [] m
spine_after h (Ap f a) s m = spine_after h f s m

may_after : {e : Env} {inner outer : Scope} → Puts e inner outer → (u : Term) → is_spine u ≡ true → may_head inner (head_of u) ≡ true
    → may_head outer (head_of (close e u)) ≡ true
may_after h (Var x) s m = refl
may_after h (Int z) s m = refl
may_after h (Con (Name k)) s m = refl
may_after h (Con (Eigen k)) s m = refl
may_after h (Con (Bound k)) s m = h.may k [] m
may_after h (Ap f a) s m = may_after h f s m

term_headed : {e : Env} {inner outer : Scope} → Puts e inner outer → (u : Term) → is_headed inner u ≡ true → is_headed outer (close e u) ≡ true
term_headed h (Var x) p = refl
term_headed h (Int z) p = refl
term_headed h (Con (Name k)) p = refl
term_headed h (Con (Eigen k)) p = refl
term_headed h (Con (Bound k)) p = h.headed k []
term_headed {e} {inner} {outer} h (Ap f a) p =
    let q = and_parts (is_spine f && may_head inner (head_of f) && is_headed inner f) (is_headed inner a) p in
    let r = and_parts (is_spine f && may_head inner (head_of f)) (is_headed inner f) q.0 in
    let s = and_parts (is_spine f) (may_head inner (head_of f)) r.0 in
    and_from _ _ (and_from _ _ (and_from _ _ (spine_after h f s.0 s.1) (may_after h f s.0 s.1)) (term_headed h f r.1)) (term_headed h a q.1)

terms_headed : {e : Env} {inner outer : Scope} → Puts e inner outer → (us : List Term) → list_all (is_headed inner) us ≡ true
    → list_all (is_headed outer) (map (close e) us) ≡ true
terms_headed h [] p = refl
terms_headed {e} {inner} {outer} h (u ∷ us) p = let q = and_parts (is_headed inner u) (list_all (is_headed inner) us) p in
    and_from _ _ (term_headed h u q.0) (terms_headed h us q.1)

atom_after : {e : Env} {inner outer : Scope} → Puts e inner outer → (u : Term) → is_atom inner u ≡ true → is_atom outer (close e u) ≡ true
atom_after {e} {inner} {outer} h u p =
    let q = and_parts (is_spine u && may_head inner (head_of u)) (is_headed inner u) p in
    let r = and_parts (is_spine u) (may_head inner (head_of u)) q.0 in
    and_from _ _ (and_from _ _ (spine_after h u r.0 r.1) (may_after h u r.0 r.1)) (term_headed h u q.1)

-- ---- formulas

pub both_free : {a b : Bool} (c d : Bool) → (c ≡ true → a ≡ true) → (d ≡ true → b ≡ true) → c && d ≡ true → a && b ≡ true
both_free c d f g p = let q = and_parts c d p in and_from _ _ (f q.0) (g q.1)

form_free : {e : Env} {inner outer : Scope} → Puts e inner outer → (f : Form) → each_term places_below (length inner) f ≡ true
    → each_term places_below (length outer) (close_form e f) ≡ true
form_free h Top p = refl
form_free h One p = refl
form_free h (Atom a) p = term_free h a p
form_free {e} {inner} h (With f g) p = both_free (each_term places_below (length inner) f) (each_term places_below (length inner) g) (form_free h f)
    (form_free h g) p
form_free {e} {inner} h (Tensor f g) p = both_free (each_term places_below (length inner) f) (each_term places_below (length inner) g) (form_free h f)
    (form_free h g) p
form_free {e} {inner} h (Plus f g) p = both_free (each_term places_below (length inner) f) (each_term places_below (length inner) g) (form_free h f)
    (form_free h g) p
form_free h (Bang f) p = form_free h f p
form_free {e} {inner} h (Lolli f g) p = both_free (each_term places_below (length inner) f) (each_term places_below (length inner) g) (form_free h f)
    (form_free h g) p
form_free {e} {inner} h (Imp f g) p = both_free (each_term places_below (length inner) f) (each_term places_below (length inner) g) (form_free h f)
    (form_free h g) p
form_free h (Forall f) p = form_free (under false h) f p
form_free h (Exists f) p = form_free (under false h) f p
form_free {e} {inner} h (Use m ts f) p = both_free (list_all (places_below (length inner)) ts) (each_term places_below (length inner) f) (terms_free h ts)
    (form_free h f) p
form_free {e} {inner} h (Num r t u) p = both_free (places_below (length inner) t) (places_below (length inner) u) (term_free h t) (term_free h u) p

pub form_heads : {e : Env} {inner outer : Scope} → Puts e inner outer → (side : Side) (f : Form) → has_heads true side inner f ≡ true
    → has_heads true side outer (close_form e f) ≡ true
form_heads h side Top p = refl
form_heads h side One p = refl
form_heads h side (Atom a) p = atom_after h a p
form_heads {e} {inner} h side (With f g) p = both_free (has_heads true side inner f) (has_heads true side inner g) (form_heads h side f) (form_heads h side g) p
form_heads {e} {inner} h side (Tensor f g) p = both_free (has_heads true side inner f) (has_heads true side inner g) (form_heads h side f) (form_heads h side g)
    p
form_heads {e} {inner} h side (Plus f g) p = both_free (has_heads true side inner f) (has_heads true side inner g) (form_heads h side f) (form_heads h side g) p
form_heads h side (Bang f) p = form_heads h side f p
form_heads {e} {inner} h GoalSide (Lolli f g) p = both_free (has_heads true ClauseSide inner f) (has_heads true GoalSide inner g) (form_heads h ClauseSide f)
    (form_heads h GoalSide g) p
form_heads {e} {inner} h ClauseSide (Lolli f g) p = both_free (has_heads true GoalSide inner f) (has_heads true ClauseSide inner g) (form_heads h GoalSide f)
    (form_heads h ClauseSide g) p
form_heads {e} {inner} h GoalSide (Imp f g) p = both_free (has_heads true ClauseSide inner f) (has_heads true GoalSide inner g) (form_heads h ClauseSide f)
    (form_heads h GoalSide g) p
form_heads {e} {inner} h ClauseSide (Imp f g) p = both_free (has_heads true GoalSide inner f) (has_heads true ClauseSide inner g) (form_heads h GoalSide f)
    (form_heads h ClauseSide g) p
form_heads h GoalSide (Forall f) p = form_heads (under true h) GoalSide f p
form_heads h ClauseSide (Forall f) p = form_heads (under false h) ClauseSide f p
form_heads h side (Exists f) p = form_heads (under false h) side f p
form_heads {e} {inner} h side (Use m ts f) p = both_free (list_all (is_headed inner) ts) (has_heads true side inner f) (terms_headed h ts) (form_heads h side f)
    p
form_heads {e} {inner} h side (Num r t u) p = both_free (is_headed inner t) (is_headed inner u) (term_headed h t) (term_headed h u) p

form_loads : (modules : List ModuleTree) (e : Env) (f : Form) → loads_fit modules f ≡ true → loads_fit modules (close_form e f) ≡ true
form_loads modules e Top p = refl
form_loads modules e One p = refl
form_loads modules e (Atom a) p = refl
form_loads modules e (With f g) p = both_free (loads_fit modules f) (loads_fit modules g) (form_loads modules e f) (form_loads modules e g) p
form_loads modules e (Tensor f g) p = both_free (loads_fit modules f) (loads_fit modules g) (form_loads modules e f) (form_loads modules e g) p
form_loads modules e (Plus f g) p = both_free (loads_fit modules f) (loads_fit modules g) (form_loads modules e f) (form_loads modules e g) p
form_loads modules e (Bang f) p = form_loads modules e f p
form_loads modules e (Lolli f g) p = both_free (loads_fit modules f) (loads_fit modules g) (form_loads modules e f) (form_loads modules e g) p
form_loads modules e (Imp f g) p = both_free (loads_fit modules f) (loads_fit modules g) (form_loads modules e f) (form_loads modules e g) p
form_loads modules e (Forall f) p = form_loads modules (None ∷ e) f p
form_loads modules e (Exists f) p = form_loads modules (None ∷ e) f p
form_loads modules e (Use m ts f) p =
    both_free (fits_module (slice_get modules m) ts) (loads_fit modules f)
    (fits_module-length (slice_get modules m) ts (map (close e) ts) (length-map ts (close e))) (form_loads modules e f) p
form_loads modules e (Num r t u) p = refl

pub sound-close : {e : Env} {inner outer : Scope} → Puts e inner outer → (modules : List ModuleTree) (side : Side) (f : Form) → IsSound modules side inner f
    → IsSound modules side outer (close_form e f)
sound-close {e} h modules side f s = record { closed = form_free h f s.closed; heads = form_heads h side f s.heads; loads = form_loads modules e f s.loads }

-- ---- a term for a place that is no head, and an eigenvariable for one that may be

pub closed_free : (n : ℕ) (t : Term) → is_closed t ≡ true → places_below n t ≡ true
closed_free n (Var x) c = refl
closed_free n (Int z) c = refl
closed_free n (Con (Name k)) c = refl
closed_free n (Con (Eigen k)) c = refl
closed_free n (Con (Bound k)) c = cc
closed_free n (Ap f a) c =
    let p = and_parts (is_spine f && is_closed f) (is_closed a) c in let q = and_parts (is_spine f) (is_closed f) p.0 in
    and_from _ _ (closed_free n f q.1) (closed_free n a p.1)

pub closed_headed : (scope : Scope) (t : Term) → is_closed t ≡ true → is_headed scope t ≡ true
closed_headed scope (Var x) c = refl
closed_headed scope (Int z) c = refl
closed_headed scope (Con (Name k)) c = refl
closed_headed scope (Con (Eigen k)) c = refl
closed_headed scope (Con (Bound k)) c = refl
closed_headed scope (Ap f a) c =
    let p = and_parts (is_spine f && is_closed f) (is_closed a) c in
    let q = and_parts (is_spine f) (is_closed f) p.0 in
    and_from _ _ (and_from _ _ (and_from _ _ q.0 (head_of_closed scope f q.1)) (closed_headed scope f q.1)) (closed_headed scope a p.1)

-- a closed term, which is a head where the place may be one
pub puts_term : (t : Term) (b : Bool) → is_closed t ≡ true → (b ≡ true → is_spine t ≡ true) → Puts (Some t ∷ []) (b ∷ []) []
puts_term t b c s = record { free = free; spines = spines; may = may; headed = headed }
  where
    free : (k : ℕ) (round : Scope) → k < 1 → places_below (length round + 0) (place (Some t ∷ []) k (length round)) ≡ true
    free zero round l = closed_free (length round + 0) t c
    free (suc k) round l = absurd (omega arith)

    spines : (k : ℕ) (round : Scope) → may_head (b ∷ []) (Some (Bound k)) ≡ true → is_spine (place (Some t ∷ []) k (length round)) ≡ true
    spines zero round m = s m
    spines (suc k) round m = refl

    may : (k : ℕ) (round : Scope) → may_head (b ∷ []) (Some (Bound k)) ≡ true → may_head (round ++ []) (head_of (place (Some t ∷ []) k (length round))) ≡ true
    may zero round m = head_of_closed (round ++ []) t c
    may (suc k) round m = cc

    headed : (k : ℕ) (round : Scope) → is_headed (round ++ []) (place (Some t ∷ []) k (length round)) ≡ true
    headed zero round = closed_headed (round ++ []) t c
    headed (suc k) round = refl

-- ---- heads alone have arguments

pub heads_apply : (side : Side) (scope : Scope) (f : Form) → has_heads true side scope f ≡ true → form_applies_heads f ≡ true
heads_apply side scope Top p = refl
heads_apply side scope One p = refl
heads_apply side scope (Atom a) p = headed_applies scope a (and_parts (is_spine a && may_head scope (head_of a)) (is_headed scope a) p).1
heads_apply side scope (With f g) p = both_free (has_heads true side scope f) (has_heads true side scope g) (heads_apply side scope f)
    (heads_apply side scope g) p
heads_apply side scope (Tensor f g) p = both_free (has_heads true side scope f) (has_heads true side scope g) (heads_apply side scope f)
    (heads_apply side scope g) p
heads_apply side scope (Plus f g) p = both_free (has_heads true side scope f) (has_heads true side scope g) (heads_apply side scope f)
    (heads_apply side scope g) p
heads_apply side scope (Bang f) p = heads_apply side scope f p
heads_apply GoalSide scope (Lolli f g) p = both_free (has_heads true ClauseSide scope f) (has_heads true GoalSide scope g) (heads_apply ClauseSide scope f)
    (heads_apply GoalSide scope g) p
heads_apply ClauseSide scope (Lolli f g) p = both_free (has_heads true GoalSide scope f) (has_heads true ClauseSide scope g) (heads_apply GoalSide scope f)
    (heads_apply ClauseSide scope g) p
heads_apply GoalSide scope (Imp f g) p = both_free (has_heads true ClauseSide scope f) (has_heads true GoalSide scope g) (heads_apply ClauseSide scope f)
    (heads_apply GoalSide scope g) p
heads_apply ClauseSide scope (Imp f g) p = both_free (has_heads true GoalSide scope f) (has_heads true ClauseSide scope g) (heads_apply GoalSide scope f)
    (heads_apply ClauseSide scope g) p
heads_apply GoalSide scope (Forall f) p = heads_apply GoalSide (true ∷ scope) f p
heads_apply ClauseSide scope (Forall f) p = heads_apply ClauseSide (false ∷ scope) f p
heads_apply side scope (Exists f) p = heads_apply side (false ∷ scope) f p
heads_apply side scope (Use m ts f) p = both_free (list_all (is_headed scope) ts) (has_heads true side scope f) (all_headed scope ts) (heads_apply side scope f)
    p
heads_apply side scope (Num r t u) p = both_free (is_headed scope t) (is_headed scope u) (headed_applies scope t) (headed_applies scope u) p

-- the body of a quantifier with a closed term in place of what it binds
pub sound-instantiate : (modules : List ModuleTree) (side : Side) (b : Bool) (f : Form) (t : Term) → is_closed t ≡ true → (b ≡ true → is_spine t ≡ true)
    → IsSound modules side (b ∷ []) f
    → IsSound modules side [] (instantiate f t)
sound-instantiate modules side b f t c s h = sound-close (puts_term t b c s) modules side f h

pub heads-instantiate : (side : Side) (b : Bool) (f : Form) (t : Term) → is_closed t ≡ true → (b ≡ true → is_spine t ≡ true)
    → has_heads true side (b ∷ []) f ≡ true
    → form_applies_heads (instantiate f t) ≡ true
heads-instantiate side b f t c s h = heads_apply side [] (instantiate f t) (form_heads (puts_term t b c s) side f h)
