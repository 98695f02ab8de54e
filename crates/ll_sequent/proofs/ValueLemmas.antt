-- A sound formula stays sound where closed terms take the places of variables.
use Rattle.std.proofs.Common.{◌≡◌, ℕ, zero, suc, refl, true, false, List, [], ◌∷◌, map}
use Rattle.std.specs.Prelude.{◌&&◌, slice_index_or, slice_get}
use Rattle.std.specs.List.{list_all}
use Rattle.std.proofs.lemmas.Bool.{and_from, and_parts}
use Rattle.std.proofs.lemmas.List.{length-map}
use Rattle.ll_bank.specs.Term.{Term, Var, Int, Con, Ap, sub, head_of, is_spine, is_closed}
use Rattle.ll_bank.specs.Form.{Form, Top, One, Atom, With, Tensor, Plus, Bang, Lolli, Imp, Forall, Exists, Use, Num, sub_form}
use Rattle.ll_laws.specs.Module.{ModuleTree}
use Rattle.ll_laws.specs.Valid.{Side, GoalSide, ClauseSide, Scope, places_below, each_term, may_head, is_headed, is_atom, has_heads, fits_module, loads_fit}
use Rattle.ll_laws.proofs.CallerLemmas.{fits_module-length}
use Rattle.ll_sequent.specs.Sequents.{IsSound}
use Rattle.ll_sequent.specs.Starting.{values}
use Rattle.ll_sequent.proofs.Closings.{both_free, closed_free, closed_headed}

-- what holds of closed terms and of variables holds of a value
each_value : (P : Term → Type 0) → ((t : Term) → is_closed t ≡ true → P t) → (ts : List Term) (x : ℕ) (d : Term) → list_all is_closed ts ≡ true → P d
    → P (slice_index_or ts x d)
each_value P closed [] x d h p = p
each_value P closed (t ∷ ts) zero d h p = closed t (and_parts (is_closed t) (list_all is_closed ts) h).0
each_value P closed (t ∷ ts) (suc x) d h p = each_value P closed ts x d (and_parts (is_closed t) (list_all is_closed ts) h).1 p

module _ (ts : List Term) (closed : list_all is_closed ts ≡ true) where
  -- ---- terms

  term_free : (n : ℕ) (u : Term) → places_below n u ≡ true → places_below n (sub (values ts) u) ≡ true
  term_free n (Var x) p = each_value (λ t. places_below n t ≡ true) (closed_free n) ts x (Var x) closed refl
  term_free n (Int z) p = refl
  term_free n (Con h) p = p
  term_free n (Ap f a) p = let q = and_parts (places_below n f) (places_below n a) p in and_from _ _ (term_free n f q.0) (term_free n a q.1)

  terms_free : (n : ℕ) (us : List Term) → list_all (places_below n) us ≡ true → list_all (places_below n) (map (sub (values ts)) us) ≡ true
  terms_free n [] p = refl
  terms_free n (u ∷ us) p = let q = and_parts (places_below n u) (list_all (places_below n) us) p in and_from _ _ (term_free n u q.0) (terms_free n us q.1)

  spine_after : (u : Term) → is_spine u ≡ true → is_spine (sub (values ts) u) ≡ true
  spine_after (Var x) s = cc
  spine_after (Int z) s = s
  spine_after (Con h) s = refl
  spine_after (Ap f a) s = spine_after f s

  may_after : (scope : Scope) (u : Term) → is_spine u ≡ true → may_head scope (head_of u) ≡ true → may_head scope (head_of (sub (values ts) u)) ≡ true
  may_after scope (Var x) s m = cc
  may_after scope (Int z) s m = m
  may_after scope (Con h) s m = m
  may_after scope (Ap f a) s m = may_after scope f s m

  term_headed : (scope : Scope) (u : Term) → is_headed scope u ≡ true → is_headed scope (sub (values ts) u) ≡ true
  term_headed scope (Var x) p = each_value (λ t. is_headed scope t ≡ true) (closed_headed scope) ts x (Var x) closed refl
  term_headed scope (Int z) p = refl
  term_headed scope (Con h) p = refl
  term_headed scope (Ap f a) p =
      let q = and_parts (is_spine f && may_head scope (head_of f) && is_headed scope f) (is_headed scope a) p in
      let r = and_parts (is_spine f && may_head scope (head_of f)) (is_headed scope f) q.0 in
      let s = and_parts (is_spine f) (may_head scope (head_of f)) r.0 in
      and_from _ _ (and_from _ _ (and_from _ _ (spine_after f s.0) (may_after scope f s.0 s.1)) (term_headed scope f r.1)) (term_headed scope a q.1)

  terms_headed : (scope : Scope) (us : List Term) → list_all (is_headed scope) us ≡ true → list_all (is_headed scope) (map (sub (values ts)) us) ≡ true
  terms_headed scope [] p = refl
  terms_headed scope (u ∷ us) p = let q = and_parts (is_headed scope u) (list_all (is_headed scope) us) p in
      and_from _ _ (term_headed scope u q.0) (terms_headed scope us q.1)

  atom_after : (scope : Scope) (u : Term) → is_atom scope u ≡ true → is_atom scope (sub (values ts) u) ≡ true
  atom_after scope u p =
      let q = and_parts (is_spine u && may_head scope (head_of u)) (is_headed scope u) p in
      let r = and_parts (is_spine u) (may_head scope (head_of u)) q.0 in
      and_from _ _ (and_from _ _ (spine_after u r.0) (may_after scope u r.0 r.1)) (term_headed scope u q.1)

  -- ---- formulas

  form_free : (n : ℕ) (f : Form) → each_term places_below n f ≡ true → each_term places_below n (sub_form (values ts) f) ≡ true
  form_free n Top p = refl
  form_free n One p = refl
  form_free n (Atom a) p = term_free n a p
  form_free n (With f g) p = both_free (each_term places_below n f) (each_term places_below n g) (form_free n f) (form_free n g) p
  form_free n (Tensor f g) p = both_free (each_term places_below n f) (each_term places_below n g) (form_free n f) (form_free n g) p
  form_free n (Plus f g) p = both_free (each_term places_below n f) (each_term places_below n g) (form_free n f) (form_free n g) p
  form_free n (Bang f) p = form_free n f p
  form_free n (Lolli f g) p = both_free (each_term places_below n f) (each_term places_below n g) (form_free n f) (form_free n g) p
  form_free n (Imp f g) p = both_free (each_term places_below n f) (each_term places_below n g) (form_free n f) (form_free n g) p
  form_free n (Forall f) p = form_free (suc n) f p
  form_free n (Exists f) p = form_free (suc n) f p
  form_free n (Use m us f) p = both_free (list_all (places_below n) us) (each_term places_below n f) (terms_free n us) (form_free n f) p
  form_free n (Num r t u) p = both_free (places_below n t) (places_below n u) (term_free n t) (term_free n u) p

  form_heads : (side : Side) (scope : Scope) (f : Form) → has_heads true side scope f ≡ true → has_heads true side scope (sub_form (values ts) f) ≡ true
  form_heads side scope Top p = refl
  form_heads side scope One p = refl
  form_heads side scope (Atom a) p = atom_after scope a p
  form_heads side scope (With f g) p = both_free (has_heads true side scope f) (has_heads true side scope g) (form_heads side scope f) (form_heads side scope g)
      p
  form_heads side scope (Tensor f g) p = both_free (has_heads true side scope f) (has_heads true side scope g) (form_heads side scope f)
      (form_heads side scope g) p
  form_heads side scope (Plus f g) p = both_free (has_heads true side scope f) (has_heads true side scope g) (form_heads side scope f) (form_heads side scope g)
      p
  form_heads side scope (Bang f) p = form_heads side scope f p
  form_heads GoalSide scope (Lolli f g) p = both_free (has_heads true ClauseSide scope f) (has_heads true GoalSide scope g) (form_heads ClauseSide scope f)
      (form_heads GoalSide scope g) p
  form_heads ClauseSide scope (Lolli f g) p = both_free (has_heads true GoalSide scope f) (has_heads true ClauseSide scope g) (form_heads GoalSide scope f)
      (form_heads ClauseSide scope g) p
  form_heads GoalSide scope (Imp f g) p = both_free (has_heads true ClauseSide scope f) (has_heads true GoalSide scope g) (form_heads ClauseSide scope f)
      (form_heads GoalSide scope g) p
  form_heads ClauseSide scope (Imp f g) p = both_free (has_heads true GoalSide scope f) (has_heads true ClauseSide scope g) (form_heads GoalSide scope f)
      (form_heads ClauseSide scope g) p
  form_heads GoalSide scope (Forall f) p = form_heads GoalSide (true ∷ scope) f p
  form_heads ClauseSide scope (Forall f) p = form_heads ClauseSide (false ∷ scope) f p
  form_heads side scope (Exists f) p = form_heads side (false ∷ scope) f p
  form_heads side scope (Use m us f) p = both_free (list_all (is_headed scope) us) (has_heads true side scope f) (terms_headed scope us)
      (form_heads side scope f) p
  form_heads side scope (Num r t u) p = both_free (is_headed scope t) (is_headed scope u) (term_headed scope t) (term_headed scope u) p

  form_loads : (modules : List ModuleTree) (f : Form) → loads_fit modules f ≡ true → loads_fit modules (sub_form (values ts) f) ≡ true
  form_loads modules Top p = refl
  form_loads modules One p = refl
  form_loads modules (Atom a) p = refl
  form_loads modules (With f g) p = both_free (loads_fit modules f) (loads_fit modules g) (form_loads modules f) (form_loads modules g) p
  form_loads modules (Tensor f g) p = both_free (loads_fit modules f) (loads_fit modules g) (form_loads modules f) (form_loads modules g) p
  form_loads modules (Plus f g) p = both_free (loads_fit modules f) (loads_fit modules g) (form_loads modules f) (form_loads modules g) p
  form_loads modules (Bang f) p = form_loads modules f p
  form_loads modules (Lolli f g) p = both_free (loads_fit modules f) (loads_fit modules g) (form_loads modules f) (form_loads modules g) p
  form_loads modules (Imp f g) p = both_free (loads_fit modules f) (loads_fit modules g) (form_loads modules f) (form_loads modules g) p
  form_loads modules (Forall f) p = form_loads modules f p
  form_loads modules (Exists f) p = form_loads modules f p
  form_loads modules (Use m us f) p =
      both_free (fits_module (slice_get modules m) us) (loads_fit modules f)
      (fits_module-length (slice_get modules m) us (map (sub (values ts)) us) (length-map us (sub (values ts)))) (form_loads modules f) p
  form_loads modules (Num r t u) p = refl

  pub sound-values : (modules : List ModuleTree) (side : Side) (f : Form) → IsSound modules side [] f → IsSound modules side [] (sub_form (values ts) f)
  sound-values modules side f s = record { closed = form_free 0 f s.closed; heads = form_heads side [] f s.heads; loads = form_loads modules f s.loads }
