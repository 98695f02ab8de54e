-- A body can always be opened with a head and its arguments: then only heads have arguments in what it is opened to.
use Rattle.std.proofs.Common.{◌≡◌, ℕ, zero, suc, true, List, [], ◌∷◌, map, refl}
use Rattle.std.specs.Prelude.{◌&&◌}
use Rattle.std.specs.List.{list_all}
use Rattle.std.proofs.lemmas.Bool.{and_parts, and_from}
use Rattle.ll_bank.specs.declared.Head.TheVariants.{Name, Eigen, Bound}
use Rattle.ll_bank.specs.Term.{Term, Var, Int, Con, Ap, place, close, is_spine, applies_heads}
use Rattle.ll_bank.specs.Form.{Form, Top, One, Atom, With, Tensor, Plus, Bang, Lolli, Imp, Forall, Exists, Use, Num, close_form, instantiate}
use Rattle.ll_bank.specs.Form.{form_applies_heads}
use Rattle.ll_bank.specs.Instantiated.{opened}

module _ (t : Term) (spine : is_spine t ≡ true) (heads : applies_heads t ≡ true) where
  place_spine : (n k m : ℕ) → is_spine (place (opened t n) k m) ≡ true
  place_spine zero zero m = spine
  place_spine zero (suc k) m = refl
  place_spine (suc n) zero m = refl
  place_spine (suc n) (suc k) m = place_spine n k (suc m)

  place_heads : (n k m : ℕ) → applies_heads (place (opened t n) k m) ≡ true
  place_heads zero zero m = heads
  place_heads zero (suc k) m = refl
  place_heads (suc n) zero m = refl
  place_heads (suc n) (suc k) m = place_heads n k (suc m)

  close_spine : (n : ℕ) (u : Term) → is_spine u ≡ true → is_spine (close (opened t n) u) ≡ true
  close_spine n (Var x) h = h
  close_spine n (Int z) h = h
  close_spine n (Con (Name k)) h = h
  close_spine n (Con (Eigen k)) h = h
  close_spine n (Con (Bound k)) h = place_spine n k 0
  close_spine n (Ap f a) h = close_spine n f h

  close_heads : (n : ℕ) (u : Term) → applies_heads u ≡ true → applies_heads (close (opened t n) u) ≡ true
  close_heads n (Var x) h = h
  close_heads n (Int z) h = h
  close_heads n (Con (Name k)) h = h
  close_heads n (Con (Eigen k)) h = h
  close_heads n (Con (Bound k)) h = place_heads n k 0
  close_heads n (Ap f a) h =
      let p = and_parts (is_spine f && applies_heads f) (applies_heads a) h in let q = and_parts (is_spine f) (applies_heads f) p.0 in
      and_from _ _ (and_from _ _ (close_spine n f q.0) (close_heads n f q.1)) (close_heads n a p.1)

  close_each : (n : ℕ) (us : List Term) → list_all applies_heads us ≡ true → list_all applies_heads (map (close (opened t n)) us) ≡ true
  close_each n [] h = h
  close_each n (u ∷ us) h = let p = and_parts (applies_heads u) (list_all applies_heads us) h in and_from _ _ (close_heads n u p.0) (close_each n us p.1)

  open_heads : (n : ℕ) (f : Form) → form_applies_heads f ≡ true → form_applies_heads (close_form (opened t n) f) ≡ true
  open_heads n Top h = h
  open_heads n One h = h
  open_heads n (Atom a) h = close_heads n a h
  open_heads n (With f g) h = let p = and_parts (form_applies_heads f) (form_applies_heads g) h in and_from _ _ (open_heads n f p.0) (open_heads n g p.1)
  open_heads n (Tensor f g) h = let p = and_parts (form_applies_heads f) (form_applies_heads g) h in and_from _ _ (open_heads n f p.0) (open_heads n g p.1)
  open_heads n (Plus f g) h = let p = and_parts (form_applies_heads f) (form_applies_heads g) h in and_from _ _ (open_heads n f p.0) (open_heads n g p.1)
  open_heads n (Bang f) h = open_heads n f h
  open_heads n (Lolli f g) h = let p = and_parts (form_applies_heads f) (form_applies_heads g) h in and_from _ _ (open_heads n f p.0) (open_heads n g p.1)
  open_heads n (Imp f g) h = let p = and_parts (form_applies_heads f) (form_applies_heads g) h in and_from _ _ (open_heads n f p.0) (open_heads n g p.1)
  open_heads n (Forall f) h = open_heads (suc n) f h
  open_heads n (Exists f) h = open_heads (suc n) f h
  open_heads n (Use m ts f) h = let p = and_parts (list_all applies_heads ts) (form_applies_heads f) h in
      and_from _ _ (close_each n ts p.0) (open_heads n f p.1)
  open_heads n (Num r a b) h = let p = and_parts (applies_heads a) (applies_heads b) h in and_from _ _ (close_heads n a p.0) (close_heads n b p.1)

-- so a body that nothing but heads has arguments in may be opened with a head and its arguments
pub opens_with_head : (f : Form) (t : Term) → form_applies_heads f ≡ true → is_spine t ≡ true → applies_heads t ≡ true
    → form_applies_heads (instantiate f t) ≡ true
opens_with_head f t h s a = open_heads t s a 0 f h
