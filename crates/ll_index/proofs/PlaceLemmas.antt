-- First places of keys by what is before them, and a walk along the chain of a predicate.
use Rattle.std.proofs.Common.{inl, inr, ◌≡◌, ◌<◌, ◌≤◌, ℕ, zero, suc, ◌+◌, ◌-◌, Bool, true, false, List, [], ◌∷◌, length, map, drop, refl, ap, sym, ◌∙◌, arith}
use Rattle.std.specs.Prelude.{if◌then◌else◌, slice_index, slice_get, Some, option_map}
use Rattle.std.proofs.lemmas.Bool.{cases_lt}
use Rattle.std.proofs.lemmas.List.{length-map, length-drop}
use Rattle.std.proofs.lemmas.Option.{slice_get-map, slice_get_within}
use Rattle.ll_list_laws.proofs.CallerLemmas.{slice_get-drop}
use Rattle.ll_index.specs.declared.laws.First.{First}
use Rattle.ll_index.specs.declared.laws.First.TheVariants.{Open}
use Rattle.ll_index.specs.declared.key.Key.{Key}
use Rattle.ll_index.specs.declared.key.Key.TheVariants.{Unnamed, Named}
use Rattle.ll_index.specs.Chained.{first_from, links_from}
use Rattle.ll_index.specs.Keys.{key_eq}
use Rattle.ll_index.specs.Rows.{without_sign, has_sign, IsPassed}
use Rattle.ll_index.proofs.Matching.{same_key, key_refl, first_same, first_refl}

-- ---- first places

-- a place of a key, or the end, before which it is not
record IsFirst {K : Type 0} (ks : List K) (key : K) (d : ℕ) : Type 0 where
  inside : d ≤ length ks
  here : (k : K) → slice_get ks d ≡ Some k → k ≡ key
  before : (j : ℕ) → j < d → slice_get ks j ≡ Some key → ⊥

module _ {K : Type 0} (eq : K → K → Bool) (same : (x y : K) → eq x y ≡ true → x ≡ y) (alike : (x : K) → eq x x ≡ true) where
  first-is : (i : ℕ) (ks : List K) (key : K) (d : ℕ) → IsFirst ks key d → first_from eq i ks key ≡ i + d
  first-is i [] key d f = let h = f.inside in omega arith
  first-is i (k ∷ ks) key zero f =
      let e : i ≡ i + 0 = omega arith in
      ap (λ (b : Bool). if b then i else first_from eq (suc i) ks key) (ap (λ x. eq x key) (f.here k refl) ∙ alike key) ∙ e
  first-is i (k ∷ ks) key (suc d) f = by (eq k key) refl (first-is (suc i) ks key d (record {
    inside = let h = f.inside in omega arith;
    here = λ x e. f.here x e;
    before = λ j l e. f.before (suc j) (omega arith) e;
  }))
    where
      by : (b : Bool) → eq k key ≡ b → first_from eq (suc i) ks key ≡ suc i + d → (if b then i else first_from eq (suc i) ks key) ≡ i + suc d
      by true e r = absurd (f.before 0 (omega arith) (ap (λ x. Some x) (same k key e)))
      by false e r = let z : suc i + d ≡ i + suc d = omega arith in r ∙ z

  -- the first place has nothing before it
  record HasPlace (i : ℕ) (ks : List K) (key : K) (p : ℕ) : Type 0 where
    steps : ℕ
    at : p ≡ i + steps
    first : IsFirst ks key steps

  first-has : (i : ℕ) (ks : List K) (key : K) → HasPlace i ks key (first_from eq i ks key)
  first-has i [] key = record {
    steps = 0;
    at = omega arith;
    first = record { inside = omega arith; here = λ k e. cc; before = λ j l e. absurd (omega arith) };
  }
  first-has i (k ∷ ks) key = by (eq k key) refl (first-has (suc i) ks key)
    where
      by : (b : Bool) → eq k key ≡ b → HasPlace (suc i) ks key (first_from eq (suc i) ks key)
          → HasPlace i (k ∷ ks) key (if b then i else first_from eq (suc i) ks key)
      by true e r = record {
        steps = 0;
        at = omega arith;
        first = record { inside = omega arith; here = λ x h. (let z : k ≡ x = cc in sym z) ∙ same k key e; before = λ j l h. absurd (omega arith) };
      }
      by false e r = record {
        steps = suc r.steps;
        at = let a = r.at in omega arith;
        first = record { inside = let a = r.first.inside in omega arith; here = λ x h. r.first.here x h; before = before };
      }
        where
          before : (j : ℕ) → j < suc r.steps → slice_get (k ∷ ks) j ≡ Some key → ⊥
          before zero l h =
              let z : k ≡ key = cc in
              let t : eq k key ≡ true = ap (λ x. eq x key) z ∙ alike key in
              let f : true ≡ false = sym t ∙ e in
              cc
          before (suc j) l h = r.first.before j (omega arith) h

-- ---- links

link-at : {K : Type 0} (eq : K → K → Bool) (i : ℕ) (ks : List K) (at : ℕ) (k : K) → slice_get ks at ≡ Some k
    → slice_index (links_from eq i ks) at ≡ first_from eq (suc (i + at)) (drop (suc at) ks) k
link-at eq i [] at k h = cc
link-at eq i (x ∷ ks) zero k h =
    let e : x ≡ k = cc in
    let z : suc i ≡ suc (i + 0) = omega arith in
    ap (first_from eq (suc i) ks) e ∙ ap (λ n. first_from eq n ks k) z
link-at eq i (x ∷ ks) (suc at) k h =
    let z : suc (suc i + at) ≡ suc (i + suc at) = omega arith in
    link-at eq (suc i) ks at k h ∙ ap (λ n. first_from eq n (drop (suc at) ks) k) z

-- ---- the walk

-- a key of the predicate that has the sign
sign-key : (k : Key) (name arguments : ℕ) (first : First) → without_sign k ≡ Named name arguments Open → has_sign first k ≡ true
    → k ≡ Named name arguments first
sign-key Unnamed name arguments first p s = cc
sign-key (Named n m f) name arguments first p s =
    let a : n ≡ name = cc in
    let b : m ≡ arguments = cc in
    let e = first_same f first s in
    λ i. Named (a i) (b i) (e i)

module _ (keys : List Key) (name arguments : ℕ) (first : First) where
  get-predicate : (at : ℕ) (k : Key) → slice_get keys at ≡ Some k → slice_get (map without_sign keys) at ≡ Some (without_sign k)
  get-predicate at k h = slice_get-map without_sign keys at ∙ ap (option_map without_sign) h

  -- a walk begins at the first place of the predicate
  pub walk-begins : (from : ℕ) → from ≡ first_from key_eq 0 (map without_sign keys) (Named name arguments Open) → IsPassed keys name arguments first from
  walk-begins from e =
      let h = first-has key_eq same_key key_refl 0 (map without_sign keys) (Named name arguments Open) in
      let a = h.at in
      let s : from ≡ h.steps = omega arith in
      let l = length-map keys without_sign in
      let i = h.first.inside in
      record {
        inside = omega arith;
        here = λ k g. h.first.here (without_sign k) (ap (slice_get (map without_sign keys)) (sym s) ∙ get-predicate from k g);
        before = λ j b g. h.first.before j (omega arith) (get-predicate j (Named name arguments first) g);
      }

  -- it goes on behind a key that has another sign
  pub walk-goes : (at n : ℕ) (ns : List ℕ) (k : Key) → ns ≡ links_from key_eq 0 (map without_sign keys) → IsPassed keys name arguments first at
      → slice_get keys at ≡ Some k → has_sign first k ≡ false → n ≡ slice_index ns at → IsPassed keys name arguments first n
  walk-goes at n ns k links p h sign link =
      let ps = map without_sign keys in
      let own = p.here k h in
      let next = link-at key_eq 0 ps at (without_sign k) (get-predicate at k h) in
      let r = first-has key_eq same_key key_refl (suc (0 + at)) (drop (suc at) ps) (without_sign k) in
      let e : n ≡ suc (0 + at) + r.steps = link ∙ (ap (λ xs. slice_index xs at) links ∙ (next ∙ r.at)) in
      let z : suc at + r.steps ≡ n = omega arith in
      let l = length-map keys without_sign in
      let d = length-drop (suc at) ps in
      let w = slice_get_within keys at k h in
      let i = r.first.inside in
      record {
        inside = omega arith;
        here = λ x g. r.first.here (without_sign x) (slice_get-drop (suc at) r.steps ps ∙ (ap (slice_get ps) z ∙ get-predicate n x g)) ∙ own;
        before = λ j b g. elim (cases_lt j at) [
          | inl q ↦ p.before j q g
          | inr q ↦ elim (cases_lt at j) [
            | inl q2 ↦
                let y : suc at + (j - suc at) ≡ j = omega arith in
                let t : j - suc at < r.steps = omega arith in
                r.first.before (j - suc at) t
                (slice_get-drop (suc at) (j - suc at) ps
                ∙ (ap (slice_get ps) y ∙ (get-predicate j (Named name arguments first) g ∙ ap (λ v. Some v) (sym own))))
            | inr q2 ↦
                let y : j ≡ at = omega arith in
                let v : Some k ≡ Some (Named name arguments first) = sym h ∙ (ap (slice_get keys) (sym y) ∙ g) in
                let u : k ≡ Named name arguments first = cc in
                let t : true ≡ false = sym (first_refl first) ∙ (ap (has_sign first) (sym u) ∙ sign) in
                cc
          ]
        ];
      }

  -- a key that has the sign is the first one
  pub walk-finds : (at : ℕ) (k : Key) → IsPassed keys name arguments first at → slice_get keys at ≡ Some k → has_sign first k ≡ true
      → at ≡ first_from key_eq 0 keys (Named name arguments first)
  walk-finds at k p h sign =
      let e = first-is key_eq same_key key_refl 0 keys (Named name arguments first) at (record {
        inside = p.inside;
        here = λ x g. let v : x ≡ k = cc in v ∙ sign-key k name arguments first (p.here k h) sign;
        before = p.before;
      }) in
      omega arith

  -- and at the end there is none
  pub walk-ends : (at : ℕ) → IsPassed keys name arguments first at → length keys ≤ at → at ≡ first_from key_eq 0 keys (Named name arguments first)
  walk-ends at p past =
      let e = first-is key_eq same_key key_refl 0 keys (Named name arguments first) at (record {
        inside = p.inside;
        here = λ x g. let w = slice_get_within keys at x g in absurd (omega arith);
        before = p.before;
      }) in
      omega arith
