-- Variables by the numbers of their names are those by the texts.
use Rattle.std.proofs.Common.{◌≡◌, ◌≢◌, ℕ, ◌+◌, ◌<◌, Bool, true, false, List, [], ◌∷◌, ◌++◌, map, length, position, Option, Some, None, if◌then◌else◌, refl}
use Rattle.std.proofs.Common.{sym, subst, ap, ◌∙◌, arith, not, inl, inr, cond, ltb}
use Rattle.std.specs.Prelude.{nat_eq, option_map, unwrap_or}
use Rattle.std.specs.List.{list_any, position_or_len, IsDistinct}
use Rattle.std.specs.Str.{bytes_eq}
use Rattle.std.proofs.lemmas.Bool.{eqb-true, eqb-false, false_from_ne_true, cases_lt, ltb-true}
use Rattle.std.proofs.lemmas.List.{map-append, length-map, get_or_past}
use Rattle.std.proofs.lemmas.Map.Made.{AllPairs-from_IsDistinct}
use Rattle.std.proofs.lemmas.Slice.Eq.{bytes_eq-Decides}
use Rattle.ll_bank.specs.declared.Head.TheVariants.{Name}
use Rattle.ll_bank.specs.Term.{Con}
use Rattle.ll_bank.specs.Names.{with_name, number_of}
use Rattle.ll_polarity.specs.Built.{put_term}
use Rattle.ll_polarity.specs.Scope.{Scope, Bound, Local, meaning}
use Rattle.ll_polarity.specs.Reading.{number_in, has_text, variable_in, with_variable}
use Rattle.ll_polarity.specs.Numbered.{has_number, numbered, with_number, text_of, variables_of}
use Rattle.ll_polarity.proofs.naming.Meanings.{places, Means, means}

module _ {X Y : Type 0} (f : X → Y) (p : Y → Bool) (q : X → Bool) (same : (x : X) → p (f x) ≡ q x) where
  place_map : (xs : List X) → position_or_len p (map f xs) ≡ position_or_len q xs
  place_map [] = refl
  place_map (x ∷ xs) = let i = place_map xs in let j = same x in λ k. cond (not (j k)) (1 + i k) 0

  position_map : (xs : List X) → position p (map f xs) ≡ position q xs
  position_map xs = λ i. cond (ltb (place_map xs i) (length-map xs f i)) (Some (place_map xs i)) None

-- a name in the texts has the text of no other
same_text : (texts : List (List ℕ)) (n m : ℕ) → IsDistinct bytes_eq texts → n < length texts → 0 < length (text_of texts n)
    → bytes_eq (text_of texts n) (text_of texts m) ≡ nat_eq n m
same_text texts n m distinct l ne = by (nat_eq n m) refl
  where
    apart : n ≢ m → text_of texts n ≢ text_of texts m
    apart d e = elim (cases_lt m (length texts)) [
      | inl k ↦ elim (cases_lt n m) [
        | inl h ↦ AllPairs-from_IsDistinct bytes_eq-Decides texts distinct n m [] h k e
        | inr h ↦ AllPairs-from_IsDistinct bytes_eq-Decides texts distinct m n [] (let z : m ≢ n = λ s. d (sym s) in omega arith) l (sym e)
      ]
      | inr k ↦ (let x = ap length (e ∙ get_or_past texts m [] k) in omega arith)
    ]

    by : (b : Bool) → nat_eq n m ≡ b → bytes_eq (text_of texts n) (text_of texts m) ≡ b
    by true e = (bytes_eq-Decides _ _).1 (ap (text_of texts) (eqb-true n m e))
    by false e = false_from_ne_true _ (λ s. apart (eqb-false n m e) ((bytes_eq-Decides _ _).0 s))

module _ (texts : List (List ℕ)) (n : ℕ) (distinct : IsDistinct bytes_eq texts) (l : n < length texts) (ne : 0 < length (text_of texts n)) where
  same_test : (v : Option ℕ) → has_text (text_of texts n) (option_map (text_of texts) v) ≡ has_number n v
  same_test None = refl
  same_test (Some m) = same_text texts n m distinct l ne

  any_is : (vs : List (Option ℕ)) → list_any (has_text (text_of texts n)) (variables_of texts vs) ≡ list_any (has_number n) vs
  any_is [] = refl
  any_is (v ∷ vs) = let a = same_test v in let b = any_is vs in cc

  pub number_is : (vs : List (Option ℕ)) → numbered vs n ≡ variable_in (variables_of texts vs) (text_of texts n)
  number_is vs = ap (λ o. unwrap_or o 0) (sym (position_map (option_map (text_of texts)) (has_text (text_of texts n)) (has_number n) same_test vs))

  pub added_is : (vs : List (Option ℕ)) → variables_of texts (with_number vs n) ≡ with_variable (variables_of texts vs) (text_of texts n)
  added_is vs = by (list_any (has_number n) vs) ∙ ap (λ b. if b then variables_of texts vs else variables_of texts vs ++ Some (text_of texts n) ∷ [])
      (sym (any_is vs))
    where
      by : (b : Bool) → variables_of texts (if b then vs else vs ++ Some n ∷ [])
          ≡ (if b then variables_of texts vs else variables_of texts vs ++ Some (text_of texts n) ∷ [])
      by true = refl
      by false = map-append (option_map (text_of texts)) vs (Some n ∷ [])

-- a place that a name means is one of the scope
pub bound_inside : (scope : Scope) (w : List ℕ) (k : ℕ) → Bound k ≡ meaning scope w → k < length scope
bound_inside scope w k e =
    let h = subst (Means scope) (sym e) (means scope w) in omega (arith, ltb-true k (length (places scope)) h, length-map scope (λ b. b.local))

pub local_inside : (scope : Scope) (w : List ℕ) (k : ℕ) → Local k ≡ meaning scope w → k < length scope
local_inside scope w k e =
    let h = subst (Means scope) (sym e) (means scope w) in omega (arith, ltb-true k (length (places scope)) h.0, length-map scope (λ b. b.local))

-- a constant keeps its number
pub constant_number : (old new : List (List ℕ)) (text w : List ℕ) (k : ℕ) → new ≡ with_name old text → w ≡ text → number_of new text ≡ Some k
    → k ≡ number_in (with_name old w) w
constant_number old new text w k added same number =
    sym (ap (λ v. number_in (with_name old v) v) same ∙ (ap (λ ns. number_in ns text) (sym added) ∙ ap (λ o. unwrap_or o 0) number))

pub put_constant : (q : Option ℕ) (d k j : ℕ) → k ≡ j → Con (Name k) ≡ put_term q d (Con (Name j))
put_constant None d k j e = ap (λ n. Con (Name n)) e
put_constant (Some n) d k j e = ap (λ n. Con (Name n)) e
