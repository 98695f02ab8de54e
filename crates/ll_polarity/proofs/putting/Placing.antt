-- The places of the first modules of each name, where one more module is put behind the others.
use Rattle.std.proofs.Common.{◌≡◌, ℕ, Bool, true, false, true≢false, List, [], ◌∷◌, ◌++◌, length, Option, Some, refl, sym, subst, ap, ◌∙◌, if◌then◌else◌}
use Rattle.std.proofs.Common.{position, ◌||◌, map, get_or, take, ◌+◌, ◌<◌}
use Rattle.std.specs.Prelude.{is_some}
use Rattle.std.specs.List.{list_any}
use Rattle.std.specs.Map.{update}
use Rattle.std.specs.Str.{bytes_eq}
use Rattle.std.proofs.lemmas.Bool.{false_from_ne_true}
use Rattle.std.proofs.lemmas.List.{take_more, map-append}
use Rattle.std.proofs.lemmas.List.Folds.{list_any-append}
use Rattle.std.proofs.lemmas.Slice.Eq.{bytes_eq-Decides}
use Rattle.ll_bank.specs.Names.{number_of}
use Rattle.ll_polarity.proofs.reading.Grows.{place_is}
use Rattle.ll_polarity.proofs.naming.Numbering.{finds_none, finds_last, keeps_place}

-- some element passes exactly where there is a first one
is_found : {X : Type 0} (p : X → Bool) (xs : List X) → is_some (position p xs) ≡ list_any p xs
is_found p xs = by (list_any p xs) refl
  where
    by : (b : Bool) → list_any p xs ≡ b → is_some (position p xs) ≡ b
    by true h = ap is_some (place_is p xs h)
    by false h = ap is_some (finds_none p xs h)

same_both : (v w : List ℕ) (b : Bool) → bytes_eq v w ≡ b → bytes_eq w v ≡ b
same_both v w true e = (bytes_eq-Decides w v).1 (sym ((bytes_eq-Decides v w).0 e))
same_both v w false e = false_from_ne_true (bytes_eq w v) (λ t. true≢false (sym ((bytes_eq-Decides v w).1 (sym ((bytes_eq-Decides w v).0 t))) ∙ e))

module _ (f : List ℕ → Option ℕ) (ms : List (List ℕ)) (name : List ℕ) (place : ℕ) (at : length ms ≡ place) (known : (w : List ℕ) → f w ≡ number_of ms w) where
  -- a name that was not there is put in
  pub put_in : (g : List ℕ → Option ℕ) → is_some (f name) ≡ false → ((w : List ℕ) → g w ≡ update bytes_eq f name (Some place) w) → (w : List ℕ)
      → g w ≡ number_of (ms ++ name ∷ []) w
  put_in g absent updates w = updates w ∙ by (bytes_eq name w) refl (list_any (bytes_eq w) ms) refl
    where
      none : list_any (bytes_eq name) ms ≡ false
      none = sym (is_found (bytes_eq name) ms) ∙ (ap is_some (sym (known name)) ∙ absent)

      by : (b : Bool) → bytes_eq name w ≡ b → (a : Bool) → list_any (bytes_eq w) ms ≡ a
          → (if b then (let o : Option ℕ = Some place in o) else f w) ≡ number_of (ms ++ name ∷ []) w
      by true e a h =
          let same : name ≡ w = (bytes_eq-Decides name w).0 e in
          ap (λ k. let o : Option ℕ = Some k in o) (sym at) ∙ sym
          (finds_last (bytes_eq w) ms name (subst (λ v. list_any (bytes_eq v) ms ≡ false) same none) (same_both name w true e))
      by false e true h = known w ∙ sym (keeps_place (bytes_eq w) ms name h)
      by false e false h =
          known w ∙ (finds_none (bytes_eq w) ms h
          ∙ sym (finds_none (bytes_eq w) (ms ++ name ∷ []) (list_any-append (bytes_eq w) ms (name ∷ [])
          ∙ (ap (λ b. b || (bytes_eq w name || false)) h ∙ ap (λ b. b || false) (same_both name w false e)))))

  -- a name that was there stays with its first module
  pub stays : is_some (f name) ≡ true → (w : List ℕ) → f w ≡ number_of (ms ++ name ∷ []) w
  stays present w = known w ∙ by (bytes_eq w name) refl (list_any (bytes_eq w) ms) refl
    where
      some : list_any (bytes_eq name) ms ≡ true
      some = sym (is_found (bytes_eq name) ms) ∙ (ap is_some (sym (known name)) ∙ present)

      by : (b : Bool) → bytes_eq w name ≡ b → (a : Bool) → list_any (bytes_eq w) ms ≡ a → number_of ms w ≡ number_of (ms ++ name ∷ []) w
      by b e true h = sym (keeps_place (bytes_eq w) ms name h)
      by true e false h =
          let same : name ≡ w = sym ((bytes_eq-Decides w name).0 e) in
          absurd (true≢false (sym (subst (λ v. list_any (bytes_eq v) ms ≡ true) same some) ∙ h))
      by false e false h =
          finds_none (bytes_eq w) ms h
          ∙ sym (finds_none (bytes_eq w) (ms ++ name ∷ []) (list_any-append (bytes_eq w) ms (name ∷ [])
          ∙ (ap (λ b. b || (bytes_eq w name || false)) h ∙ ap (λ b. b || false) e)))

-- one more place of a list of modules
pub places_more : {X : Type 0} (P : List (List ℕ) → Type 0) (f : X → List ℕ) (xs : List X) (i : ℕ) (x : X) (t : List ℕ) → i < length xs → x ≡ get_or xs i x
    → f x ≡ t → P (map f (take i xs) ++ t ∷ []) → P (map f (take (i + 1) xs))
places_more P f xs i x t l is same h =
    subst P
    (sym (ap (map f) (take_more xs i x l) ∙ (map-append f (take i xs) (get_or xs i x ∷ []) ∙ ap (λ y. map f (take i xs) ++ y ∷ []) (ap f (sym is) ∙ same))))
    h
