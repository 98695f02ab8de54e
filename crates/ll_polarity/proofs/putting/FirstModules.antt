-- The first modules of each name, where one more module is put behind the others.
use Rattle.std.proofs.Common.{◌≡◌, ℕ, Bool, true, false, true≢false, List, [], ◌∷◌, ◌++◌, Option, Some, None, refl, sym, ap, ◌∙◌, if◌then◌else◌}
use Rattle.std.specs.Prelude.{find, is_some}
use Rattle.std.specs.Option.{option_map}
use Rattle.std.specs.Map.{update}
use Rattle.std.specs.Str.{bytes_eq}
use Rattle.std.proofs.lemmas.Bool.{false_from_ne_true}
use Rattle.std.proofs.lemmas.Slice.Eq.{bytes_eq-Decides}
use Rattle.ll_polarity.specs.Faults.{Heading, is_named}

-- the first of two that is there
abbrev first_of : Option ℕ → Option ℕ → Option ℕ
first_of None o = o
first_of (Some n) o = Some n

first_of-None : (o : Option ℕ) → first_of o None ≡ o
first_of-None None = refl
first_of-None (Some n) = refl

is_none : (o : Option ℕ) → is_some o ≡ false → o ≡ None
is_none None h = refl
is_none (Some n) h = absurd (true≢false h)

stays_first : (o p : Option ℕ) → is_some o ≡ true → o ≡ first_of o p
stays_first None p h = absurd (true≢false (sym h))
stays_first (Some n) p h = refl

-- what is found by a name
abbrev pub params_by : List Heading → List ℕ → Option ℕ
params_by ms w = option_map (λ (m : Heading). m.params) (find (is_named w) ms)

-- one more module is found where none of its name stands before it
params_by-push : (ms : List Heading) (h : Heading) (w : List ℕ)
    → params_by (ms ++ h ∷ []) w ≡ first_of (params_by ms w) (if bytes_eq w h.name then Some h.params else None)
params_by-push [] h w = by (bytes_eq w h.name)
  where
    by : (b : Bool) → option_map (λ (m : Heading). m.params) (if b then Some h else None) ≡ (if b then Some h.params else None)
    by true = refl
    by false = refl
params_by-push (m ∷ ms) h w = by (bytes_eq w m.name) (params_by-push ms h w)
  where
    by : (b : Bool) → params_by (ms ++ h ∷ []) w ≡ first_of (params_by ms w) (if bytes_eq w h.name then Some h.params else None)
        → option_map (λ (m : Heading). m.params) (if b then Some m else find (is_named w) (ms ++ h ∷ []))
        ≡ first_of (option_map (λ (m : Heading). m.params) (if b then Some m else find (is_named w) ms)) (if bytes_eq w h.name then Some h.params else None)
    by true e = refl
    by false e = e

module _ (f : List ℕ → Option ℕ) (ms : List Heading) (h : Heading) (known : (w : List ℕ) → f w ≡ params_by ms w) where
  -- a name that was not there is put in
  pub put_in : (g : List ℕ → Option ℕ) → is_some (f h.name) ≡ false → ((w : List ℕ) → g w ≡ update bytes_eq f h.name (Some h.params) w) → (w : List ℕ)
      → g w ≡ params_by (ms ++ h ∷ []) w
  put_in g absent updates w = updates w ∙ (by (bytes_eq h.name w) refl ∙ sym (params_by-push ms h w))
    where
      by : (b : Bool) → bytes_eq h.name w ≡ b → (if b then Some h.params else f w)
          ≡ first_of (params_by ms w) (if bytes_eq w h.name then Some h.params else None)
      by true e =
          let same : h.name ≡ w = (bytes_eq-Decides h.name w).0 e in
          let none : params_by ms w ≡ None = is_none (params_by ms w) (sym (ap is_some (known w)) ∙ (ap (λ v. is_some (f v)) (sym same) ∙ absent)) in
          sym (ap (λ o. first_of o (if bytes_eq w h.name then Some h.params else None)) none
          ∙ ap (λ b. if b then Some h.params else None) ((bytes_eq-Decides w h.name).1 (sym same)))
      by false e =
          let apart : bytes_eq w h.name ≡ false = false_from_ne_true (bytes_eq w h.name)
          (λ t. true≢false (sym ((bytes_eq-Decides h.name w).1 (sym ((bytes_eq-Decides w h.name).0 t))) ∙ e)) in
          known w ∙ (sym (first_of-None (params_by ms w)) ∙ ap (λ b. first_of (params_by ms w) (if b then Some h.params else None)) (sym apart))

  -- a name that was there stays with its first module
  pub stays : is_some (f h.name) ≡ true → (w : List ℕ) → f w ≡ params_by (ms ++ h ∷ []) w
  stays present w = by (bytes_eq w h.name) refl ∙ sym (params_by-push ms h w)
    where
      by : (b : Bool) → bytes_eq w h.name ≡ b → f w ≡ first_of (params_by ms w) (if b then Some h.params else None)
      by true e =
          let same : w ≡ h.name = (bytes_eq-Decides w h.name).0 e in
          known w ∙ stays_first (params_by ms w) (Some h.params) (sym (ap is_some (known w)) ∙ (ap (λ v. is_some (f v)) same ∙ present))
      by false e = known w ∙ sym (first_of-None (params_by ms w))
