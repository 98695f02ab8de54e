-- The numbers that the words of a run may ask for.
use Rattle.std.proofs.Common.{◌≡◌, ℕ, ◌<◌, ◌≤◌, ◌⊎◌, Bool, true, false, List, [], ◌∷◌, Some, refl, ap, sym, subst, ◌∙◌, inl, inr, if◌then◌else◌, arith}
use Rattle.std.specs.Prelude.{codes}
use Rattle.std.specs.Str.Parse.{digits_value}
use Rattle.ll_top.specs.forms.Words.{Part, ThisWord, AnyName, NumberFrom, is_word, is_name_word}
use Rattle.ll_top.specs.forms.Words.{is_number_word, is_part, OptionForm, TakesOption, here, behind, FitsParts}
use Rattle.ll_top.specs.forms.Words.{part, option, done}
use Rattle.ll_top.specs.forms.Words.{greatest_bound, greatest_workers, greatest_first, number_behind, run_form, RunWords, IsRun}
use Rattle.ll_top.proofs.wording.Forms.{part-first}
use Rattle.ll_top.proofs.wording.WordValues.{other-word, part-number}

-- An option's word, which is no name, no number and no form's first word, and the limits of the number behind it.
module _ (sought : List ℕ) (no_number : is_number_word sought ≡ false) (no_name : is_name_word sought ≡ false)
    (no_run : is_word sought (codes "run") ≡ false) (least greatest : ℕ) where
  -- ---- words that are not the option's

  -- no word that fits the part is the option's
  abbrev Passes : Part → Type 0
  Passes p = (w : List ℕ) → is_part p w ≡ true → is_word w sought ≡ false

  abbrev ArePassed : List Part → Type 0
  ArePassed [] = Unit {0}
  ArePassed (p ∷ ps) = Passes p × ArePassed ps

  number-passes : (low high : ℕ) → Passes (NumberFrom low high)
  number-passes low high w h = other-word is_number_word sought w no_number (part-number low high w h).number

  name-passes : Passes AnyName
  name-passes w h = other-word is_name_word sought w no_name h

  run-passes : Passes (ThisWord (codes "run"))
  run-passes w h = other-word (λ u. is_word u (codes "run")) sought w no_run h

  -- ---- options

  -- the values of an option are not the option's word; and where its word is, its value is within the limits
  abbrev IsSound : OptionForm → Type 0
  IsSound o = ArePassed o.values × ((o.values ≡ NumberFrom least greatest ∷ []) ⊎ (is_word o.word sought ≡ false))

  abbrev AreSound : List OptionForm → Type 0
  AreSound [] = Unit {0}
  AreSound (o ∷ os) = IsSound o × AreSound os

  sound-taken : (o : OptionForm) (os others : List OptionForm) → TakesOption o os others → AreSound os → IsSound o × AreSound others
  sound-taken o _ _ (here e) s = (subst IsSound e s.0, s.1)
  sound-taken o _ _ (behind {os = os} {others = others} t) s = let r = sound-taken o os others t s.1 in (r.0, (s.0, r.1))

  -- ---- the number behind the option's word

  abbrev IsWithin : ℕ → Type 0
  IsWithin v = (least ≤ v) × (v ≤ greatest)

  skipped : (w : List ℕ) (ws : List (List ℕ)) → is_word w sought ≡ false → number_behind sought (w ∷ ws) ≡ number_behind sought ws
  skipped w [] h = refl
  skipped w (x ∷ ws) h = ap (λ b. if b then Some (digits_value 10 x) else number_behind sought (x ∷ ws)) h

  value-bounded : (others : List OptionForm) (w : List ℕ) (ws : List (List ℕ)) (v : ℕ) → FitsParts (NumberFrom least greatest ∷ []) others ws
      → (number_behind sought ws ≡ Some v → IsWithin v) → number_behind sought (w ∷ ws) ≡ Some v → IsWithin v
  value-bounded others w [] v f go e = cc
  value-bounded others w (x ∷ ws) v f go e = step (is_word w sought) e
    where
      step : (b : Bool) → (if b then Some (digits_value 10 x) else number_behind sought (x ∷ ws)) ≡ Some v → IsWithin v
      step true q =
          let n : digits_value 10 x ≡ v = cc in let k = part-number least greatest x (part-first f).0 in subst IsWithin n (k.least_is, k.greatest_is)
      step false q = go q

  option-bounded : (o : OptionForm) (others : List OptionForm) (w : List ℕ) (ws : List (List ℕ)) (v : ℕ) → w ≡ o.word → FitsParts o.values others ws
      → (o.values ≡ NumberFrom least greatest ∷ []) ⊎ (is_word o.word sought ≡ false)
      → (number_behind sought ws ≡ Some v → IsWithin v) → number_behind sought (w ∷ ws) ≡ Some v → IsWithin v
  option-bounded o others w ws v is f (inl q) go e = value-bounded others w ws v (subst (λ ps. FitsParts ps others ws) q f) go e
  option-bounded o others w ws v is f (inr n) go e = go (sym (skipped w ws (ap (λ u. is_word u sought) is ∙ n)) ∙ e)

  bounded : (ps : List Part) (os : List OptionForm) (ws : List (List ℕ)) (v : ℕ) → ArePassed ps → AreSound os → FitsParts ps os ws
      → number_behind sought ws ≡ Some v → IsWithin v
  bounded _ _ _ v p s (part {ps = ps} {os = os} {w = w} {ws = ws} h f) e =
      bounded ps os ws v p.1 s f (sym (skipped w ws (p.0 w h)) ∙ e)
  bounded _ _ _ v p s (option {o = o} {os = os} {others = others} {w = w} {ws = ws} t is f) e =
      let k = sound-taken o os others t s in
      option-bounded o others w ws v is f k.0.1 (bounded o.values others ws v k.0.0 k.1 f) e
  bounded _ _ _ v p s (done h) e = cc

-- a bound is at most 1,000,000
pub run-bounded : (words : List (List ℕ)) (run : RunWords) → IsRun words run → run.bound ≤ 1000000
run-bounded words run h =
    (bounded (codes "--bound") refl refl refl 0 greatest_bound run_form.parts run_form.options words run.bound (
      run-passes (codes "--bound") refl refl refl 0 greatest_bound,
      (name-passes (codes "--bound") refl refl refl 0 greatest_bound, (name-passes (codes "--bound") refl refl refl 0 greatest_bound, tt)),
    ) (
      ((number-passes (codes "--bound") refl refl refl 0 greatest_bound 0 greatest_bound, tt), inl refl),
      (
        ((number-passes (codes "--bound") refl refl refl 0 greatest_bound 1 greatest_workers, tt), inr refl),
        (
          (tt, inr refl),
          (((number-passes (codes "--bound") refl refl refl 0 greatest_bound 1 greatest_first, tt), inr refl), tt),
        ),
      ),
    ) h.form h.bound).1

-- where only the first answers are wanted, one is wanted at least
pub run-wants : (words : List (List ℕ)) (run : RunWords) (k : ℕ) → IsRun words run → number_behind (codes "--first") words ≡ Some k → 0 < k
run-wants words run k h first =
    let w = bounded (codes "--first") refl refl refl 1 greatest_first run_form.parts run_form.options words k (
      run-passes (codes "--first") refl refl refl 1 greatest_first,
      (name-passes (codes "--first") refl refl refl 1 greatest_first, (name-passes (codes "--first") refl refl refl 1 greatest_first, tt)),
    ) (
      ((number-passes (codes "--first") refl refl refl 1 greatest_first 0 greatest_bound, tt), inr refl),
      (
        ((number-passes (codes "--first") refl refl refl 1 greatest_first 1 greatest_workers, tt), inr refl),
        (
          (tt, inr refl),
          (((number-passes (codes "--first") refl refl refl 1 greatest_first 1 greatest_first, tt), inl refl), tt),
        ),
      ),
    ) h.form first in
    omega (arith, w.0)
