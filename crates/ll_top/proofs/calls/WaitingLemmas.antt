-- An outlet whose lines wait, before and after a run.
use Rattle.std.proofs.Common.{◌≡◌, ◌↔◌, ℕ, zero, suc, refl, subst, ap, sym, ◌∙◌, List, [], ◌∷◌, length, arith, inl, inr, length-append}
use Rattle.std.specs.Prelude.{Option}
use Rattle.std.specs.Io.KnownBytes.{append_known}
use Rattle.ll_edge.specs.Pieces.{AppendsFront}
use Rattle.ll_edge.proofs.CallerLemmas.{append_known-nil}
use Rattle.ll_laws.specs.declared.Event.{Event}
use Rattle.ll_first.specs.Upto.{first_of}
use Rattle.ll_order.specs.Outlets.{Gives, GivesPrefix}
use Rattle.ll_laws.specs.Problem.{ProblemTree}
use Rattle.ll_laws.specs.Sound.{Every}
use Rattle.ll_top.specs.lines.Running.{IsWelcome}

-- what holds of each of a list, beside what holds anyway
pub each_with : (N : Type 0) (A : Event → Type 0) (es : List Event) → N → Every A es → Every (λ e. A e × N) es
each_with N A [] n w = tt
each_with N A (e ∷ es) n w = ((w.0, n), each_with N A es n w.1)

-- what a sink tells, before and after, where no lines wait
pub shown_all : (before after : Option (List ℕ)) (first last lines : List ℕ) → first ≡ [] → last ≡ []
    → append_known after last ≡ append_known (append_known before first) lines → after ≡ append_known before lines
shown_all before after first last lines f l h =
    sym (append_known-nil after)
    ∙ (sym (ap (append_known after) l) ∙ (h ∙ ap (λ o. append_known o lines) (ap (append_known before) f ∙ append_known-nil before)))

pub shown_front : (before after : Option (List ℕ)) (first last lines : List ℕ) → first ≡ [] → last ≡ []
    → AppendsFront (append_known before first) lines (append_known after last) → AppendsFront before lines after
shown_front before after first last lines f l h =
    subst (λ o. AppendsFront o lines after) (ap (append_known before) f ∙ append_known-nil before)
    (subst (λ o. AppendsFront (append_known before first) lines o) (ap (append_known after) l ∙ append_known-nil after) h)

-- of no events there are no first ones
pub first-none : (k : ℕ) → first_of [] k ≡ []
first-none zero = refl
first-none (suc k) = refl

module _ {W : Type 0} (problem : W → ProblemTree) (waiting : W → List ℕ) (ready : W → Type 0) (none : (w : W) → ready w → waiting w ≡ []) where
  -- No lines wait in an outlet to which what is welcome was given, where what is welcome did not change.
  pub none_taken : (takes : W → Event → W → Type 0) (x y : W) (all es : List Event)
      → ready x → Every (IsWelcome (problem x)) all → (all ≡ [] → es ≡ [])
      → ((e : Event) → (IsWelcome (problem x) e × ready x) ↔ (IsWelcome (problem y) e × ready y)) → Gives takes x es y → waiting y ≡ []
  none_taken takes x y (e ∷ all) es h w n k g = none y ((k e).0 (w.0, h)).1
  none_taken takes x y [] es h w n k g = ap waiting (subst (λ l. Gives takes x l y) (n refl) g) ∙ none x h

  -- Nor where only a front of it was.
  pub none_given : (takes breaks : W → Event → W → Type 0) (x y : W) (all es : List Event)
      → ready x → Every (IsWelcome (problem x)) all → (all ≡ [] → es ≡ [])
      → ((e : Event) → (IsWelcome (problem x) e × ready x) ↔ (IsWelcome (problem y) e × ready y)) → GivesPrefix takes breaks x es y → waiting y ≡ []
  none_given takes breaks x y (e ∷ all) es h w n k g = none y ((k e).0 (w.0, h)).1
  none_given takes breaks x y [] es h w n k (inl ([], back, o, g)) = ap waiting g ∙ none x h
  none_given takes breaks x y [] es h w n k (inl (e ∷ front, back, o, g)) = absurd (let l = ap length (sym (n refl) ∙ o) in omega arith)
  none_given takes breaks x y [] es h w n k (inr r) =
      absurd (let l = ap length (sym (n refl) ∙ r.order) in omega (arith, length-append r.front (r.refused ∷ r.back)))
