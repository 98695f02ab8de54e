-- Images that are known: one more, and a bank that grows.
use Rattle.std.proofs.Common.{◌≡◌, ℕ, Bool, true, false, cond, eqb, refl, ap, sym, subst, ◌∙◌, inl, inr, Option, Some, None}
use Rattle.std.specs.Prelude.{◌⊎◌, Result, Ok, Err, OnOk}
use Rattle.std.proofs.lemmas.Bool.{eqb-true, and_parts}
use Rattle.ll_bank.specs.Term.{Env, close}
use Rattle.ll_bank.specs.Form.{close_form}
use Rattle.ll_bank.specs.Nodes.{Nodes, ShowsTerm, ShowsForm, Extends}
use Rattle.ll_bank.specs.Opened.{Spot, AreImages}
use Rattle.ll_bank.proofs.Trees.{HasTerm-extends, HasForm-extends, term_tree-extends, form_tree-extends, ShowsTerm-extends, ShowsForm-extends}
use Rattle.ll_bank.specs.Closing.{under, same_spot, AddsImage, IsTermImage, IsFormImage}

pub adds_put : (old new : Spot → Option ℕ) (k : Spot) (image : ℕ) → ((q : Spot) → new q ≡ cond (same_spot k q) (Some image) (old q)) → AddsImage old new k image
adds_put old new k image h q other e = step (same_spot k q) refl
  where
    step : (b : Bool) → same_spot k q ≡ b → (old q ≡ Some other) ⊎ ((k ≡ q) × (image ≡ other))
    step true s =
        let p = and_parts (eqb k.0 q.0) (eqb k.1 q.1) s in
        let f : Some image ≡ Some other = sym (h q ∙ ap (λ c. cond c (Some image) (old q)) s) ∙ e in
        inr ((λ i. (eqb-true k.0 q.0 p.0 i, eqb-true k.1 q.1 p.1 i)), cc)
    step false s = inl (sym (h q ∙ ap (λ c. cond c (Some image) (old q)) s) ∙ e)

pub images_add : (is_image : Spot → ℕ → Type 0) (old new : Spot → Option ℕ) (k : Spot) (image : ℕ) → AreImages is_image old → is_image k image
    → AddsImage old new k image → AreImages is_image new
images_add is_image old new k image h here a = λ q other e. elim (a q other e) [
  | inl f ↦ h q other f
  | inr f ↦ subst (λ z. is_image z other) f.0 (subst (is_image k) f.1 here)
]

pub images_none : (is_image : Spot → ℕ → Type 0) (lookup : Spot → Option ℕ) → ((q : Spot) → lookup q ≡ None) → AreImages is_image lookup
images_none is_image lookup h = λ q other e. let p : None ≡ Some other = sym (h q) ∙ e in absurd (let z : ⊥ = cc in z)

module _ (old new : Nodes) (e : Extends old new) (env : Env) where
  pub term_image_extends : (k : Spot) (image : ℕ) → IsTermImage old env k image → IsTermImage new env k image
  term_image_extends k image h = (
    HasTerm-extends e k.0 h.0,
    subst (λ u. ShowsTerm new image (close (under env k.1) u)) (sym (term_tree-extends e k.0 h.0)) (ShowsTerm-extends e h.1),
  )

  pub form_image_extends : (k : Spot) (image : ℕ) → IsFormImage old env k image → IsFormImage new env k image
  form_image_extends k image h = (
    HasForm-extends e k.0 h.0,
    subst (λ u. ShowsForm new image (close_form (under env k.1) u)) (sym (form_tree-extends e k.0 h.0)) (ShowsForm-extends e h.1),
  )

  pub term_images_extend : (lookup : Spot → Option ℕ) → AreImages (IsTermImage old env) lookup → AreImages (IsTermImage new env) lookup
  term_images_extend lookup h = λ k image s. term_image_extends k image (h k image s)

  pub form_images_extend : (lookup : Spot → Option ℕ) → AreImages (IsFormImage old env) lookup → AreImages (IsFormImage new env) lookup
  form_images_extend lookup h = λ k image s. form_image_extends k image (h k image s)

-- what holds in any case holds of a result
pub on_ok : {A E P : Type 0} (r : Result A E) → P → OnOk r P
on_ok (Ok x) p = p
on_ok (Err e) p = tt
