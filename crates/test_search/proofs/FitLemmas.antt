-- What a context has kept fits its later states, and the front entry can be picked.
use Rattle.std.proofs.Common.{◌≡◌, ℕ, suc, ◌<◌, Bool, true, false, ◌||◌, not, nat_eq, List, [], ◌∷◌, length, Some, refl, ap, sym, subst, ◌∙◌, arith}
use Rattle.std.proofs.Common.{length-append, eq-eqb, if◌then◌else◌}
use Rattle.std.proofs.lemmas.List.{get_or_append_left, get_or_push, length-map}
use Rattle.std.specs.Prelude.{slice_get, option_map}
use Rattle.ll_laws.specs.Settle.{Entry, unlive}
use Rattle.ll_laws.specs.Attempt.{is_linear, is_open, entry_at, picked}
use Rattle.ll_resources.specs.declared.context.Saved.{Saved as Handle}
use Rattle.ll_resources.specs.Resources.{Resources, saved_as, saved_at, saved_now, CanPick, SavedFits, after_save, after_with_mid}
use Rattle.ll_resources.proofs.CallerLemmas.{length-remark}

-- either way it is so
or-true : (b : Bool) → b || true ≡ true
or-true true = refl
or-true false = refl

module _ {C : Type 0} where
  -- entries stay in number where one is picked
  pub length-picked : (label : ℕ) (es : List (Entry C)) → length (picked label es) ≡ length es
  length-picked label [] = refl
  length-picked label (e ∷ es) = step (nat_eq e.label label) (length-picked label es)
    where
      step : (b : Bool) → length (picked label es) ≡ length es → length (if b then unlive e ∷ es else e ∷ picked label es) ≡ suc (length es)
      step true h = refl
      step false h = ap suc h

  -- the front entry is the first with its label
  open_front : (es : List (Entry C)) (e : Entry C) → slice_get es 0 ≡ Some e → e.live ≡ true → option_map is_open (entry_at es e.label) ≡ Some true
  open_front [] e h l = absurd (let no : ⊥ = cc in no)
  open_front (x ∷ es) e h l =
      let same : x ≡ e = cc in
      ap (λ b. option_map is_open (if b then Some x else entry_at es e.label)) (eq-eqb x.label e.label (ap (λ y. y.label) same))
      ∙ (ap (λ b. Some (not (is_linear x.kind) || b)) (ap (λ y. y.live) same ∙ l) ∙ ap Some (or-true (not (is_linear x.kind))))

  -- a live entry in front can be picked
  pub can-pick_front : (r : Resources C) (e : Entry C) → slice_get r.entries 0 ≡ Some e → e.live ≡ true → CanPick e.label r
  can-pick_front r e h l = open_front r.entries e h l

  -- what fits a context fits each that has kept the same and has as many entries
  pub fits-alike : (r s : Resources C) (n : Handle) → s.kept ≡ r.kept → length s.entries ≡ length r.entries → SavedFits n r → SavedFits n s
  fits-alike r s n k l h = (subst (λ ss. n.number < length ss) (sym k) h.0, ap (λ ss. length (saved_at ss n).live) k ∙ (h.1 ∙ sym l))

  -- what is kept fits the context that keeps it
  pub fits-save : (r : Resources C) → SavedFits (saved_as (length r.kept)) (after_save r)
  fits-save r =
      let e = length-append r.kept (saved_now r ∷ []) in
      (omega (arith, e), ap (λ s. length s.live) (get_or_push r.kept (saved_now r) _ (length r.kept) refl) ∙ length-map r.entries (λ e. e.live))

  -- and the context after the middle of `&`
  pub fits-half : (r : Resources C) (n : Handle) → SavedFits (saved_as (length r.kept)) (after_with_mid n r)
  fits-half r n = let h = fits-save r in (h.0, h.1 ∙ sym (length-remark r.entries (saved_at r.kept n).live))

  -- as does what was kept before the `&`
  pub fits-middle : (r : Resources C) (n : Handle) → SavedFits n r → SavedFits n (after_with_mid n r)
  fits-middle r n h =
      let e = length-append r.kept (saved_now r ∷ []) in (
        omega (arith, e, h.0),
        ap (λ s. length s.live) (get_or_append_left r.kept (saved_now r ∷ []) _ n.number h.0) ∙ (h.1 ∙ sym (length-remark r.entries (saved_at r.kept n).live)),
      )
