-- Parts of an inference on an atom.
use Rattle.std.proofs.Common.{◌≡◌, ℕ, zero, suc, ◌+◌, Bool, List, [], ◌∷◌, ◌++◌, map, refl, ap, sym, subst, ◌∙◌, Option, Some, true, false, arith, drop, All}
use Rattle.std.proofs.Common.{slice_index_or}
use Rattle.std.specs.Prelude.{◌||◌, not, if◌then◌else◌, nat_eq, slice_get, replicate}
use Rattle.std.specs.List.{list_any}
use Rattle.std.proofs.lemmas.Bool.{eq-eqb}
use Rattle.std.proofs.lemmas.List.Elements.{All-cons}
use Rattle.std.proofs.lemmas.Option.{slice_get_within, slice_get-get_or}
use Rattle.ll_list_laws.proofs.CallerLemmas.{false_from_not, and_true_left as and_left, and_true_right as and_right}
use Rattle.ll_bank.specs.declared.At.{At}
use Rattle.ll_bank.specs.declared.FormAt.{FormAt}
use Rattle.ll_bank.specs.Form.{Form}
use Rattle.ll_bank.specs.Nodes.{Nodes}
use Rattle.ll_laws.specs.Settle.{Entry}
use Rattle.ll_laws.specs.Attempt.{entry_at}
use Rattle.ll_laws.specs.Consistent.{labels_differ}
use Rattle.ll_freeze.specs.Parts.{Parts}
use Rattle.ll_freeze.specs.Fits.{Fits}
use Rattle.ll_freeze.specs.Shown.{shown_entry, state_of}
use Rattle.ll_resources.specs.Places.{label_place}
use Rattle.ll_engine.specs.Placed.{AreAtTheirLabels}

-- the first entry with another label is passed
pub passed : (es : List (Entry FormAt)) (i j : ℕ) (e : Entry FormAt) (label : ℕ) → j ≡ i + 1 → slice_get es i ≡ Some e → nat_eq e.label label ≡ false
    → entry_at (drop j es) label ≡ entry_at (drop i es) label
passed [] i j e label q h n = cc
passed (d ∷ es) zero zero e label q h n = absurd (omega arith)
passed (d ∷ es) zero (suc j) e label q h n =
    let same : d ≡ e = cc in
    let z : j ≡ 0 = omega arith in
    ap (λ k. entry_at (drop k es) label) z ∙ sym (ap (λ b. if b then Some d else entry_at es label) (ap (λ (x : Entry FormAt). nat_eq x.label label) same ∙ n))
passed (d ∷ es) (suc i) zero e label q h n = absurd (omega arith)
passed (d ∷ es) (suc i) (suc j) e label q h n = passed es i j e label (omega arith) h n

-- and that with the label is the one
pub met : (es : List (Entry FormAt)) (i : ℕ) (e : Entry FormAt) (label : ℕ) → slice_get es i ≡ Some e → nat_eq e.label label ≡ true
    → entry_at (drop i es) label ≡ Some e
met [] i e label h n = cc
met (d ∷ es) zero e label h n =
    let same : d ≡ e = cc in ap (λ b. if b then Some d else entry_at es label) (ap (λ (x : Entry FormAt). nat_eq x.label label) same ∙ n) ∙ ap Some same
met (d ∷ es) (suc i) e label h n = met es i e label h n

pub replicate_push : {A : Type 0} (x : A) (n m : ℕ) → m ≡ n + 1 → replicate m x ≡ replicate n x ++ x ∷ []
replicate_push x zero zero e = absurd (omega arith)
replicate_push x zero (suc m) e = let z : m ≡ 0 = omega arith in ap (λ k. x ∷ replicate k x) z
replicate_push x (suc n) zero e = absurd (omega arith)
replicate_push x (suc n) (suc m) e = ap (λ xs. x ∷ xs) (replicate_push x n m (omega arith))

-- ---- the entry with a label, by its place

-- what is at the place of a label is the entry with that label
pub entry_there : (es : List (Entry FormAt)) (label i : ℕ) (e : Entry FormAt) → i ≡ label_place label es → slice_get es i ≡ Some e → entry_at es label ≡ Some e
entry_there [] label i e q h = cc
entry_there (d ∷ es) label i e q h = go (nat_eq d.label label) i (λ j w g. entry_there es label j e w g) q h
  where
    go : (b : Bool) (j : ℕ) → ((k : ℕ) → k ≡ label_place label es → slice_get es k ≡ Some e → entry_at es label ≡ Some e)
        → j ≡ (if b then 0 else suc (label_place label es)) → slice_get (d ∷ es) j ≡ Some e → (if b then Some d else entry_at es label) ≡ Some e
    go true zero next q h = let same : d ≡ e = cc in ap Some same
    go true (suc j) next q h = absurd (omega arith)
    go false zero next q h = absurd (omega arith)
    go false (suc j) next q h = next j (omega arith) h

-- an entry with the label is at its place
pub place_there : (es : List (Entry FormAt)) (label i : ℕ) (e : Entry FormAt) → AreAtTheirLabels es → slice_get es i ≡ Some e → e.label ≡ label
    → i ≡ label_place label es
place_there es label i e own h q = sym (ap (λ l. label_place l es) (sym q) ∙ own i e h)

module _ (bank : Nodes) (bound : List (Option At)) where
  abbrev shown : List (Entry FormAt) → List (Entry Form)
  shown es = map (shown_entry bank bound) es

  others_differ : (label : ℕ) (es : List (Entry FormAt)) → list_any (λ d. nat_eq label d.label) (shown es) ≡ false
      → All (λ (d : Entry FormAt). nat_eq label d.label ≡ false) es
  others_differ label [] h = λ i d l. absurd (omega arith)
  others_differ label (d ∷ es) h =
      All-cons (λ (x : Entry FormAt). nat_eq label x.label ≡ false) d es (left (nat_eq label d.label) h)
      (others_differ label es (right (nat_eq label d.label) h))
    where
      left : (b : Bool) → b || list_any (λ x. nat_eq label x.label) (shown es) ≡ false → b ≡ false
      left true h = cc
      left false h = refl

      right : (b : Bool) → b || list_any (λ x. nat_eq label x.label) (shown es) ≡ false → list_any (λ x. nat_eq label x.label) (shown es) ≡ false
      right true h = cc
      right false h = h

  at_labels : (es : List (Entry FormAt)) → labels_differ (shown es) ≡ true → AreAtTheirLabels es
  at_labels [] h i e g = cc
  at_labels (d ∷ es) h zero e g =
      let same : d ≡ e = cc in ap (λ b. if b then 0 else suc (label_place e.label es)) (eq-eqb d.label e.label (ap (λ (x : Entry FormAt). x.label) same))
  at_labels (d ∷ es) h (suc i) e g =
      let any = list_any (λ x. nat_eq d.label x.label) (shown es) in
      let others = others_differ d.label es (false_from_not any (and_left (not any) (labels_differ (shown es)) h)) in
      let inside = slice_get_within es i e g in
      let read : Some (slice_index_or es i e) ≡ Some e = sym (slice_get-get_or es i e inside) ∙ g in
      let same : slice_index_or es i e ≡ e = cc in
      ap (λ b. if b then 0 else suc (label_place e.label es)) (subst (λ (x : Entry FormAt). nat_eq d.label x.label ≡ false) same (others i e inside))
      ∙ ap (λ n. suc n) (at_labels es (and_right (not any) (labels_differ (shown es)) h) i e g)

-- each of a machine's entries is at the first place with its label
pub at_their_labels : (m : Parts) → Fits m → AreAtTheirLabels m.resources.entries
unfolding state_of
at_their_labels m f = at_labels m.bank m.bound m.resources.entries f.consistent.labels_differ
