-- A walk over a term that finds out whether it is closed, step by step.
use Rattle.std.proofs.Common.{◌≡◌, ◌≢◌, ℕ, ◌<◌, Bool, true, false, eqb, ◌||◌, ◌&&◌, List, [], ◌∷◌, length, refl, ap, sym, subst, ◌∙◌, inl, inr, arith}
use Rattle.std.proofs.Common.{true≢false}
use Rattle.std.specs.List.{list_any, list_all}
use Rattle.std.proofs.lemmas.Bool.{or_left, or_right, or_cases, eqb-true, eq-eqb, cases_eq, and_parts}
use Rattle.ll_bank.specs.declared.At.{At}
use Rattle.ll_bank.specs.Term.{is_closed}
use Rattle.ll_bank.specs.Nodes.{Nodes, term_tree, term_trees, places}
use Rattle.ll_bank.proofs.CallerLemmas.{place_below}
use Rattle.ll_cover.specs.Closing.{ArePartsOf, IsClosedBy}

-- ---- places among others

pub each-closed : (bank : Nodes) (args : List At) (k : ℕ) → list_all is_closed (term_trees bank args) ≡ true → list_any (eqb k) (places args) ≡ true
    → is_closed (term_tree bank k) ≡ true
each-closed bank [] k h e = absurd (true≢false (sym e))
each-closed bank (a ∷ as') k h e =
    let p = and_parts (is_closed (term_tree bank a.0)) (list_all is_closed (term_trees bank as')) h in
    elim (or_cases (eqb k a.0) (list_any (eqb k) (places as')) e) [
      | inl q ↦ subst (λ n. is_closed (term_tree bank n) ≡ true) (sym (eqb-true k a.0 q)) p.0
      | inr q ↦ each-closed bank as' k p.1 q
    ]

pub closed-each : (bank : Nodes) (args : List At) → ((k : ℕ) → list_any (eqb k) (places args) ≡ true → is_closed (term_tree bank k) ≡ true)
    → list_all is_closed (term_trees bank args) ≡ true
closed-each bank [] h = refl
closed-each bank (a ∷ as') h =
    let p = h a.0 (or_left (eqb a.0 a.0) (list_any (eqb a.0) (places as')) (eq-eqb a.0 a.0 refl)) in
    let q = closed-each bank as' (λ k e. h k (or_right (eqb k a.0) (list_any (eqb k) (places as')) e)) in
    ap (λ b. b && list_all is_closed (term_trees bank as')) p ∙ q

-- ---- the walk

-- it begins with the term itself
pub closing-begins : (bank : Nodes) (at : ℕ) (waits : ℕ → Bool) → at < length bank.terms → ((k : ℕ) → waits k ≡ (false || eqb k at)) → IsClosedBy bank at waits
closing-begins bank at waits inside is = record {
  inside = λ k h. let e = eqb-true k at (sym (is k) ∙ h) in omega arith;
  enough = λ all. all at (is at ∙ eq-eqb at at refl);
  needed = λ c k h. subst (λ n. is_closed (term_tree bank n) ≡ true) (sym (eqb-true k at (sym (is k) ∙ h))) c;
}

-- it goes on with the greatest place that waits, whose arguments then wait
module _ (bank : Nodes) (at : ℕ) (waits popped next : ℕ → Bool) (p : ℕ) (args : List At) (w : IsClosedBy bank at waits) (member : waits p ≡ true)
    (other : (k : ℕ) → k ≢ p → popped k ≡ waits k) (less : (k : ℕ) → popped k ≡ true → waits k ≡ true)
    (ins : (k : ℕ) → next k ≡ (popped k || list_any (eqb k) (places args))) (parts : ArePartsOf bank p args) where
  pub closing-on : IsClosedBy bank at next
  closing-on = record {
    inside = λ k h. elim (or_cases (popped k) (list_any (eqb k) (places args)) (sym (ins k) ∙ h)) [
      | inl q ↦ w.inside k (less k q)
      | inr q ↦ let a = place_below args k p parts.lower q in let b = w.inside p member in omega arith
    ];
    enough = λ all. w.enough (λ k h. elim (cases_eq k p) [
      | inl e ↦ subst (λ n. is_closed (term_tree bank n) ≡ true) (sym e)
          (parts.closed ∙ closed-each bank args (λ j q. all j (ins j ∙ or_right (popped j) (list_any (eqb j) (places args)) q)))
      | inr ne ↦ all k (ins k ∙ or_left (popped k) (list_any (eqb k) (places args)) (other k ne ∙ h))
    ]);
    needed = λ c k h. elim (or_cases (popped k) (list_any (eqb k) (places args)) (sym (ins k) ∙ h)) [
      | inl q ↦ w.needed c k (less k q)
      | inr q ↦ each-closed bank args k (sym parts.closed ∙ w.needed c p member) q
    ];
  }

-- it stops at a place that is not closed
pub closing-stops : (bank : Nodes) (at : ℕ) (waits : ℕ → Bool) (p : ℕ) → IsClosedBy bank at waits → waits p ≡ true → is_closed (term_tree bank p) ≡ false
    → false ≡ is_closed (term_tree bank at)
closing-stops bank at waits p w member e = by (is_closed (term_tree bank at)) refl
  where
    by : (b : Bool) → is_closed (term_tree bank at) ≡ b → false ≡ b
    by true h = absurd (true≢false (sym (w.needed h p member) ∙ e))
    by false h = refl
