-- Eigenconstants in a head with arguments, and in the terms at the places of a set.
use Rattle.std.proofs.Common.{◌≡◌, ◌≢◌, ℕ, refl, ap, sym, subst, ◌∙◌, Bool, true, false, eqb, List, [], ◌∷◌, length, inl, inr, arith, true≢false}
use Rattle.std.proofs.lemmas.Bool.{or_left, or_right, or_cases, or_parts, eqb-true, eq-eqb, cases_eq}
use Rattle.std.specs.Prelude.{◌||◌}
use Rattle.std.specs.List.{list_any}
use Rattle.ll_list_laws.proofs.CallerLemmas.{or_assoc, or_false}
use Rattle.ll_bank.specs.declared.At.{At}
use Rattle.ll_bank.specs.declared.Head.{Head}
use Rattle.ll_bank.specs.Term.{Term, Con, Ap, apply, app, has_eigen, is_eigen}
use Rattle.ll_bank.specs.Nodes.{Nodes, term_tree, term_trees, places, AllInTerms}
use Rattle.ll_bank.proofs.CallerLemmas.{place_below}
use Rattle.ll_sequent.specs.Constants.{is_in, AreWithin, Gathers, IsFoundAmong, ArePartsOf, IsFreeBy}

eigen_apply : (c : ℕ) (f : Term) (ts : List Term) → has_eigen c (apply f ts) ≡ (has_eigen c f || list_any (has_eigen c) ts)
eigen_apply c f [] = or_false (has_eigen c f)
eigen_apply c f (t ∷ ts) = eigen_apply c (Ap f t) ts ∙ or_assoc (has_eigen c f) (has_eigen c t) (list_any (has_eigen c) ts)

pub eigen_trees : (c : ℕ) (bank : Nodes) (args : List At) → list_any (has_eigen c) (term_trees bank args) ≡ is_in c bank args
eigen_trees c bank [] = refl
eigen_trees c bank (a ∷ args) = ap (λ b. has_eigen c (term_tree bank a.0) || b) (eigen_trees c bank args)

-- a head that is the constant
pub eigen_there : (c : ℕ) (bank : Nodes) (h : Head) (args : List At) → is_eigen c h ≡ true → has_eigen c (app h (term_trees bank args)) ≡ true
eigen_there c bank h args e = eigen_apply c (Con h) (term_trees bank args) ∙ ap (λ b. b || list_any (has_eigen c) (term_trees bank args)) e

-- a head that is not
pub eigen_behind : (c : ℕ) (bank : Nodes) (h : Head) (args : List At) → is_eigen c h ≡ false → has_eigen c (app h (term_trees bank args)) ≡ is_in c bank args
eigen_behind c bank h args e =
    eigen_apply c (Con h) (term_trees bank args) ∙ (ap (λ b. b || list_any (has_eigen c) (term_trees bank args)) e ∙ eigen_trees c bank args)

-- ---- places among others

each_free : (c : ℕ) (bank : Nodes) (args : List At) (k : ℕ) → is_in c bank args ≡ false → list_any (eqb k) (places args) ≡ true
    → has_eigen c (term_tree bank k) ≡ false
each_free c bank [] k h e = absurd (true≢false (sym e))
each_free c bank (a ∷ args) k h e =
    let p = or_parts (has_eigen c (term_tree bank a.0)) (is_in c bank args) h in
    elim (or_cases (eqb k a.0) (list_any (eqb k) (places args)) e) [
      | inl q ↦ subst (λ n. has_eigen c (term_tree bank n) ≡ false) (sym (eqb-true k a.0 q)) p.0
      | inr q ↦ each_free c bank args k p.1 q
    ]

free_each : (c : ℕ) (bank : Nodes) (args : List At) → ((k : ℕ) → list_any (eqb k) (places args) ≡ true → has_eigen c (term_tree bank k) ≡ false)
    → is_in c bank args ≡ false
free_each c bank [] h = refl
free_each c bank (a ∷ args) h =
    let p = h a.0 (or_left (eqb a.0 a.0) (list_any (eqb a.0) (places args)) (eq-eqb a.0 a.0 refl)) in
    let q = free_each c bank args (λ k e. h k (or_right (eqb k a.0) (list_any (eqb k) (places args)) e)) in
    ap (λ b. b || is_in c bank args) p ∙ q

-- ---- sets that grow

-- the places of terms came to a set
pub gathers_terms : (bank : Nodes) (old new : ℕ → Bool) (args : List At) → AllInTerms bank args → ((k : ℕ) → new k ≡ (old k || list_any (eqb k) (places args)))
    → Gathers bank old new (λ c. is_in c bank args)
gathers_terms bank old new args all ins = record {
  inside = λ within k h. elim (or_cases (old k) (list_any (eqb k) (places args)) (sym (ins k) ∙ h)) [
    | inl q ↦ within k q
    | inr q ↦ place_below args k (length bank.terms) all q
  ];
  free = λ c f h k e. elim (or_cases (old k) (list_any (eqb k) (places args)) (sym (ins k) ∙ e)) [
    | inl q ↦ f k q
    | inr q ↦ each_free c bank args k h q
  ];
  older = λ c f k e. f k (ins k ∙ or_left (old k) (list_any (eqb k) (places args)) e);
  none = λ c f. free_each c bank args (λ k e. f k (ins k ∙ or_right (old k) (list_any (eqb k) (places args)) e));
}

-- nothing came
pub gathers_nothing : (bank : Nodes) (set : ℕ → Bool) → Gathers bank set set (λ c. false)
gathers_nothing bank set = record { inside = λ w. w; free = λ c f h. f; older = λ c f. f; none = λ c f. refl }

-- one after the other
pub gathers_both : (bank : Nodes) (old mid new : ℕ → Bool) (one two : ℕ → Bool) → Gathers bank old mid one → Gathers bank mid new two
    → Gathers bank old new (λ c. one c || two c)
gathers_both bank old mid new one two g h = record {
  inside = λ w. h.inside (g.inside w);
  free = λ c f e. let p = or_parts (one c) (two c) e in h.free c (g.free c f p.0) p.1;
  older = λ c f. g.older c (h.older c f);
  none = λ c f. ap (λ b. b || two c) (g.none c (h.older c f)) ∙ h.none c f;
}

pub gathers_as : (bank : Nodes) (old new : ℕ → Bool) (one two : ℕ → Bool) → ((c : ℕ) → one c ≡ two c) → Gathers bank old new one → Gathers bank old new two
gathers_as bank old new one two same g = record {
  inside = g.inside;
  free = λ c f e. g.free c f (same c ∙ e);
  older = g.older;
  none =
      λ c f. sym (same c) ∙ g.none c f;
}

-- ---- the look at a set

pub looking_begins : (c : ℕ) (bank : Nodes) (set : ℕ → Bool) → AreWithin bank set → IsFreeBy c bank set set
looking_begins c bank set within = record { inside = within; enough = λ f. f; needed = λ f. f }

-- it goes on with the greatest place that waits, whose arguments then wait
module _ (c : ℕ) (bank : Nodes) (set waits popped next : ℕ → Bool) (p : ℕ) (args : List At) (w : IsFreeBy c bank set waits) (member : waits p ≡ true)
    (other : (k : ℕ) → k ≢ p → popped k ≡ waits k) (less : (k : ℕ) → popped k ≡ true → waits k ≡ true)
    (ins : (k : ℕ) → next k ≡ (popped k || list_any (eqb k) (places args))) (parts : ArePartsOf c bank p args) where
  pub looking_on : IsFreeBy c bank set next
  looking_on = record {
    inside = λ k h. elim (or_cases (popped k) (list_any (eqb k) (places args)) (sym (ins k) ∙ h)) [
      | inl q ↦ w.inside k (less k q)
      | inr q ↦ let a = place_below args k p parts.lower q in let b = w.inside p member in omega arith
    ];
    enough = λ all. w.enough (λ k h. elim (cases_eq k p) [
      | inl e ↦ subst (λ n. has_eigen c (term_tree bank n) ≡ false) (sym e)
          (parts.same ∙ free_each c bank args (λ j q. all j (ins j ∙ or_right (popped j) (list_any (eqb j) (places args)) q)))
      | inr ne ↦ all k (ins k ∙ or_left (popped k) (list_any (eqb k) (places args)) (other k ne ∙ h))
    ]);
    needed = λ f k h. elim (or_cases (popped k) (list_any (eqb k) (places args)) (sym (ins k) ∙ h)) [
      | inl q ↦ w.needed f k (less k q)
      | inr q ↦ each_free c bank args k (sym parts.same ∙ w.needed f p member) q
    ];
  }

-- it stops at a term whose head is the constant
pub looking_stops : (c : ℕ) (bank : Nodes) (set waits : ℕ → Bool) (p : ℕ) → IsFreeBy c bank set waits → waits p ≡ true → has_eigen c (term_tree bank p) ≡ true
    → IsFoundAmong c bank set true
looking_stops c bank set waits p w member e = record { none = λ h. absurd (true≢false h); free = λ f. absurd (true≢false (sym e ∙ w.needed f p member)) }

-- what is found among all that was gathered is found in what it was gathered from
pub found_in : (c : ℕ) (bank : Nodes) (old new : ℕ → Bool) (has : ℕ → Bool) (found : Bool) → Gathers bank old new has → ((k : ℕ) → old k ≢ true)
    → IsFoundAmong c bank new found → found ≡ has c
found_in c bank old new has found g none f = by found (has c) (λ e. g.none c (f.none e)) (λ e. f.free (g.free c (λ k q. absurd (none k q)) e))
  where
    by : (a b : Bool) → (a ≡ false → b ≡ false) → (b ≡ false → a ≡ false) → a ≡ b
    by true true l r = refl
    by true false l r = r refl
    by false true l r = sym (l refl)
    by false false l r = refl
