-- What is read of terms of the grammar without a fault: names with as many arguments as they may have.
use Rattle.std.proofs.Common.{◌≡◌, ℕ, zero, suc, refl, sym, subst, ◌∙◌, Bool, true, false, List, [], ◌∷◌, length, slice_get, Some, inl, inr}
use Rattle.std.specs.Prelude.{◌⊎◌, codes, if◌then◌else◌, IsTrue}
use Rattle.std.specs.Str.{bytes_eq}
use Rattle.ll_bank.specs.Term.{Term, Ap, apply}
use Rattle.ll_bank.specs.Names.{with_name}
use Rattle.ll_laws.specs.Output.{name_text}
use Rattle.ll_parser.specs.Tokens.{Identifier}
use Rattle.ll_parser.specs.Raw.{Raw, head, anything, int, RawList, none, more}
use Rattle.ll_polarity.specs.Scope.{Scope, Meaning, Bound, Local, Free, Constant, bound_by, unbound, is_variable, meaning, meaning_from}
use Rattle.ll_polarity.specs.Reading.{Met, number_in, read_name, read_term, read_terms}
use Rattle.ll_polarity.specs.Faults.{count, may_be_head, applied_fault, term_faults, terms_faults}
use Rattle.ll_polarity.proofs.CallerLemmas.{More, more_trans, numbered, longer_terms, none_left, none_right, none_unless, length-read_terms, places, Means}
use Rattle.ll_polarity.proofs.CallerLemmas.{means}
use Rattle.ll_prooftext.proofs.CallerLemmas.{text_is}
use Rattle.ll_prooftext.specs.Admitted.{IsPlainName}
use Rattle.ll_top.specs.spelled.Taking.{TakesAt, Places, TermTakes, TermsTake}
use Rattle.ll_top.specs.spelled.Laws.{name_takes}
use Rattle.ll_top.specs.spelled.Spoken.{IsSpokenWord, IsSpokenTerm, AreSpokenTerms}

-- a constant's name is no variable
not-variable : (k : ℕ) (scope : Scope) (w : List ℕ) → meaning_from k scope w ≡ Constant → is_variable w ≡ false
not-variable k [] w h = step (is_variable w) h
  where
    step : (b : Bool) → unbound b ≡ Constant → b ≡ false
    step true h = cc
    step false h = refl
not-variable k (b ∷ scope) w h = step (bytes_eq w b.text) (not-variable (suc k) scope w) h
  where
    bound : (l : Bool) → bound_by l k ≡ Constant → is_variable w ≡ false
    bound true h = cc
    bound false h = cc

    step : (t : Bool) → (meaning_from (suc k) scope w ≡ Constant → is_variable w ≡ false)
        → (if t then bound_by b.local k else meaning_from (suc k) scope w) ≡ Constant → is_variable w ≡ false
    step true go h = bound b.local h
    step false go h = go h

pub apply-takes : (takes : TakesAt) (sc : Places) (f : Term) (ts : List Term) → TermTakes takes sc (length ts) f → TermsTake takes sc ts
    → TermTakes takes sc 0 (apply f ts)
apply-takes takes sc f [] h hs = h
apply-takes takes sc f (t ∷ ts) h hs = apply-takes takes sc (Ap f t) ts (h, hs.0) hs.1

module _ (names : List (List ℕ)) where
  constant-takes : (n : ℕ) (w : List ℕ) (k : ℕ) → name_text names n ≡ w → is_variable w ≡ false → IsSpokenWord w k → name_takes names n k
  constant-takes n w k e v (inl q) = cc
  constant-takes n w k e v (inr (inl p)) = inl (subst IsPlainName (sym e) p)
  constant-takes n w k e v (inr (inr q)) = inr (subst (λ z. IsTrue (bytes_eq z (codes "::"))) (sym (e ∙ q.0)) refl, q.1)

  named-takes : (scope : Scope) (m : Meaning) (met : Met) (w : List ℕ) (k : ℕ) → (m ≡ Constant → is_variable w ≡ false) → IsSpokenWord w k → Means scope m
      → (k ≡ 0) ⊎ (may_be_head m ≡ true) → More (read_name m met w).met.names names
      → TermTakes (name_takes names) (places scope) k (read_name m met w).it
  named-takes scope (Bound j) met w k v s h (inl q) g = inl q
  named-takes scope (Bound j) met w k v s h (inr q) g = cc
  named-takes scope (Local j) met w k v s h p g = inr h.1
  named-takes scope Free met w k v s h (inl q) g = q
  named-takes scope Free met w k v s h (inr q) g = cc
  named-takes scope Constant met w k v s h p g =
      constant-takes (number_in (with_name met.names w) w) w k
      (text_is names (number_in (with_name met.names w) w) w (g.kept (number_in (with_name met.names w) w) w (numbered met.names w))) (v refl) s

  pub may-stand : (scope : Scope) (n : Identifier) (args : RawList) → applied_fault scope n args ≡ []
      → (count args ≡ 0) ⊎ (may_be_head (meaning scope n.text) ≡ true)
  may-stand scope n none h = inl refl
  may-stand scope n (more r rs) h = inr (none_unless (may_be_head (meaning scope n.text)) 9 n.at h)

  pub head-takes : (scope : Scope) (met : Met) (n : Identifier) (args : RawList) → IsSpokenWord n.text (count args)
      → (count args ≡ 0) ⊎ (may_be_head (meaning scope n.text) ≡ true) → More (read_term scope met (head n args)).met.names names
      → TermsTake (name_takes names) (places scope) (read_terms scope (read_name (meaning scope n.text) met n.text).met args).it
      → TermTakes (name_takes names) (places scope) 0 (read_term scope met (head n args)).it
  head-takes scope met n args s p g hs =
      let m = meaning scope n.text in
      let f = read_name m met n.text in
      let ts = (read_terms scope f.met args).it in
      let e : length ts ≡ count args = length-read_terms scope f.met args in
      apply-takes (name_takes names) (places scope) f.it ts
      (subst (λ k. TermTakes (name_takes names) (places scope) k f.it) (sym e)
      (named-takes scope m met n.text (count args) (not-variable 0 scope n.text) s (means scope n.text) p
      (more_trans (longer_terms scope f.met args).names g))) hs

  mutual
    pub read-takes : (scope : Scope) (met : Met) (r : Raw) → IsSpokenTerm r → term_faults scope r ≡ [] → More (read_term scope met r).met.names names
        → TermTakes (name_takes names) (places scope) 0 (read_term scope met r).it
    read-takes scope met (head n args) s h g =
        head-takes scope met n args s.0 (may-stand scope n args (none_left (applied_fault scope n args) (terms_faults scope args) h)) g
        (reads-take scope (read_name (meaning scope n.text) met n.text).met args s.1 (none_right (applied_fault scope n args) (terms_faults scope args) h) g)
    read-takes scope met (anything at) s h g = refl
    read-takes scope met (int at z) s h g = (refl, s)
    read-takes scope met _ s h g = absurd s

    pub reads-take : (scope : Scope) (met : Met) (rs : RawList) → AreSpokenTerms rs → terms_faults scope rs ≡ []
        → More (read_terms scope met rs).met.names names
        → TermsTake (name_takes names) (places scope) (read_terms scope met rs).it
    reads-take scope met none s h g = tt
    reads-take scope met (more r rs) s h g = (
      read-takes scope met r s.0 (none_left (term_faults scope r) (terms_faults scope rs) h)
          (more_trans (longer_terms scope (read_term scope met r).met rs).names g),
      reads-take scope (read_term scope met r).met rs s.1 (none_right (term_faults scope r) (terms_faults scope rs) h) g,
    )
