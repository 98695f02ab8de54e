-- A match of two lists of terms, from its beginning to its end.
use Rattle.std.proofs.Common.{◌≡◌, ℕ, zero, suc, ◌<◌, ◌≤◌, refl, ap, sym, subst, ◌∙◌, Bool, true, false, cond, List, [], ◌∷◌, ◌++◌, map, length, get_or}
use Rattle.std.proofs.Common.{Option, Some, None, All, inl, inr, arith, true≢false, eqb}
use Rattle.std.specs.Prelude.{IsSome}
use Rattle.std.specs.declared.cmp.Ordering.TheVariants.{Less, Equal, Greater}
use Rattle.std.specs.Ordering.{nat_cmp, is_lt}
use Rattle.std.specs.Map.{lookup, keys_of}
use Rattle.std.specs.BTreeMap.{BTreeMap, get, keys, is_at, IsUpperBound}
use Rattle.std.proofs.lemmas.Bool.{cases_eq, cases_lt, eq-eqb, ne_eqb, cond-true, cond-false, lt-ltb}
use Rattle.ll_bank.specs.declared.At.{At}
use Rattle.ll_bank.specs.Term.{Term, Var, sub, is_closed}
use Rattle.ll_bank.specs.Nodes.{Nodes, term_tree, term_trees}
use Rattle.ll_bank.proofs.CallerLemmas.{ceiling, ceiling-le, last_below, is_at-nat}
use Rattle.ll_laws.specs.Instance.{IsInstance}
use Rattle.ll_cover.specs.declared.matching.Found.{Found}
use Rattle.ll_cover.specs.Matching.{HasPlaces, AreBelow, AllBelow, Meets, Makes, Looks, IsMatching}
use Rattle.ll_bank.proofs.CallerLemmas.{sub-term_trees}

-- ---- maps

-- a map without entries has nothing
pub nothing_at : (m : BTreeMap ℕ At) → m.entries ≡ [] → (k : ℕ) → get nat_cmp m k ≡ None
nothing_at m e k = ap (lookup (is_at (nat_cmp k))) e

pub no_entries : (es : List (ℕ × At)) → (0 < length es → false ≡ true) → es ≡ []
no_entries [] h = refl
no_entries (e ∷ es) h = absurd (true≢false (sym (h (omega arith))))

no_some : {o : Option At} {a : At} → o ≡ None → o ≡ Some a → ⊥
no_some n s = let q : None ≡ Some _ = sym n ∙ s in cc

-- a key of the entries is found
record IsThere (o : Option At) : Type 0 where
  value : At
  is : o ≡ Some value

there : (es : List (ℕ × At)) (j d : ℕ) → j < length (keys_of es) → IsThere (lookup (is_at (nat_cmp (get_or (keys_of es) j d))) es)
there [] j d l = absurd (omega arith)
there (e ∷ es) zero d l = record {
  value = e.1;
  is = cond-true (is_at (nat_cmp e.0) e.0) (Some e.1) (lookup (is_at (nat_cmp e.0)) es) (is_at-nat e.0 e.0 ∙ eq-eqb e.0 e.0 refl);
}
there (e ∷ es) (suc j) d l = step (is_at (nat_cmp (get_or (keys_of es) j d)) e.0) (there es j d (omega arith))
  where
    step : (b : Bool) → IsThere (lookup (is_at (nat_cmp (get_or (keys_of es) j d))) es)
        → IsThere (cond b (Some e.1) (lookup (is_at (nat_cmp (get_or (keys_of es) j d))) es))
    step true r = record { value = e.1; is = refl }
    step false r = r

keys_below : (m : BTreeMap ℕ At) (p : ℕ) → AreBelow p (get nat_cmp m) → All (λ k. k < p) (keys m)
keys_below m p b = λ j d l. let r = there m.entries j d l in b (get_or (keys m) j d) r.value r.is

-- ---- one entry leaves, with the greatest key

module _ (old popped : BTreeMap ℕ At) (p : ℕ) (a : At) (value : get nat_cmp old p ≡ Some a) (updates : (q : ℕ)
    → get nat_cmp popped q ≡ cond (is_at (nat_cmp p) q) None (get nat_cmp old q))
    (greatest : IsUpperBound nat_cmp old p) where
  gone : get nat_cmp popped p ≡ None
  gone = updates p ∙ cond-true (is_at (nat_cmp p) p) None (get nat_cmp old p) (is_at-nat p p ∙ eq-eqb p p refl)

  stays : (q : ℕ) → (p ≡ q → ⊥) → get nat_cmp popped q ≡ get nat_cmp old q
  stays q ne = updates q ∙ cond-false (is_at (nat_cmp p) q) None (get nat_cmp old q) (is_at-nat p q ∙ ne_eqb p q ne)

  had : (q : ℕ) (b : At) → get nat_cmp popped q ≡ Some b → (p ≡ q → ⊥) × (get nat_cmp old q ≡ Some b)
  had q b h = let ne : p ≡ q → ⊥ = λ e. no_some gone (subst (λ z. get nat_cmp popped z ≡ Some b) (sym e) h) in (ne, sym (stays q ne) ∙ h)

  pub popped_below : AreBelow p (get nat_cmp popped)
  popped_below q b h =
      let r = had q b h in
      let n = r.0 in
      elim (cases_lt q p) [
        | inl l ↦ l
        | inr l ↦ absurd (true≢false (sym (less (let m : p < q = apart q l n in m)) ∙ greatest q (some q b r.1)))
      ]
    where
      less : {q : ℕ} → p < q → is_lt (nat_cmp p q) ≡ true
      less {q} l = ap (λ b. is_lt (cond b Less (cond (eqb p q) Equal Greater))) (lt-ltb p q l)

      apart : (q : ℕ) → p ≤ q → (p ≡ q → ⊥) → p < q
      apart q l n = elim (cases_lt p q) [ inl m ↦ m | inr m ↦ absurd (n (omega arith)) ]

      some : (q : ℕ) (b : At) → get nat_cmp old q ≡ Some b → IsSome (get nat_cmp old q)
      some q b h = subst IsSome (sym h) refl

-- ---- the match

module _ (bank : Nodes) (of : List At) (other : Nodes) (terms : List At) where
  -- at its beginning the terms wait
  pub matching_begins : (found : Found) (waiting : BTreeMap ℕ At) → found.values.entries ≡ [] → waiting.entries ≡ [] → AllBelow (length bank.terms) of
      → Meets other (λ want. map (λ a. want a.0) of ≡ term_trees other terms) (get nat_cmp waiting) (get nat_cmp found.waiting) true
      → HasPlaces other (get nat_cmp found.waiting)
      → ((limit : ℕ) → AllBelow limit of → AreBelow limit (get nat_cmp waiting) → AreBelow limit (get nat_cmp found.waiting))
      → IsMatching bank (term_trees bank of) other (term_trees other terms) found
  matching_begins found waiting v w inside m p b = record {
    right = λ g h. sub-term_trees g bank of ∙ m.asks (λ x. sub g (term_tree bank x)) h.waiting;
    enough = λ g e. record {
      waiting = m.enough (λ x. sub g (term_tree bank x)) (λ k a s. absurd (no_some (nothing_at waiting w k) s)) (sym (sub-term_trees g bank of) ∙ e);
      values = λ k a s. absurd (no_some (nothing_at found.values v k) s);
    };
    waiting = p;
    values = λ k a s. absurd (no_some (nothing_at found.values v k) s);
    closed = λ k a s. absurd (no_some (nothing_at found.values v k) s);
    below = b (length bank.terms) inside (λ k a s. absurd (no_some (nothing_at waiting w k) s));
  }

  pub begins_no : (waiting now : BTreeMap ℕ At) → waiting.entries ≡ []
      → Meets other (λ want. map (λ a. want a.0) of ≡ term_trees other terms) (get nat_cmp waiting) (get nat_cmp now) false
      → IsInstance (term_trees bank of) (term_trees other terms) → ⊥
  begins_no waiting now w m i =
      m (λ x. sub i.values (term_tree bank x)) (λ k a s. absurd (no_some (nothing_at waiting w k) s)) (sym (sub-term_trees i.values bank of) ∙ sym i.is)

-- it goes on with the greatest place that waits
module _ (bank : Nodes) (of : List Term) (other : Nodes) (terms : List Term) (old new : Found) (popped : BTreeMap ℕ At) (p : ℕ) (a : At)
    (m : IsMatching bank of other terms old)
    (value : get nat_cmp old.waiting p ≡ Some a) (updates : (q : ℕ)
    → get nat_cmp popped q ≡ cond (is_at (nat_cmp p) q) None (get nat_cmp old.waiting q)) (greatest : IsUpperBound nat_cmp old.waiting p) where
  whole : (g : ℕ → Term) → Makes bank other (record { waiting = popped; values = old.values }) g → sub g (term_tree bank p) ≡ term_tree other a.0
      → Makes bank other old g
  whole g h e = record {
    waiting = λ k b s. elim (cases_eq p k) [
      | inl q ↦
          let f : Some a ≡ Some b = sym value ∙ (subst (λ z. get nat_cmp old.waiting z ≡ Some b) (sym q) s) in
          let c : a ≡ b = cc in
          subst (λ z. sub g (term_tree bank z) ≡ term_tree other b.0) q (subst (λ z. sub g (term_tree bank p) ≡ term_tree other z.0) c e)
      | inr ne ↦ h.waiting k b (stays old.waiting popped p a value updates greatest k ne ∙ s)
    ];
    values = h.values;
  }

  part : (g : ℕ → Term) → Makes bank other old g → Makes bank other (record { waiting = popped; values = old.values }) g
  part g h = record { waiting = λ k b s. h.waiting k b (had old.waiting popped p a value updates greatest k b s).1; values = h.values }

  pub popped_places : HasPlaces other (get nat_cmp popped)
  popped_places k b s = m.waiting k b (had old.waiting popped p a value updates greatest k b s).1

  pub place_below : p < length bank.terms
  place_below = m.below p a value

  pub image_below : a.0 < length other.terms
  image_below = m.waiting p a value

  pub matching_on : Looks bank p other a.0 (record { waiting = popped; values = old.values }) new true → IsMatching bank of other terms new
  matching_on l = record {
    right = λ g h. m.right g (whole g (l.keeps g h) (l.asks g h));
    enough = λ g e. let h = m.enough g e in l.enough g (part g h) (h.waiting p a value);
    waiting = l.waiting;
    values = l.values;
    closed = l.closed m.closed;
    below = λ k b s. let x = l.below (popped_below old.waiting popped p a value updates greatest) k b s in let y = m.below p a value in omega arith;
  }

  pub matching_no : Looks bank p other a.0 (record { waiting = popped; values = old.values }) new false → IsInstance of terms → ⊥
  matching_no l i = let h = m.enough i.values (sym i.is) in l i.values i.closed (part i.values h) (h.waiting p a value)

  -- less waits
  pub waiting_falls : keys old.waiting ≡ keys popped ++ p ∷ [] → Looks bank p other a.0 (record { waiting = popped; values = old.values }) new true
      → ceiling (keys new.waiting) < ceiling (keys old.waiting)
  waiting_falls e l =
      let x = ceiling-le (keys new.waiting) p (keys_below new.waiting p (l.below (popped_below old.waiting popped p a value updates greatest))) in
      let y = last_below (keys popped) p in let z = ap ceiling e in omega arith

-- at its end nothing waits
term_or : Nodes → ℕ → Option At → Term
term_or other x None = Var x
term_or other x (Some a) = term_tree other a.0

pub matching_ends : (bank : Nodes) (of : List Term) (other : Nodes) (terms : List Term) (found : Found) → IsMatching bank of other terms found
    → found.waiting.entries ≡ [] → IsInstance of terms
unfolding term_or
matching_ends bank of other terms found m none = record {
  values = λ x. term_or other x (get nat_cmp found.values x);
  closed = λ x. closed x (get nat_cmp found.values x) refl;
  is = sym (m.right (λ x. term_or other x (get nat_cmp found.values x)) (record {
    waiting = λ k a s. absurd (no_some (nothing_at found.waiting none k) s);
    values = λ k a s. ap (term_or other k) s;
  }));
}
  where
    closed : (x : ℕ) (o : Option At) → get nat_cmp found.values x ≡ o → is_closed (term_or other x o) ≡ true
    closed x None e = refl
    closed x (Some a) e = m.closed x a e
