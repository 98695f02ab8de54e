-- A walk over the terms under some terms, step by step.
use Rattle.std.proofs.Common.{◌≡◌, ◌≢◌, ℕ, zero, suc, ◌+◌, ◌-◌, ◌<◌, Bool, true, false, cond, eqb, ◌||◌, List, [], ◌∷◌, ◌++◌, length, reverse, All, get_or}
use Rattle.std.proofs.Common.{take, refl, ap, sym, subst, ◌∙◌, inl, inr, arith, true≢false}
use Rattle.std.specs.Ordering.{nat_cmp}
use Rattle.std.specs.List.{list_any, Contains, slice_index}
use Rattle.std.specs.BTreeMap.{is_at}
use Rattle.std.specs.BTreeMap.Range.{IsLtBy}
use Rattle.std.proofs.Math.ListN.{get_or-append}
use Rattle.std.proofs.lemmas.Bool.{or_left, or_right, or_cases, eqb-true, eqb-false, eq-eqb, ne_eqb, cases_eq, cases_lt, cond-false}
use Rattle.std.proofs.lemmas.List.{length_push, get_or_push, length-reverse, get_or-reverse, length-map, take-map, map_more}
use Rattle.std.proofs.lemmas.List.Elements.{All-push}
use Rattle.std.proofs.Math.ListN.{get_or-map}
use Rattle.ll_bank.specs.declared.At.{At}
use Rattle.ll_bank.specs.Nodes.{Nodes, AllInTerms, places}
use Rattle.ll_bank.specs.Opened.{arguments_of, term_node_at}
use Rattle.ll_bank.specs.Walk.{IsInOrder, IsWalking}
use Rattle.ll_bank.proofs.BankLemmas.{below_places}
use Rattle.ll_bank.proofs.Ceiling.{ceiling, ceiling-le, last_below, is_at-nat, Less-nat, has_at, has_below, any_from_Contains, any_below}

-- ---- sets

-- a key was put in
pub inserted : (old new : ℕ → Bool) (k : ℕ) → ((at : ℕ) → new at ≡ cond (is_at (nat_cmp k) at) true (old at)) → (at : ℕ) → new at ≡ (old at || eqb at k)
inserted old new k h at = h at ∙ by (eqb at k) refl (old at)
  where
    by : (e : Bool) → eqb at k ≡ e → (o : Bool) → cond (is_at (nat_cmp k) at) true o ≡ (o || e)
    by true e true = rw (is_at-nat k at, eq-eqb k at (sym (eqb-true at k e))) refl
    by true e false = rw (is_at-nat k at, eq-eqb k at (sym (eqb-true at k e))) refl
    by false e true = rw (is_at-nat k at, ne_eqb k at (λ p. eqb-false at k e (sym p))) refl
    by false e false = rw (is_at-nat k at, ne_eqb k at (λ p. eqb-false at k e (sym p))) refl

-- a key was taken out
pub removed_other : (old new : ℕ → Bool) (k : ℕ) → ((at : ℕ) → new at ≡ cond (is_at (nat_cmp k) at) false (old at)) → (at : ℕ) → at ≢ k → new at ≡ old at
removed_other old new k h at ne = h at ∙ cond-false (is_at (nat_cmp k) at) false (old at) (is_at-nat k at ∙ ne_eqb k at (λ p. ne (sym p)))

pub removed_less : (old new : ℕ → Bool) (k : ℕ) → ((at : ℕ) → new at ≡ cond (is_at (nat_cmp k) at) false (old at)) → (at : ℕ) → new at ≡ true → old at ≡ true
removed_less old new k h at e = by (is_at (nat_cmp k) at) (sym (h at) ∙ e)
  where
    by : (b : Bool) → cond b false (old at) ≡ true → old at ≡ true
    by true p = absurd (true≢false (sym p))
    by false p = p

-- one more of those put in
pub more_any : (old now next : Bool) (at k : ℕ) (xs : List ℕ) → now ≡ (old || list_any (eqb at) xs) → next ≡ (now || eqb at k)
    → next ≡ (old || list_any (eqb at) (xs ++ k ∷ []))
more_any old now next at k xs e f = f ∙ (ap (λ b. b || eqb at k) e ∙ by old (list_any (eqb at) xs) ∙ ap (λ b. old || b) (sym (any_push xs)))
  where
    any_push : (ys : List ℕ) → list_any (eqb at) (ys ++ k ∷ []) ≡ (list_any (eqb at) ys || eqb at k)
    any_push [] = last (eqb at k)
      where
        last : (b : Bool) → (b || false) ≡ (false || b)
        last true = refl
        last false = refl
    any_push (y ∷ ys) = rest (eqb at y) (any_push ys)
      where
        rest : (b : Bool) → list_any (eqb at) (ys ++ k ∷ []) ≡ (list_any (eqb at) ys || eqb at k)
            → (b || list_any (eqb at) (ys ++ k ∷ [])) ≡ ((b || list_any (eqb at) ys) || eqb at k)
        rest true h = refl
        rest false h = h

    by : (o a : Bool) → ((o || a) || eqb at k) ≡ (o || (a || eqb at k))
    by true a = refl
    by false a = refl

-- ---- the walk

-- it begins with the roots
pub walk_begins : (nodes : Nodes) (roots : List At) (waits : ℕ → Bool) → AllInTerms nodes roots
    → ((at : ℕ) → waits at ≡ (false || list_any (eqb at) (places roots))) → IsWalking nodes roots waits []
walk_begins nodes roots waits all is = record {
  inside = λ k d l. absurd (omega arith);
  waiting = λ at h. any_below (places roots) at (length nodes.terms) (below_places (length nodes.terms) roots all) (sym (is at) ∙ h);
  behind = λ i a l. absurd (omega arith);
  rooted =
      λ k d l unseen. absurd (unseen (is (get_or roots k d).0
      ∙ any_from_Contains (places roots) (get_or roots k d).0 k d.0 (simp length-map l) (get_or-map (λ (a : At). a.0) roots k d)));
}

-- it goes on with the greatest place that waits, whose arguments then wait
module _ (nodes : Nodes) (roots : List At) (waits popped next : ℕ
    → Bool) (places : List ℕ) (p : ℕ) (w : IsWalking nodes roots waits places) (member : waits p ≡ true)
    (other : (at : ℕ) → at ≢ p → popped at ≡ waits at) (less : (at : ℕ) → popped at ≡ true → waits at ≡ true)
    (ins : (at : ℕ) → next at ≡ (popped at || list_any (eqb at) (arguments_of (term_node_at nodes p))))
    (lower : All (λ a. a < p) (arguments_of (term_node_at nodes p))) where
  -- what does not wait now did not wait before, unless it is this place
  not_before : (a : ℕ) → a ≢ p → next a ≢ true → waits a ≢ true
  not_before a ne unseen h = unseen (ins a ∙ or_left (popped a) (list_any (eqb a) (arguments_of (term_node_at nodes p))) (other a ne ∙ h))

  kept_place : (i : ℕ) → i < length places → slice_index (places ++ p ∷ []) i ≡ slice_index places i
  kept_place i l = get_or-append places (p ∷ []) 0 i l

  next_behind : (i a : ℕ) → i < length (places ++ p ∷ []) → Contains (arguments_of (term_node_at nodes (slice_index (places ++ p ∷ []) i))) a → next a ≢ true
      → (j : ℕ) × ((i < j) × ((j < length (places ++ p ∷ [])) × (slice_index (places ++ p ∷ []) j ≡ a)))
  next_behind i a l has unseen = elim (cases_lt i (length places)) [
    | inl h ↦ elim (cases_eq a p) [
      | inl e ↦ (length places, (h, ((let q = length_push places p in omega arith), get_or_push places p 0 (length places) refl ∙ sym e)))
      | inr ne ↦
          let found = w.behind i a h (subst (λ k. Contains (arguments_of (term_node_at nodes k)) a) (kept_place i h) has) (not_before a ne unseen) in
          (found.0, (found.1.0, ((let q = length_push places p in let m = found.1.1.0 in omega arith), kept_place found.0 found.1.1.0 ∙ found.1.1.1)))
    ]
    | inr h ↦
        let e : length places ≡ i = (let q = length_push places p in omega arith) in
        let here = subst (λ k. Contains (arguments_of (term_node_at nodes k)) a) (get_or_push places p 0 i e) has in
        absurd (unseen (ins a ∙ or_right (popped a) (list_any (eqb a) (arguments_of (term_node_at nodes p)))
        (any_from_Contains (arguments_of (term_node_at nodes p)) a here.0 a here.1 here.2)))
  ]

  pub walk_on : IsWalking nodes roots next (places ++ p ∷ [])
  walk_on = record {
    inside = All-push (λ at. at < length nodes.terms) places p w.inside (w.waiting p member);
    waiting = λ at h. elim (or_cases (popped at) (list_any (eqb at) (arguments_of (term_node_at nodes p))) (sym (ins at) ∙ h)) [
      | inl q ↦ w.waiting at (less at q)
      | inr q ↦ let a = any_below (arguments_of (term_node_at nodes p)) at p lower q in let b = w.waiting p member in omega arith
    ];
    behind = next_behind;
    rooted = λ k d l unseen. elim (cases_eq (get_or roots k d).0 p) [
      | inl e ↦ (length places, (let q = length_push places p in omega arith), get_or_push places p (get_or roots k d).0 (length places) refl ∙ sym e)
      | inr ne ↦
          let found = w.rooted k d l (not_before (get_or roots k d).0 ne unseen) in (
            found.0,
            (let q = length_push places p in let m = found.1 in omega arith),
            get_or-append places (p ∷ []) (get_or roots k d).0 found.0 found.1 ∙ found.2,
          )
    ];
  }

-- at its end nothing waits, and the places stand the other way round
module _ (nodes : Nodes) (roots : List At) (waits : ℕ → Bool) (places : List ℕ) (w : IsWalking nodes roots waits places) (none : (at : ℕ)
    → waits at ≢ true) where
  turned : (i d : ℕ) → i < length places → get_or (reverse places) i d ≡ get_or places (length places - 1 - i) d
  turned i d l = get_or-reverse places i d l

  pub walk_ends : IsInOrder nodes (reverse places)
  walk_ends = record {
    inside = λ k d l. let n = length-reverse places in subst (λ z. z < length nodes.terms) (sym (turned k d (omega arith)))
        (w.inside (length places - 1 - k) d (omega arith));
    before = λ i a l has.
        let n = length-reverse places in
        let found = w.behind (length places - 1 - i) a (omega arith)
        (subst (λ k. Contains (arguments_of (term_node_at nodes k)) a) (turned i 0 (omega arith)) has) (none a) in
        let m = found.1.0 in let o = found.1.1.0 in (
          length places - 1 - found.0,
          (
            (omega arith),
            turned (length places - 1 - found.0) 0 (omega arith)
                ∙ (ap (slice_index places) (let q : length places - 1 - (length places - 1 - found.0) ≡ found.0 = omega arith in q) ∙ found.1.1.1),
          ),
        );
  }

  pub walk_roots : All (λ root. Contains (reverse places) root.0) roots
  walk_roots = λ k d l.
      let n = length-reverse places in let found = w.rooted k d l (none (get_or roots k d).0) in let m = found.1 in (
        length places - 1 - found.0,
        (omega arith),
        turned (length places - 1 - found.0) (get_or roots k d).0 (omega arith)
            ∙ (ap (λ z. get_or places z (get_or roots k d).0) (let q : length places - 1 - (length places - 1 - found.0) ≡ found.0 = omega arith in q)
            ∙ found.2),
      )

-- each step lowers what waits
pub ceiling_falls : (old popped next : List ℕ) (p : ℕ) (args : List ℕ) → old ≡ popped ++ p ∷ [] → All (λ q. IsLtBy nat_cmp q p) popped
    → ((at : ℕ) → list_any (is_at (nat_cmp at)) next ≡ (list_any (is_at (nat_cmp at)) popped || list_any (eqb at) args)) → All (λ a. a < p) args
    → ceiling next < ceiling old
ceiling_falls old popped next p args is below ins lower =
    let a = ceiling-le next p (λ k d l. elim (or_cases (list_any (is_at (nat_cmp (get_or next k d))) popped) (list_any (eqb (get_or next k d)) args)
    (sym (ins (get_or next k d)) ∙ has_at next (get_or next k d) k d l refl)) [
      | inl q ↦ has_below popped (get_or next k d) p (λ j e m. Less-nat (get_or popped j e) p (below j e m)) q
      | inr q ↦ any_below args (get_or next k d) p lower q
    ]) in
    let b = last_below popped p in let c = ap ceiling is in omega arith

-- one more place of a list
pub places_more : (ats : List At) (i : ℕ) (d : At) → i < length ats → take (i + 1) (places ats) ≡ take i (places ats) ++ (get_or ats i d).0 ∷ []
places_more ats i d l = take-map (λ (a : At). a.0) (i + 1) ats
    ∙ (map_more (λ (a : At). a.0) ats i d l ∙ ap (λ xs. xs ++ (get_or ats i d).0 ∷ []) (sym (take-map (λ (a : At). a.0) i ats)))

-- nothing is in a set without keys
pub none_in : (keys : List ℕ) → length keys ≡ 0 → (at : ℕ) → list_any (is_at (nat_cmp at)) keys ≢ true
none_in [] l at h = true≢false (sym h)
none_in (k ∷ keys) l at h = absurd (omega arith)

pub zero_unless : (n : ℕ) → (0 < n → false ≡ true) → n ≡ 0
zero_unless zero h = refl
zero_unless (suc n) h = absurd (true≢false (sym (h (omega arith))))
