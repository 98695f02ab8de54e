-- Chains stay sound.
use Rattle.std.proofs.Common.{◌≡◌, ℕ, zero, suc, ◌+◌, ◌-◌, ◌<◌, ◌≤◌, Bool, true, false, ◌||◌, ◌&&◌, not, nat_eq, List, [], ◌∷◌, ◌++◌, length, map, All}
use Rattle.std.proofs.Common.{get_or, set, refl, ap, sym, subst, ◌∙◌, inl, inr, arith, length-append, ◌⊎◌}
use Rattle.std.specs.Prelude.{reverse, nat_lt, Option, Some, None, if◌then◌else◌}
use Rattle.std.proofs.lemmas.Bool.{and_parts, cases_lt, eqb-true, eq-eqb, ne_eqb, ltb-true, false≢true}
use Rattle.std.proofs.lemmas.List.{map-append, length-map, length-reverse, get_or-map, get_or_append_left, get_or_push}
use Rattle.std.proofs.lemmas.List.{get_or_past, get_or-drop, get_or-reverse, reverse-reverse}
use Rattle.std.proofs.lemmas.List.{length-take-le}
use Rattle.std.proofs.lemmas.List.Elements.{All-nil, All-push, All-weaker}
use Rattle.ll_laws.specs.declared.Kind.{Kind}
use Rattle.ll_laws.specs.Attempt.{is_linear}
use Rattle.ll_laws.specs.Settle.{both_live}
use Rattle.ll_resources.specs.declared.state.Stored.{Stored}
use Rattle.ll_resources.specs.declared.saves.SavedMarks.{SavedMarks}
use Rattle.ll_resources.specs.Saves.{block_of, IsWithin}
use Rattle.ll_resources.specs.Seen.{filled}
use Rattle.ll_resources.specs.Keys.{has_key}
use Rattle.ll_resources.specs.Raw.{Raw, shown, front, chained, raw_loaded, raw_picked, raw_closed, raw_kept, kept_now, raw_remarked, kept_under, block_under}
use Rattle.ll_resources.specs.Raw.{block_later, Joins, Closes, end_flag, label_at, is_younger, with_skips, with_top}
use Rattle.ll_resources.specs.Raw.{tops_under, mark_slot, top_in, top_of, IsListed}
use Rattle.ll_resources.specs.Chains.{key_at, linear_at, under_at, mark_of, wanted, IsSpent, IsChained, IsNewestOpen, Loads}
use Rattle.ll_resources.proofs.SeenLemmas.{reverse-push, front-last, reverse-front, reverse-rest, reverse-set}
use Rattle.ll_resources.proofs.RawLemmas.{HasWithin, IsWell, later-same, within-kept, within-remarked}
use Rattle.ll_resources.proofs.KeptLemmas.{block-new}
use Rattle.ll_resources.proofs.MarkLemmas.{get-filled}

-- ---- fields of entries at their places

module _ {C X : Type 0} (f : Stored C → X) (d : X) where
  -- one entry more
  pub field-old : (es : List (Stored C)) (e : Stored C) (i : ℕ) → i < length es → get_or (map f (es ++ e ∷ [])) i d ≡ get_or (map f es) i d
  field-old es e i l =
      let n = length-map es f in
      ap (λ xs. get_or xs i d) (map-append f es (e ∷ [])) ∙ get_or_append_left (map f es) (f e ∷ []) d i (omega (arith, n, l))

  pub field-new : (es : List (Stored C)) (e : Stored C) (i : ℕ) → i ≡ length es → get_or (map f (es ++ e ∷ [])) i d ≡ f e
  field-new es e i h =
      let n = length-map es f in
      ap (λ xs. get_or xs i d) (map-append f es (e ∷ [])) ∙ get_or_push (map f es) (f e) d i (omega (arith, n, h))

  -- one entry less
  pub field-front : (es : List (Stored C)) (i : ℕ) → i < length es - 1 → get_or (map f (front es)) i d ≡ get_or (map f es) i d
  field-front [] i l = absurd (omega (arith, l))
  field-front (x ∷ xs) i l =
      let es : List (Stored C) = x ∷ xs in
      let n : length (front es) ≡ length es - 1 = length-take-le (length es - 1) es (omega arith) in
      sym (field-old (front es) (get_or es (length es - 1) x) i (omega (arith, n, l)))
      ∙ ap (λ ys. get_or (map f ys) i d) (front-last es x (omega arith))

  pub field-last : (es : List (Stored C)) (e : Stored C) → 0 < length es → get_or (map f es) (length es - 1) d ≡ f (get_or es (length es - 1) e)
  field-last es e l = get_or-map f es (length es - 1) e d (omega (arith, l))

module _ {C : Type 0} where
  pub length-front : (es : List (Stored C)) → length (front es) ≡ length es - 1
  length-front es = length-take-le (length es - 1) es (omega arith)

  -- an entry with a key is there
  pub key-inside : (es : List (Stored C)) (i key : ℕ) → key_at es i ≡ Some key → i < length es
  key-inside es i key h = elim (cases_lt i (length es)) [
    | inl l ↦ l
    | inr past ↦
        let n = length-map es (λ (s : Stored C). s.key) in
        let none : key_at es i ≡ None = get_or_past (map (λ (s : Stored C). s.key) es) i None (omega (arith, n, past)) in cc
  ]

  key-push : (es : List (Stored C)) (e : Stored C) (i key : ℕ) → key_at (es ++ e ∷ []) i ≡ Some key
      → ((i < length es) × (key_at es i ≡ Some key)) ⊎ ((i ≡ length es) × (e.key ≡ Some key))
  key-push es e i key h = elim (cases_lt i (length es)) [
    | inl l ↦ inl (l, sym (field-old (λ (s : Stored C). s.key) None es e i l) ∙ h)
    | inr past ↦
        let low = key-inside (es ++ e ∷ []) i key h in let n = length-append es (e ∷ []) in
        let at : i ≡ length es = omega (arith, n, low, past) in
        inr (at, sym (field-new (λ (s : Stored C). s.key) None es e i at) ∙ h)
  ]

  key-front : (es : List (Stored C)) (i key : ℕ) → key_at (front es) i ≡ Some key → (i < length es - 1) × (key_at es i ≡ Some key)
  key-front es i key h =
      let n = length-front es in
      let low = key-inside (front es) i key h in
      let l : i < length es - 1 = omega (arith, n, low) in
      (l, sym (field-front (λ (s : Stored C). s.key) None es i l) ∙ h)

  -- the key of the last entry is listed
  pub is-listed : (es fs : List (Stored C)) (e : Stored C) (tops : List ℕ) → es ≡ fs ++ e ∷ [] → ((key i : ℕ) → key_at es i ≡ Some key → key < length tops)
      → IsListed tops e.key
  is-listed es fs e tops h f = step e.key refl
    where
      step : (key : Option ℕ) → e.key ≡ key → IsListed tops key
      step None k = tt
      step (Some key) k = f key (length fs)
          (ap (λ xs. key_at xs (length fs)) h ∙ (field-new (λ (s : Stored C). s.key) None fs e (length fs) refl ∙ k))

-- no key
abbrev none_key : Option ℕ
none_key = None

none-at : {X : Type 0} (cs : List X) (i : ℕ) → get_or (map (λ (_ : X). none_key) cs) i none_key ≡ none_key
none-at [] i = refl
none-at (x ∷ xs) zero = refl
none-at (x ∷ xs) (suc i) = none-at xs i

-- ---- marks

-- with one more
mark-push : (live : List Bool) (b : Bool) (m n i : ℕ) → m ≡ suc n → i < n → mark_of m (live ++ b ∷ []) i ≡ mark_of n live i
mark-push live b m n i e l =
    let at : m - 1 - i ≡ suc (n - 1 - i) = omega (arith, e, l) in
    ap (λ xs. get_or xs (m - 1 - i) false) (reverse-push live b) ∙ ap (λ k. get_or (b ∷ reverse live) k false) at

-- with one less
mark-front : (live : List Bool) (m n i : ℕ) → m ≡ n - 1 → i < n - 1 → mark_of m (front live) i ≡ mark_of n live i
mark-front live m n i e l =
    let at : 1 + (m - 1 - i) ≡ n - 1 - i = omega (arith, e, l) in
    ap (λ xs. get_or xs (m - 1 - i) false) (sym (reverse-rest live))
    ∙ (get_or-drop 1 (reverse live) (m - 1 - i) false ∙ ap (λ k. get_or (reverse live) k false) at)

-- a mark that is not set stays so where one is taken away
set-false : (bs : List Bool) (f k : ℕ) → get_or bs k false ≡ false → get_or (set bs f false) k false ≡ false
set-false [] f k h = h
set-false (b ∷ bs) zero zero h = refl
set-false (b ∷ bs) zero (suc k) h = h
set-false (b ∷ bs) (suc f) zero h = h
set-false (b ∷ bs) (suc f) (suc k) h = set-false bs f k h

mark-picked : (live : List Bool) (n f i : ℕ) → mark_of n live i ≡ false → mark_of n (set live (mark_slot (length live) f) false) i ≡ false
mark-picked live n f i h = ap (λ xs. get_or xs (n - 1 - i) false) (reverse-set live f false) ∙ set-false (reverse live) f (n - 1 - i) h

both-false : (xs ys : List Bool) (k : ℕ) → get_or ys k false ≡ false → get_or (both_live xs ys) k false ≡ false
both-false [] ys k h = refl
both-false (x ∷ xs) [] k h = refl
both-false (true ∷ xs) (y ∷ ys) zero h = h
both-false (false ∷ xs) (y ∷ ys) zero h = refl
both-false (x ∷ xs) (y ∷ ys) (suc k) h = both-false xs ys k h

-- what both sides leave was there before
mark-both : (new other old : List Bool) (n i : ℕ) → i < n → filled n (reverse new) ≡ both_live (filled n (reverse other)) (filled n (reverse old))
    → mark_of n old i ≡ false → mark_of n new i ≡ false
mark-both new other old n i l e h =
    let k : n - 1 - i < n = omega (arith, l) in
    sym (get-filled n (reverse new) (n - 1 - i) k)
    ∙ (ap (λ xs. get_or xs (n - 1 - i) false) e
    ∙ both-false (filled n (reverse other)) (filled n (reverse old)) (n - 1 - i) (get-filled n (reverse old) (n - 1 - i) k ∙ h))

-- ---- tests

shut : (a b c : Bool) → a ≡ true → (a && (not b || c)) ≡ false → (b ≡ true) × (c ≡ false)
shut true true c e h = (refl, h)
shut true false c e h = absurd (false≢true (sym h))
shut false b c e h = absurd (false≢true e)

-- a place that is another for one key
over : (f : ℕ → ℕ) (key top k i : ℕ) → i < top → i < f k → i < with_top (Some key) top f k
over f key top k i a b = step (nat_eq k key)
  where
    step : (t : Bool) → i < (if t then top else f k)
    step true = a
    step false = b

over-same : (f : ℕ → ℕ) (key top k i : ℕ) → i < top → k ≡ key → i < with_top (Some key) top f k
over-same f key top k i a e = subst (λ t. i < (if t then top else f k)) (sym (eq-eqb k key e)) a

-- the places once the newest entry goes
below_top : (f : ℕ → ℕ) (key : Option ℕ) (under k i : ℕ) → i < f k → (key ≡ Some k → i < under) → i < with_top key under f k
below_top f None under k i t h = t
below_top f (Some key) under k i t h = step (nat_eq k key) refl
  where
    step : (b : Bool) → nat_eq k key ≡ b → i < (if b then under else f k)
    step true e = h (ap (λ n. Some n) (sym (eqb-true k key e)))
    step false e = t

-- given back
pub top-back : (f : ℕ → ℕ) (key top k : ℕ) → with_top (Some key) (f key) (with_top (Some key) top f) k ≡ f k
top-back f key top k = step (nat_eq k key) refl
  where
    step : (t : Bool) → nat_eq k key ≡ t → (if t then f key else (if t then top else f k)) ≡ f k
    step true e = ap f (sym (eqb-true k key e))
    step false e = refl

pub top-restored : (f : ℕ → ℕ) (key : Option ℕ) (top k : ℕ) → with_top key (top_of key f) (with_top key top f) k ≡ f k
top-restored f None top k = refl
top-restored f (Some key) top k = top-back f key top k

-- a place that is listed belongs to a key that is
pub top-listed : (tops : List ℕ) (key i : ℕ) → i < top_in tops key → key < length tops
top-listed tops key i h = elim (cases_lt key (length tops)) [
  | inl l ↦ l
  | inr past ↦ let e : top_in tops key ≡ 0 = get_or_past tops key 0 past in absurd (omega (arith, e, h))
]

-- ---- a clause is loaded

module _ {C : Type 0} where
  spent-push : (kind : Kind) (clause : C) (key at : ℕ) (r : Raw C) (j i : ℕ) → j < length r.entries → i < length r.entries → IsSpent r j i
      → IsSpent (raw_loaded kind clause key at r) j i
  spent-push kind clause key at r j i jl il s =
      let e : Stored C = chained r.next kind clause key at (r.tops key) in
      let n = length-append r.entries (e ∷ []) in
      record {
        linear = field-old (λ (x : Stored C). is_linear x.kind) true r.entries e i il ∙ s.linear;
        mark = mark-push r.live (is_linear kind) (length (r.entries ++ e ∷ [])) (length r.entries) i (omega (arith, n)) il ∙ s.mark;
        kept = λ m ml lt. s.kept m ml (subst (λ x. x < (kept_under m r).next) (field-old (λ (x : Stored C). x.label) 0 r.entries e j jl) lt);
      }

  chained-loaded : (kind : Kind) (clause : C) (key at : ℕ) (r : Raw C) → IsChained r → IsNewestOpen r key (r.tops key) at
      → IsChained (raw_loaded kind clause key at r)
  chained-loaded kind clause key at r c o =
      let es : List (Stored C) = r.entries in
      let e : Stored C = chained r.next kind clause key at (r.tops key) in
      let count = length-append es (e ∷ []) in
      let label_old : (i : ℕ) → i < length es → label_at (es ++ e ∷ []) i ≡ label_at es i = λ i l. field-old (λ (x : Stored C). x.label) 0 es e i l in
      let label_new : (i : ℕ) → i ≡ length es → label_at (es ++ e ∷ []) i ≡ r.next = λ i h. field-new (λ (x : Stored C). x.label) 0 es e i h in
      record {
        rise = λ k i j hi l jl.
            let il : i < length es = omega (arith, l, jl, count) in
            let ki : key_at es i ≡ Some k = sym (field-old (λ (x : Stored C). x.key) None es e i il) ∙ hi in
            let a = label_old i il in
            elim (cases_lt j (length es)) [
              | inl jo ↦ let b = label_old j jo in let h = c.rise k i j ki l jo in omega (arith, a, b, h)
              | inr jn ↦ let b = label_new j (omega (arith, jl, jn, count)) in let h = c.below k i ki in omega (arith, a, b, h)
            ];
        below = λ k i hi. elim (key-push es e i k hi) [
          | inl old ↦ let a = label_old i old.0 in let h = c.below k i old.1 in omega (arith, a, h)
          | inr new ↦ let a = label_new i new.0 in omega (arith, a)
        ];
        kept = All-weaker (λ (k : SavedMarks). k.next ≤ r.next) (λ (k : SavedMarks). k.next ≤ suc r.next) (λ k h. omega (arith, h)) r.kept c.kept;
        tops = λ k i h. elim (key-push es e i k h) [
          | inl old ↦ over r.tops key (suc (length es)) k i (let l = old.0 in omega (arith, l)) (c.tops k i old.1)
          | inr new ↦
              let same : k ≡ key = (let f : Some key ≡ Some k = new.1 in cc) in
              over-same r.tops key (suc (length es)) k i (let l = new.0 in omega (arith, l)) same
        ];
        under = λ k i j hi hj l.
            let jl = key-inside (es ++ e ∷ []) j k hj in
            let il : i < length es = omega (arith, l, jl, count) in
            let ki : key_at es i ≡ Some k = sym (field-old (λ (x : Stored C). x.key) None es e i il) ∙ hi in
            elim (key-push es e j k hj) [
              | inl old ↦
                  subst (λ x. i < x) (sym (field-old (λ (x : Stored C). x.under) 0 es e j old.0)) (c.under k i j ki old.1 l)
              | inr new ↦
                  let same : k ≡ key = (let f : Some key ≡ Some k = new.1 in cc) in
                  subst (λ x. i < x) (sym (field-new (λ (x : Stored C). x.under) 0 es e j new.0)) (subst (λ x. i < r.tops x) same (c.tops k i ki))
            ];
        past = λ skips k i j hi hj l low.
            let jl = key-inside (es ++ e ∷ []) j k hj in
            let il : i < length es = omega (arith, l, jl, count) in
            let ki : key_at es i ≡ Some k = sym (field-old (λ (x : Stored C). x.key) None es e i il) ∙ hi in
            elim (key-push es e j k hj) [
              | inl old ↦
                  spent-push kind clause key at r j i old.0 il
                  (c.past skips k i j ki old.1 l (subst (λ x. x ≤ i) (field-old (λ (x : Stored C). x.past) 0 es e j old.0) low))
              | inr new ↦
                  let same : k ≡ key = (let f : Some key ≡ Some k = new.1 in cc) in
                  let from : at ≤ i = subst (λ x. x ≤ i) (field-new (λ (x : Stored C). x.past) 0 es e j new.0) low in
                  let none : wanted r key i ≡ false = o.none i from (subst (λ x. i < r.tops x) same (c.tops k i ki)) in
                  let has : has_key key (key_at es i) ≡ true = ap (has_key key) ki ∙ eq-eqb k key same in
                  let s = shut (has_key key (key_at es i)) (linear_at es i) (mark_of (length es) r.live i) has none in
                  record {
                    linear = field-old (λ (x : Stored C). is_linear x.kind) true es e i il ∙ s.0;
                    mark = mark-push r.live (is_linear kind) (length (es ++ e ∷ [])) (length es) i (omega (arith, count)) il ∙ s.1;
                    kept = λ m ml lt.
                        let b = label_new j new.0 in
                        let h : (kept_under m r).next ≤ r.next = c.kept m _ ml in
                        absurd (omega (arith, b, h, lt));
                  }
            ];
      }

  -- ---- the newest entry goes

  chained-closed : (flag : Bool) (r : Raw C) → 0 < length r.entries → IsChained r → IsChained (raw_closed flag r)
  chained-closed flag r some c =
      let es : List (Stored C) = r.entries in
      let n = length-front es in
      let label_same : (i : ℕ) → i < length es - 1 → label_at (front es) i ≡ label_at es i = λ i l. field-front (λ (x : Stored C). x.label) 0 es i l in
      record {
        rise = λ k i j hi l jl.
            let f = key-front es i k hi in
            let a = label_same i f.0 in let b = label_same j (omega (arith, jl, n)) in
            let h = c.rise k i j f.1 l (omega (arith, jl, n)) in omega (arith, a, b, h);
        below = λ k i hi. let f = key-front es i k hi in let a = label_same i f.0 in let h = c.below k i f.1 in omega (arith, a, h);
        kept = c.kept;
        tops = λ k i h. let f = key-front es i k h in tops_left es some k i f.0 f.1 (c.tops k i f.1) (λ e j. c.under k i (length es - 1) f.1 e j);
        under = λ k i j hi hj l.
            let a = key-front es i k hi in let b = key-front es j k hj in
            subst (λ x. i < x) (sym (field-front (λ (x : Stored C). x.under) 0 es j b.0)) (c.under k i j a.1 b.1 l);
        past = λ skips k i j hi hj l low.
            let a = key-front es i k hi in let b = key-front es j k hj in
            let s = c.past skips k i j a.1 b.1 l (subst (λ x. x ≤ i) (field-front (λ (x : Stored C). x.past) 0 es j b.0) low) in
            record {
              linear = field-front (λ (x : Stored C). is_linear x.kind) true es i a.0 ∙ s.linear;
              mark = mark-front r.live (length (front es)) (length es) i n a.0 ∙ s.mark;
              kept = λ m ml lt. s.kept m ml (subst (λ x. x < (kept_under m r).next) (label_same j b.0) lt);
            };
      }
    where
      tops_left : (es : List (Stored C)) → 0 < length es → (k i : ℕ) → i < length es - 1 → key_at es i ≡ Some k → i < r.tops k
          → (key_at es (length es - 1) ≡ Some k → i < length es - 1 → i < under_at es (length es - 1)) → i < tops_under (reverse es) r.tops k
      tops_left [] l k i il ki t u = absurd (omega (arith, l))
      tops_left (x ∷ xs) l k i il ki t u =
          let es : List (Stored C) = x ∷ xs in
          let last : Stored C = get_or es (length es - 1) x in
          let a : key_at es (length es - 1) ≡ last.key = field-last (λ (y : Stored C). y.key) None es x l in
          let b : under_at es (length es - 1) ≡ last.under = field-last (λ (y : Stored C). y.under) 0 es x l in
          subst (λ ys. i < tops_under ys r.tops k) (sym (reverse-front es x l))
          (below_top r.tops last.key last.under k i t (λ e. subst (λ y. i < y) b (u (a ∙ e) il)))

  pub tops-closed : (es : List (Stored C)) (d : Stored C) (f : ℕ → ℕ) (k : ℕ) → 0 < length es → d ≡ get_or es (length es - 1) d
      → with_top d.key d.under f k ≡ tops_under (reverse es) f k
  tops-closed es d f k l e =
      ap (λ (x : Stored C). with_top x.key x.under f k) e ∙ ap (λ ss. tops_under ss f k) (sym (reverse-front es d l))

  -- ---- an entry loses its mark

  chained-picked : (f : ℕ) (r : Raw C) → IsChained r → IsChained (raw_picked (mark_slot (length r.live) f) r)
  chained-picked f r c = record {
    rise = c.rise;
    below = c.below;
    kept = c.kept;
    tops = c.tops;
    under = c.under;
    past = λ skips k i j hi hj l low.
        let s = c.past skips k i j hi hj l low in
        record { linear = s.linear; mark = mark-picked r.live (length r.entries) f i s.mark; kept = s.kept };
  }

  chained-erased : (flag : Bool) (r : Raw C) → IsChained r → IsChained (record r { flag = flag })
  chained-erased flag r c = record {
    rise = c.rise;
    below = c.below;
    kept = c.kept;
    tops = c.tops;
    under = c.under;
    past = λ skips k i j hi hj l low. let s = c.past skips k i j hi hj l low in record { linear = s.linear; mark = s.mark; kept = s.kept };
  }

  -- ---- all entries get other marks

  -- entries that are spent have no mark among these
  abbrev Shuts : Raw C → List Bool → Type 0
  Shuts r live = (key i j : ℕ) → key_at r.entries j ≡ Some key → i < j → IsSpent r j i → mark_of (length r.entries) live i ≡ false

  chained-remarked : (live : List Bool) (flag skips : Bool) (r : Raw C) → HasWithin r → IsChained r → (skips ≡ true → r.skips ≡ true)
      → (skips ≡ true → Shuts r live) → IsChained (record (raw_remarked live flag r) { skips = skips })
  chained-remarked live flag skips r w c on shuts = record {
    rise = c.rise;
    below = c.below;
    kept = c.kept;
    tops = c.tops;
    under = c.under;
    past = λ on_now k i j hi hj l low.
        let s = c.past (on on_now) k i j hi hj l low in
        record {
          linear = s.linear;
          mark = shuts on_now k i j hj l s;
          kept = λ m ml lt. ap (λ bs. mark_of (kept_under m r).count bs i) (later-same m r w ml) ∙ s.kept m ml lt;
        };
  }

  chained-kept : (live : List Bool) (skips : Bool) (r : Raw C) → HasWithin r → IsChained r → (skips ≡ true → r.skips ≡ true)
      → (skips ≡ true → Shuts r live) → IsChained (record (raw_kept live r) { skips = skips })
  chained-kept live skips r w c on shuts = record {
    rise = c.rise;
    below = c.below;
    kept = All-push (λ (k : SavedMarks). k.next ≤ r.next) r.kept (kept_now r) c.kept (omega arith);
    tops = c.tops;
    under = c.under;
    past = λ on_now k i j hi hj l low.
        let s = c.past (on on_now) k i j hi hj l low in
        record {
          linear = s.linear;
          mark = shuts on_now k i j hj l s;
          kept = λ m ml lt. later m i j s ml lt;
        };
  }
    where
      none : SavedMarks
      none = record { count = 0; next = 0; from = 0; to = 0; flag = false; skips = false }

      later : (m i j : ℕ) → IsSpent r j i → m < length (r.kept ++ kept_now r ∷ []) → label_at r.entries j < (kept_under m (raw_kept live r)).next
          → mark_of (kept_under m (raw_kept live r)).count (block_under m (raw_kept live r)) i ≡ false
      later m i j s ml lt = elim (cases_lt m (length r.kept)) [
        | inl old ↦
            let same : kept_under m (raw_kept live r) ≡ kept_under m r = get_or_append_left r.kept (kept_now r ∷ []) none m old in
            let lt2 : label_at r.entries j < (kept_under m r).next = subst (λ (x : SavedMarks). label_at r.entries j < x.next) same lt in
            ap (λ (x : SavedMarks). mark_of x.count (block_of (r.marks ++ r.live) x) i) same
            ∙ (ap (λ bs. mark_of (kept_under m r).count bs i) (later-same m r w old) ∙ s.kept m old lt2)
        | inr past ↦
            let n = length-append r.kept (kept_now r ∷ []) in
            let last : kept_under m (raw_kept live r) ≡ kept_now r = get_or_push r.kept (kept_now r) none m (omega (arith, n, ml, past)) in
            ap (λ (x : SavedMarks). mark_of x.count (block_of (r.marks ++ r.live) x) i) last
            ∙ (ap (λ bs. mark_of (length r.entries) bs i) (block-new r.marks r.live (kept_now r) refl refl) ∙ s.mark)
      ]

  -- marks that are given back
  younger-shuts : (number : ℕ) (r : Raw C) → HasWithin r → IsChained r → number < length r.kept → is_younger number r ≡ true → Shuts r (block_later number r)
  younger-shuts number r w c inside young key i j hj l s =
      let jl = key-inside r.entries j key hj in
      let n : ℕ = length r.entries in
      let k = kept_under number r in
      let some : nat_eq n 0 ≡ false = not_zero n (omega (arith, jl)) in
      let both : (nat_eq k.count n && nat_lt (label_at r.entries (n - 1)) k.next) ≡ true =
      subst (λ b. (b || (nat_eq k.count n && nat_lt (label_at r.entries (n - 1)) k.next)) ≡ true) some young in
      let p = and_parts (nat_eq k.count n) (nat_lt (label_at r.entries (n - 1)) k.next) both in
      let count : k.count ≡ n = eqb-true k.count n p.0 in
      let last : label_at r.entries (n - 1) < k.next = ltb-true (label_at r.entries (n - 1)) k.next p.1 in
      let lt : label_at r.entries j < k.next = elim (cases_lt j (n - 1)) [
        | inl before ↦ let h = c.rise key j (n - 1) hj before (omega (arith, jl)) in omega (arith, h, last)
        | inr at ↦ subst (λ x. label_at r.entries x < k.next) (let e : n - 1 ≡ j = omega (arith, jl, at) in e) last
      ] in
      ap (λ bs. mark_of n bs i) (later-same number r w inside)
      ∙ (ap (λ m. mark_of m (block_under number r) i) (sym count) ∙ s.kept number inside lt)
    where
      not_zero : (n : ℕ) → 0 < n → nat_eq n 0 ≡ false
      not_zero n h = ne_eqb n 0 (λ e. omega (arith, h, e))

  -- ---- the start

  none-keyed : {X : Type 0} (ss : List (Stored C)) (cs : List X) (i : ℕ) → map (λ (s : Stored C). s.key) ss ≡ map (λ (_ : X). None) cs
      → key_at (reverse ss) i ≡ None
  none-keyed [] cs i h = refl
  none-keyed (x ∷ xs) cs i h =
      let ss : List (Stored C) = x ∷ xs in
      elim (cases_lt i (length (reverse ss))) [
        | inl l ↦
            let n = length-reverse ss in
            get_or-map (λ (s : Stored C). s.key) (reverse ss) i x None l
            ∙ (ap (λ (s : Stored C). s.key) (get_or-reverse ss i x (omega (arith, n, l)))
            ∙ (sym (get_or-map (λ (s : Stored C). s.key) ss (length ss - 1 - i) x None (omega (arith, n, l)))
            ∙ (ap (λ ks. get_or ks (length ss - 1 - i) None) h ∙ none-at cs (length ss - 1 - i))))
        | inr past ↦
            let n = length-map (reverse ss) (λ (s : Stored C). s.key) in
            get_or_past (map (λ (s : Stored C). s.key) (reverse ss)) i None (omega (arith, n, past))
      ]

  -- no entry has a key
  pub well-started : {X : Type 0} (cs : List X) (r : Raw C) → (shown r).keys ≡ map (λ (_ : X). None) cs → r.kept ≡ [] → IsWell r
  well-started cs r h k =
      let none : (key i : ℕ) → key_at r.entries i ≡ Some key → ⊥ =
      λ key i e. let f : key_at r.entries i ≡ None =
      ap (λ es. key_at es i) (sym (reverse-reverse r.entries)) ∙ none-keyed (reverse r.entries) cs i h in cc in
      record {
        within = subst (All (IsWithin r.marks)) (sym k) (All-nil (IsWithin r.marks));
        chained = record {
          rise = λ key i j hi l jl. absurd (none key i hi);
          below = λ key i hi. absurd (none key i hi);
          kept = subst (All (λ (x : SavedMarks). x.next ≤ r.next)) (sym k) (All-nil (λ (x : SavedMarks). x.next ≤ r.next));
          tops = λ key i hi. absurd (none key i hi);
          under = λ key i j hi hj l. absurd (none key i hi);
          past = λ skips key i j hi hj l low. absurd (none key i hi);
        };
      }

  -- ---- the whole of what holds of each state

  pub well-loaded : (kind : Kind) (clause : C) (key : ℕ) (r s : Raw C) → Loads kind clause key r s → IsWell r → IsWell s
  well-loaded kind clause key r s l w =
      subst (λ (t : Raw C). IsWell t) (sym l.state)
      (record { within = w.within; chained = chained-loaded kind clause key l.at r w.chained l.newest })

  pub well-closed : (saved : Bool) (r s : Raw C) → Closes saved r s → 0 < length r.entries → IsWell r → IsWell s
  well-closed saved r s e l w =
      subst (λ (t : Raw C). IsWell t) (sym e.state)
      (record { within = w.within; chained = chained-closed (end_flag saved r) r l w.chained })

  pub well-picked : (f : ℕ) (r s : Raw C) → s ≡ raw_picked (mark_slot (length r.live) f) r → IsWell r → IsWell s
  well-picked f r s e w =
      subst (λ (t : Raw C). IsWell t) (sym e) (record { within = w.within; chained = chained-picked f r w.chained })

  pub well-erased : (r s : Raw C) → s ≡ record r { flag = true } → IsWell r → IsWell s
  well-erased r s e w =
      subst (λ (t : Raw C). IsWell t) (sym e) (record { within = w.within; chained = chained-erased true r w.chained })

  pub well-kept : (r s : Raw C) → s ≡ raw_kept r.live r → IsWell r → IsWell s
  well-kept r s e w =
      subst (λ (t : Raw C). IsWell t) (sym e)
      (record {
        within = within-kept r.live r w.within;
        chained = chained-kept r.live r.skips r w.within w.chained (λ h. h) (λ on k i j hj l s. s.mark);
      })

  pub well-banged : (r s : Raw C) → s ≡ raw_remarked [] r.flag r → IsWell r → IsWell s
  well-banged r s e w =
      subst (λ (t : Raw C). IsWell t) (sym e)
      (record {
        within = within-remarked [] r.flag r w.within;
        chained = chained-remarked [] r.flag r.skips r w.within w.chained (λ h. h) (λ on k i j hj l s. refl);
      })

  pub well-back : (number : ℕ) (flag : Bool) (r s : Raw C) → number < length r.kept → s ≡ with_skips number r (raw_remarked (block_later number r) flag r)
      → IsWell r → IsWell s
  well-back number flag r s inside e w =
      subst (λ (t : Raw C). IsWell t) (sym e)
      (record {
        within = within-remarked (block_later number r) flag r w.within;
        chained = chained-remarked (block_later number r) flag (r.skips && is_younger number r) r w.within w.chained
            (λ h. let p = and_parts r.skips (is_younger number r) h in p.0)
            (λ h. let p = and_parts r.skips (is_younger number r) h in younger-shuts number r w.within w.chained inside p.1);
      })

  pub well-mid : (number : ℕ) (r s : Raw C) → number < length r.kept → s ≡ with_skips number r (raw_kept (block_later number r) r) → IsWell r → IsWell s
  well-mid number r s inside e w =
      subst (λ (t : Raw C). IsWell t) (sym e)
      (record {
        within = within-kept (block_later number r) r w.within;
        chained = chained-kept (block_later number r) (r.skips && is_younger number r) r w.within w.chained
            (λ h. let p = and_parts r.skips (is_younger number r) h in p.0)
            (λ h. let p = and_parts r.skips (is_younger number r) h in younger-shuts number r w.within w.chained inside p.1);
      })

  pub well-joined : (number half : ℕ) (r s : Raw C) → Joins number half r s → IsWell r → IsWell s
  well-joined number half r s j w =
      let flag : Bool = (kept_under number r).flag || ((kept_under half r).flag && r.flag) in
      subst (λ (t : Raw C). IsWell t) (sym j.state)
      (record {
        within = within-remarked s.live flag r w.within;
        chained = chained-remarked s.live flag r.skips r w.within w.chained (λ h. h)
            (λ on key i k hk l p. let kl = key-inside r.entries k key hk in
            mark-both s.live (block_later half r) r.live (length r.entries) i (omega (arith, l, kl)) (j.both (length r.entries)) p.mark);
      })
