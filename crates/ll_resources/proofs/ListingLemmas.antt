-- Entries of a key are listed.
use Rattle.std.proofs.Common.{◌≡◌, ℕ, zero, suc, ◌+◌, ◌-◌, ◌<◌, ◌≤◌, Bool, true, false, ◌||◌, ◌&&◌, not, List, [], ◌∷◌, length, map, get_or, drop}
use Rattle.std.proofs.Common.{refl, ap, sym, subst, ◌∙◌, inl, inr, arith, ◌⊎◌}
use Rattle.std.specs.Prelude.{reverse, nat_lt, Option, Some, None, if◌then◌else◌, slice_get, min}
use Rattle.std.proofs.lemmas.Bool.{cases_lt, eqb-true, eq-eqb, ltb-true, ltb-false, lt-ltb, false≢true, and_parts, and_from, or_left, or_right}
use Rattle.std.proofs.lemmas.List.{length-map, length-reverse, get_or-map, get_or_past, get_or-drop, get_or-reverse}
use Rattle.std.proofs.Math.Bool.{and-false}
use Rattle.ll_laws.specs.Attempt.{is_linear, is_open}
use Rattle.ll_laws.specs.Settle.{Entry as Resource, has_live}
use Rattle.ll_resources.specs.declared.keyed.Keyed.{Keyed}
use Rattle.ll_resources.specs.declared.state.Stored.{Stored}
use Rattle.ll_resources.specs.Seen.{seen, seen_all}
use Rattle.ll_resources.specs.Keys.{has_key, is_found, open_found, comes, open_coming, found_by, to_come}
use Rattle.ll_resources.specs.Raw.{Raw, shown}
use Rattle.ll_resources.specs.Chains.{key_at, linear_at, past_at, under_at, mark_of, open_at, wanted, IsChained, IsNewestOpen}
use Rattle.ll_resources.proofs.SeenLemmas.{seen-first, length-seen, get-seen}
use Rattle.ll_resources.proofs.RawLemmas.{keys_of}

-- ---- tests

has-is : (key : ℕ) (given : Option ℕ) → has_key key given ≡ true → given ≡ Some key
has-is key None h = absurd (false≢true h)
has-is key (Some k) h = ap (λ n. Some n) (eqb-true k key h)

apart : (a b c d o : Bool) → (((a && b) || (c && d)) && o) ≡ (((a && o) && b) || ((c && o) && d))
apart true true true true true = refl
apart true true true true false = refl
apart true true true false true = refl
apart true true true false false = refl
apart true true false d true = refl
apart true true false d false = refl
apart true false true true true = refl
apart true false true true false = refl
apart true false true false true = refl
apart true false true false false = refl
apart true false false d true = refl
apart true false false d false = refl
apart false b true true true = refl
apart false b true true false = refl
apart false b true false true = refl
apart false b true false false = refl
apart false b false d o = refl

not_both : (a o : Bool) → (a ≡ true → o ≡ false) → (a && o) ≡ false
not_both true o h = h refl
not_both false o h = refl

closed_is : (l m : Bool) → l ≡ true → m ≡ false → (not l || m) ≡ false
closed_is true m e h = h
closed_is false m e h = absurd (false≢true e)

-- ---- what is passed

module _ {C : Type 0} where
  pub none-there : (r : Raw C) (key i : ℕ) → length r.entries ≤ i → wanted r key i ≡ false
  none-there r key i past =
      let n = length-map r.entries (λ (s : Stored C). s.key) in
      let none : key_at r.entries i ≡ None = get_or_past (map (λ (s : Stored C). s.key) r.entries) i None (omega (arith, n, past)) in
      ap (λ g. has_key key g && open_at r i) none

  pub other-key : (r : Raw C) (key i : ℕ) (s : Stored C) → i < length r.entries → s ≡ get_or r.entries i s → has_key key s.key ≡ false → wanted r key i ≡ false
  other-key r key i s l e h =
      let k : key_at r.entries i ≡ s.key = get_or-map (λ (x : Stored C). x.key) r.entries i s None l ∙ ap (λ (x : Stored C). x.key) (sym e) in
      ap (λ g. has_key key g && open_at r i) k ∙ ap (λ b. b && open_at r i) h

  pub same-key : (r : Raw C) (key i : ℕ) (s : Stored C) → i < length r.entries → s ≡ get_or r.entries i s → has_key key s.key ≡ true
      → key_at r.entries i ≡ Some key
  same-key r key i s l e h =
      get_or-map (λ (x : Stored C). x.key) r.entries i s None l ∙ (ap (λ (x : Stored C). x.key) (sym e) ∙ has-is key s.key h)

  pub is-wanted : (r : Raw C) (key i : ℕ) → key_at r.entries i ≡ Some key → open_at r i ≡ true → wanted r key i ≡ true
  is-wanted r key i k o = and_from (has_key key (key_at r.entries i)) (open_at r i) (ap (has_key key) k ∙ eq-eqb key key refl) o

  pub not-wanted : (r : Raw C) (key i : ℕ) → open_at r i ≡ false → wanted r key i ≡ false
  not-wanted r key i o = not_both (has_key key (key_at r.entries i)) (open_at r i) (λ h. o)

  -- between an entry and the place that it names no open one has its key
  pub skipped : (r : Raw C) (key i j : ℕ) → IsChained r → key_at r.entries j ≡ Some key → i < j
      → (if r.skips then past_at r.entries j else under_at r.entries j) ≤ i → wanted r key i ≡ false
  skipped r key i j c kj l low = not_both (has_key key (key_at r.entries i)) (open_at r i) (λ h. step r.skips refl low (has-is key (key_at r.entries i) h))
    where
      step : (b : Bool) → r.skips ≡ b → (if b then past_at r.entries j else under_at r.entries j) ≤ i → key_at r.entries i ≡ Some key → open_at r i ≡ false
      step true e low ki = let s = c.past e key i j ki kj l low in closed_is (linear_at r.entries i) (mark_of (length r.entries) r.live i) s.linear s.mark
      step false e low ki = let u = c.under key i j ki kj l in absurd (omega (arith, u, low))

  pub older-is : (r : Raw C) (j n : ℕ) (s : Stored C) → j < length r.entries → s ≡ get_or r.entries j s → n ≡ (if r.skips then s.past else s.under)
      → n ≡ (if r.skips then past_at r.entries j else under_at r.entries j)
  older-is r j n s l e h =
      let p : past_at r.entries j ≡ s.past = get_or-map (λ (x : Stored C). x.past) r.entries j s 0 l ∙ ap (λ (x : Stored C). x.past) (sym e) in
      let u : under_at r.entries j ≡ s.under = get_or-map (λ (x : Stored C). x.under) r.entries j s 0 l ∙ ap (λ (x : Stored C). x.under) (sym e) in
      h ∙ (λ i. if r.skips then (sym p) i else (sym u) i)

  -- ---- lists of entries, the newest in front

  abbrev open_in : List (Stored C) → List Bool → ℕ → Bool
  open_in ss bs j = not (get_or (map (λ (s : Stored C). is_linear s.kind) ss) j true) || get_or bs j false

  -- the entry at a place from the front is still to come
  abbrev due_in : Keyed → List (Stored C) → List Bool → ℕ → Bool
  due_in k ss bs j = comes k (length ss - 1 - j) (get_or (keys_of ss) j None) && open_in ss bs j

  due-head : (k : Keyed) (s : Stored C) (ss : List (Stored C)) (bs : List Bool)
      → due_in k (s ∷ ss) bs 0 ≡ (comes k (length ss) s.key && is_open (seen s (get_or bs 0 false)))
  due-head k s ss bs =
      ap (λ p. comes k p s.key && open_in (s ∷ ss) bs 0) (let e : suc (length ss) - 1 - 0 ≡ length ss = omega arith in e)

  due-tail : (k : Keyed) (s : Stored C) (ss : List (Stored C)) (bs : List Bool) (j : ℕ) → due_in k (s ∷ ss) bs (suc j) ≡ due_in k ss (drop 1 bs) j
  due-tail k s ss bs j =
      ap (λ p. comes k p (get_or (keys_of ss) j None) && open_in (s ∷ ss) bs (suc j))
      (let e : suc (length ss) - 1 - suc j ≡ length ss - 1 - j = omega arith in e)
      ∙ ap (λ b. comes k (length ss - 1 - j) (get_or (keys_of ss) j None) && (not (get_or (map (λ (s : Stored C). is_linear s.kind) ss) j true) || b))
      (ap (λ n. get_or bs n false) (let e : suc j ≡ 1 + j = omega arith in e) ∙ sym (get_or-drop 1 bs j false))

  -- those that are to come, by the newest
  coming-first : (k : Keyed) (s : Stored C) (ss : List (Stored C)) (bs : List Bool)
      → open_coming k (keys_of (s ∷ ss)) (seen_all (s ∷ ss) bs)
      ≡ (if due_in k (s ∷ ss) bs 0
      then seen s (get_or bs 0 false) ∷ open_coming k (keys_of ss) (seen_all ss (drop 1 bs))
      else open_coming k (keys_of ss) (seen_all ss (drop 1 bs)))
  coming-first k s ss bs =
      let e : Resource C = seen s (get_or bs 0 false) in
      let es : List (Resource C) = seen_all ss (drop 1 bs) in
      ap (λ xs. open_coming k (keys_of (s ∷ ss)) xs) (seen-first s ss bs)
      ∙ (ap (λ n. if comes k n s.key && is_open e then e ∷ open_coming k (keys_of ss) es else open_coming k (keys_of ss) es) (length-seen ss (drop 1 bs))
      ∙ ap (λ b. if b then e ∷ open_coming k (keys_of ss) es else open_coming k (keys_of ss) es) (sym (due-head k s ss bs)))

  -- as many as are to come under another
  coming-same : (k m : Keyed) (ss : List (Stored C)) (bs : List Bool) → ((j : ℕ) → j < length ss → due_in k ss bs j ≡ due_in m ss bs j)
      → open_coming k (keys_of ss) (seen_all ss bs) ≡ open_coming m (keys_of ss) (seen_all ss bs)
  coming-same k m [] bs h = refl
  coming-same k m (s ∷ ss) bs h =
      let rest = coming-same k m ss (drop 1 bs)
      (λ j l. sym (due-tail k s ss bs j) ∙ (h (suc j) (omega (arith, l)) ∙ due-tail m s ss bs j)) in
      let e : Resource C = seen s (get_or bs 0 false) in
      coming-first k s ss bs
      ∙ (ap (λ b. if b then e ∷ open_coming k (keys_of ss) (seen_all ss (drop 1 bs)) else open_coming k (keys_of ss) (seen_all ss (drop 1 bs))) (h 0
      (omega arith))
      ∙ (ap (λ es. if due_in m (s ∷ ss) bs 0 then e ∷ es else es) rest ∙ sym (coming-first m s ss bs)))

  -- none
  coming-none : (k : Keyed) (ss : List (Stored C)) (bs : List Bool) → ((j : ℕ) → j < length ss → due_in k ss bs j ≡ false)
      → open_coming k (keys_of ss) (seen_all ss bs) ≡ []
  coming-none k [] bs h = refl
  coming-none k (s ∷ ss) bs h =
      let rest = coming-none k ss (drop 1 bs) (λ j l. sym (due-tail k s ss bs j) ∙ h (suc j) (omega (arith, l))) in
      coming-first k s ss bs
      ∙ (ap (λ b. if b then seen s (get_or bs 0 false) ∷ open_coming k (keys_of ss) (seen_all ss (drop 1 bs))
      else open_coming k (keys_of ss) (seen_all ss (drop 1 bs))) (h 0 (omega arith)) ∙ rest)

  -- the first, and those behind it
  coming-next : (k m : Keyed) (ss : List (Stored C)) (bs : List Bool) (j : ℕ) (d : Stored C) → j < length ss → due_in k ss bs j ≡ true
      → ((i : ℕ) → i < j → due_in k ss bs i ≡ false) → ((i : ℕ) → j < i → i < length ss → due_in k ss bs i ≡ due_in m ss bs i)
      → ((i : ℕ) → i ≤ j → due_in m ss bs i ≡ false)
      → open_coming k (keys_of ss) (seen_all ss bs) ≡ seen (get_or ss j d) (get_or bs j false) ∷ open_coming m (keys_of ss) (seen_all ss bs)
  coming-next k m [] bs j d l here before behind gone = absurd (omega (arith, l))
  coming-next k m (s ∷ ss) bs zero d l here before behind gone =
      let rest = coming-same k m ss (drop 1 bs)
      (λ i il. sym (due-tail k s ss bs i) ∙ (behind (suc i) (omega arith) (omega (arith, il)) ∙ due-tail m s ss bs i)) in
      let e : Resource C = seen s (get_or bs 0 false) in
      coming-first k s ss bs
      ∙ (ap (λ b. if b then e ∷ open_coming k (keys_of ss) (seen_all ss (drop 1 bs)) else open_coming k (keys_of ss) (seen_all ss (drop 1 bs))) here
      ∙ (ap (λ es. e ∷ es) rest
      ∙ sym (ap (λ es. e ∷ es) (coming-first m s ss bs
      ∙ ap (λ b. if b then e ∷ open_coming m (keys_of ss) (seen_all ss (drop 1 bs)) else open_coming m (keys_of ss) (seen_all ss (drop 1 bs)))
      (gone 0 (omega arith))))))
  coming-next k m (s ∷ ss) bs (suc j) d l here before behind gone =
      let rest = coming-next k m ss (drop 1 bs) j d (omega (arith, l)) (sym (due-tail k s ss bs j) ∙ here)
      (λ i il. sym (due-tail k s ss bs i) ∙ before (suc i) (omega (arith, il)))
      (λ i low il. sym (due-tail k s ss bs i) ∙ (behind (suc i) (omega (arith, low)) (omega (arith, il)) ∙ due-tail m s ss bs i))
      (λ i il. sym (due-tail m s ss bs i) ∙ gone (suc i) (omega (arith, il))) in
      let e : Resource C = seen s (get_or bs 0 false) in
      let mark : get_or (drop 1 bs) j false ≡ get_or bs (suc j) false =
      get_or-drop 1 bs j false ∙ ap (λ n. get_or bs n false) (let e : 1 + j ≡ suc j = omega arith in e) in
      coming-first k s ss bs
      ∙ (ap (λ b. if b then e ∷ open_coming k (keys_of ss) (seen_all ss (drop 1 bs)) else open_coming k (keys_of ss) (seen_all ss (drop 1 bs)))
      (before 0 (omega arith))
      ∙ (rest
      ∙ (ap (λ b. seen (get_or ss j d) b ∷ open_coming m (keys_of ss) (seen_all ss (drop 1 bs))) mark
      ∙ ap (λ es. seen (get_or ss j d) (get_or bs (suc j) false) ∷ es)
      (sym (coming-first m s ss bs
      ∙ ap (λ b. if b then e ∷ open_coming m (keys_of ss) (seen_all ss (drop 1 bs)) else open_coming m (keys_of ss) (seen_all ss (drop 1 bs)))
      (gone 0 (omega arith)))))))

  -- all that are found
  coming-all : (k : Keyed) (key : ℕ) (ss : List (Stored C)) (bs : List Bool)
      → ((j : ℕ) → j < length ss → comes k (length ss - 1 - j) (get_or (keys_of ss) j None) ≡ is_found key (get_or (keys_of ss) j None))
      → open_coming k (keys_of ss) (seen_all ss bs) ≡ open_found key (keys_of ss) (seen_all ss bs)
  coming-all k key [] bs h = refl
  coming-all k key (s ∷ ss) bs h =
      let rest = coming-all k key ss (drop 1 bs)
      (λ j l. ap (λ p. comes k p (get_or (keys_of ss) j None)) (let e : length ss - 1 - j ≡ suc (length ss) - 1 - suc j = omega arith in e)
      ∙ h (suc j) (omega (arith, l))) in
      let e : Resource C = seen s (get_or bs 0 false) in
      let here : comes k (length (seen_all ss (drop 1 bs))) s.key ≡ is_found key s.key =
      ap (λ p. comes k p s.key) (let n = length-seen ss (drop 1 bs) in let q : length (seen_all ss (drop 1 bs)) ≡ suc (length ss) - 1 - 0 = omega
      (arith, n) in q)
      ∙ h 0 (omega arith) in
      ap (λ es. open_coming k (keys_of (s ∷ ss)) es) (seen-first s ss bs)
      ∙ (ap (λ b. if b && is_open e then e ∷ open_coming k (keys_of ss) (seen_all ss (drop 1 bs)) else open_coming k (keys_of ss) (seen_all ss
      (drop 1 bs))) here
      ∙ (ap (λ es. if is_found key s.key && is_open e then e ∷ es else es) rest
      ∙ ap (λ es. open_found key (keys_of (s ∷ ss)) es) (sym (seen-first s ss bs))))

  -- ---- entries by their places from the oldest

  -- still to come, by the place
  abbrev due : Keyed → Raw C → ℕ → Bool
  due k r i = (wanted r k.key i && nat_lt i k.own) || (wanted r 0 i && nat_lt i k.any)

  key-back : (r : Raw C) (j : ℕ) → j < length r.entries → get_or (keys_of (reverse r.entries)) j None ≡ key_at r.entries (length r.entries - 1 - j)
  key-back r j l = by r.entries l
    where
      by : (es : List (Stored C)) → j < length es → get_or (keys_of (reverse es)) j None ≡ key_at es (length es - 1 - j)
      by [] l = absurd (omega (arith, l))
      by (x ∷ xs) l =
          let es : List (Stored C) = x ∷ xs in let n = length-reverse es in
          get_or-map (λ (s : Stored C). s.key) (reverse es) j x None (omega (arith, n, l))
          ∙ (ap (λ (s : Stored C). s.key) (get_or-reverse es j x l)
          ∙ sym (get_or-map (λ (s : Stored C). s.key) es (length es - 1 - j) x None (omega (arith, l))))

  linear-back : (r : Raw C) (j : ℕ) → j < length r.entries
      → get_or (map (λ (s : Stored C). is_linear s.kind) (reverse r.entries)) j true ≡ linear_at r.entries (length r.entries - 1 - j)
  linear-back r j l = by r.entries l
    where
      by : (es : List (Stored C)) → j < length es
          → get_or (map (λ (s : Stored C). is_linear s.kind) (reverse es)) j true ≡ linear_at es (length es - 1 - j)
      by [] l = absurd (omega (arith, l))
      by (x ∷ xs) l =
          let es : List (Stored C) = x ∷ xs in let n = length-reverse es in
          get_or-map (λ (s : Stored C). is_linear s.kind) (reverse es) j x true (omega (arith, n, l))
          ∙ (ap (λ (s : Stored C). is_linear s.kind) (get_or-reverse es j x l)
          ∙ sym (get_or-map (λ (s : Stored C). is_linear s.kind) es (length es - 1 - j) x true (omega (arith, l))))

  due-back : (k : Keyed) (r : Raw C) (j : ℕ) → j < length r.entries
      → due_in k (reverse r.entries) (reverse r.live) j ≡ due k r (length r.entries - 1 - j)
  due-back k r j l =
      let p : ℕ = length r.entries - 1 - j in
      let n = length-reverse r.entries in
      let place : length (reverse r.entries) - 1 - j ≡ p = omega (arith, n) in
      let back : length r.entries - 1 - p ≡ j = omega (arith, l) in
      let key = key-back r j l in let linear = linear-back r j l in
      let open_now : open_in (reverse r.entries) (reverse r.live) j ≡ open_at r p =
      (λ i. not (linear i) || get_or (reverse r.live) ((sym back) i) false) in
      (λ i. comes k (place i) (key i) && open_now i)
      ∙ apart (has_key k.key (key_at r.entries p)) (nat_lt p k.own) (has_key 0 (key_at r.entries p)) (nat_lt p k.any) (open_at r p)

  -- ---- the list of a key

  pub keyed-all : (k : Keyed) (key : ℕ) (r : Raw C) → IsChained r → k.key ≡ key → k.own ≡ r.tops key → k.any ≡ r.tops 0
      → to_come k (shown r) ≡ found_by key (shown r)
  keyed-all k key r c e own any = coming-all k key (reverse r.entries) (reverse r.live) (λ j l.
      let n = length-reverse r.entries in
      let jl : j < length r.entries = omega (arith, n, l) in
      let p : ℕ = length r.entries - 1 - j in
      let place : length (reverse r.entries) - 1 - j ≡ p = omega (arith, n) in
      let g : Option ℕ = key_at r.entries p in
      let a : (has_key key g && nat_lt p (r.tops key)) ≡ has_key key g = below key p g refl in
      let b : (has_key 0 g && nat_lt p (r.tops 0)) ≡ has_key 0 g = below 0 p g refl in
      (λ i. comes k (place i) (key-back r j jl i))
      ∙ ((λ i. (has_key (e i) g && nat_lt p (own i)) || (has_key 0 g && nat_lt p (any i)))
      ∙ ((λ i. a i || b i) ∙ ap (is_found key) (sym (key-back r j jl)))))
    where
      below : (q p : ℕ) (g : Option ℕ) → key_at r.entries p ≡ g → (has_key q g && nat_lt p (r.tops q)) ≡ has_key q g
      below q p g e = step (has_key q g) refl
        where
          step : (b : Bool) → has_key q g ≡ b → (b && nat_lt p (r.tops q)) ≡ b
          step true h = lt-ltb p (r.tops q) (c.tops q p (e ∙ has-is q g h))
          step false h = refl

-- ---- parts of tests

half : (w : Bool) (p n : ℕ) → (p < n → w ≡ false) → (w && nat_lt p n) ≡ false
half w p n h = step (nat_lt p n) refl
  where
    step : (b : Bool) → nat_lt p n ≡ b → (w && b) ≡ false
    step true e = ap (λ x. x && true) (h (ltb-true p n e))
    step false e = and-false w

same_half : (w : Bool) (p a b : ℕ) → b ≤ a → (b ≤ p → p < a → w ≡ false) → (w && nat_lt p a) ≡ (w && nat_lt p b)
same_half w p a b l h = step (nat_lt p b) refl
  where
    step : (t : Bool) → nat_lt p b ≡ t → (w && nat_lt p a) ≡ (w && t)
    step true e = let q = ltb-true p b e in ap (λ x. w && x) (lt-ltb p a (omega (arith, q, l)))
    step false e = half w p a (h (ltb-false p b e)) ∙ sym (and-false w)

-- what is to come behind the newest one of a key
pub record IsBehind {C : Type 0} (r : Raw C) (key own at behind : ℕ) : Type 0 where
  pub low : behind ≤ at
  pub within : behind ≤ own
  pub none : (i : ℕ) → behind ≤ i → i < at → i < own → wanted r key i ≡ false

module _ {C : Type 0} where
  pub behind-own : (r : Raw C) (key from own at n behind : ℕ) → IsChained r → IsNewestOpen r key from own → own ≡ suc at
      → n ≡ (if r.skips then past_at r.entries at else under_at r.entries at) → behind ≡ min n at → IsBehind r key own at behind
  behind-own r key from own at n behind c o e older b =
      let w : wanted r key at ≡ true = subst (λ x. wanted r key x ≡ true) (let q : own - 1 ≡ at = omega (arith, e) in q) (o.here (omega (arith, e))) in
      let p = and_parts (has_key key (key_at r.entries at)) (open_at r at) w in
      record {
        low = omega (arith, b);
        within = omega (arith, b, e);
        none = λ i low l k. skipped r key i at c (has-is key (key_at r.entries at) p.0) l
            (subst (λ x. x ≤ i) older (let q : n ≤ i = omega (arith, b, low, l) in q));
      }

  pub behind-other : (r : Raw C) (key own at behind : ℕ) → own ≤ at → behind ≡ own → IsBehind r key own at behind
  behind-other r key own at behind l e = record {
    low = omega (arith, l, e);
    within = omega (arith, e);
    none = λ i low k m. absurd (omega (arith, e, low, m));
  }

  due-none : (k : Keyed) (r : Raw C) (p : ℕ) → (p < k.own → wanted r k.key p ≡ false) → (p < k.any → wanted r 0 p ≡ false) → due k r p ≡ false
  due-none k r p a b = (λ i. half (wanted r k.key p) p k.own a i || half (wanted r 0 p) p k.any b i)

  pub next-none : (k : Keyed) (r : Raw C) (own any : ℕ) → IsNewestOpen r k.key k.own own → IsNewestOpen r 0 k.any any → own ≡ 0 → any ≡ 0
      → to_come k (shown r) ≡ []
  next-none k r own any o a e f = coming-none k (reverse r.entries) (reverse r.live) (λ j l.
      let n = length-reverse r.entries in
      due-back k r j (omega (arith, n, l))
      ∙ due-none k r (length r.entries - 1 - j) (λ x. o.none (length r.entries - 1 - j) (omega (arith, e)) x)
      (λ x. a.none (length r.entries - 1 - j) (omega (arith, f)) x))

  pub next-some : (k : Keyed) (r : Raw C) (own any at own2 any2 : ℕ) (e : Resource C) → IsNewestOpen r k.key k.own own → IsNewestOpen r 0 k.any any
      → own ≤ suc at → any ≤ suc at → (own ≡ suc at) ⊎ (any ≡ suc at) → IsBehind r k.key own at own2 → IsBehind r 0 any at any2
      → slice_get (shown r).entries (length r.entries - 1 - at) ≡ Some e
      → to_come k (shown r) ≡ e ∷ to_come (record { key = k.key; own = own2; any = any2 }) (shown r)
  next-some k r own any at own2 any2 e o a ol al some bo ba here =
      let m : Keyed = record { key = k.key; own = own2; any = any2 } in
      let n = length-reverse r.entries in
      let inside : at < length r.entries = elim some [
        | inl x ↦ let t = o.there in omega (arith, x, t)
        | inr x ↦ let t = a.there in omega (arith, x, t)
      ] in
      let j : ℕ = length r.entries - 1 - at in
      let jl : j < length (reverse r.entries) = omega (arith, n, inside) in
      let place : length r.entries - 1 - j ≡ at = omega (arith, inside) in
      let d : Stored C = some_item r.entries inside in
      let due_now : due k r at ≡ true = elim some [
        | inl x ↦
            let w : wanted r k.key at ≡ true = subst (λ y. wanted r k.key y ≡ true) (let q : own - 1 ≡ at = omega (arith, x) in q) (o.here (omega
            (arith, x))) in
            let t = o.within in
            or_left (wanted r k.key at && nat_lt at k.own) (wanted r 0 at && nat_lt at k.any)
            (and_from (wanted r k.key at) (nat_lt at k.own) w (lt-ltb at k.own (omega (arith, x, t))))
        | inr x ↦
            let w : wanted r 0 at ≡ true = subst (λ y. wanted r 0 y ≡ true) (let q : any - 1 ≡ at = omega (arith, x) in q) (a.here (omega (arith, x))) in
            let t = a.within in
            or_right (wanted r k.key at && nat_lt at k.own) (wanted r 0 at && nat_lt at k.any)
            (and_from (wanted r 0 at) (nat_lt at k.any) w (lt-ltb at k.any (omega (arith, x, t))))
      ] in
      let first : seen (get_or (reverse r.entries) j d) (get_or (reverse r.live) j false) ≡ e =
      (let s = get-seen (reverse r.entries) (reverse r.live) j d jl in cc (s, here)) in
      coming-next k m (reverse r.entries) (reverse r.live) j d jl
      (due-back k r j (omega (arith, n, jl)) ∙ (ap (due k r) place ∙ due_now))
      (λ i il. due-back k r i (omega (arith, n, jl, il)) ∙ due-none k r (length r.entries - 1 - i)
      (λ x. o.none (length r.entries - 1 - i) (omega (arith, ol, il, inside)) x) (λ x. a.none (length r.entries - 1 - i) (omega (arith, al, il, inside)) x))
      (λ i low il.
      let p : ℕ = length r.entries - 1 - i in
      let il2 : i < length r.entries = omega (arith, n, il) in
      let pl : p < at = omega (arith, low, il2, inside) in
      let b1 = bo.within in let b2 = ba.within in let w1 = o.within in let w2 = a.within in
      due-back k r i il2
      ∙ ((λ t. same_half (wanted r k.key p) p k.own own2 (omega (arith, b1, w1))
      (λ x y. elim (cases_lt p own) [ inl q ↦ bo.none p x pl q | inr q ↦ o.none p q y ]) t
      || same_half (wanted r 0 p) p k.any any2 (omega (arith, b2, w2))
      (λ x y. elim (cases_lt p any) [ inl q ↦ ba.none p x pl q | inr q ↦ a.none p q y ]) t)
      ∙ sym (due-back m r i il2)))
      (λ i il.
      let l1 = bo.low in let l2 = ba.low in
      due-back m r i (omega (arith, n, jl, il)) ∙ due-none m r (length r.entries - 1 - i)
      (λ x. absurd (omega (arith, l1, il, inside, x))) (λ x. absurd (omega (arith, l2, il, inside, x))))
      ∙ ap (λ x. x ∷ to_come m (shown r)) first
    where
      some_item : (xs : List (Stored C)) → at < length xs → Stored C
      some_item [] l = absurd (omega (arith, l))
      some_item (x ∷ xs) l = x

  -- ---- live entries

  pub live-found : (ss : List (Stored C)) (bs : List Bool) (j : ℕ) → j < length ss → get_or bs j false ≡ true → has_live (seen_all ss bs) ≡ true
  live-found [] bs j l h = absurd (omega (arith, l))
  live-found (s ∷ ss) [] j l h = absurd (false≢true h)
  live-found (s ∷ ss) (b ∷ bs) zero l h = or_left b (has_live (seen_all ss bs)) h
  live-found (s ∷ ss) (b ∷ bs) (suc j) l h = or_right b (has_live (seen_all ss bs)) (live-found ss bs j (omega (arith, l)) h)

  pub live-none : (ss : List (Stored C)) (bs : List Bool) → ((j : ℕ) → j < length ss → get_or bs j false ≡ false) → has_live (seen_all ss bs) ≡ false
  live-none [] bs h = refl
  live-none (s ∷ ss) [] h = live-none ss [] (λ j l. refl)
  live-none (s ∷ ss) (b ∷ bs) h = (λ i. h 0 (omega arith) i || live-none ss bs (λ j l. h (suc j) (omega (arith, l))) i)
