-- Numbers of texts: what callers know of them, and how a table of texts has them.
use Rattle.std.proofs.Common.{◌≡◌, ℕ, ◌+◌, ◌<◌, ◌≤◌, ◌||◌, Bool, true, false, not, cond, eqb, ltb, List, [], ◌∷◌, ◌++◌, length, map, slice_get, position}
use Rattle.std.proofs.Common.{Option, Some, None, get_or, refl, ap, sym, subst, ◌∙◌, arith, true≢false, if◌then◌else◌, length-append, append_assoc}
use Rattle.std.specs.List.{list_any, position_or_len, IsDistinct, AllByRecursion, AllZip}
use Rattle.std.specs.Str.{bytes_eq}
use Rattle.std.proofs.lemmas.Bool.{false_from_ne_true, ltb-false, le-ltb, or_parts}
use Rattle.std.proofs.lemmas.Bool.Decides.{Decides-ltb, Decides-eqb}
use Rattle.std.proofs.lemmas.List.{append-nil, get_or-append-add, length-map}
use Rattle.std.proofs.lemmas.List.Quantifiers.{position-Some}
use Rattle.std.proofs.lemmas.List.Folds.{list_any_at, position_or_len_push}
use Rattle.std.proofs.lemmas.List.Sums.{prefix_len-le-length, position_or_len_is}
use Rattle.std.proofs.lemmas.Map.Made.{AllPairs-from_IsDistinct}
use Rattle.std.proofs.lemmas.Option.{slice_get-get_or, get_or_from_slice_get, slice_get_within}
use Rattle.std.proofs.lemmas.Slice.Eq.{bytes_eq-Decides}
use Rattle.std.proofs.Math.ListN.{get_or-append}
use Rattle.ll_list_laws.proofs.CallerLemmas.{position_within}
use Rattle.ll_bank.specs.Names.{number_of, with_name}

-- ---- the first place at which a test passes

-- where there is one
position_at : {X : Type 0} (p : X → Bool) (xs : List X) → position_or_len p xs < length xs → position p xs ≡ Some (position_or_len p xs)
position_at {X} p xs h = ap (λ b. cond b (Some (position_or_len p xs)) None) ((Decides-ltb (position_or_len p xs) (length xs)).1 h)

-- it stays where an element that passes is put behind
position_or_len-push : {X : Type 0} (p : X → Bool) (xs : List X) (y : X) → p y ≡ true → position_or_len p (xs ++ y ∷ []) ≡ position_or_len p xs
position_or_len-push p xs y h =
    position_or_len_push p xs y
    ∙ (ap (λ b. cond (eqb (position_or_len p xs) (length xs)) (length xs + cond b 0 1) (position_or_len p xs)) h
    ∙ same (eqb (position_or_len p xs) (length xs)) (Decides-eqb (position_or_len p xs) (length xs)).0)
  where
    same : (b : Bool) → (b ≡ true → position_or_len p xs ≡ length xs) → cond b (length xs + 0) (position_or_len p xs) ≡ position_or_len p xs
    same true e = let k = e refl in omega arith
    same false e = refl

-- where there is none, it is the end
position_none : {X : Type 0} (p : X → Bool) (xs : List X) → position p xs ≡ None → position_or_len p xs ≡ length xs
position_none p xs h = by (ltb (position_or_len p xs) (length xs)) refl h
  where
    by : (b : Bool) → ltb (position_or_len p xs) (length xs) ≡ b → cond b (Some (position_or_len p xs)) None ≡ None → position_or_len p xs ≡ length xs
    by true e k = cc
    by false e k = let low = prefix_len-le-length (λ x. not (p x)) xs in let out = ltb-false (position_or_len p xs) (length xs) e in omega arith

-- and in two lists, one behind the other, it is in the second one where the first one has none
position_or_len-behind : {X : Type 0} (p : X → Bool) (xs ys : List X) → position_or_len p xs ≡ length xs
    → position_or_len p (xs ++ ys) ≡ length xs + position_or_len p ys
position_or_len-behind p [] ys h = omega arith
position_or_len-behind p (x ∷ xs) ys h = by (p x) h (position_or_len-behind p xs ys)
  where
    by : (b : Bool) → cond (not b) (1 + position_or_len p xs) 0 ≡ length (x ∷ xs)
        → (position_or_len p xs ≡ length xs → position_or_len p (xs ++ ys) ≡ length xs + position_or_len p ys)
        → cond (not b) (1 + position_or_len p (xs ++ ys)) 0 ≡ length (x ∷ xs) + position_or_len p ys
    by true e rest = absurd (omega arith)
    by false e rest = let k = rest (omega arith) in omega arith

-- ---- what callers know

-- a text has its number
pub slice_get-number_of : (texts : List (List ℕ)) (text : List ℕ) (n : ℕ) → number_of texts text ≡ Some n → slice_get texts n ≡ Some text
slice_get-number_of texts text n e =
    let p = position-Some (bytes_eq text) texts n [] e in
    slice_get-get_or texts n [] p.0 ∙ ap (λ t. let o : Option (List ℕ) = Some t in o) (sym ((bytes_eq-Decides text (get_or texts n [])).0 p.1))

-- a text that is there is not added again
pub with_name-present : (texts : List (List ℕ)) (text : List ℕ) (n : ℕ) → number_of texts text ≡ Some n → with_name texts text ≡ texts
with_name-present texts text n e =
    let p = position-Some (bytes_eq text) texts n [] e in
    ap (λ b. if b then texts else texts ++ text ∷ []) (list_any_at (bytes_eq text) texts n [] p.0 p.1)

-- an added text has a number: its old place, or the next one
pub number_of-with_name : (texts : List (List ℕ)) (text : List ℕ) → number_of (with_name texts text) text ≡ Some (position_or_len (bytes_eq text) texts)
number_of-with_name texts text = by (list_any (bytes_eq text) texts) refl
  where
    by : (b : Bool) → list_any (bytes_eq text) texts ≡ b → number_of (if b then texts else texts ++ text ∷ []) text
        ≡ Some (position_or_len (bytes_eq text) texts)
    by true e = position_at (bytes_eq text) texts (position_within (bytes_eq text) texts e)
    by false e =
        let same = position_or_len-push (bytes_eq text) texts text ((bytes_eq-Decides text text).1 refl) in
        let low = prefix_len-le-length (λ t. not (bytes_eq text t)) texts in
        position_at (bytes_eq text) (texts ++ text ∷ []) (rw (same, length-append) (omega arith)) ∙ ap (λ n. let o : Option ℕ = Some n in o) same

-- a text of the list has its place as its number, since no two are equal
pub number_of-slice_get : (texts : List (List ℕ)) (text : List ℕ) (n : ℕ) → IsDistinct bytes_eq texts → slice_get texts n ≡ Some text
    → number_of texts text ≡ Some n
number_of-slice_get texts text n distinct e =
    let here = get_or_from_slice_get texts n text [] e in
    let inside = slice_get_within texts n text e in
    let apart = AllPairs-from_IsDistinct bytes_eq-Decides texts distinct in
    let is = position_or_len_is (bytes_eq text) texts n [] (omega arith)
    (λ k l. false_from_ne_true (bytes_eq text (get_or texts k []))
    (λ same. apart k n [] l inside (sym ((bytes_eq-Decides text (get_or texts k [])).0 same) ∙ sym here)))
    (λ l. (bytes_eq-Decides text (get_or texts n [])).1 (sym here)) in
    position_at (bytes_eq text) texts (rw is inside) ∙ ap (λ k. let o : Option ℕ = Some k in o) is

-- what has no number is not there
absent : (texts : List (List ℕ)) (text : List ℕ) → number_of texts text ≡ None → list_any (bytes_eq text) texts ≡ false
absent texts text none =
    false_from_ne_true (list_any (bytes_eq text) texts) (λ e. let k = position_within (bytes_eq text) texts e in
    let l = position_none (bytes_eq text) texts none in absurd (omega arith))

-- ---- texts in two parts

-- a text that is not there goes last
pub with_name-absent : (texts : List (List ℕ)) (text : List ℕ) → number_of texts text ≡ None → with_name texts text ≡ texts ++ text ∷ []
with_name-absent texts text none = ap (λ b. if b then texts else texts ++ text ∷ []) (absent texts text none)

-- and its number is the next one
pub number_of-pushed : (texts : List (List ℕ)) (text : List ℕ) → number_of texts text ≡ None → number_of (texts ++ text ∷ []) text ≡ Some (length texts)
number_of-pushed texts text none =
    ap (λ ts. number_of ts text) (sym (with_name-absent texts text none))
    ∙ (number_of-with_name texts text ∙ ap (λ n. let o : Option ℕ = Some n in o) (position_none (bytes_eq text) texts none))

-- texts that differ do so either way round
pub differ_flipped : (s t : List ℕ) → bytes_eq s t ≡ false → bytes_eq t s ≡ false
differ_flipped s t e = false_from_ne_true (bytes_eq t s) (λ same. true≢false (sym ((bytes_eq-Decides s t).1 (sym ((bytes_eq-Decides t s).0 same))) ∙ e))

-- so texts that differ still do
pub IsDistinct-pushed : (texts : List (List ℕ)) (text : List ℕ) → IsDistinct bytes_eq texts → number_of texts text ≡ None
    → IsDistinct bytes_eq (texts ++ text ∷ [])
unfolding IsDistinct
IsDistinct-pushed texts text distinct none = behind_all texts distinct (absent texts text none)
  where
    behind_others : (t : List ℕ) (ts : List (List ℕ)) → bytes_eq t text ≡ false → AllByRecursion (λ y. bytes_eq t y ≡ false) ts
        → AllByRecursion (λ y. bytes_eq t y ≡ false) (ts ++ text ∷ [])
    behind_others t [] e h = (e, tt)
    behind_others t (x ∷ ts) e h = (h.0, behind_others t ts e h.1)

    behind_all : (ts : List (List ℕ)) → IsDistinct bytes_eq ts → list_any (bytes_eq text) ts ≡ false → IsDistinct bytes_eq (ts ++ text ∷ [])
    behind_all [] d e = (tt, tt)
    behind_all (t ∷ ts) d e =
        let n = or_parts (bytes_eq text t) (list_any (bytes_eq text) ts) e in (behind_others t ts (differ_flipped text t n.0) d.0, behind_all ts d.1 n.1)

-- a text put behind the second part goes behind both
pub pushed_behind : (front rest new texts : List (List ℕ)) (text : List ℕ) → front ++ rest ≡ texts → new ≡ rest ++ text ∷ [] → front ++ new ≡ texts ++ text ∷ []
pushed_behind front rest new texts text view e = ap (λ r. front ++ r) e ∙ (sym (append_assoc front rest (text ∷ [])) ∙ ap (λ ts. ts ++ text ∷ []) view)

module _ (front rest : List (List ℕ)) where
  -- a number of the front
  pub number_of-front : (text : List ℕ) (n : ℕ) → number_of front text ≡ Some n → number_of (front ++ rest) text ≡ Some n
  number_of-front text n e =
      let p = position-Some (bytes_eq text) front n [] e in
      let l = length-append front rest in
      let is = position_or_len_is (bytes_eq text) (front ++ rest) n [] (omega arith)
      (λ k below. ap (bytes_eq text) (get_or-append front rest [] k (omega arith)) ∙ p.2 k below)
      (λ m. ap (bytes_eq text) (get_or-append front rest [] n p.0) ∙ p.1) in
      position_at (bytes_eq text) (front ++ rest) (rw is (omega arith)) ∙ ap (λ k. let o : Option ℕ = Some k in o) is

  -- a number behind it
  pub number_of-behind : (text : List ℕ) (n : ℕ) → number_of front text ≡ None → number_of rest text ≡ Some n
      → number_of (front ++ rest) text ≡ Some (length front + n)
  number_of-behind text n none e =
      let p = position-Some (bytes_eq text) rest n [] e in
      let at = position_or_len_is (bytes_eq text) rest n [] (omega arith) p.2 (λ m. p.1) in
      let is : position_or_len (bytes_eq text) (front ++ rest) ≡ length front + n =
      position_or_len-behind (bytes_eq text) front rest (position_none (bytes_eq text) front none) ∙ ap (λ k. length front + k) at in
      position_at (bytes_eq text) (front ++ rest) (let l = length-append front rest in rw is (omega arith)) ∙ ap (λ k. let o : Option ℕ = Some k in o) is

  -- no number
  pub number_of-neither : (text : List ℕ) → number_of front text ≡ None → number_of rest text ≡ None → number_of (front ++ rest) text ≡ None
  number_of-neither text none nor =
      let is = position_or_len-behind (bytes_eq text) front rest (position_none (bytes_eq text) front none) in
      let end = position_none (bytes_eq text) rest nor in
      let l = length-append front rest in
      ap (λ b. cond b (Some (position_or_len (bytes_eq text) (front ++ rest))) None)
      (le-ltb (position_or_len (bytes_eq text) (front ++ rest)) (length (front ++ rest)) (omega arith))

  -- a text of the front
  pub slice_get-front : (text : List ℕ) (n : ℕ) → slice_get front n ≡ Some text → slice_get (front ++ rest) n ≡ Some text
  slice_get-front text n e =
      let inside = slice_get_within front n text e in
      let l = length-append front rest in
      slice_get-get_or (front ++ rest) n [] (omega arith)
      ∙ ap (λ t. let o : Option (List ℕ) = Some t in o) (get_or-append front rest [] n inside ∙ get_or_from_slice_get front n text [] e)

  -- a text behind it
  pub slice_get-behind : (text : List ℕ) (k n : ℕ) → length front + k ≡ n → slice_get rest k ≡ Some text → slice_get (front ++ rest) n ≡ Some text
  slice_get-behind text k n is e =
      let inside = slice_get_within rest k text e in
      let l = length-append front rest in
      subst (λ m. slice_get (front ++ rest) m ≡ Some text) is (slice_get-get_or (front ++ rest) (length front + k) [] (omega arith)
      ∙ ap (λ t. let o : Option (List ℕ) = Some t in o) (get_or-append-add front rest k [] ∙ get_or_from_slice_get rest k text [] e))

-- ---- one text more

-- at most one text is put behind the others
behind : (texts : List (List ℕ)) (text : List ℕ) (b : Bool) → (more : List (List ℕ))
    × (((if b then texts else texts ++ text ∷ []) ≡ texts ++ more) × (length more ≤ 1))
behind texts text true = ([], (sym (append-nil texts), omega arith))
behind texts text false = (text ∷ [], (refl, omega arith))

-- so there is at most one text more
pub length-with_name : (texts : List (List ℕ)) (text : List ℕ) → length (with_name texts text) ≤ length texts + 1
length-with_name texts text =
    let b = behind texts text (list_any (bytes_eq text) texts) in rw b.1.0 (let l = length-append texts b.0 in let k = b.1.1 in omega arith)

-- a number keeps its text
pub slice_get-with_name : (texts : List (List ℕ)) (text old : List ℕ) (n : ℕ) → slice_get texts n ≡ Some old → slice_get (with_name texts text) n ≡ Some old
slice_get-with_name texts text old n e = let b = behind texts text (list_any (bytes_eq text) texts) in rw b.1.0 (slice_get-front texts b.0 old n e)

-- and a text its number
pub number_of-with_name_old : (texts : List (List ℕ)) (text old : List ℕ) (n : ℕ) → number_of texts old ≡ Some n → number_of (with_name texts text) old ≡ Some n
number_of-with_name_old texts text old n e = let b = behind texts text (list_any (bytes_eq text) texts) in rw b.1.0 (number_of-front texts b.0 old n e)

-- ---- texts that are the bytes of keys, in a table of their places

-- keys that are copies have the same texts
pub same_texts : {K : Type 0} (bytes : K → List ℕ) (keys copies : List K) → AllZip (λ k c. bytes c ≡ bytes k) keys copies → map bytes copies ≡ map bytes keys
same_texts bytes [] [] h = refl
same_texts bytes [] (c ∷ copies) h = elim h [ ]
same_texts bytes (k ∷ keys) [] h = elim h [ ]
same_texts bytes (k ∷ keys) (c ∷ copies) h = λ i. h.0 i ∷ same_texts bytes keys copies h.1 i

-- a test of the texts of keys finds the same place
pub position_of_text : {K : Type 0} (bytes : K → List ℕ) (test : List ℕ → Bool) (keys : List K)
    → position (λ k. test (bytes k)) keys ≡ position test (map bytes keys)
position_of_text {K} bytes test keys =
    let same = sym (length-map keys bytes) in λ i. cond (ltb (first keys i) (same i)) (Some (first keys i)) None
  where
    first : (ks : List K) → position_or_len (λ k. test (bytes k)) ks ≡ position_or_len test (map bytes ks)
    first [] = refl
    first (k ∷ ks) = ap (λ n. cond (not (test (bytes k))) (1 + n) 0) (first ks)

-- and one that finds none in the texts finds none in the keys
pub absent_key : {K : Type 0} (bytes : K → List ℕ) (keys : List K) (text : List ℕ) → number_of (map bytes keys) text ≡ None
    → list_any (λ k. bytes_eq text (bytes k)) keys ≡ false
absent_key {K} bytes keys text none = any keys ∙ absent (map bytes keys) text none
  where
    any : (ks : List K) → list_any (λ k. bytes_eq text (bytes k)) ks ≡ list_any (bytes_eq text) (map bytes ks)
    any [] = refl
    any (k ∷ ks) = ap (λ b. bytes_eq text (bytes k) || b) (any ks)

-- for callers that add texts
pub ruleset name_laws = (length-with_name, slice_get-number_of, slice_get-with_name, number_of-with_name_old)
