-- What a row says of the first places of its name's keys.
use Rattle.std.proofs.Common.{inl, inr, ◌≡◌, ◌≢◌, ◌<◌, ◌≤◌, ℕ, zero, suc, ◌+◌, Bool, true, false, List, [], ◌∷◌}
use Rattle.std.proofs.Common.{length, map, take, drop, get_or, refl, ap, sym, subst, ◌∙◌, arith}
use Rattle.std.proofs.Common.{nat_eq, replicate}
use Rattle.std.specs.Prelude.{if◌then◌else◌, ◌||◌, ◌&&◌, ◌⊎◌, not, nat_lt, slice_set, All}
use Rattle.std.proofs.lemmas.Bool.{eqb-true, eq-eqb, ne_eqb, ltb-false}
use Rattle.std.proofs.lemmas.List.{get_or-set_same, get_or-set_other, get_or_default, take_more, drop_all}
use Rattle.std.proofs.lemmas.List.Elements.{All-append, All-cons}
use Rattle.std.proofs.lemmas.Option.{unwrap_or-slice_get}
use Rattle.std.proofs.Math.Seq.{drop-cons}
use Rattle.ll_list_laws.proofs.CallerLemmas.{not_eq_sym}
use Rattle.ll_index.specs.declared.laws.First.{First}
use Rattle.ll_index.specs.declared.laws.First.TheVariants.{Open, Int as IntSign, Head as NameSign}
use Rattle.ll_index.specs.contracts.laws.FirstPartialEq.TheImpl.{eq-value as first_eq}
use Rattle.ll_index.specs.declared.key.Key.{Key}
use Rattle.ll_index.specs.declared.key.Key.TheVariants.{Unnamed, Named}
use Rattle.ll_index.specs.declared.rows.Row.{Row}
use Rattle.ll_index.specs.Chained.{first_from}
use Rattle.ll_index.specs.Keys.{key_eq}
use Rattle.ll_index.specs.Rows.{no_row, signless_at, one_more, with_leaf, row_from, row_at, IsNamedBelow, without_sign}

-- ---- keys of one name

and-false : (b : Bool) → b && false ≡ false
and-false true = refl
and-false false = refl

-- another number of arguments, or another name
key-other : (n k name m : ℕ) (f g : First) → nat_eq m k ≡ false → key_eq (Named n k f) (Named name m g) ≡ false
key-other n k name m f g e = ap (λ b. nat_eq n name && (b && (first_eq).it f g)) (not_eq_sym m k e) ∙ and-false (nat_eq n name)

name-other : (n k name m : ℕ) (f g : First) → nat_eq n name ≡ false → key_eq (Named n k f) (Named name m g) ≡ false
name-other n k name m f g e = ap (λ b. b && (nat_eq k m && (first_eq).it f g)) e

-- the same of both
key-own : (n k name m : ℕ) (f g : First) → nat_eq n name ≡ true → nat_eq m k ≡ true → key_eq (Named n k f) (Named name m g) ≡ (first_eq).it f g
key-own n k name m f g e h =
    ap (λ b. b && (nat_eq k m && (first_eq).it f g)) e ∙ ap (λ b. true && (b && (first_eq).it f g)) (eq-eqb k m (sym (eqb-true m k h)))

-- ---- what a row says

-- Where its name has leaves of one number of arguments alone: their first places, by predicate and by the sign that clashes with none.
pub record RowSays (i : ℕ) (ks : List Key) (name : ℕ) (r : Row) : Type 0 where
  pub first : (m : ℕ) → first_from key_eq i (map without_sign ks) (Named name m Open) ≡ (if nat_eq m r.arity then r.first else i + length ks)
  pub signless : (m : ℕ) → first_from key_eq i ks (Named name m Open) ≡ (if nat_eq m r.arity then r.signless else i + length ks)
  pub other : (m : ℕ) (g : First) → nat_eq m r.arity ≡ false → first_from key_eq i ks (Named name m g) ≡ i + length ks
  none-signless : r.count ≡ 0 → r.signless ≡ i + length ks
  none : r.count ≡ 0 → (m : ℕ) (g : First) → first_from key_eq i ks (Named name m g) ≡ i + length ks
  none-first : r.count ≡ 0 → (m : ℕ) → first_from key_eq i (map without_sign ks) (Named name m Open) ≡ i + length ks

same-both : (b : Bool) (x y : ℕ) → x ≡ y → x ≡ (if b then x else y)
same-both true x y e = refl
same-both false x y e = e

-- a key that has another name, or none
row-pass : (i : ℕ) (k : Key) (ks : List Key) (name : ℕ) (r : Row) → ((m : ℕ) (g : First) → key_eq k (Named name m g) ≡ false)
    → ((m : ℕ) → key_eq (without_sign k) (Named name m Open) ≡ false) → RowSays (suc i) ks name r → RowSays i (k ∷ ks) name r
row-pass i k ks name r f g says = record {
  first = λ m. skip-first m ∙ (says.first m ∙ ap (λ n. if nat_eq m r.arity then r.first else n) end);
  signless = λ m. skip m Open ∙ (says.signless m ∙ ap (λ n. if nat_eq m r.arity then r.signless else n) end);
  other = λ m h e. skip m h ∙ (says.other m h e ∙ end);
  none-signless = λ z. says.none-signless z ∙ end;
  none = λ z m h. skip m h ∙ (says.none z m h ∙ end);
  none-first = λ z m. skip-first m ∙ (says.none-first z m ∙ end);
}
  where
    end : suc i + length ks ≡ i + suc (length ks)
    end = omega arith

    skip : (m : ℕ) (h : First) → first_from key_eq i (k ∷ ks) (Named name m h) ≡ first_from key_eq (suc i) ks (Named name m h)
    skip m h = ap (λ (b : Bool). if b then i else first_from key_eq (suc i) ks (Named name m h)) (f m h)

    skip-first : (m : ℕ) → first_from key_eq i (map without_sign (k ∷ ks)) (Named name m Open)
        ≡ first_from key_eq (suc i) (map without_sign ks) (Named name m Open)
    skip-first m = ap (λ (b : Bool). if b then i else first_from key_eq (suc i) (map without_sign ks) (Named name m Open)) (g m)

-- one more is not none
one_more-some : (n : ℕ) → one_more n ≡ 0 → ⊥
one_more-some n e = by (nat_lt n 8) e
  where
    by : (b : Bool) → (if b then n + 1 else 8) ≡ 0 → ⊥
    by true h = absurd (omega arith)
    by false h = absurd (omega arith)

-- a leaf of the name, with so many arguments as those behind it, if there are any
module _ (i n k : ℕ) (f : First) (ks : List Key) (name : ℕ) (r : Row) (own : nat_eq n name ≡ true) (alone : (r.count ≡ 0) ⊎ (r.arity ≡ k))
    (says : RowSays (suc i) ks name r) where
  abbrev close : ℕ
  close = suc i + length ks

  behind-first : (m : ℕ) → nat_eq m k ≡ false → first_from key_eq (suc i) (map without_sign ks) (Named name m Open) ≡ close
  behind-first m e = elim alone [
    | inl z ↦ says.none-first z m
    | inr a ↦ says.first m ∙ ap (λ (b : Bool). if b then r.first else close) (ap (nat_eq m) a ∙ e)
  ]

  behind-other : (m : ℕ) (g : First) → nat_eq m k ≡ false → first_from key_eq (suc i) ks (Named name m g) ≡ close
  behind-other m g e = elim alone [
    | inl z ↦ says.none z m g
    | inr a ↦ says.other m g (ap (nat_eq m) a ∙ e)
  ]

  behind-signless : (m : ℕ) → nat_eq m k ≡ true → first_from key_eq (suc i) ks (Named name m Open) ≡ r.signless
  behind-signless m e = elim alone [
    | inl z ↦ says.none z m Open ∙ sym (says.none-signless z)
    | inr a ↦ says.signless m ∙ ap (λ (b : Bool). if b then r.signless else close) (ap (nat_eq m) a ∙ e)
  ]

  past : close ≡ i + suc (length ks)
  past = omega arith

  take-first : (m : ℕ) (b : Bool) → nat_eq m k ≡ b
      → first_from key_eq i (map without_sign (Named n k f ∷ ks)) (Named name m Open) ≡ (if b then i else i + suc (length ks))
  take-first m true e =
      ap (λ (b : Bool). if b then i else first_from key_eq (suc i) (map without_sign ks) (Named name m Open)) (key-own n k name m Open Open own e)
  take-first m false e =
      ap (λ (b : Bool). if b then i else first_from key_eq (suc i) (map without_sign ks) (Named name m Open)) (key-other n k name m Open Open e)
      ∙ (behind-first m e ∙ past)

  take-other : (m : ℕ) (g : First) → nat_eq m k ≡ false → first_from key_eq i (Named n k f ∷ ks) (Named name m g) ≡ i + suc (length ks)
  take-other m g e =
      ap (λ (b : Bool). if b then i else first_from key_eq (suc i) ks (Named name m g)) (key-other n k name m f g e) ∙ (behind-other m g e ∙ past)

  signless-by : (g : First) (rest : ℕ) → rest ≡ r.signless → (if (first_eq).it g Open then i else rest) ≡ signless_at i g r.signless
  signless-by Open rest e = refl
  signless-by (IntSign z) rest e = e
  signless-by (NameSign m j) rest e = e

  take-signless : (m : ℕ) (b : Bool) → nat_eq m k ≡ b
      → first_from key_eq i (Named n k f ∷ ks) (Named name m Open) ≡ (if b then signless_at i f r.signless else i + suc (length ks))
  take-signless m true e =
      ap (λ (b : Bool). if b then i else first_from key_eq (suc i) ks (Named name m Open)) (key-own n k name m f Open own e)
      ∙ signless-by f (first_from key_eq (suc i) ks (Named name m Open)) (behind-signless m e)
  take-signless m false e = take-other m Open e

  row-take : RowSays i (Named n k f ∷ ks) name (with_leaf i k f r)
  row-take = record {
    first = λ m. take-first m (nat_eq m k) refl;
    signless = λ m. take-signless m (nat_eq m k) refl;
    other = λ m g e. take-other m g e;
    none-signless = λ z. absurd (one_more-some r.count z);
    none = λ z m g. absurd (one_more-some r.count z);
    none-first = λ z m. absurd (one_more-some r.count z);
  }

-- a row that has a leaf more and is not mixed was not
unmixed : (mixed : Bool) (count arguments k : ℕ) → mixed || (nat_lt 0 count && not (nat_eq arguments k)) ≡ false
    → (mixed ≡ false) × ((count ≡ 0) ⊎ (arguments ≡ k))
unmixed true count arguments k e = cc
unmixed false count arguments k e = (refl, by (nat_lt 0 count) (nat_eq arguments k) refl refl e)
  where
    by : (b d : Bool) → nat_lt 0 count ≡ b → nat_eq arguments k ≡ d → b && not d ≡ false → (count ≡ 0) ⊎ (arguments ≡ k)
    by true true p q h = inr (eqb-true arguments k q)
    by true false p q h = cc
    by false d p q h = let z = ltb-false 0 count p in inl (omega arith)

pub row-says : (i : ℕ) (ks : List Key) (name : ℕ) → (row_from i ks name).mixed ≡ false → RowSays i ks name (row_from i ks name)
row-says i [] name u = record {
  first = λ m. let e : i ≡ i + 0 = omega arith in same-both (nat_eq m 0) i (i + 0) e;
  signless = λ m. let e : i ≡ i + 0 = omega arith in same-both (nat_eq m 0) i (i + 0) e;
  other = λ m g e. omega arith;
  none-signless = λ z. omega arith;
  none = λ z m g. omega arith;
  none-first = λ z m. omega arith;
}
row-says i (Unnamed ∷ ks) name u = row-pass i Unnamed ks name (row_from (suc i) ks name) (λ m g. refl) (λ m. refl) (row-says (suc i) ks name u)
row-says i (Named n k f ∷ ks) name u = by (nat_eq n name) refl u (row-says (suc i) ks name)
  where
    r : Row
    r = row_from (suc i) ks name

    by : (b : Bool) → nat_eq n name ≡ b → (if b then with_leaf i k f r else r).mixed ≡ false
        → (r.mixed ≡ false → RowSays (suc i) ks name r) → RowSays i (Named n k f ∷ ks) name (if b then with_leaf i k f r else r)
    by true e w says = let p = unmixed r.mixed r.count r.arity k w in row-take i n k f ks name r e p.1 (says p.0)
    by false e w says = row-pass i (Named n k f) ks name r (λ m g. name-other n k name m f g e) (λ m. name-other n k name m Open Open e) (says w)

-- ---- rows that are built from their end

no-rows : (names end name : ℕ) → row_at (replicate names (no_row end)) end name ≡ no_row end
no-rows zero end name = refl
no-rows (suc names) end zero = refl
no-rows (suc names) end (suc name) = no-rows names end name

-- at first no name has a leaf
pub rows-begin : (keys : List Key) (rows : List Row) (names end : ℕ) (none : Row) → end ≡ length keys → none ≡ no_row end → rows ≡ replicate names none
    → (name : ℕ) → row_at rows (length keys) name ≡ row_from (length keys) (drop (length keys) keys) name
rows-begin keys rows names end none e n r name =
    ap (λ xs. row_at xs (length keys) name) (r ∙ ap (replicate names) (n ∙ ap no_row e))
    ∙ (no-rows names (length keys) name ∙ ap (λ ks. row_from (length keys) ks name) (sym (drop_all (length keys) keys (omega arith))))

-- a name that has a key is below that number
pub named-at : (keys : List Key) (names i : ℕ) (d : Key) (n k : ℕ) (f : First) → i < length keys → get_or keys i d ≡ Named n k f
    → All (IsNamedBelow names) keys → n < names
named-at keys names i d n k f inside read all = subst (IsNamedBelow names) read (all i d inside)

module _ (keys : List Key) (rows : List Row) (at i : ℕ) (d : Key) (one : at ≡ suc i) (inside : i < length keys)
    (rest : (name : ℕ) → row_at rows (length keys) name ≡ row_from at (drop at keys) name) where
  front : drop i keys ≡ get_or keys i d ∷ drop at keys
  front = drop-cons keys i d inside ∙ ap (λ n. get_or keys i d ∷ drop n keys) (sym one)

  -- a key that has no name
  pub rows-pass : get_or keys i d ≡ Unnamed → (name : ℕ) → row_at rows (length keys) name ≡ row_from i (drop i keys) name
  rows-pass read name =
      rest name ∙ (ap (λ n. row_from n (drop at keys) name) one ∙ ap (λ ks. row_from i ks name) (sym (front ∙ ap (λ k. k ∷ drop at keys) read)))

  -- one leaf more
  pub rows-step : (n k : ℕ) (f : First) (old : Row) → get_or keys i d ≡ Named n k f → n < length rows → old ≡ get_or rows n old
      → (name : ℕ) → row_at (slice_set rows n (with_leaf i k f old)) (length keys) name ≡ row_from i (drop i keys) name
  rows-step n k f old read fits was name =
      by (nat_eq n name) refl ∙ ap (λ ks. row_from i ks name) (sym (front ∙ ap (λ k. k ∷ drop at keys) read))
    where
      none : Row
      none = no_row (length keys)

      new : Row
      new = with_leaf i k f old

      before : (m : ℕ) → row_at rows (length keys) m ≡ row_from (suc i) (drop at keys) m
      before m = rest m ∙ ap (λ j. row_from j (drop at keys) m) one

      own : old ≡ row_from (suc i) (drop at keys) n
      own = was ∙ (get_or_default rows n old none fits ∙ (sym (unwrap_or-slice_get rows n none) ∙ before n))

      by : (b : Bool) → nat_eq n name ≡ b → row_at (slice_set rows n new) (length keys) name
          ≡ (if b then with_leaf i k f (row_from (suc i) (drop at keys) name) else row_from (suc i) (drop at keys) name)
      by true e =
          let z = eqb-true n name e in
          ap (row_at (slice_set rows n new) (length keys)) (sym z)
          ∙ (unwrap_or-slice_get (slice_set rows n new) n none ∙ (get_or-set_same rows n new none fits
          ∙ (ap (with_leaf i k f) own ∙ ap (λ m. with_leaf i k f (row_from (suc i) (drop at keys) m)) z)))
      by false e =
          let u : name ≢ n = λ w. let t : true ≡ false = sym (eq-eqb n name (sym w)) ∙ e in cc in
          unwrap_or-slice_get (slice_set rows n new) name none
          ∙ (get_or-set_other rows n name new none u ∙ (sym (unwrap_or-slice_get rows name none) ∙ before name))

-- ---- the number above those of all names

below-more : (a b : ℕ) (k : Key) → a ≤ b → IsNamedBelow a k → IsNamedBelow b k
below-more a b (Named n k f) l h = omega arith
below-more a b Unnamed l h = tt

-- one key more
pub below-step : (keys : List Key) (i a b : ℕ) (d : Key) → i < length keys → a ≤ b → IsNamedBelow b (get_or keys i d)
    → All (IsNamedBelow a) (take i keys) → All (IsNamedBelow b) (take (i + 1) keys)
below-step keys i a b d inside l h all =
    subst (All (IsNamedBelow b)) (sym (take_more keys i d inside))
    (All-append (IsNamedBelow b) (take i keys) (get_or keys i d ∷ []) (λ j e g. below-more a b _ l (all j e g))
    (All-cons (IsNamedBelow b) (get_or keys i d) [] h (λ j e g. absurd (omega arith))))
