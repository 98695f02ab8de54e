-- Lists from their end, and entries with their live marks.
use Rattle.std.proofs.Common.{◌≡◌, ℕ, zero, suc, ◌+◌, ◌-◌, ◌<◌, ◌≤◌, Bool, true, false, nat_eq, List, [], ◌∷◌, ◌++◌, length, map, get_or, take, drop, set}
use Rattle.std.proofs.Common.{refl, ap, sym, ◌∙◌, inl, inr, arith, length-append}
use Rattle.std.specs.Prelude.{reverse, nat_lt, if◌then◌else◌, slice_get, Some}
use Rattle.std.proofs.lemmas.Bool.{cases_eq, ltb-true, ltb-false, eqb-true, eq-eqb}
use Rattle.std.proofs.lemmas.List.{reverse-append, length-reverse, get_or-reverse, take_more, take_all, same_lists, length-set, get_or-set_same}
use Rattle.std.proofs.lemmas.List.{get_or-set_other, set_past, drop_more, drop_all}
use Rattle.std.proofs.Math.Seq.{take-append_seam}
use Rattle.ll_laws.specs.Settle.{Entry as Resource, marks, remark, unlive}
use Rattle.ll_laws.specs.declared.Kind.{Kind}
use Rattle.ll_laws.specs.Attempt.{picked, is_linear}
use Rattle.ll_resources.specs.declared.state.Stored.{Stored}
use Rattle.ll_resources.specs.Seen.{seen, seen_all, filled}
use Rattle.ll_resources.specs.Raw.{front, first_place, mark_slot, stored, HasOneMore}
use Rattle.ll_resources.specs.Resources.{entries_from}

-- ---- lists from their end

module _ {X : Type 0} where
  pub reverse-push : (xs : List X) (x : X) → reverse (xs ++ x ∷ []) ≡ x ∷ reverse xs
  reverse-push xs x = reverse-append xs (x ∷ [])

  pub front-push : (xs : List X) (x : X) → front (xs ++ x ∷ []) ≡ xs
  front-push xs x =
      let n = length-append xs (x ∷ []) in
      let e : length (xs ++ x ∷ []) - 1 ≡ length xs = omega (arith, n) in
      ap (λ k. take k (xs ++ x ∷ [])) e ∙ take-append_seam xs (x ∷ [])

  -- a list is its front and its last item
  pub front-last : (xs : List X) (d : X) → 0 < length xs → front xs ++ get_or xs (length xs - 1) d ∷ [] ≡ xs
  front-last xs d l =
      let k : length xs - 1 < length xs = omega (arith, l) in
      sym (take_more xs (length xs - 1) d k) ∙ take_all (length xs - 1 + 1) xs (omega (arith, l))

  pub reverse-front : (xs : List X) (d : X) → 0 < length xs → reverse xs ≡ get_or xs (length xs - 1) d ∷ reverse (front xs)
  reverse-front xs d l = ap (λ ys. reverse ys) (sym (front-last xs d l)) ∙ reverse-push (front xs) (get_or xs (length xs - 1) d)

  -- without its last item, from the end
  pub reverse-rest : (xs : List X) → drop 1 (reverse xs) ≡ reverse (front xs)
  reverse-rest [] = refl
  reverse-rest (x ∷ xs) = ap (λ ys. drop 1 ys) (reverse-front (x ∷ xs) x (omega arith))

  -- one item changed, from the end
  pub reverse-set : (xs : List X) (f : ℕ) (v : X) → reverse (set xs (mark_slot (length xs) f) v) ≡ set (reverse xs) f v
  reverse-set xs f v = step (nat_lt f (length xs)) refl
    where
      there : (s : ℕ) → f < length xs → s ≡ length xs - 1 - f → reverse (set xs s v) ≡ set (reverse xs) f v
      there s l e =
          let n = length-reverse xs in let n1 = length-set xs s v in let n2 = length-reverse (set xs s v) in let n3 = length-set (reverse xs) f v in
          same_lists (reverse (set xs s v)) (set (reverse xs) f v) (omega (arith, n, n1, n2, n3)) (λ k d h.
          let h1 : k < length (set xs s v) = omega (arith, h, n2) in
          let a : get_or (reverse (set xs s v)) k d ≡ get_or (set xs s v) (length (set xs s v) - 1 - k) d = get_or-reverse (set xs s v) k d h1 in
          elim (cases_eq k f) [
            | inl same ↦
                let at : length (set xs s v) - 1 - k ≡ s = omega (arith, n1, same, e) in
                a ∙ (ap (λ j. get_or (set xs s v) j d) at ∙ (get_or-set_same xs s v d (omega (arith, e, l))
                ∙ (sym (get_or-set_same (reverse xs) f v d (omega (arith, n, l))) ∙ ap (λ j. get_or (set (reverse xs) f v) j d) (sym same))))
            | inr other ↦
                let at : length (set xs s v) - 1 - k ≡ length xs - 1 - k = omega (arith, n1) in
                let ne : length xs - 1 - k ≡ s → ⊥ = λ q. other (omega (arith, q, e, l, h1, n1)) in
                a ∙ (ap (λ j. get_or (set xs s v) j d) at ∙ (get_or-set_other xs s (length xs - 1 - k) v d ne
                ∙ (sym (get_or-reverse xs k d (omega (arith, h1, n1))) ∙ sym (get_or-set_other (reverse xs) f k v d other))))
          ])

      step : (b : Bool) → nat_lt f (length xs) ≡ b → reverse (set xs (if b then length xs - 1 - f else length xs) v) ≡ set (reverse xs) f v
      step true e = there (length xs - 1 - f) (ltb-true f (length xs) e) refl
      step false e =
          let g = ltb-false f (length xs) e in let n = length-reverse xs in
          ap (λ ys. reverse ys) (set_past xs (length xs) v (omega arith)) ∙ sym (set_past (reverse xs) f v (omega (arith, g, n)))

-- ---- entries with their marks

pub length-filled : (n : ℕ) (bs : List Bool) → length (filled n bs) ≡ n
length-filled zero bs = refl
length-filled (suc n) [] = ap suc (length-filled n [])
length-filled (suc n) (b ∷ bs) = ap suc (length-filled n bs)

-- one mark more, and where none is needed
pub one-more : (bs : List Bool) (mark : Bool) → HasOneMore bs mark (bs ++ mark ∷ [])
one-more bs mark = λ n. ap (λ xs. filled (suc n) xs) (reverse-push bs mark)

pub none-more : (bs : List Bool) (mark : Bool) → length bs ≡ 0 → mark ≡ false → HasOneMore bs mark bs
none-more [] mark l e = λ n. ap (λ m. m ∷ filled n []) (sym e)
none-more (b ∷ bs) mark l e = absurd (omega (arith, l))

-- numbers that differ do not pass the test
differs : (a b : ℕ) → (a ≡ b → ⊥) → nat_eq a b ≡ false
differs a b h = step (nat_eq a b) refl
  where
    step : (t : Bool) → nat_eq a b ≡ t → nat_eq a b ≡ false
    step true e = absurd (h (eqb-true a b e))
    step false e = e

module _ {C : Type 0} where
  pub length-seen : (ss : List (Stored C)) (bs : List Bool) → length (seen_all ss bs) ≡ length ss
  length-seen [] bs = refl
  length-seen (s ∷ ss) [] = ap suc (length-seen ss [])
  length-seen (s ∷ ss) (b ∷ bs) = ap suc (length-seen ss bs)

  -- their marks are those that they were given
  pub marks-seen : (ss : List (Stored C)) (bs : List Bool) → marks (seen_all ss bs) ≡ filled (length ss) bs
  marks-seen [] bs = refl
  marks-seen (s ∷ ss) [] = ap (λ xs. false ∷ xs) (marks-seen ss [])
  marks-seen (s ∷ ss) (b ∷ bs) = ap (λ xs. b ∷ xs) (marks-seen ss bs)

  -- other marks take the place of the first
  pub remark-seen : (ss : List (Stored C)) (bs cs : List Bool) → remark (seen_all ss bs) (filled (length ss) cs) ≡ seen_all ss cs
  remark-seen [] bs cs = refl
  remark-seen (s ∷ ss) [] [] = ap (λ ys. seen s false ∷ ys) (remark-seen ss [] [])
  remark-seen (s ∷ ss) [] (c ∷ cs) = ap (λ ys. seen s c ∷ ys) (remark-seen ss [] cs)
  remark-seen (s ∷ ss) (b ∷ bs) [] = ap (λ ys. seen s false ∷ ys) (remark-seen ss bs [])
  remark-seen (s ∷ ss) (b ∷ bs) (c ∷ cs) = ap (λ ys. seen s c ∷ ys) (remark-seen ss bs cs)

  -- without marks none is live
  pub unlive-seen : (ss : List (Stored C)) (bs : List Bool) → map unlive (seen_all ss bs) ≡ seen_all ss []
  unlive-seen [] bs = refl
  unlive-seen (s ∷ ss) [] = ap (λ ys. seen s false ∷ ys) (unlive-seen ss [])
  unlive-seen (s ∷ ss) (b ∷ bs) = ap (λ ys. seen s false ∷ ys) (unlive-seen ss bs)

  -- the first entry with a label loses its mark at its place
  pub picked-seen : (label : ℕ) (ss : List (Stored C)) (bs : List Bool) → picked label (seen_all ss bs) ≡ seen_all ss (set bs (first_place label ss) false)
  picked-seen label [] bs = refl
  picked-seen label (s ∷ ss) [] = step (nat_eq s.label label) (picked-seen label ss [])
    where
      step : (b : Bool) → picked label (seen_all ss []) ≡ seen_all ss (set [] (first_place label ss) false)
          → (if b then unlive (seen s false) ∷ seen_all ss [] else seen s false ∷ picked label (seen_all ss []))
          ≡ seen_all (s ∷ ss) (set [] (if b then 0 else suc (first_place label ss)) false)
      step true h = refl
      step false h = ap (λ ys. seen s false ∷ ys) h
  picked-seen label (s ∷ ss) (b ∷ bs) = step (nat_eq s.label label) (picked-seen label ss bs)
    where
      step : (t : Bool) → picked label (seen_all ss bs) ≡ seen_all ss (set bs (first_place label ss) false)
          → (if t then unlive (seen s b) ∷ seen_all ss bs else seen s b ∷ picked label (seen_all ss bs))
          ≡ seen_all (s ∷ ss) (set (b ∷ bs) (if t then 0 else suc (first_place label ss)) false)
      step true h = refl
      step false h = ap (λ ys. seen s b ∷ ys) h

  -- the entry at a place
  pub get-seen : (ss : List (Stored C)) (bs : List Bool) (i : ℕ) (d : Stored C) → i < length ss
      → slice_get (seen_all ss bs) i ≡ Some (seen (get_or ss i d) (get_or bs i false))
  get-seen [] bs i d l = absurd (omega (arith, l))
  get-seen (s ∷ ss) [] zero d l = refl
  get-seen (s ∷ ss) [] (suc i) d l = get-seen ss [] i d (omega (arith, l))
  get-seen (s ∷ ss) (b ∷ bs) zero d l = refl
  get-seen (s ∷ ss) (b ∷ bs) (suc i) d l = get-seen ss bs i d (omega (arith, l))

  -- the newest entry, and the others
  pub seen-first : (s : Stored C) (ss : List (Stored C)) (bs : List Bool) → seen_all (s ∷ ss) bs ≡ seen s (get_or bs 0 false) ∷ seen_all ss (drop 1 bs)
  seen-first s ss [] = refl
  seen-first s ss (b ∷ bs) = refl

  -- only as many marks as entries count
  seen-filled : (ss : List (Stored C)) (bs : List Bool) → seen_all ss (filled (length ss) bs) ≡ seen_all ss bs
  seen-filled [] bs = refl
  seen-filled (s ∷ ss) [] = ap (λ ys. seen s false ∷ ys) (seen-filled ss [])
  seen-filled (s ∷ ss) (b ∷ bs) = ap (λ ys. seen s b ∷ ys) (seen-filled ss bs)

  -- one entry more, with its mark
  pub seen-more : (s : Stored C) (ss : List (Stored C)) (old new : List Bool) (mark : Bool) → HasOneMore old mark new
      → seen_all (s ∷ ss) (reverse new) ≡ seen s mark ∷ seen_all ss (reverse old)
  seen-more s ss old new mark h =
      sym (seen-filled (s ∷ ss) (reverse new))
      ∙ (ap (λ bs. seen_all (s ∷ ss) bs) (h (length ss)) ∙ ap (λ ys. seen s mark ∷ ys) (seen-filled ss (reverse old)))

  -- ---- the start

  -- one clause more in front, with its mark
  pub started-more : (cs : List (Kind × C)) (rs : List (Resource C)) (at : ℕ) (c : Kind × C) → at < length cs → c ≡ get_or cs at c
      → rs ≡ seen (stored at c.0 c.1) (is_linear c.0) ∷ entries_from (at + 1) (drop (at + 1) cs) → rs ≡ entries_from at (drop at cs)
  started-more cs rs at c l e h =
      let first : entries_from at (get_or cs at c ∷ drop (at + 1) cs) ≡ entries_from at (c ∷ drop (at + 1) cs) =
      ap (λ x. entries_from at (x ∷ drop (at + 1) cs)) (sym e) in
      let next : entries_from (suc at) (drop (at + 1) cs) ≡ entries_from (at + 1) (drop (at + 1) cs) =
      ap (λ n. entries_from n (drop (at + 1) cs)) (let q : suc at ≡ at + 1 = omega arith in q) in
      h
      ∙ (ap (λ ys. seen (stored at c.0 c.1) (is_linear c.0) ∷ ys) (sym next)
      ∙ (sym first ∙ ap (λ ds. entries_from at ds) (sym (drop_more cs at c l))))

  -- ---- looking for a label

  -- the entry at a place has another one
  pub place-more : (label : ℕ) (ss : List (Stored C)) (i : ℕ) (x : Stored C) → i < length ss → x ≡ get_or ss i x → (x.label ≡ label → ⊥)
      → first_place label ss ≡ i + first_place label (drop i ss) → first_place label ss ≡ i + 1 + first_place label (drop (i + 1) ss)
  place-more label ss i x l e t h =
      let rest = first_place label (drop (i + 1) ss) in
      let k : first_place label (drop i ss) ≡ suc rest =
      ap (first_place label) (drop_more ss i x l ∙ ap (λ y. y ∷ drop (i + 1) ss) (sym e)) ∙ ap (λ b. if b then 0 else suc rest) (differs x.label label t) in
      omega (arith, h, k)

  -- or this one
  pub place-here : (label : ℕ) (ss : List (Stored C)) (i : ℕ) (x : Stored C) → i < length ss → x ≡ get_or ss i x → x.label ≡ label
      → first_place label ss ≡ i + first_place label (drop i ss) → i ≡ first_place label ss
  place-here label ss i x l e t h =
      let rest = first_place label (drop (i + 1) ss) in
      let k : first_place label (drop i ss) ≡ 0 =
      ap (first_place label) (drop_more ss i x l ∙ ap (λ y. y ∷ drop (i + 1) ss) (sym e)) ∙ ap (λ b. if b then 0 else suc rest) (eq-eqb x.label label t) in
      omega (arith, h, k)

  -- or none
  pub place-none : (label : ℕ) (ss : List (Stored C)) (i : ℕ) → length ss ≤ i → first_place label ss ≡ i + first_place label (drop i ss)
      → i ≡ first_place label ss
  place-none label ss i l h = let k : first_place label (drop i ss) ≡ 0 = ap (first_place label) (drop_all i ss l) in omega (arith, h, k)
