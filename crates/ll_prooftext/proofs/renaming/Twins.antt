-- Over names among which are all that one of its texts mentions, a derivation has the same texts.
use Rattle.std.proofs.Common.{◌≡◌, ℕ, zero, suc, ◌+◌, ◌<◌, ◌^◌, refl, ap, sym, subst, ◌∙◌, Bool, true, false, List, [], ◌∷◌, ◌++◌, length, arith, inl, inr}
use Rattle.std.proofs.Common.{length-append, get_or}
use Rattle.std.specs.Prelude.{Contains, nat_lt, if◌then◌else◌, ◌&&◌}
use Rattle.std.specs.List.{IsDistinct, position_or_len, slice_index_or}
use Rattle.std.specs.Str.{bytes_eq}
use Rattle.std.proofs.lemmas.Bool.{cases_lt, lt-ltb, false_from_ne_true}
use Rattle.std.proofs.lemmas.Bool.Decides.{nat_tests}
use Rattle.std.proofs.lemmas.List.{get_or_past, get_or_append_left}
use Rattle.std.proofs.lemmas.List.Sums.{position_or_len_is}
use Rattle.std.proofs.lemmas.Map.Made.{AllPairs-from_IsDistinct}
use Rattle.std.proofs.lemmas.Slice.Eq.{bytes_eq-Decides}
use Rattle.ll_laws.specs.Line.{DerivationLines}
use Rattle.ll_laws.specs.Output.{name_text}
use Rattle.ll_laws.specs.ProofText.{proof_text}
use Rattle.ll_prooftext.specs.Admitted.{IsSpelled}
use Rattle.ll_prooftext.specs.Mentions.{text_names}
use Rattle.ll_prooftext.specs.ProofText2.{proof_text2}
use Rattle.ll_prooftext.specs.Twins.{Numbers, moved_derivation, AreAmong, HasTwin}
use Rattle.ll_prooftext.proofs.renaming.Moved.{IsKeptName, AreKept, AreKeptLines, all-spelled, lines-spelled, text-moved}
use Rattle.ll_prooftext.proofs.renaming.MovedTable.{text2-moved}
use Rattle.ll_prooftext.proofs.renaming.MovedTrees.{whole-moved}
use Rattle.ll_prooftext.proofs.renaming.Said.{text-said, text2-said}

-- ---- places

-- the first place of a name
abbrev place_in : List (List ℕ) → List ℕ → ℕ
place_in others w = position_or_len (bytes_eq w) others

next-place : (n : ℕ) → 1 + n ≡ suc n
next-place n = omega arith

-- where there is one, the name stands there
at-place : (others : List (List ℕ)) (w : List ℕ) → place_in others w < length others → name_text others (place_in others w) ≡ w
at-place [] w l = absurd (omega (arith, l))
at-place (x ∷ xs) w l = step (bytes_eq w x) refl (at-place xs w) l
  where
    step : (b : Bool) → bytes_eq w x ≡ b → (place_in xs w < length xs → name_text xs (place_in xs w) ≡ w)
        → place_in (x ∷ xs) w < length (x ∷ xs) → name_text (x ∷ xs) (place_in (x ∷ xs) w) ≡ w
    step true q ih l = rw q (sym ((bytes_eq-Decides w x).0 q))
    step false q ih l =
        let n = next-place (place_in xs w) in
        let k : place_in (x ∷ xs) w ≡ suc (place_in xs w) = rw q n in
        subst (λ j. name_text (x ∷ xs) j ≡ w) (sym k) (ih (omega (arith, l, k)))

found-place : (others : List (List ℕ)) (w : List ℕ) → Contains others w → place_in others w < length others
found-place [] w (k, l, e) = absurd (omega (arith, l))
found-place (x ∷ xs) w (k, l, e) = step (bytes_eq w x) refl k l e (λ j m f. found-place xs w (j, m, f))
  where
    step : (b : Bool) → bytes_eq w x ≡ b → (k : ℕ) → k < length (x ∷ xs) → slice_index_or (x ∷ xs) k w ≡ w
        → ((j : ℕ) → j < length xs → slice_index_or xs j w ≡ w → place_in xs w < length xs) → place_in (x ∷ xs) w < length (x ∷ xs)
    step true q k l e ih = let z : place_in (x ∷ xs) w ≡ 0 = rw q refl in omega (arith, z)
    step false q zero l e ih = absurd (let t : bytes_eq w x ≡ true = (bytes_eq-Decides w x).1 (sym e) in let y : ⊥ = cc in y)
    step false q (suc k) l e ih =
        let z : place_in (x ∷ xs) w ≡ suc (place_in xs w) = rw q (next-place (place_in xs w)) in
        let m = ih k (omega (arith, l)) e in
        omega (arith, z, m)

-- names that all differ are told by their places
same-place : (names : List (List ℕ)) → IsDistinct bytes_eq names → (m n : ℕ) → m < length names → n < length names → name_text names m ≡ name_text names n
    → m ≡ n
same-place names distinct m n k l e = elim (cases_lt m n) [
  | inl h ↦ absurd (AllPairs-from_IsDistinct bytes_eq-Decides names distinct m n [] h l e)
  | inr h ↦ elim (cases_lt n m) [
    | inl g ↦ absurd (AllPairs-from_IsDistinct bytes_eq-Decides names distinct n m [] g k (sym e))
    | inr g ↦ omega (arith, h, g)
  ]
]

-- so each has its own as its first one
own-place : (others : List (List ℕ)) → IsDistinct bytes_eq others → (n : ℕ) → n < length others → place_in others (name_text others n) ≡ n
own-place others distinct n l =
    position_or_len_is (bytes_eq (name_text others n)) others n [] (omega (arith, l))
    (λ k h. false_from_ne_true (bytes_eq (name_text others n) (get_or others k []))
    (λ t. let e = same-place others distinct n k l (omega (arith, h, l)) ((bytes_eq-Decides (name_text others n) (get_or others k [])).0 t) in
    omega (arith, h, e)))
    (λ h. (bytes_eq-Decides (name_text others n) (get_or others n [])).1 refl)

-- ---- the numbers of names

module _ (names others : List (List ℕ)) where
  abbrev both_have : ℕ → Bool
  both_have n = nat_lt n (length names) && nat_lt (place_in others (name_text names n)) (length others)

  numbers : Numbers
  numbers n = if both_have n then place_in others (name_text names n) else length others + n

  -- both lists have the name of this number
  record BothHave (n : ℕ) : Type 0 where
    here : n < length names
    there : place_in others (name_text names n) < length others

  had : (n : ℕ) → both_have n ≡ true → BothHave n
  had n e = step (nat_lt n (length names)) refl (nat_lt (place_in others (name_text names n)) (length others)) refl e
    where
      step : (b : Bool) → nat_lt n (length names) ≡ b → (c : Bool) → nat_lt (place_in others (name_text names n)) (length others) ≡ c
          → b && c ≡ true → BothHave n
      step true p true q e = record { here = grind (arith, nat_tests, p); there = grind (arith, nat_tests, q) }
      step true p false q e = absurd cc
      step false p c q e = absurd cc

  has-both : (n : ℕ) → BothHave n → both_have n ≡ true
  has-both n b =
      let p : nat_lt n (length names) ≡ true = lt-ltb n (length names) b.here in
      let q : nat_lt (place_in others (name_text names n)) (length others) ≡ true = lt-ltb (place_in others (name_text names n)) (length others) b.there in
      rw (p, q) refl

  number-is : (n : ℕ) → BothHave n → numbers n ≡ place_in others (name_text names n)
  unfolding numbers
  number-is n b = let e = has-both n b in rw e refl

  numbers-apart : IsDistinct bytes_eq names → (m n : ℕ) → numbers m ≡ numbers n → m ≡ n
  unfolding numbers
  numbers-apart distinct m n e = step (both_have m) refl (both_have n) refl e
    where
      step : (b : Bool) → both_have m ≡ b → (c : Bool) → both_have n ≡ c
          → (if b then place_in others (name_text names m) else length others + m) ≡ (if c then place_in others (name_text names n) else length others + n)
          → m ≡ n
      step true p true q e =
          let g = had m p in let h = had n q in
          let t = sym (at-place others (name_text names m) g.there) ∙ (ap (name_text others) e ∙ at-place others (name_text names n) h.there) in
          same-place names distinct m n g.here h.here t
      step true p false q e = let g = had m p in let l = g.there in absurd (omega (arith, e, l))
      step false p true q e = let h = had n q in let l = h.there in absurd (omega (arith, e, l))
      step false p false q e = omega (arith, e)

  numbers-stay : IsDistinct bytes_eq others → (front more rest : List (List ℕ)) → names ≡ front ++ more → others ≡ front ++ rest → (n : ℕ)
      → n < length front → numbers n ≡ n
  numbers-stay distinct front more rest e f n l =
      let a = ap length e in let b = length-append front more in
      let c = ap length f in let d = length-append front rest in
      let w : name_text names n ≡ name_text others n =
      ap (λ z. name_text z n) e ∙ (get_or_append_left front more [] n l ∙ (sym (get_or_append_left front rest [] n l) ∙ sym (ap (λ z. name_text z n) f))) in
      let k : n < length others = omega (arith, c, d, l) in
      let g : place_in others (name_text names n) ≡ n = ap (place_in others) w ∙ own-place others distinct n k in
      number-is n (record { here = omega (arith, a, b, l); there = omega (arith, g, k) }) ∙ g

  -- a name that stands among the others keeps its text
  numbers-keep : (n : ℕ) → 0 < length (name_text names n) → Contains others (name_text names n) → IsKeptName names others numbers n
  numbers-keep n full c =
      let there = found-place others (name_text names n) c in
      let here : n < length names = elim (cases_lt n (length names)) [
        | inl h ↦ h
        | inr h ↦ (let x = ap length (get_or_past names n [] h) in absurd (omega (arith, x, full)))
      ] in
      record { full = full; same = ap (name_text others) (number-is n (record { here = here; there = there })) ∙ at-place others (name_text names n) there }

-- ---- twins

module _ (names others : List (List ℕ)) (distinct : IsDistinct bytes_eq names) (differ : IsDistinct bytes_eq others) (d : DerivationLines)
    (s : IsSpelled names d) where
  twin-of : AreKept names others (numbers names others) d.asked × AreKeptLines names others (numbers names others) d.nodes → HasTwin names others d
  twin-of k =
      let r = numbers names others in
      record {
        numbers = r;
        apart = numbers-apart names others distinct;
        stay = numbers-stay names others differ;
        twin = moved_derivation r d;
        is = refl;
        spelled = record {
          whole = whole-moved r d s.whole;
          asked = all-spelled names others r d.asked k.0 s.asked;
          nodes = lines-spelled names others r d.nodes k.1 s.nodes;
        };
        text = text-moved names others r d k.0 k.1;
        text2 = text2-moved names others r distinct d k.0 k.1;
      }

  pub first-twin : AreAmong (text_names (proof_text names d)) others → HasTwin names others d
  first-twin a = twin-of (text-said names others (numbers names others) (Contains others) (numbers-keep names others) d s a)

  pub second-twin : length (proof_text2 names d) < 2 ^ 64 → AreAmong (text_names (proof_text2 names d)) others → HasTwin names others d
  second-twin short a = twin-of (text2-said names others (numbers names others) (Contains others) (numbers-keep names others) d s short a)
