-- One more copy of a batch.
use Rattle.std.proofs.Common.{◌≡◌, ℕ, zero, suc, ◌+◌, List, [], ◌∷◌, ◌++◌, map, sym, ap, ◌∙◌, subst, arith}
use Rattle.std.proofs.lemmas.List.{map-append}
use Rattle.std.specs.Arc.{arc_value}
use Rattle.ll_laws.specs.Spread.{numbers, alternatives_of}
use Rattle.ll_core.specs.Formed.{place_in}
use Rattle.ll_core.specs.Copies.{AreCopies}
use Rattle.ll_core.specs.declared.room.Waiting.{Waiting}
use Rattle.ll_core.proofs.walks.Walks.{every_snoc}

numbers_snoc : (from n : ℕ) → numbers from (n + 1) ≡ numbers from n ++ (from + n) ∷ []
numbers_snoc from zero = let e : from ≡ from + 0 = omega arith in ap (λ m. m ∷ []) e
numbers_snoc from (suc n) = let e : suc n + 1 ≡ suc (n + 1) = omega arith in let d : suc from + n ≡ from + suc n = omega arith in
    ap (numbers from) e ∙ ap (λ l. from ∷ l) (numbers_snoc (suc from) n ∙ ap (λ m. numbers (suc from) n ++ m ∷ []) d)

alternatives_snoc : (b n : ℕ) → alternatives_of b (n + 1) ≡ alternatives_of b n ++ record { batch = b; k = n } ∷ []
alternatives_snoc b n = ap (map (λ k. record { batch = b; k = k })) (numbers_snoc 0 n)
    ∙ (map-append (λ k. record { batch = b; k = k }) (numbers 0 n) ((0 + n) ∷ [])
    ∙ (let e : 0 + n ≡ n = omega arith in ap (λ m. alternatives_of b n ++ record { batch = b; k = m } ∷ []) e))

pub one_copy : {N : Type 0} (number n : ℕ) (value : N) (copies copies' : List (Waiting N)) (w : Waiting N) → AreCopies number n value copies → w.batch ≡ number
    → w.k ≡ n → arc_value w.copy ≡ value → copies' ≡ copies ++ w ∷ [] → AreCopies number (n + 1) value copies'
one_copy {N = N} number n value copies copies' w are b k v e = subst (AreCopies number (n + 1) value) (sym e) (record {
  places = map-append (λ (w : Waiting N). place_in w) copies (w ∷ [])
      ∙ ((λ i. are.places i ++ record { batch = b i; k = k i } ∷ []) ∙ sym (alternatives_snoc number n));
  values = every_snoc (λ (w : Waiting N). arc_value w.copy ≡ value) copies w are.values v;
})
