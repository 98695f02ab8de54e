-- How many answers an outlet has taken.
use Rattle.std.proofs.Common.{◌≡◌, ℕ, ◌+◌, List, [], ◌∷◌, ◌++◌, ap, ◌∙◌, arith}
use Rattle.std.specs.Prelude.{count_by}
use Rattle.std.proofs.lemmas.List.Sums.{sum_by-append}
use Rattle.ll_laws.specs.declared.Event.{Event}
use Rattle.ll_laws.specs.declared.Event.TheVariants.{Answer, Reached}
use Rattle.ll_laws.specs.Search.{is_answer, cut_count}
use Rattle.ll_order.specs.Outlets.{Gives}
use Rattle.ll_first.specs.Upto.{counted}

-- one event more
pub counted_more : (n : ℕ) (e : Event) → counted (cut_count n) e ≡ cut_count (n + count_by is_answer (e ∷ []))
counted_more n (Answer a) = let c : count_by is_answer (Answer a ∷ []) ≡ 1 = omega arith in omega arith
counted_more n Reached = let c : count_by is_answer (Reached ∷ []) ≡ 0 = omega arith in let z : n ≡ n + count_by is_answer (Reached ∷ []) = omega arith in
    ap cut_count z

count_more : (n : ℕ) (e : Event) (es : List Event) → (n + count_by is_answer (e ∷ [])) + count_by is_answer es ≡ n + count_by is_answer (e ∷ es)
count_more n e es = let s : count_by is_answer (e ∷ [] ++ es) ≡ count_by is_answer (e ∷ []) + count_by is_answer es = sum_by-append _ (e ∷ []) es in omega arith

module _ {O : Type 0} (takes : O → Event → O → Type 0) (limit answers : O → ℕ) (counts : (before : O) (e : Event) (after : O) → takes before e after
    → (limit after ≡ limit before) × (answers after ≡ counted (answers before) e)) where
  -- all events were taken
  pub given_counts : (x y : O) (es : List Event) (n : ℕ) → answers x ≡ cut_count n → Gives takes x es y
      → (limit y ≡ limit x) × (answers y ≡ cut_count (n + count_by is_answer es))
  given_counts x y [] n first g = let z : n ≡ n + count_by is_answer [] = omega arith in (ap limit g, ap answers g ∙ (first ∙ ap cut_count z))
  given_counts x y (e ∷ es) n first (between, taken, g) =
      let one = counts x e between taken in
      let i = given_counts between y es (n + count_by is_answer (e ∷ [])) (one.1 ∙ (ap (λ k. counted k e) first ∙ counted_more n e)) g in
      (i.0 ∙ one.0, i.1 ∙ ap cut_count (count_more n e es))
