-- Counts that are cut.
use Rattle.std.proofs.Common.{◌≡◌, ◌⊎◌, ℕ, ◌+◌, ◌<◌, ◌≤◌, sym, ap, ◌∙◌, ⊎_elim, inl, inr, arith}
use Rattle.std.proofs.Math.Nat.{min-eq_left, min-eq_right}
use Rattle.std.proofs.lemmas.Bool.{cases_lt}
use Rattle.ll_laws.specs.Search.{cut_count}

abbrev pub Same : ℕ → ℕ → Type 0
Same a b = (a ≡ b) ⊎ ((18446744073709551615 ≤ a) × (18446744073709551615 ≤ b))

cut_most : (a : ℕ) → 18446744073709551615 ≤ a → cut_count a ≡ 18446744073709551615
cut_most a h = min-eq_right h

cut_below : (a : ℕ) → a ≤ 18446744073709551615 → cut_count a ≡ a
cut_below a h = min-eq_left h

pub from_same : (a b : ℕ) → Same a b → cut_count a ≡ cut_count b
from_same a b h = ⊎_elim (λ (e : a ≡ b). ap cut_count e) (λ (l : (18446744073709551615 ≤ a) × (18446744073709551615 ≤ b)). cut_most a l.0
    ∙ sym (cut_most b l.1)) h

pub same_from : (a b : ℕ) → cut_count a ≡ cut_count b → Same a b
same_from a b e = ⊎_elim
    (λ (l : a < 18446744073709551615). ⊎_elim
    (λ (m : b < 18446744073709551615). inl (sym (cut_below a (omega arith)) ∙ (e ∙ cut_below b (omega arith))))
    (λ (m : 18446744073709551615 ≤ b). let c = cut_below a (omega arith) in let d = cut_most b m in absurd (omega arith))
    (cases_lt b 18446744073709551615))
    (λ (l : 18446744073709551615 ≤ a). ⊎_elim
    (λ (m : b < 18446744073709551615). let c = cut_most a l in let d = cut_below b (omega arith) in absurd (omega arith))
    (λ (m : 18446744073709551615 ≤ b). inr (l, m))
    (cases_lt b 18446744073709551615))
    (cases_lt a 18446744073709551615)

-- a sum is cut alike where its parts are
pub cut_sum : (a b c d : ℕ) → cut_count a ≡ cut_count c → cut_count b ≡ cut_count d → cut_count (a + b) ≡ cut_count (c + d)
cut_sum a b c d e f = from_same (a + b) (c + d) (⊎_elim
    (λ (g : a ≡ c). ⊎_elim
    (λ (h : b ≡ d). inl (λ i. g i + h i))
    (λ (h : (18446744073709551615 ≤ b) × (18446744073709551615 ≤ d)). let h0 = h.0 in let h1 = h.1 in inr (omega arith, omega arith))
    (same_from b d f))
    (λ (g : (18446744073709551615 ≤ a) × (18446744073709551615 ≤ c)). let g0 = g.0 in let g1 = g.1 in inr (omega arith, omega arith))
    (same_from a c e))

-- cutting twice is cutting once
pub cut_twice : (a : ℕ) → cut_count (cut_count a) ≡ cut_count a
cut_twice a = ⊎_elim (λ (l : a < 18446744073709551615). ap cut_count (cut_below a (omega arith)))
    (λ (l : 18446744073709551615 ≤ a). ap cut_count (cut_most a l) ∙ (cut_most 18446744073709551615 (omega arith) ∙ sym (cut_most a l)))
    (cases_lt a 18446744073709551615)
