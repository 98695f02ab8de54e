-- The text of a whole number of 64 bits is spelled as a number, and this number is its value.
use Rattle.std.proofs.Common.{◌≡◌, ℕ, suc, ◌+◌, ◌<◌, ◌≤◌, ◌^◌, ℤ, pos, negsuc, neg_ℤ, true, false, ◌==◌, List, [], ◌∷◌, length, decimal, FitsSigned, refl, ◌∙◌}
use Rattle.std.proofs.Common.{ap, subst, arith}
use Rattle.std.specs.Int.{w64}
use Rattle.std.specs.List.{list_all, prefix_len}
use Rattle.std.specs.Fmt.{signed_decimal}
use Rattle.std.specs.Str.Parse.{digits_value}
use Rattle.std.proofs.lemmas.Bool.Decides.{nat_tests}
use Rattle.std.proofs.lemmas.Fmt.{digits_decimal, digits_value-decimal, decimal_nonempty}
use Rattle.std.proofs.lemmas.List.{take_all}
use Rattle.ll_list_laws.proofs.CallerLemmas.{and_true_both as both}
use Rattle.ll_lexer.specs.declared.TokenKind.TheVariants as kind
use Rattle.ll_lexer.specs.Spelling.{is_digit, Spells}
use Rattle.ll_lexer.specs.Reading.{number_value}
use Rattle.ll_lexer.proofs.CallerLemmas.{number-longest, negative-longest, digits-model, digit-no_plus}

fits-pos : (n : ℕ) → FitsSigned w64 (pos n) → n < 2 ^ 64
fits-pos n h = let k = h.sfits in omega arith

fits-neg : (n : ℕ) → FitsSigned w64 (negsuc n) → suc n < 2 ^ 64
fits-neg n h = let k = h.sfits in omega arith

run-all : (ds : List ℕ) → list_all is_digit ds ≡ true → prefix_len is_digit ds ≡ length ds
run-all [] h = refl
run-all (d ∷ ds) h =
    let g = both (is_digit d) (list_all is_digit ds) h in
    let f : 1 + length ds ≡ suc (length ds) = omega arith in
    rw (g.0, run-all ds g.1) f

digits-spelled : (ds : List ℕ) → 0 < length ds → list_all is_digit ds ≡ true → Spells kind.Number ds
digits-spelled [] n h = absurd (omega arith)
digits-spelled (d ∷ ds) n h =
    let g = both (is_digit d) (list_all is_digit ds) h in
    let l : length (d ∷ ds) ≤ 1 + prefix_len is_digit ds = rw (run-all ds g.1) (omega arith) in
    subst (Spells kind.Number) (take_all (1 + prefix_len is_digit ds) (d ∷ ds) l) (number-longest d ds g.0).spells

negative-spelled : (ds : List ℕ) → 0 < length ds → list_all is_digit ds ≡ true → Spells kind.Number (45 ∷ ds)
negative-spelled [] n h = absurd (omega arith)
negative-spelled (d ∷ ds) n h =
    let g = both (is_digit d) (list_all is_digit ds) h in
    let l : length (45 ∷ d ∷ ds) ≤ 1 + (1 + prefix_len is_digit ds) = rw (run-all ds g.1) (omega arith) in
    subst (Spells kind.Number) (take_all (1 + (1 + prefix_len is_digit ds)) (45 ∷ d ∷ ds) l) (negative-longest d ds g.0).spells

digit-no_minus : (b : ℕ) → is_digit b ≡ true → (b == 45) ≡ false
unfolding is_digit
digit-no_minus b h = grind (arith, nat_tests)

digits-number : (ds : List ℕ) → 0 < length ds → list_all is_digit ds ≡ true → number_value ds ≡ pos (digits_value 10 ds)
digits-number [] n h = absurd (omega arith)
digits-number (d ∷ ds) n h =
    let g = both (is_digit d) (list_all is_digit ds) h in
    rw (digit-no_minus d g.0, digit-no_plus d g.0) refl

pub spelled-number : (z : ℤ) → FitsSigned w64 z → Spells kind.Number (signed_decimal z)
spelled-number (pos n) h = digits-spelled (decimal n) (decimal_nonempty n (fits-pos n h)) (digits_decimal digits-model n (fits-pos n h))
spelled-number (negsuc n) h = negative-spelled (decimal (suc n)) (decimal_nonempty (suc n) (fits-neg n h)) (digits_decimal digits-model (suc n) (fits-neg n h))

pub value-number : (z : ℤ) → FitsSigned w64 z → number_value (signed_decimal z) ≡ z
value-number (pos n) h = digits-number (decimal n) (decimal_nonempty n (fits-pos n h)) (digits_decimal digits-model n (fits-pos n h))
    ∙ ap pos (digits_value-decimal digits-model n (fits-pos n h))
value-number (negsuc n) h = ap (λ m. let z : ℤ = neg_ℤ (pos m) in z) (digits_value-decimal digits-model (suc n) (fits-neg n h))
