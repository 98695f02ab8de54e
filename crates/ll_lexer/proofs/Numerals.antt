-- The value of a number's spelling, as `parse` reads it.
use Rattle.std.proofs.Common.{◌≡◌, ℕ, ◌<◌, Bool, true, false, cond, ◌==◌, List, [], ◌∷◌, length, refl, arith, rules, FitsSigned, Result, MatchResult, IsOk}
use Rattle.std.proofs.Common.{Option, Some, ℤ, MatchOption, zero, suc, Ok, Err, ◌⊎◌, inl, inr}
use Rattle.std.specs.Int.{w64}
use Rattle.std.specs.List.{list_all}
use Rattle.std.specs.Result.{result_ok}
use Rattle.std.specs.Str.{IsUtf8, IsAscii}
use Rattle.std.specs.Str.Parse.{AllDigits, IsNumeral, digits_value, without_leading_sign, ParsesSigned}
use Rattle.std.proofs.lemmas.Bool.Decides.{nat_tests, Decides-eqb}
use Rattle.std.proofs.lemmas.Str.{IsUtf8-from_ascii}
use Rattle.std.proofs.lemmas.Str.Parse.{IsDigitsTest, IsNumeralModel, numerals_by_value}
use Rattle.ll_list_laws.proofs.CallerLemmas.{and_true_both as both}
use Rattle.ll_lexer.specs.declared.TokenKind.{TokenKind}
use Rattle.ll_lexer.specs.Spelling.{is_digit, is_numeral, is_number}
use Rattle.ll_lexer.specs.Reading.{number_value}
use Rattle.ll_lexer.specs.declared.TokenKind.TheVariants.{Name, Variable, Number}
use Rattle.ll_lexer.specs.Reading.{HasFlaw, long_name, long_variable}
use Rattle.ll_lexer.specs.Spelling.{fixed_spellings, kind_of}
use Rattle.ll_lexer.proofs.Spelled.{kind-passes}
use Rattle.ll_lexer.proofs.Ascii.{digit-ascii}

tests-digits : IsDigitsTest (λ ds. list_all is_digit ds ≡ true)
unfolding is_digit
tests-digits = search rules

-- digits, as the lexer tests them, are those of a decimal number
pub digits-model : IsNumeralModel (λ ds. list_all is_digit ds ≡ true) (digits_value 10)
digits-model = numerals_by_value (λ ds. list_all is_digit ds ≡ true) tests-digits

all-digits : (ds : List ℕ) → list_all is_digit ds ≡ true → AllDigits 10 ds
all-digits = digits-model.to

numeral : (ds : List ℕ) → is_numeral ds ≡ true → IsNumeral 10 ds
numeral [] h = absurd cc
numeral (d ∷ ds) h = (omega arith, all-digits (d ∷ ds) h)

pub digit-no_plus : (b : ℕ) → is_digit b ≡ true → (b == 43) ≡ false
unfolding is_digit
digit-no_plus b h = grind (arith, nat_tests)

number-numeral : (w : List ℕ) → is_number w ≡ true → IsNumeral 10 (without_leading_sign w)
number-numeral [] h = absurd cc
number-numeral (b ∷ bs) h = by-dash (b == 45) refl h
  where
    by-dash : (v : Bool) → (b == 45) ≡ v → cond v (is_numeral bs) (is_numeral (b ∷ bs)) ≡ true → IsNumeral 10 (without_leading_sign (b ∷ bs))
    by-dash true e h = rw e (numeral bs h)
    by-dash false e h = rw (e, digit-no_plus b (both (is_digit b) (list_all is_digit bs) h).0) (numeral (b ∷ bs) h)

digits-ascii : (ds : List ℕ) → list_all is_digit ds ≡ true → IsAscii ds
digits-ascii [] h i = omega arith
digits-ascii (d ∷ ds) h zero = digit-ascii d (both (is_digit d) (list_all is_digit ds) h).0
digits-ascii (d ∷ ds) h (suc i) = digits-ascii ds (both (is_digit d) (list_all is_digit ds) h).1 i

number-ascii : (w : List ℕ) → is_number w ≡ true → IsAscii w
number-ascii [] h = absurd cc
number-ascii (b ∷ bs) h = by-dash (b == 45) refl h
  where
    after-dash : (bs : List ℕ) → b ≡ 45 → is_numeral bs ≡ true → IsAscii (b ∷ bs)
    after-dash [] e h i = absurd cc
    after-dash (d ∷ ds) e h zero = omega arith
    after-dash (d ∷ ds) e h (suc i) = digits-ascii (d ∷ ds) h i

    by-dash : (v : Bool) → (b == 45) ≡ v → cond v (is_numeral bs) (is_numeral (b ∷ bs)) ≡ true → IsAscii (b ∷ bs)
    by-dash true e h = after-dash bs ((Decides-eqb b 45).0 e) h
    by-dash false e h = digits-ascii (b ∷ bs) h

pub number-utf8 : (w : List ℕ) → is_number w ≡ true → IsUtf8 w
number-utf8 w h = IsUtf8-from_ascii w (number-ascii w h)

pub utf8-read : {T E : Type 0} (A : T → Type 0) (B : E → Type 0) (w : List ℕ) (r : Result T E) → IsUtf8 w → MatchResult r A (λ e. (IsUtf8 w → ⊥) × B e) → IsOk r
utf8-read A B w (Ok t) u m = search rules
utf8-read A B w (Err e) u m = absurd (m.0 u)

pub number-parsed : {E : Type 0} (w : List ℕ) (r : Result ℤ E) (o : Option ℤ) → is_number w ≡ true → ParsesSigned w64 10 w r → o ≡ result_ok r
    → MatchOption o (FitsSigned w64 (number_value w) → ⊥) (λ v. v ≡ number_value w)
number-parsed w (Ok v) o h p e = rw e p.1
number-parsed w (Err x) o h p e = rw e (λ f. p (number-numeral w h, f))

number_if : TokenKind → List ℕ → Bool
number_if Number w = is_number w
number_if _ w = true

pub number-spelled : (w : List ℕ) → kind_of w ≡ Some Number → is_number w ≡ true
unfolding fixed_spellings number_if
number-spelled w h = kind-passes (λ w k. number_if k w) w Number refl record { names = λ w e. refl; variables = λ w e. refl; numbers = λ w e. e } h

pub long-word : (k : TokenKind) (w : List ℕ) → (k ≡ Name) ⊎ (k ≡ Variable) → 255 < length w → HasFlaw k w 3
long-word k w (inl e) h = rw e (long_name h)
long-word k w (inr e) h = rw e (long_variable h)
