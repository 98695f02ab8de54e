-- What `parse` reads of a word that is a number.
use Rattle.std.proofs.Common.{◌≡◌, ◌≤◌, ℕ, refl, sym, ap, ◌∙◌, true, List, [], ◌∷◌, length, arith, rules}
use Rattle.std.specs.Prelude.{◌&&◌, not, Result, Ok, nat_eq, nat_le}
use Rattle.std.specs.Str.{all_ascii_digits}
use Rattle.std.specs.Char.{is_ascii_digit}
use Rattle.std.specs.List.{list_all}
use Rattle.std.specs.Str.Parse.{digits_value, ParsesUnsigned}
use Rattle.std.proofs.lemmas.Str.Parse.{IsNumeralModel, numerals_by_value, parse_gives, digits_value_short}
use Rattle.std.proofs.lemmas.Bool.{leb-true, eqb-false}
use Rattle.ll_list_laws.proofs.CallerLemmas.{false_from_not as not_true, and_true_left as and_left, and_true_right as and_right}
use Rattle.ll_top.specs.forms.Words.{is_number_word}

digits-all : (w : List ℕ) → list_all is_ascii_digit w ≡ all_ascii_digits w
digits-all [] = refl
digits-all (b ∷ w) = ap (λ x. is_ascii_digit b && x) (digits-all w)

own : IsNumeralModel (λ ds. all_ascii_digits ds ≡ true) (digits_value 10)
own = numerals_by_value _ (search rules)

-- a number is read as its value
pub read_number : {E : Type 0} (w : List ℕ) (r : Result ℕ E) → is_number_word w ≡ true → ParsesUnsigned 32 10 w r → r ≡ Ok (digits_value 10 w)
read_number w r h p =
    let digits : all_ascii_digits w ≡ true = sym (digits-all w) ∙ and_right (not (nat_eq (length w) 0) && nat_le (length w) 9) (list_all is_ascii_digit w) h in
    let front = and_left (not (nat_eq (length w) 0) && nat_le (length w) 9) (list_all is_ascii_digit w) h in
    let short : length w ≤ 9 = leb-true (length w) 9 (and_right (not (nat_eq (length w) 0)) (nat_le (length w) 9) front) in
    let some = eqb-false (length w) 0 (not_true (nat_eq (length w) 0) (and_left (not (nat_eq (length w) 0)) (nat_le (length w) 9) front)) in
    let small = digits_value_short own w 9 digits short in
    parse_gives own 32 w r p digits (omega arith) (omega arith)
