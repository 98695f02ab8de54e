-- Names with a number behind them can stand in a text.
use Rattle.std.proofs.Common.{◌≡◌, ◌≤◌, ℕ, true, List, [], ◌∷◌, length, codes, decimal, refl, arith, length-append}
use Rattle.std.specs.List.{list_all}
use Rattle.std.proofs.lemmas.Bool.Decides.{nat_tests}
use Rattle.std.proofs.lemmas.Fmt.{digits_decimal, length-decimal-le}
use Rattle.std.proofs.lemmas.Bool.{and_parts}
use Rattle.ll_lexer.specs.declared.TokenKind.TheVariants as kind
use Rattle.ll_lexer.specs.Spelling.{is_digit, is_lower, is_word_byte, kind_of, fixed_spellings, Spells}
use Rattle.ll_lexer.proofs.CallerLemmas.{digits-model}
use Rattle.ll_make.specs.Numbered.{numbered}

-- a digit goes on with a name
digit-word : (b : ℕ) → is_digit b ≡ true → is_word_byte b ≡ true
unfolding is_digit is_word_byte
digit-word b h = grind (arith, nat_tests)

digits-words : (ds : List ℕ) → list_all is_digit ds ≡ true → list_all is_word_byte ds ≡ true
digits-words [] h = refl
digits-words (d ∷ ds) h = let g = and_parts (is_digit d) (list_all is_digit ds) h in rw (digit-word d g.0, digits-words ds g.1) refl

-- `p` with digits behind it is a name
digits-name : (ds : List ℕ) → list_all is_word_byte ds ≡ true → Spells kind.Name (112 ∷ ds)
unfolding kind_of fixed_spellings is_lower
digits-name ds h = rw h refl

-- the places of a chain are names
pub place-name : (k : ℕ) → k ≤ 100000 → Spells kind.Name (numbered (codes "p") k) × (length (numbered (codes "p") k) ≤ 255)
place-name k h =
    let d = length-decimal-le 6 k (omega arith) (omega arith) (omega arith) in
    (digits-name (decimal k) (digits-words (decimal k) (digits_decimal digits-model k (omega arith))), omega (arith, length-append (codes "p") (decimal k)))
