-- What is known of a row of a list of tokens.
use Rattle.std.proofs.Common.{◌≡◌, ℕ, ◌<◌, List, length, get_or, map, Option, Some, None, option_map, MatchOption, IsSome, IsSomeAnd, ℤ, FitsSigned, true}
use Rattle.std.proofs.Common.{rules, refl, ◌∙◌, ap, arith}
use Rattle.std.specs.List.{slice_get}
use Rattle.std.specs.Int.{w64}
use Rattle.std.proofs.lemmas.List.{length-map}
use Rattle.std.proofs.lemmas.Option.{slice_get-map, slice_get_read}
use Rattle.ll_lexer.specs.declared.Place.{Place}
use Rattle.ll_lexer.specs.declared.Row.{Row}
use Rattle.ll_lexer.specs.declared.Token.{Token}
use Rattle.ll_lexer.specs.declared.TokenKind.TheVariants.{Number}
use Rattle.ll_lexer.specs.Kept.{token_of}
use Rattle.ll_lexer.specs.Reading.{done, IsLexed, IsTokenOf, bytes_of, number_value, past_64_bits}
use Rattle.ll_lexer.specs.Spelling.{is_number}
use Rattle.ll_lexer.proofs.Numerals.{number-spelled}
use Rattle.ll_lexer.proofs.OneReading.{token-found}

-- the token of row i
pub row-token : (rows : List Row) (i : ℕ) (row : Row) → i < length rows → row ≡ get_or rows i row → slice_get (map token_of rows) i ≡ Some (token_of row)
row-token rows i row h e = slice_get-map token_of rows i ∙ ap (option_map token_of) (slice_get_read rows (length rows) i row refl h e)

pub row-stands : (text : List ℕ) (rows : List Row) (end : Place) (i : ℕ) (row : Row) → IsLexed (record { text = text; tokens = map token_of rows; end = end })
    → i < length rows → row ≡ get_or rows i row → IsTokenOf text (token_of row)
row-stands text rows end i row l h e = token-found text 0 (map token_of rows) (done end) l i (token_of row) (row-token rows i row h e)

pub listed-within : (rows : List Row) (i n : ℕ) → n ≡ length (map token_of rows) → i < n → i < length rows
listed-within rows i n e h = let f : length (map token_of rows) ≡ length rows = simp length-map in omega arith

-- the bytes of a number among the tokens
pub number-token : (text : List ℕ) (ts : List Token) (i : ℕ) (t : Token) → slice_get ts i ≡ Some t → IsTokenOf text t
    → IsSomeAnd (slice_get ts i) (λ u. u.kind ≡ Number) → is_number (bytes_of text t) ≡ true
number-token text ts i t e s n =
    let k : t.kind ≡ Number = rw e at n in
    number-spelled (bytes_of text t) (rw k at s.spells)

pub number-fits : (text : List ℕ) (ts : List Token) (i : ℕ) (t : Token) (o : Option ℤ) → slice_get ts i ≡ Some t → IsTokenOf text t
    → IsSomeAnd (slice_get ts i) (λ u. u.kind ≡ Number) → MatchOption o (FitsSigned w64 (number_value (bytes_of text t))
    → ⊥) (λ v. v ≡ number_value (bytes_of text t)) → IsSome o
number-fits text ts i t (Some v) e s n h = search rules
number-fits text ts i t None e s n h =
    let k : t.kind ≡ Number = rw e at n in
    absurd (s.sound 2 (rw k (past_64_bits h)))
