-- How tokens are spelled, and which token is the longest at the front of some bytes.
use Rattle.std.specs.Prelude.{◌≡◌, ℕ, ◌<◌, ◌≤◌, Bool, false, if◌then◌else◌, ◌&&◌, ◌||◌, ◌==◌, List, [], ◌∷◌, length, take, codes, Option, None, Some}
use Rattle.std.specs.Char.{is_ascii_alphabetic, is_ascii_alphanumeric, is_ascii_digit, is_ascii_lowercase, is_ascii_uppercase}
use Rattle.std.specs.List.{list_all}
use Rattle.std.specs.Option.{option_or}
use Rattle.std.specs.Str.{bytes_eq}
use Rattle.ll_lexer.specs.declared.TokenKind.{TokenKind}
use Rattle.ll_lexer.specs.declared.TokenKind.TheVariants.{Name, Variable, Any, Number, True, Erase, Forall, Exists, Is, Module, Local, Linear, Dot, Comma}
use Rattle.ll_lexer.specs.declared.TokenKind.TheVariants.{Ampersand, Semicolon, ParenLeft, ParenRight, BraceLeft, BraceRight, Backslash, Cons, ColonDash}
use Rattle.ll_lexer.specs.declared.TokenKind.TheVariants.{LeftArrow, RightArrow, Most, Less, Plus, Minus, Star, Lolli, LoadArrow}

-- a lower-case letter, an upper-case letter, a decimal digit
unfoldable pub is_lower : ℕ → Bool
is_lower b = is_ascii_lowercase b

unfoldable pub is_upper : ℕ → Bool
is_upper b = is_ascii_uppercase b

unfoldable pub is_digit : ℕ → Bool
is_digit b = is_ascii_digit b

-- a byte that goes on with a name or a variable: a letter, a digit or `_`
unfoldable pub is_word_byte : ℕ → Bool
is_word_byte b = is_ascii_alphanumeric b || b == 95

-- a lower-case letter, then letters, digits and `_`
abbrev pub is_name : List ℕ → Bool
is_name [] = false
is_name (b ∷ bs) = is_lower b && list_all is_word_byte bs

-- an upper-case letter, or `_` and at least one more byte, then letters, digits and `_`
abbrev pub is_variable : List ℕ → Bool
is_variable [] = false
is_variable (b ∷ []) = is_upper b
is_variable (b ∷ c ∷ bs) = (is_upper b || b == 95) && list_all is_word_byte (c ∷ bs)

-- one digit or more
abbrev pub is_numeral : List ℕ → Bool
is_numeral [] = false
is_numeral (b ∷ bs) = is_digit b && list_all is_digit bs

-- digits, or `-` directly followed by digits
abbrev pub is_number : List ℕ → Bool
is_number [] = false
is_number (b ∷ bs) = if b == 45 then is_numeral bs else is_numeral (b ∷ bs)

-- the keywords, `_` alone, and the signs: each has one spelling
unfoldable pub fixed_spellings : List (List ℕ × TokenKind)
fixed_spellings =
    (codes "true", True) ∷ (codes "erase", Erase) ∷ (codes "forall", Forall) ∷ (codes "exists", Exists) ∷ (codes "is", Is)
    ∷ (codes "MODULE", Module) ∷ (codes "LOCAL", Local) ∷ (codes "LINEAR", Linear)
    ∷ (codes "_", Any)
    ∷ (codes ".", Dot) ∷ (codes ",", Comma) ∷ (codes "&", Ampersand) ∷ (codes ";", Semicolon)
    ∷ (codes "(", ParenLeft) ∷ (codes ")", ParenRight) ∷ (codes "{", BraceLeft) ∷ (codes "}", BraceRight)
    ∷ (92 ∷ [], Backslash)
    ∷ (codes "::", Cons) ∷ (codes ":-", ColonDash) ∷ (codes "<=", LeftArrow) ∷ (codes "=>", RightArrow)
    ∷ (codes "=<", Most) ∷ (codes "<", Less) ∷ (codes "+", Plus) ∷ (codes "-", Minus) ∷ (codes "*", Star)
    ∷ (codes "-o", Lolli) ∷ (codes "-->", LoadArrow)
    ∷ []

-- the kind that a list of spellings gives to a word
abbrev pub listed_kind : List (List ℕ × TokenKind) → List ℕ → Option TokenKind
listed_kind [] w = None
listed_kind (entry ∷ more) w = if bytes_eq entry.0 w then Some entry.1 else listed_kind more w

-- the kind of a word that is no keyword and no sign
abbrev pub shaped_kind : List ℕ → Option TokenKind
shaped_kind w = if is_name w then Some Name else (if is_variable w then Some Variable else (if is_number w then Some Number else None))

-- the kind of token that is spelled so, if one is: no two kinds share a spelling
unfoldable pub kind_of : List ℕ → Option TokenKind
kind_of w = option_or (listed_kind fixed_spellings w) (shaped_kind w)

-- a token of this kind is spelled so
abbrev pub Spells : TokenKind → List ℕ → Type 0
Spells k w = kind_of w ≡ Some k

-- the longest match (Aho, Sethi and Ullman 1986): the token at the front of the bytes has this kind and this length, and no longer one stands there
pub record IsLongest (bytes : List ℕ) (k : TokenKind) (n : ℕ) : Type 0 where
  pub within : n ≤ length bytes
  pub spells : Spells k (take n bytes)
  pub longest : (j : TokenKind) (m : ℕ) → n < m → m ≤ length bytes → Spells j (take m bytes) → ⊥

-- no token stands at the front of the bytes
abbrev pub HasNone : List ℕ → Type 0
HasNone bytes = (j : TokenKind) (m : ℕ) → m ≤ length bytes → Spells j (take m bytes) → ⊥

-- a byte with which a name, a variable, a keyword or `_` begins: a letter or `_`
unfoldable pub is_word_start : ℕ → Bool
is_word_start b = is_ascii_alphabetic b || b == 95

-- such a byte, then letters, digits and `_`
abbrev pub is_word : List ℕ → Bool
is_word [] = false
is_word (b ∷ bs) = is_word_start b && list_all is_word_byte bs
