-- The signs, each the longest token at its place, and what begins as one and is none.
use Rattle.std.proofs.Common.{◌≡◌, ℕ, true, false, List, [], ◌∷◌, refl, codes}
use Rattle.std.specs.List.{starts_with}
use Rattle.std.specs.Prelude.{nat_eq}
use Rattle.ll_lexer.specs.declared.TokenKind.TheVariants.{Dot, Comma, Ampersand, Semicolon, ParenLeft, ParenRight, BraceLeft, BraceRight, Backslash, Cons}
use Rattle.ll_lexer.specs.declared.TokenKind.TheVariants.{ColonDash, LeftArrow, RightArrow, Most, Less, Plus, Star, Lolli, LoadArrow}
use Rattle.ll_lexer.specs.Spelling.{is_lower, is_upper, is_digit, is_word_start, fixed_spellings, kind_of, IsLongest, HasNone}
use Rattle.ll_lexer.proofs.Longest.{sign-longest, short-longest, sign-none}

pub record SignsAreRead : Type 0 where
  pub dot : (rest : List ℕ) → IsLongest (46 ∷ rest) Dot 1
  pub comma : (rest : List ℕ) → IsLongest (44 ∷ rest) Comma 1
  pub ampersand : (rest : List ℕ) → IsLongest (38 ∷ rest) Ampersand 1
  pub semicolon : (rest : List ℕ) → IsLongest (59 ∷ rest) Semicolon 1
  pub paren_left : (rest : List ℕ) → IsLongest (40 ∷ rest) ParenLeft 1
  pub paren_right : (rest : List ℕ) → IsLongest (41 ∷ rest) ParenRight 1
  pub brace_left : (rest : List ℕ) → IsLongest (123 ∷ rest) BraceLeft 1
  pub brace_right : (rest : List ℕ) → IsLongest (125 ∷ rest) BraceRight 1
  pub backslash : (rest : List ℕ) → IsLongest (92 ∷ rest) Backslash 1
  pub cons_sign : (rest : List ℕ) → starts_with nat_eq rest (codes ":") ≡ true → IsLongest (58 ∷ rest) Cons 2
  pub colon_dash : (rest : List ℕ) → starts_with nat_eq rest (codes "-") ≡ true → IsLongest (58 ∷ rest) ColonDash 2
  pub left_arrow : (rest : List ℕ) → starts_with nat_eq rest (codes "=") ≡ true → IsLongest (60 ∷ rest) LeftArrow 2
  pub right_arrow : (rest : List ℕ) → starts_with nat_eq rest (codes ">") ≡ true → IsLongest (61 ∷ rest) RightArrow 2
  pub most : (rest : List ℕ) → starts_with nat_eq rest (codes "<") ≡ true → IsLongest (61 ∷ rest) Most 2
  pub less : (rest : List ℕ) → starts_with nat_eq rest (codes "=") ≡ false → IsLongest (60 ∷ rest) Less 1
  pub plus : (rest : List ℕ) → IsLongest (43 ∷ rest) Plus 1
  pub star : (rest : List ℕ) → IsLongest (42 ∷ rest) Star 1
  pub lolli : (rest : List ℕ) → starts_with nat_eq rest (codes "o") ≡ true → IsLongest (45 ∷ rest) Lolli 2
  pub load_arrow : (rest : List ℕ) → starts_with nat_eq rest (codes "->") ≡ true → IsLongest (45 ∷ rest) LoadArrow 3
  pub no_colon : (rest : List ℕ) → starts_with nat_eq rest (codes ":") ≡ false → starts_with nat_eq rest (codes "-") ≡ false → HasNone (58 ∷ rest)
  pub no_equals : (rest : List ℕ) → starts_with nat_eq rest (codes ">") ≡ false → starts_with nat_eq rest (codes "<") ≡ false → HasNone (61 ∷ rest)

pub signs : SignsAreRead
unfolding is_lower is_upper is_digit is_word_start fixed_spellings kind_of
signs = record {
  dot = λ rest. sign-longest 46 [] rest Dot refl refl (λ d w. refl);
  comma = λ rest. sign-longest 44 [] rest Comma refl refl (λ d w. refl);
  ampersand = λ rest. sign-longest 38 [] rest Ampersand refl refl (λ d w. refl);
  semicolon = λ rest. sign-longest 59 [] rest Semicolon refl refl (λ d w. refl);
  paren_left = λ rest. sign-longest 40 [] rest ParenLeft refl refl (λ d w. refl);
  paren_right = λ rest. sign-longest 41 [] rest ParenRight refl refl (λ d w. refl);
  brace_left = λ rest. sign-longest 123 [] rest BraceLeft refl refl (λ d w. refl);
  brace_right = λ rest. sign-longest 125 [] rest BraceRight refl refl (λ d w. refl);
  backslash = λ rest. sign-longest 92 [] rest Backslash refl refl (λ d w. refl);
  cons_sign = λ rest h. sign-longest 58 (codes ":") rest Cons h refl (λ d w. refl);
  colon_dash = λ rest h. sign-longest 58 (codes "-") rest ColonDash h refl (λ d w. refl);
  left_arrow = λ rest h. sign-longest 60 (codes "=") rest LeftArrow h refl (λ d w. refl);
  right_arrow = λ rest h. sign-longest 61 (codes ">") rest RightArrow h refl (λ d w. refl);
  most = λ rest h. sign-longest 61 (codes "<") rest Most h refl (λ d w. refl);
  less = λ rest h. short-longest 60 (codes "=" ∷ []) rest Less refl refl refl refl refl (rw h refl);
  plus = λ rest. sign-longest 43 [] rest Plus refl refl (λ d w. refl);
  star = λ rest. sign-longest 42 [] rest Star refl refl (λ d w. refl);
  lolli = λ rest h. sign-longest 45 (codes "o") rest Lolli h refl (λ d w. refl);
  load_arrow = λ rest h. sign-longest 45 (codes "->") rest LoadArrow h refl (λ d w. refl);
  no_colon = λ rest h g. sign-none 58 (codes ":" ∷ codes "-" ∷ []) rest refl refl refl refl (rw (h, g) refl);
  no_equals = λ rest h g. sign-none 61 (codes ">" ∷ codes "<" ∷ []) rest refl refl refl refl (rw (h, g) refl);
}
