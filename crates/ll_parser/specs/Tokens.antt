-- The tokens that the grammar speaks of, and how they are seen in a text.
use Rattle.std.specs.Prelude.{ℕ, ◌≤◌, ℤ, List, length, map, FitsSigned}
use Rattle.std.specs.Int.{w64}
use Rattle.ll_lexer.specs.declared.Place.{Place}
use Rattle.ll_lexer.specs.declared.Token.{Token}
use Rattle.ll_lexer.specs.declared.TokenKind.{TokenKind}
use Rattle.ll_lexer.specs.declared.TokenKind.TheVariants as kind
use Rattle.ll_lexer.specs.Spelling.{Spells}
use Rattle.ll_lexer.specs.Reading.{LexedText, number_value, bytes_of}

-- the text of a name or a variable, and where it stands
pub record Identifier : Type 0 where
  pub text : List ℕ
  pub at : Place

-- a token: its kind and its place, with its text if it is a name or a variable, and its value if it is a number
pub data Tok : Type 0 where
  name variable : Identifier → Tok
  any : Place → Tok
  number : ℤ → Place → Tok
  true_word erase_word forall_word exists_word is_sign module_word local_word linear_word : Place → Tok
  dot comma ampersand semicolon paren_left paren_right brace_left brace_right backslash : Place → Tok
  cons_sign colon_dash left_arrow right_arrow most_sign less_sign plus_sign minus_sign star_sign lolli load_arrow : Place → Tok

-- the place of a token
abbrev pub tok_place : Tok → Place
tok_place (name n) = n.at
tok_place (variable n) = n.at
tok_place (any at) = at
tok_place (number z at) = at
tok_place (true_word at) = at
tok_place (erase_word at) = at
tok_place (forall_word at) = at
tok_place (exists_word at) = at
tok_place (is_sign at) = at
tok_place (module_word at) = at
tok_place (local_word at) = at
tok_place (linear_word at) = at
tok_place (dot at) = at
tok_place (comma at) = at
tok_place (ampersand at) = at
tok_place (semicolon at) = at
tok_place (paren_left at) = at
tok_place (paren_right at) = at
tok_place (brace_left at) = at
tok_place (brace_right at) = at
tok_place (backslash at) = at
tok_place (cons_sign at) = at
tok_place (colon_dash at) = at
tok_place (left_arrow at) = at
tok_place (right_arrow at) = at
tok_place (most_sign at) = at
tok_place (less_sign at) = at
tok_place (plus_sign at) = at
tok_place (minus_sign at) = at
tok_place (star_sign at) = at
tok_place (lolli at) = at
tok_place (load_arrow at) = at

-- the token of a kind with these bytes at a place
abbrev pub tok_by : TokenKind → List ℕ → Place → Tok
tok_by kind.Name bytes at = name (record { text = bytes; at = at })
tok_by kind.Variable bytes at = variable (record { text = bytes; at = at })
tok_by kind.Any bytes at = any at
tok_by kind.Number bytes at = number (number_value bytes) at
tok_by kind.True bytes at = true_word at
tok_by kind.Erase bytes at = erase_word at
tok_by kind.Forall bytes at = forall_word at
tok_by kind.Exists bytes at = exists_word at
tok_by kind.Is bytes at = is_sign at
tok_by kind.Module bytes at = module_word at
tok_by kind.Local bytes at = local_word at
tok_by kind.Linear bytes at = linear_word at
tok_by kind.Dot bytes at = dot at
tok_by kind.Comma bytes at = comma at
tok_by kind.Ampersand bytes at = ampersand at
tok_by kind.Semicolon bytes at = semicolon at
tok_by kind.ParenLeft bytes at = paren_left at
tok_by kind.ParenRight bytes at = paren_right at
tok_by kind.BraceLeft bytes at = brace_left at
tok_by kind.BraceRight bytes at = brace_right at
tok_by kind.Backslash bytes at = backslash at
tok_by kind.Cons bytes at = cons_sign at
tok_by kind.ColonDash bytes at = colon_dash at
tok_by kind.LeftArrow bytes at = left_arrow at
tok_by kind.RightArrow bytes at = right_arrow at
tok_by kind.Most bytes at = most_sign at
tok_by kind.Less bytes at = less_sign at
tok_by kind.Plus bytes at = plus_sign at
tok_by kind.Minus bytes at = minus_sign at
tok_by kind.Star bytes at = star_sign at
tok_by kind.Lolli bytes at = lolli at
tok_by kind.LoadArrow bytes at = load_arrow at

-- a token of a text
abbrev pub tok_of : List ℕ → Token → Tok
tok_of text t = tok_by t.kind (bytes_of text t) t.at

-- the tokens of a text that was read by the lexer
abbrev pub toks_of : LexedText → List Tok
toks_of lexed = map (tok_of lexed.text) lexed.tokens

-- the token can stand in a text: a name and a variable are spelled so and have at most 255 bytes, and a number has 64 bits
abbrev pub IsSpelled : Tok → Type 0
IsSpelled (name n) = Spells kind.Name n.text × (length n.text ≤ 255)
IsSpelled (variable n) = Spells kind.Variable n.text × (length n.text ≤ 255)
IsSpelled (number z at) = FitsSigned w64 z
IsSpelled _ = Unit {0}
