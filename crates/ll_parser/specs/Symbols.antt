-- Tokens by their numbers among the names, and the tokens that they are.
use Rattle.std.specs.Prelude.{◌≡◌, ℕ, ◌+◌, ◌≤◌, List, ◌++◌, length}
use Rattle.ll_parser.specs.declared.symbols.Symbol.{Symbol}
use Rattle.ll_parser.specs.declared.symbols.Symbol.TheVariants as symbol
use Rattle.ll_parser.specs.Tokens.{Tok, name, variable, any, number, true_word, erase_word, forall_word, exists_word, is_sign, module_word, local_word}
use Rattle.ll_parser.specs.Tokens.{linear_word, dot, comma, ampersand, semicolon, paren_left, paren_right, brace_left, brace_right, backslash, cons_sign}
use Rattle.ll_parser.specs.Tokens.{colon_dash, left_arrow, right_arrow, most_sign, less_sign, plus_sign, minus_sign, star_sign, lolli, load_arrow}
use Rattle.ll_parser.specs.Nodes.{identifier}

-- the token, where the names have these texts
abbrev pub symbol_tok : List (List ℕ) → Symbol → Tok
symbol_tok texts (symbol.Name n) = name (identifier texts n)
symbol_tok texts (symbol.Variable n) = variable (identifier texts n)
symbol_tok texts (symbol.Any at) = any at
symbol_tok texts (symbol.Number at z) = number z at
symbol_tok texts (symbol.True at) = true_word at
symbol_tok texts (symbol.Erase at) = erase_word at
symbol_tok texts (symbol.Forall at) = forall_word at
symbol_tok texts (symbol.Exists at) = exists_word at
symbol_tok texts (symbol.Is at) = is_sign at
symbol_tok texts (symbol.Module at) = module_word at
symbol_tok texts (symbol.Local at) = local_word at
symbol_tok texts (symbol.Linear at) = linear_word at
symbol_tok texts (symbol.Dot at) = dot at
symbol_tok texts (symbol.Comma at) = comma at
symbol_tok texts (symbol.Ampersand at) = ampersand at
symbol_tok texts (symbol.Semicolon at) = semicolon at
symbol_tok texts (symbol.ParenLeft at) = paren_left at
symbol_tok texts (symbol.ParenRight at) = paren_right at
symbol_tok texts (symbol.BraceLeft at) = brace_left at
symbol_tok texts (symbol.BraceRight at) = brace_right at
symbol_tok texts (symbol.Backslash at) = backslash at
symbol_tok texts (symbol.Cons at) = cons_sign at
symbol_tok texts (symbol.ColonDash at) = colon_dash at
symbol_tok texts (symbol.LeftArrow at) = left_arrow at
symbol_tok texts (symbol.RightArrow at) = right_arrow at
symbol_tok texts (symbol.Most at) = most_sign at
symbol_tok texts (symbol.Less at) = less_sign at
symbol_tok texts (symbol.Plus at) = plus_sign at
symbol_tok texts (symbol.Minus at) = minus_sign at
symbol_tok texts (symbol.Star at) = star_sign at
symbol_tok texts (symbol.Lolli at) = lolli at
symbol_tok texts (symbol.LoadArrow at) = load_arrow at

-- later texts are the earlier ones and at most one more
pub record AddsOne (old new : List (List ℕ)) : Type 0 where
  pub more : List (List ℕ)
  pub is : new ≡ old ++ more
  pub few : length new ≤ length old + 1
