-- Tokens and trees without their places: two that are the same so are the same, places aside.
use Rattle.std.specs.Prelude.{map}
use Rattle.ll_lexer.specs.declared.Place.{Place}
use Rattle.ll_parser.specs.Tokens.{Identifier, Tok, name, variable, any, number, true_word, erase_word, forall_word, exists_word, is_sign, module_word}
use Rattle.ll_parser.specs.Tokens.{local_word, linear_word, dot, comma, ampersand, semicolon, paren_left, paren_right, brace_left, brace_right, backslash}
use Rattle.ll_parser.specs.Tokens.{cons_sign, colon_dash, left_arrow, right_arrow, most_sign, less_sign, plus_sign, minus_sign, star_sign, lolli, load_arrow}
use Rattle.ll_parser.specs.Raw.{Raw, truth, erasure, braces, universal, existential, load, binary, head, anything, int, is_goal, less_goal, most_goal, RawList}
use Rattle.ll_parser.specs.Raw.{none, more, ClauseTree, ModuleTree, ProgramTree}

-- the place that stands for every place
abbrev pub nowhere : Place
nowhere = record { line = 0; column = 0 }

-- without places
abbrev pub bare_identifier : Identifier → Identifier
bare_identifier n = record { text = n.text; at = nowhere }

-- a token without its place
abbrev pub bare_tok : Tok → Tok
bare_tok (name n) = name (bare_identifier n)
bare_tok (variable n) = variable (bare_identifier n)
bare_tok (any at) = any nowhere
bare_tok (number n at) = number n nowhere
bare_tok (true_word at) = true_word nowhere
bare_tok (erase_word at) = erase_word nowhere
bare_tok (forall_word at) = forall_word nowhere
bare_tok (exists_word at) = exists_word nowhere
bare_tok (is_sign at) = is_sign nowhere
bare_tok (module_word at) = module_word nowhere
bare_tok (local_word at) = local_word nowhere
bare_tok (linear_word at) = linear_word nowhere
bare_tok (dot at) = dot nowhere
bare_tok (comma at) = comma nowhere
bare_tok (ampersand at) = ampersand nowhere
bare_tok (semicolon at) = semicolon nowhere
bare_tok (paren_left at) = paren_left nowhere
bare_tok (paren_right at) = paren_right nowhere
bare_tok (brace_left at) = brace_left nowhere
bare_tok (brace_right at) = brace_right nowhere
bare_tok (backslash at) = backslash nowhere
bare_tok (cons_sign at) = cons_sign nowhere
bare_tok (colon_dash at) = colon_dash nowhere
bare_tok (left_arrow at) = left_arrow nowhere
bare_tok (right_arrow at) = right_arrow nowhere
bare_tok (most_sign at) = most_sign nowhere
bare_tok (less_sign at) = less_sign nowhere
bare_tok (plus_sign at) = plus_sign nowhere
bare_tok (minus_sign at) = minus_sign nowhere
bare_tok (star_sign at) = star_sign nowhere
bare_tok (lolli at) = lolli nowhere
bare_tok (load_arrow at) = load_arrow nowhere

abbrev mutual
  pub bare_raw : Raw → Raw
  bare_raw (truth at) = truth nowhere
  bare_raw (erasure at) = erasure nowhere
  bare_raw (braces at r) = braces nowhere (bare_raw r)
  bare_raw (universal at n r) = universal nowhere (bare_identifier n) (bare_raw r)
  bare_raw (existential at n r) = existential nowhere (bare_identifier n) (bare_raw r)
  bare_raw (load at n rs r) = load nowhere (bare_identifier n) (bare_raws rs) (bare_raw r)
  bare_raw (binary o at l r) = binary o nowhere (bare_raw l) (bare_raw r)
  bare_raw (head n rs) = head (bare_identifier n) (bare_raws rs)
  bare_raw (anything at) = anything nowhere
  bare_raw (int at n) = int nowhere n
  bare_raw (is_goal at l r) = is_goal nowhere (bare_raw l) (bare_raw r)
  bare_raw (less_goal at l r) = less_goal nowhere (bare_raw l) (bare_raw r)
  bare_raw (most_goal at l r) = most_goal nowhere (bare_raw l) (bare_raw r)

  pub bare_raws : RawList → RawList
  bare_raws none = none
  bare_raws (more r rs) = more (bare_raw r) (bare_raws rs)

-- clauses, modules and programs without places
abbrev pub bare_clause : ClauseTree → ClauseTree
bare_clause c = record { linear = c.linear; form = bare_raw c.form }

abbrev pub bare_module : ModuleTree → ModuleTree
bare_module m = record {
  name = bare_identifier m.name;
  params = map bare_identifier m.params;
  locals = map bare_identifier m.locals;
  clauses =
      map bare_clause m.clauses;
}

abbrev pub bare_program : ProgramTree → ProgramTree
bare_program p = record { clauses = map bare_clause p.clauses; modules = map bare_module p.modules }
