-- Programs and queries: parse trees, by the productions, with their tokens and what they are read as.
use Rattle.std.specs.Prelude.{Bool, true, false, List, [], ◌∷◌, ◌++◌, map}
use Rattle.ll_lexer.specs.declared.Place.{Place}
use Rattle.ll_parser.specs.Tokens.{Identifier, Tok, name, variable, module_word, local_word, linear_word, dot}
use Rattle.ll_parser.specs.Raw.{Raw, ClauseTree, ModuleTree, ProgramTree}
use Rattle.ll_parser.specs.Grammar.{Formula, formula_tokens, formula_raw}

-- clause = [ "LINEAR" ] formula "."
pub data Clause : Type 0 where
  plain : {o : Bool} → Formula o → Place → Clause
  linear : {o : Bool} → Place → Formula o → Place → Clause

-- local = "LOCAL" Name { Name } "."
pub record Local : Type 0 where
  pub word : Place
  pub first : Identifier
  pub others : List Identifier
  pub end : Place

-- "MODULE" Name { Variable } "."
pub record Heading : Type 0 where
  pub word : Place
  pub name : Identifier
  pub params : List Identifier
  pub end : Place

-- module = "MODULE" Name { Variable } "." { local } { clause }
pub record Module : Type 0 where
  pub heading : Heading
  pub locals : List Local
  pub clauses : List Clause

-- program = { clause } { module }
pub record Program : Type 0 where
  pub clauses : List Clause
  pub modules : List Module

-- query = formula [ "." ]
pub data Query : Type 0 where
  bare : {o : Bool} → Formula o → Query
  dotted : {o : Bool} → Formula o → Place → Query

-- ---- their tokens

-- of a clause
abbrev pub clause_tokens : Clause → List Tok
clause_tokens (plain f end) = formula_tokens f ++ dot end ∷ []
clause_tokens (linear at f end) = linear_word at ∷ (formula_tokens f ++ dot end ∷ [])

-- of Names in a row, and of Variables
abbrev pub names : List Identifier → List Tok
names [] = []
names (n ∷ ns) = name n ∷ names ns

abbrev pub variables : List Identifier → List Tok
variables [] = []
variables (n ∷ ns) = variable n ∷ variables ns

-- of a line `LOCAL`, and of the line that begins a module
abbrev pub local_tokens : Local → List Tok
local_tokens l = local_word l.word ∷ name l.first ∷ (names l.others ++ dot l.end ∷ [])

abbrev pub heading_tokens : Heading → List Tok
heading_tokens h = module_word h.word ∷ name h.name ∷ (variables h.params ++ dot h.end ∷ [])

-- of clauses, and of all lines `LOCAL` of a module
abbrev pub clauses_tokens : List Clause → List Tok
clauses_tokens [] = []
clauses_tokens (c ∷ cs) = clause_tokens c ++ clauses_tokens cs

abbrev pub locals_tokens : List Local → List Tok
locals_tokens [] = []
locals_tokens (l ∷ ls) = local_tokens l ++ locals_tokens ls

-- of a module, and of all modules
abbrev pub module_tokens : Module → List Tok
module_tokens m = heading_tokens m.heading ++ (locals_tokens m.locals ++ clauses_tokens m.clauses)

abbrev pub modules_tokens : List Module → List Tok
modules_tokens [] = []
modules_tokens (m ∷ ms) = module_tokens m ++ modules_tokens ms

-- of a program
abbrev pub program_tokens : Program → List Tok
program_tokens p = clauses_tokens p.clauses ++ modules_tokens p.modules

-- of a query
abbrev pub query_tokens : Query → List Tok
query_tokens (bare f) = formula_tokens f
query_tokens (dotted f end) = formula_tokens f ++ dot end ∷ []

-- ---- what they are read as

-- a clause, with its mark
abbrev pub clause_tree : Clause → ClauseTree
clause_tree (plain f end) = record { linear = false; form = formula_raw f }
clause_tree (linear at f end) = record { linear = true; form = formula_raw f }

-- all names of the lines `LOCAL`, in order
abbrev pub locals_of : List Local → List Identifier
locals_of [] = []
locals_of (l ∷ ls) = l.first ∷ (l.others ++ locals_of ls)

-- a module, with all its local constants in one list
abbrev pub module_tree : Module → ModuleTree
module_tree m = record { name = m.heading.name; params = m.heading.params; locals = locals_of m.locals; clauses = map clause_tree m.clauses }

-- a program
abbrev pub program_tree : Program → ProgramTree
program_tree p = record { clauses = map clause_tree p.clauses; modules = map module_tree p.modules }

-- a query: its formula
abbrev pub query_tree : Query → Raw
query_tree (bare f) = formula_raw f
query_tree (dotted f end) = formula_raw f

-- ---- the two kinds of text

-- a kind of text: its parse trees, the tokens of each, and what each is read as
pub record Language : Type 1 where
  pub Parse : Type 0
  pub Tree : Type 0
  pub tokens : Parse → List Tok
  pub tree : Parse → Tree

-- the programs
abbrev pub programs : Language
programs = record { Parse = Program; Tree = ProgramTree; tokens = program_tokens; tree = program_tree }

-- the queries
abbrev pub queries : Language
queries = record { Parse = Query; Tree = Raw; tokens = query_tokens; tree = query_tree }
