-- The problem that a program and a query ask.
use Rattle.std.specs.Prelude.{◌≡◌, ℕ, Bool, true, false, List, [], ◌∷◌, map, length, slice_index_or, Option, Some, None}
use Rattle.ll_bank.specs.Names.{with_name}
use Rattle.ll_lexer.specs.declared.Fault.{Fault}
use Rattle.ll_laws.specs.declared.Kind.{Kind}
use Rattle.ll_laws.specs.declared.Kind.TheVariants.{Linear, Unbounded}
use Rattle.ll_laws.specs.Module.{ClauseTree, ModuleTree}
use Rattle.ll_laws.specs.Problem.{ProblemTree}
use Rattle.ll_parser.specs.Raw.{Raw, ProgramTree}
use Rattle.ll_parser.specs.Raw as raw
use Rattle.ll_polarity.specs.Scope.{Scope, module_scope}
use Rattle.ll_polarity.specs.Reading.{number_in, read_form, quantified}
use Rattle.ll_polarity.specs.Faults.{Heading, heading, program_faults, query_faults}

-- what a part of a program means, and the names up to its end
pub record Named (A : Type 0) : Type 0 where
  pub it : A
  pub names : List (List ℕ)

-- the kind of a clause by its mark
abbrev pub kind_of : Bool → Kind
kind_of true = Linear
kind_of false = Unbounded

-- a clause, its variables quantified over it
abbrev pub read_clause : List (List ℕ) → Scope → List (List ℕ) → raw.ClauseTree → Named ClauseTree
read_clause ms scope names c =
    let r = read_form ms scope (record { names = names; variables = [] }) c.form in
    record { it = record { kind = kind_of c.linear; form = quantified (length r.met.variables) r.it }; names = r.met.names }

-- clauses in the order of the text
abbrev pub read_clauses : List (List ℕ) → Scope → List (List ℕ) → List raw.ClauseTree → Named (List ClauseTree)
read_clauses ms scope names [] = record { it = []; names = names }
read_clauses ms scope names (c ∷ cs) =
    let r = read_clause ms scope names c in let rs = read_clauses ms scope r.names cs in record { it = r.it ∷ rs.it; names = rs.names }

-- a module
abbrev pub read_module : List (List ℕ) → List (List ℕ) → raw.ModuleTree → Named ModuleTree
read_module ms names m =
    let named = with_name names m.name.text in let cs = read_clauses ms (module_scope m) named m.clauses in
    record { it = record { name = number_in named m.name.text; params = length m.params; locals = length m.locals; clauses = cs.it }; names = cs.names }

-- modules in the order of the text
abbrev pub read_modules : List (List ℕ) → List (List ℕ) → List raw.ModuleTree → Named (List ModuleTree)
read_modules ms names [] = record { it = []; names = names }
read_modules ms names (m ∷ rest) = let r = read_module ms names m in let rs = read_modules ms r.names rest in record { it = r.it ∷ rs.it; names = rs.names }

-- the part of a problem that the program alone fixes
pub record ProgramPart : Type 0 where
  pub names : List (List ℕ)
  pub modules : List ModuleTree
  pub clauses : List ClauseTree

-- the names of a program's modules
abbrev pub module_names : ProgramTree → List (List ℕ)
module_names p = map (λ m. m.name.text) p.modules

-- the part that this program fixes
abbrev pub part_of : ProgramTree → ProgramPart
part_of p =
    let ms = module_names p in let cs = read_clauses ms [] [] p.clauses in let mods = read_modules ms cs.names p.modules in
    record { names = mods.names; modules = mods.it; clauses = cs.it }

-- the numbers of the names of a query's variables, `_` without one
abbrev pub read_asked : List (List ℕ) → List (Option (List ℕ)) → Named (List (Option ℕ))
read_asked names [] = record { it = []; names = names }
read_asked names (None ∷ vs) = let rs = read_asked names vs in record { it = None ∷ rs.it; names = rs.names }
read_asked names (Some w ∷ vs) =
    let named = with_name names w in let rs = read_asked named vs in record { it = Some (number_in named w) ∷ rs.it; names = rs.names }

-- the modules of a part, as texts name them
abbrev pub modules_of : ProgramPart → List (List ℕ)
modules_of part = map (λ m. slice_index_or part.names m.name []) part.modules

-- the problem that a query asks of a part, with a bound
abbrev pub problem_with : ProgramPart → Raw → ℕ → ProblemTree
problem_with part goal bound =
    let r = read_form (modules_of part) [] (record { names = part.names; variables = [] }) goal in let asked = read_asked r.met.names r.met.variables in
    record { names = asked.names; modules = part.modules; clauses = part.clauses; goal = r.it; asked = asked.it; bound = bound }

-- the modules of a part, as loads see them
abbrev pub headings_of : ProgramPart → List Heading
headings_of part = map (λ m. record { name = slice_index_or part.names m.name []; params = m.params }) part.modules

-- a program and a query without a fault ask this problem with a bound
pub record Asks (program : ProgramTree) (query : Raw) (bound : ℕ) (p : ProblemTree) : Type 0 where
  pub program_faultless : program_faults program ≡ []
  pub query_faultless : query_faults (map heading program.modules) query ≡ []
  pub is : p ≡ problem_with (part_of program) query bound

-- it is the first of these faults, which stand in the order of the text
abbrev pub IsFirst : Fault → List Fault → Type 0
IsFirst f faults = (others : List Fault) × (faults ≡ f ∷ others)

-- the first fault of scope or sorting in a program
abbrev pub HasProgramFault : ProgramTree → Fault → Type 0
HasProgramFault program f = IsFirst f (program_faults program)

-- the first fault of scope or sorting in a query over a program's modules
abbrev pub HasQueryFault : ProgramTree → Raw → Fault → Type 0
HasQueryFault program query f = IsFirst f (query_faults (map heading program.modules) query)
