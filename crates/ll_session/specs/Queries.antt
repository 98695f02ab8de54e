-- The queries of a session: what each line of a text asks.
use Rattle.std.specs.Prelude.{◌≡◌, ℕ, ◌+◌, true, false, List, [], ◌∷◌, Result, Ok, Err}
use Rattle.ll_lexer.specs.declared.Fault.{Fault}
use Rattle.ll_laws.specs.Problem.{ProblemTree}
use Rattle.ll_parser.specs.Raw.{ProgramTree}
use Rattle.ll_parser.specs.Text.{programs}
use Rattle.ll_parser.specs.Reads.{IsWhole}
use Rattle.ll_polarity.specs.Faults.{program_faults}
use Rattle.ll_polarity.specs.Asks.{ProgramPart, part_of}
use Rattle.ll_session.specs.Lines.{lines, is_query_line}
use Rattle.ll_session.specs.Reading.{IsQueryFault, TextAsks}

-- a line of a session that is a query: its number, counted from 1, and the problem that it asks, or its fault
pub record QueryLine : Type 0 where
  pub line : ℕ
  pub asked : Result ProblemTree Fault

-- the fault of a line's own text, as one of the whole text
abbrev pub on_line : ℕ → Fault → Fault
on_line line f = record { at = record { line = line; column = f.at.column }; kind = f.kind }

-- What the line of this number asks, where it is taken as the whole text of a query: a problem, or it has a fault.
abbrev pub LineAsks : ProgramTree → ℕ → ℕ → List ℕ → Result ProblemTree Fault → Type 0
LineAsks program bound line text (Ok p) = TextAsks program text bound p
LineAsks program bound line text (Err f) = (own : Fault) × IsQueryFault program text own × (f ≡ on_line line own)

-- from the line of this number on, these lines have these queries: one for each that is a query, in order. A query's problem or fault
-- is that of its own text, whatever lines stand beside it.
pub data HaveQueries (program : ProgramTree) (bound : ℕ) : ℕ → List (List ℕ) → List QueryLine → Type 0 where
  no_line : {line : ℕ} → HaveQueries program bound line [] []
  passed : {line : ℕ} {text : List ℕ} {rest : List (List ℕ)} {queries : List QueryLine} → is_query_line text ≡ false
      → HaveQueries program bound (line + 1) rest queries
      → HaveQueries program bound line (text ∷ rest) queries
  asked : {line : ℕ} {text : List ℕ} {rest : List (List ℕ)} {queries : List QueryLine} (what : Result ProblemTree Fault) → is_query_line text ≡ true
      → LineAsks program bound line text what
      → HaveQueries program bound (line + 1) rest queries → HaveQueries program bound line (text ∷ rest) (record { line = line; asked = what } ∷ queries)

-- the queries of a text over a program
abbrev pub AreQueries : ProgramTree → List ℕ → ℕ → List QueryLine → Type 0
AreQueries program text bound queries = HaveQueries program bound 1 (lines text) queries

-- a whole program without a fault, which fixes this part of a problem
pub record IsProgramOf (program : ProgramTree) (part : ProgramPart) : Type 0 where
  pub whole : IsWhole programs program
  pub faultless : program_faults program ≡ []
  pub is : part ≡ part_of program

-- some whole program without a fault fixes this part of a problem
abbrev pub IsLoaded : ProgramPart → Type 0
IsLoaded part = (program : ProgramTree) × IsProgramOf program part
