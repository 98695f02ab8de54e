-- Which replies were given.
use Rattle.std.specs.Prelude.{◌≡◌, ℕ, ◌+◌, List, ◌++◌, length, Result, Ok, Err}
use Rattle.ll_lexer.specs.declared.Fault.{Fault}
use Rattle.ll_laws.specs.Problem.{ProblemTree}
use Rattle.ll_laws.specs.Valid.{IsValid}
use Rattle.ll_parser.specs.Raw.{ProgramTree}
use Rattle.ll_order.specs.Outlets.{Gives, Refuses}
use Rattle.ll_session.specs.declared.replies.Asked.{Asked}
use Rattle.ll_session.specs.declared.replies.Asked.TheVariants as asks
use Rattle.ll_session.specs.Lines.{lines}
use Rattle.ll_session.specs.Queries.{QueryLine, LineAsks, HaveQueries, AreQueries}

-- what a line asks, as the program's value of it shows
abbrev pub shown_asked : Asked → Result ProblemTree Fault
shown_asked (asks.Query problem) = Ok problem.now
shown_asked (asks.Fault fault) = Err fault

-- the query that the line of this number is
abbrev pub asked_line : ℕ → Asked → QueryLine
asked_line line asked = record { line = line; asked = shown_asked asked }

-- a problem that is asked is valid
abbrev pub IsValidAsked : Asked → Type 0
IsValidAsked (asks.Query problem) = IsValid problem.now
IsValidAsked (asks.Fault fault) = Unit {0}

module _ {R : Type 0} (takes breaks : R → QueryLine → R → Type 0) where
  -- all queries of a text were replied to in order, and so many they are
  pub record Answers (program : ProgramTree) (text : List ℕ) (bound : ℕ) (before : R) (count : ℕ) (after : R) : Type 0 where
    pub queries : List QueryLine
    pub are : AreQueries program text bound queries
    pub count_is : count ≡ length queries
    pub given : Gives takes before queries after

  -- only the first queries of a text were replied to; the reply to the next one was begun and refused, or was not begun
  pub data StopsShort (program : ProgramTree) (text : List ℕ) (bound : ℕ) (before after : R) : Type 0 where
    refused : (queries : List QueryLine) → AreQueries program text bound queries → Refuses takes breaks before queries after
        → StopsShort program text bound before after
    not_begun : (front back : List QueryLine) → AreQueries program text bound (front ++ back) → Gives takes before front after
        → StopsShort program text bound before after

  -- the line of this number was replied to
  pub record Replies (program : ProgramTree) (bound line : ℕ) (text : List ℕ) (before after : R) : Type 0 where
    pub what : Result ProblemTree Fault
    pub asks : LineAsks program bound line text what
    pub taken : takes before (record { line = line; asked = what }) after

  -- the reply to the line of this number was begun and refused, or was not begun
  pub data RefusesLine (program : ProgramTree) (bound line : ℕ) (text : List ℕ) (before after : R) : Type 0 where
    line_refused : (what : Result ProblemTree Fault) → LineAsks program bound line text what → breaks before (record { line = line; asked = what }) after
        → RefusesLine program bound line text before after
    line_not_begun : after ≡ before → RefusesLine program bound line text before after

  -- the lines before some place were replied to, and this many queries they were
  pub record IsAnsweredTo (program : ProgramTree) (text : List ℕ) (bound : ℕ) (before : R) (line count : ℕ) (rest : List ℕ) (now : R) : Type 0 where
    pub done : List QueryLine
    pub given : Gives takes before done now
    pub count_is : count ≡ length done
    pub goes_on : (queries : List QueryLine) → HaveQueries program bound (line + 1) (lines rest) queries → AreQueries program text bound (done ++ queries)
