-- What a text is read as, and its first fault where it is no text of the language.
use Rattle.std.specs.Prelude.{◌≡◌, ℕ, List}
use Rattle.ll_lexer.specs.declared.Fault.{Fault}
use Rattle.ll_lexer.specs.declared.TextFault.{TextFault}
use Rattle.ll_lexer.specs.Reading.{LexedText, IsLexed, HasFault}
use Rattle.ll_laws.specs.Problem.{ProblemTree}
use Rattle.ll_parser.specs.Tokens.{toks_of}
use Rattle.ll_parser.specs.Raw.{Raw, ProgramTree}
use Rattle.ll_parser.specs.Text.{queries}
use Rattle.ll_parser.specs.Reads.{Reads, HasFault as HasTokenFault}
use Rattle.ll_polarity.specs.Asks.{Asks, HasQueryFault}
use Rattle.ll_polarity.specs.Causes.{IsCauseOf}

-- the greatest number of brackets that may be open at once
abbrev pub most_open : ℕ
most_open = 1000

-- a text is read by the grammar as this query
pub record IsQueryText (text : List ℕ) (tree : Raw) : Type 0 where
  pub lexed : LexedText
  pub of_text : lexed.text ≡ text
  pub is_lexed : IsLexed lexed
  pub reads : Reads queries most_open (toks_of lexed) tree

-- The fault of a query's text over a program: the first one of kinds 1 to 3; or else, where its tokens are not read by the grammar, their
-- first fault, of kinds 4 to 6; or else the first one of scope or sorting over the modules of the program, of kinds 7 to 11.
pub data IsQueryFault (program : ProgramTree) (text : List ℕ) (f : Fault) : Type 0 where
  lexical : HasFault text f → IsQueryFault program text f
  grammatical : (lexed : LexedText) → lexed.text ≡ text → IsLexed lexed → HasTokenFault queries most_open (toks_of lexed) lexed.end f
      → IsQueryFault program text f
  of_scope : (tree : Raw) → IsQueryText text tree → HasQueryFault program tree f → IsQueryFault program text f

-- a query's text asks this problem of a program, with a bound
pub record TextAsks (program : ProgramTree) (text : List ℕ) (bound : ℕ) (p : ProblemTree) : Type 0 where
  pub tree : Raw
  pub is_query : IsQueryText text tree
  pub asks : Asks program tree bound p

-- why a query's text was not read by the grammar, whichever program is asked; out of memory is free
abbrev pub IsUnreadCause : List ℕ → TextFault → Type 0
IsUnreadCause text e = IsCauseOf (λ f. (program : ProgramTree) → IsQueryFault program text f) e
