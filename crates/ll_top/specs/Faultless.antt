-- Texts without a fault, of whatever kind.
use Rattle.std.specs.Prelude.{◌≡◌, ℕ, List, []}
use Rattle.ll_lexer.specs.Reading.{LexedText, IsLexed}
use Rattle.ll_parser.specs.Tokens.{toks_of}
use Rattle.ll_parser.specs.Raw.{Raw, ProgramTree}
use Rattle.ll_parser.specs.Text.{programs, queries}
use Rattle.ll_parser.specs.Reads.{Reads}
use Rattle.ll_polarity.specs.Faults.{Heading, program_faults, query_faults}

-- a text is read as a program that has no fault of scope or sorting
pub record IsFaultlessProgram (text : List ℕ) : Type 0 where
  pub lexed : LexedText
  pub of_text : lexed.text ≡ text
  pub is_lexed : IsLexed lexed
  pub tree : ProgramTree
  pub reads : Reads programs 1000 (toks_of lexed) tree
  pub faultless : program_faults tree ≡ []

-- a text is read as a query that has no fault of scope or sorting over any modules
pub record IsFaultlessQuery (text : List ℕ) : Type 0 where
  pub lexed : LexedText
  pub of_text : lexed.text ≡ text
  pub is_lexed : IsLexed lexed
  pub tree : Raw
  pub reads : Reads queries 1000 (toks_of lexed) tree
  pub faultless : (modules : List Heading) → query_faults modules tree ≡ []
