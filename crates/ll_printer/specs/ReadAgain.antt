-- What was printed is read again.
use Rattle.std.specs.Prelude.{◌≡◌, ℕ, List, ◌++◌}
use Rattle.ll_lexer.specs.Reading.{LexedText, IsLexed}
use Rattle.ll_parser.specs.Tokens.{toks_of}
use Rattle.ll_parser.specs.Raw.{ProgramTree}
use Rattle.ll_parser.specs.Text.{programs}
use Rattle.ll_parser.specs.Reads.{Reads}
use Rattle.ll_parser.specs.Bare.{bare_program}

-- a text without a fault was appended, and its tokens are read as a program that is the same, places aside
pub record IsReadAgain (p : ProgramTree) (old new : List ℕ) : Type 0 where
  pub lexed : LexedText
  pub appended : new ≡ old ++ lexed.text
  pub tokens : IsLexed lexed
  pub tree : ProgramTree
  pub reads : Reads programs 1000 (toks_of lexed) tree
  pub same : bare_program tree ≡ bare_program p
