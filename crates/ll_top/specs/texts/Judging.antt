-- What texts are read as, and the first fault of one that is no text of the language.
use Rattle.std.specs.Prelude.{◌≡◌, ℕ, List, []}
use Rattle.ll_lexer.specs.declared.Fault.{Fault}
use Rattle.ll_lexer.specs.declared.TextFault.{TextFault}
use Rattle.ll_lexer.specs.declared.TextFault.TheVariants as fault
use Rattle.ll_lexer.specs.Reading.{LexedText, IsLexed, HasFault}
use Rattle.ll_laws.specs.Problem.{ProblemTree}
use Rattle.ll_parser.specs.Tokens.{toks_of}
use Rattle.ll_parser.specs.Raw.{Raw, ProgramTree}
use Rattle.ll_parser.specs.Text.{programs, queries}
use Rattle.ll_parser.specs.Reads.{Reads, IsWhole, HasFault as HasTokenFault}
use Rattle.ll_polarity.specs.Faults.{program_faults}
use Rattle.ll_polarity.specs.Asks.{ProgramPart, part_of, Asks, HasProgramFault, HasQueryFault}
use Rattle.ll_top.specs.declared.texts.judge.Role.{Role}
use Rattle.ll_laws.specs.Line.{DerivationLines}
use Rattle.ll_bank.specs.Names.{with_names}
use Rattle.ll_prooftext.specs.Versions.{IsProofText, HasFaultIn}
use Rattle.ll_prooftext.specs.Mentions.{text_names}
use Rattle.ll_top.specs.declared.texts.judge.Role.TheVariants.{Program, Query, Proof}
-- a text is read by the grammar as this query
pub use Rattle.ll_session.specs.Reading.{IsQueryText}

-- the greatest number of brackets that may be open at once
abbrev pub most_open : ℕ
most_open = 1000

-- ---- reading

-- a text is read by the grammar as this program
pub record IsProgramText (text : List ℕ) (tree : ProgramTree) : Type 0 where
  pub lexed : LexedText
  pub of_text : lexed.text ≡ text
  pub is_lexed : IsLexed lexed
  pub reads : Reads programs most_open (toks_of lexed) tree

-- the tokens of a text have this first fault by the grammar of programs, or by that of queries: it is of kind 4, 5 or 6. A derivation's text
-- has no tokens.
abbrev pub HasGrammarFault : Role → LexedText → Fault → Type 0
HasGrammarFault Program lexed f = HasTokenFault programs most_open (toks_of lexed) lexed.end f
HasGrammarFault Query lexed f = HasTokenFault queries most_open (toks_of lexed) lexed.end f
HasGrammarFault Proof lexed f = ⊥

-- The fault of reading a text: the first one of kinds 1 to 3; or else, where its tokens are not read by the grammar, their first
-- fault, of kinds 4 to 6.
pub data IsReadingFault (role : Role) (text : List ℕ) (f : Fault) : Type 0 where
  lexical : HasFault text f → IsReadingFault role text f
  grammatical : (lexed : LexedText) → lexed.text ≡ text → IsLexed lexed → HasGrammarFault role lexed f → IsReadingFault role text f

-- why a text was not read by the grammar; out of memory is free
abbrev pub IsReadingCause : Role → List ℕ → TextFault → Type 0
IsReadingCause role text (fault.Text f) = IsReadingFault role text f
IsReadingCause role text fault.OutOfMemory = Unit {0}

-- ---- the texts of a run

-- a text is read as this program, which has no fault of scope or sorting
pub record IsFaultless (text : List ℕ) (tree : ProgramTree) : Type 0 where
  pub is_program : IsProgramText text tree
  pub faultless : program_faults tree ≡ []

-- the fault of a program's text: that of reading it; or else the first one of scope or sorting, of kinds 7 to 12
pub data IsProgramFault (text : List ℕ) (f : Fault) : Type 0 where
  of_program_reading : IsReadingFault Program text f → IsProgramFault text f
  of_program_scope : (tree : ProgramTree) → IsProgramText text tree → HasProgramFault tree f → IsProgramFault text f

-- the fault of a query's text over a program: that of reading it; or else the first one of scope or sorting over the modules of the
-- program, of kinds 7 to 11
pub data IsQueryFault (program : ProgramTree) (text : List ℕ) (f : Fault) : Type 0 where
  of_query_reading : IsReadingFault Query text f → IsQueryFault program text f
  of_query_scope : (tree : Raw) → IsQueryText text tree → HasQueryFault program tree f → IsQueryFault program text f

-- The fault of two texts that are judged in turn: the program's; or else, where the program has none, the query's over it.
pub data IsTextFault (program query : List ℕ) : Role → Fault → Type 0 where
  of_program : {f : Fault} → IsProgramFault program f → IsTextFault program query Program f
  of_query : {f : Fault} (tree : ProgramTree) → IsFaultless program tree → IsQueryFault tree query f → IsTextFault program query Query f

-- a program text and a query text ask this problem with a bound
pub record TextsAsk (program query : List ℕ) (bound : ℕ) (p : ProblemTree) : Type 0 where
  pub program_tree : ProgramTree
  pub query_tree : Raw
  pub is_program : IsProgramText program program_tree
  pub is_query : IsQueryText query query_tree
  pub asks : Asks program_tree query_tree bound p

-- ---- the texts of a check or a cover

-- The fault of three texts that are judged in turn: that of the program or of the query; or else, where these ask a problem, the
-- derivation's, of kinds 13 to 16 or 18 by the version which its first line tells.
pub data IsCheckFault (program query proof : List ℕ) : Role → Fault → Type 0 where
  of_run_texts : {role : Role} {f : Fault} → IsTextFault program query role f → IsCheckFault program query proof role f
  of_proof : {f : Fault} (bound : ℕ) (p : ProblemTree) → TextsAsk program query bound p → HasFaultIn proof f → IsCheckFault program query proof Proof f

-- Three texts give a problem and a derivation: the first two ask the problem with this bound, and the third is the derivation's, of either
-- version, over the problem's names and behind them the others that it mentions.
pub record TextsGive (program query proof : List ℕ) (bound : ℕ) (p : ProblemTree) (d : DerivationLines) : Type 0 where
  pub asks : TextsAsk program query bound p
  pub is_text : IsProofText (with_names p.names (text_names proof)) proof d

-- ---- a program that was loaded

-- the text is a program without a fault that fixes this part of a problem
pub record IsPartOf (text : List ℕ) (part : ProgramPart) : Type 0 where
  pub tree : ProgramTree
  pub is_faultless : IsFaultless text tree
  pub whole : IsWhole programs tree
  pub is : part ≡ part_of tree

-- why a program's text was not loaded; out of memory is free
abbrev pub IsProgramCause : List ℕ → TextFault → Type 0
IsProgramCause text (fault.Text f) = IsProgramFault text f
IsProgramCause text fault.OutOfMemory = Unit {0}

-- why a query's text asks nothing of a part, whichever program fixed it; out of memory is free
abbrev pub IsQueryCause : ProgramPart → List ℕ → TextFault → Type 0
IsQueryCause part text (fault.Text f) = (program : ProgramTree) → part ≡ part_of program → IsQueryFault program text f
IsQueryCause part text fault.OutOfMemory = Unit {0}
