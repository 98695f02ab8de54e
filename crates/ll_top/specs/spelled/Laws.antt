-- The laws of printed derivations, which functions of this crate carry.
use Rattle.std.specs.Prelude.{◌≡◌, ◌≤◌, ℕ, List, ◌++◌, Contains, Some, IsTrue, ◌⊎◌}
use Rattle.ll_bank.specs.declared.Head.TheVariants.{Name}
use Rattle.ll_laws.specs.declared.Event.TheVariants.{Answer}
use Rattle.ll_laws.specs.Output.{name_text, is_cons_head}
use Rattle.ll_laws.specs.Answered.{Answered}
use Rattle.ll_laws.specs.Problem.{ProblemTree, problem_events}
use Rattle.ll_laws.specs.Line.{DerivationLines}
use Rattle.ll_laws.specs.Dealt.{dealt}
use Rattle.ll_parser.specs.Raw.{Raw, ProgramTree}
use Rattle.ll_parser.specs.Text.{programs, queries}
use Rattle.ll_parser.specs.Reads.{IsWhole}
use Rattle.ll_polarity.specs.Asks.{Asks}
use Rattle.ll_prooftext.specs.Admitted.{IsPlainName, IsSpelled}
use Rattle.ll_prooftext.specs.Reading.{IsTextOf}
use Rattle.ll_prooftext.specs.Versions.{IsProofText}
use Rattle.ll_laws.specs.ProofText.{proof_text}
use Rattle.ll_bank.specs.Names.{with_names}
use Rattle.ll_top.specs.spelled.Taking.{TakesAt}

-- a name of the language may have any number of arguments, and `::` has two
abbrev pub name_takes : List (List ℕ) → TakesAt
name_takes names n k = IsPlainName (name_text names n) ⊎ (IsTrue (is_cons_head names (Name n)) × (k ≡ 2))

-- a text that is spelled over some names is one of the same derivation over more of them
abbrev pub SpelledOn : Type 0
SpelledOn = (names more : List (List ℕ)) (text : List ℕ) (d : DerivationLines) → IsTextOf names text d → IsTextOf (names ++ more) text d

-- a derivation that can be spelled is read of its text, over its names and behind them any others that are mentioned
abbrev pub SpelledIsRead : Type 0
SpelledIsRead = (names mentioned : List (List ℕ)) (d : DerivationLines) → IsSpelled names d → IsProofText (with_names names mentioned) (proof_text names d) d

-- the derivation of each answer of a problem that a program and a query ask can be spelled
abbrev pub AnswersAreSpelled : Type 0
AnswersAreSpelled =
    (program : ProgramTree) (query : Raw) (bound : ℕ) (p : ProblemTree) (a : Answered) (d : DerivationLines) → IsWhole programs program → IsWhole queries query
    → bound ≤ 1000000 → Asks program query bound p → Contains (problem_events p) (Answer a) → dealt p a ≡ Some d → IsSpelled p.names d
