-- What a run says that ends with status 1.
use Rattle.std.specs.Prelude.{◌≡◌, ℕ, true, List, Option}
use Rattle.ll_edge.specs.Texts.{Texts}
use Rattle.ll_bank.specs.Term.{Term}
use Rattle.ll_laws.specs.Problem.{ProblemTree}
use Rattle.ll_top.specs.textbook.Follows.{IsFilling, Follows, reckons, IsNumberless}
use Rattle.ll_top.specs.forms.Words.{RunWords}
use Rattle.ll_top.specs.texts.Outcome.{RunAsks}

-- The query of the problem follows from the program with no closed terms for its variables and by no number of nodes (derivability after Hodas
-- and Miller 1994), but perhaps by derivations that have whole-number goals.
abbrev pub NoneFollows : ProblemTree → Type 0
NoneFollows p = (ts : List Term) (m : ℕ) (h : Follows p m ts) → IsFilling p ts → reckons h ≡ true

-- the texts of a run ask this problem, whose query does not follow
pub record AsksInVain (told : Option Texts) (run : RunWords) : Type 0 where
  pub problem : ProblemTree
  pub asks : RunAsks told run problem
  pub none : NoneFollows problem
  -- without a whole-number goal in the texts it does not follow at all
  pub nothing : IsNumberless problem → (ts : List Term) (m : ℕ) → IsFilling problem ts → Follows problem m ts → ⊥
