-- The laws that tie what follows to derivations and to answers, which a function of this crate carries.
use Rattle.std.specs.Prelude.{◌≡◌, ◌≤◌, ◌↔◌, ℕ, true, false, List, length, Contains}
use Rattle.std.specs.List.{list_any, list_all}
use Rattle.ll_bank.specs.Term.{Term, is_closed}
use Rattle.ll_laws.specs.declared.Event.TheVariants.{Answer}
use Rattle.ll_laws.specs.Answered.{Answered}
use Rattle.ll_laws.specs.Problem.{ProblemTree, problem_events}
use Rattle.ll_laws.specs.Valid.{IsValid}
use Rattle.ll_laws.specs.Verdict.{DerivationShows}
use Rattle.ll_laws.specs.Line.{DerivationLines, IsWhole, counts_numbers}
use Rattle.ll_laws.specs.Dealt.{asked_terms}
use Rattle.ll_laws.specs.Output.{run_status}
use Rattle.ll_top.specs.textbook.Follows.{Follows, IsFilling, reckons, IsAnswered, IsNumberless}

-- What follows is shown by a whole derivation of the checker's kind, with as many nodes, and with whole-number goals where it has them.
abbrev pub FollowsIsShown : Type 0
FollowsIsShown =
    (p : ProblemTree) (ts : List Term) (m : ℕ) (h : Follows p m ts) → IsFilling p ts
    → (d : DerivationLines) × (d.asked ≡ ts) × IsWhole d × DerivationShows p d × (length d.nodes ≡ m) × (list_any counts_numbers d.nodes ≡ reckons h)

-- What such a derivation shows follows, by as many nodes.
abbrev pub ShownFollows : Type 0
ShownFollows =
    (p : ProblemTree) (d : DerivationLines) → DerivationShows p d → list_all is_closed d.asked ≡ true
    → IsFilling p d.asked × (h : Follows p (length d.nodes) d.asked) × (reckons h ≡ list_any counts_numbers d.nodes)

-- What follows within the bound, without whole-number goals, is an instance of an answer.
abbrev pub FollowsIsAnswered : Type 0
FollowsIsAnswered = (p : ProblemTree) (ts : List Term) (m : ℕ) (h : Follows p m ts) → IsValid p → IsFilling p ts → reckons h ≡ false → m ≤ p.bound
    → IsAnswered p ts m

-- Each instance of an answer follows, within the bound.
abbrev pub InstancesFollow : Type 0
InstancesFollow = (p : ProblemTree) (ts : List Term) (m : ℕ) → IsValid p → IsAnswered p ts m → IsFilling p ts × Follows p m ts × (m ≤ p.bound)

-- The terms of each answer follow, by a derivation with as many nodes as the answer's branch has steps.
abbrev pub AnswersFollow : Type 0
AnswersFollow =
    (p : ProblemTree) (a : Answered) → IsValid p → Contains (problem_events p) (Answer a)
    → IsFilling p (asked_terms p a) × Follows p (length a.steps) (asked_terms p a)

-- Where a problem's run ends with status 1, no closed terms for the query's variables follow, by no number of nodes: whatever derivation there
-- is has a whole-number goal.
abbrev pub NothingFollows : Type 0
NothingFollows = (p : ProblemTree) (ts : List Term) (m : ℕ) (h : Follows p m ts) → IsValid p → run_status p ≡ 1 → IsFilling p ts → reckons h ≡ true

-- no derivation of the query of such a problem has one
abbrev pub NumberlessFollows : Type 0
NumberlessFollows = (p : ProblemTree) (ts : List Term) (m : ℕ) (h : Follows p m ts) → IsNumberless p → reckons h ≡ false

-- For a valid problem without whole-number goals: what follows within the bound is exactly what is an instance of an answer, with as many steps as
-- the derivation has nodes.
abbrev pub ExactlyAnswered : Type 0
ExactlyAnswered =
    (p : ProblemTree) (ts : List Term) (m : ℕ) → IsValid p → IsNumberless p → IsAnswered p ts m ↔ (IsFilling p ts × Follows p m ts × (m ≤ p.bound))
