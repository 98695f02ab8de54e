-- The laws of the definitions, which functions of this crate carry.
use Rattle.std.specs.Prelude.{◌≡◌, ◌≤◌, ℕ, suc, true, false, List, [], ◌∷◌, length, slice_index, Some, None, option_map, flat_map, sum_by, map, Contains}
use Rattle.std.specs.List.{list_all}
use Rattle.ll_bank.specs.Term.{Term}
use Rattle.ll_bank.specs.Form.{Form}
use Rattle.ll_laws.specs.declared.Candidate.{Candidate}
use Rattle.ll_laws.specs.declared.Event.TheVariants.{Reached, Answer}
use Rattle.ll_laws.specs.Unify.{Solved, mgu, vars_below, IsUnifier, IsMostGeneral}
use Rattle.ll_laws.specs.Module.{Setting}
use Rattle.ll_laws.specs.Settle.{Item}
use Rattle.ll_laws.specs.State.{State, settle, sub_state}
use Rattle.ll_laws.specs.Attempt.{attempt, successors}
use Rattle.ll_laws.specs.Search.{events, cost, any_reached, answer_of}
use Rattle.ll_laws.specs.Answered.{Answered}
use Rattle.ll_laws.specs.Problem.{ProblemTree, setting_of, start_of, problem_events}
use Rattle.ll_laws.specs.Valid.{AreModules, IsValid}
use Rattle.ll_laws.specs.Derive.{Derivable}
use Rattle.ll_laws.specs.Shows.{Tree, Labelled, clauses, nodes, Shows}
use Rattle.ll_laws.specs.Fault.{Fits}
use Rattle.ll_laws.specs.Line.{Line, DerivationLines, IsWhole, trees_of}
use Rattle.ll_laws.specs.Verdict.{root_free, root_bounded, instantiated_goal, TreeShows, DerivationShows, first_fault}
use Rattle.ll_laws.specs.Run.{Trace, run_start}
use Rattle.ll_laws.specs.Dealing.{deal}
use Rattle.ll_laws.specs.Dealt.{asked_terms, dealt}
use Rattle.ll_laws.specs.Consistent.{IsConsistent}

-- ---- how a search unfolds

-- a state that can't be settled has no event and costs nothing
abbrev pub StuckSearch : Type 0
StuckSearch = (m : Setting) (n : ℕ) (s : State) → settle s ≡ None → (events m n s ≡ []) × (cost m n s ≡ 0)

-- a settled state with nothing left to prove is an answer or nothing, and costs nothing
abbrev pub EndedSearch : Type 0
EndedSearch = (m : Setting) (n : ℕ) (s t : State) → settle s ≡ Some t → t.agenda ≡ [] → (events m n s ≡ answer_of t) × (cost m n s ≡ 0)

-- a settled state with a goal in front has reached the bound 0
abbrev pub BoundSearch : Type 0
BoundSearch = (m : Setting) (s t : State) (i : Item Form) (rest : List (Item Form)) → settle s ≡ Some t → t.agenda ≡ i ∷ rest
    → (events m 0 s ≡ Reached ∷ []) × (cost m 0 s ≡ 0)

-- with a bound left, it has the events of its successors in order, and costs one more than they cost
abbrev pub SteppedSearch : Type 0
SteppedSearch =
    (m : Setting) (n : ℕ) (s t : State) (i : Item Form) (rest : List (Item Form)) → settle s ≡ Some t → t.agenda ≡ i ∷ rest
    → (events m (suc n) s ≡ flat_map (events m n) (successors m t)) × (cost m (suc n) s ≡ suc (sum_by (cost m n) (successors m t)))

-- a search that reaches no bound has the same events and the same cost at every greater bound
abbrev pub SteadySearch : Type 0
SteadySearch =
    (m : Setting) (low high : ℕ) (s : State) → low ≤ high → any_reached (events m low s) ≡ false
    → (events m high s ≡ events m low s) × (cost m high s ≡ cost m low s)

-- ---- settling

-- settling twice is settling once
abbrev pub SettledOnce : Type 0
SettledOnce = (s t : State) → settle s ≡ Some t → settle t ≡ Some t

-- settling goes along with every substitution
abbrev pub SettledUnder : Type 0
SettledUnder = (f : ℕ → Term) (s : State) → settle (sub_state f s) ≡ option_map (sub_state f) (settle s)

-- ---- the invariant of the states that a search reaches

-- the search of a valid problem starts in a consistent state
abbrev pub StartsConsistent : Type 0
StartsConsistent = (p : ProblemTree) → IsValid p → IsConsistent (setting_of p) (start_of p)

-- settling a consistent state gives a consistent one
abbrev pub SettlesConsistent : Type 0
SettlesConsistent = (m : Setting) (s t : State) → IsConsistent m s → settle s ≡ Some t → IsConsistent m t

-- each inference of a consistent state gives a consistent one, where the modules are well sorted and well scoped
abbrev pub StepsConsistent : Type 0
StepsConsistent =
    (names : ℕ) (m : Setting) (s t : State) (c : Candidate) → AreModules names m.modules m.modules → IsConsistent m s → attempt m s c ≡ Some t
    → IsConsistent m t

-- ---- unification, for lists of terms whose variables all have levels

-- what unification finds is a unifier that respects the levels
abbrev pub FoundUnifies : Type 0
FoundUnifies =
    (ls rs : List Term) (levels : List ℕ) (v : Solved) → list_all (vars_below (length levels)) ls ≡ true → list_all (vars_below (length levels)) rs ≡ true
    → mgu ls rs levels ≡ Some v
    → IsUnifier ls rs levels v.subst v.levels

-- no new level is above the old one
abbrev pub FoundLowers : Type 0
FoundLowers = (ls rs : List Term) (levels : List ℕ) (v : Solved) → mgu ls rs levels ≡ Some v → (x : ℕ) → slice_index v.levels x ≤ slice_index levels x

-- what unification finds is most general among the unifiers that respect the levels
abbrev pub FoundIsMostGeneral : Type 0
FoundIsMostGeneral =
    (ls rs : List Term) (levels : List ℕ) (v : Solved) → list_all (vars_below (length levels)) ls ≡ true → list_all (vars_below (length levels)) rs ≡ true
    → mgu ls rs levels ≡ Some v
    → IsMostGeneral ls rs levels v

-- where unification finds nothing, there is no unifier that respects the levels
abbrev pub NoneUnifies : Type 0
NoneUnifies =
    (ls rs : List Term) (levels : List ℕ) (s : ℕ → Term) (new : List ℕ) → list_all (vars_below (length levels)) ls ≡ true
    → list_all (vars_below (length levels)) rs ≡ true
    → mgu ls rs levels ≡ None → IsUnifier ls rs levels s new → ⊥

-- ---- derivations

-- what a tree shows of a goal, from clauses with labels, is derivable from the clauses, with as many nodes
abbrev pub TreesDerive : Type 0
TreesDerive =
    (beside : Setting) (x : Tree) (free bounded : List Labelled) (g : Form) → Shows beside x free bounded g
    → Derivable beside (nodes x) (clauses free) (clauses bounded) g

-- a derivation that shows the query makes it derivable, from the program's unbounded and linear clauses, with as many nodes
abbrev pub ShownIsDerivable : Type 0
ShownIsDerivable =
    (p : ProblemTree) (d : DerivationLines) → DerivationShows p d
    → Derivable (setting_of p) (length d.nodes) (clauses (root_free p)) (clauses (root_bounded p)) (instantiated_goal p d.asked)

-- a whole derivation without a fault shows the query
abbrev pub FaultlessShows : Type 0
FaultlessShows = (p : ProblemTree) (d : DerivationLines) (x : Tree) (n : ℕ) → IsWhole d → trees_of d.nodes ≡ Some (x ∷ []) → first_fault p d x ≡ Fits n
    → DerivationShows p d

-- a derivation that shows the query has no fault, and its nodes are numbered from 1
abbrev pub ShownIsFaultless : Type 0
ShownIsFaultless = (p : ProblemTree) (d : DerivationLines) (x : Tree) → trees_of d.nodes ≡ Some (x ∷ []) → DerivationShows p d
    → first_fault p d x ≡ Fits (suc (nodes x))

-- ---- answers

-- what a run proves, from the start of a problem with terms for the query's variables, is shown by the run's tree, once the labels of
-- the program's linear clauses are dealt out
abbrev pub RunsAreShown : Type 0
RunsAreShown =
    (p : ProblemTree) (ts : List Term) (ns : List Line) → Trace (setting_of p) ns (run_start p ts)
    → (x : Tree) × (trees_of ns ≡ Some (x ∷ [])) × TreeShows p (deal (map (λ l. l.label) (root_bounded p)) x) ts

-- each answer of the search of a valid problem has a derivation, which is whole, shows the query with the answer's terms for its
-- variables, and has as many nodes as the answer's branch has steps
abbrev pub AnswersAreShown : Type 0
AnswersAreShown =
    (p : ProblemTree) (a : Answered) → IsValid p → Contains (problem_events p) (Answer a)
    → (d : DerivationLines) × (dealt p a ≡ Some d) × (d.asked ≡ asked_terms p a) × IsWhole d × DerivationShows p d × (length d.nodes ≡ length a.steps)
