-- Runs of inferences in which a term is chosen for each new variable, so that no variable is ever bound.
use Rattle.std.specs.Prelude.{◌≡◌, ℕ, suc, Bool, true, false, ◌||◌, not, List, [], ◌∷◌, ◌++◌, map, length, nat_eq, slice_get, Some}
use Rattle.std.specs.List.{list_any}
use Rattle.ll_laws.specs.declared.Kind.TheVariants.{Linear, Unbounded}
use Rattle.ll_laws.specs.declared.Step.TheVariants.{Plain, Left, Right, Clause as ClauseStep}
use Rattle.ll_bank.specs.declared.Head.TheVariants.{Eigen}
use Rattle.ll_bank.specs.Term.{Term, Con, is_closed, eigens_below}
use Rattle.ll_bank.specs.Form.{Form, Top, One, Atom, With, Tensor, Plus, Bang, Lolli, Imp, Forall, Exists, Use, instantiate, Num, Relation}
use Rattle.ll_laws.specs.Leaf.{Premise, leaf, premise_goal}
use Rattle.ll_laws.specs.Module.{Setting, ModuleTree, unfold_load}
use Rattle.ll_laws.specs.Derive.{IsNew}
use Rattle.ll_laws.specs.Line.{Line, OneLine, EraseLine, TensorLine, WithLine, LeftLine, RightLine, BangLine, UseLine, LolliLine, ImpLine, ForallLine}
use Rattle.ll_laws.specs.Line.{ExistsLine, ClauseLine, part_line, NumLine, counts_numbers}
use Rattle.ll_laws.specs.Settle.{Entry, Item, Goal, LolliEnd, ImpEnd, WithMiddle, WithEnd, BangEnd, has_live, unlive}
use Rattle.ll_laws.specs.State.{State, settle}
use Rattle.ll_laws.specs.Search.{start}
use Rattle.ll_laws.specs.Problem.{ProblemTree}
use Rattle.ll_laws.specs.Verdict.{instantiated_goal}
use Rattle.ll_laws.specs.Attempt.{stepped, saved_of, loaded, entry_at, is_open, picked}
use Rattle.ll_laws.specs.Number.{holds}

-- the state after an atom was taken by leaf k of the entry with this label, with the terms us for its quantifiers
abbrev pub taken_by : State → List (Item Form) → ℕ → ℕ → List Term → List Premise → State
taken_by s rest label k us ps =
    record s {
      agenda = map (λ p. Goal (premise_goal p)) ps ++ rest;
      context = picked label s.context;
      terms = s.terms ++ us;
      steps = s.steps ++ ClauseStep label k ∷ [];
    }

-- the terms may be chosen where this many eigenvariables have been made
abbrev pub MayChoose : ℕ → List Term → Type 0
MayChoose n [] = Unit {0}
MayChoose n (t ∷ ts) = (is_closed t ≡ true) × (eigens_below n t ≡ true) × MayChoose n ts

-- no entry has the label
abbrev pub IsFresh : ℕ → List (Entry Form) → Type 0
IsFresh n es = list_any (λ e. nat_eq n e.label) es ≡ false

-- The state s, with this goal in front of the rest of its agenda, goes on to the last state by one inference, whose node is this one. A
-- term is chosen for each new variable. Levels play no part, and the number of variables is that of the terms.
pub data Goes (beside : Setting) (s : State) (rest : List (Item Form)) : Form → Line → State → Type 0 where
  goes_one : Goes beside s rest One OneLine (stepped s rest Plain)
  goes_top : Goes beside s rest Top EraseLine (record (stepped s rest Plain) { flag = true })
  goes_tensor : {f g : Form} → Goes beside s rest (Tensor f g) (TensorLine [] []) (stepped s (Goal f ∷ Goal g ∷ rest) Plain)
  goes_left : {f g : Form} → Goes beside s rest (Plus f g) LeftLine (stepped s (Goal f ∷ rest) Left)
  goes_right : {f g : Form} → Goes beside s rest (Plus f g) RightLine (stepped s (Goal g ∷ rest) Right)
  goes_with : {f g : Form} → Goes beside s rest (With f g) WithLine
      (record (stepped s (Goal f ∷ WithMiddle (saved_of s) ∷ Goal g ∷ WithEnd (saved_of s) (saved_of s) ∷ rest) Plain) { flag = false })
  goes_bang : {f : Form} → Goes beside s rest (Bang f) BangLine
      (record (stepped s (Goal f ∷ BangEnd (saved_of s) ∷ rest) Plain) { context = map unlive s.context; flag = false })
  goes_lolli : {r g : Form} → IsFresh s.label s.context → Goes beside s rest (Lolli r g) (LolliLine s.label)
      (record (stepped s (Goal g ∷ LolliEnd s.flag ∷ rest) Plain) { context = loaded s Linear r; label = suc s.label; flag = false })
  goes_imp : {r g : Form} → IsFresh s.label s.context → Goes beside s rest (Imp r g) (ImpLine s.label)
      (record (stepped s (Goal g ∷ ImpEnd ∷ rest) Plain) { context = loaded s Unbounded r; label = suc s.label })
  goes_forall : {f : Form} → IsNew s.eigens (f ∷ map (λ e. e.clause) s.context)
      → Goes beside s rest (Forall f) (ForallLine s.eigens) (record (stepped s (Goal (instantiate f (Con (Eigen s.eigens))) ∷ rest) Plain) {
        eigens =
            suc s.eigens;
      })
  goes_exists : {f : Form} (t : Term) → MayChoose s.eigens (t ∷ [])
      → Goes beside s rest (Exists f) (ExistsLine t) (record (stepped s (Goal (instantiate f t) ∷ rest) Plain) { terms = s.terms ++ t ∷ [] })
  goes_use : {k : ℕ} {ts : List Term} {g : Form} (m : ModuleTree) → slice_get beside.modules k ≡ Some m
      → Goes beside s rest (Use k ts g) UseLine (stepped s (Goal (unfold_load m ts g) ∷ rest) Plain)
  goes_num : {r : Relation} {t u : Term} → holds beside.operators r t u ≡ true → Goes beside s rest (Num r t u) NumLine (stepped s rest Plain)
  goes_atom : {a : Term} (e : Entry Form) (label k : ℕ) (us : List Term) (ps : List Premise) → entry_at s.context label ≡ Some e → is_open e ≡ true
      → MayChoose s.eigens us
      → leaf e.clause k us ≡ Some (record { premises = ps; head = a })
      → Goes beside s rest (Atom a) (ClauseLine label k us (map part_line ps)) (taken_by s rest label k us ps)

-- a state with nothing left to prove is an answer
abbrev pub is_done : State → Bool
is_done t = not (has_live t.context) || t.flag

-- inferences with these nodes bring the state to an answer
pub data Trace (beside : Setting) : List Line → State → Type 0 where
  trace_end : {s : State} (t : State) → settle s ≡ Some t → t.agenda ≡ [] → is_done t ≡ true → Trace beside [] s
  trace_step : {s : State} {n : Line} {ns : List Line} (t u : State) (g : Form) (rest : List (Item Form)) → settle s ≡ Some t → t.agenda ≡ Goal g ∷ rest
      → Goes beside t rest g n u → Trace beside ns u
      → Trace beside (n ∷ ns) s

-- so many inferences, none of a whole-number goal, bring the state to an answer
pub record Run (beside : Setting) (size : ℕ) (s : State) : Type 0 where
  pub nodes : List Line
  pub trace : Trace beside nodes s
  pub count : length nodes ≡ size
  pub numberless : list_any counts_numbers nodes ≡ false

-- the state in which the runs of a problem start, where these terms stand for the query's variables
abbrev pub run_start : ProblemTree → List Term → State
run_start p ts = record (start p.clauses (instantiated_goal p ts) 0) { terms = ts }
