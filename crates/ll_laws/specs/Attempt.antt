-- One inference: the candidates of the first goal, and the state that each gives.
-- Right rules and backchaining are those of Hodas and Miller 1994; the flag and the lazy leftovers are this system's own.
use Rattle.std.specs.Prelude.{ℕ, zero, suc, Bool, true, false, ◌||◌, not, List, [], ◌∷◌, ◌++◌, map, length, replicate, nat_eq, slice_get, Option, Some, None}
use Rattle.std.specs.Prelude.{if◌then◌else◌, option_map, option_and_then, flat_map, ℤ}
use Rattle.ll_bank.specs.declared.Head.TheVariants.{Eigen}
use Rattle.ll_bank.specs.Term.{Term, Var, Con, sub, same_predicate, Int}
use Rattle.ll_bank.specs.Form.{Form, Top, One, Atom, With, Tensor, Plus, Bang, Lolli, Imp, Forall, Exists, Use, instantiate, Num, Relation, Is}
use Rattle.ll_laws.specs.declared.Kind.{Kind}
use Rattle.ll_laws.specs.declared.Kind.TheVariants.{Linear, Unbounded}
use Rattle.ll_laws.specs.declared.Step.{Step}
use Rattle.ll_laws.specs.declared.Step.TheVariants.{Plain, Left, Right, Clause as ClauseStep}
use Rattle.ll_laws.specs.declared.Candidate.{Candidate}
use Rattle.ll_laws.specs.Leaf.{Leaf, ways, leaf, premise_goal}
use Rattle.ll_laws.specs.Module.{ModuleTree, Setting, unfold_load}
use Rattle.ll_laws.specs.Settle.{Entry, Saved, Item, Goal, LolliEnd, ImpEnd, WithMiddle, WithEnd, BangEnd, marks, unlive}
use Rattle.ll_laws.specs.State.{State, sub_item, sub_entry}
use Rattle.ll_laws.specs.Unify.{Solved, mgu}
use Rattle.ll_laws.specs.Number.{value_of, holds}

-- the variables from n on, so many
abbrev pub vars_from : ℕ → ℕ → List Term
vars_from n zero = []
vars_from n (suc k) = Var n ∷ vars_from (suc n) k

-- the entry with this label
abbrev pub entry_at : {C : Type 0} → List (Entry C) → ℕ → Option (Entry C)
entry_at [] label = None
entry_at (e ∷ es) label = if nat_eq e.label label then Some e else entry_at es label

-- the kind is linear
abbrev pub is_linear : Kind → Bool
is_linear Linear = true
is_linear Unbounded = false

-- an entry that may be picked: an unbounded one, or a linear one that is live
abbrev pub is_open : {C : Type 0} → Entry C → Bool
is_open e = not (is_linear e.kind) || e.live

-- the head of a clause's leaf with n quantifiers on its way, opened with any variables
abbrev pub leaf_head : Form → ℕ → ℕ → Option Term
leaf_head r k n = option_map (λ l. l.head) (leaf r k (vars_from 0 n))

-- the head has the predicate and the number of arguments of the atom
abbrev pub fits_head : Term → Option Term → Bool
fits_head a None = false
fits_head a (Some h) = same_predicate a h

-- the candidates for an atom among the leaves of an entry from leaf k on, given their ways
abbrev pub leaf_tries : Term → Entry Form → ℕ → List ℕ → List Candidate
leaf_tries a e k [] = []
leaf_tries a e k (n ∷ ns) =
    if fits_head a (leaf_head e.clause k n) then record { label = e.label; leaf = k } ∷ leaf_tries a e (suc k) ns else leaf_tries a e (suc k) ns

-- the candidates for an atom among the leaves of an entry, from left to right
abbrev pub entry_tries : Term → Entry Form → List Candidate
entry_tries a e = if is_open e then leaf_tries a e 0 (ways e.clause) else []

-- the one candidate of a goal that is neither an atom nor a `;`
abbrev pub only_try : List Candidate
only_try = record { label = 0; leaf = 0 } ∷ []

-- the candidates of a goal in a context
abbrev pub goal_tries : List (Entry Form) → Form → List Candidate
goal_tries es (Plus f g) = record { label = 0; leaf = 0 } ∷ record { label = 0; leaf = 1 } ∷ []
goal_tries es (Atom a) = flat_map (entry_tries a) es
goal_tries es _ = only_try

-- the candidates of an agenda's first goal
abbrev pub agenda_tries : List (Item Form) → List (Entry Form) → List Candidate
agenda_tries (Goal g ∷ rest) es = goal_tries es g
agenda_tries _ es = []

-- the candidates of a state's first goal, in the order in which they are tried
unfoldable pub tries : State → List Candidate
tries s = agenda_tries s.agenda s.context

-- the live marks and the flag of a state
abbrev pub saved_of : State → Saved
saved_of s = record { live = marks s.context; flag = s.flag }

-- a context in which the entry with this label has lost its live mark
abbrev pub picked : {C : Type 0} → ℕ → List (Entry C) → List (Entry C)
picked label [] = []
picked label (e ∷ es) = if nat_eq e.label label then unlive e ∷ es else e ∷ picked label es

-- a state under a substitution with new levels, everywhere at once
abbrev pub instantiated : State → Solved → State
instantiated s u =
    record s {
      agenda = map (sub_item u.subst) s.agenda;
      context = map (sub_entry u.subst) s.context;
      levels = u.levels;
      terms = map (sub u.subst) s.terms;
    }

-- a state with this rest of its agenda after leaf k of the entry with this label was taken with n new variables, before
-- head and atom are unified
abbrev pub with_leaf : State → List (Item Form) → ℕ → ℕ → ℕ → Leaf → State
with_leaf s rest label k n l =
    record s {
      agenda = map (λ p. Goal (premise_goal p)) l.premises ++ rest;
      context = picked label s.context;
      levels = s.levels ++ replicate n s.eigens;
      terms = s.terms ++ vars_from (length s.levels) n;
      steps = s.steps ++ ClauseStep label k ∷ [];
    }

-- a leaf taken for the atom, if head and atom unify
abbrev pub take_leaf : State → Term → List (Item Form) → ℕ → ℕ → ℕ → Leaf → Option State
take_leaf s a rest label k n l =
    option_map (instantiated (with_leaf s rest label k n l)) (mgu (a ∷ []) (l.head ∷ []) (s.levels ++ replicate n s.eigens))

-- the leaf opened with new variables and taken, given the number of quantifiers on its way
abbrev pub take_way : State → Term → List (Item Form) → ℕ → ℕ → Entry Form → ℕ → Option State
take_way s a rest label k e n = option_and_then (take_leaf s a rest label k n) (leaf e.clause k (vars_from (length s.levels) n))

-- leaf k of an entry taken for the atom
abbrev pub take_entry : State → Term → List (Item Form) → ℕ → ℕ → Entry Form → Option State
take_entry s a rest label k e = option_and_then (take_way s a rest label k e) (slice_get (ways e.clause) k)

-- a state with this agenda after one step more
abbrev pub stepped : State → List (Item Form) → Step → State
stepped s agenda step = record s { agenda = agenda; steps = s.steps ++ step ∷ [] }

-- a context with the clause loaded in front, under the state's next label
abbrev pub loaded : State → Kind → Form → List (Entry Form)
loaded s kind r = record { label = s.label; kind = kind; live = is_linear kind; clause = r } ∷ s.context

-- the left side of a `;`, or the right one
abbrev pub take_side : ℕ → State → Form → Form → List (Item Form) → State
take_side zero s f g rest = stepped s (Goal f ∷ rest) Left
take_side (suc k) s f g rest = stepped s (Goal g ∷ rest) Right

-- a module loaded round a goal, if there is such a module
abbrev pub load_module : State → List (Item Form) → List Term → Form → Option ModuleTree → Option State
load_module s rest ts g None = None
load_module s rest ts g (Some m) = Some (stepped s (Goal (unfold_load m ts g) ∷ rest) Plain)

-- a state in which the variable of an `is` has its value, or a term is the number already
abbrev pub take_value : State → Term → List (Item Form) → Option ℤ → Option State
take_value s t rest None = None
take_value s t rest (Some z) = option_map (instantiated (stepped s rest Plain)) (mgu (t ∷ []) (Int z ∷ []) s.levels)

-- a whole-number goal: `is` unifies its left side with the value of its right one, and the others are tested
abbrev pub take_number : Setting → State → Relation → Term → Term → List (Item Form) → Option State
take_number m s Is t u rest = take_value s t rest (value_of m.operators u)
take_number m s r t u rest = if holds m.operators r t u then Some (stepped s rest Plain) else None

-- a first goal taken apart by a candidate, with this rest of the agenda
abbrev pub attempt_goal : Setting → State → Form → List (Item Form) → Candidate → Option State
attempt_goal m s One rest c = Some (stepped s rest Plain)
attempt_goal m s Top rest c = Some (record (stepped s rest Plain) { flag = true })
attempt_goal m s (Tensor f g) rest c = Some (stepped s (Goal f ∷ Goal g ∷ rest) Plain)
attempt_goal m s (Plus f g) rest c = Some (take_side c.leaf s f g rest)
attempt_goal m s (With f g) rest c =
    Some (record (stepped s (Goal f ∷ WithMiddle (saved_of s) ∷ Goal g ∷ WithEnd (saved_of s) (saved_of s) ∷ rest) Plain) { flag = false })
attempt_goal m s (Bang f) rest c =
    Some (record (stepped s (Goal f ∷ BangEnd (saved_of s) ∷ rest) Plain) { context = map unlive s.context; flag = false })
attempt_goal m s (Lolli r g) rest c =
    Some (record (stepped s (Goal g ∷ LolliEnd s.flag ∷ rest) Plain) { context = loaded s Linear r; label = suc s.label; flag = false })
attempt_goal m s (Imp r g) rest c =
    Some (record (stepped s (Goal g ∷ ImpEnd ∷ rest) Plain) { context = loaded s Unbounded r; label = suc s.label })
attempt_goal m s (Forall f) rest c =
    Some (record (stepped s (Goal (instantiate f (Con (Eigen s.eigens))) ∷ rest) Plain) { eigens = suc s.eigens })
attempt_goal m s (Exists f) rest c =
    Some (record (stepped s (Goal (instantiate f (Var (length s.levels))) ∷ rest) Plain) {
      levels = s.levels ++ s.eigens ∷ [];
      terms = s.terms ++ Var (length s.levels) ∷ [];
    })
attempt_goal m s (Use n ts g) rest c = load_module s rest ts g (slice_get m.modules n)
attempt_goal m s (Num r t u) rest c = take_number m s r t u rest
attempt_goal m s (Atom a) rest c = option_and_then (take_entry s a rest c.label c.leaf) (entry_at s.context c.label)

-- an agenda's first goal taken apart by a candidate
abbrev pub attempt_agenda : Setting → State → List (Item Form) → Candidate → Option State
attempt_agenda m s (Goal g ∷ rest) c = attempt_goal m s g rest c
attempt_agenda m s _ c = None

-- the state that a candidate gives, or none
unfoldable pub attempt : Setting → State → Candidate → Option State
attempt m s c = attempt_agenda m s s.agenda c

-- no state, or one
abbrev pub option_to_states : Option State → List State
option_to_states None = []
option_to_states (Some t) = t ∷ []

-- the states that the candidates give, in order
unfoldable pub successors : Setting → State → List State
successors m s = flat_map (λ c. option_to_states (attempt m s c)) (tries s)
