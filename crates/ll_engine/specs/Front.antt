-- The goal in front of a machine's agenda.
use Rattle.std.specs.Prelude.{◌≡◌, ◌∷◌, ℕ, Bool, true, false, List, All}
use Rattle.ll_bank.specs.declared.At.{At}
use Rattle.ll_bank.specs.declared.FormAt.{FormAt}
use Rattle.ll_bank.specs.declared.environment.Environment.{Environment}
use Rattle.ll_bank.specs.declared.Head.{Head}
use Rattle.ll_bank.specs.Term.{app, sub, not_bound}
use Rattle.ll_bank.specs.declared.FormNode.{FormNode}
use Rattle.ll_bank.specs.declared.FormNode.TheVariants.{Atom as AtomView}
use Rattle.ll_bank.specs.Form.{Form, Top as TopForm, One, Atom, With, Tensor, Plus, Bang, Lolli, Imp, Forall, Exists, Use, Num}
use Rattle.ll_bank.specs.Nodes.{IsFormView, term_trees}
use Rattle.ll_agenda.specs.declared.agenda.Top.{Top}
use Rattle.ll_agenda.specs.Frames.{HasTop, items_at}
use Rattle.ll_freeze.specs.Parts.{Parts, table}
use Rattle.ll_freeze.specs.Reading.{reading, read_goal}
use Rattle.ll_unify.specs.Bindings.{IsPlaceOf}
use Rattle.ll_freeze.specs.declared.machine.Item.TheVariants.{Goal}
use Rattle.ll_freeze.specs.Shown.{items_of, state_of}
use Rattle.ll_freeze.specs.Fits.{Fits}
use Rattle.ll_engine.specs.declared.attempt.Position.{Position}

-- the goal in front of the agenda; its environment and the rest of the agenda behind it are these
pub record IsGoal (m : Parts) (goal : FormAt) (p : Position) : Type 0 where
  pub list : items_of m ≡ Goal goal p.environment ∷ items_at m.agenda p.rest
  pub behind : HasTop m.agenda p.rest

-- this is seen of it
pub record IsFront (m : Parts) (view : FormNode) (p : Position) : Type 0 where
  pub goal : FormAt
  pub list : items_of m ≡ Goal goal p.environment ∷ items_at m.agenda p.rest
  pub behind : HasTop m.agenda p.rest
  pub seen : IsFormView m.bank goal.0 view

-- the same of a goal with no free bound place
abbrev pub without_values : ℕ → Top → Position
without_values end rest = record { environment = record { end = end; count = 0 }; rest = rest }

abbrev pub IsClosedGoal : Parts → FormAt → Top → Type 0
IsClosedGoal m goal rest = (end : ℕ) × IsGoal m goal (without_values end rest)

abbrev pub IsClosedFront : Parts → FormNode → Top → Type 0
IsClosedFront m view rest = (end : ℕ) × IsFront m view (without_values end rest)

-- this atom is the goal in front, with this environment
abbrev pub HasAtom : Parts → At → Environment → Type 0
HasAtom m atom e = (rest : Top) × IsFront m (AtomView atom) (record { environment = e; rest = rest })

-- the parts of such a goal go on in its environment, and it is not closed first
abbrev pub hands_on : Form → Bool
hands_on TopForm = true
hands_on One = true
hands_on (Atom a) = true
hands_on (With f g) = true
hands_on (Tensor f g) = true
hands_on (Plus f g) = true
hands_on (Bang f) = true
hands_on (Lolli f g) = false
hands_on (Imp f g) = false
hands_on (Forall f) = false
hands_on (Exists f) = false
hands_on (Use m ts f) = false
hands_on (Num r t u) = false

-- the later machine shows the same state of the same search
pub record IsSameSearch (old new : Parts) : Type 0 where
  pub problem : new.problem ≡ old.problem
  pub state : state_of new ≡ state_of old
  pub left : new.left ≡ old.left
  pub fits : Fits new

-- the atom in front begins with this sign, and places show its arguments, read under bindings
pub record IsAsked (m : Parts) (sign : Head) (args : List At) (p : Position) : Type 0 where
  pub goal : FormAt
  pub list : items_of m ≡ Goal goal p.environment ∷ items_at m.agenda p.rest
  pub behind : HasTop m.agenda p.rest
  pub fixed : not_bound sign ≡ true
  pub places : All (λ (a : At). IsPlaceOf m.bank (table m) a.0) args
  pub reads : read_goal m.bank m.bound p.environment goal ≡ Atom (sub (reading m.bank m.bound) (app sign (term_trees m.bank args)))
