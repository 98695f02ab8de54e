-- Sequents whose derivations are still to be judged, as a bank shows them, and what holds of their formulas.
use Rattle.std.specs.Prelude.{◌≡◌, ℕ, ◌≤◌, ◌++◌, true, List, [], ◌∷◌, map, take, reverse, length, All}
use Rattle.ll_bank.specs.Form.{Form}
use Rattle.ll_bank.specs.Nodes.{Nodes, form_tree, HasForm}
use Rattle.ll_laws.specs.Module.{ModuleTree}
use Rattle.ll_laws.specs.Shows.{Labelled}
use Rattle.ll_laws.specs.Valid.{Side, GoalSide, ClauseSide, Scope, free_below, has_heads, loads_fit}
use Rattle.ll_sequent.specs.declared.sequents.Resource.{Resource}
use Rattle.ll_sequent.specs.declared.sequents.Sequent.{Sequent}

-- a sequent: its unbounded clauses, its bounded ones, and its goal
pub record SequentTree : Type 0 where
  pub free : List Labelled
  pub bounded : List Labelled
  pub goal : Form

-- a clause with its label
abbrev pub labelled_in : Nodes → Resource → Labelled
labelled_in bank r = record { label = r.label; clause = form_tree bank r.form.0 }

-- bounded clauses, in their order
abbrev pub bounded_in : Nodes → List Resource → List Labelled
bounded_in bank rs = map (labelled_in bank) rs

-- unbounded clauses: the newest, which is kept last, stands first in a sequent
abbrev pub free_in : Nodes → List Resource → List Labelled
free_in bank rs = reverse (map (labelled_in bank) rs)

-- a sequent, of which the first unbounded clauses are its own
abbrev pub sequent_in : Nodes → List Resource → Sequent → SequentTree
sequent_in bank free s = record { free = free_in bank (take s.free free); bounded = bounded_in bank s.bounded.items; goal = form_tree bank s.goal.0 }

-- the sequents that wait: the next one, which is kept last, stands first
abbrev pub waiting_in : Nodes → List Resource → List Sequent → List SequentTree
waiting_in bank free qs = reverse (map (sequent_in bank free) qs)

-- ---- what holds of the formulas

-- no bound place is free, what stands in front of arguments is a head that may have them, and loads name modules, with as many arguments as
-- these have parameters
pub record IsSound (modules : List ModuleTree) (side : Side) (scope : Scope) (f : Form) : Type 0 where
  pub closed : free_below (length scope) f ≡ true
  pub heads : has_heads true side scope f ≡ true
  pub loads : loads_fit modules f ≡ true

-- the place is in the bank and shows a sound formula
pub record IsHeld (modules : List ModuleTree) (bank : Nodes) (side : Side) (at : ℕ) : Type 0 where
  pub inside : HasForm bank at
  pub sound : IsSound modules side [] (form_tree bank at)

-- the same of each clause
abbrev pub AreHeld : List ModuleTree → Nodes → List Resource → Type 0
AreHeld modules bank rs = All (λ (r : Resource). IsHeld modules bank ClauseSide r.form.0) rs

-- the same of a sequent's goal and its bounded clauses
pub record IsSequent (modules : List ModuleTree) (bank : Nodes) (s : Sequent) : Type 0 where
  pub goal : IsHeld modules bank GoalSide s.goal.0
  pub bounded : AreHeld modules bank s.bounded.items

-- the numbers of unbounded clauses of sequents, of which the last is next, rise from one number to another
abbrev pub AreNested : ℕ → List Sequent → ℕ → Type 0
AreNested low [] high = low ≤ high
AreNested low (s ∷ ss) high = (low ≤ s.free) × AreNested s.free ss high

-- each sequent that waits is one, and they are nested
pub record AreWaiting (modules : List ModuleTree) (bank : Nodes) (count : ℕ) (ss : List Sequent) : Type 0 where
  pub each : All (IsSequent modules bank) ss
  pub nested : AreNested 0 ss count

-- clauses before and after: there may be more at the end
pub record Adds (old new : List Resource) : Type 0 where
  pub more : List Resource
  pub is : new ≡ old ++ more
