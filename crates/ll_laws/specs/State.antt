-- The state of a search.
use Rattle.std.specs.Prelude.{ℕ, Bool, List, map, Option, Some, None}
use Rattle.ll_bank.specs.Term.{Term, sub}
use Rattle.ll_bank.specs.Form.{Form, sub_form}
use Rattle.ll_laws.specs.declared.Step.{Step}
use Rattle.ll_laws.specs.Settle.{Entry, Item, Front, settle_front, map_item, map_entry}

-- A state. Every term and formula in it is fully instantiated. The number of variables made so far, which is the next
-- variable's number, is the length of `levels` and of `terms`.
pub record State : Type 0 where
  -- goals and ends still to be worked off
  pub agenda : List (Item Form)
  -- the resources, the newest in front
  pub context : List (Entry Form)
  -- an `erase` may still take what is left
  pub flag : Bool
  -- for each variable the number of eigenvariables that there were when it was made, or less
  pub levels : List ℕ
  -- the number of eigenvariables, which is the next one's number
  pub eigens : ℕ
  -- for each variable the term that it stands for, those asked for first
  pub terms : List Term
  -- the next label
  pub label : ℕ
  -- one step for each inference
  pub steps : List Step

-- a state with another front
abbrev pub with_front : State → Front Form Form → State
with_front s f = record s { agenda = f.agenda; context = f.context; flag = f.flag }

-- a state with the front that settling gave, if it gave one
abbrev pub front_of : State → Option (Front Form Form) → Option State
front_of s None = None
front_of s (Some f) = Some (with_front s f)

-- the state with the ends in front of its agenda worked off, or none where one of them fails
unfoldable pub settle : State → Option State
settle s = front_of s (settle_front s.agenda s.context s.flag)

-- an item under a substitution
abbrev pub sub_item : (ℕ → Term) → Item Form → Item Form
sub_item f i = map_item (sub_form f) i

-- an entry under a substitution
abbrev pub sub_entry : (ℕ → Term) → Entry Form → Entry Form
sub_entry f e = map_entry (sub_form f) e

-- a state whose terms and formulas are under a substitution; its levels stay
abbrev pub sub_state : (ℕ → Term) → State → State
sub_state f s = record s { agenda = map (sub_item f) s.agenda; context = map (sub_entry f) s.context; terms = map (sub f) s.terms }
