-- Settling a machine, one end after the other: goals and clauses stay places, and settling looks at neither.
use Rattle.std.specs.Prelude.{◌≡◌, ◌<◌, true, List, [], map, length, All, Option, Some, None}
use Rattle.ll_bank.specs.declared.At.{At}
use Rattle.ll_bank.specs.declared.FormAt.{FormAt}
use Rattle.ll_bank.specs.declared.environment.Environment.{Environment}
use Rattle.ll_bank.specs.Nodes.{Nodes, HasForm, form_tree}
use Rattle.ll_laws.specs.Settle.{Saved, Item as ItemOf, Goal as GoalOf, LolliEnd as EndOfLolli, ImpEnd as EndOfImp, WithMiddle as Middle, WithEnd as EndOfWith}
use Rattle.ll_laws.specs.Settle.{BangEnd as EndOfBang, Front, settle_front}
use Rattle.ll_laws.specs.Consistent.{ends_fit}
use Rattle.ll_laws.specs.Valid.{IsFormula, ClauseSide}
use Rattle.ll_agenda.specs.Frames.{HasTop}
use Rattle.ll_resources.specs.Resources.{Resources, saved_at}
use Rattle.ll_freeze.specs.Keyed.{AreKeyed}
use Rattle.ll_freeze.specs.Parts.{Parts}
use Rattle.ll_freeze.specs.declared.machine.Item.{Item}
use Rattle.ll_freeze.specs.declared.machine.Item.TheVariants.{Goal, LolliEnd, ImpEnd, Mid, WithEnd, BangEnd}
use Rattle.ll_engine.specs.declared.settle.Worked.{Worked}
use Rattle.ll_engine.specs.declared.settle.Worked.TheVariants.{Off, Settled, Failed}
use Rattle.ll_freeze.specs.Shown.{shown_item, shown_entry, items_of}
use Rattle.ll_freeze.specs.Fits.{HasItem, allowed, IsGoalIn}
use Rattle.ll_engine.specs.Calls.{SameSearch}
use Rattle.ll_freeze.specs.Calls.{SameTerms}

-- an item over what was kept, with its goal as a place and an environment
abbrev pub raw_item : List Saved → Item → ItemOf (FormAt × Environment)
raw_item kept (Goal g e) = GoalOf (g, e)
raw_item kept (LolliEnd b) = EndOfLolli b
raw_item kept ImpEnd = EndOfImp
raw_item kept (Mid s) = Middle (saved_at kept s)
raw_item kept (WithEnd s h) = EndOfWith (saved_at kept s) (saved_at kept h)
raw_item kept (BangEnd s) = EndOfBang (saved_at kept s)

-- what settling makes of an agenda and a context, with goals and clauses as places
abbrev pub front_raw : Resources FormAt → List Item → Option (Front (FormAt × Environment) FormAt)
front_raw r xs = settle_front (map (raw_item r.kept) xs) r.entries r.flag

-- the ends of these items belong to the entries
abbrev pub EndsFit : Nodes → List (Option At) → Resources FormAt → List Item → Type 0
EndsFit bank bound r xs = ends_fit (map (shown_item bank bound r.kept) xs) (map (shown_entry bank bound) r.entries) ≡ true

-- the later machine is the earlier one with some ends worked off
pub record Reaches (o m : Parts) : Type 0 where
  pub same : SameTerms o m
  pub eigens : m.eigens ≡ o.eigens
  pub left : m.left ≡ o.left
  pub steps : m.steps ≡ o.steps
  pub next : m.resources.next ≡ o.resources.next
  pub raw : front_raw m.resources (items_of m) ≡ front_raw o.resources (items_of o)
  pub top : HasTop m.agenda m.top
  pub items : All (HasItem o.bank (length m.resources.kept)) (items_of m)
  pub clauses : All (λ e. HasForm o.bank e.clause.0) m.resources.entries
  pub sorted_clauses : All (λ e. IsFormula (allowed o) ClauseSide [] (form_tree o.bank e.clause.0)) m.resources.entries
  pub sorted_goals : All (IsGoalIn (allowed o) o.bank) (items_of m)
  pub keyed : AreKeyed o.bank (length o.problem.clauses) m.resources

-- and the ends that are left belong to its entries
pub record Going (o m : Parts) : Type 0 where
  pub reached : Reaches o m
  pub ends : EndsFit o.bank o.bound m.resources (items_of m)

-- no end is in front
abbrev pub IsDone : Parts → Type 0
IsDone m = front_raw m.resources (items_of m) ≡ Some (record {
  agenda = map (raw_item m.resources.kept) (items_of m);
  context = m.resources.entries;
  flag =
      m.resources.flag;
})

-- what working off the item in front came to
abbrev pub Works : Parts → Worked → Parts → Type 0
Works old Off new = Going old new × (length (items_of new) < length (items_of old))
Works old Settled new = Reaches old new × IsDone new
Works old Failed new = (front_raw old.resources (items_of old) ≡ None) × SameSearch old new
