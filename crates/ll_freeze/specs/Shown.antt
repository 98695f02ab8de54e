-- How a machine shows the state of a search: its terms and formulas are places of its bank, read under its bindings.
use Rattle.std.specs.Prelude.{List, map, Option}
use Rattle.ll_bank.specs.declared.At.{At}
use Rattle.ll_bank.specs.declared.FormAt.{FormAt}
use Rattle.ll_bank.specs.declared.environment.Environment.{Environment}
use Rattle.ll_bank.specs.Form.{Form}
use Rattle.ll_bank.specs.Nodes.{Nodes}
use Rattle.ll_laws.specs.Settle.{Saved, Entry, Item, Goal, LolliEnd, ImpEnd, WithMiddle, WithEnd, BangEnd, map_entry}
use Rattle.ll_laws.specs.State.{State}
use Rattle.ll_agenda.specs.Frames.{items_at}
use Rattle.ll_resources.specs.Resources.{saved_at}
use Rattle.ll_freeze.specs.Reading.{read_term, read_form, read_goal}
use Rattle.ll_freeze.specs.Parts.{Parts}
use Rattle.ll_freeze.specs.declared.machine.Item.{Item as KeptItem}
use Rattle.ll_freeze.specs.declared.machine.Item.TheVariants.{Goal as KeptGoal, LolliEnd as KeptLolliEnd, ImpEnd as KeptImpEnd, Mid as KeptMiddle}
use Rattle.ll_freeze.specs.declared.machine.Item.TheVariants.{WithEnd as KeptWithEnd, BangEnd as KeptBangEnd}

-- the environment of a goal with no free bound place, and such a goal
abbrev pub no_variables : Environment
no_variables = record { end = 0; count = 0 }

abbrev pub closed_goal : FormAt → KeptItem
closed_goal g = KeptGoal g no_variables

-- an item of an agenda, over what was kept of the context
abbrev pub shown_item : Nodes → List (Option At) → List Saved → KeptItem → Item Form
shown_item bank bound kept (KeptGoal g e) = Goal (read_goal bank bound e g)
shown_item bank bound kept (KeptLolliEnd flag) = LolliEnd flag
shown_item bank bound kept KeptImpEnd = ImpEnd
shown_item bank bound kept (KeptMiddle saved) = WithMiddle (saved_at kept saved)
shown_item bank bound kept (KeptWithEnd saved half) = WithEnd (saved_at kept saved) (saved_at kept half)
shown_item bank bound kept (KeptBangEnd saved) = BangEnd (saved_at kept saved)

-- an entry of the context
abbrev pub shown_entry : Nodes → List (Option At) → Entry FormAt → Entry Form
shown_entry bank bound e = map_entry (read_form bank bound) e

-- the items of the agenda
abbrev pub items_of : Parts → List KeptItem
items_of m = items_at m.agenda m.top

-- the state of a search that a machine shows
unfoldable pub state_of : Parts → State
state_of m =
    record {
      agenda = map (shown_item m.bank m.bound m.resources.kept) (items_of m);
      context = map (shown_entry m.bank m.bound) m.resources.entries;
      flag = m.resources.flag;
      levels = m.levels;
      eigens = m.eigens;
      terms = map (read_term m.bank m.bound) m.terms;
      label = m.resources.next;
      steps = m.steps;
    }
