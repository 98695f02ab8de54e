-- What a context has under the entries that were loaded: those of the program's clauses, in order, whatever their live marks.
use Rattle.std.specs.Prelude.{List, [], ◌∷◌}
use Rattle.ll_bank.specs.Form.{Form}
use Rattle.ll_laws.specs.Module.{ClauseTree}
use Rattle.ll_laws.specs.Settle.{Entry, Item, Goal, LolliEnd, ImpEnd, WithMiddle, WithEnd, BangEnd, without_newest}
use Rattle.ll_laws.specs.State.{State}
use Rattle.ll_index.specs.Context.{AreOfProgram}

-- what is left of a context once the goals of an agenda are proved that entries were loaded for: each end of a load takes one away
abbrev pub under_loads : List (Item Form) → List (Entry Form) → List (Entry Form)
under_loads [] es = es
under_loads (Goal g ∷ rest) es = under_loads rest es
under_loads (LolliEnd saved ∷ rest) es = under_loads rest (without_newest es)
under_loads (ImpEnd ∷ rest) es = under_loads rest (without_newest es)
under_loads (WithMiddle saved ∷ rest) es = under_loads rest es
under_loads (WithEnd saved half ∷ rest) es = under_loads rest es
under_loads (BangEnd saved ∷ rest) es = under_loads rest es

-- under what was loaded the state's context has the entries of these clauses
abbrev pub RestsOn : List ClauseTree → State → Type 0
RestsOn cs s = AreOfProgram 0 cs (under_loads s.agenda s.context)
