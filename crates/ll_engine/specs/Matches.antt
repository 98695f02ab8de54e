-- The candidates that are tried: those of a first goal, less those for an atom whose head's first argument has an outermost sign that
-- clashes with the atom's, as they give nothing.
use Rattle.std.specs.Prelude.{◌≡◌, Bool, true, ◌&&◌, not, List, [], ◌∷◌, All, map, flat_map, Option, Some, None}
use Rattle.ll_bank.specs.declared.FormAt.{FormAt}
use Rattle.ll_bank.specs.Term.{Term, head_of, arity, sub}
use Rattle.ll_bank.specs.Form.{Form, Atom}
use Rattle.ll_bank.specs.Nodes.{form_tree}
use Rattle.ll_unify.specs.Bindings.{count}
use Rattle.ll_store.specs.declared.store.Store.{Store}
use Rattle.ll_store.specs.Tables.{table_of}
use Rattle.ll_laws.specs.declared.Candidate.{Candidate}
use Rattle.ll_laws.specs.Settle.{Entry, Item, Goal}
use Rattle.ll_laws.specs.State.{State}
use Rattle.ll_laws.specs.Attempt.{goal_tries}
use Rattle.ll_laws.specs.Unify.{vars_below}
use Rattle.ll_index.specs.First.{first_of, signs_clash, entry_matches}
use Rattle.ll_freeze.specs.Parts.{Parts}
use Rattle.ll_freeze.specs.Reading.{reading}
use Rattle.ll_freeze.specs.Shown.{shown_entry}
use Rattle.ll_engine.specs.declared.heads.Asked.{Asked}
use Rattle.ll_engine.specs.declared.found.Found.{Found}
use Rattle.ll_engine.specs.Leaves.{has_predicate, heads}

-- ---- the candidates of a state

-- the candidates of a goal in a context, less those whose signs clash
abbrev pub goal_matches : List (Entry Form) → Form → List Candidate
goal_matches es (Atom a) = flat_map (entry_matches (first_of a) a) es
goal_matches es g = goal_tries es g

-- those of an agenda's first goal
abbrev pub agenda_matches : List (Item Form) → List (Entry Form) → List Candidate
agenda_matches (Goal g ∷ rest) es = goal_matches es g
agenda_matches _ es = []

-- those of a state's first goal
unfoldable pub matches : State → List Candidate
matches s = agenda_matches s.agenda s.context

-- ---- heads as they stand in a bank

-- what a store's bindings make of a term that stands in its bank
abbrev pub read_by : Store → Term → Term
read_by s t = sub (reading s.bank (table_of s.cells.cells).bound) t

-- each variable of the term has a cell, through bindings too
abbrev pub HasCellsIn : Store → Term → Type 0
HasCellsIn s t = vars_below (count (table_of s.cells.cells)) (read_by s t) ≡ true

-- so it is with the heads of a clause
abbrev pub HeadsHaveCells : Store → FormAt → Type 0
HeadsHaveCells s f = All (HasCellsIn s) (heads (form_tree s.bank f.0))

-- the atom asks for this head, so many arguments, and a sign of the first one
pub record AsksFor (s : Store) (atom : Term) (asked : Asked) : Type 0 where
  pub head : head_of atom ≡ Some asked.predicate.head
  pub arity_is : arity atom ≡ asked.predicate.arity
  pub first : asked.first ≡ first_of (read_by s atom)

-- a head has the predicate that is asked for, and its sign clashes with none
abbrev pub head_fits : Store → Asked → Term → Bool
head_fits s asked h = has_predicate asked.predicate h && not (signs_clash asked.first (first_of (read_by s h)))

-- ---- candidates that were found

abbrev pub with_first : Option Candidate → List Candidate → List Candidate
with_first None cs = cs
with_first (Some c) cs = c ∷ cs

-- all of them in order
abbrev pub all_found : Found → List Candidate
all_found f = with_first f.first f.others.items

-- ---- the context that a machine shows

abbrev pub shown_context : Parts → List (Entry Form)
shown_context m = map (shown_entry m.bank m.bound) m.resources.entries
