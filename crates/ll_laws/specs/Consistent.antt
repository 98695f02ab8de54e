-- The invariant of the states that a search reaches.
use Rattle.std.specs.Prelude.{◌≡◌, ℕ, Bool, true, false, ◌&&◌, ◌||◌, not, List, [], ◌∷◌, length, nat_eq, nat_lt, nat_le}
use Rattle.std.specs.List.{list_all, list_any}
use Rattle.ll_bank.specs.Term.{Term, is_closed, eigens_below}
use Rattle.ll_bank.specs.Form.{Form}
use Rattle.ll_laws.specs.declared.Kind.{Kind}
use Rattle.ll_laws.specs.Module.{Setting}
use Rattle.ll_laws.specs.Settle.{Entry, Item, Goal, LolliEnd, ImpEnd, WithMiddle, WithEnd, BangEnd}
use Rattle.ll_laws.specs.State.{State}
use Rattle.ll_laws.specs.Attempt.{is_linear}
use Rattle.ll_laws.specs.Unify.{vars_below}
use Rattle.ll_laws.specs.Valid.{Allowed, IsFormula, GoalSide, ClauseSide}

-- a live mark of an entry of this kind: only a linear one may be live
abbrev pub may_live : Kind → Bool → Bool
may_live kind live = is_linear kind || not live

-- marks that were kept for these entries: one for each, and none says that an unbounded one is live
abbrev pub marks_fit : List Bool → List (Entry Form) → Bool
marks_fit [] [] = true
marks_fit (b ∷ bs) (e ∷ es) = may_live e.kind b && marks_fit bs es
marks_fit _ _ = false

-- the kind is linear, or it is not
abbrev pub is_of_kind : Bool → Kind → Bool
is_of_kind true kind = is_linear kind
is_of_kind false kind = not (is_linear kind)

-- the newest entry is linear, or it is not, and the rest passes a test
abbrev pub newest_is : Bool → (List (Entry Form) → Bool) → List (Entry Form) → Bool
newest_is linear test [] = false
newest_is linear test (e ∷ es) = is_of_kind linear e.kind && test es

-- the middle of `&` is followed by the second side and its end
abbrev pub begins_second_side : List (Item Form) → Bool
begins_second_side (Goal g ∷ WithEnd saved half ∷ rest) = true
begins_second_side _ = false

-- the ends of an agenda belong to the entries of a context: each end of a load to the entry that it loaded, and marks that
-- were kept to the entries that there are once this end is reached
abbrev pub ends_fit : List (Item Form) → List (Entry Form) → Bool
ends_fit [] es = true
ends_fit (Goal g ∷ rest) es = ends_fit rest es
ends_fit (LolliEnd saved ∷ rest) es = newest_is true (ends_fit rest) es
ends_fit (ImpEnd ∷ rest) es = newest_is false (ends_fit rest) es
ends_fit (WithMiddle saved ∷ rest) es = begins_second_side rest && marks_fit saved.live es && ends_fit rest es
ends_fit (WithEnd saved half ∷ rest) es = marks_fit saved.live es && marks_fit half.live es && ends_fit rest es
ends_fit (BangEnd saved ∷ rest) es = marks_fit saved.live es && ends_fit rest es

-- what formulas of a state may mention
abbrev pub allowed_in : Setting → State → Allowed
allowed_in m s = record { modules = m.modules; variables = length s.levels; eigens = s.eigens; opens = true }

-- each goal of an agenda is a goal, and closed
abbrev pub AreGoals : Allowed → List (Item Form) → Type 0
AreGoals may [] = Unit {0}
AreGoals may (Goal g ∷ rest) = IsFormula may GoalSide [] g × AreGoals may rest
AreGoals may (_ ∷ rest) = AreGoals may rest

-- each entry of a context holds a clause, closed
abbrev pub AreResources : Allowed → List (Entry Form) → Type 0
AreResources may [] = Unit {0}
AreResources may (e ∷ es) = IsFormula may ClauseSide [] e.clause × AreResources may es

-- the term is closed, and its variables and eigenvariables are below these numbers
abbrev pub is_made : ℕ → ℕ → Term → Bool
is_made variables eigens t = is_closed t && vars_below variables t && eigens_below eigens t

-- no label stands twice
abbrev pub labels_differ : List (Entry Form) → Bool
labels_differ [] = true
labels_differ (e ∷ es) = not (list_any (λ d. nat_eq e.label d.label) es) && labels_differ es

-- A consistent state: goals and clauses are closed, and their variables and eigenvariables are below the next ones; labels
-- are below the next one and distinct; no unbounded entry is live; ends and kept marks belong to the context.
pub record IsConsistent (m : Setting) (s : State) : Type 0 where
  pub goals : AreGoals (allowed_in m s) s.agenda
  pub resources : AreResources (allowed_in m s) s.context
  pub terms : list_all (is_made (length s.levels) s.eigens) s.terms ≡ true
  pub term_count : length s.terms ≡ length s.levels
  pub levels : list_all (λ l. nat_le l s.eigens) s.levels ≡ true
  pub labels_below : list_all (λ e. nat_lt e.label s.label) s.context ≡ true
  pub labels_differ : labels_differ s.context ≡ true
  pub live : list_all (λ e. may_live e.kind e.live) s.context ≡ true
  pub ends : ends_fit s.agenda s.context ≡ true
