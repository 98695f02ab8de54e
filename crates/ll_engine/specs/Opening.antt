-- A leaf of a clause, opened with new variables, as its premises come onto an agenda.
use Rattle.std.specs.Prelude.{◌≡◌, true, ℕ, ◌+◌, ◌-◌, ◌<◌, ◌≤◌, List, [], ◌++◌, length, map, All, slice_get, Some}
use Rattle.ll_bank.specs.declared.At.{At}
use Rattle.ll_bank.specs.declared.FormAt.{FormAt}
use Rattle.ll_bank.specs.Term.{close, applies_heads}
use Rattle.ll_bank.specs.Form.{Form}
use Rattle.ll_bank.specs.Nodes.{Nodes, HasTerm, HasForm, AllInTerms, term_tree, term_trees, form_tree}
use Rattle.ll_bank.specs.declared.environment.Environment.{Environment}
use Rattle.ll_bank.specs.Environments.{IsWithin, values_in}
use Rattle.ll_bind.specs.Built.{begins_fixed}
use Rattle.ll_freeze.specs.Reading.{goal_tree}
use Rattle.ll_laws.specs.Leaf.{Premise, premise_goal, ways, leaf}
use Rattle.ll_laws.specs.Attempt.{vars_from}
use Rattle.ll_laws.specs.Valid.{Allowed, IsFormula, ClauseSide}
use Rattle.ll_agenda.specs.declared.agenda.Top.{Top}
use Rattle.ll_agenda.specs.Frames.{Frames, ShowsItems}
use Rattle.ll_engine.specs.declared.open.Side.{Side}
use Rattle.ll_freeze.specs.declared.machine.Item.{Item}
use Rattle.ll_freeze.specs.declared.machine.Item.TheVariants.{Goal}

-- the formula is a clause, closed and well sorted
abbrev pub IsClause : Form → Type 0
IsClause f = (may : Allowed) × IsFormula may ClauseSide [] f

-- the places with environments of so many variables show the goals by which the premises are proved
pub record AreGoalsOf (bank : Nodes) (variables : ℕ) (goals : List (FormAt × Environment)) (premises : List Premise) : Type 0 where
  pub inside : All (λ g. HasForm bank g.0.0) goals
  pub within : All (λ g. IsWithin variables g.1) goals
  pub trees : map (λ g. goal_tree bank g.1 g.0) goals ≡ map premise_goal premises

-- the leaf is open: its premises are on the agenda, the nearest to the head in front, it has its variables, and its head is at a place
-- where bound places stand for them
pub record Opens (first : Nodes) (items : List Item) (before clause k : ℕ) (bank : Nodes) (now : Frames Item) (terms : List At) (head : At)
    (own : Environment) (top : Top) : Type 0 where
  pub premises : List Premise
  pub count : ℕ
  pub goals : List (FormAt × Environment)
  pub shows : ShowsItems now top (map (λ g. Goal g.0 g.1) goals ++ items)
  pub goals_are : AreGoalsOf bank (before + count) goals premises
  pub terms_inside : AllInTerms bank terms
  pub variables : term_trees bank terms ≡ vars_from 0 (before + count)
  pub way : slice_get (ways (form_tree first clause)) k ≡ Some count
  pub own_is : own ≡ record { end = before + count; count = count }
  pub inside : HasTerm bank head.0
  pub begins : begins_fixed (term_tree bank head.0) ≡ true
  pub heads : applies_heads (close (values_in own) (term_tree bank head.0)) ≡ true
  pub leaf_is : leaf (form_tree first clause) k (vars_from before count)
      ≡ Some (record { premises = premises; head = close (values_in own) (term_tree bank head.0) })

-- the side on which a leaf is, given the ways of the left one, and its number there
abbrev pub IsSide : List ℕ → FormAt → FormAt → ℕ → Side → Type 0
IsSide lefts left right k side =
    (k < length lefts → (side.form ≡ left) × (side.leaf ≡ k)) × (length lefts ≤ k → (side.form ≡ right) × (side.leaf ≡ k - length lefts))

-- the later list is the earlier one with more behind it
pub record Appends {A : Type 0} (old new : List A) : Type 0 where
  pub more : List A
  pub is : new ≡ old ++ more
