-- A clause that a label names, its leaf that is open, and what becomes of the leaf's premises.
use Rattle.std.specs.Prelude.{◌≡◌, ℕ, ◌+◌, ◌-◌, ◌<◌, ◌≤◌, true, false, List, map, take, sum_by, All, Option, Some, None}
use Rattle.ll_bank.specs.declared.FormAt.{FormAt}
use Rattle.ll_bank.specs.Form.{Form}
use Rattle.ll_bank.specs.Nodes.{Nodes, form_tree, term_tree, HasForm, HasTerm}
use Rattle.ll_bank.specs.Opened.{form_size}
use Rattle.ll_laws.specs.Leaf.{Premise, Needs, NeedsFree, Leaf, premise_goal}
use Rattle.ll_laws.specs.Shows.{Found, Missing, Took}
use Rattle.ll_laws.specs.Fault.{parts_fit, parts_deal}
use Rattle.ll_laws.specs.Line.{PartLine}
use Rattle.ll_laws.specs.Module.{ModuleTree}
use Rattle.ll_laws.specs.Valid.{GoalSide, ClauseSide}
use Rattle.ll_sequent.specs.declared.leaves.Needed.{Needed}
use Rattle.ll_sequent.specs.declared.leaves.Needed.TheVariants.{Bounded, Unbounded}
use Rattle.ll_sequent.specs.declared.leaves.Opened.{Opened}
use Rattle.ll_sequent.specs.declared.leaves.Side.{Side}
use Rattle.ll_sequent.specs.declared.sequents.Resource.{Resource}
use Rattle.ll_sequent.specs.declared.sequents.Sequent.{Sequent}
use Rattle.ll_sequent.specs.declared.sequents.Step.{Step}
use Rattle.ll_sequent.specs.declared.sequents.Step.TheVariants.{Refused, Leaves}
use Rattle.ll_sequent.specs.Sequents.{bounded_in, free_in, sequent_in, IsHeld, AreHeld}
use Rattle.ll_sequent.specs.Steps.{blank, premises, AreLeft}

-- a clause that was found, with the bounded ones that are left
abbrev pub found_in : Nodes → Option FormAt → List Resource → Found
found_in bank None left = Missing
found_in bank (Some f) left = Took (form_tree bank f.0) (bounded_in bank left)

-- the clauses that are left are sound, and so is the one that was found
abbrev pub AreFound : List ModuleTree → Nodes → Option FormAt → List Resource → Type 0
AreFound modules bank None left = AreHeld modules bank left
AreFound modules bank (Some f) left = AreHeld modules bank left × IsHeld modules bank ClauseSide f.0

-- the side on which a leaf is, given the number of leaves of the left one, and its number there
abbrev pub IsSide : ℕ → FormAt → FormAt → ℕ → Side → Type 0
IsSide count left right k side =
    (k < count → (side.form ≡ left) × (side.leaf ≡ k)) × (count ≤ k → (side.form ≡ right) × (side.leaf ≡ k - count))

-- none where leaf k is one of so many, and else how many k is past them
abbrev pub IsPast : ℕ → ℕ → Option ℕ → Type 0
IsPast count k None = k < count
IsPast count k (Some left) = count + left ≡ k

-- how large clauses that wait are
abbrev pub waiting_size : Nodes → List FormAt → ℕ
waiting_size bank fs = sum_by (λ (f : FormAt). form_size (form_tree bank f.0)) fs

-- a premise, as a bank shows it
abbrev pub needed_in : Nodes → Needed → Premise
needed_in bank (Bounded g) = Needs (form_tree bank g.0)
needed_in bank (Unbounded g) = NeedsFree (form_tree bank g.0)

-- the place of a premise's formula
abbrev pub needed_at : Needed → FormAt
needed_at (Bounded g) = g
needed_at (Unbounded g) = g

-- the formulas of premises are places of the bank
abbrev pub AreNeeded : Nodes → List Needed → Type 0
AreNeeded bank ps = All (λ (p : Needed). HasForm bank (needed_at p).0) ps

-- a leaf that is open, as a bank shows it
abbrev pub opened_in : Nodes → Opened → Leaf
opened_in bank o = record { premises = map (needed_in bank) o.premises.items; head = term_tree bank o.head.0 }

-- the leaf is the one that was opened, if there is one
pub record ShowsLeaf (bank : Nodes) (leaf : Option Leaf) (o : Opened) : Type 0 where
  pub is : leaf ≡ Some (opened_in bank o)
  pub head : HasTerm bank o.head.0
  pub premises : AreNeeded bank o.premises.items

abbrev pub IsOpened : Nodes → Option Leaf → Option Opened → Type 0
IsOpened bank leaf None = leaf ≡ None
IsOpened bank leaf (Some o) = ShowsLeaf bank leaf o

-- formulas at places
abbrev pub form_trees : Nodes → List FormAt → List Form
form_trees bank fs = map (λ (f : FormAt). form_tree bank f.0) fs

-- the clauses were dealt out among the parts of a node, and each goal has its sequent over so many unbounded clauses
pub record IsDealtOut (lines : List PartLine) (goals : List FormAt) (free : ℕ) (bounded : List Resource) (bank : Nodes) (gs : List Premise) (qs : List Sequent)
    : Type 0 where
  pub deal : parts_deal (blank lines) (bounded_in bank bounded) ≡ true
  pub shows : (all : List Resource) → map (sequent_in bank all) qs ≡ premises lines (free_in bank (take free all)) (bounded_in bank bounded) gs
  pub left : (modules : List ModuleTree) → AreHeld modules bank bounded → All (λ (f : FormAt). IsHeld modules bank GoalSide f.0) goals
      → AreLeft modules bank free qs

-- what comes of dealing: the sequents of goals that are those of premises which the parts fit, or reason 3
abbrev pub IsDealing : List PartLine → List FormAt → ℕ → List Resource → Nodes → List Premise → Step → Type 0
IsDealing lines goals free bounded bank gs (Refused r) = (r ≡ 3) × (parts_deal (blank lines) (bounded_in bank bounded) ≡ false)
IsDealing lines goals free bounded bank gs (Leaves qs) = IsDealtOut lines goals free bounded bank gs qs.items

abbrev pub IsDealt : List PartLine → List FormAt → ℕ → List Resource → Step → Type 0
IsDealt lines goals free bounded step =
    (bank : Nodes) (gs : List Premise) → form_trees bank goals ≡ map premise_goal gs → parts_fit (blank lines) gs ≡ true
    → IsDealing lines goals free bounded bank gs step
