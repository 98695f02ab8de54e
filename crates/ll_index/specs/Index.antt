-- Of which clauses an index is, and what its cursors have left.
use Rattle.std.specs.Prelude.{◌≡◌, ℕ, Bool, true, false, not, List, All, map, length, slice_get, Some, if◌then◌else◌}
use Rattle.ll_bank.specs.Nodes.{Nodes}
use Rattle.ll_bank.specs.declared.Head.TheVariants.{Name}
use Rattle.ll_bank.specs.Term.{Term, head_of, arity}
use Rattle.ll_agenda.specs.Frames.{Frames}
use Rattle.ll_laws.specs.Module.{ClauseTree}
use Rattle.ll_laws.specs.Leaf.{ways, leaf}
use Rattle.ll_index.specs.declared.laws.First.{First}
use Rattle.ll_index.specs.declared.laws.First.TheVariants.{Open}
use Rattle.ll_index.specs.contracts.laws.FirstPartialEq.TheImpl.{eq-value as first_eq}
use Rattle.ll_index.specs.declared.key.Key.TheVariants.{Named}
use Rattle.ll_index.specs.declared.leaves.Leaf.{Leaf}
use Rattle.ll_index.specs.declared.leaves.Premise.{Premise}
use Rattle.ll_index.specs.declared.chains.Chains.{Chains}
use Rattle.ll_index.specs.declared.index.Index.{Index}
use Rattle.ll_index.specs.declared.index.Cursor.{Cursor}
use Rattle.ll_index.specs.Standing.{opened_leaf}
use Rattle.ll_index.specs.First.{program_matches}
use Rattle.ll_index.specs.Listed.{listed, program_leaves, shown_leaf, IsStored}
use Rattle.ll_index.specs.Chained.{linked_from}
use Rattle.ll_index.specs.Keys.{IsChained, first_place, leaf_keys}

-- the lists of premises of an index
abbrev pub premises_of : Index → Frames Premise
premises_of x = x.premises

-- its chains by predicate and sign, or by predicate
abbrev pub chains_of : Index → Bool → Chains
chains_of x by_sign = if by_sign then x.signs else x.predicates

-- The index is of the clauses of this program, with its places in this bank: its leaves are the program's, in order, and each leads to the
-- next one of its key.
pub record IsIndex (nodes : Nodes) (program : List ClauseTree) (x : Index) : Type 0 where
  pub leaves : map (listed nodes x.premises) x.leaves.items ≡ program_leaves 0 program
  pub stored : All (IsStored nodes x.premises) x.leaves.items
  pub predicates : IsChained (leaf_keys nodes false x.leaves.items) x.predicates
  pub signs : IsChained (leaf_keys nodes true x.leaves.items) x.signs
  pub keys : x.keys.items ≡ leaf_keys nodes true x.leaves.items

-- the index is of the clauses of this program
abbrev pub HasIndex : List ClauseTree → Index → Type 0
HasIndex program x = (nodes : Nodes) × IsIndex nodes program x

-- the leaves that a cursor has left, in order
abbrev pub left : Index → Cursor → List Leaf
left x c = linked_from 0 x.leaves.items (chains_of x c.by_sign).next.items c.first c.second

-- A cursor is at the first leaf of an atom's predicate and sign, and at the first one whose sign clashes with none: by sign where one is
-- asked for. Where there is none it is at the end.
pub record IsFoundAt (x : Index) (name arguments : ℕ) (first : First) (end : ℕ) (c : Cursor) : Type 0 where
  pub by_sign : c.by_sign ≡ not ((first_eq).it first Open)
  pub own : c.first ≡ first_place (chains_of x c.by_sign) (Named name arguments first) end
  pub second : c.second ≡ first_place (chains_of x c.by_sign) (Named name arguments Open) end

-- A leaf of a program's clause: its places are in the bank, so many quantifiers are on the way to it, and opened with a term for each it is
-- the leaf that the clause has.
pub record IsProgramLeaf (nodes : Nodes) (program : List ClauseTree) (frames : Frames Premise) (l : Leaf) : Type 0 where
  pub stored : IsStored nodes frames l
  pub clause : ClauseTree
  pub at : slice_get program l.candidate.label ≡ Some clause
  pub way : slice_get (ways clause.form) l.candidate.leaf ≡ Some l.quantifiers
  pub opened : (ts : List Term) → length ts ≡ l.quantifiers → leaf clause.form l.candidate.leaf ts ≡ Some (opened_leaf ts (shown_leaf nodes frames l))

-- a leaf of an index is one of the program's
abbrev pub IsLeafOf : Index → Leaf → Type 0
IsLeafOf x l = (nodes : Nodes) (program : List ClauseTree) → IsIndex nodes program x → IsProgramLeaf nodes program (premises_of x) l

-- A cursor has left all leaves that match an atom with this name in front and so many arguments, where the outermost sign of the first one
-- is this one, and no others: they are the candidates that the search has for the atom among the program's clauses, in their order, less
-- those whose sign clashes.
abbrev pub ListsMatches : Index → ℕ → ℕ → First → Cursor → Type 0
ListsMatches x name arguments first c =
    (nodes : Nodes) (program : List ClauseTree) (atom : Term) → IsIndex nodes program x → head_of atom ≡ Some (Name name) → arity atom ≡ arguments
    → map (λ l. l.candidate) (left x c) ≡ program_matches first atom program
