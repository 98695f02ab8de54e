-- The leaves of a program's clauses, and how an index stores them.
use Rattle.std.specs.Prelude.{ℕ, suc, List, [], ◌∷◌, ◌++◌, All, map}
use Rattle.ll_bank.specs.Nodes.{Nodes, term_tree, form_tree, HasTerm, HasForm}
use Rattle.ll_agenda.specs.Frames.{Frames, items_at, HasTop}
use Rattle.ll_laws.specs.declared.Candidate.{Candidate}
use Rattle.ll_laws.specs.Module.{ClauseTree}
use Rattle.ll_index.specs.declared.leaves.Leaf.{Leaf}
use Rattle.ll_index.specs.declared.leaves.Premise.{Premise}
use Rattle.ll_index.specs.Standing.{StandingPremise, StandingLeaf, standing_leaves}

-- a leaf of a program: the label of its clause with its number, and how it stands there
pub record Listed : Type 0 where
  pub candidate : Candidate
  pub standing : StandingLeaf

-- leaves of the clause with this label, numbered from k on
abbrev pub numbered : ℕ → ℕ → List StandingLeaf → List Listed
numbered label k [] = []
numbered label k (l ∷ ls) = record { candidate = record { label = label; leaf = k }; standing = l } ∷ numbered label (suc k) ls

-- the leaves of clauses in order, with labels from n on
abbrev pub program_leaves : ℕ → List ClauseTree → List Listed
program_leaves n [] = []
program_leaves n (c ∷ cs) = numbered n 0 (standing_leaves c.form) ++ program_leaves (suc n) cs

-- a premise as it is shown in a bank
abbrev pub shown_premise : Nodes → Premise → StandingPremise
shown_premise nodes p = record { goal = form_tree nodes p.goal.0; kind = p.kind; quantifiers = p.quantifiers }

-- the premises of a leaf as they are shown in a bank
abbrev pub shown_premises : Nodes → List Premise → List StandingPremise
shown_premises nodes ps = map (shown_premise nodes) ps

-- a leaf as it is shown in a bank
abbrev pub shown_leaf : Nodes → Frames Premise → Leaf → StandingLeaf
shown_leaf nodes frames l = record {
  premises = shown_premises nodes (items_at frames l.premises);
  quantifiers = l.quantifiers;
  head =
      term_tree nodes l.head.0;
}

-- a leaf with its label and number, as it is shown in a bank
abbrev pub listed : Nodes → Frames Premise → Leaf → Listed
listed nodes frames l = record { candidate = l.candidate; standing = shown_leaf nodes frames l }

-- the places of a leaf are in the bank, and its premises in the lists
pub record IsStored (nodes : Nodes) (frames : Frames Premise) (l : Leaf) : Type 0 where
  pub head : HasTerm nodes l.head.0
  pub top : HasTop frames l.premises
  pub premises : All (λ p. HasForm nodes p.goal.0) (items_at frames l.premises)
