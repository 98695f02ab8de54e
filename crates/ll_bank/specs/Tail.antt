-- The nodes of a bank between two of its sizes, and a bank that takes them over.
use Rattle.std.specs.Prelude.{◌≡◌, ℕ, ◌+◌, ◌<◌, ◌++◌, List, length, take, drop, slice_index_or}
use Rattle.ll_bank.specs.declared.BankSize.{BankSize}
use Rattle.ll_bank.specs.Nodes.{Nodes, TermNode, FormulaNode, build_term, build_form, term_tree, form_tree, HasTerm, HasForm, IsTermBelow, IsFormBelow}
use Rattle.ll_bank.specs.Nodes.{Extends, size_of, HasSize}
use Rattle.ll_bank.specs.Kept.{all_terms, all_forms}

-- two sizes, and nodes whose parts are places of a bank
pub record Tail : Type 0 where
  pub from : BankSize
  pub to : BankSize
  pub nodes : Nodes

-- the size after more nodes
abbrev pub size_after : BankSize → Nodes → BankSize
size_after from nodes = record {
  terms = from.terms + (size_of nodes).terms;
  forms = from.forms + (size_of nodes).forms;
  arguments = from.arguments + (size_of nodes).arguments;
  load_arguments = from.load_arguments + (size_of nodes).load_arguments;
}

-- put behind so many nodes, these lead from the one size to the other and have their parts at lower places
pub record IsBehind (tail : Tail) : Type 0 where
  pub sizes : size_after tail.from tail.nodes ≡ tail.to
  pub terms : (i : ℕ) (d : TermNode) → i < length tail.nodes.terms → IsTermBelow (tail.from.terms + i) (slice_index_or tail.nodes.terms i d)
  pub forms : (i : ℕ) (d : FormulaNode) → i < length tail.nodes.forms → IsFormBelow tail.to.terms (tail.from.forms + i) (slice_index_or tail.nodes.forms i d)

-- the tail has the nodes of the bank between the two sizes, both of which the bank has
pub record IsTailOf (bank : Nodes) (tail : Tail) : Type 0 where
  pub from : HasSize bank tail.from
  pub to : HasSize bank tail.to
  pub terms : tail.nodes.terms ≡ drop tail.from.terms (take tail.to.terms bank.terms)
  pub forms : tail.nodes.forms ≡ drop tail.from.forms (take tail.to.forms bank.forms)

-- the bank has taken over more nodes
abbrev pub with_nodes : Nodes → Nodes → Nodes
with_nodes nodes more = record { terms = nodes.terms ++ more.terms; forms = nodes.forms ++ more.forms }

-- each place shows the tree that its node builds over the trees of the bank
pub record IsBuilt (nodes : Nodes) : Type 0 where
  pub terms : (at : ℕ) (d : TermNode) → HasTerm nodes at → term_tree nodes at ≡ build_term (all_terms nodes) (slice_index_or nodes.terms at d)
  pub forms : (at : ℕ) (d : FormulaNode) → HasForm nodes at → form_tree nodes at
      ≡ build_form (term_tree nodes) (all_forms nodes) (slice_index_or nodes.forms at d)

-- two banks show the same trees at the places of a size
pub record SameTrees (size : BankSize) (bank other : Nodes) : Type 0 where
  pub terms : (at : ℕ) → at < size.terms → term_tree other at ≡ term_tree bank at
  pub forms : (at : ℕ) → at < size.forms → form_tree other at ≡ form_tree bank at

-- more terms, behind the others
abbrev pub with_terms : Nodes → List TermNode → Nodes
with_terms nodes more = record { terms = nodes.terms ++ more; forms = nodes.forms }

-- more formulas, behind the others
abbrev pub with_forms : Nodes → List FormulaNode → Nodes
with_forms nodes more = record { terms = nodes.terms; forms = nodes.forms ++ more }

-- the later bank extends the earlier one and has these nodes
pub record Adds (old new nodes : Nodes) : Type 0 where
  pub keeps : Extends old new
  pub is : new ≡ nodes
