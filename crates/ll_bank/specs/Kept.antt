-- What a bank keeps true of its nodes.
use Rattle.std.specs.Prelude.{◌≡◌, ℕ, suc, max, List, [], ◌∷◌, ◌++◌, map, fold, take, slice_index}
use Rattle.ll_bank.specs.declared.At.{At}
use Rattle.ll_bank.specs.declared.BankSize.{BankSize}
use Rattle.ll_bank.specs.Term.{Term, term_depth}
use Rattle.ll_bank.specs.Form.{Form}
use Rattle.ll_bank.specs.Nodes.{Nodes, TermNode, FormulaNode, no_nodes, with_term, with_form, front, grow, build_term, build_form, term_tree, IsWellFounded}

-- the terms of a bank, each at its place
abbrev pub all_terms : Nodes → List Term
all_terms nodes = grow build_term [] nodes.terms

-- the formulas of a bank, each at its place
abbrev pub all_forms : Nodes → List Form
all_forms nodes = grow (build_form (term_tree nodes)) [] nodes.forms

-- nodes stand on lower ones, and each term's depth stands beside it
pub record IsKept (nodes : Nodes) (depths : List ℕ) : Type 0 where
  pub lower : IsWellFounded nodes
  pub beside : depths ≡ map term_depth (all_terms nodes)

-- one more than the depth of the deepest argument, or 0 without arguments
abbrev pub depth_over : List ℕ → List At → ℕ
depth_over depths args = fold (λ deepest a. max deepest (suc (slice_index depths a.0))) 0 args

-- nodes, with a number beside each term's: its depth
pub record DeepNodes : Type 0 where
  pub nodes : Nodes
  pub depths : List ℕ

-- none
abbrev pub no_deep : DeepNodes
no_deep = record { nodes = no_nodes; depths = [] }

-- a term behind the others, with its depth
abbrev pub deep_term : DeepNodes → TermNode → ℕ → DeepNodes
deep_term old n d = record { nodes = with_term old.nodes n; depths = old.depths ++ d ∷ [] }

-- a formula behind the others
abbrev pub deep_form : DeepNodes → FormulaNode → DeepNodes
deep_form old n = record { nodes = with_form old.nodes n; depths = old.depths }

-- the first nodes, as many as the size counts
abbrev pub deep_front : DeepNodes → BankSize → DeepNodes
deep_front old size = record { nodes = front old.nodes size; depths = take size.terms old.depths }
