-- The parts of a term or a formula that is opened: their places, with the number of quantifiers on the way to each, and their sizes.
use Rattle.std.specs.Prelude.{◌≡◌, ◌<◌, ℕ, ◌+◌, List, [], ◌∷◌, map, All, Option, Some, sum_by, slice_index_or}
use Rattle.ll_bank.specs.Term.{Term, Ap}
use Rattle.ll_bank.specs.Form.{Form, With, Tensor, Plus, Bang, Lolli, Imp, Forall, Exists, Use}
use Rattle.ll_bank.specs.Nodes.{Nodes, TermNode, FormulaNode, TopNode, WithNode, TensorNode, PlusNode, BangNode, LolliNode, ImpNode, ForallNode, ExistsNode}
use Rattle.ll_bank.specs.Nodes.{UseNode, VarNode, AppNode, term_tree, form_tree}

-- the places of a term's arguments
abbrev pub arguments_of : TermNode → List ℕ
arguments_of (AppNode h args) = args
arguments_of _ = []

-- the node at the place of a term
abbrev pub term_node_at : Nodes → ℕ → TermNode
term_node_at nodes at = slice_index_or nodes.terms at (VarNode 0)

-- the node at the place of a formula
abbrev pub form_node_at : Nodes → ℕ → FormulaNode
form_node_at nodes at = slice_index_or nodes.forms at TopNode

-- a part of the body: its place, and the number of quantifiers that were passed on the way to it
abbrev pub Spot : Type 0
Spot = ℕ × ℕ

-- the arguments of a term, as parts at its level
abbrev pub term_parts : TermNode → ℕ → List Spot
term_parts node n = map (λ a. (a, n)) (arguments_of node)

-- the formulas under a formula; those under a quantifier are one level further in
abbrev pub form_parts : FormulaNode → ℕ → List Spot
form_parts (WithNode f g) n = (f, n) ∷ (g, n) ∷ []
form_parts (TensorNode f g) n = (f, n) ∷ (g, n) ∷ []
form_parts (PlusNode f g) n = (f, n) ∷ (g, n) ∷ []
form_parts (BangNode f) n = (f, n) ∷ []
form_parts (LolliNode f g) n = (f, n) ∷ (g, n) ∷ []
form_parts (ImpNode f g) n = (f, n) ∷ (g, n) ∷ []
form_parts (ForallNode f) n = (f, n + 1) ∷ []
form_parts (ExistsNode f) n = (f, n + 1) ∷ []
form_parts (UseNode m args f) n = (f, n) ∷ []
form_parts _ n = []

-- each image that is known is one
abbrev pub AreImages : {X : Type 0} → (Spot → X → Type 0) → (Spot → Option X) → Type 0
AreImages {X} is_image lookup = (k : Spot) (image : X) → lookup k ≡ Some image → is_image k image

-- the size of a term as a tree
abbrev pub term_size : Term → ℕ
term_size (Ap f a) = term_size f + term_size a
term_size _ = 2

-- the size of a formula as a tree, its terms left out
abbrev pub form_size : Form → ℕ
form_size (With f g) = 2 + (form_size f + form_size g)
form_size (Tensor f g) = 2 + (form_size f + form_size g)
form_size (Plus f g) = 2 + (form_size f + form_size g)
form_size (Bang f) = 2 + form_size f
form_size (Lolli f g) = 2 + (form_size f + form_size g)
form_size (Imp f g) = 2 + (form_size f + form_size g)
form_size (Forall f) = 2 + form_size f
form_size (Exists f) = 2 + form_size f
form_size (Use m ts f) = 2 + form_size f
form_size _ = 2

-- the parts of a part lie below it, are smaller together, and are good where it is good
pub record ArePartsOf {G : Type 0} (size : Spot → ℕ) (good : G → Spot → Type 0) (k : Spot) (parts : List Spot) : Type 0 where
  pub lower : All (λ (p : Spot). p.0 < k.0) parts
  pub smaller : 1 + sum_by size parts < size k
  pub still_good : (g : G) → good g k → All (good g) parts

-- the size of the term at a part's place
abbrev pub term_size_at : Nodes → Spot → ℕ
term_size_at bank k = term_size (term_tree bank k.0)

-- the size of the formula at a part's place
abbrev pub form_size_at : Nodes → Spot → ℕ
form_size_at bank k = form_size (form_tree bank k.0)

-- the parts of a term in a bank
abbrev pub term_parts_at : Nodes → Spot → List Spot
term_parts_at bank k = term_parts (term_node_at bank k.0) k.1

-- the parts of a formula in a bank
abbrev pub form_parts_at : Nodes → Spot → List Spot
form_parts_at bank k = form_parts (form_node_at bank k.0) k.1
