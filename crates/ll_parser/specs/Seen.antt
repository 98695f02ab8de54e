-- What callers see of the nodes of raw trees.
use Rattle.std.specs.Prelude.{◌≡◌, ℕ, ◌<◌, List, map, All}
use Rattle.ll_lexer.specs.declared.Place.{Place}
use Rattle.ll_parser.specs.declared.RawAt.{RawAt}
use Rattle.ll_parser.specs.declared.RawNode.{RawNode}
use Rattle.ll_parser.specs.declared.RawNode.TheVariants as seen
use Rattle.ll_parser.specs.Raw.{raw_place}
use Rattle.ll_parser.specs.Nodes.{Node, TrueNode, EraseNode, AnyNode, BracesNode, ForallNode, ExistsNode, LoadNode, BinaryNode, HeadNode, IntNode, IsGoalNode}
use Rattle.ll_parser.specs.Nodes.{LessGoalNode, MostGoalNode, build_raw, raw_trees, raw_at}

-- places as numbers
abbrev pub places : List RawAt → List ℕ
places ats = map (λ a. a.0) ats

-- the node that is seen, where it stands at this place in the text
abbrev pub node_of : Place → RawNode → Node
node_of at seen.True = TrueNode at
node_of at seen.Erase = EraseNode at
node_of at (seen.Braces g) = BracesNode at g.0
node_of at (seen.Forall n g) = ForallNode at n g.0
node_of at (seen.Exists n g) = ExistsNode at n g.0
node_of at (seen.Load n args g) = LoadNode at n (places args.now) g.0
node_of at (seen.Binary o f g) = BinaryNode o at f.0 g.0
node_of at (seen.Head n args) = HeadNode n (places args.now)
node_of at seen.Any = AnyNode at
node_of at (seen.Int z) = IntNode at z
node_of at (seen.Is f g) = IsGoalNode at f.0 g.0
node_of at (seen.Less f g) = LessGoalNode at f.0 g.0
node_of at (seen.Most f g) = MostGoalNode at f.0 g.0

-- the parts of a node that is seen lie below a place
abbrev pub HasPartsBelow : ℕ → RawNode → Type 0
HasPartsBelow at seen.True = Unit {0}
HasPartsBelow at seen.Erase = Unit {0}
HasPartsBelow at (seen.Braces g) = g.0 < at
HasPartsBelow at (seen.Forall n g) = g.0 < at
HasPartsBelow at (seen.Exists n g) = g.0 < at
HasPartsBelow at (seen.Load n args g) = All (λ a. a.0 < at) args.now × (g.0 < at)
HasPartsBelow at (seen.Binary o f g) = (f.0 < at) × (g.0 < at)
HasPartsBelow at (seen.Head n args) = All (λ a. a.0 < at) args.now
HasPartsBelow at seen.Any = Unit {0}
HasPartsBelow at (seen.Int z) = Unit {0}
HasPartsBelow at (seen.Is f g) = (f.0 < at) × (g.0 < at)
HasPartsBelow at (seen.Less f g) = (f.0 < at) × (g.0 < at)
HasPartsBelow at (seen.Most f g) = (f.0 < at) × (g.0 < at)

-- What is seen at a place of the nodes is what its tree begins with, whatever the texts of the names are; and its parts lie at
-- lower places.
pub record IsRawNode (nodes : List Node) (at : ℕ) (seen : RawNode) : Type 0 where
  pub tree : (texts : List (List ℕ)) → raw_at texts nodes at ≡ build_raw texts (raw_trees texts nodes) (node_of (raw_place (raw_at texts nodes at)) seen)
  pub parts : HasPartsBelow at seen
