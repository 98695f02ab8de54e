-- How vectors hold the nodes of raw trees.
use Rattle.std.specs.Prelude.{ℕ, ◌≡◌, ◌<◌, ◌≤◌, List, ◌++◌, length, map, All, slice_range, slice_index_or, FitsSigned}
use Rattle.std.specs.Int.{w64}
use Rattle.ll_lexer.specs.declared.Place.{Place}
use Rattle.ll_parser.specs.declared.RawAt.{RawAt}
use Rattle.ll_parser.specs.declared.raws.Span.{Span}
use Rattle.ll_parser.specs.declared.raws.Row.{Row}
use Rattle.ll_parser.specs.declared.raws.Row.TheVariants as row
use Rattle.ll_parser.specs.Nodes.{Node, TrueNode, EraseNode, AnyNode, BracesNode, ForallNode, ExistsNode, LoadNode, BinaryNode, HeadNode, IntNode, IsGoalNode}
use Rattle.ll_parser.specs.Nodes.{LessGoalNode, MostGoalNode}
use Rattle.ll_parser.specs.Seen.{places}

-- the arguments of a span
abbrev pub args_of : List RawAt → Span → List RawAt
args_of args span = slice_range args span.from span.to

-- the node of a row
abbrev pub row_node : List RawAt → Row → Node
row_node args (row.True at) = TrueNode at
row_node args (row.Erase at) = EraseNode at
row_node args (row.Braces at g) = BracesNode at g.0
row_node args (row.Forall at n g) = ForallNode at n g.0
row_node args (row.Exists at n g) = ExistsNode at n g.0
row_node args (row.Load at n span g) = LoadNode at n (places (args_of args span)) g.0
row_node args (row.Binary at o f g) = BinaryNode o at f.0 g.0
row_node args (row.Head n span) = HeadNode n (places (args_of args span))
row_node args (row.Any at) = AnyNode at
row_node args (row.Int at z) = IntNode at z
row_node args (row.Is at f g) = IsGoalNode at f.0 g.0
row_node args (row.Less at f g) = LessGoalNode at f.0 g.0
row_node args (row.Most at f g) = MostGoalNode at f.0 g.0

-- the place in the text of a node
abbrev pub node_place : Node → Place
node_place (TrueNode at) = at
node_place (EraseNode at) = at
node_place (AnyNode at) = at
node_place (BracesNode at g) = at
node_place (ForallNode at n g) = at
node_place (ExistsNode at n g) = at
node_place (LoadNode at n args g) = at
node_place (BinaryNode o at f g) = at
node_place (HeadNode n args) = n.at
node_place (IntNode at z) = at
node_place (IsGoalNode at f g) = at
node_place (LessGoalNode at f g) = at
node_place (MostGoalNode at f g) = at

-- a span lies within the arguments
abbrev pub IsWithin : List RawAt → Span → Type 0
IsWithin args span = (span.from ≤ span.to) × (span.to ≤ length args)

-- the arguments of a row lie within the arguments, and a whole number has 64 bits
abbrev pub IsRowKept : List RawAt → Row → Type 0
IsRowKept args (row.Load at n span g) = IsWithin args span
IsRowKept args (row.Head n span) = IsWithin args span
IsRowKept args (row.Int at z) = FitsSigned w64 z
IsRowKept args _ = Unit {0}

-- the parts of a node lie below a place
abbrev pub IsBelow : ℕ → Node → Type 0
IsBelow at (TrueNode p) = Unit {0}
IsBelow at (EraseNode p) = Unit {0}
IsBelow at (AnyNode p) = Unit {0}
IsBelow at (BracesNode p g) = g < at
IsBelow at (ForallNode p n g) = g < at
IsBelow at (ExistsNode p n g) = g < at
IsBelow at (LoadNode p n args g) = All (λ a. a < at) args × (g < at)
IsBelow at (BinaryNode o p f g) = (f < at) × (g < at)
IsBelow at (HeadNode n args) = All (λ a. a < at) args
IsBelow at (IntNode p z) = Unit {0}
IsBelow at (IsGoalNode p f g) = (f < at) × (g < at)
IsBelow at (LessGoalNode p f g) = (f < at) × (g < at)
IsBelow at (MostGoalNode p f g) = (f < at) × (g < at)

-- each node has its parts at lower places
abbrev pub IsWellFounded : List Node → Type 0
IsWellFounded nodes = (at : ℕ) (d : Node) → at < length nodes → IsBelow at (slice_index_or nodes at d)

-- the vectors hold nodes
pub record IsKept (args : List RawAt) (rows : List Row) : Type 0 where
  pub each : All (IsRowKept args) rows
  pub lower : IsWellFounded (map (row_node args) rows)

-- the later arguments are the earlier ones and more behind them
pub record AddsTo (old new : List RawAt) : Type 0 where
  pub more : List RawAt
  pub is : new ≡ old ++ more
