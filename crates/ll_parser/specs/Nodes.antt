-- How lists of nodes show raw trees, and how a program's parts show its tree.
use Rattle.std.specs.Prelude.{ℕ, ℤ, List, [], ◌∷◌, map, slice_index_or}
use Rattle.ll_bank.specs.Nodes.{grow}
use Rattle.ll_lexer.specs.declared.Place.{Place}
use Rattle.ll_parser.specs.declared.Op.{Op}
use Rattle.ll_parser.specs.declared.Named.{Named}
use Rattle.ll_parser.specs.declared.RawClause.{RawClause}
use Rattle.ll_parser.specs.declared.RawModule.{RawModule}
use Rattle.ll_parser.specs.Tokens.{Identifier}
use Rattle.ll_parser.specs.Raw.{Raw, truth, erasure, braces, universal, existential, load, binary, head, anything, int, is_goal, less_goal, most_goal, RawList}
use Rattle.ll_parser.specs.Raw.{none, more, ClauseTree, ModuleTree, ProgramTree}

-- a node of a raw tree; its parts are the places of other nodes
pub data Node : Type 0 where
  TrueNode EraseNode AnyNode : Place → Node
  BracesNode : Place → ℕ → Node
  ForallNode ExistsNode : Place → Named → ℕ → Node
  LoadNode : Place → Named → List ℕ → ℕ → Node
  BinaryNode : Op → Place → ℕ → ℕ → Node
  HeadNode : Named → List ℕ → Node
  IntNode : Place → ℤ → Node
  IsGoalNode LessGoalNode MostGoalNode : Place → ℕ → ℕ → Node

-- the text that has a name's number among the texts, and the name's place
abbrev pub identifier : List (List ℕ) → Named → Identifier
identifier texts n = record { text = slice_index_or texts n.name []; at = n.at }

-- the tree at a place of a list, or some tree past its end
abbrev pub raw_in : List Raw → ℕ → Raw
raw_in trees at = slice_index_or trees at (truth (record { line = 1; column = 1 }))

-- the trees at places of a list
abbrev pub raws_in : List Raw → List ℕ → RawList
raws_in trees [] = none
raws_in trees (at ∷ ats) = more (raw_in trees at) (raws_in trees ats)

-- the tree that a node builds over a list of trees
abbrev pub build_raw : List (List ℕ) → List Raw → Node → Raw
build_raw texts trees (TrueNode at) = truth at
build_raw texts trees (EraseNode at) = erasure at
build_raw texts trees (AnyNode at) = anything at
build_raw texts trees (BracesNode at g) = braces at (raw_in trees g)
build_raw texts trees (ForallNode at n g) = universal at (identifier texts n) (raw_in trees g)
build_raw texts trees (ExistsNode at n g) = existential at (identifier texts n) (raw_in trees g)
build_raw texts trees (LoadNode at n args g) = load at (identifier texts n) (raws_in trees args) (raw_in trees g)
build_raw texts trees (BinaryNode o at f g) = binary o at (raw_in trees f) (raw_in trees g)
build_raw texts trees (HeadNode n args) = head (identifier texts n) (raws_in trees args)
build_raw texts trees (IntNode at z) = int at z
build_raw texts trees (IsGoalNode at f g) = is_goal at (raw_in trees f) (raw_in trees g)
build_raw texts trees (LessGoalNode at f g) = less_goal at (raw_in trees f) (raw_in trees g)
build_raw texts trees (MostGoalNode at f g) = most_goal at (raw_in trees f) (raw_in trees g)

-- the trees that nodes show in turn, each over the trees of the nodes before it
unfoldable pub raw_trees : List (List ℕ) → List Node → List Raw
raw_trees texts nodes = grow (build_raw texts) [] nodes

-- the raw tree that a place of the nodes shows
abbrev pub raw_at : List (List ℕ) → List Node → ℕ → Raw
raw_at texts nodes at = raw_in (raw_trees texts nodes) at

-- the clause that is shown
abbrev pub shown_clause : List (List ℕ) → List Node → RawClause → ClauseTree
shown_clause texts nodes c = record { linear = c.linear; form = raw_at texts nodes c.form.0 }

-- the module that is shown
abbrev pub shown_module : List (List ℕ) → List Node → RawModule → ModuleTree
shown_module texts nodes m = record {
  name = identifier texts m.name;
  params = map (identifier texts) m.params.items;
  locals = map (identifier texts) m.locals.items;
  clauses = map (shown_clause texts nodes) m.clauses.items;
}

-- the program that its texts, nodes, clauses and modules show
abbrev pub shown_program : List (List ℕ) → List Node → List RawClause → List RawModule → ProgramTree
shown_program texts nodes clauses modules = record { clauses = map (shown_clause texts nodes) clauses; modules = map (shown_module texts nodes) modules }
