-- Parts of programs whose names and places are there.
use Rattle.std.specs.Prelude.{ℕ, ◌<◌, List, [], length, All, slice_index_or}
use Rattle.ll_laws.specs.declared.Module.{Module}
use Rattle.ll_parser.specs.declared.Named.{Named}
use Rattle.ll_parser.specs.declared.RawClause.{RawClause}
use Rattle.ll_parser.specs.declared.RawModule.{RawModule}
use Rattle.ll_parser.specs.Nodes.{Node, identifier}
use Rattle.ll_polarity.specs.Faults.{Heading}
use Rattle.ll_polarity.specs.Pending.{IsReady}

-- the numbers are those of names
abbrev pub AreNumbers : List (List ℕ) → List Named → Type 0
AreNumbers texts names = All (λ n. n.name < length texts) names

-- the formulas of clauses are nodes, in which each name has a text
abbrev pub AreClausesReady : List (List ℕ) → List Node → List RawClause → Type 0
AreClausesReady texts nodes clauses = All (λ c. IsReady texts nodes c.form) clauses

-- so it is in a module
pub record IsModuleReady (texts : List (List ℕ)) (nodes : List Node) (m : RawModule) : Type 0 where
  pub name : m.name.name < length texts
  pub params : AreNumbers texts m.params.items
  pub locals : AreNumbers texts m.locals.items
  pub clauses : AreClausesReady texts nodes m.clauses.items

-- a module as loads see it
abbrev pub raw_heading : List (List ℕ) → RawModule → Heading
raw_heading texts m = record { name = (identifier texts m.name).text; params = length m.params.items }

-- a module of a problem, in the same way
abbrev pub known_heading : List (List ℕ) → Module → Heading
known_heading texts m = record { name = slice_index_or texts m.name []; params = m.params }
