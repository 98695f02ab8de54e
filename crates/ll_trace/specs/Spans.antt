-- Where the trees of a list of nodes end, and which of them can erase labels.
use Rattle.std.specs.Prelude.{◌≡◌, ℕ, ◌+◌, false, List, [], ◌∷◌, map, drop, slice_index_or, Some}
use Rattle.ll_bank.specs.Nodes.{Nodes}
use Rattle.ll_laws.specs.declared.Part.{Part}
use Rattle.ll_laws.specs.declared.Rule.{Rule}
use Rattle.ll_laws.specs.Dealing.{erases, erases_part}
use Rattle.ll_laws.specs.Line.{trees_of, put, Cuts, cut_parts}
use Rattle.ll_laws.specs.Shows.{Tree, Parts, nodes, part_nodes}
use Rattle.ll_laws.specs.ShownLines.{line_of, part_line}
use Rattle.ll_trace.specs.declared.spans.Span.{Span}

-- the span that is kept for a place, or an empty one
abbrev pub span_or_none : List Span → ℕ → Span
span_or_none spans at = slice_index_or spans at (record { end = at; erases = false })

-- trees that stand one after the other from a place on have these spans
abbrev pub SpansFit : List Span → ℕ → List Tree → Type 0
SpansFit spans at [] = Unit {0}
SpansFit spans at (x ∷ xs) = (span_or_none spans at ≡ record { end = at + nodes x; erases = erases x }) × SpansFit spans (at + nodes x) xs

-- each tree that the nodes from some place on make has its span
abbrev pub AreSpans : List Rule → List Span → Type 0
AreSpans rules spans = (bank : Nodes) (at : ℕ) (ts : List Tree) → trees_of (drop at (map (line_of bank) rules)) ≡ Some ts → SpansFit spans at ts

-- the span of a tree whose children begin at a place, and those of the trees after it
pub record IsSpan (spans : List Span) (first : ℕ) (span : Span) (x : Tree) (us : List Tree) : Type 0 where
  pub end : span.end + 1 ≡ first + nodes x
  pub erases : span.erases ≡ erases x
  pub rest : SpansFit spans span.end us

-- the same of the first one of these trees
abbrev pub HasSpan : List Span → ℕ → Span → List Tree → Type 0
HasSpan spans first span [] = ⊥
HasSpan spans first span (x ∷ us) = IsSpan spans first span x us

-- the span of the tree that a rule makes of trees that begin at a place
abbrev pub GivesSpan : Rule → ℕ → List Span → Span → Type 0
GivesSpan rule first spans span = (bank : Nodes) (ts vs : List Tree) → put (line_of bank rule) ts ≡ Some vs
    → SpansFit spans first ts → HasSpan spans first span vs

-- the span of the trees of all premises, and those of the trees after them
pub record ArePartSpan (spans : List Span) (first : ℕ) (span : Span) (ps : Parts) (us : List Tree) : Type 0 where
  pub end : span.end ≡ first + part_nodes ps
  pub erases : span.erases ≡ erases_part ps
  pub rest : SpansFit spans span.end us

-- the span of the trees that the premises take of those that begin at a place
abbrev pub GivesPartSpan : List Part → ℕ → List Span → Span → Type 0
GivesPartSpan parts first spans span = (ts us : List Tree) (ps : Parts) → cut_parts (map part_line parts) ts ≡ Cuts ps us → SpansFit spans first ts
    → ArePartSpan spans first span ps us
