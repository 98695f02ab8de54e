-- The table of shared terms of a derivation: each different term with arguments that stands in a field or within one, once, in the order in
-- which they are completed when the fields are gone through in text order.
use Rattle.std.specs.Prelude.{ℕ, Bool, List, [], ◌∷◌, ◌++◌, fold, if◌then◌else◌}
use Rattle.std.specs.List.{list_any, flat_map, position_or_len}
use Rattle.ll_bank.specs.Term.{Term, Ap}
use Rattle.ll_laws.specs.Fault.{term_eq}
use Rattle.ll_laws.specs.Line.{Line, OneLine, EraseLine, TensorLine, WithLine, LeftLine, RightLine, BangLine, LolliLine, ImpLine, ForallLine, ExistsLine}
use Rattle.ll_laws.specs.Line.{UseLine, NumLine, ClauseLine, DerivationLines}

-- ---- terms with arguments

abbrev mutual
  -- the terms with arguments in a term, each behind those in its arguments, which go from left to right
  pub completed : Term → List Term
  completed (Ap f a) = (completed_arguments f ++ completed a) ++ Ap f a ∷ []
  completed _ = []

  -- those in its arguments alone: a head with only its first arguments is no term of its own
  pub completed_arguments : Term → List Term
  completed_arguments (Ap f a) = completed_arguments f ++ completed a
  completed_arguments _ = []

-- the terms that stand in the fields of a node, in their order
abbrev pub line_terms : Line → List Term
line_terms (ExistsLine t) = t ∷ []
line_terms (ClauseLine n k ts ps) = ts
line_terms OneLine = []
line_terms EraseLine = []
line_terms (TensorLine s t) = []
line_terms WithLine = []
line_terms LeftLine = []
line_terms RightLine = []
line_terms BangLine = []
line_terms (LolliLine n) = []
line_terms (ImpLine n) = []
line_terms (ForallLine c) = []
line_terms UseLine = []
line_terms NumLine = []

-- all terms that stand in fields, in text order
abbrev pub field_terms : DerivationLines → List Term
field_terms d = d.asked ++ flat_map line_terms d.nodes

-- ---- the table

-- the term is one of these
abbrev pub is_among : List Term → Term → Bool
is_among rows t = list_any (term_eq t) rows

-- a term behind others, unless it is among them
abbrev pub with_row : List Term → Term → List Term
with_row rows t = if is_among rows t then rows else rows ++ t ∷ []

-- each of the terms once, where it comes first
abbrev pub rows_in : List Term → List Term
rows_in ts = fold with_row [] ts

-- the table
unfoldable pub table : DerivationLines → List Term
table d = rows_in (flat_map completed (field_terms d))

-- the number of the first row with the term, or how many rows there are if none has it
abbrev pub row_of : List Term → Term → ℕ
row_of rows t = position_or_len (term_eq t) rows
