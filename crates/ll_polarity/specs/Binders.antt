-- How the binders round a place are kept.
use Rattle.std.specs.Prelude.{◌≡◌, ℕ, List, [], ◌∷◌, length, map, Option, Some, None, slice_set, slice_index_or}
use Rattle.std.specs.List.{IsDistinct}
use Rattle.std.specs.Str.{bytes_eq}
use Rattle.ll_polarity.specs.declared.scope.Innermost.{Innermost}
use Rattle.ll_polarity.specs.declared.scope.Row.{Row}
use Rattle.ll_polarity.specs.Scope.{Binder, Scope}

-- the binder of a row
abbrev pub row_binder : List (List ℕ) → Row → Binder
row_binder texts r = record { text = slice_index_or texts r.name []; local = r.local }

-- the scope of rows, innermost first
abbrev pub scope_of : List (List ℕ) → List Row → Scope
scope_of texts rows = map (row_binder texts) rows

-- The table has at each name its innermost binder among the rows, innermost first, and each row the binder that it hides: with
-- that in its place again, the table is that of the rows further out.
abbrev pub AreInnermost : List (Option Innermost) → List Row → Type 0
AreInnermost table [] = (name : ℕ) → slice_index_or table name None ≡ None
AreInnermost table (r ∷ rs) =
    (slice_index_or table r.name None ≡ Some (record { depth = length (r ∷ rs); local = r.local })) × AreInnermost (slice_set table r.name r.hidden) rs

-- the table is that of the rows, and has a place for each of the names, of which no two are equal
pub record AreKept (texts : List (List ℕ)) (table : List (Option Innermost)) (rows : List Row) : Type 0 where
  pub distinct : IsDistinct bytes_eq texts
  pub sized : length table ≡ length texts
  pub innermost : AreInnermost table rows
