-- A text with a table of shared terms on its way, and what is known of its rows.
use Rattle.std.specs.Prelude.{◌≡◌, ◌≢◌, ◌&&◌, ℕ, ◌+◌, ◌-◌, ◌<◌, true, List, [], ◌∷◌, ◌++◌, length, map, take, Some, slice_get}
use Rattle.ll_bank.specs.declared.At.{At}
use Rattle.ll_bank.specs.Term.{Term}
use Rattle.ll_bank.specs.Nodes.{term_trees}
use Rattle.ll_laws.specs.Line.{DerivationLines}
use Rattle.ll_laws.specs.ShownLines.{line_of}
use Rattle.ll_laws.specs.declared.Rule.{Rule}
use Rattle.ll_prooftext.specs.declared.shared_reader.Sharing.{Sharing}
use Rattle.ll_prooftext.specs.declared.table.Table.{Table}
use Rattle.ll_prooftext.specs.Table.{table}
use Rattle.ll_prooftext.specs.Tables.{row_at}
use Rattle.ll_prooftext.specs.Reading.{children, is_none}
use Rattle.ll_prooftext.specs.SharedLines.{IsShareRow, IsLetOver, IsStepOver}

-- the terms of the rows
abbrev pub rows_of : Sharing → List Term
rows_of o = term_trees o.bank o.rows.items

-- the derivation as far as it was read
abbrev pub derivation_of : Sharing → DerivationLines
derivation_of o = record { asked = term_trees o.bank o.asked.items; nodes = map (line_of o.bank) o.nodes.items }

-- a line was added
pub data TakesOver (names : List (List ℕ)) (o : Sharing) (bytes : List ℕ) (new : List (List ℕ)) (p : Sharing) : Type 0 where
  share : (at : At) → (is_none o.asked.items && is_none o.nodes.items) ≡ true → IsShareRow (rows_of o) names o.bank bytes new p.bank at.0
      → p.rows.items ≡ o.rows.items ++ at ∷ [] → p.asked.items ≡ o.asked.items → p.nodes.items ≡ o.nodes.items → p.lacking ≡ o.lacking
      → TakesOver names o bytes new p
  variable : (at : At) → is_none o.nodes.items ≡ true → IsLetOver (rows_of o) names o.bank bytes new p.bank at.0 → p.rows.items ≡ o.rows.items
      → p.asked.items ≡ o.asked.items ++ at ∷ [] → p.nodes.items ≡ o.nodes.items → p.lacking ≡ o.lacking → TakesOver names o bytes new p
  node : (r : Rule) → IsStepOver (rows_of o) names o.bank bytes new p.bank r → p.rows.items ≡ o.rows.items → p.asked.items ≡ o.asked.items
      → p.nodes.items ≡ o.nodes.items ++ r ∷ [] → p.lacking ≡ o.lacking - 1 + children (line_of p.bank r) → TakesOver names o bytes new p

-- each row is that of the table at its number
abbrev pub AreInPlace : Table → List At → ℕ → Type 0
AreInPlace t rows n = (j : ℕ) (a : At) → j < n → slice_get rows j ≡ Some a → row_at t a.0 ≡ Some j

-- the first row that is not
pub record IsFirstOff (t : Table) (rows : List At) (k : ℕ) : Type 0 where
  pub at : At
  pub is : slice_get rows k ≡ Some at
  pub before : AreInPlace t rows k
  pub off : row_at t at.0 ≢ Some k

-- the rows are the first ones of the derivation's table
abbrev pub AreFirstRows : List Term → DerivationLines → Type 0
AreFirstRows rows d = rows ≡ take (length rows) (table d)
