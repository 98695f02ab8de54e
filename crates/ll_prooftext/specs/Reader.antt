-- A text on its way: the lines that are still to come, and what was read of them.
use Rattle.std.specs.Prelude.{◌≡◌, ℕ, ◌+◌, ◌-◌, ◌<◌, ◌≤◌, List, [], ◌∷◌, ◌++◌, length, map, fold, ◌⊎◌}
use Rattle.ll_bank.specs.declared.At.{At}
use Rattle.ll_bank.specs.Nodes.{term_trees}
use Rattle.ll_laws.specs.Line.{DerivationLines}
use Rattle.ll_laws.specs.ShownLines.{line_of}
use Rattle.ll_laws.specs.declared.Rule.{Rule}
use Rattle.ll_lexer.specs.declared.Place.{Place}
use Rattle.ll_lexer.specs.declared.TextFault.{TextFault}
use Rattle.ll_lexer.specs.declared.TextFault.TheVariants as fault
use Rattle.ll_lexer.specs.Reading.{after, place_at}
use Rattle.ll_prooftext.specs.declared.rows.Refusal.{Refusal}
use Rattle.ll_prooftext.specs.declared.rows.Refusal.TheVariants as refusal
use Rattle.ll_prooftext.specs.declared.reader.TextLine.{TextLine}
use Rattle.ll_prooftext.specs.declared.reader.Lines.{Lines}
use Rattle.ll_prooftext.specs.declared.reader.Reading.{Reading}
use Rattle.ll_prooftext.specs.Reading.{text_lines, children, is_none}
use Rattle.ll_prooftext.specs.RowWords.{IsNodeRow, IsLetRow, bad_column}

-- ---- faults

abbrev pub fault_at : ℕ → ℕ → ℕ → TextFault
fault_at line column kind = fault.Text (record { at = record { line = line; column = column }; kind = kind })

-- the fault of a line with this number and so many bytes
abbrev pub refused_fault : ℕ → ℕ → Refusal → TextFault
refused_fault number all refusal.Word = fault_at number 1 13
refused_fault number all (refusal.Field left) = fault_at number (bad_column all left) 14
refused_fault number all refusal.OutOfMemory = fault.OutOfMemory

-- no more bytes are left than these
abbrev pub IsWithin : ℕ → Refusal → Type 0
IsWithin all (refusal.Field left) = left ≤ all
IsWithin all _ = Unit {0}

-- ---- lines

-- the place where bytes end that begin at this one
abbrev pub end_from : Place → List ℕ → Place
end_from at bytes = fold after at bytes

-- the next line, if there is one, has this number, and begins at this place
abbrev pub IsNext : ℕ → List ℕ → Place → Type 0
IsNext n rest at = (rest ≡ []) ⊎ (at ≡ record { line = n; column = 1 })

-- a line was taken
pub record TakesLine (o : Lines) (line : TextLine) (p : Lines) : Type 0 where
  pub lines : text_lines o.rest.now ≡ line.bytes.now ∷ text_lines p.rest.now
  pub end : end_from p.at p.rest.now ≡ end_from o.at o.rest.now
  pub next : IsNext (o.at.line + 1) p.rest.now p.at
  pub number : line.number ≡ o.at.line
  pub room : length line.bytes.now + length p.rest.now ≤ length o.rest.now
  pub shorter : length p.rest.now < length o.rest.now
  pub low : p.at.line + length p.rest.now ≤ o.at.line + length o.rest.now

-- there was no line
pub record HasNoLine (o p : Lines) : Type 0 where
  pub rest : o.rest.now ≡ []
  pub at : p.at ≡ o.at

-- the lines behind the first one, which is this one
pub record IsBehindVersion (first text : List ℕ) (p : Lines) : Type 0 where
  pub lines : text_lines text ≡ first ∷ text_lines p.rest.now
  pub end : end_from p.at p.rest.now ≡ place_at text (length text)
  pub next : IsNext 2 p.rest.now p.at
  pub shorter : length p.rest.now < length text
  pub low : p.at.line + length p.rest.now ≤ 1 + length text

-- ---- what was read

-- the derivation as far as it was read
abbrev pub read_so_far : Reading → DerivationLines
read_so_far o = record { asked = term_trees o.bank o.asked.items; nodes = map (line_of o.bank) o.nodes.items }

-- a line was added
pub data AddsLine (names : List (List ℕ)) (o : Reading) (bytes : List ℕ) (new : List (List ℕ)) (p : Reading) : Type 0 where
  variable : (at : At) → IsLetRow names o.bank bytes (is_none o.nodes.items) new p.bank at.0 → p.asked.items ≡ o.asked.items ++ at ∷ []
      → p.nodes.items ≡ o.nodes.items → p.lacking ≡ o.lacking → AddsLine names o bytes new p
  node : (r : Rule) → IsNodeRow names o.bank bytes new p.bank r → p.nodes.items ≡ o.nodes.items ++ r ∷ [] → p.asked.items ≡ o.asked.items
      → p.lacking ≡ o.lacking - 1 + children (line_of p.bank r) → AddsLine names o bytes new p
