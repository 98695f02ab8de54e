-- The causes of the statuses 3, 4, 5, 7 and 8, and the line that each writes.
use Rattle.std.specs.Prelude.{ℕ, List, [], ◌∷◌, slice_index_or, codes, decimal}
use Rattle.std.specs.List.{concat}
use Rattle.ll_lexer.specs.declared.Fault.{Fault}

-- why a call ends with a fault line
pub data Cause : Type 0 where
  -- the word of this number, counted from 1, is in no form
  Usage : ℕ → Cause
  -- there is no text of this name
  Absent : List ℕ → Cause
  -- the text of this name could not be read
  Unreadable : List ℕ → Cause
  -- the text of this name has too many bytes
  Oversized : List ℕ → Cause
  -- the derivation in the text of this name has too many bytes as a text of this version
  OversizedAs : List ℕ → ℕ → Cause
  -- the text of this name has this fault
  Faulty : List ℕ → Fault → Cause

-- the text of each kind of fault, from kind 0 to kind 18; no text has kind 0 or 17
abbrev pub kind_texts : List (List ℕ)
kind_texts =
    []
    ∷ codes "byte begins no token"
    ∷ codes "number past 64 bits"
    ∷ codes "name longer than 255 bytes"
    ∷ codes "unexpected token"
    ∷ codes "text ends early"
    ∷ codes "more than 1000 brackets open"
    ∷ codes "not a clause"
    ∷ codes "module load in a clause"
    ∷ codes "variable as predicate or function"
    ∷ codes "unknown module"
    ∷ codes "wrong number of module arguments"
    ∷ codes "name declared twice"
    ∷ codes "unknown rule word"
    ∷ codes "malformed field"
    ∷ codes "nodes missing"
    ∷ codes "nodes left over"
    ∷ []
    ∷ codes "not the table of shared terms"
    ∷ []

abbrev pub kind_text : ℕ → List ℕ
kind_text kind = slice_index_or kind_texts kind []

-- the line of a text's fault: `fault: NAME LINE:COLUMN kind K TEXT`
abbrev pub fields_text : List ℕ → List ℕ → List ℕ → List ℕ → List ℕ → List ℕ
fields_text name line column kind text =
    concat (codes "fault: " ∷ name ∷ codes " " ∷ line ∷ codes ":" ∷ column ∷ codes " kind " ∷ kind ∷ codes " " ∷ text ∷ codes "\n" ∷ [])

-- the line of a cause
abbrev pub fault_text : Cause → List ℕ
fault_text (Usage number) = concat (codes "fault: usage, word " ∷ decimal number ∷ codes "\n" ∷ [])
fault_text (Absent name) = concat (codes "fault: absent " ∷ name ∷ codes "\n" ∷ [])
fault_text (Unreadable name) = concat (codes "fault: read " ∷ name ∷ codes "\n" ∷ [])
fault_text (Oversized name) = concat (codes "fault: " ∷ name ∷ codes " has more than 16777216 bytes\n" ∷ [])
fault_text (OversizedAs name version) = concat (codes "fault: " ∷ name ∷ codes " as version " ∷ decimal version ∷ codes " has more than 16777216 bytes\n" ∷ [])
fault_text (Faulty name fault) = fields_text name (decimal fault.at.line) (decimal fault.at.column) (decimal fault.kind) (kind_text fault.kind)

-- the status of a cause
abbrev pub cause_status : Cause → ℕ
cause_status (Usage number) = 3
cause_status (Absent name) = 4
cause_status (Unreadable name) = 5
cause_status (Oversized name) = 8
cause_status (OversizedAs name version) = 8
cause_status (Faulty name fault) = 7
