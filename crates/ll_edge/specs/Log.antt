-- What a shelf answered, call by call, and what calls took of a piece.
use Rattle.std.specs.Prelude.{◌≡◌, ℕ, ◌+◌, ◌<◌, ◌≤◌, ◌↔◌, List, [], ◌∷◌, ◌++◌, Option, None, length, take, drop, ⊤, IfSome, IsSomeAnd, Result, Ok, Err, Vec}
use Rattle.std.specs.Vec.{vec_items}
use Rattle.ll_edge.specs.Counts.{Rose}
use Rattle.ll_edge.specs.Texts.{Texts, text_of}
use Rattle.ll_edge.specs.declared.shelf.Got.{Got}
use Rattle.ll_edge.specs.declared.shelf.Got.TheVariants.{Bytes, Absent, Failed}
use Rattle.ll_edge.specs.declared.text.ReadFault.{ReadFault}
use Rattle.ll_edge.specs.declared.text.ReadFault.TheVariants as fault

-- an answer of a shelf: the bytes that it handed out, none of them at the end of a text; that there is no such text; that it can't be read
pub data Answer : Type 0 where
  Handed : List ℕ → Answer
  NoText : Answer
  Unreadable : Answer

-- a call of a shelf with its answer: the name, and the place from which bytes were asked for
pub record Entry : Type 0 where
  pub name : List ℕ
  pub from : ℕ
  pub answer : Answer

-- the answer that a call gave, by what it left in its buffer
abbrev pub answer_of : Got → List ℕ → Answer
answer_of (Bytes n) buf = Handed (take n buf)
answer_of Absent buf = NoText
answer_of Failed buf = Unreadable

-- the log after this call
abbrev pub logged : List Entry → List ℕ → ℕ → Answer → List Entry
logged log name from answer = log ++ record { name = name; from = from; answer = answer } ∷ []

-- the later log begins with the earlier
abbrev pub Grew : List Entry → List Entry → Type 0
Grew before after = (more : List Entry) × (after ≡ before ++ more)

-- Calls of a shelf leave its texts as they are, never lower its counts, and make its log longer.
pub record ShelfKept {S : Type 0} (texts : S → Option Texts) (faults absences : S → ℕ) (log : S → List Entry) (before after : S) : Type 0 where
  pub same_texts : texts after ≡ texts before
  pub faults_kept : faults before ≤ faults after
  pub absences_kept : absences before ≤ absences after
  pub grew : Grew (log before) (log after)

-- ---- the answers of some texts

-- these bytes are those of the text from a place on, and there are none exactly where the place is at or past the text's end
pub record IsFrom (text : List ℕ) (from : ℕ) (bytes : List ℕ) : Type 0 where
  pub is : bytes ≡ take (length bytes) (drop from text)
  pub at_end : (length bytes ≡ 0) ↔ (length text ≤ from)

-- the answer to a call for this text, where there is one; a call may fail over any text
abbrev pub IsGiven : Option (List ℕ) → ℕ → Answer → Type 0
IsGiven found from (Handed bytes) = IsSomeAnd found (λ text. IsFrom text from bytes)
IsGiven found from NoText = found ≡ None
IsGiven found from Unreadable = ⊤

-- the answer of this call is one that these texts give
abbrev pub Answers : Texts → Entry → Type 0
Answers texts entry = IsGiven (text_of texts entry.name) entry.from entry.answer

-- The outside answered each call between two logs as these texts would: what the files held, if they held still.
abbrev pub Agrees : Texts → List Entry → List Entry → Type 0
Agrees texts before after =
    (between : List Entry) (entry : Entry) (rest : List Entry) → after ≡ before ++ (between ++ entry ∷ rest) → Answers texts entry

-- the same for texts that are told; where none are, nothing is said
abbrev pub ToldFits : Option Texts → List Entry → List Entry → Type 0
ToldFits told before after = IfSome told (λ texts. Agrees texts before after)

-- ---- the reading of one text

-- the calls from one log to another read this name, each from the end of what those before were handed, and were handed these bytes,
-- some by each
pub data Hands (name : List ℕ) (before : List Entry) : List Entry → List ℕ → Type 0 where
  handed_none : Hands name before before []
  handed_more : {log : List Entry} {bytes : List ℕ} (piece : List ℕ) → 0 < length piece → Hands name before log bytes
      → Hands name before (logged log name (length bytes) (Handed piece)) (bytes ++ piece)

-- the calls from one log to another read this name, were handed these bytes, and then got this answer
pub record Reads (name : List ℕ) (before after : List Entry) (bytes : List ℕ) (answer : Answer) : Type 0 where
  pub log : List Entry
  pub hands : Hands name before log bytes
  pub last : after ≡ logged log name (length bytes) answer

-- the last calls between two logs read this name, and the last of them got this answer
pub record EndedAt (before after : List Entry) (answer : Answer) (name : List ℕ) : Type 0 where
  pub bytes : List ℕ
  pub begin : List Entry
  pub grew : Grew before begin
  pub reads : Reads name begin after bytes answer

-- this count of a shelf rose, and the last of its calls got this answer for this name
pub record Met {S : Type 0} (count : S → ℕ) (log : S → List Entry) (before after : S) (answer : Answer) (name : List ℕ) : Type 0 where
  pub rose : Rose (count before) (count after)
  pub ended : EndedAt (log before) (log after) answer name

-- how the reading of a text ended, by its result: with the whole text, which the calls handed out and then no bytes; with the answer that
-- there is no such text, or that it can't be read; with one byte more than the limit handed out; or for that memory ran out
abbrev pub ReadingEnds : {A : Type 0} → ℕ → List ℕ → List Entry → List Entry → Result (Vec ℕ A) ReadFault → Type 0
ReadingEnds limit name before after (Ok text) = Reads name before after (vec_items text) (Handed [])
ReadingEnds limit name before after (Err fault.Absent) = (bytes : List ℕ) × Reads name before after bytes NoText
ReadingEnds limit name before after (Err fault.Failed) = (bytes : List ℕ) × Reads name before after bytes Unreadable
ReadingEnds limit name before after (Err fault.TooLong) = (bytes : List ℕ) × Hands name before after bytes × (length bytes ≡ limit + 1)
ReadingEnds limit name before after (Err fault.OutOfMemory) = (bytes : List ℕ) × Hands name before after bytes

-- A shelf's count of calls that failed, after a reading: it stands still, unless the reading ended since the text can't be read.
abbrev pub FaultsOf : {A : Type 0} → Result A ReadFault → ℕ → ℕ → Type 0
FaultsOf (Ok text) before after = after ≡ before
FaultsOf (Err fault.Absent) before after = after ≡ before
FaultsOf (Err fault.Failed) before after = Rose before after
FaultsOf (Err fault.TooLong) before after = after ≡ before
FaultsOf (Err fault.OutOfMemory) before after = after ≡ before

-- Its count of calls that found no text: it stands still, unless the reading ended since there is none.
abbrev pub AbsencesOf : {A : Type 0} → Result A ReadFault → ℕ → ℕ → Type 0
AbsencesOf (Ok text) before after = after ≡ before
AbsencesOf (Err fault.Absent) before after = Rose before after
AbsencesOf (Err fault.Failed) before after = after ≡ before
AbsencesOf (Err fault.TooLong) before after = after ≡ before
AbsencesOf (Err fault.OutOfMemory) before after = after ≡ before
