-- The texts on a shelf, and what a call that reads a part of one gives.
use Rattle.std.specs.Prelude.{◌≡◌, ℕ, ◌-◌, ◌≤◌, ◌↔◌, List, [], ◌∷◌, Option, Some, None, if◌then◌else◌, length, take, drop, ⊤, IsSomeAnd}
use Rattle.std.specs.Str.{bytes_eq}
use Rattle.ll_edge.specs.declared.shelf.Got.{Got}
use Rattle.ll_edge.specs.declared.shelf.Got.TheVariants.{Bytes, Absent, Failed}

-- names with their texts, both as bytes
abbrev pub Texts : Type 0
Texts = List (List ℕ × List ℕ)

-- the text of a name: that of the first entry with this name
abbrev pub text_of : Texts → List ℕ → Option (List ℕ)
text_of [] name = None
text_of (entry ∷ others) name = if bytes_eq entry.0 name then Some entry.1 else text_of others name

-- no name comes twice
abbrev pub NamesDiffer : Texts → Type 0
NamesDiffer [] = ⊤
NamesDiffer (entry ∷ others) = (text_of others entry.0 ≡ None) × NamesDiffer others

-- n bytes of the text, from a place on, stand at the front of a buffer; there are none exactly where the place is at or past the text's end
pub record IsPart (text : List ℕ) (from : ℕ) (buf : List ℕ) (n : ℕ) : Type 0 where
  pub bytes : take n buf ≡ take n (drop from text)
  pub within : n ≤ length text - from
  pub at_end : (n ≡ 0) ↔ (length text ≤ from)

-- the name has a text, and n of its bytes from a place on stand at the front of a buffer
abbrev pub PutsPart : Texts → List ℕ → ℕ → List ℕ → ℕ → Type 0
PutsPart texts name from buf n = IsSomeAnd (text_of texts name) (λ text. IsPart text from buf n)

-- a fact for an answer that gives bytes, with their number
abbrev pub IfBytes : Got → (ℕ → Type 0) → Type 0
IfBytes (Bytes n) P = P n
IfBytes Absent P = ⊤
IfBytes Failed P = ⊤
