-- The names that a text of a derivation mentions.
use Rattle.std.specs.Prelude.{ℕ, ◌==◌, List, [], ◌∷◌, ◌++◌, length, drop, if◌then◌else◌, codes}
use Rattle.std.specs.List.{flat_map}
use Rattle.ll_lexer.specs.Spelling.{is_lower, is_word_byte}
use Rattle.ll_prooftext.specs.Reading.{text_lines, first_word}

-- where a scan of bytes stands: outside of words, in a word, or behind the first byte of `::`
pub data Scan : Type 0 where
  Outside Inside Halfway : Scan

-- where it stands behind one more byte
unfoldable pub scanned : Scan → ℕ → Scan
scanned Halfway b = if is_word_byte b then Inside else Outside
scanned s b = if is_word_byte b then Inside else if b == 58 then Halfway else Outside

-- the letters, digits and `_` at the front of the bytes
unfoldable pub word_run : List ℕ → List ℕ
word_run [] = []
word_run (b ∷ bs) = if is_word_byte b then b ∷ word_run bs else []

-- the name that begins with this byte, in front of these, or the sign that ends with it
unfoldable pub name_here : Scan → ℕ → List ℕ → List (List ℕ)
name_here Inside b bs = []
name_here Outside b bs = if is_lower b then (b ∷ word_run bs) ∷ [] else []
name_here Halfway b bs = if b == 58 then codes "::" ∷ [] else if is_lower b then (b ∷ word_run bs) ∷ [] else []

-- the names among bytes, in their order: each run of letters, digits and `_` that begins with a small letter, and each `::`
unfoldable pub mentions : Scan → List ℕ → List (List ℕ)
mentions s [] = []
mentions s (b ∷ bs) = name_here s b bs ++ mentions (scanned s b) bs

-- the names in the fields of a line, which stand behind its first word
unfoldable pub line_names : List ℕ → List (List ℕ)
line_names line = mentions Outside (drop (length (first_word line)) line)

-- the names in the fields of a text's lines, each time that they occur
unfoldable pub text_names : List ℕ → List (List ℕ)
text_names text = flat_map line_names (text_lines text)
