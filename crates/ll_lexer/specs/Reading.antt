-- What a text is read as: its tokens with their places, or its first fault.
use Rattle.std.specs.Prelude.{◌≡◌, ℕ, ◌+◌, ◌-◌, ◌<◌, ◌≤◌, Bool, if◌then◌else◌, ◌||◌, ◌==◌, not, List, [], ◌∷◌, length, take, drop, fold, ℤ, FitsSigned, true}
use Rattle.std.specs.List.{prefix_len}
use Rattle.std.specs.Int.{w64}
use Rattle.std.specs.Str.Parse.{signed_digits_value}
use Rattle.ll_lexer.specs.declared.TokenKind.{TokenKind}
use Rattle.ll_lexer.specs.declared.TokenKind.TheVariants.{Name, Variable, Number}
use Rattle.ll_lexer.specs.declared.Place.{Place}
use Rattle.ll_lexer.specs.declared.Token.{Token}
use Rattle.ll_lexer.specs.declared.Fault.{Fault}
use Rattle.ll_lexer.specs.declared.TextFault.{TextFault}
use Rattle.ll_lexer.specs.declared.TextFault.TheVariants as fault
use Rattle.ll_lexer.specs.Spelling.{Spells, IsLongest, HasNone}

-- space, tab, CR and LF
unfoldable pub is_blank : ℕ → Bool
is_blank b = ((b == 32 || b == 9) || b == 13) || b == 10

unfoldable pub is_no_lf : ℕ → Bool
is_no_lf b = not (b == 10)

-- the place after a byte: an LF ends its line, and any other byte is one column
abbrev pub after : Place → ℕ → Place
after at b = if b == 10 then record { line = at.line + 1; column = 1 } else record { line = at.line; column = at.column + 1 }

-- the place of byte i of a text, and for the text's length that of its end
abbrev pub place_at : List ℕ → ℕ → Place
place_at text i = fold after (record { line = 1; column = 1 }) (take i text)

-- n bytes at the front are a blank, or a comment from `%` up to the LF or the end
pub data IsGap : List ℕ → ℕ → Type 0 where
  blank : {b : ℕ} {bs : List ℕ} → is_blank b ≡ true → IsGap (b ∷ bs) 1
  comment : {b : ℕ} {bs : List ℕ} → b ≡ 37 → IsGap (b ∷ bs) (1 + prefix_len is_no_lf bs)

-- the decimal value of a number's spelling, whatever its size
abbrev pub number_value : List ℕ → ℤ
number_value w = signed_digits_value 10 w

-- a token of this kind that is spelled so has a fault of this number
pub data HasFlaw : TokenKind → List ℕ → ℕ → Type 0 where
  past_64_bits : {w : List ℕ} → (FitsSigned w64 (number_value w) → ⊥) → HasFlaw Number w 2
  long_name : {w : List ℕ} → 255 < length w → HasFlaw Name w 3
  long_variable : {w : List ℕ} → 255 < length w → HasFlaw Variable w 3

-- how the reading of a text ends: at its end, or at its first fault
pub data End : Type 0 where
  done : Place → End
  stopped : ℕ → Place → End

-- the token of this kind in the n bytes from byte i on
abbrev pub token_at : List ℕ → ℕ → TokenKind → ℕ → Token
token_at text i k n = record { kind = k; at = place_at text i; from = i; to = i + n }

-- no flaw
abbrev pub IsSound : TokenKind → List ℕ → Type 0
IsSound k w = (kind : ℕ) → HasFlaw k w kind → ⊥

-- no blank and no comment
abbrev pub HasNoGap : List ℕ → Type 0
HasNoGap bytes = (n : ℕ) → IsGap bytes n → ⊥

-- from byte i on the text has these tokens, up to this end
pub data Lexes (text : List ℕ) : ℕ → List Token → End → Type 0 where
  at_end : {i : ℕ} → drop i text ≡ [] → Lexes text i [] (done (place_at text (length text)))
  gap : {i : ℕ} {ts : List Token} {e : End} → (n : ℕ) → IsGap (drop i text) n → Lexes text (i + n) ts e → Lexes text i ts e
  token : {i : ℕ} {ts : List Token} {e : End} → (k : TokenKind) (n : ℕ) → IsLongest (drop i text) k n → IsSound k (take n (drop i text))
      → Lexes text (i + n) ts e → Lexes text i (token_at text i k n ∷ ts) e
  flawed : {i : ℕ} → (k : TokenKind) (n kind : ℕ) → IsLongest (drop i text) k n → HasFlaw k (take n (drop i text)) kind
      → Lexes text i [] (stopped kind (place_at text i))
  no_token : {i : ℕ} → i < length text → HasNone (drop i text) → HasNoGap (drop i text) → Lexes text i [] (stopped 1 (place_at text i))

-- a text with its tokens and the place of its end
pub record LexedText : Type 0 where
  pub text : List ℕ
  pub tokens : List Token
  pub end : Place

-- the text has no fault, and these are its tokens and its end
abbrev pub IsLexed : LexedText → Type 0
IsLexed lexed = Lexes lexed.text 0 lexed.tokens (done lexed.end)

-- this is the first fault of the text
abbrev pub HasFault : List ℕ → Fault → Type 0
HasFault text f = (ts : List Token) × Lexes text 0 ts (stopped f.kind f.at)

-- why a text was not read; out of memory is free
abbrev pub IsCause : List ℕ → TextFault → Type 0
IsCause text (fault.Text f) = HasFault text f
IsCause text fault.OutOfMemory = Unit {0}

-- the bytes of a token
abbrev pub bytes_of : List ℕ → Token → List ℕ
bytes_of text t = take (t.to - t.from) (drop t.from text)

-- the token has its bytes in the text, is spelled as its kind is, and has no flaw
pub record IsTokenOf (text : List ℕ) (t : Token) : Type 0 where
  pub order : t.from ≤ t.to
  pub within : t.to ≤ length text
  pub spells : Spells t.kind (bytes_of text t)
  pub sound : IsSound t.kind (bytes_of text t)

-- ---- a text is read in one way

-- no text has two lists of tokens
abbrev pub IsLexedOnce : Type 0
IsLexedOnce = (a b : LexedText) → a.text ≡ b.text → IsLexed a → IsLexed b → a ≡ b

-- no text has two faults
abbrev pub HasFaultOnce : Type 0
HasFaultOnce = (text : List ℕ) (f g : Fault) → HasFault text f → HasFault text g → f ≡ g

-- no text that has a list of tokens has a fault
abbrev pub IsLexedOrFaulty : Type 0
IsLexedOrFaulty = (a : LexedText) (f : Fault) → IsLexed a → HasFault a.text f → ⊥
