-- What a token list is read as: its tree, or its first fault.
use Rattle.std.specs.Prelude.{◌≡◌, ℕ, suc, ◌-◌, ◌≤◌, Bool, true, false, List, [], ◌∷◌, ◌++◌, length, take, All}
use Rattle.ll_lexer.specs.declared.Place.{Place}
use Rattle.ll_lexer.specs.declared.Fault.{Fault}
use Rattle.ll_lexer.specs.declared.TextFault.{TextFault}
use Rattle.ll_lexer.specs.declared.TextFault.TheVariants as fault
use Rattle.ll_parser.specs.Tokens.{Tok, paren_left, paren_right, brace_left, brace_right, tok_place, IsSpelled}
use Rattle.ll_parser.specs.Text.{Language}

-- some parse tree has these tokens and this tree, with any number of brackets
abbrev pub Derives : (l : Language) → List Tok → l.Tree → Type 0
Derives l ts tree = (p : l.Parse) × (l.tokens p ≡ ts) × (l.tree p ≡ tree)

-- some text of the language begins with these tokens
abbrev pub Begins : Language → List Tok → Type 0
Begins l ts = (more : List Tok) × (p : l.Parse) × (l.tokens p ≡ ts ++ more)

-- how many brackets `(` and `{` are open after the tokens, where n were open before them
abbrev pub open_after : ℕ → List Tok → ℕ
open_after n [] = n
open_after n (paren_left at ∷ ts) = open_after (suc n) ts
open_after n (brace_left at ∷ ts) = open_after (suc n) ts
open_after n (paren_right at ∷ ts) = open_after (n - 1) ts
open_after n (brace_right at ∷ ts) = open_after (n - 1) ts
open_after n (t ∷ ts) = open_after n ts

-- never more than the limit open at once
abbrev pub Within : ℕ → List Tok → Type 0
Within limit ts = (n : ℕ) → open_after 0 (take n ts) ≤ limit

-- the relation between token lists, with no more brackets open at once than the limit, and trees
abbrev pub Reads : (l : Language) → ℕ → List Tok → l.Tree → Type 0
Reads l limit ts tree = Derives l ts tree × Within limit ts

-- some list of at most 16,777,216 tokens, each of which can stand in a text, is read as this tree, with at most 1,000 brackets open
abbrev pub IsWhole : (l : Language) → l.Tree → Type 0
IsWhole l tree = (ts : List Tok) × (length ts ≤ 16777216) × All IsSpelled ts × Reads l 1000 ts tree

-- token number i is t, and the tokens before it begin a text of the language within the limit
pub record IsTokenAt (l : Language) (limit : ℕ) (ts : List Tok) (i : ℕ) (t : Tok) : Type 0 where
  pub after : List Tok
  pub split : ts ≡ take i ts ++ t ∷ after
  pub within : Within limit (take i ts)
  pub begins : Begins l (take i ts)

-- a bracket that opens
abbrev pub opens : Tok → Bool
opens (paren_left at) = true
opens (brace_left at) = true
opens _ = false

-- The first fault of a token list whose text ends at this place. Kind 4: the first bad token, with which and the tokens before
-- it no text of the language begins. Kind 5: the tokens begin a text of the language and are none. Kind 6: a bracket that the
-- grammar admits, while as many as the limit are open.
pub data HasFault (l : Language) (limit : ℕ) (ts : List Tok) (end : Place) : Fault → Type 0 where
  bad_token : (i : ℕ) (t : Tok) → IsTokenAt l limit ts i t → (Begins l (take i ts ++ t ∷ []) → ⊥)
      → HasFault l limit ts end (record { at = tok_place t; kind = 4 })
  ends_early : Begins l ts → Within limit ts → ((tree : l.Tree) → Derives l ts tree → ⊥) → HasFault l limit ts end (record { at = end; kind = 5 })
  too_many_open : (i : ℕ) (t : Tok) → IsTokenAt l limit ts i t → Begins l (take i ts ++ t ∷ []) → opens t ≡ true → open_after 0 (take i ts) ≡ limit
      → HasFault l limit ts end (record { at = tok_place t; kind = 6 })

-- why a token list was not read; out of memory is free
abbrev pub IsCause : Language → ℕ → List Tok → Place → TextFault → Type 0
IsCause l limit ts end (fault.Text f) = HasFault l limit ts end f
IsCause l limit ts end fault.OutOfMemory = Unit {0}
