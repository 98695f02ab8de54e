-- Each token of a text that the lexer has read can stand in a text, so what such a text is read as is whole.
use Rattle.std.proofs.Common.{◌≡◌, ℕ, ◌≤◌, ◌<◌, ℤ, Bool, true, false, List, length, slice_get, get_or, Some, All, FitsSigned, refl, sym, ◌∙◌, subst, inl, inr}
use Rattle.std.specs.Int.{w64, int_wrap}
use Rattle.std.specs.Ordering.{int_eq}
use Rattle.std.proofs.lemmas.Bool.{cases_lt}
use Rattle.std.proofs.lemmas.Bool.Decides.{Decides-int_eq, not_from_Decides}
use Rattle.std.proofs.lemmas.Int.{SFits-int_wrap, int_wrap_fits}
use Rattle.std.proofs.lemmas.List.{length-map}
use Rattle.std.proofs.lemmas.List.Elements.{All-from_get_or}
use Rattle.std.proofs.lemmas.Option.{slice_get-map, slice_get-get_or}
use Rattle.ll_lexer.specs.declared.Place.{Place}
use Rattle.ll_lexer.specs.declared.Token.{Token}
use Rattle.ll_lexer.specs.declared.TokenKind.{TokenKind}
use Rattle.ll_lexer.specs.declared.TokenKind.TheVariants as kind
use Rattle.ll_lexer.specs.Spelling.{Spells}
use Rattle.ll_lexer.specs.Reading.{past_64_bits, long_name, long_variable, IsSound, number_value, LexedText, IsLexed, done, IsTokenOf, bytes_of}
use Rattle.ll_lexer.proofs.CallerLemmas.{token-found}
use Rattle.ll_parser.specs.Tokens.{Tok, any, tok_by, tok_of, toks_of, IsSpelled}
use Rattle.ll_parser.specs.Text.{Language}
use Rattle.ll_parser.specs.Reads.{Reads, IsWhole}
use Rattle.ll_parser.proofs.machines.Decides.{behind_of}

-- a number either has 64 bits or not
fits : (z : ℤ) → ((FitsSigned w64 z → ⊥) → ⊥) → FitsSigned w64 z
fits z h = by_test (int_eq (int_wrap w64 z) z) refl
  where
    by_test : (v : Bool) → int_eq (int_wrap w64 z) z ≡ v → FitsSigned w64 z
    by_test true e = subst (FitsSigned w64) ((Decides-int_eq (int_wrap w64 z) z).0 e) (SFits-int_wrap w64 z)
    by_test false e = absurd (h (λ f. not_from_Decides (int_eq (int_wrap w64 z) z) (Decides-int_eq (int_wrap w64 z) z) e (int_wrap_fits w64 z f)))

short : (w : List ℕ) → (255 < length w → ⊥) → length w ≤ 255
short w h = elim (cases_lt 255 (length w)) [ inl g ↦ absurd (h g) | inr g ↦ g ]

-- a token of the lexer without a flaw can stand in a text
pub kind-spelled : (k : TokenKind) (w : List ℕ) (at : Place) → Spells k w → IsSound k w → IsSpelled (tok_by k w at)
kind-spelled kind.Name w at s f = (s, short w (λ g. f 3 (long_name g)))
kind-spelled kind.Variable w at s f = (s, short w (λ g. f 3 (long_variable g)))
kind-spelled kind.Number w at s f = fits (number_value w) (λ g. f 2 (past_64_bits g))
kind-spelled kind.Any w at s f = tt
kind-spelled kind.True w at s f = tt
kind-spelled kind.Erase w at s f = tt
kind-spelled kind.Forall w at s f = tt
kind-spelled kind.Exists w at s f = tt
kind-spelled kind.Module w at s f = tt
kind-spelled kind.Local w at s f = tt
kind-spelled kind.Linear w at s f = tt
kind-spelled kind.Dot w at s f = tt
kind-spelled kind.Comma w at s f = tt
kind-spelled kind.Ampersand w at s f = tt
kind-spelled kind.Semicolon w at s f = tt
kind-spelled kind.ParenLeft w at s f = tt
kind-spelled kind.ParenRight w at s f = tt
kind-spelled kind.BraceLeft w at s f = tt
kind-spelled kind.BraceRight w at s f = tt
kind-spelled kind.Backslash w at s f = tt
kind-spelled kind.Cons w at s f = tt
kind-spelled kind.ColonDash w at s f = tt
kind-spelled kind.LeftArrow w at s f = tt
kind-spelled kind.RightArrow w at s f = tt
kind-spelled kind.Is w at s f = tt
kind-spelled kind.Most w at s f = tt
kind-spelled kind.Less w at s f = tt
kind-spelled kind.Plus w at s f = tt
kind-spelled kind.Minus w at s f = tt
kind-spelled kind.Star w at s f = tt
kind-spelled kind.Lolli w at s f = tt
kind-spelled kind.LoadArrow w at s f = tt

token-spelled : (text : List ℕ) (t : Token) → IsTokenOf text t → IsSpelled (tok_of text t)
token-spelled text t h = kind-spelled t.kind (bytes_of text t) t.at h.spells h.sound

one-spelled : (lexed : LexedText) → IsLexed lexed → (i : ℕ) (x : Tok) → slice_get (toks_of lexed) i ≡ Some x → IsSpelled x
one-spelled lexed h i x e =
    let b = behind_of (tok_of lexed.text) (slice_get lexed.tokens i) x (sym (slice_get-map (tok_of lexed.text) lexed.tokens i) ∙ e) in
    subst IsSpelled b.2 (token-spelled lexed.text b.0 (token-found lexed.text 0 lexed.tokens (done lexed.end) h i b.0 b.1))

pub lexed-spelled : (lexed : LexedText) → IsLexed lexed → All IsSpelled (toks_of lexed)
lexed-spelled lexed h =
    let d : Tok = any lexed.end in
    All-from_get_or IsSpelled (toks_of lexed) d (λ i le. one-spelled lexed h i (get_or (toks_of lexed) i d) (slice_get-get_or (toks_of lexed) i d le))

-- what the tokens of a text are read as is whole
pub whole-read : (l : Language) (lexed : LexedText) (tree : l.Tree) → IsLexed lexed → length lexed.tokens ≤ 16777216 → Reads l 1000 (toks_of lexed) tree
    → IsWhole l tree
whole-read l lexed tree h few r =
    let n : length (toks_of lexed) ≡ length lexed.tokens = length-map lexed.tokens (tok_of lexed.text) in
    (toks_of lexed, subst (λ z. z ≤ 16777216) (sym n) few, lexed-spelled lexed h, r)
