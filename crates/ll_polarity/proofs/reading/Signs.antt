-- The signs that head terms: no word has such a text, so nothing binds it, and it is no variable's.
use Rattle.std.proofs.Common.{◌≡◌, ℕ, Bool, true, false, List, codes, ◌⊎◌, inl, inr, refl, sym, subst}
use Rattle.std.specs.Str.{bytes_eq}
use Rattle.std.proofs.lemmas.Slice.Eq.{bytes_eq-Decides}
use Rattle.ll_lexer.specs.declared.TokenKind.TheVariants as kind
use Rattle.ll_lexer.specs.Spelling.{Spells, kind_of, fixed_spellings}
use Rattle.ll_parser.specs.Tokens.{Identifier}
use Rattle.ll_parser.proofs.CallerLemmas.{IsWord, word_spells}
use Rattle.ll_polarity.specs.Scope.{is_variable}

-- `::`, `+`, `-` and `*`
pub data Sign : Type 0 where
  cell plus_head minus_head star_head : Sign

abbrev pub sign_text : Sign → List ℕ
sign_text cell = codes "::"
sign_text plus_head = codes "+"
sign_text minus_head = codes "-"
sign_text star_head = codes "*"

pub sign_no_variable : (s : Sign) → is_variable (sign_text s) ≡ false
sign_no_variable cell = refl
sign_no_variable plus_head = refl
sign_no_variable minus_head = refl
sign_no_variable star_head = refl

-- the text is that of no sign
abbrev pub IsNoSign : List ℕ → Type 0
IsNoSign w = (s : Sign) → bytes_eq (sign_text s) w ≡ false

sign_no_word : (s : Sign) → Spells kind.Name (sign_text s) ⊎ Spells kind.Variable (sign_text s) → ⊥
unfolding kind_of fixed_spellings
sign_no_word cell (inl h) = cc
sign_no_word cell (inr h) = cc
sign_no_word plus_head (inl h) = cc
sign_no_word plus_head (inr h) = cc
sign_no_word minus_head (inl h) = cc
sign_no_word minus_head (inr h) = cc
sign_no_word star_head (inl h) = cc
sign_no_word star_head (inr h) = cc

-- a word is no sign
pub word_no_sign : (n : Identifier) → IsWord n → IsNoSign n.text
word_no_sign n h s = by_test (bytes_eq (sign_text s) n.text) refl
  where
    by_test : (v : Bool) → bytes_eq (sign_text s) n.text ≡ v → v ≡ false
    by_test true e =
        absurd (sign_no_word s (subst (λ w. Spells kind.Name w ⊎ Spells kind.Variable w) (sym ((bytes_eq-Decides (sign_text s) n.text).0 e)) (word_spells n h)))
    by_test false e = refl
