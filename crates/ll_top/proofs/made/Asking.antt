-- The queries have no fault.
use Rattle.std.proofs.Common.{◌≡◌, ◌≤◌, ◌<◌, ℕ, zero, suc, List, [], ◌∷◌, length, take, codes, Some, None, refl, sym, subst, arith}
use Rattle.std.proofs.lemmas.List.{take_all}
use Rattle.ll_lexer.specs.declared.TokenKind.{TokenKind}
use Rattle.ll_lexer.specs.declared.TokenKind.TheVariants as kind
use Rattle.ll_lexer.specs.Spelling.{kind_of, fixed_spellings, is_lower, is_upper, is_digit, is_word_byte, Spells, IsLongest}
use Rattle.ll_lexer.specs.Reading.{is_blank, place_at, token_at, at_end, gap, token, blank}
use Rattle.ll_lexer.proofs.CallerLemmas.{sound-name, sound-variable}
use Rattle.ll_parser.specs.Grammar.{lower, upper, simple_word, no_more, and_then, of_arrow, of_sum, of_with, of_tensor, of_primary, atom}
use Rattle.ll_parser.specs.Text.{Query, bare, query_tokens, query_tree}
use Rattle.ll_make.specs.declared.kind.MakeKind.{MakeKind}
use Rattle.ll_make.specs.declared.kind.MakeKind.TheVariants.{Perm, Choice, Chain}
use Rattle.ll_make.specs.Kinds.{query_text}
use Rattle.ll_top.specs.Faultless.{IsFaultlessQuery}
use Rattle.ll_top.proofs.made.Opened.{few-within}

-- a text of `go` and perhaps one variable of one letter
no-kind : (j : TokenKind) → None ≡ Some j → ⊥
no-kind j e = cc

-- `go` with a blank and a letter behind it
go-longest : (letter : ℕ) → IsLongest (103 ∷ 111 ∷ 32 ∷ letter ∷ []) kind.Name 2
unfolding kind_of fixed_spellings is_lower is_upper is_digit is_word_byte
go-longest letter = record { within = omega arith; spells = refl; longest = none }
  where
    none : (j : TokenKind) (m : ℕ) → 2 < m → m ≤ 4 → Spells j (take m (103 ∷ 111 ∷ 32 ∷ letter ∷ [])) → ⊥
    none j zero l g s = omega arith
    none j (suc zero) l g s = omega arith
    none j (suc (suc zero)) l g s = omega arith
    none j (suc (suc (suc zero))) l g s = no-kind j s
    none j (suc (suc (suc (suc zero)))) l g s = no-kind j s
    none j (suc (suc (suc (suc (suc m))))) l g s = omega arith

-- the end of a text is the end of its last token
to-end : (bytes : List ℕ) (k : TokenKind) → Spells k bytes → IsLongest bytes k (length bytes)
to-end bytes k s = record {
  within = omega arith;
  spells = subst (Spells k) (sym (take_all (length bytes) bytes (omega arith))) s;
  longest =
      λ j m l g _. omega arith;
}

-- ---- `go` alone

go-read : IsFaultlessQuery (codes "go")
unfolding kind_of fixed_spellings is_lower is_word_byte
go-read = record {
  lexed = record { text = text; tokens = token_at text 0 kind.Name 2 ∷ []; end = place_at text 2 };
  of_text = refl;
  is_lexed = token kind.Name 2 (to-end text kind.Name refl) (sound-name text (omega arith)) (at_end refl);
  tree = query_tree asked;
  reads = ((asked, refl, refl), few-within 1000 (query_tokens asked) (omega arith));
  faultless = λ modules. refl;
}
  where
    text : List ℕ
    text = codes "go"

    asked : Query
    asked = bare (of_arrow (of_sum (of_with (of_tensor (of_primary (atom (lower (record { text = text; at = place_at text 0 })) no_more))))))

-- ---- `go` and a variable

go-letter : (letter : ℕ) → Spells kind.Variable (letter ∷ []) → IsFaultlessQuery (103 ∷ 111 ∷ 32 ∷ letter ∷ [])
unfolding kind_of fixed_spellings is_lower is_word_byte is_blank
go-letter letter s = record {
  lexed = record { text = text; tokens = token_at text 0 kind.Name 2 ∷ token_at text 3 kind.Variable 1 ∷ []; end = place_at text 4 };
  of_text = refl;
  is_lexed =
      token kind.Name 2 (go-longest letter) (sound-name (codes "go") (omega arith))
      (gap 1 (blank refl) (token kind.Variable 1 (to-end (letter ∷ []) kind.Variable s) (sound-variable (letter ∷ []) (omega arith)) (at_end refl)));
  tree = query_tree asked;
  reads = ((asked, refl, refl), few-within 1000 (query_tokens asked) (omega arith));
  faultless = λ modules. refl;
}
  where
    text : List ℕ
    text = 103 ∷ 111 ∷ 32 ∷ letter ∷ []

    asked : Query
    asked =
        bare (of_arrow (of_sum (of_with (of_tensor (of_primary (atom (lower (record { text = codes "go"; at = place_at text 0 }))
        (and_then no_more (simple_word (upper (record { text = letter ∷ []; at = place_at text 3 }))))))))))

pub query-read : (kind : MakeKind) → IsFaultlessQuery (query_text kind)
unfolding kind_of fixed_spellings is_lower is_upper is_word_byte
query-read Perm = go-letter 75 refl
query-read Choice = go-letter 88 refl
query-read Chain = go-read
