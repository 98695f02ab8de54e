-- The bytes of every token are ASCII.
use Rattle.std.proofs.Common.{◌≡◌, ℕ, zero, suc, ◌<◌, Bool, true, false, ◌||◌, ◌==◌, List, [], ◌∷◌, get_or, refl, arith, nat_le, inl, inr, if◌then◌else◌}
use Rattle.std.specs.Int.{is_in_range}
use Rattle.std.specs.List.{list_all}
use Rattle.std.specs.Prelude.{nat_lt}
use Rattle.std.specs.Str.{IsAscii}
use Rattle.std.proofs.lemmas.Bool.{and_parts, and_from, or_cases, leb-true, eqb-true}
use Rattle.std.proofs.lemmas.Bool.Decides.{Decides-ltb}
use Rattle.ll_list_laws.proofs.CallerLemmas.{and_true_both as both}
use Rattle.ll_lexer.specs.declared.TokenKind.{TokenKind}
use Rattle.ll_lexer.specs.Spelling.{is_lower, is_upper, is_digit, is_word_byte, is_name, is_variable, is_numeral, is_number, fixed_spellings, Spells}
use Rattle.ll_lexer.proofs.Spelled.{kind-passes}

in_range : (low high b : ℕ) → high < 128 → is_in_range low high b ≡ true → b < 128
in_range low high b l h = let k = leb-true b high (and_parts (nat_le low b) (nat_le b high) h).1 in omega arith

pub lower-ascii : (b : ℕ) → is_lower b ≡ true → b < 128
unfolding is_lower
lower-ascii b h = in_range 97 122 b (omega arith) h

upper-ascii : (b : ℕ) → is_upper b ≡ true → b < 128
unfolding is_upper
upper-ascii b h = in_range 65 90 b (omega arith) h

pub digit-ascii : (b : ℕ) → is_digit b ≡ true → b < 128
unfolding is_digit
digit-ascii b h = in_range 48 57 b (omega arith) h

bar-ascii : (b : ℕ) → b == 95 ≡ true → b < 128
bar-ascii b h = let e = eqb-true b 95 h in omega arith

pub word-ascii : (b : ℕ) → is_word_byte b ≡ true → b < 128
unfolding is_word_byte
word-ascii b h =
    elim (or_cases ((is_in_range 48 57 b || is_in_range 65 90 b) || is_in_range 97 122 b) (b == 95) h) [
      | inr e ↦ bar-ascii b e
      | inl p ↦ elim (or_cases (is_in_range 48 57 b || is_in_range 65 90 b) (is_in_range 97 122 b) p) [
        | inr e ↦ in_range 97 122 b (omega arith) e
        | inl q ↦ elim (or_cases (is_in_range 48 57 b) (is_in_range 65 90 b) q) [
          | inr e ↦ in_range 65 90 b (omega arith) e
          | inl e ↦ in_range 48 57 b (omega arith) e
        ]
      ]
    ]

-- all bytes are below 128
abbrev is_ascii_text : List ℕ → TokenKind → Bool
is_ascii_text w k = list_all (λ b. nat_lt b 128) w

test : (b : ℕ) → b < 128 → nat_lt b 128 ≡ true
test b h = (Decides-ltb b 128).1 h

each : (p : ℕ → Bool) → ((b : ℕ) → p b ≡ true → b < 128) → (w : List ℕ) → list_all p w ≡ true → list_all (λ b. nat_lt b 128) w ≡ true
each p f [] h = refl
each p f (b ∷ w) h = let k = both (p b) (list_all p w) h in and_from (nat_lt b 128) (list_all (λ b. nat_lt b 128) w) (test b (f b k.0)) (each p f w k.1)

front : (b : ℕ) (w : List ℕ) → b < 128 → list_all (λ b. nat_lt b 128) w ≡ true → list_all (λ b. nat_lt b 128) (b ∷ w) ≡ true
front b w h r = and_from (nat_lt b 128) (list_all (λ b. nat_lt b 128) w) (test b h) r

names : (w : List ℕ) → is_name w ≡ true → list_all (λ b. nat_lt b 128) w ≡ true
names [] h = refl
names (b ∷ w) h = let k = both (is_lower b) (list_all is_word_byte w) h in front b w (lower-ascii b k.0) (each is_word_byte word-ascii w k.1)

variables : (w : List ℕ) → is_variable w ≡ true → list_all (λ b. nat_lt b 128) w ≡ true
variables [] h = refl
variables (b ∷ []) h = front b [] (upper-ascii b h) refl
variables (b ∷ c ∷ w) h =
    let k = both (is_upper b || b == 95) (list_all is_word_byte (c ∷ w)) h in
    front b (c ∷ w) (elim (or_cases (is_upper b) (b == 95) k.0) [ inl e ↦ upper-ascii b e | inr e ↦ bar-ascii b e ]) (each is_word_byte word-ascii (c ∷ w) k.1)

numerals : (w : List ℕ) → is_numeral w ≡ true → list_all (λ b. nat_lt b 128) w ≡ true
numerals [] h = refl
numerals (b ∷ w) h = let k = both (is_digit b) (list_all is_digit w) h in front b w (digit-ascii b k.0) (each is_digit digit-ascii w k.1)

numbers : (w : List ℕ) → is_number w ≡ true → list_all (λ b. nat_lt b 128) w ≡ true
numbers [] h = refl
numbers (b ∷ w) h = by (b == 45) refl h
  where
    by : (v : Bool) → b == 45 ≡ v → (if v then is_numeral w else is_numeral (b ∷ w)) ≡ true → list_all (λ b. nat_lt b 128) (b ∷ w) ≡ true
    by true e n = front b w (let k = eqb-true b 45 e in omega arith) (numerals w n)
    by false e n = numerals (b ∷ w) n

below : (w : List ℕ) → list_all (λ b. nat_lt b 128) w ≡ true → IsAscii w
below [] h = λ i. omega arith
below (b ∷ w) h = let k = both (nat_lt b 128) (list_all (λ b. nat_lt b 128) w) h in λ i. at b w ((Decides-ltb b 128).0 k.0) (below w k.1) i
  where
    at : (b : ℕ) (w : List ℕ) → b < 128 → IsAscii w → (i : ℕ) → get_or (b ∷ w) i 0 < 128
    at b w h r zero = h
    at b w h r (suc i) = r i

-- what is spelled as a token is ASCII
pub spelled-ascii : (w : List ℕ) (k : TokenKind) → Spells k w → IsAscii w
unfolding fixed_spellings
spelled-ascii w k h = below w (kind-passes is_ascii_text w k refl (record { names = names; variables = variables; numbers = numbers }) h)
