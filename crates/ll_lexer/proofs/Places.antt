-- The places of a text, byte by byte and over a run without LF.
use Rattle.std.proofs.Common.{◌≡◌, ℕ, suc, ◌+◌, ◌<◌, ◌≤◌, Bool, true, false, cond, ◌==◌, List, [], ◌∷◌, length, take, drop, get_or, fold, Some, ◌||◌, refl}
use Rattle.std.proofs.Common.{◌∙◌, ap, arith, length-drop}
use Rattle.std.specs.List.{list_all}
use Rattle.std.proofs.lemmas.Bool.Decides.{nat_tests}
use Rattle.std.proofs.lemmas.List.{length-take}
use Rattle.std.proofs.lemmas.List.Sums.{fold-append, fold_more}
use Rattle.std.proofs.Math.Seq.{take-add}
use Rattle.ll_list_laws.proofs.CallerLemmas.{and_true_both as both}
use Rattle.ll_lexer.specs.declared.Place.{Place}
use Rattle.ll_lexer.specs.declared.TokenKind.{TokenKind}
use Rattle.ll_lexer.specs.Spelling.{is_lower, is_upper, is_digit, is_word_byte, is_name, is_variable, is_numeral, is_number, fixed_spellings, kind_of}
use Rattle.ll_lexer.specs.Reading.{is_no_lf, after, place_at}
use Rattle.ll_lexer.proofs.Spelled.{kind-passes}

-- a place is no further than its byte
pub record Below (at : Place) (i : ℕ) : Type 0 where
  pub line : at.line ≤ i + 1
  pub column : at.column ≤ i + 1

abbrev pub begin : Place
begin = record { line = 1; column = 1 }

abbrev pub columns : Place → ℕ → Place
columns at n = record { line = at.line; column = at.column + n }

below-after : (at : Place) (b i : ℕ) → Below at i → Below (after at b) (i + 1)
below-after at b i h = by-test (b == 10)
  where
    by-test : (v : Bool) → Below (cond v (record { line = at.line + 1; column = 1 }) (record { line = at.line; column = at.column + 1 })) (i + 1)
    by-test true = record { line = omega arith; column = omega arith }
    by-test false = record { line = omega arith; column = omega arith }

below-fold : (at : Place) (i : ℕ) (bs : List ℕ) → Below at i → Below (fold after at bs) (i + length bs)
below-fold at i [] h = let e : i + 0 ≡ i = omega arith in rw e h
below-fold at i (b ∷ bs) h = let e : i + suc (length bs) ≡ (i + 1) + length bs = omega arith in rw e (below-fold (after at b) (i + 1) bs (below-after at b i h))

pub place-below : (text : List ℕ) (i : ℕ) → i ≤ length text → Below (place_at text i) i
place-below text i h =
    let e : length (take i text) ≡ i = omega (arith, length-take i text) in
    let f : Below (place_at text i) (0 + length (take i text)) = below-fold begin 0 (take i text) (record { line = omega arith; column = omega arith }) in
    let g : 0 + length (take i text) ≡ i = omega arith in rw g at f

pub place-step : (text : List ℕ) (i : ℕ) → i < length text → place_at text (i + 1) ≡ after (place_at text i) (get_or text i 0)
place-step text i h = fold_more after begin text i 0 h

no_lf-test : (b : ℕ) → is_no_lf b ≡ true → (b == 10) ≡ false
unfolding is_no_lf
no_lf-test b h = grind (arith, nat_tests)

after-no_lf : (at : Place) (b : ℕ) → is_no_lf b ≡ true → after at b ≡ columns at 1
after-no_lf at b h = rw (no_lf-test b h) refl

fold-columns : (at : Place) (bs : List ℕ) → list_all is_no_lf bs ≡ true → fold after at bs ≡ columns at (length bs)
fold-columns at [] h = let e : at.column + 0 ≡ at.column = omega arith in rw e refl
fold-columns at (b ∷ bs) h =
    let p = both (is_no_lf b) (list_all is_no_lf bs) h in
    let e : after at b ≡ columns at 1 = after-no_lf at b p.0 in
    let f : (at.column + 1) + length bs ≡ at.column + suc (length bs) = omega arith in
    ap (λ z. fold after z bs) e ∙ fold-columns (columns at 1) bs p.1 ∙ rw f refl

pub place-columns : (text : List ℕ) (i n : ℕ) → i + n ≤ length text → list_all is_no_lf (take n (drop i text)) ≡ true
    → place_at text (i + n) ≡ columns (place_at text i) n
place-columns text i n h q =
    let e : length (take n (drop i text)) ≡ n = omega (arith, length-take n (drop i text), length-drop i text) in
    rw take-add (fold-append after begin (take i text) (take n (drop i text)) ∙ fold-columns (place_at text i) (take n (drop i text)) q ∙ rw e refl)

-- ---- no token has an LF

all-imply : (p q : ℕ → Bool) (bs : List ℕ) → ((b : ℕ) → p b ≡ true → q b ≡ true) → list_all p bs ≡ true → list_all q bs ≡ true
all-imply p q [] f h = refl
all-imply p q (b ∷ bs) f h = let g = both (p b) (list_all p bs) h in rw (f b g.0, all-imply p q bs f g.1) refl

lower-no_lf : (b : ℕ) → is_lower b ≡ true → is_no_lf b ≡ true
unfolding is_lower is_no_lf
lower-no_lf b h = grind (arith, nat_tests)

upper-no_lf : (b : ℕ) → is_upper b ≡ true → is_no_lf b ≡ true
unfolding is_upper is_no_lf
upper-no_lf b h = grind (arith, nat_tests)

bar-no_lf : (b : ℕ) → (is_upper b || b == 95) ≡ true → is_no_lf b ≡ true
unfolding is_upper is_no_lf
bar-no_lf b h = grind (arith, nat_tests)

dash-no_lf : (b : ℕ) → (b == 45) ≡ true → is_no_lf b ≡ true
unfolding is_no_lf
dash-no_lf b h = grind (arith, nat_tests)

digit-no_lf : (b : ℕ) → is_digit b ≡ true → is_no_lf b ≡ true
unfolding is_digit is_no_lf
digit-no_lf b h = grind (arith, nat_tests)

word_byte-no_lf : (b : ℕ) → is_word_byte b ≡ true → is_no_lf b ≡ true
unfolding is_word_byte is_no_lf
word_byte-no_lf b h = grind (arith, nat_tests)

name-no_lf : (w : List ℕ) → is_name w ≡ true → list_all is_no_lf w ≡ true
name-no_lf [] h = absurd cc
name-no_lf (b ∷ bs) h =
    let g = both (is_lower b) (list_all is_word_byte bs) h in
    rw (lower-no_lf b g.0, all-imply is_word_byte is_no_lf bs word_byte-no_lf g.1) refl

variable-no_lf : (w : List ℕ) → is_variable w ≡ true → list_all is_no_lf w ≡ true
variable-no_lf [] h = absurd cc
variable-no_lf (b ∷ []) h = rw (upper-no_lf b h) refl
variable-no_lf (b ∷ c ∷ bs) h =
    let g = both (is_upper b || b == 95) (list_all is_word_byte (c ∷ bs)) h in
    rw (bar-no_lf b g.0) (all-imply is_word_byte is_no_lf (c ∷ bs) word_byte-no_lf g.1)

numeral-no_lf : (w : List ℕ) → is_numeral w ≡ true → list_all is_no_lf w ≡ true
numeral-no_lf [] h = absurd cc
numeral-no_lf (b ∷ bs) h = all-imply is_digit is_no_lf (b ∷ bs) digit-no_lf h

number-no_lf : (w : List ℕ) → is_number w ≡ true → list_all is_no_lf w ≡ true
number-no_lf [] h = absurd cc
number-no_lf (b ∷ bs) h = by-dash (b == 45) refl h
  where
    by-dash : (v : Bool) → (b == 45) ≡ v → cond v (is_numeral bs) (is_numeral (b ∷ bs)) ≡ true → list_all is_no_lf (b ∷ bs) ≡ true
    by-dash true e g = rw (dash-no_lf b e) (numeral-no_lf bs g)
    by-dash false e g = numeral-no_lf (b ∷ bs) g

pub token-no_lf : (w : List ℕ) (k : TokenKind) → kind_of w ≡ Some k → list_all is_no_lf w ≡ true
unfolding is_no_lf fixed_spellings
token-no_lf w k h = kind-passes (λ w j. list_all is_no_lf w) w k refl record { names = name-no_lf; variables = variable-no_lf; numbers = number-no_lf } h
