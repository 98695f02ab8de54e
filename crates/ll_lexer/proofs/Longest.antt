-- What the first byte of a token tells of the others, and why a token is the longest.
use Rattle.std.proofs.Common.{◌≡◌, ℕ, zero, suc, ◌+◌, ◌<◌, ◌≤◌, Bool, true, false, cond, ◌&&◌, ◌||◌, ◌==◌, not, List, [], ◌∷◌, ◌++◌, length, take, drop}
use Rattle.std.proofs.Common.{get_or, Some, None, refl, sym, ◌∙◌, ap, subst, arith, codes, length-append}
use Rattle.std.specs.List.{list_all, list_any, prefix_len, starts_with}
use Rattle.std.specs.Prelude.{nat_eq}
use Rattle.std.specs.Str.{bytes_eq}
use Rattle.std.proofs.lemmas.List.{take-append-drop}
use Rattle.std.proofs.lemmas.List.Sums.{prefix_len-le-length}
use Rattle.std.proofs.lemmas.Bool.Decides.{nat_tests, Decides-eqb}
use Rattle.std.proofs.lemmas.Slice.Eq.{bytes_eq-Decides, starts_is}
use Rattle.std.proofs.lemmas.Bool.{or_parts as neither}
use Rattle.ll_list_laws.proofs.CallerLemmas.{run_passes as run-passes, and_true_both as both}
use Rattle.ll_lexer.specs.declared.TokenKind.{TokenKind}
use Rattle.ll_lexer.specs.declared.TokenKind.TheVariants.{Name, Variable, Number, Minus}
use Rattle.ll_lexer.specs.Spelling.{is_lower, is_upper, is_digit, is_word_start, is_word_byte, is_word, is_name, is_variable, is_numeral, is_number}
use Rattle.ll_lexer.specs.Spelling.{fixed_spellings, listed_kind, shaped_kind, kind_of, Spells, IsLongest, HasNone}
use Rattle.ll_lexer.proofs.Spelled.{kind-passes, ShapesPass}

-- ---- bytes

pub lower-start : (b : ℕ) → is_lower b ≡ true → is_word_start b ≡ true
unfolding is_lower is_word_start
lower-start b h = grind (arith, nat_tests)

pub upper-start : (b : ℕ) → is_upper b ≡ true → is_word_start b ≡ true
unfolding is_upper is_word_start
upper-start b h = grind (arith, nat_tests)

pub bar-start : (b : ℕ) → (is_upper b || b == 95) ≡ true → is_word_start b ≡ true
unfolding is_upper is_word_start
bar-start b h = grind (arith, nat_tests)

start-no_digit : (b : ℕ) → is_word_start b ≡ true → is_digit b ≡ false
unfolding is_word_start is_digit
start-no_digit b h = grind (arith, nat_tests)

digit-no_start : (b : ℕ) → is_digit b ≡ true → is_word_start b ≡ false
unfolding is_digit is_word_start
digit-no_start b h = grind (arith, nat_tests)

-- a byte that passes a test is none that does not
apart : (f : ℕ → Bool) (x c : ℕ) → f x ≡ true → f c ≡ false → (x == c) ≡ false
apart f x c h g = by-test (x == c) refl
  where
    by-test : (v : Bool) → (x == c) ≡ v → v ≡ false
    by-test false e = refl
    by-test true e = let d : x ≡ c = (Decides-eqb x c).0 e in let i : f c ≡ true = rw (← d) h in absurd cc

passed : (v : Bool) (w : Bool) → w ≡ true → cond v w true ≡ true
passed true w h = h
passed false w h = refl

-- ---- what the first byte tells of the others

-- where the first byte passes f, the others pass q
abbrev pub tail_test : (ℕ → Bool) → (List ℕ → Bool) → List ℕ → Bool
tail_test f q [] = true
tail_test f q (x ∷ u) = cond (f x) (q u) true

-- the same, for words, digits, and a dash before digits
record Heads (f : ℕ → Bool) (q : List ℕ → Bool) : Type 0 where
  words : (x : ℕ) (u : List ℕ) → is_word_start x ≡ true → list_all is_word_byte u ≡ true → cond (f x) (q u) true ≡ true
  digits : (x : ℕ) (u : List ℕ) → is_digit x ≡ true → list_all is_digit u ≡ true → cond (f x) (q u) true ≡ true
  dashed : (u : List ℕ) → is_numeral u ≡ true → cond (f 45) (q u) true ≡ true

heads-pass : (f : ℕ → Bool) (q : List ℕ → Bool) → Heads f q → ShapesPass (λ w k. tail_test f q w)
heads-pass f q h = record { names = names; variables = variables; numbers = numbers }
  where
    names : (w : List ℕ) → is_name w ≡ true → tail_test f q w ≡ true
    names [] e = refl
    names (x ∷ u) e = let p = both (is_lower x) (list_all is_word_byte u) e in h.words x u (lower-start x p.0) p.1

    variables : (w : List ℕ) → is_variable w ≡ true → tail_test f q w ≡ true
    variables [] e = refl
    variables (x ∷ []) e = h.words x [] (upper-start x e) refl
    variables (x ∷ c ∷ u) e = let p = both (is_upper x || x == 95) (list_all is_word_byte (c ∷ u)) e in h.words x (c ∷ u) (bar-start x p.0) p.1

    by-dash : (x : ℕ) (u : List ℕ) (v : Bool) → (x == 45) ≡ v → cond v (is_numeral u) (is_numeral (x ∷ u)) ≡ true → cond (f x) (q u) true ≡ true
    by-dash x u true e i = let d : x ≡ 45 = (Decides-eqb x 45).0 e in rw d (h.dashed u i)
    by-dash x u false e i = let p = both (is_digit x) (list_all is_digit u) i in h.digits x u p.0 p.1

    numbers : (w : List ℕ) → is_number w ≡ true → tail_test f q w ≡ true
    numbers [] e = refl
    numbers (x ∷ u) e = by-dash x u (x == 45) refl e

tail-of : (f : ℕ → Bool) (q : List ℕ → Bool) → list_all (λ e. tail_test f q e.0) fixed_spellings ≡ true → Heads f q → (x : ℕ) (u : List ℕ) (k : TokenKind)
    → f x ≡ true → kind_of (x ∷ u) ≡ Some k → q u ≡ true
tail-of f q t h x u k e s = let g : cond (f x) (q u) true ≡ true = kind-passes (λ w j. tail_test f q w) (x ∷ u) k t (heads-pass f q h) s in rw e at g

pub word-tail : (x : ℕ) (u : List ℕ) (k : TokenKind) → is_word_start x ≡ true → kind_of (x ∷ u) ≡ Some k → list_all is_word_byte u ≡ true
unfolding is_word_start is_word_byte fixed_spellings
word-tail = tail-of is_word_start (list_all is_word_byte) refl record {
  words = λ x u a b. passed (is_word_start x) (list_all is_word_byte u) b;
  digits = λ x u a b. rw (digit-no_start x a) refl;
  dashed = λ u a. refl;
}

digit-tail : (x : ℕ) (u : List ℕ) (k : TokenKind) → is_digit x ≡ true → kind_of (x ∷ u) ≡ Some k → list_all is_digit u ≡ true
unfolding is_digit fixed_spellings
digit-tail = tail-of is_digit (list_all is_digit) refl record {
  words = λ x u a b. rw (start-no_digit x a) refl;
  digits = λ x u a b. passed (is_digit x) (list_all is_digit u) b;
  dashed = λ u a. refl;
}

-- behind the first byte of a sign: one of these tails
abbrev pub one_of : List (List ℕ) → List ℕ → Bool
one_of ts u = list_any (λ t. bytes_eq t u) ts

-- behind a dash: digits, `o`, `->` or nothing
abbrev pub dash_tails : List (List ℕ)
dash_tails = codes "o" ∷ codes "->" ∷ []

abbrev dash_tail : List ℕ → Bool
dash_tail u = is_numeral u || one_of ([] ∷ dash_tails) u

dash-tail : (u : List ℕ) (k : TokenKind) → kind_of (45 ∷ u) ≡ Some k → dash_tail u ≡ true
unfolding is_digit is_word_start fixed_spellings
dash-tail u k s = tail-of (λ x. x == 45) dash_tail refl record {
  words = λ x u a b. rw (apart is_word_start x 45 a refl) refl;
  digits = λ x u a b. rw (apart is_digit x 45 a refl) refl;
  dashed = λ u a. rw a refl;
} 45 u k refl s

sign-tail : (b : ℕ) (ts : List (List ℕ)) → is_word_start b ≡ false → is_digit b ≡ false → (45 == b) ≡ false
    → list_all (λ e. tail_test (λ x. x == b) (one_of ts) e.0) fixed_spellings ≡ true → (u : List ℕ) (k : TokenKind) → kind_of (b ∷ u) ≡ Some k
    → one_of ts u ≡ true
sign-tail b ts n d m t u k s = tail-of (λ x. x == b) (one_of ts) t record {
  words = λ x u a c. rw (apart is_word_start x b a n) refl;
  digits = λ x u a c. rw (apart is_digit x b a d) refl;
  dashed = λ u a. rw m refl;
} b u k ((Decides-eqb b b).1 refl) s

-- the bytes with which signs begin, but for the dash
abbrev pub is_sign_start : ℕ → Bool
is_sign_start b = list_any (λ c. c == b) (codes ".,&;(){}:<=+*" ++ 92 ∷ [])

abbrev pub begins : ℕ → Bool
begins b = ((is_word_start b || is_digit b) || b == 45) || is_sign_start b

pub first-begins : (x : ℕ) (u : List ℕ) (k : TokenKind) → begins x ≡ false → kind_of (x ∷ u) ≡ Some k → ⊥
unfolding is_digit is_word_start fixed_spellings
first-begins x u k n s =
    let f : false ≡ true = tail-of (λ x. not (begins x)) (λ u. false) refl record {
      words = λ x u a b. rw a refl;
      digits = λ x u a b. rw (digit-no_start x a, a) refl;
      dashed = λ u a. refl;
    } x u k (rw n refl) s in absurd cc

-- ---- runs

run-longest : (p : ℕ → Bool) (bs : List ℕ) (m : ℕ) → prefix_len p bs < m → m ≤ length bs → list_all p (take m bs) ≡ true → ⊥
run-longest p [] m h le t = absurd (omega arith)
run-longest p (b ∷ bs) zero h le t = absurd (omega arith)
run-longest p (b ∷ bs) (suc m) h le t = by-test (p b) refl (run-longest p bs m)
  where
    by-test : (v : Bool) → p b ≡ v → (prefix_len p bs < m → m ≤ length bs → list_all p (take m bs) ≡ true → ⊥) → ⊥
    by-test false e ih = let f : false ≡ true = rw e at t in absurd cc
    by-test true e ih =
        let g : 1 + prefix_len p bs < suc m = rw e at h in
        let u : list_all p (take m bs) ≡ true = rw e at t in
        ih (omega arith) (omega arith) u

-- ---- the longest token

run-is : (p : ℕ → Bool) (bs : List ℕ) → 1 + prefix_len p bs ≡ suc (prefix_len p bs)
run-is p bs = omega arith

-- a word, as far as its bytes go
pub word-shaped : (b : ℕ) (bs : List ℕ) → is_word_start b ≡ true → is_word (take (1 + prefix_len is_word_byte bs) (b ∷ bs)) ≡ true
word-shaped b bs h = rw (run-is is_word_byte bs, h) (run-passes is_word_byte bs)

pub word-longest : (b : ℕ) (bs : List ℕ) (k : TokenKind) → is_word_start b ≡ true → Spells k (take (1 + prefix_len is_word_byte bs) (b ∷ bs))
    → IsLongest (b ∷ bs) k (1 + prefix_len is_word_byte bs)
word-longest b bs k h s = record {
  within = omega (arith, prefix_len-le-length is_word_byte bs);
  spells = s;
  longest = beyond;
}
  where
    beyond : (j : TokenKind) (m : ℕ) → 1 + prefix_len is_word_byte bs < m → m ≤ length (b ∷ bs) → Spells j (take m (b ∷ bs)) → ⊥
    beyond j zero lt le t = absurd (omega arith)
    beyond j (suc m) lt le t = run-longest is_word_byte bs m (omega arith) (omega arith) (word-tail b (take m bs) j h t)

-- a list gives nothing to what passes a test that no entry passes
unlisted : (p : List ℕ → Bool) (es : List (List ℕ × TokenKind)) (w : List ℕ) → list_all (λ e. not (p e.0)) es ≡ true → p w ≡ true → listed_kind es w ≡ None
unlisted p [] w h t = refl
unlisted p (entry ∷ more) w h t = by-test (bytes_eq entry.0 w) refl (both (not (p entry.0)) (list_all (λ e. not (p e.0)) more) h) (unlisted p more w)
  where
    by-test : (v : Bool) → bytes_eq entry.0 w ≡ v → (not (p entry.0) ≡ true) × (list_all (λ e. not (p e.0)) more ≡ true)
        → (list_all (λ e. not (p e.0)) more ≡ true → p w ≡ true → listed_kind more w ≡ None)
        → cond (bytes_eq entry.0 w) (Some entry.1) (listed_kind more w) ≡ None
    by-test true q f ih =
        let e : entry.0 ≡ w = (bytes_eq-Decides entry.0 w).0 q in
        let g : not (p w) ≡ true = rw e at f.0 in
        let i : not true ≡ true = rw t at g in absurd cc
    by-test false q f ih = rw q (ih f.1 t)

abbrev pub begins_with : (ℕ → Bool) → List ℕ → Bool
begins_with f [] = false
begins_with f (x ∷ u) = f x

digit-facts : (b : ℕ) → is_digit b ≡ true → (is_lower b ≡ false) × (is_upper b ≡ false) × ((b == 95) ≡ false) × ((b == 45) ≡ false)
unfolding is_digit is_lower is_upper
digit-facts b h = (grind (arith, nat_tests), grind (arith, nat_tests), grind (arith, nat_tests), grind (arith, nat_tests))

shaped-digits : (b : ℕ) (u : List ℕ) → is_digit b ≡ true → list_all is_digit u ≡ true → shaped_kind (b ∷ u) ≡ Some Number
shaped-digits b [] h a = let f = digit-facts b h in rw (f.0, f.1, f.3, h) refl
shaped-digits b (c ∷ u) h a = let f = digit-facts b h in rw (f.0, f.1, f.2, f.3, h, a) refl

digits-number : (b : ℕ) (u : List ℕ) → is_digit b ≡ true → list_all is_digit u ≡ true → kind_of (b ∷ u) ≡ Some Number
unfolding is_digit fixed_spellings kind_of
digits-number b u h a = rw (unlisted (begins_with is_digit) fixed_spellings (b ∷ u) refl h) (shaped-digits b u h a)

pub number-longest : (b : ℕ) (bs : List ℕ) → is_digit b ≡ true → IsLongest (b ∷ bs) Number (1 + prefix_len is_digit bs)
number-longest b bs h = record {
  within = omega (arith, prefix_len-le-length is_digit bs);
  spells = rw (run-is is_digit bs) (digits-number b (take (prefix_len is_digit bs) bs) h (run-passes is_digit bs));
  longest = beyond;
}
  where
    beyond : (j : TokenKind) (m : ℕ) → 1 + prefix_len is_digit bs < m → m ≤ length (b ∷ bs) → Spells j (take m (b ∷ bs)) → ⊥
    beyond j zero lt le t = absurd (omega arith)
    beyond j (suc m) lt le t = run-longest is_digit bs m (omega arith) (omega arith) (digit-tail b (take m bs) j h t)

-- a dash, then digits as far as they go
abbrev dash_digit : List ℕ → Bool
dash_digit [] = false
dash_digit (x ∷ u) = x == 45 && begins_with is_digit u

dashed-number : (c : ℕ) (u : List ℕ) → is_digit c ≡ true → list_all is_digit u ≡ true → kind_of (45 ∷ c ∷ u) ≡ Some Number
unfolding is_digit is_lower is_upper fixed_spellings kind_of
dashed-number c u h a = rw (unlisted dash_digit fixed_spellings (45 ∷ c ∷ u) refl h) (shaped c u h a)
  where
    shaped : (c : ℕ) (u : List ℕ) → is_digit c ≡ true → list_all is_digit u ≡ true → shaped_kind (45 ∷ c ∷ u) ≡ Some Number
    shaped c u h a = rw (h, a) refl

o-no_digit : is_digit 111 ≡ false
unfolding is_digit
o-no_digit = refl

dash-no_digit : is_digit 45 ≡ false
unfolding is_digit
dash-no_digit = refl

dash-digits : (u : List ℕ) (k : TokenKind) (c : ℕ) → is_digit c ≡ true → kind_of (45 ∷ c ∷ u) ≡ Some k → list_all is_digit u ≡ true
dash-digits u k c h s =
    let t : dash_tail (c ∷ u) ≡ true = dash-tail (c ∷ u) k s in
    let v : ((is_digit c && list_all is_digit u) || false) ≡ true = rw (no-digit c 111 h o-no_digit, no-digit c 45 h dash-no_digit) at t in
    by-or (list_all is_digit u) (rw h at v)
  where
    no-digit : (x c : ℕ) → is_digit x ≡ true → is_digit c ≡ false → (c == x) ≡ false
    no-digit x c h g = apart (λ z. not (is_digit z)) c x (rw g refl) (rw h refl)

    by-or : (v : Bool) → (v || false) ≡ true → v ≡ true
    by-or true e = refl
    by-or false e = e

pub negative-longest : (c : ℕ) (bs : List ℕ) → is_digit c ≡ true → IsLongest (45 ∷ c ∷ bs) Number (1 + (1 + prefix_len is_digit bs))
negative-longest c bs h = rw two record {
  within = omega (arith, prefix_len-le-length is_digit bs);
  spells = dashed-number c (take (prefix_len is_digit bs) bs) h (run-passes is_digit bs);
  longest = beyond;
}
  where
    two : 1 + (1 + prefix_len is_digit bs) ≡ suc (suc (prefix_len is_digit bs))
    two = omega arith

    beyond : (j : TokenKind) (m : ℕ) → suc (suc (prefix_len is_digit bs)) < m → m ≤ length (45 ∷ c ∷ bs) → Spells j (take m (45 ∷ c ∷ bs)) → ⊥
    beyond j zero lt le t = absurd (omega arith)
    beyond j (suc zero) lt le t = absurd (omega arith)
    beyond j (suc (suc m)) lt le t = run-longest is_digit bs m (omega arith) (omega arith) (dash-digits (take m bs) j c h t)

-- ---- signs

take-beyond : (p bs : List ℕ) (m : ℕ) → length p < m → m ≤ length (p ++ bs) → (d : ℕ) × (w : List ℕ) × (take m (p ++ bs) ≡ p ++ d ∷ w)
take-beyond p bs zero h l = absurd (omega arith)
take-beyond [] [] (suc m) h l = absurd (omega arith)
take-beyond [] (d ∷ es) (suc m) h l = (d, take m es, refl)
take-beyond (x ∷ p) bs (suc m) h l = let r = take-beyond p bs m (omega arith) (omega arith) in (r.0, r.1, ap (λ z. x ∷ z) r.2)

take-front : (p bs : List ℕ) → take (length p) (p ++ bs) ≡ p
take-front [] bs = refl
take-front (x ∷ p) bs = ap (λ z. x ∷ z) (take-front p bs)

-- a sign that no token goes on with
pub sign-longest : (b : ℕ) (t rest : List ℕ) (k : TokenKind) → starts_with nat_eq rest t ≡ true → kind_of (b ∷ t) ≡ Some k
    → ((d : ℕ) (w : List ℕ) → kind_of (b ∷ (t ++ d ∷ w)) ≡ None) → IsLongest (b ∷ rest) k (suc (length t))
sign-longest b t rest k h s n =
    let e : rest ≡ t ++ drop (length t) rest = (starts_is Decides-eqb rest t _ refl).0 h in
    subst (λ z. IsLongest (b ∷ z) k (suc (length t))) (sym e) (found (drop (length t) rest))
  where
    found : (bs : List ℕ) → IsLongest (b ∷ (t ++ bs)) k (suc (length t))
    found bs = record {
      within = omega (arith, length-append t bs);
      spells = rw (take-front t bs) s;
      longest = λ j m lt le g. let r = take-beyond (b ∷ t) bs m lt le in let f : None ≡ Some j = sym (n r.0 r.1) ∙ rw r.2 at g in absurd cc;
    }

pub nonempty : (j : TokenKind) → kind_of [] ≡ Some j → ⊥
unfolding kind_of fixed_spellings
nonempty j s = let f : None ≡ Some j = s in absurd cc

-- what begins with none of the tails is none of them, however much of it is taken
one_of-take : (ts : List (List ℕ)) (rest : List ℕ) (m : ℕ) → list_any (λ t. starts_with nat_eq rest t) ts ≡ false → one_of ts (take m rest) ≡ true → ⊥
one_of-take [] rest m h g = absurd cc
one_of-take (t ∷ ts) rest m h g = by-test (bytes_eq t (take m rest)) refl (neither (starts_with nat_eq rest t) (list_any (λ t. starts_with nat_eq rest t) ts) h)
    (one_of-take ts rest m)
  where
    by-test : (v : Bool) → bytes_eq t (take m rest) ≡ v → (starts_with nat_eq rest t ≡ false) × (list_any (λ t. starts_with nat_eq rest t) ts ≡ false)
        → (list_any (λ t. starts_with nat_eq rest t) ts ≡ false → one_of ts (take m rest) ≡ true → ⊥) → ⊥
    by-test true e n ih =
        let d : t ≡ take m rest = (bytes_eq-Decides t (take m rest)).0 e in
        let r : rest ≡ t ++ drop m rest = sym (take-append-drop m rest) ∙ ap (λ z. z ++ drop m rest) (sym d) in
        let s : starts_with nat_eq rest t ≡ true = (starts_is Decides-eqb rest t _ refl).1 (drop m rest) r in absurd cc
    by-test false e n ih = ih n.1 (rw e at g)

pub sign-none : (b : ℕ) (ts : List (List ℕ)) (rest : List ℕ) → is_word_start b ≡ false → is_digit b ≡ false → (45 == b) ≡ false
    → list_all (λ e. tail_test (λ x. x == b) (one_of ts) e.0) fixed_spellings ≡ true → list_any (λ t. starts_with nat_eq rest t) ts ≡ false → HasNone (b ∷ rest)
sign-none b ts rest n d m t h j zero le s = nonempty j s
sign-none b ts rest n d m t h j (suc i) le s = one_of-take ts rest i h (sign-tail b ts n d m t (take i rest) j s)

-- a dash, then digits
pub dashed-longest : (rest : List ℕ) (n : ℕ) → n ≡ prefix_len is_digit rest → 0 < n → IsLongest (45 ∷ rest) Number (1 + n)
dashed-longest [] n e h = absurd (omega arith)
dashed-longest (c ∷ bs) n e h = by-test (is_digit c) refl
  where
    by-test : (v : Bool) → is_digit c ≡ v → IsLongest (45 ∷ c ∷ bs) Number (1 + n)
    by-test true d = let f : n ≡ 1 + prefix_len is_digit bs = rw d at e in rw f (negative-longest c bs d)
    by-test false d = let f : n ≡ 0 = rw d at e in absurd (omega arith)

-- the same behind one byte, which may stand alone
beyond-one : (ts : List (List ℕ)) (rest : List ℕ) (i : ℕ) → suc i ≤ length rest → list_any (λ t. starts_with nat_eq rest t) ts ≡ false
    → one_of ([] ∷ ts) (take (suc i) rest) ≡ true → ⊥
beyond-one ts [] i le h g = absurd (omega arith)
beyond-one ts (c ∷ bs) i le h g = one_of-take ts (c ∷ bs) (suc i) h g

-- a sign of one byte, which longer ones begin with
pub short-longest : (b : ℕ) (ts : List (List ℕ)) (rest : List ℕ) (k : TokenKind) → is_word_start b ≡ false → is_digit b ≡ false → (45 == b) ≡ false
    → list_all (λ e. tail_test (λ x. x == b) (one_of ([] ∷ ts)) e.0) fixed_spellings ≡ true → kind_of (b ∷ []) ≡ Some k
    → list_any (λ t. starts_with nat_eq rest t) ts ≡ false → IsLongest (b ∷ rest) k 1
short-longest b ts rest k n d m t s h = record { within = omega arith; spells = s; longest = beyond }
  where
    beyond : (j : TokenKind) (i : ℕ) → 1 < i → i ≤ length (b ∷ rest) → Spells j (take i (b ∷ rest)) → ⊥
    beyond j zero lt le g = absurd (omega arith)
    beyond j (suc zero) lt le g = absurd (omega arith)
    beyond j (suc (suc i)) lt le g = beyond-one ts rest i (omega arith) h (sign-tail b ([] ∷ ts) n d m t (take (suc i) rest) j g)

minus-spelled : kind_of (45 ∷ []) ≡ Some Minus
unfolding fixed_spellings kind_of
minus-spelled = refl

-- a dash that nothing longer begins with
pub minus-longest : (rest : List ℕ) → prefix_len is_digit rest ≡ 0 → list_any (λ t. starts_with nat_eq rest t) dash_tails ≡ false
    → IsLongest (45 ∷ rest) Minus 1
minus-longest rest d t = record { within = omega arith; spells = minus-spelled; longest = beyond }
  where
    no-numeral : (rest : List ℕ) (i : ℕ) → prefix_len is_digit rest ≡ 0 → is_numeral (take i rest) ≡ true → ⊥
    no-numeral rest zero d e = absurd cc
    no-numeral [] (suc i) d e = absurd cc
    no-numeral (c ∷ bs) (suc i) d e =
        let h = both (is_digit c) (list_all is_digit (take i bs)) e in
        let f : 1 + prefix_len is_digit bs ≡ 0 = rw h.0 at d in absurd (omega arith)

    by-numeral : (i : ℕ) (v : Bool) → suc i ≤ length rest → is_numeral (take (suc i) rest) ≡ v → (v || one_of ([] ∷ dash_tails) (take (suc i) rest)) ≡ true → ⊥
    by-numeral i true le e g = no-numeral rest (suc i) d e
    by-numeral i false le e g = beyond-one dash_tails rest i le t g

    beyond : (j : TokenKind) (i : ℕ) → 1 < i → i ≤ length (45 ∷ rest) → Spells j (take i (45 ∷ rest)) → ⊥
    beyond j zero lt le g = absurd (omega arith)
    beyond j (suc zero) lt le g = absurd (omega arith)
    beyond j (suc (suc i)) lt le g = by-numeral i (is_numeral (take (suc i) rest)) (omega arith) refl (dash-tail (take (suc i) rest) j g)

-- ---- words

-- what the code's test of a word says
pub keyword : (s t w : List ℕ) (k : TokenKind) → t ≡ s → true ≡ bytes_eq w t → kind_of s ≡ Some k → kind_of w ≡ Some k
keyword s t w k e b h = let d : w ≡ s = (bytes_eq-Decides w t).0 (sym b) ∙ e in rw d h

pub other_word : (s t w : List ℕ) → t ≡ s → false ≡ bytes_eq w t → bytes_eq s w ≡ false
other_word s t w e b = by-test (bytes_eq s w) refl
  where
    by-test : (v : Bool) → bytes_eq s w ≡ v → v ≡ false
    by-test false q = refl
    by-test true q =
        let d : w ≡ t = sym ((bytes_eq-Decides s w).0 q) ∙ sym e in
        let f : bytes_eq w t ≡ true = (bytes_eq-Decides w t).1 d in absurd cc

-- no keyword, and not `_`
pub record NoKeyword (w : List ℕ) : Type 0 where
  pub true_word : bytes_eq (codes "true") w ≡ false
  pub erase_word : bytes_eq (codes "erase") w ≡ false
  pub forall_word : bytes_eq (codes "forall") w ≡ false
  pub exists_word : bytes_eq (codes "exists") w ≡ false
  pub is_word : bytes_eq (codes "is") w ≡ false
  pub module_word : bytes_eq (codes "MODULE") w ≡ false
  pub local_word : bytes_eq (codes "LOCAL") w ≡ false
  pub linear_word : bytes_eq (codes "LINEAR") w ≡ false
  pub bar : bytes_eq (codes "_") w ≡ false

word-begins : (w : List ℕ) → is_word w ≡ true → begins_with is_word_start w ≡ true
word-begins [] h = h
word-begins (b ∷ bs) h = (both (is_word_start b) (list_all is_word_byte bs) h).0

-- a word that is no keyword is a name or a variable
word-kind : (w : List ℕ) → is_word w ≡ true → NoKeyword w → kind_of w ≡ shaped_kind w
unfolding fixed_spellings kind_of is_word_start
word-kind w h n =
    let t : begins_with is_word_start w ≡ true = word-begins w h in
    rw (n.true_word, n.erase_word, n.forall_word, n.exists_word, n.is_word, n.module_word, n.local_word, n.linear_word, n.bar)
    (rw (unlisted (begins_with is_word_start) (drop 9 fixed_spellings) w refl t) refl)

no-upper : (b : ℕ) → is_lower b ≡ true → is_upper b ≡ false
unfolding is_lower is_upper
no-upper b h = grind (arith, nat_tests)

upper-or-bar : (b : ℕ) → is_word_start b ≡ true → is_lower b ≡ false → (is_upper b || b == 95) ≡ true
unfolding is_lower is_upper is_word_start
upper-or-bar b h l = grind (arith, nat_tests)

pub name-spelled : (w : List ℕ) → is_word w ≡ true → is_lower (get_or w 0 0) ≡ true → NoKeyword w → kind_of w ≡ Some Name
name-spelled [] h l n = absurd cc
name-spelled (b ∷ bs) h l n = word-kind (b ∷ bs) h n ∙ (let p = both (is_word_start b) (list_all is_word_byte bs) h in rw (l, p.1) refl)

pub variable-spelled : (w : List ℕ) → is_word w ≡ true → is_lower (get_or w 0 0) ≡ false → NoKeyword w → kind_of w ≡ Some Variable
variable-spelled [] h l n = absurd cc
variable-spelled (b ∷ []) h l n =
    let p = both (is_word_start b) true h in
    word-kind (b ∷ []) h n ∙ rw (l, by-bar (is_upper b) (upper-or-bar b p.0 l)) refl
  where
    by-bar : (v : Bool) → (v || b == 95) ≡ true → v ≡ true
    by-bar true u = refl
    by-bar false u = let d : b ≡ 95 = (Decides-eqb b 95).0 u in let f : true ≡ false = rw d at n.bar in absurd cc
variable-spelled (b ∷ c ∷ bs) h l n =
    let p = both (is_word_start b) (list_all is_word_byte (c ∷ bs)) h in
    let u : (is_upper b || b == 95) ≡ true = upper-or-bar b p.0 l in
    word-kind (b ∷ c ∷ bs) h n ∙ rw (l, u, p.1) refl

pub byte-none : (b : ℕ) (rest : List ℕ) → begins b ≡ false → HasNone (b ∷ rest)
byte-none b rest h j zero le s = nonempty j s
byte-none b rest h j (suc m) le s = first-begins b (take m rest) j h s

pub none-empty : (bytes : List ℕ) → length bytes ≡ 0 → HasNone bytes
none-empty [] e j zero le s = nonempty j s
none-empty [] e j (suc m) le s = absurd (omega arith)
none-empty (b ∷ bs) e j m le s = absurd (omega arith)
