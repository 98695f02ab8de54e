-- What is spelled as a token, and then followed by a byte that does not go on with it, is read as this token.
use Rattle.std.proofs.Common.{◌≡◌, ℕ, suc, ◌+◌, ◌≤◌, Bool, true, false, cond, ◌||◌, ◌==◌, List, [], ◌∷◌, ◌++◌, length, take, drop, codes, refl, ap, subst}
use Rattle.std.proofs.Common.{arith}
use Rattle.std.specs.List.{list_all, prefix_len, starts_with}
use Rattle.std.specs.Prelude.{nat_eq}
use Rattle.std.specs.Str.{bytes_eq}
use Rattle.std.proofs.Math.Seq.{take-append_seam}
use Rattle.std.proofs.lemmas.Bool.Decides.{Decides-eqb}
use Rattle.std.proofs.lemmas.Slice.Eq.{bytes_eq-Decides, starts_is}
use Rattle.std.proofs.lemmas.Bool.{or_parts as neither}
use Rattle.ll_list_laws.proofs.CallerLemmas.{and_true_both as both}
use Rattle.ll_lexer.specs.declared.TokenKind.{TokenKind}
use Rattle.ll_lexer.specs.declared.TokenKind.TheVariants.{Name, Variable, Any, Number, True, Erase, Forall, Exists, Is, Module, Local, Linear, Dot, Comma}
use Rattle.ll_lexer.specs.declared.TokenKind.TheVariants.{Ampersand, Semicolon, ParenLeft, ParenRight, BraceLeft, BraceRight, Backslash, Cons, ColonDash}
use Rattle.ll_lexer.specs.declared.TokenKind.TheVariants.{LeftArrow, RightArrow, Most, Less, Plus, Minus, Star, Lolli, LoadArrow}
use Rattle.ll_lexer.specs.Spelling.{is_lower, is_upper, is_digit, is_word_start, is_word_byte, is_name, is_variable, is_numeral, is_number, fixed_spellings}
use Rattle.ll_lexer.specs.Spelling.{Spells, IsLongest}
use Rattle.ll_lexer.specs.Reading.{IsSound, long_name, long_variable}
use Rattle.ll_lexer.proofs.Spelled.{kind-passes}
use Rattle.ll_lexer.proofs.Longest.{lower-start, upper-start, bar-start, begins_with, word-tail, word-longest, number-longest, negative-longest, minus-longest}
use Rattle.ll_lexer.proofs.Numerals.{number-spelled}
use Rattle.ll_lexer.proofs.Signs.{signs}

-- ---- words

-- a name of at most 255 bytes has no flaw
pub sound-name : (w : List ℕ) → length w ≤ 255 → IsSound Name w
sound-name w short kind (long_name h) = omega arith

-- and a variable
pub sound-variable : (w : List ℕ) → length w ≤ 255 → IsSound Variable w
sound-variable w short kind (long_variable h) = omega arith

-- the bytes that would go on with a token of this kind
abbrev pub goes_on : TokenKind → ℕ → Bool
goes_on Number b = is_digit b
goes_on Name b = is_word_byte b
goes_on Variable b = is_word_byte b
goes_on Any b = is_word_byte b
goes_on True b = is_word_byte b
goes_on Erase b = is_word_byte b
goes_on Forall b = is_word_byte b
goes_on Exists b = is_word_byte b
goes_on Is b = is_word_byte b
goes_on Module b = is_word_byte b
goes_on Local b = is_word_byte b
goes_on Linear b = is_word_byte b
goes_on Less b = b == 61
goes_on Minus b = is_digit b || (b == 111 || b == 45)
goes_on _ b = false

-- the bytes do not begin with one that passes
abbrev pub Ends : (ℕ → Bool) → List ℕ → Type 0
Ends p [] = Unit {0}
Ends p (b ∷ bs) = p b ≡ false

-- a sign has its one spelling, and the rest but for numbers begins as a word
fits_kind : TokenKind → List ℕ → Bool
fits_kind Number w = true
fits_kind Dot w = bytes_eq (codes ".") w
fits_kind Comma w = bytes_eq (codes ",") w
fits_kind Ampersand w = bytes_eq (codes "&") w
fits_kind Semicolon w = bytes_eq (codes ";") w
fits_kind ParenLeft w = bytes_eq (codes "(") w
fits_kind ParenRight w = bytes_eq (codes ")") w
fits_kind BraceLeft w = bytes_eq (codes "{") w
fits_kind BraceRight w = bytes_eq (codes "}") w
fits_kind Backslash w = bytes_eq (92 ∷ []) w
fits_kind Cons w = bytes_eq (codes "::") w
fits_kind ColonDash w = bytes_eq (codes ":-") w
fits_kind LeftArrow w = bytes_eq (codes "<=") w
fits_kind RightArrow w = bytes_eq (codes "=>") w
fits_kind Most w = bytes_eq (codes "=<") w
fits_kind Less w = bytes_eq (codes "<") w
fits_kind Plus w = bytes_eq (codes "+") w
fits_kind Minus w = bytes_eq (codes "-") w
fits_kind Star w = bytes_eq (codes "*") w
fits_kind Lolli w = bytes_eq (codes "-o") w
fits_kind LoadArrow w = bytes_eq (codes "-->") w
fits_kind _ w = begins_with is_word_start w

kind-fits : (k : TokenKind) (w : List ℕ) → Spells k w → fits_kind k w ≡ true
unfolding fits_kind fixed_spellings is_word_start
kind-fits k w s = kind-passes (λ w j. fits_kind j w) w k refl record { names = names; variables = variables; numbers = λ w e. refl } s
  where
    names : (w : List ℕ) → is_name w ≡ true → begins_with is_word_start w ≡ true
    names [] e = e
    names (b ∷ bs) e = lower-start b (both (is_lower b) (list_all is_word_byte bs) e).0

    variables : (w : List ℕ) → is_variable w ≡ true → begins_with is_word_start w ≡ true
    variables [] e = e
    variables (b ∷ []) e = upper-start b e
    variables (b ∷ c ∷ bs) e = bar-start b (both (is_upper b || b == 95) (list_all is_word_byte (c ∷ bs)) e).0

-- a run goes to the end of what passes
run-all : (p : ℕ → Bool) (v rest : List ℕ) → list_all p v ≡ true → Ends p rest → prefix_len p (v ++ rest) ≡ length v
run-all p [] [] h e = refl
run-all p [] (b ∷ bs) h e = rw e refl
run-all p (x ∷ v) rest h e =
    let g = both (p x) (list_all p v) h in
    let f : 1 + length v ≡ suc (length v) = omega arith in
    rw (g.0, run-all p v rest g.1 e, f) refl

-- a word and its end
word-read : (k : TokenKind) (w rest : List ℕ) → Spells k w → begins_with is_word_start w ≡ true → Ends is_word_byte rest → IsLongest (w ++ rest) k (length w)
word-read k [] rest s h e = absurd cc
word-read k (b ∷ v) rest s h e =
    let r : prefix_len is_word_byte (v ++ rest) ≡ length v = run-all is_word_byte v rest (word-tail b v k h s) e in
    let n : 1 + prefix_len is_word_byte (v ++ rest) ≡ suc (length v) = omega arith in
    let t : take (suc (length v)) (b ∷ (v ++ rest)) ≡ b ∷ v = ap (λ z. b ∷ z) (take-append_seam v rest) in
    subst (IsLongest (b ∷ (v ++ rest)) k) n (word-longest b (v ++ rest) k h (rw (n, t) s))

digits-read : (b : ℕ) (v rest : List ℕ) → is_digit b ≡ true → list_all is_digit v ≡ true → Ends is_digit rest
    → IsLongest (b ∷ (v ++ rest)) Number (suc (length v))
digits-read b v rest d a e =
    let r : prefix_len is_digit (v ++ rest) ≡ length v = run-all is_digit v rest a e in
    let n : 1 + prefix_len is_digit (v ++ rest) ≡ suc (length v) = omega arith in
    subst (IsLongest (b ∷ (v ++ rest)) Number) n (number-longest b (v ++ rest) d)

dashed-read : (v rest : List ℕ) → is_numeral v ≡ true → Ends is_digit rest → IsLongest (45 ∷ (v ++ rest)) Number (suc (length v))
dashed-read [] rest h e = absurd cc
dashed-read (c ∷ v) rest h e =
    let g = both (is_digit c) (list_all is_digit v) h in
    let r : prefix_len is_digit (v ++ rest) ≡ length v = run-all is_digit v rest g.1 e in
    let n : 1 + (1 + prefix_len is_digit (v ++ rest)) ≡ suc (suc (length v)) = omega arith in
    subst (IsLongest (45 ∷ c ∷ (v ++ rest)) Number) n (negative-longest c (v ++ rest) g.0)

number-read : (w rest : List ℕ) → is_number w ≡ true → Ends is_digit rest → IsLongest (w ++ rest) Number (length w)
number-read [] rest h e = absurd cc
number-read (b ∷ v) rest h e = by-dash (b == 45) refl h
  where
    by-dash : (t : Bool) → (b == 45) ≡ t → cond t (is_numeral v) (is_numeral (b ∷ v)) ≡ true → IsLongest ((b ∷ v) ++ rest) Number (length (b ∷ v))
    by-dash true q g = let d : b ≡ 45 = (Decides-eqb b 45).0 q in rw d (dashed-read v rest g e)
    by-dash false q g = let f = both (is_digit b) (list_all is_digit v) g in digits-read b v rest f.0 f.1 e

-- a sign, from its one spelling
sign-read : (s : List ℕ) (k : TokenKind) (w rest : List ℕ) → IsLongest (s ++ rest) k (length s) → bytes_eq s w ≡ true → IsLongest (w ++ rest) k (length w)
sign-read s k w rest l e = subst (λ z. IsLongest (z ++ rest) k (length z)) ((bytes_eq-Decides s w).0 e) l

begins-so : (t rest : List ℕ) → starts_with nat_eq (t ++ rest) t ≡ true
begins-so t rest = (starts_is Decides-eqb (t ++ rest) t _ refl).1 rest refl

-- what does not begin with a byte begins with nothing that does
no-start : (b : ℕ) (t rest : List ℕ) → Ends (λ x. x == b) rest → starts_with nat_eq rest (b ∷ t) ≡ false
no-start b t rest e = by-test (starts_with nat_eq rest (b ∷ t)) refl
  where
    by-test : (v : Bool) → starts_with nat_eq rest (b ∷ t) ≡ v → v ≡ false
    by-test false q = refl
    by-test true q =
        let d : rest ≡ (b ∷ t) ++ drop (length (b ∷ t)) rest = (starts_is Decides-eqb rest (b ∷ t) _ refl).0 q in
        let f : (b == b) ≡ false = subst (Ends (λ x. x == b)) d e in
        let g : (b == b) ≡ true = (Decides-eqb b b).1 refl in absurd cc

-- a dash that no byte goes on with
minus-alone : (rest : List ℕ) → Ends (goes_on Minus) rest → IsLongest (45 ∷ rest) Minus 1
minus-alone [] e = minus-longest [] refl refl
minus-alone (b ∷ bs) e =
    let p = neither (is_digit b) (b == 111 || b == 45) e in
    let q = neither (b == 111) (b == 45) p.1 in
    minus-longest (b ∷ bs) (rw p.0 refl) (rw (no-start 111 [] (b ∷ bs) q.0, no-start 45 (62 ∷ []) (b ∷ bs) q.1) refl)

pub spelled-read : (k : TokenKind) (w rest : List ℕ) → Spells k w → Ends (goes_on k) rest → IsLongest (w ++ rest) k (length w)
unfolding fits_kind
spelled-read Name w rest s e = word-read Name w rest s (kind-fits Name w s) e
spelled-read Variable w rest s e = word-read Variable w rest s (kind-fits Variable w s) e
spelled-read Any w rest s e = word-read Any w rest s (kind-fits Any w s) e
spelled-read Number w rest s e = number-read w rest (number-spelled w s) e
spelled-read True w rest s e = word-read True w rest s (kind-fits True w s) e
spelled-read Erase w rest s e = word-read Erase w rest s (kind-fits Erase w s) e
spelled-read Forall w rest s e = word-read Forall w rest s (kind-fits Forall w s) e
spelled-read Exists w rest s e = word-read Exists w rest s (kind-fits Exists w s) e
spelled-read Is w rest s e = word-read Is w rest s (kind-fits Is w s) e
spelled-read Module w rest s e = word-read Module w rest s (kind-fits Module w s) e
spelled-read Local w rest s e = word-read Local w rest s (kind-fits Local w s) e
spelled-read Linear w rest s e = word-read Linear w rest s (kind-fits Linear w s) e
spelled-read Dot w rest s e = sign-read (codes ".") Dot w rest (signs.dot rest) (kind-fits Dot w s)
spelled-read Comma w rest s e = sign-read (codes ",") Comma w rest (signs.comma rest) (kind-fits Comma w s)
spelled-read Ampersand w rest s e = sign-read (codes "&") Ampersand w rest (signs.ampersand rest) (kind-fits Ampersand w s)
spelled-read Semicolon w rest s e = sign-read (codes ";") Semicolon w rest (signs.semicolon rest) (kind-fits Semicolon w s)
spelled-read ParenLeft w rest s e = sign-read (codes "(") ParenLeft w rest (signs.paren_left rest) (kind-fits ParenLeft w s)
spelled-read ParenRight w rest s e = sign-read (codes ")") ParenRight w rest (signs.paren_right rest) (kind-fits ParenRight w s)
spelled-read BraceLeft w rest s e = sign-read (codes "{") BraceLeft w rest (signs.brace_left rest) (kind-fits BraceLeft w s)
spelled-read BraceRight w rest s e = sign-read (codes "}") BraceRight w rest (signs.brace_right rest) (kind-fits BraceRight w s)
spelled-read Backslash w rest s e = sign-read (92 ∷ []) Backslash w rest (signs.backslash rest) (kind-fits Backslash w s)
spelled-read Cons w rest s e = sign-read (codes "::") Cons w rest (signs.cons_sign (codes ":" ++ rest) (begins-so (codes ":") rest)) (kind-fits Cons w s)
spelled-read ColonDash w rest s e = sign-read (codes ":-") ColonDash w rest (signs.colon_dash (codes "-" ++ rest) (begins-so (codes "-") rest))
    (kind-fits ColonDash w s)
spelled-read LeftArrow w rest s e = sign-read (codes "<=") LeftArrow w rest (signs.left_arrow (codes "=" ++ rest) (begins-so (codes "=") rest))
    (kind-fits LeftArrow w s)
spelled-read RightArrow w rest s e = sign-read (codes "=>") RightArrow w rest (signs.right_arrow (codes ">" ++ rest) (begins-so (codes ">") rest))
    (kind-fits RightArrow w s)
spelled-read Most w rest s e = sign-read (codes "=<") Most w rest (signs.most (codes "<" ++ rest) (begins-so (codes "<") rest)) (kind-fits Most w s)
spelled-read Less w rest s e = sign-read (codes "<") Less w rest (signs.less rest (no-start 61 [] rest e)) (kind-fits Less w s)
spelled-read Plus w rest s e = sign-read (codes "+") Plus w rest (signs.plus rest) (kind-fits Plus w s)
spelled-read Minus w rest s e = sign-read (codes "-") Minus w rest (minus-alone rest e) (kind-fits Minus w s)
spelled-read Star w rest s e = sign-read (codes "*") Star w rest (signs.star rest) (kind-fits Star w s)
spelled-read Lolli w rest s e = sign-read (codes "-o") Lolli w rest (signs.lolli (codes "o" ++ rest) (begins-so (codes "o") rest)) (kind-fits Lolli w s)
spelled-read LoadArrow w rest s e = sign-read (codes "-->") LoadArrow w rest (signs.load_arrow (codes "->" ++ rest) (begins-so (codes "->") rest))
    (kind-fits LoadArrow w s)
