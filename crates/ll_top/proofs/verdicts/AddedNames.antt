-- The names that the text of a derivation brings spell no operator, so expressions mean the same with them.
use Rattle.std.proofs.Common.{◌≡◌, ℕ, zero, suc, Bool, true, false, List, [], ◌∷◌, ◌++◌, None, refl, ap, ◌∙◌, arith, codes, if◌then◌else◌}
use Rattle.std.specs.Prelude.{◌==◌}
use Rattle.std.specs.List.{flat_map, list_any}
use Rattle.std.specs.Str.{bytes_eq}
use Rattle.std.proofs.Math.Path.{fun_ext}
use Rattle.std.proofs.lemmas.Bool.Decides.{nat_tests}
use Rattle.std.proofs.lemmas.List.Sums.{fold-append}
use Rattle.ll_bank.specs.Names.{with_name, with_names}
use Rattle.ll_laws.specs.Number.{operator_spelled, operators_of}
use Rattle.ll_lexer.specs.Spelling.{is_lower}
use Rattle.ll_prooftext.specs.Reading.{text_lines}
use Rattle.ll_prooftext.specs.Mentions.{Scan, Outside, Inside, Halfway, scanned, word_run, name_here, mentions, line_names, text_names}

-- with these names behind others, the operators are those of the others
abbrev AddNoOperator : List (List ℕ) → Type 0
AddNoOperator more = (names : List (List ℕ)) → operators_of (with_names names more) ≡ operators_of names

-- ---- one name

behind : (names : List (List ℕ)) (w : List ℕ) → operator_spelled w ≡ None → (n : ℕ) → operators_of (names ++ w ∷ []) n ≡ operators_of names n
behind [] w h zero = h
behind [] w h (suc n) = refl
behind (x ∷ xs) w h zero = refl
behind (x ∷ xs) w h (suc n) = behind xs w h n

one-name : (w : List ℕ) → operator_spelled w ≡ None → AddNoOperator (w ∷ [])
one-name w h names = by (list_any (bytes_eq w) names)
  where
    by : (b : Bool) → operators_of (if b then names else names ++ w ∷ []) ≡ operators_of names
    by true = refl
    by false = fun_ext (behind names w h)

-- a word that begins with a small letter is none
lower-word : (b : ℕ) (bs : List ℕ) → is_lower b ≡ true → operator_spelled (b ∷ bs) ≡ None
unfolding is_lower
lower-word b bs h =
    let sum : (b == 43) ≡ false = grind (arith, nat_tests) in
    let difference : (b == 45) ≡ false = grind (arith, nat_tests) in
    let product : (b == 42) ≡ false = grind (arith, nat_tests) in
    rw (sum, difference, product) refl

-- ---- texts

more-names : (more others : List (List ℕ)) → AddNoOperator more → AddNoOperator others → AddNoOperator (more ++ others)
more-names more others h k names = ap operators_of (fold-append with_name names more others) ∙ (k (with_names names more) ∙ h names)

one-here : (s : Scan) (b : ℕ) (bs : List ℕ) → AddNoOperator (name_here s b bs)
unfolding name_here
one-here Inside b bs = λ names. refl
one-here Outside b bs = by (is_lower b) refl
  where
    by : (v : Bool) → is_lower b ≡ v → AddNoOperator (if v then (b ∷ word_run bs) ∷ [] else [])
    by true e = one-name (b ∷ word_run bs) (lower-word b (word_run bs) e)
    by false e = λ names. refl
one-here Halfway b bs = by (b == 58) (is_lower b) refl
  where
    by : (c v : Bool) → is_lower b ≡ v → AddNoOperator (if c then codes "::" ∷ [] else if v then (b ∷ word_run bs) ∷ [] else [])
    by true v e = one-name (codes "::") refl
    by false true e = one-name (b ∷ word_run bs) (lower-word b (word_run bs) e)
    by false false e = λ names. refl

all-here : (s : Scan) (bs : List ℕ) → AddNoOperator (mentions s bs)
unfolding mentions
all-here s [] = λ names. refl
all-here s (b ∷ bs) = more-names (name_here s b bs) (mentions (scanned s b) bs) (one-here s b bs) (all-here (scanned s b) bs)

all-lines : (lines : List (List ℕ)) → AddNoOperator (flat_map line_names lines)
unfolding line_names
all-lines [] = λ names. refl
all-lines (l ∷ ls) = more-names (line_names l) (flat_map line_names ls) (all-here Outside _) (all-lines ls)

-- the operators of a problem are those with the names of a derivation's text behind its own
pub same-operators : (names : List (List ℕ)) (text : List ℕ) → operators_of (with_names names (text_names text)) ≡ operators_of names
unfolding text_names
same-operators names text = all-lines (text_lines text) names
