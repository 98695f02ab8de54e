-- The names that bytes mention, piece by piece.
use Rattle.std.proofs.Common.{◌≡◌, ℕ, suc, ◌<◌, ◌^◌, Bool, true, false, List, [], ◌∷◌, ◌++◌, length, drop, refl, ap, sym, ◌∙◌, arith, decimal, codes}
use Rattle.std.proofs.Common.{append_assoc, append-nil, ℤ, pos, negsuc, All, FitsSigned}
use Rattle.std.specs.Prelude.{◌&&◌, not, ◌==◌, if◌then◌else◌}
use Rattle.std.specs.Fmt.{signed_decimal}
use Rattle.std.specs.Int.{w64}
use Rattle.std.specs.List.{list_all, flat_map}
use Rattle.std.proofs.lemmas.List.Sums.{fold-append}
use Rattle.std.proofs.lemmas.List.Folds.{list_all-append}
use Rattle.std.proofs.lemmas.List.Elements.{All-head, All-tail}
use Rattle.std.proofs.lemmas.Bool.Decides.{nat_tests}
use Rattle.std.proofs.Math.Seq.{drop-append_seam}
use Rattle.ll_list_laws.proofs.CallerLemmas.{false_from_not as turned, and_true_both as both, and_true_left as and_left, and_true_right as and_right}
use Rattle.ll_bank.specs.Names.{with_name, with_names}
use Rattle.ll_lexer.specs.Spelling.{is_name, is_lower, is_word_byte}
use Rattle.ll_laws.specs.Line.{PartLine, Labels, Free}
use Rattle.ll_laws.specs.ProofText.{field, labels_text, set_text, part_field}
use Rattle.ll_prooftext.specs.Admitted.{AreLabels, IsSpelledPart}
use Rattle.ll_prooftext.specs.Reading.{IsAtEnd, line_end, space, first_word}
use Rattle.ll_prooftext.specs.Words.{is_not, Stops, ended, at_byte}
use Rattle.ll_prooftext.specs.Terms.{is_part}
use Rattle.ll_prooftext.specs.Mentions.{Scan, Outside, Inside, Halfway, scanned, word_run, name_here, mentions, line_names}
use Rattle.ll_prooftext.proofs.spelling.Cuts.{first, tail}
use Rattle.ll_prooftext.proofs.reading.Labels.{is_figure, decimal_figures, figures_pass, behind_text, labels_split}
use Rattle.ll_prooftext.proofs.spelling.Numerals.{mag_small}

-- ---- bytes

lower_word : (b : ℕ) → is_lower b ≡ true → is_word_byte b ≡ true
unfolding is_lower is_word_byte
lower_word b h = grind (arith, nat_tests)

no_word_no_lower : (b : ℕ) → is_word_byte b ≡ false → is_lower b ≡ false
no_word_no_lower b h = by_test (is_lower b) refl
  where
    by_test : (v : Bool) → is_lower b ≡ v → v ≡ false
    by_test false t = refl
    by_test true t = let x : is_word_byte b ≡ true = lower_word b t in let y : ⊥ = cc in absurd y

no_part_no_word : (b : ℕ) → is_part b ≡ false → is_word_byte b ≡ false
unfolding is_word_byte
no_part_no_word b h = grind (arith, nat_tests)

-- no small letter, and no `:`
abbrev pub is_quiet : ℕ → Bool
is_quiet b = not (is_lower b) && is_not 58 b

figure_quiet : (b : ℕ) → is_figure b ≡ true → is_quiet b ≡ true
unfolding is_lower
figure_quiet b h = grind (arith, nat_tests)

-- ---- scans

-- not behind the first byte of `::`
abbrev is_settled : Scan → Bool
is_settled Outside = true
is_settled Inside = true
is_settled Halfway = false

settled_by : (v c : Bool) → c ≡ false → is_settled (if v then Inside else if c then Halfway else Outside) ≡ true
settled_by true c e = refl
settled_by false false e = refl
settled_by false true e = absurd cc

colon_settled : (s : Scan) → is_settled s ≡ true → (b : ℕ) → is_not 58 b ≡ true → is_settled (scanned s b) ≡ true
unfolding scanned
colon_settled Outside t b h = settled_by (is_word_byte b) (b == 58) (turned (b == 58) h)
colon_settled Inside t b h = settled_by (is_word_byte b) (b == 58) (turned (b == 58) h)
colon_settled Halfway t b h = absurd cc

-- behind a word it does not matter that one was there
inside_outside : (rest : List ℕ) → Stops is_part rest → mentions Inside rest ≡ mentions Outside rest
unfolding mentions name_here scanned
inside_outside rest (ended e) = ap (mentions Inside) e ∙ sym (ap (mentions Outside) e)
inside_outside rest (at_byte b bs e f) =
    let l : is_lower b ≡ false = no_word_no_lower b (no_part_no_word b f) in
    ap (mentions Inside) e ∙ ((rw l refl) ∙ sym (ap (mentions Outside) e))

settled_outside : (s : Scan) → is_settled s ≡ true → (rest : List ℕ) → Stops is_part rest → mentions s rest ≡ mentions Outside rest
settled_outside Outside t rest h = refl
settled_outside Inside t rest h = inside_outside rest h
settled_outside Halfway t rest h = absurd cc

run_none : (rest : List ℕ) → Stops is_part rest → word_run rest ≡ []
unfolding word_run
run_none rest (ended e) = ap word_run e
run_none rest (at_byte b bs e f) = let l : is_word_byte b ≡ false = no_part_no_word b f in ap word_run e ∙ (rw l refl)

run_same : (w rest : List ℕ) → Stops is_part rest → word_run (w ++ rest) ≡ word_run w
unfolding word_run
run_same [] rest h = run_none rest h
run_same (b ∷ w) rest h = ap (λ z. if is_word_byte b then b ∷ z else []) (run_same w rest h)

name_same : (s : Scan) → is_settled s ≡ true → (b : ℕ) (w rest : List ℕ) → Stops is_part rest → name_here s b (w ++ rest) ≡ name_here s b w
unfolding name_here
name_same Outside t b w rest h = ap (λ z. if is_lower b then (b ∷ z) ∷ [] else []) (run_same w rest h)
name_same Inside t b w rest h = refl
name_same Halfway t b w rest h = absurd cc

part_no_colon : (b : ℕ) → is_part b ≡ true → is_not 58 b ≡ true
part_no_colon b h = and_right ((is_not 32 b && is_not 40 b) && is_not 41 b) (is_not 58 b) h

scan_apart : (s : Scan) → is_settled s ≡ true → (w rest : List ℕ) → list_all is_part w ≡ true → Stops is_part rest
    → mentions s (w ++ rest) ≡ mentions s w ++ mentions Outside rest
unfolding mentions
scan_apart s t [] rest h st = settled_outside s t rest st
scan_apart s t (b ∷ w) rest h st =
    let u = colon_settled s t b (part_no_colon b (first is_part b w h)) in
    let ih = scan_apart (scanned s b) u w rest (tail is_part b w h) st in
    ap (λ z. z ++ mentions (scanned s b) (w ++ rest)) (name_same s t b w rest st)
    ∙ (ap (λ z. name_here s b w ++ z) ih ∙ sym (append_assoc (name_here s b w) (mentions (scanned s b) w) (mentions Outside rest)))

-- a word, and what stands behind it
pub word_apart : (w rest : List ℕ) → list_all is_part w ≡ true → Stops is_part rest → mentions Outside (w ++ rest) ≡ mentions Outside w ++ mentions Outside rest
word_apart w rest h st = scan_apart Outside refl w rest h st

quiet_name : (s : Scan) → is_settled s ≡ true → (b : ℕ) (bs : List ℕ) → is_quiet b ≡ true → name_here s b bs ≡ []
unfolding name_here
quiet_name Outside t b bs h = let l : is_lower b ≡ false = turned (is_lower b) (and_left (not (is_lower b)) (is_not 58 b) h) in rw l refl
quiet_name Inside t b bs h = refl
quiet_name Halfway t b bs h = absurd cc

scan_quiet : (s : Scan) → is_settled s ≡ true → (w rest : List ℕ) → list_all is_quiet w ≡ true → Stops is_part rest
    → mentions s (w ++ rest) ≡ mentions Outside rest
unfolding mentions
scan_quiet s t [] rest h st = settled_outside s t rest st
scan_quiet s t (b ∷ w) rest h st =
    let q = first is_quiet b w h in
    let u = colon_settled s t b (and_right (not (is_lower b)) (is_not 58 b) q) in
    ap (λ z. z ++ mentions (scanned s b) (w ++ rest)) (quiet_name s t b (w ++ rest) q) ∙ scan_quiet (scanned s b) u w rest (tail is_quiet b w h) st

-- bytes without small letters and `:` mention nothing
pub quiet_apart : (w rest : List ℕ) → list_all is_quiet w ≡ true → Stops is_part rest → mentions Outside (w ++ rest) ≡ mentions Outside rest
quiet_apart w rest h st = scan_quiet Outside refl w rest h st

pub quiet_none : (w : List ℕ) → list_all is_quiet w ≡ true → mentions Outside w ≡ []
unfolding mentions
quiet_none w h = ap (mentions Outside) (sym (append-nil w)) ∙ quiet_apart w [] h (ended refl)

run_whole : (w : List ℕ) → list_all is_word_byte w ≡ true → word_run w ≡ w
unfolding word_run
run_whole [] h = refl
run_whole (b ∷ w) h = let a : is_word_byte b ≡ true = first is_word_byte b w h in rw a (ap (λ z. b ∷ z) (run_whole w (tail is_word_byte b w h)))

inside_none : (w : List ℕ) → list_all is_word_byte w ≡ true → mentions Inside w ≡ []
unfolding mentions name_here scanned
inside_none [] h = refl
inside_none (b ∷ w) h = let a : is_word_byte b ≡ true = first is_word_byte b w h in rw a (inside_none w (tail is_word_byte b w h))

-- a name mentions itself
pub name_mentions : (w : List ℕ) → is_name w ≡ true → mentions Outside w ≡ w ∷ []
unfolding mentions name_here scanned
name_mentions [] h = absurd cc
name_mentions (b ∷ w) h =
    let k = both (is_lower b) (list_all is_word_byte w) h in
    let l : is_lower b ≡ true = k.0 in
    let a : is_word_byte b ≡ true = lower_word b l in
    rw (l, a) (ap (λ z. (b ∷ z) ∷ mentions Inside w) (run_whole w k.1) ∙ ap (λ z. (b ∷ w) ∷ z) (inside_none w k.1))

-- ---- single bytes

pub space_mentions : (rest : List ℕ) → mentions Outside (32 ∷ rest) ≡ mentions Outside rest
unfolding mentions name_here scanned is_lower is_word_byte
space_mentions rest = refl

pub open_mentions : (rest : List ℕ) → mentions Outside (40 ∷ rest) ≡ mentions Outside rest
unfolding mentions name_here scanned is_lower is_word_byte
open_mentions rest = refl

pub close_mentions : (rest : List ℕ) → mentions Outside (41 ∷ rest) ≡ mentions Outside rest
unfolding mentions name_here scanned is_lower is_word_byte
close_mentions rest = refl

pub sign_mentions : (rest : List ℕ) → mentions Outside (58 ∷ 58 ∷ rest) ≡ codes "::" ∷ mentions Outside rest
unfolding mentions name_here scanned is_lower is_word_byte
sign_mentions rest = refl

pub nothing_mentions : mentions Outside [] ≡ []
unfolding mentions
nothing_mentions = refl

-- ---- numbers and sets

pub quiet_behind : (b : ℕ) (w : List ℕ) → is_quiet b ≡ true → list_all is_quiet w ≡ true → list_all is_quiet (b ∷ w) ≡ true
quiet_behind b w h t = rw (h, t) refl

pub quiet_join : (v w : List ℕ) → list_all is_quiet v ≡ true → list_all is_quiet w ≡ true → list_all is_quiet (v ++ w) ≡ true
quiet_join v w h t = list_all-append is_quiet v w ∙ (rw (h, t) refl)

space_quiet : is_quiet 32 ≡ true
unfolding is_lower
space_quiet = refl

minus_quiet : is_quiet 45 ≡ true
unfolding is_lower
minus_quiet = refl

pub variable_quiet : is_quiet 63 ≡ true
unfolding is_lower
variable_quiet = refl

pub row_quiet : is_quiet 64 ≡ true
unfolding is_lower
row_quiet = refl

pub eigen_quiet : is_quiet 35 ≡ true
unfolding is_lower
eigen_quiet = refl

opening_quiet : is_quiet 123 ≡ true
unfolding is_lower
opening_quiet = refl

closing_quiet : is_quiet 125 ≡ true
unfolding is_lower
closing_quiet = refl

mark_quiet : is_quiet 33 ≡ true
unfolding is_lower
mark_quiet = refl

pub decimal_quiet : (n : ℕ) → n < 2 ^ 64 → list_all is_quiet (decimal n) ≡ true
decimal_quiet n h = figures_pass is_quiet figure_quiet (decimal n) (decimal_figures n h)

pub signed_quiet : (z : ℤ) → FitsSigned w64 z → list_all is_quiet (signed_decimal z) ≡ true
signed_quiet (pos n) f = let l : n < 2 ^ 63 = mag_small (pos n) f in decimal_quiet n (omega arith)
signed_quiet (negsuc n) f = let l : n < 2 ^ 63 = mag_small (negsuc n) f in quiet_behind 45 (decimal (suc n)) minus_quiet (decimal_quiet (suc n) (omega arith))

pub number_mentions : (w : List ℕ) (z : ℤ) → FitsSigned w64 z → w ≡ signed_decimal z → mentions Outside w ≡ []
number_mentions w z f e = ap (mentions Outside) e ∙ quiet_none (signed_decimal z) (signed_quiet z f)

pub variable_mentions : (w rest : List ℕ) (n : ℕ) → n < 2 ^ 64 → w ≡ 63 ∷ rest → rest ≡ decimal n → mentions Outside w ≡ []
variable_mentions w rest n l e f = ap (mentions Outside) (e ∙ ap (λ z. 63 ∷ z) f)
    ∙ quiet_none (63 ∷ decimal n) (quiet_behind 63 (decimal n) variable_quiet (decimal_quiet n l))

pub eigen_mentions : (w rest : List ℕ) (n : ℕ) → n < 2 ^ 64 → w ≡ 35 ∷ rest → rest ≡ decimal n → mentions Outside w ≡ []
eigen_mentions w rest n l e f = ap (mentions Outside) (e ∙ ap (λ z. 35 ∷ z) f)
    ∙ quiet_none (35 ∷ decimal n) (quiet_behind 35 (decimal n) eigen_quiet (decimal_quiet n l))

labels_quiet : (ns : List ℕ) → AreLabels ns → list_all is_quiet (labels_text ns) ≡ true
labels_quiet [] a = refl
labels_quiet (n ∷ ns) a =
    let l : n < 2 ^ 32 = All-head (λ m. m < 2 ^ 32) n ns a in
    let b = All-tail (λ m. m < 2 ^ 32) n ns a in
    ap (list_all is_quiet) (labels_split n ns) ∙ quiet_join (decimal n) (behind_text ns) (decimal_quiet n (omega arith)) (others ns b (labels_quiet ns b))
  where
    others : (ms : List ℕ) → AreLabels ms → list_all is_quiet (labels_text ms) ≡ true → list_all is_quiet (behind_text ms) ≡ true
    others [] a h = refl
    others (m ∷ ms) a h = quiet_behind 32 (labels_text (m ∷ ms)) space_quiet h

pub set_quiet : (ns : List ℕ) → AreLabels ns → list_all is_quiet (set_text ns) ≡ true
set_quiet ns a = quiet_behind 123 (labels_text ns ++ 125 ∷ []) opening_quiet
    (quiet_join (labels_text ns) (125 ∷ []) (labels_quiet ns a) (quiet_behind 125 [] closing_quiet refl))

pub field_quiet : (w : List ℕ) → list_all is_quiet w ≡ true → list_all is_quiet (field w) ≡ true
field_quiet w h = quiet_behind 32 w space_quiet h

-- a premise
part_quiet : (p : PartLine) → IsSpelledPart p → list_all is_quiet (part_field p) ≡ true
part_quiet (Labels ns) a = field_quiet (set_text ns) (set_quiet ns a)
part_quiet Free a = field_quiet (33 ∷ []) (quiet_behind 33 [] mark_quiet refl)

pub parts_quiet : (ps : List PartLine) → All IsSpelledPart ps → list_all is_quiet (flat_map part_field ps) ≡ true
parts_quiet [] a = refl
parts_quiet (p ∷ ps) a = quiet_join (part_field p) (flat_map part_field ps) (part_quiet p (All-head IsSpelledPart p ps a))
    (parts_quiet ps (All-tail IsSpelledPart p ps a))

-- ---- names that are added

pub added_apart : (names more others : List (List ℕ)) → with_names names (more ++ others) ≡ with_names (with_names names more) others
added_apart names more others = fold-append with_name names more others

-- ---- lines

-- the first word of a line ends at its first space
pub first_alone : (w rest : List ℕ) → list_all (is_not 32) w ≡ true → IsAtEnd rest → first_word (w ++ rest) ≡ w
first_alone [] rest h line_end = refl
first_alone [] rest h (space {rest = bs}) = refl
first_alone (b ∷ w) rest h s = let t : (b == 32) ≡ false = turned (b == 32) (first (is_not 32) b w h) in
    rw t (ap (λ z. b ∷ z) (first_alone w rest (tail (is_not 32) b w h) s))

-- a line mentions what its fields do
pub line_mentions : (w rest : List ℕ) → list_all (is_not 32) w ≡ true → IsAtEnd rest → line_names (w ++ rest) ≡ mentions Outside rest
unfolding line_names
line_mentions w rest h s = ap (λ z. mentions Outside (drop (length z) (w ++ rest))) (first_alone w rest h s) ∙ ap (mentions Outside) (drop-append_seam w rest)
