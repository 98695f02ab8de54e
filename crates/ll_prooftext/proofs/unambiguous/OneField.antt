-- A field ends at one place, and is of one kind.
use Rattle.std.proofs.Common.{◌≡◌, ℕ, ◌<◌, ◌^◌, Bool, true, false, List, [], ◌∷◌, ◌++◌, refl, ap, sym, subst, ◌∙◌, arith, decimal, append_assoc, inl, inr}
use Rattle.std.proofs.Common.{Some, None}
use Rattle.std.specs.Prelude.{◌||◌, ◌==◌, ◌⊎◌, if◌then◌else◌}
use Rattle.std.specs.List.{list_all}
use Rattle.std.proofs.lemmas.Bool.{eqb-true, or_left, or_right}
use Rattle.std.proofs.lemmas.List.{append_cancel_left, append_cancel_right}
use Rattle.ll_bank.specs.Term.{Term, Var, Int, Con, Ap}
use Rattle.ll_lexer.specs.Spelling.{is_lower}
use Rattle.ll_laws.specs.Output.{term_text, argument_text}
use Rattle.ll_laws.specs.ProofText.{labels_text}
use Rattle.ll_prooftext.specs.Admitted.{IsSpelledTerm}
use Rattle.ll_prooftext.specs.Reading.{Kind, Number, Set, Argument, Mark, Plain, Sign, Cell, Want, Nothing, Arguments, Premises, Row, More, Cells, Then}
use Rattle.ll_prooftext.specs.Reading.{after_field, IsNumber, IsSet, IsArgument, IsField, IsAtEnd, line_end, space}
use Rattle.ll_prooftext.specs.Words.{is_not, Stops, ended, at_byte}
use Rattle.ll_prooftext.specs.Terms.{is_part, Shape, Wanted, Bare, Applied, Closed, variable, number, IsWord, Frame, frame, fresh, FirstWay, first_bracket}
use Rattle.ll_prooftext.specs.Terms.{first_word, PartWay, bracket, word, sign, whole, argument, item, WaysOn, Accepts, closed, goes}
use Rattle.ll_prooftext.proofs.reading.CellsRead.{cell_free, word_free, plain_word}
use Rattle.ll_prooftext.proofs.spelling.Cuts.{one_cut}
use Rattle.ll_prooftext.proofs.reading.LinesOver.{cell_first}
use Rattle.ll_prooftext.proofs.reading.Rest.{same_row}
use Rattle.ll_prooftext.proofs.reading.Labels.{decimal_not, labels_avoid, set_found}
use Rattle.ll_prooftext.proofs.spelling.Spellings.{Starts, weaker, head_start, leaf_start, head_first, leaf_first, word_parts, one_word}
use Rattle.ll_prooftext.proofs.spelling.Reach.{is_wanted, head_word, accepts_whole}
use Rattle.ll_prooftext.proofs.spelling.Ways.{no_bracket, behind_byte, first_bracket_on, first_word_on, argument_bracket_on, argument_word_on, sign_on}
use Rattle.ll_prooftext.proofs.spelling.Ways.{close_whole, close_argument, close_item_on}

-- ---- brackets

-- where one step was taken each reading takes it
first_same : (f : List ℕ) (c : Bool) (fs : List Frame) (bytes : List ℕ) (gs : List Frame) (left : List ℕ) → FirstWay c fs bytes gs left
    → Accepts f (frame c Wanted ∷ fs) bytes → Accepts f gs left
first_same f c fs bytes gs left (first_bracket e h) a = subst (λ z. Accepts f z left) (sym h)
    (first_bracket_on f c fs left (subst (λ z. Accepts f (frame c Wanted ∷ fs) z) e a))
first_same f c fs bytes gs left (first_word w p i s e h) a = subst (λ z. Accepts f z left) (sym h) (first_word_on f c fs bytes w left p i s e a)

part_same : (f : List ℕ) (c : Bool) (p : Shape) (fs : List Frame) (bytes : List ℕ) (gs : List Frame) (left : List ℕ) → is_wanted p ≡ false
    → PartWay c p fs bytes gs left → Accepts f (frame c p ∷ fs) bytes → Accepts f gs left
part_same f c p fs bytes gs left full (bracket t e h) a = subst (λ z. Accepts f z left) (sym h)
    (argument_bracket_on f c p fs left full (subst (λ z. Accepts f (frame c p ∷ fs) z) e a))
part_same f c p fs bytes gs left full (word t w q i s e h) a =
    subst (λ z. Accepts f z left) (sym h) (argument_word_on f c p fs (w ++ left) w left q full i s refl (subst (λ z. Accepts f (frame c p ∷ fs) z) e a))
part_same f c p fs bytes gs left full (sign e h) a = subst (λ z. Accepts f z left) (sym h)
    (sign_on f c p fs left full (subst (λ z. Accepts f (frame c p ∷ fs) z) e a))
part_same f c p fs bytes gs left full (whole t n e h) a = closed h (close_whole f c p fs left full n (subst (λ z. Accepts f (frame c p ∷ fs) z) e a))
part_same f c p fs bytes gs left full (argument t d q hs n u e h) a =
    subst (λ z. Accepts f z left) (sym h) (close_argument f c p d q hs left full u
    (subst (λ z. Accepts f (frame c p ∷ frame d q ∷ hs) z) e (subst (λ z. Accepts f (frame c p ∷ z) bytes) n a)))
part_same f c p fs bytes gs left full (item t d hs n e h) a =
    subst (λ z. Accepts f z left) (sym h) (close_item_on f c p d hs left full
    (subst (λ z. Accepts f (frame c p ∷ frame d Wanted ∷ hs) z) e (subst (λ z. Accepts f (frame c p ∷ z) bytes) n a)))

way_same : (f : List ℕ) (fs : List Frame) (bytes : List ℕ) (gs : List Frame) (left : List ℕ) → WaysOn fs bytes gs left → Accepts f fs bytes → Accepts f gs left
way_same f [] bytes gs left w a = absurd w
way_same f (frame c Wanted ∷ fs) bytes gs left w a = first_same f c fs bytes gs left w a
way_same f (frame c Bare ∷ fs) bytes gs left w a = part_same f c Bare fs bytes gs left refl w a
way_same f (frame c Applied ∷ fs) bytes gs left w a = part_same f c Applied fs bytes gs left refl w a
way_same f (frame c Closed ∷ fs) bytes gs left w a = part_same f c Closed fs bytes gs left refl w a

none_open : (f : List ℕ) (fs : List Frame) (bytes : List ℕ) → fs ≡ [] → Accepts f fs bytes → bytes ≡ f
none_open f fs bytes e (closed g b) = b
none_open f [] bytes e (goes gs left w a) = absurd w
none_open f (g ∷ fs) bytes e (goes gs left w a) = absurd cc

-- the last bracket is closed at one place
one_end : (e f : List ℕ) (fs : List Frame) (bytes : List ℕ) → Accepts e fs bytes → Accepts f fs bytes → e ≡ f
one_end e f fs bytes (closed g b) a = sym b ∙ none_open f fs bytes g a
one_end e f fs bytes (goes gs left w r) a = one_end e f gs left r (way_same f fs bytes gs left w a)

-- ---- arguments

-- an argument is a word, or stands in brackets
pub data IsForm (text : List ℕ) : Type 0 where
  plain : (p : Shape) → IsWord text p → IsForm text
  bracketed : (inside : List ℕ) → text ≡ 40 ∷ (inside ++ 41 ∷ []) → ((rest : List ℕ) → Accepts rest (fresh ∷ []) (inside ++ 41 ∷ rest)) → IsForm text

pub form : (names : List (List ℕ)) (t : Term) → IsSpelledTerm names t → IsForm (argument_text t (term_text names t))
form names (Var n) s = plain Closed (variable (decimal n) refl (record { number = n; small = s; is = refl }))
form names (Int z) s = plain Closed (number (record { value = z; fits = s; is = refl }))
form names (Con h) s = plain Bare (head_word names h s)
form names (Ap f a) s = bracketed (term_text names (Ap f a)) refl (accepts_whole names (Ap f a) s refl)

pub form_of : (text : List ℕ) → IsArgument text → IsForm text
form_of text i = subst IsForm (sym i.is) (form i.names i.term i.spelled)

pub end_stops : (p : ℕ → Bool) (rest : List ℕ) → p 32 ≡ false → IsAtEnd rest → Stops p rest
end_stops p rest f line_end = ended refl
end_stops p rest f (space {rest = r}) = at_byte 32 r refl f

forms_once : (a b r s : List ℕ) → IsForm a → IsForm b → IsAtEnd r → IsAtEnd s → a ++ r ≡ b ++ s → (a ≡ b) × (r ≡ s)
forms_once a b r s (plain p i) (plain q j) x y e = one_word a r b s q (word_parts a p i) (end_stops is_part r refl x) j (end_stops is_part s refl y) e
forms_once a b r s (plain p i) (bracketed v g j) x y e = absurd (no_bracket a r ((v ++ 41 ∷ []) ++ s) p i (e ∙ ap (λ z. z ++ s) g))
forms_once a b r s (bracketed u f i) (plain q j) x y e = absurd (no_bracket b s ((u ++ 41 ∷ []) ++ r) q j (sym e ∙ ap (λ z. z ++ r) f))
forms_once a b r s (bracketed u f i) (bracketed v g j) x y e =
    let h : (u ++ 41 ∷ []) ++ r ≡ (v ++ 41 ∷ []) ++ s = behind_byte 40 ((u ++ 41 ∷ []) ++ r) ((v ++ 41 ∷ []) ++ s)
    (ap (λ z. z ++ r) (sym f) ∙ (e ∙ ap (λ z. z ++ s) g)) in
    let k : u ++ 41 ∷ r ≡ v ++ 41 ∷ s = sym (append_assoc u (41 ∷ []) r) ∙ (h ∙ append_assoc v (41 ∷ []) s) in
    let q : r ≡ s = one_end r s (fresh ∷ []) (u ++ 41 ∷ r) (i r) (subst (Accepts s (fresh ∷ [])) (sym k) (j s)) in
    (append_cancel_right a b r (e ∙ ap (λ z. b ++ z) (sym q)), q)

-- ---- fields of one kind

numbers_once : (a b r s : List ℕ) → IsNumber a → IsNumber b → IsAtEnd r → IsAtEnd s → a ++ r ≡ b ++ s → (a ≡ b) × (r ≡ s)
numbers_once a b r s i j x y e = one_cut (is_not 32) a b r s (free a i) (free b j) (end_stops (is_not 32) r refl x) (end_stops (is_not 32) s refl y) e
  where
    free : (w : List ℕ) → IsNumber w → list_all (is_not 32) w ≡ true
    free w n = ap (list_all (is_not 32)) n.is ∙ decimal_not 32 n.number (let l = n.small in omega arith) (inl (omega arith))

sets_once : (a b r s : List ℕ) → IsSet a → IsSet b → a ++ r ≡ b ++ s → (a ≡ b) × (r ≡ s)
sets_once a b r s i j e =
    let u = labels_text i.labels in
    let open_set : a ++ r ≡ 123 ∷ (u ++ 125 ∷ r) = ap (λ z. z ++ r) i.is ∙ simp append_assoc in
    let k = set_found (a ++ r) (u ++ 125 ∷ r) u (125 ∷ r) b s open_set refl (labels_avoid 125 (inr (omega arith)) refl i.labels i.small)
    (at_byte 125 r refl refl) j e in
    let q : r ≡ s = behind_byte 125 r s k.1 in
    (append_cancel_right a b r (e ∙ ap (λ z. b ++ z) (sym q)), q)

-- ---- rows have numbers of 64 bits

abbrev pub IsSmallKind : Kind → Type 0
IsSmallKind (Cell n) = n < 2 ^ 64
IsSmallKind _ = Unit {0}

abbrev pub IsSmall : Want → Type 0
IsSmall Nothing = Unit {0}
IsSmall Arguments = Unit {0}
IsSmall Premises = Unit {0}
IsSmall (Row n) = n < 2 ^ 64
IsSmall (More n) = n < 2 ^ 64
IsSmall (Cells n) = n < 2 ^ 64
IsSmall (Then k v) = IsSmallKind k × IsSmall v

same_want : (n j : ℕ) (v w : Want) → (if n == j then Some v else None) ≡ Some w → v ≡ w
same_want n j v w e = by_test (n == j) e
  where
    by_test : (t : Bool) → (if t then Some v else None) ≡ Some w → v ≡ w
    by_test true e = cc
    by_test false e = absurd cc

-- what follows a field of rows that are few has few rows too
pub small_after : (v : Want) (k : Kind) (w : Want) → after_field v k ≡ Some w → IsSmall v → IsSmallKind k × IsSmall w
small_after Nothing k w e l = absurd cc
small_after Arguments Number w e l = absurd cc
small_after Arguments Set w e l = (tt, subst IsSmall (let q : Premises ≡ w = cc in q) tt)
small_after Arguments Argument w e l = (tt, subst IsSmall (let q : Arguments ≡ w = cc in q) tt)
small_after Arguments Mark w e l = (tt, subst IsSmall (let q : Premises ≡ w = cc in q) tt)
small_after Arguments Plain w e l = absurd cc
small_after Arguments Sign w e l = absurd cc
small_after Arguments (Cell j) w e l = absurd cc
small_after Premises Number w e l = absurd cc
small_after Premises Set w e l = (tt, subst IsSmall (let q : Premises ≡ w = cc in q) tt)
small_after Premises Argument w e l = absurd cc
small_after Premises Mark w e l = (tt, subst IsSmall (let q : Premises ≡ w = cc in q) tt)
small_after Premises Plain w e l = absurd cc
small_after Premises Sign w e l = absurd cc
small_after Premises (Cell j) w e l = absurd cc
small_after (Row n) Number w e l = absurd cc
small_after (Row n) Set w e l = absurd cc
small_after (Row n) Argument w e l = absurd cc
small_after (Row n) Mark w e l = absurd cc
small_after (Row n) Plain w e l = (tt, subst IsSmall (let q : Then (Cell n) (More n) ≡ w = cc in q) (l, l))
small_after (Row n) Sign w e l = (tt, subst IsSmall (let q : Then (Cell n) (Then (Cell n) Nothing) ≡ w = cc in q) (l, (l, tt)))
small_after (Row n) (Cell j) w e l = absurd cc
small_after (More n) Number w e l = absurd cc
small_after (More n) Set w e l = absurd cc
small_after (More n) Argument w e l = absurd cc
small_after (More n) Mark w e l = absurd cc
small_after (More n) Plain w e l = absurd cc
small_after (More n) Sign w e l = absurd cc
small_after (More n) (Cell j) w e l = let q = same_row n j (Some (More n)) w e in (subst (λ m. m < 2 ^ 64) q l, subst IsSmall (same_want n j (More n) w e) l)
small_after (Cells n) Number w e l = absurd cc
small_after (Cells n) Set w e l = (tt, subst IsSmall (let q : Premises ≡ w = cc in q) tt)
small_after (Cells n) Argument w e l = absurd cc
small_after (Cells n) Mark w e l = (tt, subst IsSmall (let q : Premises ≡ w = cc in q) tt)
small_after (Cells n) Plain w e l = absurd cc
small_after (Cells n) Sign w e l = absurd cc
small_after (Cells n) (Cell j) w e l = let q = same_row n j (Some (Cells n)) w e in (subst (λ m. m < 2 ^ 64) q l, subst IsSmall (same_want n j (Cells n) w e) l)
small_after (Then Number v) Number w e l = (tt, subst IsSmall (let q : v ≡ w = cc in q) l.1)
small_after (Then Number v) Set w e l = absurd cc
small_after (Then Number v) Argument w e l = absurd cc
small_after (Then Number v) Mark w e l = absurd cc
small_after (Then Number v) Plain w e l = absurd cc
small_after (Then Number v) Sign w e l = absurd cc
small_after (Then Number v) (Cell j) w e l = absurd cc
small_after (Then Set v) Number w e l = absurd cc
small_after (Then Set v) Set w e l = (tt, subst IsSmall (let q : v ≡ w = cc in q) l.1)
small_after (Then Set v) Argument w e l = absurd cc
small_after (Then Set v) Mark w e l = absurd cc
small_after (Then Set v) Plain w e l = absurd cc
small_after (Then Set v) Sign w e l = absurd cc
small_after (Then Set v) (Cell j) w e l = absurd cc
small_after (Then Argument v) Number w e l = absurd cc
small_after (Then Argument v) Set w e l = absurd cc
small_after (Then Argument v) Argument w e l = (tt, subst IsSmall (let q : v ≡ w = cc in q) l.1)
small_after (Then Argument v) Mark w e l = absurd cc
small_after (Then Argument v) Plain w e l = absurd cc
small_after (Then Argument v) Sign w e l = absurd cc
small_after (Then Argument v) (Cell j) w e l = absurd cc
small_after (Then Mark v) Number w e l = absurd cc
small_after (Then Mark v) Set w e l = absurd cc
small_after (Then Mark v) Argument w e l = absurd cc
small_after (Then Mark v) Mark w e l = (tt, subst IsSmall (let q : v ≡ w = cc in q) l.1)
small_after (Then Mark v) Plain w e l = absurd cc
small_after (Then Mark v) Sign w e l = absurd cc
small_after (Then Mark v) (Cell j) w e l = absurd cc
small_after (Then Plain v) Number w e l = absurd cc
small_after (Then Plain v) Set w e l = absurd cc
small_after (Then Plain v) Argument w e l = absurd cc
small_after (Then Plain v) Mark w e l = absurd cc
small_after (Then Plain v) Plain w e l = (tt, subst IsSmall (let q : v ≡ w = cc in q) l.1)
small_after (Then Plain v) Sign w e l = absurd cc
small_after (Then Plain v) (Cell j) w e l = absurd cc
small_after (Then Sign v) Number w e l = absurd cc
small_after (Then Sign v) Set w e l = absurd cc
small_after (Then Sign v) Argument w e l = absurd cc
small_after (Then Sign v) Mark w e l = absurd cc
small_after (Then Sign v) Plain w e l = absurd cc
small_after (Then Sign v) Sign w e l = (tt, subst IsSmall (let q : v ≡ w = cc in q) l.1)
small_after (Then Sign v) (Cell j) w e l = absurd cc
small_after (Then (Cell n) v) Number w e l = absurd cc
small_after (Then (Cell n) v) Set w e l = absurd cc
small_after (Then (Cell n) v) Argument w e l = absurd cc
small_after (Then (Cell n) v) Mark w e l = absurd cc
small_after (Then (Cell n) v) Plain w e l = absurd cc
small_after (Then (Cell n) v) Sign w e l = absurd cc
small_after (Then (Cell n) v) (Cell j) w e l = let q = same_row n j (Some v) w e in (subst (λ m. m < 2 ^ 64) q l.0, subst IsSmall (same_want n j v w e) l.1)

pub kind_once : (k : Kind) (a b r s : List ℕ) → IsSmallKind k → IsField k a → IsField k b → IsAtEnd r → IsAtEnd s → a ++ r ≡ b ++ s → (a ≡ b) × (r ≡ s)
kind_once Number a b r s l i j x y e = numbers_once a b r s i j x y e
kind_once Set a b r s l i j x y e = sets_once a b r s i j e
kind_once Argument a b r s l i j x y e = forms_once a b r s (form_of a i) (form_of b j) x y e
kind_once Mark a b r s l i j x y e =
    let q : a ≡ b = i ∙ sym j in
    (q, append_cancel_left a r s (e ∙ ap (λ z. z ++ s) (sym q)))
kind_once Plain a b r s l i j x y e = one_cut (is_not 32) a b r s (word_free a Bare (plain_word a i)) (word_free b Bare (plain_word b j))
    (end_stops (is_not 32) r refl x) (end_stops (is_not 32) s refl y) e
kind_once Sign a b r s l i j x y e =
    let q : a ≡ b = i ∙ sym j in
    (q, append_cancel_left a r s (e ∙ ap (λ z. z ++ s) (sym q)))
kind_once (Cell n) a b r s l i j x y e = one_cut (is_not 32) a b r s (cell_free n a l i) (cell_free n b l j) (end_stops (is_not 32) r refl x)
    (end_stops (is_not 32) s refl y) e

-- ---- kinds

-- the first bytes of a field
abbrev begins : Kind → ℕ → Bool
begins Number b = true
begins Plain b = true
begins Sign b = true
begins (Cell n) b = true
begins Set b = b == 123
begins Argument b = head_start b || (leaf_start b || b == 40)
begins Mark b = b == 33

form_begins : (a : List ℕ) → IsForm a → Starts (begins Argument) a
form_begins a (plain Wanted i) = absurd i
form_begins a (plain Applied i) = absurd i
form_begins a (plain Bare i) = weaker head_start (begins Argument) a (λ b h. or_left (head_start b) (leaf_start b || b == 40) h) (head_first a i)
form_begins a (plain Closed i) = weaker leaf_start (begins Argument) a
    (λ b h. or_right (head_start b) (leaf_start b || b == 40) (or_left (leaf_start b) (b == 40) h)) (leaf_first a i)
form_begins a (bracketed u e i) = record {
  byte = 40;
  others = u ++ 41 ∷ [];
  is = e;
  passes =
      or_right (head_start 40) (leaf_start 40 || true) (or_right (leaf_start 40) true refl);
}

-- a kind that many terms and premises have
abbrev IsManyKind : Kind → Type 0
IsManyKind Set = Unit {0}
IsManyKind Argument = Unit {0}
IsManyKind Mark = Unit {0}
IsManyKind _ = ⊥

field_begins : (k : Kind) (a : List ℕ) → IsManyKind k → IsField k a → Starts (begins k) a
field_begins Number a n i = absurd n
field_begins Plain a n i = absurd n
field_begins Sign a n i = absurd n
field_begins (Cell m) a n i = absurd n
field_begins Set a n i = record { byte = 123; others = labels_text i.labels ++ 125 ∷ []; is = i.is; passes = refl }
field_begins Argument a n i = form_begins a (form_of a i)
field_begins Mark a n i = record { byte = 33; others = []; is = i; passes = refl }

-- no byte begins fields of two kinds
set_mark : (b : ℕ) → begins Set b ≡ true → begins Mark b ≡ true → ⊥
set_mark b h l = let e : b ≡ 123 = eqb-true b 123 h in let f : b ≡ 33 = eqb-true b 33 l in omega arith

set_argument : (b : ℕ) → begins Set b ≡ true → begins Argument b ≡ true → ⊥
unfolding is_lower
set_argument b h l = let e : b ≡ 123 = eqb-true b 123 h in let f : false ≡ true = ap (begins Argument) (sym e) ∙ l in let x : ⊥ = cc in x

mark_argument : (b : ℕ) → begins Mark b ≡ true → begins Argument b ≡ true → ⊥
unfolding is_lower
mark_argument b h l = let e : b ≡ 33 = eqb-true b 33 h in let f : false ≡ true = ap (begins Argument) (sym e) ∙ l in let x : ⊥ = cc in x

kinds_apart : (k j : Kind) → IsManyKind k → IsManyKind j → (b : ℕ) → begins k b ≡ true → begins j b ≡ true → k ≡ j
kinds_apart Number j n m b h l = absurd n
kinds_apart Plain j n m b h l = absurd n
kinds_apart Sign j n m b h l = absurd n
kinds_apart (Cell i) j n m b h l = absurd n
kinds_apart k Number n m b h l = absurd m
kinds_apart k Plain n m b h l = absurd m
kinds_apart k Sign n m b h l = absurd m
kinds_apart k (Cell i) n m b h l = absurd m
kinds_apart Set Set n m b h l = refl
kinds_apart Set Argument n m b h l = absurd (set_argument b h l)
kinds_apart Set Mark n m b h l = absurd (set_mark b h l)
kinds_apart Argument Set n m b h l = absurd (set_argument b l h)
kinds_apart Argument Argument n m b h l = refl
kinds_apart Argument Mark n m b h l = absurd (mark_argument b l h)
kinds_apart Mark Set n m b h l = absurd (set_mark b l h)
kinds_apart Mark Argument n m b h l = absurd (mark_argument b h l)
kinds_apart Mark Mark n m b h l = refl

begins_once : (k j : Kind) (a b r s : List ℕ) → IsManyKind k → IsManyKind j → IsField k a → IsField j b → a ++ r ≡ b ++ s → k ≡ j
begins_once k j a b r s n m i l e =
    let x = field_begins k a n i in
    let y = field_begins j b m l in
    let f : x.byte ∷ (x.others ++ r) ≡ y.byte ∷ (y.others ++ s) = ap (λ z. z ++ r) (sym x.is) ∙ (e ∙ ap (λ z. z ++ s) y.is) in
    let q : x.byte ≡ y.byte = cc in
    kinds_apart k j n m x.byte x.passes (ap (begins j) q ∙ y.passes)

-- a field that is asked for by its kind
then_kind : (m k : Kind) (v w : Want) → after_field (Then m v) k ≡ Some w → m ≡ k
then_kind Number Number v w e = refl
then_kind Set Set v w e = refl
then_kind Argument Argument v w e = refl
then_kind Mark Mark v w e = refl
then_kind Plain Plain v w e = refl
then_kind Sign Sign v w e = refl
then_kind (Cell n) (Cell j) v w e = ap Cell (same_row n j (Some v) w e)
then_kind m k v w e = absurd cc

many_kind : (k : Kind) (w : Want) → after_field Arguments k ≡ Some w → IsManyKind k
many_kind Number w e = absurd cc
many_kind Set w e = tt
many_kind Argument w e = tt
many_kind Mark w e = tt
many_kind Plain w e = absurd cc
many_kind Sign w e = absurd cc
many_kind (Cell j) w e = absurd cc

premise_kind : (k : Kind) (w : Want) → after_field Premises k ≡ Some w → IsManyKind k
premise_kind Number w e = absurd cc
premise_kind Set w e = tt
premise_kind Argument w e = absurd cc
premise_kind Mark w e = tt
premise_kind Plain w e = absurd cc
premise_kind Sign w e = absurd cc
premise_kind (Cell j) w e = absurd cc

more_kind : (n : ℕ) (k : Kind) (w : Want) → after_field (More n) k ≡ Some w → k ≡ Cell n
more_kind n Number w e = absurd cc
more_kind n Set w e = absurd cc
more_kind n Argument w e = absurd cc
more_kind n Mark w e = absurd cc
more_kind n Plain w e = absurd cc
more_kind n Sign w e = absurd cc
more_kind n (Cell j) w e = ap Cell (sym (same_row n j (Some (More n)) w e))

-- a term or a row, a set, or a mark
cells_kind : (n : ℕ) (k : Kind) (w : Want) → after_field (Cells n) k ≡ Some w → (k ≡ Cell n) ⊎ ((k ≡ Set) ⊎ (k ≡ Mark))
cells_kind n Number w e = absurd cc
cells_kind n Set w e = inr (inl refl)
cells_kind n Argument w e = absurd cc
cells_kind n Mark w e = inr (inr refl)
cells_kind n Plain w e = absurd cc
cells_kind n Sign w e = absurd cc
cells_kind n (Cell j) w e = inl (ap Cell (sym (same_row n j (Some (Cells n)) w e)))

row_kind : (n : ℕ) (k : Kind) (w : Want) → after_field (Row n) k ≡ Some w → (k ≡ Plain) ⊎ (k ≡ Sign)
row_kind n Number w e = absurd cc
row_kind n Set w e = absurd cc
row_kind n Argument w e = absurd cc
row_kind n Mark w e = absurd cc
row_kind n Plain w e = inl refl
row_kind n Sign w e = inr refl
row_kind n (Cell j) w e = absurd cc

-- no cell begins as a set or a mark, and no other head as `::`
cell_set : (n : ℕ) (a b r s : List ℕ) → IsField (Cell n) a → IsField Set b → a ++ r ≡ b ++ s → ⊥
unfolding is_lower
cell_set n a b r s i j e = cell_first n a r ((labels_text j.labels ++ 125 ∷ []) ++ s) 123 i (e ∙ ap (λ z. z ++ s) j.is) refl refl (λ x. omega arith)

cell_mark : (n : ℕ) (a b r s : List ℕ) → IsField (Cell n) a → IsField Mark b → a ++ r ≡ b ++ s → ⊥
unfolding is_lower
cell_mark n a b r s i j e = cell_first n a r s 33 i (e ∙ ap (λ z. z ++ s) j) refl refl (λ x. omega arith)

set_no_mark : (a b r s : List ℕ) → IsField Set a → IsField Mark b → a ++ r ≡ b ++ s → ⊥
set_no_mark a b r s i j e = let q : 123 ∷ ((labels_text i.labels ++ 125 ∷ []) ++ r) ≡ 33 ∷ s = ap (λ z. z ++ r) (sym i.is) ∙ (e ∙ ap (λ z. z ++ s) j) in
    let x : ⊥ = cc in x

plain_sign : (a b r s : List ℕ) → IsField Plain a → IsField Sign b → a ++ r ≡ b ++ s → ⊥
unfolding is_lower
plain_sign a b r s i j e =
    let h = head_first a (plain_word a i) in
    let q : h.byte ∷ (h.others ++ r) ≡ 58 ∷ 58 ∷ s = ap (λ z. z ++ r) (sym h.is) ∙ (e ∙ ap (λ z. z ++ s) j) in
    let k : h.byte ≡ 58 = cc in
    let t : true ≡ false = sym h.passes ∙ ap head_start k in
    let x : ⊥ = cc in x

asked_cells : (n : ℕ) (k j : Kind) (a b r s : List ℕ) → (k ≡ Cell n) ⊎ ((k ≡ Set) ⊎ (k ≡ Mark)) → (j ≡ Cell n) ⊎ ((j ≡ Set) ⊎ (j ≡ Mark)) → IsField k a
    → IsField j b → a ++ r ≡ b ++ s → k ≡ j
asked_cells n k j a b r s (inl p) (inl q) i l e = p ∙ sym q
asked_cells n k j a b r s (inr (inl p)) (inr (inl q)) i l e = p ∙ sym q
asked_cells n k j a b r s (inr (inr p)) (inr (inr q)) i l e = p ∙ sym q
asked_cells n k j a b r s (inl p) (inr (inl q)) i l e = absurd (cell_set n a b r s (subst (λ z. IsField z a) p i) (subst (λ z. IsField z b) q l) e)
asked_cells n k j a b r s (inl p) (inr (inr q)) i l e = absurd (cell_mark n a b r s (subst (λ z. IsField z a) p i) (subst (λ z. IsField z b) q l) e)
asked_cells n k j a b r s (inr (inl p)) (inl q) i l e = absurd (cell_set n b a s r (subst (λ z. IsField z b) q l) (subst (λ z. IsField z a) p i) (sym e))
asked_cells n k j a b r s (inr (inr p)) (inl q) i l e = absurd (cell_mark n b a s r (subst (λ z. IsField z b) q l) (subst (λ z. IsField z a) p i) (sym e))
asked_cells n k j a b r s (inr (inl p)) (inr (inr q)) i l e = absurd (set_no_mark a b r s (subst (λ z. IsField z a) p i) (subst (λ z. IsField z b) q l) e)
asked_cells n k j a b r s (inr (inr p)) (inr (inl q)) i l e = absurd (set_no_mark b a s r (subst (λ z. IsField z b) q l) (subst (λ z. IsField z a) p i) (sym e))

asked_row : (k j : Kind) (a b r s : List ℕ) → (k ≡ Plain) ⊎ (k ≡ Sign) → (j ≡ Plain) ⊎ (j ≡ Sign) → IsField k a → IsField j b → a ++ r ≡ b ++ s → k ≡ j
asked_row k j a b r s (inl p) (inl q) i l e = p ∙ sym q
asked_row k j a b r s (inr p) (inr q) i l e = p ∙ sym q
asked_row k j a b r s (inl p) (inr q) i l e = absurd (plain_sign a b r s (subst (λ z. IsField z a) p i) (subst (λ z. IsField z b) q l) e)
asked_row k j a b r s (inr p) (inl q) i l e = absurd (plain_sign b a s r (subst (λ z. IsField z b) q l) (subst (λ z. IsField z a) p i) (sym e))

asked_kind : (v : Want) (k j : Kind) (x y : Want) (a b r s : List ℕ) → after_field v k ≡ Some x → after_field v j ≡ Some y → IsField k a → IsField j b
    → a ++ r ≡ b ++ s → k ≡ j
asked_kind Nothing k j x y a b r s p q i l e = absurd cc
asked_kind (Then m v) k j x y a b r s p q i l e = sym (then_kind m k v x p) ∙ then_kind m j v y q
asked_kind Arguments k j x y a b r s p q i l e = begins_once k j a b r s (many_kind k x p) (many_kind j y q) i l e
asked_kind Premises k j x y a b r s p q i l e = begins_once k j a b r s (premise_kind k x p) (premise_kind j y q) i l e
asked_kind (Row n) k j x y a b r s p q i l e = asked_row k j a b r s (row_kind n k x p) (row_kind n j y q) i l e
asked_kind (More n) k j x y a b r s p q i l e = more_kind n k x p ∙ sym (more_kind n j y q)
asked_kind (Cells n) k j x y a b r s p q i l e = asked_cells n k j a b r s (cells_kind n k x p) (cells_kind n j y q) i l e

-- one field stands at the front, where what may stand there is known
pub record AreOneField (k j : Kind) (x y : Want) (a b r s : List ℕ) : Type 0 where
  pub kind : k ≡ j
  pub next : x ≡ y
  pub text : a ≡ b
  pub rest : r ≡ s

pub one_field : (v : Want) (k j : Kind) (x y : Want) (a b r s : List ℕ) → IsSmall v → after_field v k ≡ Some x → after_field v j ≡ Some y → IsField k a
    → IsField j b → IsAtEnd r → IsAtEnd s → a ++ r ≡ b ++ s → AreOneField k j x y a b r s
one_field v k j x y a b r s few p q i l m n e =
    let kind : k ≡ j = asked_kind v k j x y a b r s p q i l e in
    let t = kind_once k a b r s (small_after v k x p few).0 i (subst (λ z. IsField z b) (sym kind) l) m n e in
    let f : Some x ≡ Some y = sym p ∙ (ap (after_field v) kind ∙ q) in
    record { kind = kind; next = cc; text = t.0; rest = t.1 }
