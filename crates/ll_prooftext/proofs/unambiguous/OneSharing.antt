-- A text over a table has one first fault, or its lines are all good.
use Rattle.std.proofs.Common.{◌≡◌, ℕ, zero, suc, ◌+◌, ◌<◌, ◌≤◌, ◌^◌, Bool, true, false, List, [], ◌∷◌, ◌++◌, length, All, refl, ap, sym, subst, ◌∙◌, arith}
use Rattle.std.proofs.Common.{codes, append_assoc, append-nil, length-append, decimal, Option, Some, None, inl, inr, IsTrue}
use Rattle.std.specs.Prelude.{◌⊎◌, ◌&&◌, ◌||◌, if◌then◌else◌}
use Rattle.std.specs.List.{IsDistinct, list_all, flat_map}
use Rattle.std.specs.Str.{bytes_eq}
use Rattle.std.proofs.lemmas.Slice.Eq.{bytes_eq-Decides}
use Rattle.std.proofs.lemmas.List.Elements.{All-nil, All-cons, All-head, All-tail}
use Rattle.ll_bank.specs.declared.Head.{Head}
use Rattle.ll_bank.specs.declared.Head.TheVariants.{Name, Eigen, Bound}
use Rattle.ll_bank.specs.Term.{Term, Var, Int, Con, Ap, apply, app, is_closed}
use Rattle.ll_lexer.specs.declared.Fault.{Fault}
use Rattle.ll_lexer.specs.declared.Place.{Place}
use Rattle.ll_lexer.specs.Reading.{place_at}
use Rattle.ll_laws.specs.Output.{head_text, is_cons_head}
use Rattle.ll_laws.specs.ProofText.{field, set_text, part_field}
use Rattle.ll_laws.specs.Line.{Line, OneLine, EraseLine, TensorLine, WithLine, LeftLine, RightLine, BangLine, UseLine, LolliLine, ImpLine, ForallLine}
use Rattle.ll_laws.specs.Line.{ExistsLine, ClauseLine, NumLine, is_line, part_rises}
use Rattle.ll_prooftext.specs.Admitted.{IsPlainHead, IsSpelledTerm, IsSpelledSpine, IsSpelledLine}
use Rattle.ll_prooftext.specs.Reading.{Number, Set, Plain, Sign, Cell, Want, Nothing, Row, More, Cells, Then, after_field, IsField, IsAtEnd, line_end, space}
use Rattle.ll_prooftext.specs.Reading.{listed, first_word, text_lines, children, missing, is_none, HasBadField, HasNoVersion}
use Rattle.ll_prooftext.specs.Words.{is_not}
use Rattle.ll_prooftext.specs.Sharing.{StandsFor, itself, by_row, AreCells, no_cells, next_cell}
use Rattle.ll_prooftext.specs.Sharing.{IsShare, AreShares, no_shares, next_share, IsLet, IsStep, AreEach}
use Rattle.ll_prooftext.specs.SharedLines.{node_words_over, let_words_over, want_over}
use Rattle.ll_prooftext.specs.Reading2.{IsOff, BeginsOver, derivation, line_behind, HasFault2, version2, unknown_word2, bad_field2, nodes_missing2, left_over2}
use Rattle.ll_prooftext.specs.Reading2.{off_table}
use Rattle.ll_prooftext.proofs.spelling.Cuts.{one_cut}
use Rattle.ll_prooftext.proofs.reading.CellsRead.{cells_after, more_after, cell_then}
use Rattle.ll_prooftext.proofs.spelling.Mentioning.{first_alone}
use Rattle.ll_prooftext.proofs.unambiguous.OneField.{IsSmall, end_stops}
use Rattle.ll_prooftext.proofs.unambiguous.OneVerdict.{Verdict, Unknown, Bad, Good, Reads, ends, more, reads_once, fields_end, stop_end, fields_read}
use Rattle.ll_prooftext.proofs.unambiguous.OneVerdict.{listed_free, AreSmall, listed_small, is_let, under, number_is, last, number_last, parts_end, parts_read}
use Rattle.ll_prooftext.proofs.unambiguous.OneVerdict.{tensor_read}
use Rattle.ll_prooftext.proofs.unambiguous.OneFault.{fault_in, end_fault, Follows, follows_once}
use Rattle.std.proofs.lemmas.Option.{slice_get_within}
use Rattle.std.proofs.lemmas.Bool.{or_from as both_false}
use Rattle.ll_list_laws.proofs.CallerLemmas.{and_true_left as and_left, and_true_right as and_right}

-- ---- first words

words_free : (n : ℕ) (shares lets : Bool) (w : List ℕ) (v : Want) → want_over n shares lets w ≡ Some v → list_all (is_not 32) w ≡ true
words_free n true true w v e = listed_free ((codes "share", Row n) ∷ let_words_over n true) refl w v e
words_free n true false w v e = listed_free ((codes "share", Row n) ∷ let_words_over n false) refl w v e
words_free n false true w v e = listed_free (let_words_over n true) refl w v e
words_free n false false w v e = listed_free (let_words_over n false) refl w v e

nodes_small : (n : ℕ) → n < 2 ^ 64 → AreSmall (node_words_over n)
nodes_small n l = (tt, (tt, ((tt, (tt, tt)), (tt, (tt, (tt, (tt, ((tt, tt), ((tt, tt), ((tt, tt), ((l, tt), (tt, (tt, ((tt, (tt, l)), tt))))))))))))))

words_small : (n : ℕ) (shares lets : Bool) (w : List ℕ) (v : Want) → n < 2 ^ 64 → want_over n shares lets w ≡ Some v → IsSmall v
words_small n true true w v l e = listed_small ((codes "share", Row n) ∷ let_words_over n true) (l, ((l, tt), nodes_small n l)) w v e
words_small n true false w v l e = listed_small ((codes "share", Row n) ∷ let_words_over n false) (l, nodes_small n l) w v e
words_small n false true w v l e = listed_small (let_words_over n true) ((l, tt), nodes_small n l) w v e
words_small n false false w v l e = listed_small (let_words_over n false) (nodes_small n l) w v e

-- ---- lines

-- what a line comes to behind so many rows
pub data JudgesOver (o : Verdict) (n : ℕ) (shares lets : Bool) (bytes : List ℕ) : Type 0 where
  unknown_over : want_over n shares lets (first_word bytes) ≡ None → o ≡ Unknown → JudgesOver o n shares lets bytes
  known_over : (word rest : List ℕ) (asked : Want) → bytes ≡ word ++ rest → want_over n shares lets word ≡ Some asked → IsAtEnd rest
      → Reads o asked (length word) 0 rest → JudgesOver o n shares lets bytes

word_known : (n : ℕ) (shares lets : Bool) (bytes word rest : List ℕ) (asked : Want) → want_over n shares lets (first_word bytes) ≡ None → bytes ≡ word ++ rest
    → want_over n shares lets word ≡ Some asked → IsAtEnd rest → ⊥
word_known n shares lets bytes word rest asked u e k x =
    let f : first_word bytes ≡ word = ap first_word e ∙ first_alone word rest (words_free n shares lets word asked k) x in
    let g : None ≡ Some asked = sym u ∙ (ap (want_over n shares lets) f ∙ k) in
    let y : ⊥ = cc in y

judges_over_once : (o p : Verdict) (n : ℕ) (shares lets : Bool) (bytes : List ℕ) → n < 2 ^ 64 → JudgesOver o n shares lets bytes
    → JudgesOver p n shares lets bytes → o ≡ p
judges_over_once o p n shares lets bytes few (unknown_over u q) (unknown_over m r) = q ∙ sym r
judges_over_once o p n shares lets bytes few (unknown_over u q) (known_over w s a e k x r) = absurd (word_known n shares lets bytes w s a u e k x)
judges_over_once o p n shares lets bytes few (known_over w s a e k x r) (unknown_over u q) = absurd (word_known n shares lets bytes w s a u e k x)
judges_over_once o p n shares lets bytes few (known_over w s a e k x r) (known_over v t b f l y q) =
    let c = one_cut (is_not 32) w v s t (words_free n shares lets w a k) (words_free n shares lets v b l) (end_stops (is_not 32) s refl x)
    (end_stops (is_not 32) t refl y) (sym e ∙ f) in
    let g : Some a ≡ Some b = sym k ∙ (ap (want_over n shares lets) c.0 ∙ l) in
    reads_once o p a b (length w) (length v) 0 0 s t (words_small n shares lets w a few k) r q (let z : a ≡ b = cc in z) (ap length c.0) refl c.1

bad_over : (n : ℕ) (shares lets : Bool) (bytes : List ℕ) (c : ℕ) → HasBadField (want_over n shares lets) bytes c → JudgesOver (Bad c) n shares lets bytes
bad_over n shares lets bytes c h =
    known_over h.word (h.good ++ h.rest) h.asked h.is h.known
    (fields_end h.asked h.left h.good h.rest h.fields (stop_end h.left (length h.word + length h.good) c h.rest h.stop))
    (fields_read h.asked h.left h.good h.rest (length h.word) 0 c h.fields h.stop)

-- ---- good lines

-- the line of a row
abbrev pub is_share : List ℕ → Bool
is_share bytes = bytes_eq (first_word bytes) (codes "share")

record IsGoodOver (n : ℕ) (shares lets : Bool) (bytes : List ℕ) (nodes : ℕ) (as_share as_let : Bool) : Type 0 where
  pub premises : ℕ
  pub judged : JudgesOver (Good premises) n shares lets bytes
  pub many : under bytes premises ≡ nodes
  pub share : is_share bytes ≡ as_share
  pub let_line : is_let bytes ≡ as_let

pub cell_good : (names : List (List ℕ)) (rows : List Term) (t : Term) (text : List ℕ) → IsSpelledTerm names t → StandsFor names rows t text
    → IsField (Cell (length rows)) text
cell_good names rows t text s (itself b e) = inl (record { names = names; term = t; spelled = s; bare = b; is = e })
cell_good names rows t text s (by_row k g e) = inr (record { number = k; below = slice_get_within rows k t g; is = e })

pub cells_end : (names : List (List ℕ)) (rows ts : List Term) (text rest : List ℕ) → AreCells names rows ts text → IsAtEnd rest → IsAtEnd (text ++ rest)
cells_end names rows ts text rest no_cells x = x
cells_end names rows ts text rest (next_cell s c) x = space

cells_read : (o : Verdict) (names : List (List ℕ)) (rows ts : List Term) (text rest : List ℕ) (v : Want) (i m : ℕ) → after_field v (Cell (length rows)) ≡ Some v
    → AreCells names rows ts text → All (IsSpelledTerm names) ts → IsAtEnd rest → ((j : ℕ) → Reads o v j m rest) → Reads o v i m (text ++ rest)
cells_read o names rows ts text rest v i m a no_cells s x h = h i
cells_read o names rows ts text rest v i m a (next_cell {t = t} {ts = others} {text = w} {rest = behind} c cs) s x h =
    more (Cell (length rows)) w (behind ++ rest) v (ap (λ z. 32 ∷ z) (append_assoc w behind rest)) a
    (cell_good names rows t w (All-head (IsSpelledTerm names) t others s) c) (cells_end names rows others behind rest cs x)
    (subst (λ z. Reads o v (i + 1 + length w) z (behind ++ rest)) (let z : m ≡ m + 0 = omega arith in
    z) (cells_read o names rows others behind rest v (i + 1 + length w) m a cs (All-tail (IsSpelledTerm names) t others s) x h))

-- the arguments of a term that is spelled
abbrev pub ArgumentsSpelled : List (List ℕ) → Term → Type 0
ArgumentsSpelled names (Ap f a) = ArgumentsSpelled names f × IsSpelledTerm names a
ArgumentsSpelled names (Var n) = Unit {0}
ArgumentsSpelled names (Int z) = Unit {0}
ArgumentsSpelled names (Con h) = Unit {0}

spine_arguments : (names : List (List ℕ)) (f : Term) → IsSpelledSpine names f → ArgumentsSpelled names f
spine_arguments names (Var n) s = tt
spine_arguments names (Int z) s = tt
spine_arguments names (Con h) s = tt
spine_arguments names (Ap f a) s = (spine_arguments names f s.0, s.1)

pub term_arguments : (names : List (List ℕ)) (t : Term) → IsSpelledTerm names t → ArgumentsSpelled names t
term_arguments names (Var n) s = tt
term_arguments names (Int z) s = tt
term_arguments names (Con h) s = tt
term_arguments names (Ap (Ap (Con h) x) l) s = ((tt, s.1.0), s.1.1)
term_arguments names (Ap f a) s = (spine_arguments names f s.0, s.1)

apply_arguments : (names : List (List ℕ)) (f : Term) (ts : List Term) → ArgumentsSpelled names (apply f ts)
    → ArgumentsSpelled names f × All (IsSpelledTerm names) ts
apply_arguments names f [] h = (h, All-nil (IsSpelledTerm names))
apply_arguments names f (t ∷ ts) h = let k = apply_arguments names (Ap f t) ts h in (k.0.0, All-cons (IsSpelledTerm names) t ts k.0.1 k.1)

pub app_arguments : (names : List (List ℕ)) (h : Head) (ts : List Term) → IsSpelledTerm names (app h ts) → All (IsSpelledTerm names) ts
app_arguments names h ts s = (apply_arguments names (Con h) ts (term_arguments names (app h ts) s)).1

pub cons_text : (names : List (List ℕ)) (h : Head) → IsTrue (is_cons_head names h) → head_text names h ≡ codes "::"
cons_text names (Name n) c = (bytes_eq-Decides (head_text names (Name n)) (codes "::")).0 c
cons_text names (Eigen n) c = absurd cc
cons_text names (Bound n) c = absurd cc

share_reads : (names : List (List ℕ)) (before : List Term) (t : Term) (line : List ℕ) → (i : IsShare names before t line) → IsSpelledTerm names t
    → Reads (Good 0) (Row (length before)) 5 0 (32 ∷ head_text names i.head ++ i.cells)
share_reads names before t line i s = by_cells i.cells i.shown (app_arguments names i.head (i.first ∷ i.others) (subst (IsSpelledTerm names) i.is s))
  where
    by_cells : (text : List ℕ) → AreCells names before (i.first ∷ i.others) text → All (IsSpelledTerm names) (i.first ∷ i.others)
        → Reads (Good 0) (Row (length before)) 5 0 (32 ∷ head_text names i.head ++ text)
    by_cells text (next_cell {text = w} {rest = behind} c cs) a =
        by_fits i.fits
      where
        n : ℕ
        n = length before

        others : All (IsSpelledTerm names) i.others
        others = All-tail (IsSpelledTerm names) i.first i.others a

        good : IsField (Cell (length before)) w
        good = cell_good names before i.first w (All-head (IsSpelledTerm names) i.first i.others a) c

        plain_rest : (j : ℕ) → Reads (Good 0) (More (length before)) j 0 behind
        plain_rest j = subst (Reads (Good 0) (More (length before)) j 0) (append-nil behind)
            (cells_read (Good 0) names before i.others behind [] (More (length before)) j 0 (more_after (length before)) cs others line_end
            (λ k. ends refl refl refl))

        sign_rest : (us : List Term) (text : List ℕ) (j : ℕ) → length us ≡ 1 → AreCells names before us text → All (IsSpelledTerm names) us
            → Reads (Good 0) (Then (Cell (length before)) Nothing) j 0 text
        sign_rest us text j l no_cells b = absurd (omega arith)
        sign_rest us text j l (next_cell {t = u} {ts = vs} {text = x} {rest = y} d ds) b = by_end vs y (omega arith) ds
          where
            by_end : (us : List Term) (y : List ℕ) → length us ≡ 0 → AreCells names before us y
                → Reads (Good 0) (Then (Cell (length before)) Nothing) j 0 (32 ∷ x ++ y)
            by_end us y e no_cells = more (Cell (length before)) x [] Nothing refl (cell_then (length before) Nothing)
                (cell_good names before u x (All-head (IsSpelledTerm names) u vs b) d) line_end (ends refl refl refl)
            by_end us y e (next_cell f fs) = absurd (omega arith)

        at_end : IsAtEnd behind
        at_end = subst IsAtEnd (append-nil behind) (cells_end names before i.others behind [] cs line_end)

        by_fits : IsPlainHead names i.head ⊎ (IsTrue (is_cons_head names i.head) × (length i.others ≡ 1))
            → Reads (Good 0) (Row (length before)) 5 0 (32 ∷ head_text names i.head ++ (32 ∷ w ++ behind))
        by_fits (inl p) = more Plain (head_text names i.head) (32 ∷ w ++ behind) (Then (Cell (length before)) (More (length before))) refl refl
            (record { names = names; head = i.head; plain = p; is = refl }) space
            (more (Cell (length before)) w behind (More (length before)) refl (cell_then (length before) (More (length before))) good at_end (plain_rest _))
        by_fits (inr p) = more Sign (head_text names i.head) (32 ∷ w ++ behind) (Then (Cell (length before)) (Then (Cell (length before)) Nothing)) refl refl
            (cons_text names i.head p.0) space
            (more (Cell (length before)) w behind (Then (Cell (length before)) Nothing) refl (cell_then (length before) (Then (Cell (length before)) Nothing))
            good at_end (sign_rest i.others behind _ p.1 cs others))

share_good : (names : List (List ℕ)) (before : List Term) (t : Term) (line : List ℕ) → IsShare names before t line → IsSpelledTerm names t
    → IsGoodOver (length before) true true line 1 true false
share_good names before t line i s = subst (λ z. IsGoodOver (length before) true true z 1 true false) (sym i.text) (record {
  premises = 0;
  judged = known_over (codes "share") (32 ∷ head_text names i.head ++ i.cells) (Row (length before)) refl refl space (share_reads names before t line i s);
  many = refl;
  share = refl;
  let_line = refl;
})

cell_last : (names : List (List ℕ)) (rows : List Term) (t : Term) (text : List ℕ) (i : ℕ) → IsSpelledTerm names t → StandsFor names rows t text
    → Reads (Good 0) (Then (Cell (length rows)) Nothing) i 0 (32 ∷ text)
cell_last names rows t text i s c = more (Cell (length rows)) text [] Nothing (last text) (cell_then (length rows) Nothing) (cell_good names rows t text s c)
    line_end (ends refl refl refl)

let_known : (n : ℕ) (shares : Bool) → want_over n shares true (codes "let") ≡ Some (Then (Cell n) Nothing)
let_known n true = refl
let_known n false = refl

let_over : (names : List (List ℕ)) (rows : List Term) (shares : Bool) (t : Term) (line : List ℕ) → IsSpelledTerm names t → IsLet names rows t line
    → IsGoodOver (length rows) shares true line 1 false true
let_over names rows shares t line s i = subst (λ z. IsGoodOver (length rows) shares true z 1 false true) (sym i.is) (record {
  premises = 0;
  judged = known_over (codes "let") (32 ∷ i.text) (Then (Cell (length rows)) Nothing) refl (let_known (length rows) shares) space
      (cell_last names rows t i.text 3 s i.stands);
  many = refl;
  share = refl;
  let_line = refl;
})

-- a word of nodes is one wherever it stands
record IsWordOver (w : List ℕ) (n : ℕ) (v : Want) : Type 0 where
  pub known : listed (node_words_over n) w ≡ Some v
  pub no_let : bytes_eq (codes "let") w ≡ false
  pub no_share : bytes_eq (codes "share") w ≡ false

node_known : (n : ℕ) (shares lets : Bool) (w : List ℕ) (v : Want) → IsWordOver w n v → want_over n shares lets w ≡ Some v
node_known n true true w v k = let a = k.no_share in let b = k.no_let in rw (a, b) k.known
node_known n true false w v k = let a = k.no_share in rw a k.known
node_known n false true w v k = let b = k.no_let in rw b k.known
node_known n false false w v k = k.known

word_over : (n : ℕ) (shares lets : Bool) (w : List ℕ) → IsWordOver w n Nothing → JudgesOver (Good 0) n shares lets w
word_over n shares lets w k = known_over w [] Nothing (sym (append-nil w)) (node_known n shares lets w Nothing k) line_end (ends refl refl refl)

there : {w : List ℕ} {n : ℕ} {v : Want} → listed (node_words_over n) w ≡ Some v → bytes_eq (codes "let") w ≡ false → bytes_eq (codes "share") w ≡ false
    → IsWordOver w n v
there k a b = record { known = k; no_let = a; no_share = b }

module _ (names : List (List ℕ)) (rows : List Term) (shares lets : Bool) where
  abbrev GoodStep : Line → List ℕ → Type 0
  GoodStep x l = IsGoodOver (length rows) shares lets l (children x) false false

  plain_step : (x : Line) (w l : List ℕ) → l ≡ w → IsWordOver w (length rows) Nothing → under w 0 ≡ children x → is_share w ≡ false → is_let w ≡ false
      → GoodStep x l
  plain_step x w l e k m a b = subst (GoodStep x) (sym e) (record {
    premises = 0;
    judged = word_over (length rows) shares lets w k;
    many = m;
    share = a;
    let_line = b;
  })

  number_step : (x : Line) (w l : List ℕ) (n : ℕ) → l ≡ w ++ field (decimal n) → n < 2 ^ 32 → IsWordOver w (length rows) (Then Number Nothing)
      → under (w ++ field (decimal n)) 0 ≡ children x → is_share (w ++ field (decimal n)) ≡ false → is_let (w ++ field (decimal n)) ≡ false → GoodStep x l
  number_step x w l n e s k m a b = subst (GoodStep x) (sym e)
      (record {
        premises = 0;
        judged = known_over w (32 ∷ decimal n) (Then Number Nothing) refl (node_known (length rows) shares lets w (Then Number Nothing) k)
            space (number_last (length w) n s);
        many = m;
        share = a;
        let_line = b;
      })

  step_over : (x : Line) (l : List ℕ) → is_line x ≡ true → IsSpelledLine names x → IsStep names rows x l → GoodStep x l
  step_over OneLine l c s i = plain_step OneLine (codes "true") l i (there refl refl refl) refl refl refl
  step_over EraseLine l c s i = plain_step EraseLine (codes "erase") l i (there refl refl refl) refl refl refl
  step_over WithLine l c s i = plain_step WithLine (codes "with") l i (there refl refl refl) refl refl refl
  step_over LeftLine l c s i = plain_step LeftLine (codes "left") l i (there refl refl refl) refl refl refl
  step_over RightLine l c s i = plain_step RightLine (codes "right") l i (there refl refl refl) refl refl refl
  step_over BangLine l c s i = plain_step BangLine (codes "bang") l i (there refl refl refl) refl refl refl
  step_over UseLine l c s i = plain_step UseLine (codes "use") l i (there refl refl refl) refl refl refl
  step_over NumLine l c s i = plain_step NumLine (codes "num") l i (there refl refl refl) refl refl refl
  step_over (LolliLine n) l c s i = number_step (LolliLine n) (codes "lolli") l n i s (there refl refl refl) refl refl refl
  step_over (ImpLine n) l c s i = number_step (ImpLine n) (codes "imp") l n i s (there refl refl refl) refl refl refl
  step_over (ForallLine n) l c s i = number_step (ForallLine n) (codes "forall") l n i s (there refl refl refl) refl refl refl
  step_over (TensorLine a b) l c s i = subst (GoodStep (TensorLine a b)) (sym i) (record {
    premises = 2;
    judged = known_over (codes "tensor") (32 ∷ (set_text a ++ 32 ∷ set_text b)) (Then Set (Then Set Nothing)) refl
        (node_known (length rows) shares lets (codes "tensor") (Then Set (Then Set Nothing)) (there refl refl refl)) space (tensor_read a b 6 s c);
    many = refl;
    share = refl;
    let_line = refl;
  })
  step_over (ExistsLine t) l c s i = subst (GoodStep (ExistsLine t)) (sym i.is) (record {
    premises = 0;
    judged = known_over (codes "exists") (32 ∷ i.text) (Then (Cell (length rows)) Nothing) refl
        (node_known (length rows) shares lets (codes "exists") (Then (Cell (length rows)) Nothing) (there refl refl refl)) space
        (cell_last names rows t i.text 6 s i.stands);
    many = refl;
    share = refl;
    let_line = refl;
  })
  step_over (ClauseLine n k ts ps) l c s i = subst (GoodStep (ClauseLine n k ts ps)) (sym i.is) (record {
    premises = length ps;
    judged = known_over (codes "clause") (32 ∷ decimal n ++ (32 ∷ decimal k ++ (i.cells ++ rest))) (Then Number (Then Number (Cells (length rows)))) refl
        (node_known (length rows) shares lets (codes "clause") (Then Number (Then Number (Cells (length rows)))) (there refl refl refl)) space
        (more Number (decimal n) (32 ∷ decimal k ++ (i.cells ++ rest)) (Then Number (Cells (length rows))) refl refl (number_is n s.0) space
        (more Number (decimal k) (i.cells ++ rest) (Cells (length rows)) refl refl (number_is k s.1.0)
        (cells_end names rows ts i.cells rest i.shown (parts_end ps))
        (cells_read (Good (length ps)) names rows ts i.cells rest (Cells (length rows)) _ 0 (cells_after (length rows)) i.shown s.1.1.0 (parts_end ps)
        (λ j. subst (λ z. Reads (Good z) (Cells (length rows)) j 0 rest) (let z : 0 + length ps ≡ length ps = omega arith in
        z) (parts_read (Cells (length rows)) ps j 0 refl refl refl s.1.1.1 (and_right (list_all is_closed ts) (list_all part_rises ps) c))))));
    many = let z : 0 + length ps ≡ length ps = omega arith in z;
    share = refl;
    let_line = refl;
  })
    where
      rest : List ℕ
      rest = flat_map part_field ps

-- ---- all lines

abbrev rows_after : ℕ → List ℕ → ℕ
rows_after n bytes = if is_share bytes then n + 1 else n

-- what the lines from this number on come to, behind so many rows and where so many nodes lack
abbrev RanOver : Place → Option Fault → Bool → Bool → ℕ → ℕ → ℕ → List (List ℕ) → Type 0
RanOver end o shares lets i n k [] = o ≡ end_fault end k
RanOver end o shares lets i n zero (bytes ∷ others) = o ≡ Some (fault_in i 1 16)
RanOver end o shares lets i n (suc k) (bytes ∷ others) =
    (v : Verdict) × (JudgesOver v n shares lets bytes × Follows o i
    (λ c. RanOver end o (is_share bytes) (is_share bytes || is_let bytes) (i + 1) (rows_after n bytes) (under bytes c + k) others) v)

one_more : (n : ℕ) (b : Bool) → (if b then n + 1 else n) ≤ n + 1
one_more n true = omega arith
one_more n false = omega arith

ran_over_once : (end : Place) (o p : Option Fault) (shares lets : Bool) (i n k : ℕ) (lines : List (List ℕ)) → n + length lines < 2 ^ 64
    → RanOver end o shares lets i n k lines → RanOver end p shares lets i n k lines → o ≡ p
ran_over_once end o p shares lets i n k [] few a b = a ∙ sym b
ran_over_once end o p shares lets i n zero (bytes ∷ others) few a b = a ∙ sym b
ran_over_once end o p shares lets i n (suc k) (bytes ∷ others) few a b =
    let l = one_more n (is_share bytes) in
    follows_once o p i (λ c. RanOver end o (is_share bytes) (is_share bytes || is_let bytes) (i + 1) (rows_after n bytes) (under bytes c + k) others)
    (λ c. RanOver end p (is_share bytes) (is_share bytes || is_let bytes) (i + 1) (rows_after n bytes) (under bytes c + k) others) a.0 b.0
    (judges_over_once a.0 b.0 n shares lets bytes (omega arith) a.1.0 b.1.0) a.1.1 b.1.1
    (λ c. ran_over_once end o p (is_share bytes) (is_share bytes || is_let bytes) (i + 1) (rows_after n bytes) (under bytes c + k) others (omega arith))

moved : (end : Place) (o : Option Fault) (shares s lets l : Bool) (i j n m k h : ℕ) (lines : List (List ℕ)) → shares ≡ s → lets ≡ l → i ≡ j → n ≡ m → k ≡ h
    → RanOver end o shares lets i n k lines → RanOver end o s l j m h lines
moved end o shares s lets l i j n m k h lines a b c d e r =
    subst (λ z. RanOver end o z l j m h lines) a (subst (λ z. RanOver end o shares z j m h lines) b
    (subst (λ z. RanOver end o shares lets z m h lines) c
    (subst (λ z. RanOver end o shares lets i z h lines) d (subst (λ z. RanOver end o shares lets i n z lines) e r))))

-- whether lines of rows, or of variables, may stand behind these things
abbrev still : {X : Type 0} → Bool → List X → Bool
still b [] = b
still b (x ∷ xs) = false

still_none : {X : Type 0} (xs : List X) → still false xs ≡ false
still_none [] = refl
still_none (x ∷ xs) = refl

still_first : {X : Type 0} (xs : List X) → still true xs ≡ is_none xs
still_first [] = refl
still_first (x ∷ xs) = refl

still_both : {X Y : Type 0} (xs : List X) (ys : List Y) → still (still true xs) ys ≡ (is_none xs && is_none ys)
still_both [] [] = refl
still_both [] (y ∷ ys) = refl
still_both (x ∷ xs) ys = still_none ys

lets_ran : (end : Place) (o : Option Fault) (names : List (List ℕ)) (rows asked : List Term) (lines rest : List (List ℕ)) (shares : Bool) (i : ℕ)
    → AreEach (IsLet names rows) asked lines → All (IsSpelledTerm names) asked
    → RanOver end o (still shares asked) true (i + length asked) (length rows) 1 rest → RanOver end o shares true i (length rows) 1 (lines ++ rest)
lets_ran end o names rows [] [] rest shares i a s r = moved end o shares shares true true (i + 0) i (length rows) (length rows) 1 1 rest refl refl (omega arith)
    refl refl r
lets_ran end o names rows [] (b ∷ bs) rest shares i a s r = absurd a
lets_ran end o names rows (t ∷ ts) [] rest shares i a s r = absurd a
lets_ran end o names rows (t ∷ ts) (b ∷ bs) rest shares i a s r =
    let g = let_over names rows shares t b (All-head (IsSpelledTerm names) t ts s) a.0 in
    let behind = moved end o false (still false ts) true true (i + suc (length ts)) (i + 1 + length ts) (length rows) (length rows) 1 1 rest
    (sym (still_none ts)) refl (omega arith) refl refl r in
    let ih = lets_ran end o names rows ts bs rest false (i + 1) a.1 (All-tail (IsSpelledTerm names) t ts s) behind in (
      Good g.premises,
      (
        g.judged,
        moved end o false (is_share b) true (is_share b || is_let b) (i + 1) (i + 1) (length rows) (rows_after (length rows) b) 1
            (under b g.premises + 0) (bs ++ rest) (sym g.share) (sym (later (is_share b) (is_let b) g.share g.let_line)) refl
            (sym (ap (λ z. if z then length rows + 1 else length rows) g.share)) (let q = g.many in omega arith) ih,
      ),
    )
  where
    later : (a b : Bool) → a ≡ false → b ≡ true → (a || b) ≡ true
    later a b e f = rw (e, f) refl

shares_ran : (end : Place) (o : Option Fault) (names : List (List ℕ)) (rows : List Term) (lines rest : List (List ℕ)) → AreShares names rows lines
    → All (IsSpelledTerm names) rows → RanOver end o true true (2 + length rows) (length rows) 1 rest → RanOver end o true true 2 0 1 (lines ++ rest)
shares_ran end o names rows lines rest (no_shares e f) s r =
    let l : length rows ≡ 0 = ap length e in
    subst (λ z. RanOver end o true true 2 0 1 (z ++ rest)) (sym f)
    (moved end o true true true true (2 + length rows) 2 (length rows) 0 1 1 rest refl refl (omega arith) l refl r)
shares_ran end o names rows lines rest (next_share before above t line a i e f) s r =
    let parts = all_parts before t (subst (All (IsSpelledTerm names)) e s) in
    let g = share_good names before t line i parts.1 in
    let l : length rows ≡ length before + 1 = ap length e ∙ length-append before (t ∷ []) in
    let behind = moved end o true (is_share line) true (is_share line || is_let line) (2 + length rows) (2 + length before + 1) (length rows)
    (rows_after (length before) line) 1 (under line g.premises + 0) rest (sym g.share) (sym (ap (λ z. z || is_let line) g.share)) (omega arith)
    (l ∙ sym (ap (λ z. if z then length before + 1 else length before) g.share)) (let q = g.many in omega arith) r in
    subst (RanOver end o true true 2 0 1) (sym (ap (λ z. z ++ rest) f ∙ append_assoc above (line ∷ []) rest))
    (shares_ran end o names before above (line ∷ rest) a parts.0 (Good g.premises, (g.judged, behind)))
  where
    all_parts : (xs : List Term) (x : Term) → All (IsSpelledTerm names) (xs ++ x ∷ []) → All (IsSpelledTerm names) xs × IsSpelledTerm names x
    all_parts [] x h = (All-nil (IsSpelledTerm names), All-head (IsSpelledTerm names) x [] h)
    all_parts (y ∷ ys) x h = let k = all_parts ys x (All-tail (IsSpelledTerm names) y (ys ++ x ∷ []) h) in
        (All-cons (IsSpelledTerm names) y ys (All-head (IsSpelledTerm names) y (ys ++ x ∷ []) h) k.0, k.1)

steps_ran : (end : Place) (o : Option Fault) (names : List (List ℕ)) (rows : List Term) (nodes : List Line) (lines rest : List (List ℕ)) (shares lets : Bool)
    (i j k : ℕ) → AreEach (IsStep names rows) nodes lines → list_all is_line nodes ≡ true → All (IsSpelledLine names) nodes → missing j nodes ≡ Some k
    → RanOver end o (still shares nodes) (still lets nodes) (i + length nodes) (length rows) k rest
    → RanOver end o shares lets i (length rows) j (lines ++ rest)
steps_ran end o names rows [] [] rest shares lets i j k a l s m r =
    moved end o shares shares lets lets (i + 0) i (length rows) (length rows) k j rest refl refl (omega arith) refl (let q : j ≡ k = cc in sym q) r
steps_ran end o names rows [] (b ∷ bs) rest shares lets i j k a l s m r = absurd a
steps_ran end o names rows (x ∷ xs) [] rest shares lets i j k a l s m r = absurd a
steps_ran end o names rows (x ∷ xs) (b ∷ bs) rest shares lets i zero k a l s m r = absurd cc
steps_ran end o names rows (x ∷ xs) (b ∷ bs) rest shares lets i (suc j) k a l s m r =
    let g = step_over names rows shares lets x b (and_left (is_line x) (list_all is_line xs) l) (All-head (IsSpelledLine names) x xs s) a.0 in
    let behind = moved end o false (still false xs) false (still false xs) (i + suc (length xs)) (i + 1 + length xs) (length rows) (length rows) k k rest
    (sym (still_none xs)) (sym (still_none xs)) (omega arith) refl refl r in
    let ih = steps_ran end o names rows xs bs rest false false (i + 1) (children x + j) k a.1 (and_right (is_line x) (list_all is_line xs) l)
    (All-tail (IsSpelledLine names) x xs s) m behind in (
      Good g.premises,
      (
        g.judged,
        moved end o false (is_share b) false (is_share b || is_let b) (i + 1) (i + 1) (length rows) (rows_after (length rows) b)
            (children x + j) (under b g.premises + j) (bs ++ rest) (sym g.share) (sym (both_false (is_share b) (is_let b) g.share g.let_line)) refl
            (sym (ap (λ z. if z then length rows + 1 else length rows) g.share)) (ap (λ z. z + j) (sym g.many)) ih,
      ),
    )

-- ---- texts

-- what a text comes to: its first fault, or none where all lines are good
pub data Comes2 (lines : List (List ℕ)) (end : Place) (o : Option Fault) : Type 0 where
  no_version : HasNoVersion (codes "proof 2") lines → o ≡ Some (fault_in 1 1 14) → Comes2 lines end o
  begun : (rest : List (List ℕ)) → lines ≡ codes "proof 2" ∷ rest → RanOver end o true true 2 0 1 rest → Comes2 lines end o

pub comes2_once : (lines : List (List ℕ)) (end : Place) (o p : Option Fault) → length lines < 2 ^ 64 → Comes2 lines end o → Comes2 lines end p → o ≡ p
comes2_once lines end o p few (no_version h e) (no_version l f) = e ∙ sym f
comes2_once lines end o p few (no_version h e) (begun rest f r) = absurd (h rest f)
comes2_once lines end o p few (begun rest f r) (no_version h e) = absurd (h rest f)
comes2_once lines end o p few (begun us e r) (begun vs f s) =
    let both : codes "proof 2" ∷ us ≡ codes "proof 2" ∷ vs = sym e ∙ f in
    let l = ap length f in
    ran_over_once end o p true true 2 0 1 vs (omega arith) (subst (λ z. RanOver end o true true 2 0 1 z) (others (codes "proof 2") us vs both) r) s
  where
    others : (w : List ℕ) (us vs : List (List ℕ)) → w ∷ us ≡ w ∷ vs → us ≡ vs
    others w us vs e = cc

pub begins_come : (end : Place) (o : Option Fault) (lines rest : List (List ℕ)) (k : ℕ) (b : BeginsOver lines rest k)
    → RanOver end o (is_none b.asked && is_none b.nodes) (is_none b.nodes) (line_behind b) (length b.rows) k rest → Comes2 lines end o
begins_come end o lines rest k b r =
    let behind = moved end o (is_none b.asked && is_none b.nodes) (still (still true b.asked) b.nodes) (is_none b.nodes) (still true b.nodes) (line_behind b)
    (2 + length b.rows + length b.asked + length b.nodes) (length b.rows) (length b.rows) k k rest (sym (still_both b.asked b.nodes))
    (sym (still_first b.nodes)) (omega arith) refl refl r in
    begun (b.shares ++ (b.lets ++ (b.steps ++ rest))) b.is
    (shares_ran end o b.names b.rows b.shares (b.lets ++ (b.steps ++ rest)) b.are_rows b.spelled_rows
    (lets_ran end o b.names b.rows b.asked b.lets (b.steps ++ rest) true (2 + length b.rows) b.are_asked b.spelled_terms
    (steps_ran end o b.names b.rows b.nodes b.steps rest (still true b.asked) true (2 + length b.rows + length b.asked) 1 k b.are_nodes b.ordered
    b.spelled_nodes b.still behind)))

-- all lines are good
pub whole_comes : (text : List ℕ) → BeginsOver (text_lines text) [] 0 → Comes2 (text_lines text) (place_at text (length text)) None
whole_comes text b = begins_come (place_at text (length text)) None (text_lines text) [] 0 b refl

-- a row that is off, in a text whose lines are all good, or the fault of a line
pub data IsFaultOf (text : List ℕ) (f : Fault) : Type 0 where
  of_line : Comes2 (text_lines text) (place_at text (length text)) (Some f) → IsFaultOf text f
  of_row : (k : ℕ) (b : BeginsOver (text_lines text) [] 0) → IsDistinct bytes_eq b.names → IsOff b.rows (derivation b) k → f ≡ fault_in (k + 2) 1 18
      → IsFaultOf text f

pub fault_of : (text : List ℕ) (f : Fault) → HasFault2 text f → IsFaultOf text f
fault_of text f (version2 h) = of_line (no_version h refl)
fault_of text f (unknown_word2 bytes others k b h) = of_line
    (begins_come (place_at text (length text)) (Some f) (text_lines text) (bytes ∷ others) (suc k) b (Unknown, (unknown_over h refl, refl)))
fault_of text f (bad_field2 bytes others k column b h) = of_line
    (begins_come (place_at text (length text)) (Some f) (text_lines text) (bytes ∷ others) (suc k) b (
      Bad column,
      (bad_over (length b.rows) (is_none b.asked && is_none b.nodes) (is_none b.nodes) bytes column h, refl),
    ))
fault_of text f (nodes_missing2 k b) = of_line (begins_come (place_at text (length text)) (Some f) (text_lines text) [] (suc k) b refl)
fault_of text f (left_over2 bytes others b) = of_line (begins_come (place_at text (length text)) (Some f) (text_lines text) (bytes ∷ others) 0 b refl)
fault_of text f (off_table k b d h) = of_row k b d h refl
