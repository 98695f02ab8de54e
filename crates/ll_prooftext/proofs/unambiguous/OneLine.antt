-- A line is told by its text, which has no LF.
use Rattle.std.proofs.Common.{◌≡◌, ℕ, suc, ◌<◌, ◌^◌, Bool, true, false, List, [], ◌∷◌, ◌++◌, length, All, refl, ap, sym, ◌∙◌, arith, decimal, codes}
use Rattle.std.proofs.Common.{append_assoc, append-nil, length-append, inl}
use Rattle.std.specs.Prelude.{if◌then◌else◌}
use Rattle.std.specs.List.{list_all, flat_map, IsDistinct}
use Rattle.std.specs.Str.{bytes_eq}
use Rattle.std.proofs.lemmas.Bool.{eqb-false}
use Rattle.std.proofs.lemmas.Fmt.{decimal_injective, decimal_nonempty}
use Rattle.std.proofs.lemmas.List.Elements.{All-head, All-tail}
use Rattle.ll_bank.specs.Term.{Term}
use Rattle.ll_laws.specs.Line.{PartLine, Labels, Free, Line, OneLine, EraseLine, TensorLine, WithLine, LeftLine, RightLine, BangLine, UseLine, LolliLine}
use Rattle.ll_laws.specs.Line.{ImpLine, ForallLine, ExistsLine, ClauseLine, NumLine}
use Rattle.ll_laws.specs.Output.{bracket_if, has_arguments, term_text, argument_text}
use Rattle.ll_laws.specs.ProofText.{field, labels_text, set_text, term_field, part_field, node_text}
use Rattle.ll_lexer.specs.Spelling.{is_lower}
use Rattle.ll_prooftext.specs.Admitted.{AreLabels, IsSpelledTerm, IsSpelledPart, IsSpelledLine}
use Rattle.ll_prooftext.specs.Reading.{Want, node_words}
use Rattle.ll_prooftext.specs.Words.{Stops, ended, at_byte, is_not}
use Rattle.ll_prooftext.specs.Terms.{Shape, Wanted, Bare, Applied, Closed, IsWord}
use Rattle.ll_prooftext.proofs.spelling.Cuts.{one_cut}
use Rattle.ll_prooftext.proofs.reading.Labels.{decimal_not, behind_text, behind_stops, labels_split, labels_free}
use Rattle.ll_prooftext.proofs.spelling.Spellings.{Starts, head_start, leaf_start, head_first, leaf_first}
use Rattle.ll_prooftext.proofs.unambiguous.OneTerm.{bare_word, bare_shape, Behind, one_argument, one_terms}

-- ---- numbers and sets

pub number_same : (m n : ℕ) (x y : List ℕ) → m < 2 ^ 32 → n < 2 ^ 32 → Stops (is_not 32) x → Stops (is_not 32) y → decimal m ++ x ≡ decimal n ++ y
    → (m ≡ n) × (x ≡ y)
number_same m n x y p q s t e =
    let k = one_cut (is_not 32) (decimal m) (decimal n) x y (decimal_not 32 m (omega arith) (inl (omega arith)))
    (decimal_not 32 n (omega arith) (inl (omega arith))) s t e in
    (decimal_injective m n (omega arith) (omega arith) k.0, k.1)

last_number : (m n : ℕ) → m < 2 ^ 32 → n < 2 ^ 32 → field (decimal m) ≡ field (decimal n) → m ≡ n
last_number m n p q e = decimal_injective m n (omega arith) (omega arith) (let t : decimal m ≡ decimal n = cc in t)

labels_full : (m : ℕ) (ms : List ℕ) → AreLabels (m ∷ ms) → [] ≡ labels_text (m ∷ ms) → ⊥
labels_full m ms a e =
    let l : m < 2 ^ 32 = All-head (λ n. n < 2 ^ 32) m ms a in
    let f : 0 < length (decimal m) = decimal_nonempty m (omega arith) in
    let g = ap length (e ∙ labels_split m ms) in
    omega (arith, length-append (decimal m) (behind_text ms))

behind_same : (ns ms : List ℕ) → behind_text ns ≡ behind_text ms → labels_text ns ≡ labels_text ms
behind_same [] [] e = refl
behind_same [] (m ∷ ms) e = absurd cc
behind_same (n ∷ ns) [] e = absurd cc
behind_same (n ∷ ns) (m ∷ ms) e = cc

labels_same : (ns ms : List ℕ) → AreLabels ns → AreLabels ms → labels_text ns ≡ labels_text ms → ns ≡ ms
labels_same [] [] a b e = refl
labels_same [] (m ∷ ms) a b e = absurd (labels_full m ms b e)
labels_same (n ∷ ns) [] a b e = absurd (labels_full n ns a (sym e))
labels_same (n ∷ ns) (m ∷ ms) a b e =
    let k = number_same n m (behind_text ns) (behind_text ms) (All-head (λ n. n < 2 ^ 32) n ns a) (All-head (λ n. n < 2 ^ 32) m ms b) (behind_stops ns)
    (behind_stops ms) (sym (labels_split n ns) ∙ (e ∙ labels_split m ms)) in
    let i = labels_same ns ms (All-tail (λ n. n < 2 ^ 32) n ns a) (All-tail (λ n. n < 2 ^ 32) m ms b) (behind_same ns ms k.1) in
    let h : n ≡ m = k.0 in
    cc

set_same : (s t x y : List ℕ) → AreLabels s → AreLabels t → set_text s ++ x ≡ set_text t ++ y → (s ≡ t) × (x ≡ y)
set_same s t x y a b e =
    let f : 123 ∷ (labels_text s ++ 125 ∷ x) ≡ 123 ∷ (labels_text t ++ 125 ∷ y) = sym (opened s x) ∙ (e ∙ opened t y) in
    let g : labels_text s ++ 125 ∷ x ≡ labels_text t ++ 125 ∷ y = cc in
    let k = one_cut (is_not 125) (labels_text s) (labels_text t) (125 ∷ x) (125 ∷ y) (labels_free s a) (labels_free t b) (at_byte 125 x refl refl)
    (at_byte 125 y refl refl) g in
    (labels_same s t a b k.0, let h : 125 ∷ x ≡ 125 ∷ y = k.1 in cc)
  where
    opened : (s x : List ℕ) → set_text s ++ x ≡ 123 ∷ (labels_text s ++ 125 ∷ x)
    opened s x = ap (λ z. 123 ∷ z) (append_assoc (labels_text s) (125 ∷ []) x)

last_set : (s t : List ℕ) → AreLabels s → AreLabels t → set_text s ≡ set_text t → s ≡ t
last_set s t a b e = (set_same s t [] [] a b (append-nil (set_text s) ∙ (e ∙ sym (append-nil (set_text t))))).0

-- ---- premises

mark_brace : (x y : List ℕ) → 33 ∷ x ≡ 123 ∷ y → ⊥
mark_brace x y e = cc

pub parts_same : (ps qs : List PartLine) → All IsSpelledPart ps → All IsSpelledPart qs → flat_map part_field ps ≡ flat_map part_field qs → ps ≡ qs
parts_same [] [] a b e = refl
parts_same [] (Labels t ∷ qs) a b e = absurd cc
parts_same [] (Free ∷ qs) a b e = absurd cc
parts_same (Labels s ∷ ps) [] a b e = absurd cc
parts_same (Free ∷ ps) [] a b e = absurd cc
parts_same (Labels s ∷ ps) (Labels t ∷ qs) a b e =
    let f : set_text s ++ flat_map part_field ps ≡ set_text t ++ flat_map part_field qs = cc in
    let k = set_same s t (flat_map part_field ps) (flat_map part_field qs) (All-head IsSpelledPart (Labels s) ps a) (All-head IsSpelledPart (Labels t) qs b) f
    in
    let i = parts_same ps qs (All-tail IsSpelledPart (Labels s) ps a) (All-tail IsSpelledPart (Labels t) qs b) k.1 in
    let h : s ≡ t = k.0 in
    cc
parts_same (Free ∷ ps) (Free ∷ qs) a b e =
    let i = parts_same ps qs (All-tail IsSpelledPart Free ps a) (All-tail IsSpelledPart Free qs b) (let f : flat_map part_field ps ≡ flat_map part_field qs =
    cc in f) in
    ap (λ z. Free ∷ z) i
parts_same (Labels s ∷ ps) (Free ∷ qs) a b e = absurd (mark_brace (flat_map part_field qs) ((labels_text s ++ 125 ∷ []) ++ flat_map part_field ps)
    (let f : 33 ∷ flat_map part_field qs ≡ 123 ∷ ((labels_text s ++ 125 ∷ []) ++ flat_map part_field ps) = cc in f))
parts_same (Free ∷ ps) (Labels t ∷ qs) a b e = absurd (mark_brace (flat_map part_field ps) ((labels_text t ++ 125 ∷ []) ++ flat_map part_field qs)
    (let f : 33 ∷ flat_map part_field ps ≡ 123 ∷ ((labels_text t ++ 125 ∷ []) ++ flat_map part_field qs) = cc in f))

-- ---- first bytes of arguments

starts_front : (p : ℕ → Bool) (w rest : List ℕ) (b : ℕ) (r : List ℕ) → Starts p w → w ++ rest ≡ b ∷ r → p b ≡ true
starts_front p w rest b r s e =
    let f : s.byte ∷ (s.others ++ rest) ≡ b ∷ r = ap (λ z. z ++ rest) (sym s.is) ∙ e in
    let q : s.byte ≡ b = cc in
    ap p (sym q) ∙ s.passes

word_not : (w rest : List ℕ) (b : ℕ) (r : List ℕ) (p : Shape) → IsWord w p → head_start b ≡ false → leaf_start b ≡ false → w ++ rest ≡ b ∷ r → ⊥
word_not w rest b r Wanted i f g e = i
word_not w rest b r Applied i f g e = i
word_not w rest b r Bare i f g e = let x = starts_front head_start w rest b r (head_first w i) e in let y : false ≡ true = sym f ∙ x in let z : ⊥ = cc in z
word_not w rest b r Closed i f g e = let x = starts_front leaf_start w rest b r (leaf_first w i) e in let y : false ≡ true = sym g ∙ x in let z : ⊥ = cc in z

argument_not : (names : List (List ℕ)) (t : Term) (rest : List ℕ) (b : ℕ) (r : List ℕ) → IsSpelledTerm names t → head_start b ≡ false → leaf_start b ≡ false
    → (40 ≡ b → ⊥) → argument_text t (term_text names t) ++ rest ≡ b ∷ r → ⊥
argument_not names t rest b r s f g n e = by_test (has_arguments t) refl e
  where
    by_test : (v : Bool) → has_arguments t ≡ v → bracket_if v (term_text names t) ++ rest ≡ b ∷ r → ⊥
    by_test true a e = n (let q : 40 ≡ b = cc in q)
    by_test false a e = word_not (term_text names t) rest b r (bare_shape t) (bare_word names t a s) f g e

no_brace : (names : List (List ℕ)) (t : Term) (rest r : List ℕ) → IsSpelledTerm names t → 123 ∷ r ≡ argument_text t (term_text names t) ++ rest → ⊥
unfolding is_lower
no_brace names t rest r s e = argument_not names t rest 123 r s refl refl (λ q. cc) (sym e)

no_mark : (names : List (List ℕ)) (t : Term) (rest r : List ℕ) → IsSpelledTerm names t → 33 ∷ r ≡ argument_text t (term_text names t) ++ rest → ⊥
unfolding is_lower
no_mark names t rest r s e = argument_not names t rest 33 r s refl refl (λ q. cc) (sym e)

pub parts_behind : (names : List (List ℕ)) (ps : List PartLine) → Behind names (flat_map part_field ps)
parts_behind names [] = record { stops = ended refl; none = λ t rest s e. cc }
parts_behind names (Labels s ∷ ps) = record {
  stops = at_byte 32 (set_text s ++ flat_map part_field ps) refl refl;
  none = λ t rest i e. no_brace names t rest ((labels_text s ++ 125 ∷ []) ++ flat_map part_field ps) i
      (let f : 123 ∷ ((labels_text s ++ 125 ∷ []) ++ flat_map part_field ps) ≡ argument_text t (term_text names t) ++ rest = cc in f);
}
parts_behind names (Free ∷ ps) = record {
  stops = at_byte 32 (33 ∷ flat_map part_field ps) refl refl;
  none = λ t rest i e. no_mark names t rest (flat_map part_field ps) i (let f : 33 ∷ flat_map part_field ps ≡ argument_text t (term_text names t) ++ rest =
      cc in f);
}

-- ---- lines

-- the first word of a line, and what stands behind it
abbrev pub line_word : Line → List ℕ
line_word OneLine = codes "true"
line_word EraseLine = codes "erase"
line_word (TensorLine s t) = codes "tensor"
line_word WithLine = codes "with"
line_word LeftLine = codes "left"
line_word RightLine = codes "right"
line_word BangLine = codes "bang"
line_word (LolliLine n) = codes "lolli"
line_word (ImpLine n) = codes "imp"
line_word (ForallLine c) = codes "forall"
line_word (ExistsLine t) = codes "exists"
line_word UseLine = codes "use"
line_word NumLine = codes "num"
line_word (ClauseLine n k ts ps) = codes "clause"

abbrev pub line_rest : List (List ℕ) → Line → List ℕ
line_rest names (TensorLine s t) = field (set_text s) ++ field (set_text t)
line_rest names (LolliLine n) = field (decimal n)
line_rest names (ImpLine n) = field (decimal n)
line_rest names (ForallLine c) = field (decimal c)
line_rest names (ExistsLine t) = term_field names t
line_rest names (ClauseLine n k ts ps) = field (decimal n) ++ field (decimal k) ++ flat_map (term_field names) ts ++ flat_map part_field ps
line_rest names OneLine = []
line_rest names EraseLine = []
line_rest names WithLine = []
line_rest names LeftLine = []
line_rest names RightLine = []
line_rest names BangLine = []
line_rest names UseLine = []
line_rest names NumLine = []

pub line_is : (names : List (List ℕ)) (l : Line) → node_text names l ≡ line_word l ++ line_rest names l
line_is names OneLine = refl
line_is names EraseLine = refl
line_is names (TensorLine s t) = refl
line_is names WithLine = refl
line_is names LeftLine = refl
line_is names RightLine = refl
line_is names BangLine = refl
line_is names (LolliLine n) = refl
line_is names (ImpLine n) = refl
line_is names (ForallLine n) = refl
line_is names (ExistsLine t) = refl
line_is names UseLine = refl
line_is names NumLine = refl
line_is names (ClauseLine n k ts ps) = refl

-- no space and no LF stands in the first word
pub word_free : (l : Line) → (list_all (is_not 32) (line_word l) ≡ true) × (list_all (is_not 10) (line_word l) ≡ true)
word_free OneLine = (refl, refl)
word_free EraseLine = (refl, refl)
word_free (TensorLine s t) = (refl, refl)
word_free WithLine = (refl, refl)
word_free LeftLine = (refl, refl)
word_free RightLine = (refl, refl)
word_free BangLine = (refl, refl)
word_free (LolliLine n) = (refl, refl)
word_free (ImpLine n) = (refl, refl)
word_free (ForallLine n) = (refl, refl)
word_free (ExistsLine t) = (refl, refl)
word_free UseLine = (refl, refl)
word_free NumLine = (refl, refl)
word_free (ClauseLine n k ts ps) = (refl, refl)

-- the kinds of lines, numbered in the order of their words
abbrev pub line_kind : Line → ℕ
line_kind OneLine = 0
line_kind EraseLine = 1
line_kind (TensorLine s t) = 2
line_kind WithLine = 3
line_kind LeftLine = 4
line_kind RightLine = 5
line_kind BangLine = 6
line_kind (LolliLine n) = 7
line_kind (ImpLine n) = 8
line_kind (ForallLine c) = 9
line_kind (ExistsLine t) = 10
line_kind UseLine = 11
line_kind NumLine = 12
line_kind (ClauseLine n k ts ps) = 13

abbrev index_in : List (List ℕ × Want) → List ℕ → ℕ
index_in [] w = 0
index_in (v ∷ vs) w = if bytes_eq v.0 w then 0 else suc (index_in vs w)

kind_is : (l : Line) → index_in node_words (line_word l) ≡ line_kind l
kind_is OneLine = refl
kind_is EraseLine = refl
kind_is (TensorLine s t) = refl
kind_is WithLine = refl
kind_is LeftLine = refl
kind_is RightLine = refl
kind_is BangLine = refl
kind_is (LolliLine n) = refl
kind_is (ImpLine n) = refl
kind_is (ForallLine n) = refl
kind_is (ExistsLine t) = refl
kind_is UseLine = refl
kind_is NumLine = refl
kind_is (ClauseLine n k ts ps) = refl

pub one_kind : (l m : Line) → line_word l ≡ line_word m → line_kind l ≡ line_kind m
one_kind l m e = sym (kind_is l) ∙ (ap (index_in node_words) e ∙ kind_is m)

-- no node has the word of a variable
not_let : (l : Line) → line_kind l ≡ 14 → ⊥
not_let OneLine e = eqb-false 0 14 refl e
not_let EraseLine e = eqb-false 1 14 refl e
not_let (TensorLine s t) e = eqb-false 2 14 refl e
not_let WithLine e = eqb-false 3 14 refl e
not_let LeftLine e = eqb-false 4 14 refl e
not_let RightLine e = eqb-false 5 14 refl e
not_let BangLine e = eqb-false 6 14 refl e
not_let (LolliLine n) e = eqb-false 7 14 refl e
not_let (ImpLine n) e = eqb-false 8 14 refl e
not_let (ForallLine n) e = eqb-false 9 14 refl e
not_let (ExistsLine t) e = eqb-false 10 14 refl e
not_let UseLine e = eqb-false 11 14 refl e
not_let NumLine e = eqb-false 12 14 refl e
not_let (ClauseLine n k ts ps) e = eqb-false 13 14 refl e

rest_stops : (names : List (List ℕ)) (l : Line) → Stops (is_not 32) (line_rest names l)
rest_stops names (TensorLine s t) = at_byte 32 (set_text s ++ field (set_text t)) refl refl
rest_stops names (LolliLine n) = at_byte 32 (decimal n) refl refl
rest_stops names (ImpLine n) = at_byte 32 (decimal n) refl refl
rest_stops names (ForallLine n) = at_byte 32 (decimal n) refl refl
rest_stops names (ExistsLine t) = at_byte 32 (argument_text t (term_text names t)) refl refl
rest_stops names (ClauseLine n k ts ps) = at_byte 32 (((decimal n ++ field (decimal k)) ++ flat_map (term_field names) ts) ++ flat_map part_field ps) refl refl
rest_stops names OneLine = ended refl
rest_stops names EraseLine = ended refl
rest_stops names WithLine = ended refl
rest_stops names LeftLine = ended refl
rest_stops names RightLine = ended refl
rest_stops names BangLine = ended refl
rest_stops names UseLine = ended refl
rest_stops names NumLine = ended refl

-- no node has the line of a variable
pub no_let : (names : List (List ℕ)) (l : Line) (t : Term) → node_text names l ≡ codes "let" ++ term_field names t → ⊥
no_let names l t e =
    let k = one_cut (is_not 32) (line_word l) (codes "let") (line_rest names l) (term_field names t) (word_free l).0 refl (rest_stops names l)
    (at_byte 32 (argument_text t (term_text names t)) refl refl) (sym (line_is names l) ∙ e) in
    not_let l (sym (kind_is l) ∙ ap (index_in node_words) k.0)

module _ (names : List (List ℕ)) (distinct : IsDistinct bytes_eq names) where
  -- the terms of a clause, and its premises
  clause_same : (n k m j : ℕ) (ts us : List Term) (ps qs : List PartLine) → IsSpelledLine names (ClauseLine n k ts ps)
      → IsSpelledLine names (ClauseLine m j us qs) → line_rest names (ClauseLine n k ts ps) ≡ line_rest names (ClauseLine m j us qs)
      → ClauseLine n k ts ps ≡ ClauseLine m j us qs
  clause_same n k m j ts us ps qs p q e =
      let tx = flat_map (term_field names) ts ++ flat_map part_field ps in
      let ty = flat_map (term_field names) us ++ flat_map part_field qs in
      let f : 32 ∷ (decimal n ++ 32 ∷ (decimal k ++ tx)) ≡ 32 ∷ (decimal m ++ 32 ∷ (decimal j ++ ty)) =
      sym (grouped (decimal n) (decimal k) (flat_map (term_field names) ts) (flat_map part_field ps))
      ∙ (e ∙ grouped (decimal m) (decimal j) (flat_map (term_field names) us) (flat_map part_field qs)) in
      let g = number_same n m (32 ∷ (decimal k ++ tx)) (32 ∷ (decimal j ++ ty)) p.0 q.0 (at_byte 32 (decimal k ++ tx) refl refl)
      (at_byte 32 (decimal j ++ ty) refl refl) (let x : decimal n ++ 32 ∷ (decimal k ++ tx) ≡ decimal m ++ 32 ∷ (decimal j ++ ty) = cc in x) in
      let h : 32 ∷ (decimal k ++ tx) ≡ 32 ∷ (decimal j ++ ty) = g.1 in
      let i = number_same k j tx ty p.1.0 q.1.0 (terms_stop ts ps) (terms_stop us qs) (let x : decimal k ++ tx ≡ decimal j ++ ty = cc in x) in
      let o = one_terms names distinct ts us (flat_map part_field ps) (flat_map part_field qs) p.1.1.0 q.1.1.0 (parts_behind names ps) (parts_behind names qs)
      i.1 in
      let r = parts_same ps qs p.1.1.1 q.1.1.1 o.1 in
      let a : n ≡ m = g.0 in
      let b : k ≡ j = i.0 in
      let c : ts ≡ us = o.0 in
      cc
    where
      grouped : (a b c d : List ℕ) → field a ++ field b ++ c ++ d ≡ 32 ∷ (a ++ 32 ∷ (b ++ (c ++ d)))
      grouped a b c d = simp append_assoc

      terms_stop : (ts : List Term) (ps : List PartLine) → Stops (is_not 32) (flat_map (term_field names) ts ++ flat_map part_field ps)
      terms_stop (t ∷ ts) ps = at_byte 32 ((argument_text t (term_text names t) ++ flat_map (term_field names) ts) ++ flat_map part_field ps) refl refl
      terms_stop [] [] = ended refl
      terms_stop [] (Labels s ∷ ps) = at_byte 32 (set_text s ++ flat_map part_field ps) refl refl
      terms_stop [] (Free ∷ ps) = at_byte 32 (33 ∷ flat_map part_field ps) refl refl

  pub last_term : (t u : Term) → IsSpelledTerm names t → IsSpelledTerm names u → term_field names t ≡ term_field names u → t ≡ u
  last_term t u p q e =
      let a = argument_text t (term_text names t) in
      let b = argument_text u (term_text names u) in
      let f : a ≡ b = cc in
      (one_argument names distinct t p u [] [] q (ended refl) (ended refl) (append-nil a ∙ (f ∙ sym (append-nil b)))).0

  by_parts : (l m : Line) → IsSpelledLine names l → IsSpelledLine names m → line_kind l ≡ line_kind m → line_rest names l ≡ line_rest names m → l ≡ m
  by_parts OneLine OneLine p q w e = refl
  by_parts EraseLine EraseLine p q w e = refl
  by_parts (TensorLine s t) (TensorLine u v) p q w e =
      let k = set_same s u (field (set_text t)) (field (set_text v)) p.0 q.0 (let f : set_text s ++ field (set_text t) ≡ set_text u ++ field (set_text v) =
      cc in f) in
      let g : 32 ∷ set_text t ≡ 32 ∷ set_text v = k.1 in
      let a : s ≡ u = k.0 in
      let b : t ≡ v = last_set t v p.1 q.1 (let h : set_text t ≡ set_text v = cc in h) in
      cc
  by_parts WithLine WithLine p q w e = refl
  by_parts LeftLine LeftLine p q w e = refl
  by_parts RightLine RightLine p q w e = refl
  by_parts BangLine BangLine p q w e = refl
  by_parts (LolliLine n) (LolliLine m) p q w e = ap LolliLine (last_number n m p q e)
  by_parts (ImpLine n) (ImpLine m) p q w e = ap ImpLine (last_number n m p q e)
  by_parts (ForallLine n) (ForallLine m) p q w e = ap ForallLine (last_number n m p q e)
  by_parts (ExistsLine t) (ExistsLine u) p q w e = ap ExistsLine (last_term t u p q e)
  by_parts UseLine UseLine p q w e = refl
  by_parts NumLine NumLine p q w e = refl
  by_parts (ClauseLine n k ts ps) (ClauseLine m j us qs) p q w e = clause_same n k m j ts us ps qs p q e
  by_parts l m p q w e = absurd (eqb-false (line_kind l) (line_kind m) refl w)

  -- a line is told by its text
  pub one_line : (l m : Line) → IsSpelledLine names l → IsSpelledLine names m → node_text names l ≡ node_text names m → l ≡ m
  one_line l m p q e =
      let k = one_cut (is_not 32) (line_word l) (line_word m) (line_rest names l) (line_rest names m) (word_free l).0 (word_free m).0 (rest_stops names l)
      (rest_stops names m) (sym (line_is names l) ∙ (e ∙ line_is names m)) in
      by_parts l m p q (one_kind l m k.0) k.1
