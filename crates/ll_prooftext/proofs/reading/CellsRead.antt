-- Fields over a table of shared terms: terms without arguments, rows, and heads.
use Rattle.std.proofs.Common.{◌≡◌, ℕ, zero, suc, ◌≤◌, ◌<◌, ◌^◌, true, false, List, [], ◌∷◌, ◌++◌, length, All, refl, ap, sym, subst, ◌∙◌, arith, codes}
use Rattle.std.proofs.Common.{append_assoc, append-nil, Option, Some, None, inl, inr, decimal, eq-eqb, MatchOption, IfSome}
use Rattle.std.specs.Prelude.{◌==◌, ◌&&◌, if◌then◌else◌}
use Rattle.std.specs.List.{list_all, slice_get}
use Rattle.std.proofs.lemmas.List.{map-append}
use Rattle.std.proofs.lemmas.List.Elements.{All-nil, All-push, All-weaker, All-head, All-tail}
use Rattle.std.proofs.lemmas.Fmt.{decimal_injective}
use Rattle.std.proofs.lemmas.Option.{slice_get_within}
use Rattle.ll_bank.specs.declared.At.{At}
use Rattle.std.specs.Str.{bytes_eq}
use Rattle.ll_list_laws.proofs.CallerLemmas.{and_true_left as and_left}
use Rattle.ll_bank.specs.declared.Head.TheVariants.{Name}
use Rattle.ll_bank.specs.Term.{Term}
use Rattle.ll_bank.specs.Names.{with_name}
use Rattle.ll_bank.specs.Nodes.{Nodes, term_tree, term_trees, HasTerm, Extends}
use Rattle.ll_bank.proofs.CallerLemmas.{Extends-refl, term_trees-extends}
use Rattle.ll_lexer.specs.Spelling.{is_lower}
use Rattle.ll_laws.specs.Output.{name_text, has_arguments, term_text}
use Rattle.ll_prooftext.specs.declared.words.Word.{Word}
use Rattle.ll_prooftext.specs.declared.cells.Front.{Front}
use Rattle.ll_prooftext.specs.Admitted.{IsSpelledTerm}
use Rattle.ll_prooftext.specs.Reading.{Plain, Sign, Cell, Want, More, Cells, Then, after_field, IsBare, IsField, Fields, none, one, IsAtEnd}
use Rattle.ll_prooftext.specs.Words.{Stops, is_not, BeginsNot, HasNone}
use Rattle.ll_prooftext.specs.Terms.{Grows, Moves, is_part, Shape, Wanted, Bare, Applied, Closed, IsWord, IsWordOf, IsSpelledAt}
use Rattle.ll_prooftext.specs.Brackets.{IsTermFrom}
use Rattle.ll_prooftext.specs.Fields.{other, LacksField, HasNoTerm, StopsAt}
use Rattle.ll_prooftext.specs.Sharing.{StandsFor, itself, by_row, AreCells, no_cells, next_cell}
use Rattle.ll_prooftext.specs.Cells.{Stays, MovesBy, IsCellOf, IsCellField, AreCellFields, StopsAtCell, IsSignHead, IsFrontOf, IsFrontField, LacksFront}
use Rattle.ll_prooftext.proofs.spelling.Arguments.{bare_word, end_stops as end_stops_word}
use Rattle.ll_prooftext.proofs.spelling.Cuts.{one_cut}
use Rattle.ll_prooftext.proofs.spelling.Extended.{term_kept}
use Rattle.ll_prooftext.proofs.spelling.Found.{text_is, moves_still, moves_behind, moves_on, moves_over, moves_word, moves_sign}
use Rattle.ll_prooftext.proofs.spelling.Kept.{grows_none, grows_on, arg_good}
use Rattle.ll_prooftext.proofs.reading.Labels.{decimal_not}
use Rattle.ll_prooftext.proofs.spelling.Mentioning.{is_quiet, row_quiet, quiet_behind, quiet_apart, decimal_quiet, space_mentions}
use Rattle.ll_prooftext.proofs.spelling.Reach.{head_word}
use Rattle.ll_prooftext.proofs.reading.Rest.{end_stops, stops_end, fields_on, stops_behind}
use Rattle.ll_prooftext.proofs.spelling.Spellings.{first_is, head_start, leaf_start, head_first, leaf_first, word_parts, all_weaker, one_shape}
use Rattle.ll_prooftext.proofs.spelling.Steps.{word_good, word_text, word_shape, part_term}

-- ---- words of cells

-- `@` begins no word
pub row_word : (w rest : List ℕ) → w ≡ 64 ∷ rest → (p : Shape) → IsWord w p → ⊥
unfolding is_lower
row_word w rest e Wanted a = a
row_word w rest e Applied a = a
row_word w rest e Bare a = let x : false ≡ true = first_is head_start w 64 rest e (head_first w a) in let y : ⊥ = cc in y
row_word w rest e Closed a = let x : false ≡ true = first_is leaf_start w 64 rest e (leaf_first w a) in let y : ⊥ = cc in y

pub its_word : (w : List ℕ) → IsBare w → (p : Shape) × IsWord w p
its_word w b = let k = bare_word b.names b.term b.spelled b.bare in (k.shape, subst (λ z. IsWord z k.shape) (sym b.is) k.word)

-- no row that lacks, and no term
pub no_row_cell : (n : ℕ) (w number : List ℕ) → w ≡ 64 ∷ number → ((k : ℕ) → k < n → number ≡ decimal k → ⊥) → IsField (Cell n) w → ⊥
no_row_cell n w number e h (inl b) = let k = its_word w b in row_word w number e k.0 k.1
no_row_cell n w number e h (inr r) = let q : 64 ∷ number ≡ 64 ∷ decimal r.number = sym e ∙ r.is in h r.number r.below cc

-- no word, and no row
pub no_cell : (n : ℕ) (w : List ℕ) → BeginsNot 64 w → ((p : Shape) → IsWord w p → ⊥) → IsField (Cell n) w → ⊥
no_cell n w b h (inl i) = let k = its_word w i in h k.0 k.1
no_cell n w b h (inr r) = b (decimal r.number) r.is

pub no_row_there : (n m : ℕ) (number : List ℕ) → n < 2 ^ 32 → m < 2 ^ 32 → number ≡ decimal m → n ≤ m → (k : ℕ) → k < n → number ≡ decimal k → ⊥
no_row_there n m number l s e h k b f = let q : k ≡ m = decimal_injective k m (omega arith) (omega arith) (sym f ∙ e) in omega arith

pub word_free : (w : List ℕ) (p : Shape) → IsWord w p → list_all (is_not 32) w ≡ true
word_free w p i = all_weaker is_part (is_not 32) part_space w (word_parts w p i)
  where
    part_space : (b : ℕ) → is_part b ≡ true → is_not 32 b ≡ true
    part_space b h = and_left (is_not 32 b) (is_not 40 b) (and_left (is_not 32 b && is_not 40 b) (is_not 41 b)
        (and_left ((is_not 32 b && is_not 40 b) && is_not 41 b) (is_not 58 b) h))

-- a cell holds no space
pub cell_free : (n : ℕ) (w : List ℕ) → n < 2 ^ 64 → IsField (Cell n) w → list_all (is_not 32) w ≡ true
cell_free n w l (inl b) = let k = its_word w b in word_free w k.0 k.1
cell_free n w l (inr r) = ap (list_all (is_not 32)) r.is ∙ decimal_not 32 r.number (let b = r.below in omega arith) (inl (omega arith))

-- ---- what a word stands for

-- a term without arguments is spelled the same over more names
pub itself_stays : (names : List (List ℕ)) (rows : List Term) (t : Term) (w : List ℕ) → IsSpelledTerm names t → has_arguments t ≡ false → w ≡ term_text names t
    → Stays names (λ ns. StandsFor ns rows t w)
itself_stays names rows t w s b e new g = itself b (e ∙ sym (ap (λ ns. term_text ns t) g.is ∙ (term_kept names g.more t s).text))

-- a word is a term without arguments
pub word_cell : (rows : List Term) (w : List ℕ) (names : List (List ℕ)) (mid over : Nodes) (x : Word) (at : ℕ) → IsWordOf names mid w x
    → IsTermFrom mid over x [] at → Extends mid over → IsCellOf rows w names over at
word_cell rows w names mid over x at i t e =
    let k = part_term names mid over x [] at (word_good names mid w x i) (All-nil (λ (a : At). IsSpelledAt names mid a.0)) t e in
    record {
      good = k.good;
      stands = itself_stays names rows (term_tree over at) w k.good.spelled k.has
          (sym (k.text ∙ (append-nil _ ∙ word_text names mid w x i)));
    }

pub word_moves : (names : List (List ℕ)) (bank : Nodes) (w : List ℕ) (new : List (List ℕ)) (mid over : Nodes) (x : Word) → IsWordOf new mid w x
    → Moves names bank w new mid [] → Extends mid over → MovesBy names bank w new over
word_moves names bank w new mid over x i m e rest end = moves_over names bank (w ++ rest) new mid over rest
    (moves_word names bank (w ++ rest) w rest new mid refl (word_parts w _ (word_shape new mid w x i)) (end_stops_word rest end) m) e

spelled_there : (names : List (List ℕ)) (bank : Nodes) (rows : List At) (k : ℕ) (a : At) → All (λ b. IsSpelledAt names bank b.0) rows
    → slice_get rows k ≡ Some a → IsSpelledAt names bank a.0
spelled_there names bank [] k a h e = absurd cc
spelled_there names bank (x ∷ rows) zero a h e = let q : x ≡ a = cc in
    subst (λ (b : At). IsSpelledAt names bank b.0) q (All-head (λ (b : At). IsSpelledAt names bank b.0) x rows h)
spelled_there names bank (x ∷ rows) (suc k) a h e = spelled_there names bank rows k a (All-tail (λ (b : At). IsSpelledAt names bank b.0) x rows h) e

tree_there : (bank : Nodes) (rows : List At) (k : ℕ) (a : At) → slice_get rows k ≡ Some a → slice_get (term_trees bank rows) k ≡ Some (term_tree bank a.0)
tree_there bank [] k a e = absurd cc
tree_there bank (x ∷ rows) zero a e = ap (λ (b : At). Some (term_tree bank b.0)) (let q : x ≡ a = cc in q)
tree_there bank (x ∷ rows) (suc k) a e = tree_there bank rows k a e

-- a row by its number
pub row_cell : (names : List (List ℕ)) (bank : Nodes) (rows : List At) (w number : List ℕ) (k : ℕ) (a : At) → All (λ b. IsSpelledAt names bank b.0) rows
    → w ≡ 64 ∷ number → number ≡ decimal k → slice_get rows k ≡ Some a → IsCellOf (term_trees bank rows) w names bank a.0
row_cell names bank rows w number k a h e f g = record {
  good = spelled_there names bank rows k a h g;
  stands = λ ns grow. by_row k (tree_there bank rows k a g) (e ∙ ap (λ z. 64 ∷ z) f);
}

pub row_moves : (names : List (List ℕ)) (bank : Nodes) (w number : List ℕ) (k : ℕ) → k < 2 ^ 64 → w ≡ 64 ∷ number → number ≡ decimal k
    → MovesBy names bank w names bank
row_moves names bank w number k l e f rest end =
    let text : w ≡ 64 ∷ decimal k = e ∙ ap (λ z. 64 ∷ z) f in
    moves_behind names bank (w ++ rest) w rest names bank rest refl
    (quiet_apart w rest (ap (list_all is_quiet) text ∙ quiet_behind 64 (decimal k) row_quiet (decimal_quiet k l)) (end_stops_word rest end))
    (moves_still names bank rest)

-- ---- one field

pub cell_made : (rows : List Term) (names : List (List ℕ)) (bank : Nodes) (bytes there word rest : List ℕ) (new : List (List ℕ)) (over : Nodes) (at : ℕ)
    → bytes ≡ 32 ∷ there → there ≡ word ++ rest → Stops (is_not 32) rest → IsCellOf rows word new over at → MovesBy names bank word new over
    → IsCellField rows names bank bytes new over at rest
cell_made rows names bank bytes there word rest new over at b t s c m =
    let end = stops_end rest s in
    record {
      text = word;
      cell = c;
      is = b ∙ ap (λ z. 32 ∷ z) t;
      end = end;
      moves = moves_behind names bank bytes (32 ∷ []) (word ++ rest) new over rest (b ∙ ap (λ z. 32 ∷ z) t) (space_mentions (word ++ rest)) (m rest end);
    }

pub cell_none : (n : ℕ) (there word rest : List ℕ) → n < 2 ^ 64 → there ≡ word ++ rest → list_all (is_not 32) word ≡ true → Stops (is_not 32) rest
    → (IsField (Cell n) word → ⊥) → HasNone (Cell n) there
cell_none n there word rest l t f s bare field behind i e end =
    let k = one_cut (is_not 32) word field rest behind f (cell_free n field l i) s (end_stops behind end) (sym t ∙ e) in
    bare (subst (IsField (Cell n)) (sym k.0) i)

-- the field of a term that was read
pub cell_is : (rows : List Term) (w : List ℕ) (names : List (List ℕ)) (bank : Nodes) (at : ℕ) → IsCellOf rows w names bank at → IsField (Cell (length rows)) w
cell_is rows w names bank at c = by_way (c.stands names (grows_none names))
  where
    by_way : StandsFor names rows (term_tree bank at) w → IsField (Cell (length rows)) w
    by_way (itself b e) = inl (record { names = names; term = term_tree bank at; spelled = c.good.spelled; bare = b; is = e })
    by_way (by_row k g e) = inr (record { number = k; below = slice_get_within rows k (term_tree bank at) g; is = e })

same_test : (n : ℕ) {X : Type 0} (x y : X) → (if n == n then x else y) ≡ x
same_test n x y = let e : (n == n) ≡ true = eq-eqb n n refl in rw e refl

-- after a cell behind so many rows
pub cell_then : (n : ℕ) (v : Want) → after_field (Then (Cell n) v) (Cell n) ≡ Some v
cell_then n v = same_test n (Some v) None

pub cells_after : (n : ℕ) → after_field (Cells n) (Cell n) ≡ Some (Cells n)
cells_after n = same_test n (Some (Cells n)) None

pub more_after : (n : ℕ) → after_field (More n) (Cell n) ≡ Some (More n)
more_after n = same_test n (Some (More n)) None

-- behind a good cell
pub stops_cell : (rows : List Term) (n : ℕ) (names : List (List ℕ)) (bank : Nodes) (bytes : List ℕ) (new : List (List ℕ)) (over : Nodes) (at : ℕ)
    (rest : List ℕ) (left : ℕ) (v next : Want) → length rows ≡ n → after_field v (Cell n) ≡ Some next → IsCellField rows names bank bytes new over at rest
    → StopsAt next rest left → StopsAt v bytes left
stops_cell rows n names bank bytes new over at rest left v next l a f s =
    stops_behind (Cell n) v next bytes f.text rest left a (subst (λ m. IsField (Cell m) f.text) l (cell_is rows f.text new over at f.cell)) f.is s

-- ---- many fields

pub rows_same : (names : List (List ℕ)) (bank over : Nodes) (rows : List At) → Extends bank over → All (λ a. IsSpelledAt names bank a.0) rows
    → term_trees over rows ≡ term_trees bank rows
rows_same names bank over rows e h = term_trees-extends e rows
    (All-weaker (λ (a : At). IsSpelledAt names bank a.0) (λ (a : At). HasTerm bank a.0) (λ a s. s.inside) rows h)

pub rows_stay : (names : List (List ℕ)) (bank : Nodes) (new : List (List ℕ)) (over : Nodes) (rows : List At) → Grows names new → Extends bank over
    → All (λ a. IsSpelledAt names bank a.0) rows → All (λ a. IsSpelledAt new over a.0) rows
rows_stay names bank new over rows g e h = All-weaker (λ (a : At). IsSpelledAt names bank a.0) (λ (a : At). IsSpelledAt new over a.0)
    (arg_good names bank new over g e) rows h

pub cells_none : (rows : List Term) (names : List (List ℕ)) (bank : Nodes) (bytes : List ℕ) → IsAtEnd bytes
    → AreCellFields rows names bank bytes names bank [] bytes
cells_none rows names bank bytes end = record {
  text = [];
  good = All-nil (λ (a : At). IsSpelledAt names bank a.0);
  cells = λ ns g. no_cells;
  fields = λ v e. none;
  is = refl;
  end = end;
  moves = moves_still names bank bytes;
}

pub cells_push : (names : List (List ℕ)) (rows ts us : List Term) (a b : List ℕ) → AreCells names rows ts a → AreCells names rows us b
    → AreCells names rows (ts ++ us) (a ++ b)
cells_push names rows ts us a b no_cells h = h
cells_push names rows ts us a b (next_cell {t = t} {ts = others} {text = text} {rest = rest} s f) h =
    subst (AreCells names rows (t ∷ (others ++ us))) (ap (λ z. 32 ∷ z) (sym (append_assoc text rest b)))
    (next_cell s (cells_push names rows others us rest b f h))

pub cells_more : (rows : List Term) (names : List (List ℕ)) (bank : Nodes) (bytes : List ℕ) (new : List (List ℕ)) (over : Nodes) (terms : List At)
    (rest : List ℕ) (later : List (List ℕ)) (after : Nodes) (at : At) (next : List ℕ) → AreCellFields rows names bank bytes new over terms rest
    → IsCellField rows new over rest later after at.0 next → AreCellFields rows names bank bytes later after (terms ++ at ∷ []) next
cells_more rows names bank bytes new over terms rest later after at next t f =
    let e = f.moves.keeps in
    let trees : term_trees after (terms ++ at ∷ []) ≡ term_trees over terms ++ term_tree after at.0 ∷ [] =
    map-append (λ (b : At). term_tree after b.0) terms (at ∷ []) ∙ ap (λ z. z ++ term_tree after at.0 ∷ []) (rows_same new over after terms e t.good) in
    record {
      text = t.text ++ (32 ∷ f.text ++ []);
      good = All-push (λ (a : At). IsSpelledAt later after a.0) terms at (rows_stay new over later after terms f.moves.grows e t.good) f.cell.good;
      cells = λ ns g. subst (λ us. AreCells ns rows us (t.text ++ (32 ∷ f.text ++ []))) (sym trees)
          (cells_push ns rows (term_trees over terms) (term_tree after at.0 ∷ []) t.text (32 ∷ f.text ++ [])
          (t.cells ns (grows_on new later ns f.moves.grows g)) (next_cell (f.cell.stands ns g) no_cells));
      fields = λ v a. fields_on v v v t.text (32 ∷ f.text ++ []) (t.fields v a)
          (one (Cell (length rows)) f.text v a (cell_is rows f.text later after at.0 f.cell) none);
      is = t.is ∙ (ap (λ z. t.text ++ z) f.is ∙ together t.text f.text next);
      end = f.end;
      moves = moves_on names bank bytes new over rest later after next t.moves f.moves;
    }
  where
    together : (a b c : List ℕ) → a ++ (32 ∷ b ++ c) ≡ (a ++ (32 ∷ b ++ [])) ++ c
    together a b c = simp (append_assoc, append-nil)

pub cells_stop : (rows : List Term) (n : ℕ) (names : List (List ℕ)) (bank : Nodes) (bytes : List ℕ) (new : List (List ℕ)) (over : Nodes) (terms : List At)
    (rest : List ℕ) (left : ℕ) → length rows ≡ n → AreCellFields rows names bank bytes new over terms rest → (HasNoTerm rest → ⊥)
    → LacksField (Cell n) rest left → StopsAtCell n bytes left
cells_stop rows n names bank bytes new over terms rest left l t bare lacks = record {
  good = t.text;
  rest = rest;
  is = t.is;
  fields = λ v a. t.fields v (ap (λ m. after_field v (Cell m)) l ∙ a);
  goes_on = bare;
  lacks = lacks;
}

-- ---- what was found

pub row_found : (names : List (List ℕ)) (bank : Nodes) (rows : List At) (w number : List ℕ) (r : Option At) → All (λ b. IsSpelledAt names bank b.0) rows
    → w ≡ 64 ∷ number → MatchOption r ((k : ℕ) → k < length rows → number ≡ decimal k
    → ⊥) (λ at. (k : ℕ) × ((number ≡ decimal k) × (slice_get rows k ≡ Some at)))
    → MatchOption r (IsField (Cell (length rows)) w → ⊥) (λ at. IsCellOf (term_trees bank rows) w names bank at.0)
row_found names bank rows w number None h e m = no_row_cell (length rows) w number e m
row_found names bank rows w number (Some at) h e m = row_cell names bank rows w number m.0 at h e m.1.0 m.1.1

pub row_found_moves : (names : List (List ℕ)) (bank : Nodes) (rows : List At) (w number : List ℕ) (r : Option At) → length rows < 2 ^ 32 → w ≡ 64 ∷ number
    → MatchOption r ((k : ℕ) → k < length rows → number ≡ decimal k → ⊥) (λ at. (k : ℕ) × ((number ≡ decimal k) × (slice_get rows k ≡ Some at)))
    → IfSome r (λ at. MovesBy names bank w names bank)
row_found_moves names bank rows w number None l e m = tt
row_found_moves names bank rows w number (Some at) l e m = row_moves names bank w number m.0 (let b = slice_get_within rows m.0 at m.1.1 in omega arith) e m.1.0

-- ---- heads

-- the sign `::`
pub sign_stays : (names : List (List ℕ)) (n : ℕ) → slice_get names n ≡ Some (codes "::") → Stays names (λ ns. IsSignHead ns (Name n))
sign_stays names n e new g =
    let t : name_text new n ≡ codes "::" = text_is new n (codes "::") (ap (λ ns. slice_get ns n) g.is ∙ get_front names g.more n (codes "::") e) in
    record { cons = ap (λ w. bytes_eq w (codes "::")) t; text = t }
  where
    get_front : (xs ys : List (List ℕ)) (n : ℕ) (s : List ℕ) → slice_get xs n ≡ Some s → slice_get (xs ++ ys) n ≡ Some s
    get_front [] ys n s e = absurd cc
    get_front (x ∷ xs) ys zero s e = e
    get_front (x ∷ xs) ys (suc n) s e = get_front xs ys n s e

pub sign_moves : (names new : List (List ℕ)) (bank : Nodes) (w : List ℕ) → w ≡ codes "::" → new ≡ with_name names (codes "::") → MovesBy names bank w new bank
sign_moves names new bank w e a rest end = subst (λ z. Moves names bank (z ++ rest) new bank rest) (sym e)
    (moves_sign names new bank bank rest a (Extends-refl bank))

pub plain_word : (w : List ℕ) → IsField Plain w → IsWord w Bare
plain_word w p = subst (λ z. IsWord z Bare) (sym p.is) (head_word p.names p.head p.plain)

-- a word that is another term, or none, is no head
pub no_plain : (w : List ℕ) → ((p : Shape) → IsWord w p → ⊥) → IsField Plain w → ⊥
no_plain w h p = h Bare (plain_word w p)

pub leaf_no_plain : (w : List ℕ) → IsWord w Closed → IsField Plain w → ⊥
leaf_no_plain w i p = let q : Closed ≡ Bare = one_shape w Closed Bare i (plain_word w p) in let x : ⊥ = cc in x

-- a field that is no head
pub front_none : (bytes there word rest : List ℕ) → bytes ≡ 32 ∷ there → there ≡ word ++ rest → list_all (is_not 32) word ≡ true → Stops (is_not 32) rest
    → (IsField Plain word → ⊥) → (IsField Sign word → ⊥) → LacksFront bytes (length bytes)
front_none bytes there word rest b t f s plain sign = record { left_is = refl; plain = other there b no_plain_there; sign = other there b no_sign_there }
  where
    no_plain_there : HasNone Plain there
    no_plain_there field behind i e end = let k = one_cut (is_not 32) word field rest behind f (word_free field Bare (plain_word field i)) s
        (end_stops behind end) (sym t ∙ e) in plain (subst (IsField Plain) (sym k.0) i)

    no_sign_there : HasNone Sign there
    no_sign_there field behind i e end = let k = one_cut (is_not 32) word field rest behind f (ap (list_all (is_not 32)) i) s (end_stops behind end) (sym t ∙ e)
        in sign (subst (IsField Sign) (sym k.0) i)

pub front_made : (names : List (List ℕ)) (bank : Nodes) (bytes there word rest : List ℕ) (new : List (List ℕ)) (over : Nodes) (f : Front) → bytes ≡ 32 ∷ there
    → there ≡ word ++ rest → Stops (is_not 32) rest → IsFrontOf word new f → MovesBy names bank word new over → IsFrontField names bank bytes new over f rest
front_made names bank bytes there word rest new over f b t s c m =
    let end = stops_end rest s in
    record {
      text = word;
      front = c;
      is = b ∙ ap (λ z. 32 ∷ z) t;
      end = end;
      moves = moves_behind names bank bytes (32 ∷ []) (word ++ rest) new over rest (b ∙ ap (λ z. 32 ∷ z) t) (space_mentions (word ++ rest)) (m rest end);
    }

-- the fields of terms, as they may follow
pub more_fields : (rows : List Term) (n : ℕ) (names : List (List ℕ)) (bank : Nodes) (bytes : List ℕ) (new : List (List ℕ)) (over : Nodes) (terms : List At)
    (rest : List ℕ) → length rows ≡ n → (t : AreCellFields rows names bank bytes new over terms rest) → Fields (More n) t.text (More n)
more_fields rows n names bank bytes new over terms rest l t = t.fields (More n) (ap (λ m. after_field (More n) (Cell m)) l ∙ more_after n)

pub cells_fields : (rows : List Term) (n : ℕ) (names : List (List ℕ)) (bank : Nodes) (bytes : List ℕ) (new : List (List ℕ)) (over : Nodes) (terms : List At)
    (rest : List ℕ) → length rows ≡ n → (t : AreCellFields rows names bank bytes new over terms rest) → Fields (Cells n) t.text (Cells n)
cells_fields rows n names bank bytes new over terms rest l t = t.fields (Cells n) (ap (λ m. after_field (Cells n) (Cell m)) l ∙ cells_after n)
