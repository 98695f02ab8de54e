-- Lines over a table of shared terms.
use Rattle.std.proofs.Common.{◌≡◌, ℕ, Bool, true, false, List, [], ◌∷◌, ◌++◌, length, map, All, refl, ap, sym, subst, ◌∙◌, arith, codes, append_assoc}
use Rattle.std.proofs.Common.{append-nil, Option, Some, None, inl, inr, decimal, IsTrue, Result, Ok, Err, IfErr}
use Rattle.std.specs.Prelude.{if◌then◌else◌}
use Rattle.std.specs.List.{list_all, flat_map}
use Rattle.std.specs.Str.{bytes_eq}
use Rattle.std.proofs.lemmas.Slice.Eq.{bytes_eq-Decides}
use Rattle.std.proofs.lemmas.List.Elements.{All-weaker, All-cons}
use Rattle.ll_bank.specs.declared.At.{At}
use Rattle.ll_bank.specs.declared.Head.{Head}
use Rattle.ll_bank.specs.declared.Head.TheVariants.{Name, Eigen, Bound}
use Rattle.ll_bank.specs.Term.{Term, Con, Ap, app, is_closed}
use Rattle.ll_bank.specs.Nodes.{Nodes, term_tree, term_trees, HasTerm, AllInTerms, ShowsTerm, Extends}
use Rattle.ll_lexer.specs.Spelling.{is_lower}
use Rattle.ll_laws.specs.Output.{is_cons_head}
use Rattle.ll_laws.specs.ProofText.{field, term_field, part_field, node_text}
use Rattle.ll_laws.specs.ShownLines.{line_of, part_line}
use Rattle.ll_laws.specs.declared.Part.{Part}
use Rattle.ll_laws.specs.declared.Rule.{Rule}
use Rattle.ll_laws.specs.declared.Rule.TheVariants as rule
use Rattle.ll_prooftext.specs.declared.rows.NodeWord.{NodeWord}
use Rattle.ll_prooftext.specs.declared.rows.NodeWord.TheVariants as word
use Rattle.ll_prooftext.specs.declared.shared_lines.LineWord.TheVariants as first
use Rattle.ll_prooftext.specs.declared.shared_lines.Stage.{Stage}
use Rattle.ll_prooftext.specs.declared.cells.Front.TheVariants as front
use Rattle.ll_prooftext.specs.declared.words.Word.TheVariants.{Head as HeadWord}
use Rattle.ll_prooftext.specs.Admitted.{IsPlainHead, IsSpelledTerm}
use Rattle.ll_prooftext.specs.Reading.{Kind, Number, Set, Argument, Mark, Plain, Sign, Cell, Want, Nothing, Arguments, Premises, Row, More, Cells, Then}
use Rattle.ll_prooftext.specs.Reading.{after_field, first_word, IsField, Fields, none, one, IsAtEnd, space, HasNoField, listed, node_words}
use Rattle.ll_prooftext.specs.Words.{Stops, is_not, HasNone}
use Rattle.ll_prooftext.specs.Terms.{Moves, MovesLine, Shape, Wanted, Bare, Applied, Closed, IsWord, IsSpelledAt}
use Rattle.ll_prooftext.specs.Fields.{IsMissing, other, HasNoTerm, IsBad, lacking, wrong, StopsAt, brace, mark, IsNumberField, ArePartFields}
use Rattle.ll_prooftext.specs.Fields.{ended as all_read}
use Rattle.ll_prooftext.specs.RowWords.{spelling, asks, IsNodeWord, IsNodeRow, IsGoodRule}
use Rattle.ll_prooftext.specs.Sharing.{StandsFor, AreCells, no_cells, next_cell, IsShare, IsClauseStep, IsStep}
use Rattle.ll_prooftext.specs.Cells.{Stays, IsCellField, AreCellFields, StopsAtCell, IsSignHead, IsFrontField, LacksFront}
use Rattle.ll_prooftext.specs.SharedLines.{node_words_over, let_words_over, want_over, asks_over, IsLineWord, IsSpineOver, IsPairOver, IsShareOver, IsStepOver}
use Rattle.ll_prooftext.specs.SharedLines.{IsShareRow, IsLetOver}
use Rattle.ll_prooftext.proofs.spelling.Arguments.{argument_first}
use Rattle.ll_prooftext.proofs.reading.CellsRead.{its_word, cells_after, more_after}
use Rattle.ll_prooftext.proofs.spelling.Found.{moves_line, moves_on, moves_over}
use Rattle.ll_prooftext.proofs.spelling.Kept.{grows_on}
use Rattle.ll_prooftext.proofs.spelling.Mentioning.{first_alone}
use Rattle.ll_prooftext.proofs.reading.Rest.{same_row, stops_end, stops_behind, stops_after, behind_number, parts_move}
use Rattle.ll_prooftext.proofs.reading.RowsRead.{unlike}
use Rattle.ll_prooftext.proofs.spelling.Extended.{head_on, at_kept}
use Rattle.ll_prooftext.proofs.spelling.Spellings.{first_is, head_start, leaf_start, head_first, leaf_first}
use Rattle.ll_prooftext.proofs.spelling.Steps.{part_term}
use Rattle.ll_prooftext.proofs.spelling.Ways.{behind_byte}

-- ---- what begins no cell

word_first : (w bs : List ℕ) (b : ℕ) (p : Shape) → IsWord w p → w ≡ b ∷ bs → head_start b ≡ false → leaf_start b ≡ false → ⊥
word_first w bs b Wanted i e h l = i
word_first w bs b Applied i e h l = i
word_first w bs b Bare i e h l = let x = first_is head_start w b bs e (head_first w i) in let y : true ≡ false = sym x ∙ h in let z : ⊥ = cc in z
word_first w bs b Closed i e h l = let x = first_is leaf_start w b bs e (leaf_first w i) in let y : true ≡ false = sym x ∙ l in let z : ⊥ = cc in z

pub cell_first : (n : ℕ) (field behind bs : List ℕ) (b : ℕ) → IsField (Cell n) field → field ++ behind ≡ b ∷ bs → head_start b ≡ false → leaf_start b ≡ false
    → (b ≡ 64 → ⊥) → ⊥
cell_first n field behind bs b (inl i) e h l k = let w = its_word field i in by_list field w.0 w.1 e
  where
    by_list : (field : List ℕ) (p : Shape) → IsWord field p → field ++ behind ≡ b ∷ bs → ⊥
    by_list [] p i e = empty p i
      where
        empty : (p : Shape) → IsWord [] p → ⊥
        empty Wanted i = i
        empty Applied i = i
        empty Bare i = let s = head_first [] i in let x = s.is in let z : ⊥ = cc in z
        empty Closed i = let s = leaf_first [] i in let x = s.is in let z : ⊥ = cc in z
    by_list (c ∷ cs) p i e = word_first (c ∷ cs) cs b p i (let q : c ≡ b = cc in ap (λ z. z ∷ cs) q) h l
cell_first n field behind bs b (inr r) e h l k = let q : 64 ∷ (decimal r.number ++ behind) ≡ b ∷ bs = ap (λ z. z ++ behind) (sym r.is) ∙ e in k cc

pub no_cell_begins : (n : ℕ) (field behind rest : List ℕ) → HasNoTerm (32 ∷ rest) → IsField (Cell n) field → rest ≡ field ++ behind → ⊥
unfolding is_lower
no_cell_begins n field behind rest (inl e) i f = cc
no_cell_begins n field behind rest (inr (brace r e)) i f = let q : rest ≡ 123 ∷ r = cc in
    cell_first n field behind r 123 i (sym f ∙ q) refl refl (λ x. omega arith)
no_cell_begins n field behind rest (inr (mark r e)) i f = let q : rest ≡ 33 ∷ r = cc in
    cell_first n field behind r 33 i (sym f ∙ q) refl refl (λ x. omega arith)

-- ---- what is wrong behind cells

no_cells_field : (n : ℕ) (rest : List ℕ) → (HasNoTerm (32 ∷ rest) → ⊥) → HasNone (Cell n) rest → HasNoField (Cells n) rest
no_cells_field n rest bare h Number field behind next a i e end = let x : ⊥ = cc in x
no_cells_field n rest bare h Argument field behind next a i e end = let x : ⊥ = cc in x
no_cells_field n rest bare h Plain field behind next a i e end = let x : ⊥ = cc in x
no_cells_field n rest bare h Sign field behind next a i e end = let x : ⊥ = cc in x
no_cells_field n rest bare h (Cell j) field behind next a i e end =
    h field behind (subst (λ m. IsField (Cell m) field) (sym (same_row n j (Some (Cells n)) next a)) i) e end
no_cells_field n rest bare h Set field behind next a i e end = bare (inr (brace _ (ap (λ z. 32 ∷ z) (e ∙ ap (λ z. z ++ behind) i.is))))
no_cells_field n rest bare h Mark field behind next a i e end = bare (inr (mark _ (ap (λ z. 32 ∷ z) (e ∙ ap (λ z. z ++ behind) (byte_of_mark field i)))))
  where
    byte_of_mark : (field : List ℕ) → IsField Mark field → field ≡ 33 ∷ []
    byte_of_mark field e = e

no_more_field : (n : ℕ) (rest : List ℕ) → HasNone (Cell n) rest → HasNoField (More n) rest
no_more_field n rest h Number field behind next a i e end = let x : ⊥ = cc in x
no_more_field n rest h Set field behind next a i e end = let x : ⊥ = cc in x
no_more_field n rest h Argument field behind next a i e end = let x : ⊥ = cc in x
no_more_field n rest h Mark field behind next a i e end = let x : ⊥ = cc in x
no_more_field n rest h Plain field behind next a i e end = let x : ⊥ = cc in x
no_more_field n rest h Sign field behind next a i e end = let x : ⊥ = cc in x
no_more_field n rest h (Cell j) field behind next a i e end =
    h field behind (subst (λ m. IsField (Cell m) field) (sym (same_row n j (Some (More n)) next a)) i) e end

-- a field that is no cell, where terms and premises may follow
pub cells_bad : (n : ℕ) (bytes : List ℕ) (left : ℕ) → StopsAtCell n bytes left → StopsAt (Cells n) bytes left
cells_bad n bytes left s = stops_after (Cells n) (Cells n) bytes s.good s.rest left s.is (s.fields (Cells n) (cells_after n))
    (record { good = []; rest = s.rest; next = Cells n; is = refl; fields = none; left_is = s.lacks.left_is; bad = bad s.lacks.missing })
  where
    bad : IsMissing (Cell n) s.rest → IsBad (Cells n) s.rest
    bad (all_read e) = absurd (s.goes_on (inl e))
    bad (other there e h) = wrong there e (no_cells_field n there (subst (λ z. HasNoTerm z → ⊥) e s.goes_on) h)

-- and where arguments may follow
pub more_bad : (n : ℕ) (bytes : List ℕ) (left : ℕ) → StopsAtCell n bytes left → StopsAt (More n) bytes left
more_bad n bytes left s = stops_after (More n) (More n) bytes s.good s.rest left s.is (s.fields (More n) (more_after n))
    (record { good = []; rest = s.rest; next = More n; is = refl; fields = none; left_is = s.lacks.left_is; bad = bad s.lacks.missing })
  where
    bad : IsMissing (Cell n) s.rest → IsBad (More n) s.rest
    bad (all_read e) = absurd (s.goes_on (inl e))
    bad (other there e h) = wrong there e (no_more_field n there h)

-- a premise behind arguments
pub more_end : (n : ℕ) (rest : List ℕ) (left : ℕ) → HasNoTerm rest → StopsAt Nothing rest left → StopsAt (More n) rest left
more_end n rest left h s = by_fields s.good s.next s.is s.fields s.bad
  where
    by_bad : (r : List ℕ) → rest ≡ r → left ≡ length r → IsBad Nothing r → StopsAt (More n) rest left
    by_bad r e l (lacking f m) = let x : true ≡ false = m in let z : ⊥ = cc in absurd z
    by_bad r e l (wrong there f g) = record {
      good = [];
      rest = rest;
      next = More n;
      is = refl;
      fields = none;
      left_is = l ∙ sym (ap length e);
      bad = wrong there (e ∙ f) (no_more_field n there (λ field behind i q end. no_cell_begins n field behind there (subst HasNoTerm (e ∙ f) h) i q));
    }

    by_fields : (good : List ℕ) (next : Want) → rest ≡ good ++ s.rest → Fields Nothing good next → IsBad next s.rest → StopsAt (More n) rest left
    by_fields good next e none b = by_bad s.rest e s.left_is b
    by_fields good next e (one k field v a i f) b = let x : ⊥ = cc in absurd x

-- a wrong premise behind cells
pub parts_bad : (n : ℕ) (bytes : List ℕ) (left : ℕ) → HasNoTerm bytes → StopsAt Arguments bytes left → StopsAt (Cells n) bytes left
unfolding is_lower
parts_bad n bytes left h s = by_fields s.good s.next s.is s.fields s.bad
  where
    no_field : (there : List ℕ) → bytes ≡ 32 ∷ there → HasNoField Arguments there → HasNoField (Cells n) there
    no_field there f g Number field behind next a i e end = let x : ⊥ = cc in x
    no_field there f g Argument field behind next a i e end = let x : ⊥ = cc in x
    no_field there f g Plain field behind next a i e end = let x : ⊥ = cc in x
    no_field there f g Sign field behind next a i e end = let x : ⊥ = cc in x
    no_field there f g (Cell j) field behind next a i e end = no_cell_begins j field behind there (subst HasNoTerm f h) i e
    no_field there f g Set field behind next a i e end = g Set field behind Premises refl i e end
    no_field there f g Mark field behind next a i e end = g Mark field behind Premises refl i e end

    by_bad : (r : List ℕ) → bytes ≡ r → left ≡ length r → IsBad Arguments r → StopsAt (Cells n) bytes left
    by_bad r e l (lacking f m) = let x : true ≡ false = m in let z : ⊥ = cc in absurd z
    by_bad r e l (wrong there f g) = record {
      good = [];
      rest = bytes;
      next = Cells n;
      is = refl;
      fields = none;
      left_is = l ∙ sym (ap length e);
      bad =
          wrong there (e ∙ f) (no_field there (e ∙ f) g);
    }

    argument_not : (field behind : List ℕ) → IsField Argument field → bytes ≡ 32 ∷ field ++ behind → ⊥
    argument_not field behind i e = by_begin h
      where
        by_begin : HasNoTerm bytes → ⊥
        by_begin (inl q) = let z : [] ≡ 32 ∷ (field ++ behind) = sym q ∙ e in let x : ⊥ = cc in x
        by_begin (inr (brace r q)) = argument_first field behind r 123 i (behind_byte 32 (field ++ behind) (123 ∷ r) (sym e ∙ q)) refl refl refl
        by_begin (inr (mark r q)) = argument_first field behind r 33 i (behind_byte 32 (field ++ behind) (33 ∷ r) (sym e ∙ q)) refl refl refl

    by_first : (k : Kind) (field rest : List ℕ) (v u : Want) → after_field Arguments k ≡ Some v → IsField k field → Fields v rest u
        → bytes ≡ (32 ∷ field ++ rest) ++ s.rest → IsBad u s.rest → StopsAt (Cells n) bytes left
    by_first Number field rest v u a i f e b = let x : ⊥ = cc in absurd x
    by_first Plain field rest v u a i f e b = let x : ⊥ = cc in absurd x
    by_first Sign field rest v u a i f e b = let x : ⊥ = cc in absurd x
    by_first (Cell j) field rest v u a i f e b = let x : ⊥ = cc in absurd x
    by_first Argument field rest v u a i f e b = absurd (argument_not field (rest ++ s.rest) i (e ∙ ap (λ z. 32 ∷ z) (append_assoc field rest s.rest)))
    by_first Set field rest v u a i f e b = let q : Premises ≡ v = cc in
        record { good = 32 ∷ field ++ rest; rest = s.rest; next = u; is = e; fields = one Set field v (ap (λ z. Some z) q) i f; left_is = s.left_is; bad = b }
    by_first Mark field rest v u a i f e b = let q : Premises ≡ v = cc in
        record { good = 32 ∷ field ++ rest; rest = s.rest; next = u; is = e; fields = one Mark field v (ap (λ z. Some z) q) i f; left_is = s.left_is; bad = b }

    by_fields : (good : List ℕ) (next : Want) → bytes ≡ good ++ s.rest → Fields Arguments good next → IsBad next s.rest → StopsAt (Cells n) bytes left
    by_fields good next e none b = by_bad s.rest e s.left_is b
    by_fields good next e (one {rest = rest} k field v a i f) b = by_first k field rest v next a i f e b

-- ---- rows

-- behind a head: one field, and any number of them up to the end
pub spine_made : (rows : List Term) (names : List (List ℕ)) (bank : Nodes) (bytes : List ℕ) (head : Head) (mid : List (List ℕ)) (part : Nodes) (first : At)
    (behind : List ℕ) (new : List (List ℕ)) (two over : Nodes) (others args : List At) (rest : List ℕ) (at : ℕ) → IsPlainHead names head
    → IsCellField rows names bank bytes mid part first.0 behind → AreCellFields rows mid part behind new two others rest → rest ≡ [] → args ≡ first ∷ others
    → ShowsTerm over at (app head (term_trees two args)) → Extends two over
    → IsSpineOver rows names bank bytes head new over at
spine_made rows names bank bytes head mid part first behind new two over others args rest at p f t r a s e =
    let g = grows_on names mid new f.moves.grows t.moves.grows in
    let kept = at_kept mid part new two first.0 t.moves.grows t.moves.keeps f.cell.good in
    let good : All (λ (b : At). IsSpelledAt new two b.0) args =
    subst (All (λ (b : At). IsSpelledAt new two b.0)) (sym a) (All-cons (λ (b : At). IsSpelledAt new two b.0) first others kept.good t.good) in
    let all = moves_on names bank bytes mid part behind new two rest f.moves t.moves in
    record {
      good = (part_term new two over (HeadWord head) args at (head_on names new head g p).0 good s e).good;
      first = term_tree two first.0;
      others = term_trees two others;
      tree = s.tree ∙ ap (λ (z : List At). app head (term_trees two z)) a;
      shown = λ ns grow. subst (AreCells ns rows (term_tree two first.0 ∷ term_trees two others))
          (sym (f.is ∙ ap (λ z. 32 ∷ f.text ++ z) (t.is ∙ (ap (λ z. t.text ++ z) r ∙ append-nil t.text))))
          (next_cell (subst (λ u. StandsFor ns rows u f.text) (sym kept.tree) (f.cell.stands ns (grows_on mid new ns t.moves.grows grow))) (t.cells ns grow));
      moves = moves_over names bank bytes new two over [] (subst (Moves names bank bytes new two) r all) e;
    }

-- its arguments are in the bank
pub spine_inside : (rows : List Term) (names : List (List ℕ)) (bank : Nodes) (bytes : List ℕ) (mid : List (List ℕ)) (part : Nodes) (first : At)
    (behind : List ℕ) (new : List (List ℕ)) (two : Nodes) (others args : List At) (rest : List ℕ)
    → IsCellField rows names bank bytes mid part first.0 behind → AreCellFields rows mid part behind new two others rest → args ≡ first ∷ others
    → AllInTerms two args
spine_inside rows names bank bytes mid part first behind new two others args rest f t a =
    let kept = at_kept mid part new two first.0 t.moves.grows t.moves.keeps f.cell.good in
    subst (AllInTerms two) (sym a) (All-weaker (λ (b : At). IsSpelledAt new two b.0) (λ (b : At). HasTerm two b.0) (λ b g. g.inside) (first ∷ others)
    (All-cons (λ (b : At). IsSpelledAt new two b.0) first others kept.good t.good))

pair_closed : (names : List (List ℕ)) (h : Head) (x l : Term) → IsTrue (is_cons_head names h) → is_closed x ≡ true → is_closed l ≡ true
    → is_closed (Ap (Ap (Con h) x) l) ≡ true
pair_closed names (Name n) x l c a b = rw (a, b) refl
pair_closed names (Eigen n) x l c a b = let y : false ≡ true = c in let z : ⊥ = cc in absurd z
pair_closed names (Bound n) x l c a b = let y : false ≡ true = c in let z : ⊥ = cc in absurd z

-- behind the sign `::`: two fields
pub pair_made : (rows : List Term) (names : List (List ℕ)) (bank : Nodes) (bytes : List ℕ) (head : Head) (mid : List (List ℕ)) (part : Nodes) (first : At)
    (behind : List ℕ) (new : List (List ℕ)) (two over : Nodes) (second : At) (at : ℕ) → Stays names (λ ns. IsSignHead ns head)
    → IsCellField rows names bank bytes mid part first.0 behind → IsCellField rows mid part behind new two second.0 []
    → ShowsTerm over at (app head (term_trees two (first ∷ second ∷ []))) → Extends two over
    → IsPairOver rows names bank bytes head new over at
pair_made rows names bank bytes head mid part first behind new two over second at p f t s e =
    let g = grows_on names mid new f.moves.grows t.moves.grows in
    let kept = at_kept mid part new two first.0 t.moves.grows t.moves.keeps f.cell.good in
    let sign = (p new g).cons in
    let all = moves_on names bank bytes mid part behind new two [] f.moves t.moves in
    record {
      spine = record {
        good = record {
          inside = s.inside;
          spelled = subst (IsSpelledTerm new) (sym s.tree) (inr sign, (kept.good.spelled, t.cell.good.spelled));
          closed = ap is_closed s.tree ∙ pair_closed new head (term_tree two first.0) (term_tree two second.0) sign kept.good.closed t.cell.good.closed;
        };
        first = term_tree two first.0;
        others = term_tree two second.0 ∷ [];
        tree = s.tree;
        shown = λ ns grow. subst (AreCells ns rows (term_tree two first.0 ∷ term_tree two second.0 ∷ [])) (sym (f.is ∙ ap (λ z. 32 ∷ f.text ++ z) t.is))
            (next_cell (subst (λ u. StandsFor ns rows u f.text) (sym kept.tree) (f.cell.stands ns (grows_on mid new ns t.moves.grows grow)))
            (next_cell (t.cell.stands ns grow) no_cells));
        moves = moves_over names bank bytes new two over [] all e;
      };
      two = refl;
    }

-- a head in front of them
pub share_plain : (rows : List Term) (names : List (List ℕ)) (bank : Nodes) (bytes : List ℕ) (mid : List (List ℕ)) (part : Nodes) (head : Head)
    (behind : List ℕ) (new : List (List ℕ)) (over : Nodes) (at : ℕ) → IsFrontField names bank bytes mid part (front.Plain head) behind
    → IsSpineOver rows mid part behind head new over at
    → IsShareOver rows names bank bytes new over at
share_plain rows names bank bytes mid part head behind new over at f s = record {
  good = s.good;
  shown = λ ns g.
      let k = head_on mid ns head (grows_on mid new ns s.moves.grows g) f.front.0 in
      record {
        head = head;
        first = s.first;
        others = s.others;
        cells = behind;
        is = s.tree;
        fits = inl k.0;
        shown = s.shown ns g;
        text =
            ap (λ z. codes "share" ++ z) (f.is ∙ ap (λ z. 32 ∷ z ++ behind) (sym (k.1 ∙ f.front.1)));
      };
  moves = moves_on names bank bytes mid part behind new over [] f.moves s.moves;
}

pub share_sign : (rows : List Term) (names : List (List ℕ)) (bank : Nodes) (bytes : List ℕ) (mid : List (List ℕ)) (part : Nodes) (head : Head) (behind : List ℕ)
    (new : List (List ℕ)) (over : Nodes) (at : ℕ) → IsFrontField names bank bytes mid part (front.Sign head) behind
    → IsPairOver rows mid part behind head new over at
    → IsShareOver rows names bank bytes new over at
share_sign rows names bank bytes mid part head behind new over at f p =
    let s = p.spine in
    record {
      good = s.good;
      shown = λ ns g.
          let k = f.front.1 ns (grows_on mid new ns s.moves.grows g) in
          record {
            head = head;
            first = s.first;
            others = s.others;
            cells = behind;
            is = s.tree;
            fits = inr (k.cons, p.two);
            shown = s.shown ns g;
            text =
                ap (λ z. codes "share" ++ z) (f.is ∙ ap (λ z. 32 ∷ z ++ behind) (sym (k.text ∙ sym f.front.0)));
          };
      moves = moves_on names bank bytes mid part behind new over [] f.moves s.moves;
    }

-- ---- lines

pub share_line_made : (rows : List Term) (names : List (List ℕ)) (bank : Nodes) (line w rest : List ℕ) (new : List (List ℕ)) (over : Nodes) (at : ℕ)
    → line ≡ w ++ rest → w ≡ codes "share" → IsAtEnd rest → IsShareOver rows names bank rest new over at → IsShareRow rows names bank line new over at
share_line_made rows names bank line w rest new over at e k end s =
    let text : line ≡ codes "share" ++ rest = e ∙ ap (λ z. z ++ rest) k in
    record {
      good = s.good;
      shown = λ ns g. subst (IsShare ns rows (term_tree over at)) (sym text) (s.shown ns g);
      moves = subst (λ z. MovesLine names bank z new over) (sym text) (moves_line names bank (codes "share") rest new over refl end s.moves);
    }

last_text : (rows : List Term) (names : List (List ℕ)) (bank : Nodes) (rest : List ℕ) (new : List (List ℕ)) (over : Nodes) (at : ℕ)
    → (f : IsCellField rows names bank rest new over at []) → rest ≡ 32 ∷ f.text
last_text rows names bank rest new over at f = f.is ∙ ap (λ z. 32 ∷ z) (append-nil f.text)

pub let_made : (rows : List Term) (names : List (List ℕ)) (bank : Nodes) (line w rest : List ℕ) (new : List (List ℕ)) (over : Nodes) (at : ℕ) → line ≡ w ++ rest
    → w ≡ codes "let" → IsAtEnd rest → IsCellField rows names bank rest new over at [] → IsLetOver rows names bank line new over at
let_made rows names bank line w rest new over at e k end f =
    let text : line ≡ codes "let" ++ rest = e ∙ ap (λ z. z ++ rest) k in
    record {
      good = f.cell.good;
      shown = λ ns g. record {
        text = f.text;
        stands = f.cell.stands ns g;
        is =
            text ∙ ap (λ z. codes "let" ++ z) (last_text rows names bank rest new over at f);
      };
      moves = subst (λ z. MovesLine names bank z new over) (sym text) (moves_line names bank (codes "let") rest new over refl end f.moves);
    }

pub exists_made : (rows : List Term) (names : List (List ℕ)) (bank : Nodes) (rest : List ℕ) (new : List (List ℕ)) (over : Nodes) (at : At) → IsAtEnd rest
    → IsCellField rows names bank rest new over at.0 [] → IsStepOver rows names bank (codes "exists" ++ rest) new over (rule.Exists at)
exists_made rows names bank rest new over at end f = record {
  good = f.cell.good;
  shown = λ ns g. record { text = f.text; stands = f.cell.stands ns g; is = ap (λ z. codes "exists" ++ z) (last_text rows names bank rest new over at.0 f) };
  moves = moves_line names bank (codes "exists") rest new over refl end f.moves;
}

pub clause_over : (rows : List Term) (names : List (List ℕ)) (bank : Nodes) (bytes : List ℕ) (new : List (List ℕ)) (over : Nodes) (n : ℕ) (rest : List ℕ)
    (k : ℕ) (behind : List ℕ) (terms : List At) (last : List ℕ) (parts : List Part) (r : Rule) → IsAtEnd bytes → IsNumberField bytes n rest
    → IsNumberField rest k behind
    → AreCellFields rows names bank behind new over terms last → ArePartFields last parts → IsGoodRule new over r
    → ((ns : List (List ℕ)) → IsClauseStep ns rows n k (term_trees over terms) (flat_map part_field (map part_line parts)) (codes "clause" ++ bytes)
    → IsStep ns rows (line_of over r) (codes "clause" ++ bytes))
    → IsStepOver rows names bank (codes "clause" ++ bytes) new over r
clause_over rows names bank bytes new over n rest k behind terms last parts r end f g t p good turn = record {
  good = good;
  shown = λ ns grow. turn ns (record {
    cells = t.text;
    shown = t.cells ns grow;
    is = ap (λ z. codes "clause" ++ z) (f.is ∙ ap (λ z. field (decimal n) ++ z) (g.is ∙ ap (λ z. field (decimal k) ++ z) (t.is ∙ ap (λ z. t.text ++ z) p.is)));
  });
  moves = moves_line names bank (codes "clause") bytes new over refl end
      (behind_number names bank bytes n rest new over [] f (behind_number names bank rest k behind new over [] g
      (moves_on names bank behind new over last new over [] t.moves (parts_move new over last parts p))));
}

-- ---- nodes without terms

-- what may follow the word holds terms
abbrev pub takes_terms : NodeWord → Bool
takes_terms word.Exists = true
takes_terms word.Clause = true
takes_terms word.True = false
takes_terms word.Erase = false
takes_terms word.Tensor = false
takes_terms word.With = false
takes_terms word.Left = false
takes_terms word.Right = false
takes_terms word.Bang = false
takes_terms word.Lolli = false
takes_terms word.Imp = false
takes_terms word.Forall = false
takes_terms word.Use = false
takes_terms word.Num = false

pub asks_same : (n : ℕ) (k : NodeWord) → takes_terms k ≡ false → asks_over n k ≡ asks k
asks_same n word.Exists h = absurd cc
asks_same n word.Clause h = absurd cc
asks_same n word.True h = refl
asks_same n word.Erase h = refl
asks_same n word.Tensor h = refl
asks_same n word.With h = refl
asks_same n word.Left h = refl
asks_same n word.Right h = refl
asks_same n word.Bang h = refl
asks_same n word.Lolli h = refl
asks_same n word.Imp h = refl
asks_same n word.Forall h = refl
asks_same n word.Use h = refl
asks_same n word.Num h = refl

differ : (a b : List ℕ) → bytes_eq a b ≡ false → a ≡ b → ⊥
differ a b f e = let x : bytes_eq a b ≡ true = (bytes_eq-Decides a b).1 e in let y : true ≡ false = sym x ∙ f in let z : ⊥ = cc in z

record IsOtherWord (k : NodeWord) : Type 0 where
  pub free : list_all (is_not 32) (spelling k) ≡ true
  pub exists : bytes_eq (spelling k) (codes "exists") ≡ false
  pub clause : bytes_eq (spelling k) (codes "clause") ≡ false

other_word : (k : NodeWord) → takes_terms k ≡ false → IsOtherWord k
other_word word.Exists h = absurd cc
other_word word.Clause h = absurd cc
other_word word.True h = record { free = refl; exists = refl; clause = refl }
other_word word.Erase h = record { free = refl; exists = refl; clause = refl }
other_word word.Tensor h = record { free = refl; exists = refl; clause = refl }
other_word word.With h = record { free = refl; exists = refl; clause = refl }
other_word word.Left h = record { free = refl; exists = refl; clause = refl }
other_word word.Right h = record { free = refl; exists = refl; clause = refl }
other_word word.Bang h = record { free = refl; exists = refl; clause = refl }
other_word word.Lolli h = record { free = refl; exists = refl; clause = refl }
other_word word.Imp h = record { free = refl; exists = refl; clause = refl }
other_word word.Forall h = record { free = refl; exists = refl; clause = refl }
other_word word.Use h = record { free = refl; exists = refl; clause = refl }
other_word word.Num h = record { free = refl; exists = refl; clause = refl }

pub one_first : (w v rest others : List ℕ) → list_all (is_not 32) w ≡ true → list_all (is_not 32) v ≡ true → IsAtEnd rest → IsAtEnd others
    → w ++ rest ≡ v ++ others → w ≡ v
one_first w v rest others f g s t e = sym (first_alone w rest f s) ∙ (ap first_word e ∙ first_alone v others g t)

-- the line of a node of which no field is a term
pub step_plain : (rows : List Term) (names : List (List ℕ)) (bank : Nodes) (k : NodeWord) (rest : List ℕ) (new : List (List ℕ)) (over : Nodes) (r : Rule)
    → takes_terms k ≡ false → IsAtEnd rest → IsNodeRow names bank (spelling k ++ rest) new over r → IsStepOver rows names bank (spelling k ++ rest) new over r
step_plain rows names bank k rest new over r h end i = record { good = i.good; shown = λ ns g. shown r i.is ns; moves = i.moves }
  where
    o : IsOtherWord k
    o = other_word k h

    no_exists : (others : List ℕ) → IsAtEnd others → spelling k ++ rest ≡ codes "exists" ++ others → ⊥
    no_exists others s e = differ (spelling k) (codes "exists") o.exists (one_first (spelling k) (codes "exists") rest others o.free refl end s e)

    no_clause : (others : List ℕ) → IsAtEnd others → spelling k ++ rest ≡ codes "clause" ++ others → ⊥
    no_clause others s e = differ (spelling k) (codes "clause") o.clause (one_first (spelling k) (codes "clause") rest others o.free refl end s e)

    clause_front : (a b c d e : List ℕ) → (((a ++ b) ++ c) ++ d) ++ e ≡ a ++ (b ++ (c ++ (d ++ e)))
    clause_front a b c d e = simp append_assoc

    shown : (r : Rule) → spelling k ++ rest ≡ node_text new (line_of over r) → (ns : List (List ℕ)) → IsStep ns rows (line_of over r) (spelling k ++ rest)
    shown rule.One e ns = e
    shown rule.Erase e ns = e
    shown rule.With e ns = e
    shown rule.Left e ns = e
    shown rule.Right e ns = e
    shown rule.Bang e ns = e
    shown rule.Use e ns = e
    shown rule.Num e ns = e
    shown (rule.Tensor s t) e ns = e
    shown (rule.Lolli n) e ns = e
    shown (rule.Imp n) e ns = e
    shown (rule.Forall n) e ns = e
    shown (rule.Exists t) e ns = absurd (no_exists (term_field new (term_tree over t.0)) space e)
    shown (rule.Clause n j ts ps) e ns =
        absurd
        (no_clause (field (decimal n) ++ (field (decimal j) ++
        (flat_map (term_field new) (term_trees over ts.items) ++ flat_map part_field (map part_line ps.items)))) space
        (e ∙ clause_front (codes "clause") (field (decimal n)) (field (decimal j)) (flat_map (term_field new) (term_trees over ts.items))
        (flat_map part_field (map part_line ps.items))))

-- ---- first words

same_words : (xs ys : List (List ℕ × Want)) → map (λ (e : List ℕ × Want). e.0) xs ≡ map (λ (e : List ℕ × Want). e.0) ys → (w : List ℕ) → listed xs w ≡ None
    → listed ys w ≡ None
same_words xs [] e w h = refl
same_words [] (y ∷ ys) e w h = absurd cc
same_words (x ∷ xs) (y ∷ ys) e w h = by_test (bytes_eq x.0 w) refl h
    (same_words xs ys (let q : map (λ (e : List ℕ × Want). e.0) xs ≡ map (λ (e : List ℕ × Want). e.0) ys = cc in q) w)
  where
    first : x.0 ≡ y.0
    first = cc

    by_test : (t : Bool) → bytes_eq x.0 w ≡ t → (if t then Some x.1 else listed xs w) ≡ None → (listed xs w ≡ None → listed ys w ≡ None)
        → (if bytes_eq y.0 w then Some y.1 else listed ys w) ≡ None
    by_test true t g more = absurd cc
    by_test false t g more = let q : bytes_eq y.0 w ≡ false = ap (λ z. bytes_eq z w) (sym first) ∙ t in rw q (more g)

known_over : (n : ℕ) (k : NodeWord) → listed (node_words_over n) (spelling k) ≡ Some (asks_over n k)
known_over n word.True = refl
known_over n word.Erase = refl
known_over n word.Tensor = refl
known_over n word.With = refl
known_over n word.Left = refl
known_over n word.Right = refl
known_over n word.Bang = refl
known_over n word.Lolli = refl
known_over n word.Imp = refl
known_over n word.Forall = refl
known_over n word.Exists = refl
known_over n word.Use = refl
known_over n word.Num = refl
known_over n word.Clause = refl

not_first : (s : List ℕ) (v : Want) (more : List (List ℕ × Want)) (w : List ℕ) → bytes_eq s w ≡ false → listed ((s, v) ∷ more) w ≡ listed more w
not_first s v more w f = rw f refl

behind_let : (n : ℕ) (lets : Bool) (w : List ℕ) → bytes_eq (codes "let") w ≡ false → listed (let_words_over n lets) w ≡ listed (node_words_over n) w
behind_let n true w f = not_first (codes "let") (Then (Cell n) Nothing) (node_words_over n) w f
behind_let n false w f = refl

behind_share : (n : ℕ) (shares lets : Bool) (w : List ℕ) → bytes_eq (codes "share") w ≡ false → want_over n shares lets w ≡ listed (let_words_over n lets) w
behind_share n true lets w f = not_first (codes "share") (Row n) (let_words_over n lets) w f
behind_share n false lets w f = refl

equal : (w t : List ℕ) → true ≡ bytes_eq w t → w ≡ t
equal w t h = (bytes_eq-Decides w t).0 (sym h)

pub line_node : (stage : Stage) (w s t : List ℕ) (k : NodeWord) → false ≡ bytes_eq w s → s ≡ codes "share" → false ≡ bytes_eq w t → t ≡ codes "let"
    → IsNodeWord w k → IsLineWord stage w (first.Node k)
line_node stage w s t k f e g h i = record {
  is = i.is;
  may = tt;
  known = λ n. behind_share n stage.shares stage.lets w (unlike w s (codes "share") f e)
      ∙ (behind_let n stage.lets w (unlike w t (codes "let") g h) ∙ (ap (listed (node_words_over n)) i.is ∙ known_over n k));
}

pub line_none : (stage : Stage) (w s t : List ℕ) → false ≡ bytes_eq w s → s ≡ codes "share" → false ≡ bytes_eq w t → t ≡ codes "let"
    → listed node_words w ≡ None → (n : ℕ) → want_over n stage.shares stage.lets w ≡ None
line_none stage w s t f e g h i n = behind_share n stage.shares stage.lets w (unlike w s (codes "share") f e)
    ∙ (behind_let n stage.lets w (unlike w t (codes "let") g h) ∙ same_words node_words (node_words_over n) refl w i)

pub line_share : (stage : Stage) (w s : List ℕ) → true ≡ bytes_eq w s → s ≡ codes "share" → stage.shares ≡ true → IsLineWord stage w first.Share
line_share stage w s h e l = record {
  is = equal w s h ∙ e;
  may = l;
  known =
      λ n. ap (λ b. want_over n b stage.lets w) l ∙ ap (want_over n true stage.lets) (equal w s h ∙ e);
}

share_words : (n : ℕ) (lets : Bool) → want_over n false lets (codes "share") ≡ None
share_words n true = refl
share_words n false = refl

pub no_share : (stage : Stage) (w s : List ℕ) → true ≡ bytes_eq w s → s ≡ codes "share" → stage.shares ≡ false → (n : ℕ)
    → want_over n stage.shares stage.lets w ≡ None
no_share stage w s h e l n = ap (λ b. want_over n b stage.lets w) l ∙ (ap (want_over n false stage.lets) (equal w s h ∙ e) ∙ share_words n stage.lets)

let_words : (n : ℕ) (shares : Bool) → want_over n shares true (codes "let") ≡ Some (Then (Cell n) Nothing)
let_words n true = refl
let_words n false = refl

no_let_words : (n : ℕ) (shares : Bool) → want_over n shares false (codes "let") ≡ None
no_let_words n true = refl
no_let_words n false = refl

pub line_let : (stage : Stage) (w t : List ℕ) → true ≡ bytes_eq w t → t ≡ codes "let" → stage.lets ≡ true → IsLineWord stage w first.Let
line_let stage w t h e l = record {
  is = equal w t h ∙ e;
  may = l;
  known =
      λ n. ap (λ b. want_over n stage.shares b w) l ∙ (ap (want_over n stage.shares true) (equal w t h ∙ e) ∙ let_words n stage.shares);
}

pub no_let : (stage : Stage) (w t : List ℕ) → true ≡ bytes_eq w t → t ≡ codes "let" → stage.lets ≡ false → (n : ℕ)
    → want_over n stage.shares stage.lets w ≡ None
no_let stage w t h e l n = ap (λ b. want_over n stage.shares b w) l ∙ (ap (want_over n stage.shares false) (equal w t h ∙ e) ∙ no_let_words n stage.shares)

-- a word that is unknown
pub word_unknown : (wants : List ℕ → Option Want) (line w rest : List ℕ) → line ≡ w ++ rest → list_all (is_not 32) w ≡ true → Stops (is_not 32) rest
    → wants w ≡ None → wants (first_word line) ≡ None
word_unknown wants line w rest e h s n = ap (λ z. wants (first_word z)) e ∙ (ap wants (first_alone w rest h (stops_end rest s)) ∙ n)

pub step_made : (rows : List Term) (names : List (List ℕ)) (bank : Nodes) (line w rest : List ℕ) (k : NodeWord) (new : List (List ℕ)) (over : Nodes) (r : Rule)
    → line ≡ w ++ rest → w ≡ spelling k → IsStepOver rows names bank (spelling k ++ rest) new over r → IsStepOver rows names bank line new over r
step_made rows names bank line w rest k new over r e i s = subst (λ z. IsStepOver rows names bank z new over r) (sym (e ∙ ap (λ z. z ++ rest) i)) s

-- ---- heads

-- no head
pub front_bad : (n : ℕ) (bytes : List ℕ) (left : ℕ) → LacksFront bytes left → StopsAt (Row n) bytes left
front_bad n bytes left l = record { good = []; rest = bytes; next = Row n; is = refl; fields = none; left_is = l.left_is; bad = bad l.plain l.sign }
  where
    no_field : (there : List ℕ) → HasNone Plain there → HasNone Sign there → HasNoField (Row n) there
    no_field there p s Plain field behind next a i e end = p field behind i e end
    no_field there p s Sign field behind next a i e end = s field behind i e end
    no_field there p s Number field behind next a i e end = let x : ⊥ = cc in x
    no_field there p s Set field behind next a i e end = let x : ⊥ = cc in x
    no_field there p s Argument field behind next a i e end = let x : ⊥ = cc in x
    no_field there p s Mark field behind next a i e end = let x : ⊥ = cc in x
    no_field there p s (Cell j) field behind next a i e end = let x : ⊥ = cc in x

    bad : IsMissing Plain bytes → IsMissing Sign bytes → IsBad (Row n) bytes
    bad (all_read e) s = lacking e refl
    bad (other there e h) (all_read f) = let q : 32 ∷ there ≡ [] = sym e ∙ f in absurd cc
    bad (other there e h) (other there' f g) = let q : 32 ∷ there' ≡ 32 ∷ there = sym f ∙ e in
        wrong there e (no_field there h (subst (HasNone Sign) (let r : there' ≡ there = cc in r) g))

-- behind a head
pub plain_bad : (n : ℕ) (names : List (List ℕ)) (bank : Nodes) (bytes : List ℕ) (new : List (List ℕ)) (over : Nodes) (h : Head) (rest : List ℕ) (left : ℕ)
    → IsFrontField names bank bytes new over (front.Plain h) rest → StopsAt (Then (Cell n) (More n)) rest left → StopsAt (Row n) bytes left
plain_bad n names bank bytes new over h rest left f s = stops_behind Plain (Row n) (Then (Cell n) (More n)) bytes f.text rest left refl
    (record { names = new; head = h; plain = f.front.0; is = sym f.front.1 }) f.is s

pub sign_bad : (n : ℕ) (names : List (List ℕ)) (bank : Nodes) (bytes : List ℕ) (new : List (List ℕ)) (over : Nodes) (h : Head) (rest : List ℕ) (left : ℕ)
    → IsFrontField names bank bytes new over (front.Sign h) rest → StopsAt (Then (Cell n) (Then (Cell n) Nothing)) rest left → StopsAt (Row n) bytes left
sign_bad n names bank bytes new over h rest left f s = stops_behind Sign (Row n) (Then (Cell n) (Then (Cell n) Nothing)) bytes f.text rest left refl f.front.0
    f.is s

pub plain_kind : (k : NodeWord) → (k ≡ word.Exists → ⊥) → (k ≡ word.Clause → ⊥) → takes_terms k ≡ false
plain_kind word.Exists h g = absurd (h refl)
plain_kind word.Clause h g = absurd (g refl)
plain_kind word.True h g = refl
plain_kind word.Erase h g = refl
plain_kind word.Tensor h g = refl
plain_kind word.With h g = refl
plain_kind word.Left h g = refl
plain_kind word.Right h g = refl
plain_kind word.Bang h g = refl
plain_kind word.Lolli h g = refl
plain_kind word.Imp h g = refl
plain_kind word.Forall h g = refl
plain_kind word.Use h g = refl
plain_kind word.Num h g = refl

pub if_err : {A E : Type 0} (x : Result A E) (P Q : E → Type 0) → ((e : E) → P e → Q e) → IfErr x P → IfErr x Q
if_err (Ok a) P Q f h = tt
if_err (Err e) P Q f h = f e h
