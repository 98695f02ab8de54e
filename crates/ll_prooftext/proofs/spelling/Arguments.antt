-- Arguments, whole.
use Rattle.std.proofs.Common.{◌≡◌, ℕ, Bool, true, false, List, [], ◌∷◌, ◌++◌, All, refl, ap, sym, subst, ◌∙◌, append_assoc, append-nil, IsTrue, Some, None}
use Rattle.std.proofs.Common.{decimal}
use Rattle.std.proofs.lemmas.List.Elements.{All-nil}
use Rattle.std.specs.Prelude.{◌==◌}
use Rattle.ll_bank.specs.declared.At.{At}
use Rattle.ll_bank.specs.Term.{Term, Var, Int, Con, Ap}
use Rattle.ll_bank.specs.Nodes.{Nodes, term_tree, Extends}
use Rattle.ll_laws.specs.Output.{has_arguments, term_text}
use Rattle.ll_prooftext.specs.declared.words.Word.{Word}
use Rattle.ll_prooftext.specs.declared.terms.Open.{Open}
use Rattle.ll_prooftext.specs.Admitted.{IsSpelledTerm}
use Rattle.ll_prooftext.specs.Reading.{IsArgument, IsAtEnd, line_end, space, Argument}
use Rattle.ll_prooftext.specs.Words.{Stops, ended, at_byte, BeginsNot, HasNone}
use Rattle.ll_prooftext.specs.Terms.{is_part, Shape, Wanted, Bare, Applied, Closed, IsWord, variable, number, IsWordAt, HasNoWord, fresh, Accepts, Moves}
use Rattle.ll_prooftext.specs.Terms.{IsSpelledAt, argument_at}
use Rattle.ll_prooftext.specs.Brackets.{shape_of, frames, open_text, IsGoodItem, IsGoodPart, IsGoodBracket, IsGood, Turns, Ends, IsTermFrom, IsArgumentAt}
use Rattle.ll_prooftext.proofs.spelling.Found.{moves_still, moves_over, moves_behind, moves_on}
use Rattle.ll_prooftext.proofs.spelling.Mentioning.{open_mentions}
use Rattle.ll_prooftext.proofs.spelling.Spellings.{one_word, word_parts, Starts, head_start, leaf_start, head_first, leaf_first}
use Rattle.ll_prooftext.proofs.spelling.Reach.{head_word, accepts_whole}
use Rattle.ll_prooftext.proofs.spelling.Steps.{word_good, word_text, word_shape, part_term, leaf_argument}
use Rattle.ll_prooftext.proofs.spelling.Ways.{no_bracket, byte_apart, behind_byte}

-- where a field ends a word does
pub end_stops : (rest : List ℕ) → IsAtEnd rest → Stops is_part rest
end_stops [] e = ended refl
end_stops (b ∷ rest) e = at_byte b rest refl (ap is_part (byte (b ∷ rest) b rest refl e))
  where
    byte : (bs : List ℕ) (b : ℕ) (rest : List ℕ) → bs ≡ b ∷ rest → IsAtEnd bs → b ≡ 32
    byte bs b rest e line_end = absurd cc
    byte bs b rest e space = cc

-- the word of a term without arguments
pub record IsSomeWord (w : List ℕ) : Type 0 where
  pub shape : Shape
  pub word : IsWord w shape

pub bare_word : (names : List (List ℕ)) (t : Term) → IsSpelledTerm names t → has_arguments t ≡ false → IsSomeWord (term_text names t)
bare_word names (Var n) s h = record { shape = Closed; word = variable (decimal n) refl (record { number = n; small = s; is = refl }) }
bare_word names (Int z) s h = record { shape = Closed; word = number (record { value = z; fits = s; is = refl }) }
bare_word names (Con c) s h = record { shape = Bare; word = head_word names c s }
bare_word names (Ap f a) s h = absurd cc

-- an argument is a word, or stands in brackets
data Form (field : List ℕ) (i : IsArgument field) : Type 0 where
  bare : (p : Shape) → IsWord field p → Form field i
  boxed : has_arguments i.term ≡ true → field ≡ 40 ∷ (term_text i.names i.term ++ 41 ∷ []) → Form field i

form : (field : List ℕ) (i : IsArgument field) → Form field i
form field i = by_test (has_arguments i.term) refl
  where
    by_test : (v : Bool) → has_arguments i.term ≡ v → Form field i
    by_test true h = boxed h (i.is ∙ (rw h refl))
    by_test false h =
        let w = bare_word i.names i.term i.spelled h in
        let e : field ≡ term_text i.names i.term = i.is ∙ (rw h refl) in
        bare w.shape (subst (λ z. IsWord z w.shape) (sym e) w.word)

-- behind an open bracket an argument is read to its end
pub inside_accepted : (inside field rest : List ℕ) → IsArgument field → 40 ∷ inside ≡ field ++ rest → Accepts rest (fresh ∷ []) inside
inside_accepted inside field rest i e = by_form (form field i)
  where
    by_form : Form field i → Accepts rest (fresh ∷ []) inside
    by_form (bare p w) = absurd (no_bracket field rest inside p w (sym e))
    by_form (boxed h f) =
        let text = term_text i.names i.term in
        let g : 40 ∷ inside ≡ 40 ∷ (text ++ 41 ∷ rest) = e ∙ (ap (λ z. z ++ rest) f ∙ ap (λ z. 40 ∷ z) (append_assoc text (41 ∷ []) rest)) in
        subst (Accepts rest (fresh ∷ [])) (sym (behind_byte 40 inside (text ++ 41 ∷ rest) g)) (accepts_whole i.names i.term i.spelled h rest)

-- no word and no bracket
pub no_argument : (bytes : List ℕ) → BeginsNot 40 bytes → HasNoWord bytes → HasNone Argument bytes
no_argument bytes b n field rest i e end = by_form (form field i)
  where
    by_form : Form field i → ⊥
    by_form (bare p w) = n field rest p w e (end_stops rest end)
    by_form (boxed h f) = b ((term_text i.names i.term ++ 41 ∷ []) ++ rest) (e ∙ ap (λ z. z ++ rest) f)

-- a word that ends elsewhere
pub other_end : (names : List (List ℕ)) (bank : Nodes) (bytes : List ℕ) (x : Word) (left : List ℕ) → BeginsNot 40 bytes → IsWordAt names bank bytes x left
    → (IsAtEnd left → ⊥) → HasNone Argument bytes
other_end names bank bytes x left b at none field rest i e end = by_form (form field i)
  where
    by_form : Form field i → ⊥
    by_form (bare q v) =
        let k = one_word at.spelling left field rest q (word_parts at.spelling (shape_of (Some x) []) (word_shape names bank at.spelling x at.word)) at.end v
        (end_stops rest end) (sym at.is ∙ e) in
        none (subst IsAtEnd (sym k.1) end)
    by_form (boxed h g) = b ((term_text i.names i.term ++ 41 ∷ []) ++ rest) (e ∙ ap (λ z. z ++ rest) g)

-- the term of a word
pub word_argument : (names : List (List ℕ)) (bank : Nodes) (bytes : List ℕ) (new : List (List ℕ)) (mid over : Nodes) (x : Word) (left : List ℕ) (at : ℕ)
    → Moves names bank bytes new mid left → IsWordAt new mid bytes x left → IsAtEnd left → IsTermFrom mid over x [] at → Extends mid over
    → IsArgumentAt names bank bytes new over at left
word_argument names bank bytes new mid over x left at m w end t e =
    let k = part_term new mid over x [] at (word_good new mid w.spelling x w.word) (All-nil (λ (a : At). IsSpelledAt new mid a.0)) t e in
    let word : argument_at new over at ≡ w.spelling = leaf_argument (term_tree over at) (term_text new (term_tree over at)) k.has
    ∙ (k.text ∙ (append-nil _ ∙ word_text new mid w.spelling x w.word)) in
    record {
      good = k.good;
      is = w.is ∙ ap (λ z. z ++ left) (sym word);
      end = end;
      moves = moves_over names bank bytes new mid over left m e;
    }

-- ---- bracket by bracket

-- so far was read of an argument in brackets
pub record IsReading (names : List (List ℕ)) (bank : Nodes) (inside : List ℕ) (new : List (List ℕ)) (over : Nodes) (o : Open) (rest : List ℕ) : Type 0 where
  pub good : IsGood new over o
  pub text : open_text new over o ++ rest ≡ 40 ∷ inside
  pub moves : Moves names bank inside new over rest
  pub goes : (end : List ℕ) → Accepts end (fresh ∷ []) inside → Accepts end (frames o) rest

pub reading_on : (names : List (List ℕ)) (bank : Nodes) (inside : List ℕ) (new : List (List ℕ)) (over : Nodes) (o : Open) (rest : List ℕ)
    (later : List (List ℕ)) (after : Nodes) (p : Open) (left : List ℕ) → IsReading names bank inside new over o rest → Turns new over o rest later after p left
    → IsReading names bank inside later after p left
reading_on names bank inside new over o rest later after p left r t = record {
  good = t.good;
  text = t.text ∙ r.text;
  moves = moves_on names bank inside new over rest later after left r.moves t.moves;
  goes = λ end a. t.goes end (r.goes end a);
}

pub reading_stuck : (names : List (List ℕ)) (bank : Nodes) (inside : List ℕ) (new : List (List ℕ)) (over : Nodes) (o : Open) (rest : List ℕ)
    → IsReading names bank inside new over o rest → ((end : List ℕ) → Accepts end (frames o) rest → ⊥) → HasNone Argument (40 ∷ inside)
reading_stuck names bank inside new over o rest r s field behind i e end = s behind (r.goes behind (inside_accepted inside field behind i e))

pub reading_ends : (names : List (List ℕ)) (bank : Nodes) (inside : List ℕ) (new : List (List ℕ)) (over : Nodes) (o : Open) (rest : List ℕ)
    (later : List (List ℕ)) (after : Nodes) (at : ℕ) (left : List ℕ) → IsReading names bank inside new over o rest → Ends new over o rest later after at left
    → IsAtEnd left → IsArgumentAt names bank (40 ∷ inside) later after at left
reading_ends names bank inside new over o rest later after at left r t end =
    record {
      good = t.good;
      is = sym (t.text ∙ r.text);
      end = end;
      moves = moves_behind names bank (40 ∷ inside) (40 ∷ []) inside later after left refl (open_mentions inside)
          (moves_on names bank inside new over rest later after left r.moves t.moves);
    }

pub reading_other : (names : List (List ℕ)) (bank : Nodes) (inside : List ℕ) (new : List (List ℕ)) (over : Nodes) (o : Open) (rest : List ℕ)
    (later : List (List ℕ)) (after : Nodes) (at : ℕ) (left : List ℕ) → IsReading names bank inside new over o rest → Ends new over o rest later after at left
    → (IsAtEnd left → ⊥) → HasNone Argument (40 ∷ inside)
reading_other names bank inside new over o rest later after at left r t none field behind i e end =
    let q : left ≡ behind = t.ends behind (r.goes behind (inside_accepted inside field behind i e)) in
    none (subst IsAtEnd (sym q) end)

-- an empty bracket
pub reading_begins : (names : List (List ℕ)) (bank : Nodes) (inside : List ℕ) (o : Open) → o.outer.items ≡ [] → o.top.items.items ≡ [] → o.top.part ≡ None
    → o.top.args.items ≡ [] → IsReading names bank inside names bank o inside
reading_begins names bank inside o e i p a = record {
  good = record {
    outer = subst (All (IsGoodBracket names bank)) (sym e) (All-nil (IsGoodBracket names bank));
    top = record {
      items = subst (All (IsGoodItem names bank)) (sym i) (All-nil (IsGoodItem names bank));
      part = subst (λ z. IsGoodPart names bank z o.top.args.items) (sym p) a;
      args = subst (All (λ (b : At). IsSpelledAt names bank b.0)) (sym a) (All-nil (λ (b : At). IsSpelledAt names bank b.0));
    };
  };
  text = rw (e, i, p, a) refl;
  moves = moves_still names bank inside;
  goes = λ end c. subst (λ fs. Accepts end fs inside) (let f : fresh ∷ [] ≡ frames o = rw (e, i, p) refl in f) c;
}

pub not_ended : {b : Bool} {left : List ℕ} → (IsTrue b → IsAtEnd left) × (IsAtEnd left → IsTrue b) → b ≡ false → IsAtEnd left → ⊥
not_ended {b} h f e = let t : b ≡ true = h.1 e in let x : ⊥ = cc in x

-- no argument begins with `{` or `!`
pub argument_first : (field behind bs : List ℕ) (b : ℕ) → IsArgument field → field ++ behind ≡ b ∷ bs → head_start b ≡ false → leaf_start b ≡ false
    → (40 == b) ≡ false → ⊥
argument_first field behind bs b i e h l n = by_form (form field i)
  where
    begins : (p : ℕ → Bool) → Starts p field → p b ≡ false → ⊥
    begins p s f =
        let g : s.byte ∷ (s.others ++ behind) ≡ b ∷ bs = ap (λ z. z ++ behind) (sym s.is) ∙ e in
        let q : s.byte ≡ b = cc in
        let t : false ≡ true = sym f ∙ (ap p (sym q) ∙ s.passes) in
        let x : ⊥ = cc in x

    by_word : (p : Shape) → IsWord field p → ⊥
    by_word Wanted w = w
    by_word Applied w = w
    by_word Bare w = begins head_start (head_first field w) h
    by_word Closed w = begins leaf_start (leaf_first field w) l

    by_form : Form field i → ⊥
    by_form (bare p w) = by_word p w
    by_form (boxed a f) = byte_apart 40 b ((term_text i.names i.term ++ 41 ∷ []) ++ behind) bs (ap (λ z. z ++ behind) (sym f) ∙ e) n
