-- The fields of a line, one by one.
use Rattle.std.proofs.Common.{◌≡◌, ℕ, ◌<◌, ◌≤◌, ◌^◌, Bool, true, false, List, [], ◌∷◌, ◌++◌, length, refl, ap, sym, subst, ◌∙◌, arith, codes, append_assoc}
use Rattle.std.proofs.Common.{append-nil, IsTrue, Option, Some, None, decimal, inl, inr}
use Rattle.std.specs.Prelude.{◌==◌, if◌then◌else◌}
use Rattle.std.specs.List.{list_all}
use Rattle.std.proofs.lemmas.Bool.{eqb-true}
use Rattle.ll_list_laws.proofs.CallerLemmas.{true_from_not}
use Rattle.ll_bank.specs.Nodes.{Nodes, term_tree}
use Rattle.ll_laws.specs.ProofText.{field, set_text, part_field}
use Rattle.ll_laws.specs.Line.{part_rises}
use Rattle.ll_laws.specs.ShownLines.{part_line}
use Rattle.std.proofs.Common.{map, All}
use Rattle.std.proofs.lemmas.List.{map-append}
use Rattle.std.proofs.lemmas.List.Folds.{list_all-append}
use Rattle.ll_lexer.specs.Spelling.{is_lower}
use Rattle.ll_prooftext.specs.Admitted.{IsSpelledPart}
use Rattle.ll_laws.specs.declared.Part.{Part}
use Rattle.ll_laws.specs.declared.Part.TheVariants.{Bounded, Unbounded}
use Rattle.ll_prooftext.specs.declared.rows.Refusal.{Refusal}
use Rattle.ll_prooftext.specs.declared.rows.Refusal.TheVariants as refusal
use Rattle.ll_prooftext.specs.Reading.{Kind, Number, Set, Argument, Mark, Plain, Sign, Cell, Want, Nothing, Arguments, Premises, Row, More, Cells, Then}
use Rattle.ll_prooftext.specs.Reading.{after_field, IsField, IsNumber, Fields, none, one, IsAtEnd, line_end, space, HasNoField}
use Rattle.ll_prooftext.specs.Words.{Stops, ended, at_byte, is_not, BeginsNot, HasNone}
use Rattle.ll_prooftext.specs.Terms.{Moves, IsSpelledAt, argument_at}
use Rattle.std.specs.List.{flat_map}
use Rattle.std.proofs.lemmas.List.Concat.{flat_map-append}
use Rattle.std.proofs.lemmas.List.Elements.{All-nil, All-push, All-weaker}
use Rattle.std.proofs.Common.{length-append}
use Rattle.ll_bank.specs.declared.At.{At}
use Rattle.ll_prooftext.specs.Brackets.{IsArgumentAt, args_text}
use Rattle.ll_bank.proofs.CallerLemmas.{Extends-refl}
use Rattle.ll_prooftext.proofs.spelling.Found.{moves_none, moves_still, moves_behind, moves_on}
use Rattle.ll_prooftext.proofs.spelling.Kept.{flat_same, arg_same, arg_good}
use Rattle.ll_prooftext.proofs.spelling.Arguments.{end_stops as end_stops_word, argument_first}
use Rattle.ll_prooftext.proofs.spelling.Mentioning.{space_mentions, quiet_apart, quiet_none, decimal_quiet, field_quiet, parts_quiet}
use Rattle.ll_prooftext.specs.Mentions.{Outside, mentions}
use Rattle.ll_prooftext.specs.Fields.{IsMissing, other, LacksField, LacksPart, IsBad, lacking, wrong, StopsAt, Refuses, IsNumberField, IsSetField, IsPartField}
use Rattle.ll_prooftext.specs.Fields.{IsTermField, AreSets, brace, mark, HasNoTerm, AreTermFields, ArePartFields, AreClauseFields}
use Rattle.ll_prooftext.specs.Fields.{ended as all_read}
use Rattle.ll_prooftext.proofs.spelling.Cuts.{one_cut}
use Rattle.ll_prooftext.proofs.spelling.Ways.{byte_apart, behind_byte}
use Rattle.ll_prooftext.proofs.reading.Labels.{decimal_not}

-- ---- ends of fields

pub stops_end : (rest : List ℕ) → Stops (is_not 32) rest → IsAtEnd rest
stops_end rest (ended e) = subst IsAtEnd (sym e) line_end
stops_end rest (at_byte b bs e f) = subst IsAtEnd (sym (e ∙ ap (λ x. x ∷ bs) (equal b f))) space
  where
    equal : (b : ℕ) → is_not 32 b ≡ false → b ≡ 32
    equal b f = eqb-true b 32 (true_from_not (b == 32) f)

pub end_stops : (rest : List ℕ) → IsAtEnd rest → Stops (is_not 32) rest
end_stops rest line_end = ended refl
end_stops rest (space {rest = bs}) = at_byte 32 bs refl refl

-- ---- numbers

pub number_none : (bytes word rest : List ℕ) → bytes ≡ word ++ rest → list_all (is_not 32) word ≡ true → Stops (is_not 32) rest → (IsNumber word → ⊥)
    → HasNone Number bytes
number_none bytes word rest e f s bare field behind i g end =
    let k = one_cut (is_not 32) word field rest behind f (subst (λ w. list_all (is_not 32) w ≡ true) (sym i.is)
    (decimal_not 32 i.number (let l = i.small in omega arith) (inl (omega arith)))) s (end_stops behind end) (sym e ∙ g) in
    bare (subst IsNumber (sym k.0) i)

-- ---- what is wrong

-- a cell behind so many rows is one of that kind
pub same_row : (n j : ℕ) (o : Option Want) (next : Want) → (if n == j then o else None) ≡ Some next → n ≡ j
same_row n j o next e = by_test (n == j) refl e
  where
    by_test : (t : Bool) → (n == j) ≡ t → (if t then o else None) ≡ Some next → n ≡ j
    by_test true t e = eqb-true n j t
    by_test false t e = absurd cc

-- no field of the one kind that may follow
then_none : (k : Kind) (v : Want) (bytes : List ℕ) → HasNone k bytes → HasNoField (Then k v) bytes
then_none Number v bytes h Number field rest next a i e end = h field rest i e end
then_none Set v bytes h Set field rest next a i e end = h field rest i e end
then_none Argument v bytes h Argument field rest next a i e end = h field rest i e end
then_none Mark v bytes h Mark field rest next a i e end = h field rest i e end
then_none Plain v bytes h Plain field rest next a i e end = h field rest i e end
then_none Sign v bytes h Sign field rest next a i e end = h field rest i e end
then_none (Cell n) v bytes h (Cell j) field rest next a i e end =
    h field rest (subst (λ m. IsField (Cell m) field) (sym (same_row n j (Some v) next a)) i) e end
then_none Number v bytes h Set field rest next a i e end = let x : ⊥ = cc in x
then_none Number v bytes h Argument field rest next a i e end = let x : ⊥ = cc in x
then_none Number v bytes h Mark field rest next a i e end = let x : ⊥ = cc in x
then_none Number v bytes h Plain field rest next a i e end = let x : ⊥ = cc in x
then_none Number v bytes h Sign field rest next a i e end = let x : ⊥ = cc in x
then_none Number v bytes h (Cell j) field rest next a i e end = let x : ⊥ = cc in x
then_none Set v bytes h Number field rest next a i e end = let x : ⊥ = cc in x
then_none Set v bytes h Argument field rest next a i e end = let x : ⊥ = cc in x
then_none Set v bytes h Mark field rest next a i e end = let x : ⊥ = cc in x
then_none Set v bytes h Plain field rest next a i e end = let x : ⊥ = cc in x
then_none Set v bytes h Sign field rest next a i e end = let x : ⊥ = cc in x
then_none Set v bytes h (Cell j) field rest next a i e end = let x : ⊥ = cc in x
then_none Argument v bytes h Number field rest next a i e end = let x : ⊥ = cc in x
then_none Argument v bytes h Set field rest next a i e end = let x : ⊥ = cc in x
then_none Argument v bytes h Mark field rest next a i e end = let x : ⊥ = cc in x
then_none Argument v bytes h Plain field rest next a i e end = let x : ⊥ = cc in x
then_none Argument v bytes h Sign field rest next a i e end = let x : ⊥ = cc in x
then_none Argument v bytes h (Cell j) field rest next a i e end = let x : ⊥ = cc in x
then_none Mark v bytes h Number field rest next a i e end = let x : ⊥ = cc in x
then_none Mark v bytes h Set field rest next a i e end = let x : ⊥ = cc in x
then_none Mark v bytes h Argument field rest next a i e end = let x : ⊥ = cc in x
then_none Mark v bytes h Plain field rest next a i e end = let x : ⊥ = cc in x
then_none Mark v bytes h Sign field rest next a i e end = let x : ⊥ = cc in x
then_none Mark v bytes h (Cell j) field rest next a i e end = let x : ⊥ = cc in x
then_none Plain v bytes h Number field rest next a i e end = let x : ⊥ = cc in x
then_none Plain v bytes h Set field rest next a i e end = let x : ⊥ = cc in x
then_none Plain v bytes h Argument field rest next a i e end = let x : ⊥ = cc in x
then_none Plain v bytes h Mark field rest next a i e end = let x : ⊥ = cc in x
then_none Plain v bytes h Sign field rest next a i e end = let x : ⊥ = cc in x
then_none Plain v bytes h (Cell j) field rest next a i e end = let x : ⊥ = cc in x
then_none Sign v bytes h Number field rest next a i e end = let x : ⊥ = cc in x
then_none Sign v bytes h Set field rest next a i e end = let x : ⊥ = cc in x
then_none Sign v bytes h Argument field rest next a i e end = let x : ⊥ = cc in x
then_none Sign v bytes h Mark field rest next a i e end = let x : ⊥ = cc in x
then_none Sign v bytes h Plain field rest next a i e end = let x : ⊥ = cc in x
then_none Sign v bytes h (Cell j) field rest next a i e end = let x : ⊥ = cc in x
then_none (Cell n) v bytes h Number field rest next a i e end = let x : ⊥ = cc in x
then_none (Cell n) v bytes h Set field rest next a i e end = let x : ⊥ = cc in x
then_none (Cell n) v bytes h Argument field rest next a i e end = let x : ⊥ = cc in x
then_none (Cell n) v bytes h Mark field rest next a i e end = let x : ⊥ = cc in x
then_none (Cell n) v bytes h Plain field rest next a i e end = let x : ⊥ = cc in x
then_none (Cell n) v bytes h Sign field rest next a i e end = let x : ⊥ = cc in x

-- the field that should follow lacks
pub stops_here : (k : Kind) (v : Want) (bytes : List ℕ) (left : ℕ) → LacksField k bytes left → StopsAt (Then k v) bytes left
stops_here k v bytes left l = record { good = []; rest = bytes; next = Then k v; is = refl; fields = none; left_is = l.left_is; bad = bad l.missing }
  where
    bad : IsMissing k bytes → IsBad (Then k v) bytes
    bad (all_read e) = lacking e refl
    bad (other rest e h) = wrong rest e (then_none k v rest h)

-- behind a good field
pub stops_behind : (k : Kind) (v next : Want) (bytes text rest : List ℕ) (left : ℕ) → after_field v k ≡ Some next → IsField k text → bytes ≡ 32 ∷ (text ++ rest)
    → StopsAt next rest left → StopsAt v bytes left
stops_behind k v next bytes text rest left a i e s = record {
  good = 32 ∷ (text ++ s.good);
  rest = s.rest;
  next = s.next;
  is = e ∙ (ap (λ z. 32 ∷ (text ++ z)) s.is ∙ ap (λ z. 32 ∷ z) (sym (append_assoc text s.good s.rest)));
  fields = one k text next a i s.fields;
  left_is = s.left_is;
  bad = s.bad;
}

-- a field too many
pub stops_more : (bytes : List ℕ) (left : ℕ) → IsAtEnd bytes → (bytes ≡ [] → ⊥) → left ≡ length bytes → StopsAt Nothing bytes left
stops_more bytes left end full e = record { good = []; rest = bytes; next = Nothing; is = refl; fields = none; left_is = e; bad = bad bytes end full }
  where
    bad : (bs : List ℕ) → IsAtEnd bs → (bs ≡ [] → ⊥) → IsBad Nothing bs
    bad bs line_end f = absurd (f refl)
    bad bs (space {rest = rest}) f = wrong rest refl (λ k field behind next a i e z. let x : ⊥ = cc in x)

-- ---- what the fields come to

pub nothing_there : (k : Kind) (bytes rest : List ℕ) → bytes ≡ 32 ∷ rest → HasNone k rest → LacksField k bytes (length bytes)
nothing_there k bytes rest e h = record { left_is = refl; missing = other rest e h }

pub number_made : (bytes there word rest : List ℕ) (n : ℕ) → bytes ≡ 32 ∷ there → there ≡ word ++ rest → word ≡ decimal n → n < 2 ^ 32 → Stops (is_not 32) rest
    → IsNumberField bytes n rest
number_made bytes there word rest n b t w small s = record { small = small; is = b ∙ ap (λ z. 32 ∷ z) (t ∙ ap (λ z. z ++ rest) w); end = stops_end rest s }

-- a number is the last field
pub number_last : (bytes rest : List ℕ) (n : ℕ) → IsNumberField bytes n rest → rest ≡ [] → IsNumberField bytes n []
number_last bytes rest n f e = subst (IsNumberField bytes n) e f

pub number_then : (bytes rest : List ℕ) (n left : ℕ) (next : Want) → IsNumberField bytes n rest → StopsAt next rest left → StopsAt (Then Number next) bytes left
number_then bytes rest n left next f s = stops_behind Number (Then Number next) next bytes (decimal n) rest left refl
    (record { number = n; small = f.small; is = refl }) f.is s

pub argument_then : (names : List (List ℕ)) (bank : Nodes) (bytes : List ℕ) (new : List (List ℕ)) (over : Nodes) (at : ℕ) (rest : List ℕ) (left : ℕ)
    (v next : Want) → after_field v Argument ≡ Some next → IsTermField names bank bytes new over at rest → StopsAt next rest left → StopsAt v bytes left
argument_then names bank bytes new over at rest left v next a f s =
    stops_behind Argument v next bytes (argument_at new over at) rest left a
    (record { names = new; term = term_tree over at; spelled = f.good.spelled; closed = f.good.closed; is = refl }) f.is s

pub set_then : (bytes labels rest : List ℕ) (left : ℕ) (v next : Want) → after_field v Set ≡ Some next → IsSetField bytes labels rest → StopsAt next rest left
    → StopsAt v bytes left
set_then bytes labels rest left v next a f s = stops_behind Set v next bytes (set_text labels) rest left a
    (record { labels = labels; small = f.small; rising = f.rising; is = refl }) f.is s

pub term_made_field : (names : List (List ℕ)) (bank : Nodes) (bytes there : List ℕ) (new : List (List ℕ)) (over : Nodes) (at : ℕ) (rest : List ℕ)
    → bytes ≡ 32 ∷ there → IsArgumentAt names bank there new over at rest → IsTermField names bank bytes new over at rest
term_made_field names bank bytes there new over at rest b s = record {
  good = s.good;
  is = b ∙ ap (λ z. 32 ∷ z) s.is;
  end = s.end;
  moves = moves_behind names bank bytes (32 ∷ []) there new over rest b (space_mentions there) s.moves;
}

-- a refusal for another reason
pub refuses_weaker : (P Q : ℕ → Type 0) → ((n : ℕ) → P n → Q n) → (e : Refusal) → Refuses P e → Refuses Q e
refuses_weaker P Q f refusal.Word h = h
refuses_weaker P Q f (refusal.Field left) h = f left h
refuses_weaker P Q f refusal.OutOfMemory h = h

pub not_empty : (bytes : List ℕ) {b : Bool} → b ≡ (length bytes == 0) → b ≡ false → bytes ≡ [] → ⊥
not_empty [] h f e = absurd cc
not_empty (x ∷ xs) h f e = absurd cc

-- ---- premises

byte_of_mark : (field : List ℕ) → IsField Mark field → field ≡ 33 ∷ []
byte_of_mark field e = e

-- `!` with no end behind it
pub part_marked : (bytes there rest : List ℕ) → bytes ≡ 32 ∷ there → there ≡ 33 ∷ rest → (IsAtEnd rest → ⊥) → LacksPart bytes (length bytes)
part_marked bytes there rest b t bare = record { left_is = refl; set = other there b no_set; mark = other there b no_mark }
  where
    no_set : HasNone Set there
    no_set field behind i e end = byte_apart _ _ _ _ (sym t ∙ (e ∙ ap (λ z. z ++ behind) i.is)) refl

    no_mark : HasNone Mark there
    no_mark field behind i e end = let q : 33 ∷ rest ≡ 33 ∷ behind = sym t ∙ (e ∙ ap (λ z. z ++ behind) (byte_of_mark field i)) in
        bare (subst IsAtEnd (sym (behind_byte 33 rest behind q)) end)

-- no set, and no `!`
pub part_other : (bytes there : List ℕ) → bytes ≡ 32 ∷ there → BeginsNot 33 there → HasNone Set there → LacksPart bytes (length bytes)
part_other bytes there b bare h = record { left_is = refl; set = other there b h; mark = other there b no_mark }
  where
    no_mark : HasNone Mark there
    no_mark field behind i e end = bare behind (e ∙ ap (λ z. z ++ behind) (byte_of_mark field i))

-- ---- two sets

pub sets_made : (bytes s middle t rest : List ℕ) → IsSetField bytes s middle → IsSetField middle t rest → rest ≡ [] → AreSets bytes s t
sets_made bytes s middle t rest f g e = record {
  small = (f.small, g.small);
  rising = (f.rising, g.rising);
  is = f.is ∙ ap (λ z. field (set_text s) ++ z) (g.is ∙ (ap (λ z. field (set_text t) ++ z) e ∙ append-nil (field (set_text t))));
}

-- ---- terms of a clause step

pub fields_on : (v w u : Want) (a b : List ℕ) → Fields v a w → Fields w b u → Fields v (a ++ b) u
fields_on v w u a b none g = g
fields_on v w u a b (one {rest = rest} k field next e i f) g =
    subst (λ z. Fields v z u) (ap (λ z. 32 ∷ z) (sym (append_assoc field rest b))) (one k field next e i (fields_on next w u rest b f g))

-- behind good fields
pub stops_after : (v w : Want) (bytes good rest : List ℕ) (left : ℕ) → bytes ≡ good ++ rest → Fields v good w → StopsAt w rest left → StopsAt v bytes left
stops_after v w bytes good rest left e f s = record {
  good = good ++ s.good;
  rest = s.rest;
  next = s.next;
  is = e ∙ (ap (λ z. good ++ z) s.is ∙ sym (append_assoc good s.good s.rest));
  fields = fields_on v w s.next good s.good f s.fields;
  left_is = s.left_is;
  bad = s.bad;
}

pub terms_none : (names : List (List ℕ)) (bank : Nodes) (bytes : List ℕ) → IsAtEnd bytes → AreTermFields names bank bytes names bank [] bytes
terms_none names bank bytes end = record {
  good = All-nil (λ (a : At). IsSpelledAt names bank a.0);
  is = refl;
  fields = none;
  end = end;
  moves = moves_still names bank bytes;
}

pub terms_more : (names : List (List ℕ)) (bank : Nodes) (bytes : List ℕ) (new : List (List ℕ)) (over : Nodes) (terms : List At) (rest : List ℕ)
    (later : List (List ℕ)) (after : Nodes) (at : At) (next : List ℕ) → AreTermFields names bank bytes new over terms rest
    → IsTermField new over rest later after at.0 next
    → AreTermFields names bank bytes later after (terms ++ at ∷ []) next
terms_more names bank bytes new over terms rest later after at next t f =
    let g = f.moves.grows in
    let e = f.moves.keeps in
    let same : args_text later after terms ≡ args_text new over terms =
    flat_same (λ (a : At). IsSpelledAt new over a.0) (λ (a : At). field (argument_at later after a.0)) (λ (a : At). field (argument_at new over a.0))
    (arg_same new over later after g e) terms t.good in
    let arg = argument_at later after at.0 in
    let text : args_text later after (terms ++ at ∷ []) ≡ args_text new over terms ++ (32 ∷ (arg ++ [])) =
    flat_map-append (λ (a : At). field (argument_at later after a.0)) terms (at ∷ []) ∙ ap (λ z. z ++ (32 ∷ (arg ++ []))) same in
    let i : IsField Argument arg = record { names = later; term = term_tree after at.0; spelled = f.good.spelled; closed = f.good.closed; is = refl } in
    record {
      good = All-push (λ (a : At). IsSpelledAt later after a.0) terms at
          (All-weaker (λ (a : At). IsSpelledAt new over a.0) (λ (a : At). IsSpelledAt later after a.0) (arg_good new over later after g e) terms t.good) f.good;
      is = t.is ∙ (ap (λ z. args_text new over terms ++ z) f.is ∙ (together (args_text new over terms) arg next ∙ ap (λ z. z ++ next) (sym text)));
      fields = subst (λ z. Fields Arguments z Arguments) (sym text)
          (fields_on Arguments Arguments Arguments (args_text new over terms) (32 ∷ (arg ++ [])) t.fields (one Argument arg Arguments refl i none));
      end = f.end;
      moves = moves_on names bank bytes new over rest later after next t.moves f.moves;
    }
  where
    together : (a b c : List ℕ) → a ++ ((32 ∷ b) ++ c) ≡ (a ++ (32 ∷ (b ++ []))) ++ c
    together a b c = simp (append_assoc, append-nil)

-- no term, and no premise either
no_argument_field : (rest : List ℕ) → (HasNoTerm (32 ∷ rest) → ⊥) → HasNone Argument rest → HasNoField Arguments rest
no_argument_field rest bare h Number field behind next a i e end = let x : ⊥ = cc in x
no_argument_field rest bare h Argument field behind next a i e end = h field behind i e end
no_argument_field rest bare h Set field behind next a i e end = bare (inr (brace _ (ap (λ z. 32 ∷ z) (e ∙ ap (λ z. z ++ behind) i.is))))
no_argument_field rest bare h Plain field behind next a i e end = let x : ⊥ = cc in x
no_argument_field rest bare h Sign field behind next a i e end = let x : ⊥ = cc in x
no_argument_field rest bare h (Cell j) field behind next a i e end = let x : ⊥ = cc in x
no_argument_field rest bare h Mark field behind next a i e end = bare (inr (mark _ (ap (λ z. 32 ∷ z) (e ∙ ap (λ z. z ++ behind) (byte_of_mark field i)))))

pub terms_stop : (names : List (List ℕ)) (bank : Nodes) (bytes : List ℕ) (new : List (List ℕ)) (over : Nodes) (terms : List At) (rest : List ℕ) (left : ℕ)
    → AreTermFields names bank bytes new over terms rest → (HasNoTerm rest → ⊥) → LacksField Argument rest left → StopsAt Arguments bytes left
terms_stop names bank bytes new over terms rest left t bare l =
    stops_after Arguments Arguments bytes (args_text new over terms) rest left t.is t.fields
    (record { good = []; rest = rest; next = Arguments; is = refl; fields = none; left_is = l.left_is; bad = bad l.missing })
  where
    bad : IsMissing Argument rest → IsBad Arguments rest
    bad (all_read e) = absurd (bare (inl e))
    bad (other there e h) = wrong there e (no_argument_field there (subst (λ z. HasNoTerm z → ⊥) e bare) h)

-- ---- where no term stands

pub no_term_brace : (bytes there rest : List ℕ) → bytes ≡ 32 ∷ there → there ≡ 123 ∷ rest → HasNoTerm bytes
no_term_brace bytes there rest b t = inr (brace rest (b ∙ ap (λ z. 32 ∷ z) t))

pub no_term_mark : (bytes there rest : List ℕ) → bytes ≡ 32 ∷ there → there ≡ 33 ∷ rest → HasNoTerm bytes
no_term_mark bytes there rest b t = inr (mark rest (b ∙ ap (λ z. 32 ∷ z) t))

-- ---- premises of a clause step

-- what may follow is premises alone
abbrev pub OnlyParts : Want → List ℕ → Type 0
OnlyParts Premises rest = Unit {0}
OnlyParts Arguments rest = HasNoTerm rest
OnlyParts _ rest = ⊥

-- premises were read up to here
pub record ArePartsTo (bytes : List ℕ) (parts : List Part) (rest : List ℕ) : Type 0 where
  pub next : Want
  pub spelled : All IsSpelledPart (map part_line parts)
  pub rising : list_all part_rises (map part_line parts) ≡ true
  pub is : bytes ≡ flat_map part_field (map part_line parts) ++ rest
  pub fields : Fields Arguments (flat_map part_field (map part_line parts)) next
  pub only : OnlyParts next rest
  pub end : IsAtEnd rest

pub parts_none : (bytes : List ℕ) → IsAtEnd bytes → HasNoTerm bytes → ArePartsTo bytes [] bytes
parts_none bytes end h = record { next = Arguments; spelled = All-nil IsSpelledPart; rising = refl; is = refl; fields = none; only = h; end = end }

-- one premise after those that may follow
one_part : (v : Want) (rest : List ℕ) (part : Part) → OnlyParts v rest → IsSpelledPart (part_line part) → IsTrue (part_rises (part_line part))
    → Fields v (part_field (part_line part) ++ []) Premises
one_part Premises rest (Bounded s) o sp r = one Set (set_text s.items) Premises refl (record { labels = s.items; small = sp; rising = r; is = refl }) none
one_part Premises rest Unbounded o sp r = one Mark (codes "!") Premises refl refl none
one_part Arguments rest (Bounded s) o sp r = one Set (set_text s.items) Premises refl (record { labels = s.items; small = sp; rising = r; is = refl }) none
one_part Arguments rest Unbounded o sp r = one Mark (codes "!") Premises refl refl none
one_part Nothing rest part o sp r = absurd o
one_part (Row n) rest part o sp r = absurd o
one_part (More n) rest part o sp r = absurd o
one_part (Cells n) rest part o sp r = absurd o
one_part (Then k v) rest part o sp r = absurd o

pub parts_more : (bytes : List ℕ) (parts : List Part) (rest : List ℕ) (part : Part) (behind : List ℕ) → ArePartsTo bytes parts rest
    → IsPartField rest part behind → ArePartsTo bytes (parts ++ part ∷ []) behind
parts_more bytes parts rest part behind t f =
    let lines : map part_line (parts ++ part ∷ []) ≡ map part_line parts ++ part_line part ∷ [] = map-append part_line parts (part ∷ []) in
    let text : flat_map part_field (map part_line (parts ++ part ∷ [])) ≡ flat_map part_field (map part_line parts) ++ (part_field (part_line part) ++ []) =
    ap (flat_map part_field) lines ∙ flat_map-append part_field (map part_line parts) (part_line part ∷ []) in
    record {
      next = Premises;
      spelled = subst (All IsSpelledPart) (sym lines) (All-push IsSpelledPart (map part_line parts) (part_line part) t.spelled f.spelled);
      rising = ap (list_all part_rises) lines ∙ (list_all-append part_rises (map part_line parts) (part_line part ∷ [])
          ∙ (let a = t.rising in let b : part_rises (part_line part) ≡ true = f.rising in rw (a, b) refl));
      is = t.is ∙ (ap (λ z. flat_map part_field (map part_line parts) ++ z) f.is
          ∙ (together (flat_map part_field (map part_line parts)) (part_field (part_line part)) behind ∙ ap (λ z. z ++ behind) (sym text)));
      fields = subst (λ z. Fields Arguments z Premises) (sym text)
          (fields_on Arguments t.next Premises (flat_map part_field (map part_line parts)) (part_field (part_line part) ++ []) t.fields
          (one_part t.next rest part t.only f.spelled f.rising));
      only = tt;
      end = f.end;
    }
  where
    together : (a b c : List ℕ) → a ++ (b ++ c) ≡ (a ++ (b ++ [])) ++ c
    together a b c = simp (append_assoc, append-nil)

no_part_field : (v : Want) (rest there : List ℕ) → rest ≡ 32 ∷ there → OnlyParts v rest → HasNone Set there → HasNone Mark there → HasNoField v there
unfolding is_lower
no_part_field v rest there b o s m Set field behind next a i e end = s field behind i e end
no_part_field v rest there b o s m Mark field behind next a i e end = m field behind i e end
no_part_field Premises rest there b o s m Number field behind next a i e end = let x : ⊥ = cc in x
no_part_field Premises rest there b o s m Argument field behind next a i e end = let x : ⊥ = cc in x
no_part_field Arguments rest there b o s m Number field behind next a i e end = let x : ⊥ = cc in x
no_part_field Arguments rest there b o s m Argument field behind next a i e end = by_begin o
  where
    by_begin : HasNoTerm rest → ⊥
    by_begin (inl n) = let q : [] ≡ 32 ∷ there = sym n ∙ b in let x : ⊥ = cc in x
    by_begin (inr (brace r f)) = argument_first field behind r 123 i (sym e ∙ behind_byte 32 there (123 ∷ r) (sym b ∙ f)) refl refl refl
    by_begin (inr (mark r f)) = argument_first field behind r 33 i (sym e ∙ behind_byte 32 there (33 ∷ r) (sym b ∙ f)) refl refl refl
no_part_field Premises rest there b o s m Plain field behind next a i e end = let x : ⊥ = cc in x
no_part_field Premises rest there b o s m Sign field behind next a i e end = let x : ⊥ = cc in x
no_part_field Premises rest there b o s m (Cell j) field behind next a i e end = let x : ⊥ = cc in x
no_part_field Arguments rest there b o s m Plain field behind next a i e end = let x : ⊥ = cc in x
no_part_field Arguments rest there b o s m Sign field behind next a i e end = let x : ⊥ = cc in x
no_part_field Arguments rest there b o s m (Cell j) field behind next a i e end = let x : ⊥ = cc in x
no_part_field Nothing rest there b o s m k field behind next a i e end = o
no_part_field (Row n) rest there b o s m k field behind next a i e end = o
no_part_field (More n) rest there b o s m k field behind next a i e end = o
no_part_field (Cells n) rest there b o s m k field behind next a i e end = o
no_part_field (Then j v) rest there b o s m k field behind next a i e end = o

pub parts_stop : (bytes : List ℕ) (parts : List Part) (rest : List ℕ) (left : ℕ) → ArePartsTo bytes parts rest → (rest ≡ [] → ⊥) → LacksPart rest left
    → StopsAt Arguments bytes left
parts_stop bytes parts rest left t full l =
    stops_after Arguments t.next bytes (flat_map part_field (map part_line parts)) rest left t.is t.fields
    (record { good = []; rest = rest; next = t.next; is = refl; fields = none; left_is = l.left_is; bad = bad l.set l.mark })
  where
    bad : IsMissing Set rest → IsMissing Mark rest → IsBad t.next rest
    bad (all_read e) m = absurd (full e)
    bad (other there e h) (all_read f) = absurd (full f)
    bad (other there e h) (other there' f g) =
        let q : there' ≡ there = behind_byte 32 there' there (sym f ∙ e) in
        wrong there e (no_part_field t.next rest there e t.only h (subst (λ z. HasNone Mark z) q g))

pub parts_all : (bytes : List ℕ) (parts : List Part) (rest : List ℕ) → ArePartsTo bytes parts rest → rest ≡ [] → ArePartFields bytes parts
parts_all bytes parts rest t e = record {
  spelled = t.spelled;
  rising = t.rising;
  is =
      t.is ∙ (ap (λ z. flat_map part_field (map part_line parts) ++ z) e ∙ append-nil (flat_map part_field (map part_line parts)));
}

-- ---- a clause step

-- what is wrong behind the terms
pub terms_then : (names : List (List ℕ)) (bank : Nodes) (bytes : List ℕ) (new : List (List ℕ)) (over : Nodes) (terms : List At) (rest : List ℕ) (left : ℕ)
    → AreTermFields names bank bytes new over terms rest → StopsAt Arguments rest left → StopsAt Arguments bytes left
terms_then names bank bytes new over terms rest left t s = stops_after Arguments Arguments bytes (args_text new over terms) rest left t.is t.fields s

-- a label and a leaf in front
pub clause_then : (bytes : List ℕ) (n : ℕ) (rest : List ℕ) (k : ℕ) (behind : List ℕ) (left : ℕ) → IsNumberField bytes n rest → IsNumberField rest k behind
    → StopsAt Arguments behind left → StopsAt (Then Number (Then Number Arguments)) bytes left
clause_then bytes n rest k behind left f g s = number_then bytes rest n left (Then Number Arguments) f (number_then rest behind k left Arguments g s)

pub number_room : (bytes : List ℕ) (n : ℕ) (rest : List ℕ) → IsNumberField bytes n rest → length rest ≤ length bytes
number_room bytes n rest f = let l = ap length f.is in let k = length-append (field (decimal n)) rest in omega arith

-- a number mentions no name
number_mentions : (bytes : List ℕ) (n : ℕ) (rest : List ℕ) → IsNumberField bytes n rest → mentions Outside (field (decimal n) ++ rest) ≡ mentions Outside rest
number_mentions bytes n rest f = quiet_apart (field (decimal n)) rest (field_quiet (decimal n) (decimal_quiet n (let l = f.small in omega arith)))
    (end_stops_word rest f.end)

pub behind_number : (names : List (List ℕ)) (bank : Nodes) (bytes : List ℕ) (n : ℕ) (rest : List ℕ) (new : List (List ℕ)) (over : Nodes) (left : List ℕ)
    → IsNumberField bytes n rest → Moves names bank rest new over left → Moves names bank bytes new over left
behind_number names bank bytes n rest new over left f m = moves_behind names bank bytes (field (decimal n)) rest new over left f.is
    (number_mentions bytes n rest f) m

-- nor do premises
pub parts_move : (names : List (List ℕ)) (bank : Nodes) (bytes : List ℕ) (parts : List Part) → ArePartFields bytes parts → Moves names bank bytes names bank []
parts_move names bank bytes parts p = moves_none names bank bank bytes (Extends-refl bank)
    (ap (mentions Outside) p.is ∙ quiet_none (flat_map part_field (map part_line parts)) (parts_quiet (map part_line parts) p.spelled))

pub clause_made : (names : List (List ℕ)) (bank : Nodes) (bytes : List ℕ) (new : List (List ℕ)) (over : Nodes) (n : ℕ) (rest : List ℕ) (k : ℕ) (behind : List ℕ)
    (terms : List At) (last : List ℕ) (parts : List Part) → IsNumberField bytes n rest → IsNumberField rest k behind
    → AreTermFields names bank behind new over terms last → ArePartFields last parts
    → AreClauseFields names bank bytes new over n k terms parts
clause_made names bank bytes new over n rest k behind terms last parts f g t p = record {
  small = (f.small, g.small);
  good = t.good;
  spelled = p.spelled;
  rising = p.rising;
  is = f.is ∙ ap (λ z. field (decimal n) ++ z) (g.is ∙ ap (λ z. field (decimal k) ++ z) (t.is ∙ ap (λ z. args_text new over terms ++ z) p.is));
  moves = behind_number names bank bytes n rest new over [] f
      (behind_number names bank rest k behind new over [] g (moves_on names bank behind new over last new over [] t.moves (parts_move new over last parts p)));
}
