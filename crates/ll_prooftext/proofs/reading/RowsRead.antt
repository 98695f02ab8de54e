-- The first words of lines, and what lines say.
use Rattle.std.proofs.Common.{◌≡◌, ℕ, suc, ◌+◌, ◌-◌, ◌<◌, ◌^◌, Bool, true, false, List, [], ◌∷◌, ◌++◌, length, map, refl, ap, sym, subst, ◌∙◌, arith, codes}
use Rattle.std.proofs.Common.{append_assoc, append-nil, length-append, Result, Option, Some, None, IfOk, decimal}
use Rattle.std.specs.Prelude.{◌==◌, if◌then◌else◌}
use Rattle.std.specs.List.{list_all, flat_map}
use Rattle.std.specs.Str.{bytes_eq}
use Rattle.std.proofs.lemmas.Slice.Eq.{bytes_eq-Decides}
use Rattle.std.proofs.lemmas.Bool.{ne_eqb}
use Rattle.ll_list_laws.proofs.CallerLemmas.{IfOk-each as if_ok}
use Rattle.ll_bank.specs.declared.At.{At}
use Rattle.ll_bank.specs.Nodes.{Nodes, term_trees}
use Rattle.ll_laws.specs.ProofText.{field, term_field, part_field, node_text, set_text}
use Rattle.ll_laws.specs.ShownLines.{line_of, part_line}
use Rattle.ll_laws.specs.declared.Rule.{Rule}
use Rattle.ll_laws.specs.declared.Rule.TheVariants as rule
use Rattle.ll_prooftext.specs.declared.rows.NodeWord.{NodeWord}
use Rattle.ll_prooftext.specs.declared.rows.NodeWord.TheVariants as word
use Rattle.ll_prooftext.specs.declared.rows.RowWord.{RowWord}
use Rattle.ll_prooftext.specs.declared.rows.RowWord.TheVariants as first
use Rattle.ll_prooftext.specs.declared.rows.Refusal.{Refusal}
use Rattle.ll_prooftext.specs.declared.rows.Refusal.TheVariants as refusal
use Rattle.ll_prooftext.specs.Reading.{Want, Nothing, Then, Number, Argument, listed, node_words, want, first_word, IsStop, lacks, no_field, IsAtEnd}
use Rattle.ll_prooftext.specs.Reading.{line_end, space}
use Rattle.ll_prooftext.specs.Words.{is_not, Stops}
use Rattle.ll_prooftext.specs.Terms.{MovesLine, argument_at}
use Rattle.ll_prooftext.specs.Fields.{Refuses, StopsAt, IsBad, lacking, wrong, IsNumberField, IsTermField, IsTensor, IsClause}
use Rattle.ll_prooftext.specs.RowWords.{spelling, asks, is_short, IsNodeWord, row_asks, IsRowWord, IsGoodRule, IsNodeRow, IsShortRow, IsNumberedRule}
use Rattle.ll_prooftext.specs.RowWords.{IsBareRule}
use Rattle.ll_prooftext.specs.RowWords.{IsLetRow, bad_column, HasBadLeft, IsRefused}
use Rattle.ll_prooftext.specs.Mentions.{Outside, mentions}
use Rattle.ll_prooftext.proofs.spelling.Found.{moves_none, moves_line}
use Rattle.ll_prooftext.proofs.spelling.Kept.{args_fields}
use Rattle.ll_prooftext.proofs.spelling.Mentioning.{first_alone, nothing_mentions, quiet_none, quiet_join, decimal_quiet, set_quiet, field_quiet}
use Rattle.ll_bank.proofs.CallerLemmas.{Extends-refl}
use Rattle.ll_prooftext.proofs.reading.Rest.{stops_end}
use Rattle.ll_prooftext.proofs.spelling.Spellings.{apart}

-- ---- first words

known : (k : NodeWord) → listed node_words (spelling k) ≡ Some (asks k)
known word.True = refl
known word.Erase = refl
known word.Tensor = refl
known word.With = refl
known word.Left = refl
known word.Right = refl
known word.Bang = refl
known word.Lolli = refl
known word.Imp = refl
known word.Forall = refl
known word.Exists = refl
known word.Use = refl
known word.Num = refl
known word.Clause = refl

-- the word that a test has found
pub node_word_is : (w : List ℕ) (k : NodeWord) → w ≡ spelling k → IsNodeWord w k
node_word_is w k e = record { is = e; known = ap (listed node_words) e ∙ known k }

equal : (w t : List ℕ) → true ≡ bytes_eq w t → w ≡ t
equal w t h = (bytes_eq-Decides w t).0 (sym h)

pub found : (w t : List ℕ) (k : NodeWord) → true ≡ bytes_eq w t → t ≡ spelling k → IsNodeWord w k
found w t k h e = node_word_is w k (equal w t h ∙ e)

pub other : (w t : List ℕ) → false ≡ bytes_eq w t → w ≡ t → ⊥
other w t h e = let x : bytes_eq w t ≡ true = (bytes_eq-Decides w t).1 e in let y : false ≡ true = h ∙ x in let z : ⊥ = cc in z

-- no word of the list is this one
abbrev pub AreOthers : List (List ℕ × Want) → List ℕ → Type 0
AreOthers [] w = Unit {0}
AreOthers (entry ∷ more) w = (bytes_eq entry.0 w ≡ false) × AreOthers more w

pub unlike : (w t s : List ℕ) → false ≡ bytes_eq w t → t ≡ s → bytes_eq s w ≡ false
unlike w t s h e = apart s w (λ q. other w t h (sym (e ∙ q)))

pub not_listed : (ws : List (List ℕ × Want)) (w : List ℕ) → AreOthers ws w → listed ws w ≡ None
not_listed [] w h = refl
not_listed (entry ∷ more) w h = let f : bytes_eq entry.0 w ≡ false = h.0 in rw f (not_listed more w h.1)

-- ---- `let` and the words of nodes

behind_let : (lets : Bool) (w : List ℕ) → bytes_eq (codes "let") w ≡ false → want lets w ≡ listed node_words w
behind_let true w f = not_first (codes "let") (Then Argument Nothing) node_words w f
  where
    not_first : (s : List ℕ) (v : Want) (more : List (List ℕ × Want)) (w : List ℕ) → bytes_eq s w ≡ false → listed ((s, v) ∷ more) w ≡ listed more w
    not_first s v more w f = rw f refl
behind_let false w f = refl

let_may : (lets : Bool) (v : Want) → want lets (codes "let") ≡ Some v → lets ≡ true
let_may true v e = refl
let_may false v e = let x : None ≡ Some v = e in let y : ⊥ = cc in absurd y

-- ---- nodes

-- fields that mention no name
quiet_line : (names : List (List ℕ)) (bank : Nodes) (w rest : List ℕ) → list_all (is_not 32) w ≡ true → IsAtEnd rest → mentions Outside rest ≡ []
    → MovesLine names bank (w ++ rest) names bank
quiet_line names bank w rest h s q = moves_line names bank w rest names bank h s (moves_none names bank bank rest (Extends-refl bank) q)

alone_row : (names : List (List ℕ)) (bank : Nodes) (w rest : List ℕ) (r : Rule) → list_all (is_not 32) w ≡ true → w ≡ node_text names (line_of bank r)
    → IsGoodRule names bank r → rest ≡ [] → IsNodeRow names bank (w ++ rest) names bank r
alone_row names bank w rest r h e g n = record {
  good = g;
  is = ap (λ z. w ++ z) n ∙ (append-nil w ∙ e);
  moves =
      quiet_line names bank w rest h (subst IsAtEnd (sym n) line_end) (ap (mentions Outside) n ∙ nothing_mentions);
}

spelling_free : (k : NodeWord) → list_all (is_not 32) (spelling k) ≡ true
spelling_free word.True = refl
spelling_free word.Erase = refl
spelling_free word.Tensor = refl
spelling_free word.With = refl
spelling_free word.Left = refl
spelling_free word.Right = refl
spelling_free word.Bang = refl
spelling_free word.Lolli = refl
spelling_free word.Imp = refl
spelling_free word.Forall = refl
spelling_free word.Exists = refl
spelling_free word.Use = refl
spelling_free word.Num = refl
spelling_free word.Clause = refl

-- a rule behind whose word nothing stands
pub bare_row : (k : NodeWord) (rest : List ℕ) (r : Rule) → IsBareRule k r → rest ≡ [] → IsShortRow (spelling k ++ rest) r
bare_row k rest r b n names bank = alone_row names bank (spelling k) rest r (spelling_free k) (b.is names bank) (b.good names bank) n

-- a rule with a number
number_row : (names : List (List ℕ)) (bank : Nodes) (w rest : List ℕ) (n : ℕ) (r : Rule) → list_all (is_not 32) w ≡ true → IsNumberField rest n []
    → node_text names (line_of bank r) ≡ w ++ field (decimal n) → (n < 2 ^ 32 → IsGoodRule names bank r) → IsNodeRow names bank (w ++ rest) names bank r
number_row names bank w rest n r h f e g = record {
  good = g f.small;
  is = ap (λ z. w ++ z) text ∙ sym e;
  moves = quiet_line names bank w rest h (subst IsAtEnd (sym text) space)
      (ap (mentions Outside) text ∙ quiet_none (field (decimal n)) (field_quiet (decimal n) (decimal_quiet n (let l = f.small in omega arith))));
}
  where
    text : rest ≡ field (decimal n)
    text = f.is ∙ append-nil (field (decimal n))

pub numbered_row : (k : NodeWord) (rest : List ℕ) (n : ℕ) (r : Rule) → IsNumberField rest n [] → IsNumberedRule k n r → IsShortRow (spelling k ++ rest) r
numbered_row k rest n r f b names bank = number_row names bank (spelling k) rest n r (spelling_free k) f (b.is names bank) (b.good names bank)

-- the same of what was read
pub short_rows : (names : List (List ℕ)) (bank : Nodes) (bytes : List ℕ) (x : Result Rule Refusal) → IfOk x (IsShortRow bytes)
    → IfOk x (IsNodeRow names bank bytes names bank)
short_rows names bank bytes x h = if_ok x (IsShortRow bytes) (IsNodeRow names bank bytes names bank) (λ r f. f names bank) h

-- words behind which at most a number stands
pub short_kind : (k : NodeWord) → (k ≡ word.Tensor → ⊥) → (k ≡ word.Exists → ⊥) → (k ≡ word.Clause → ⊥) → is_short k ≡ true
short_kind word.Tensor f g h = absurd (f refl)
short_kind word.Exists f g h = absurd (g refl)
short_kind word.Clause f g h = absurd (h refl)
short_kind word.True f g h = refl
short_kind word.Erase f g h = refl
short_kind word.With f g h = refl
short_kind word.Left f g h = refl
short_kind word.Right f g h = refl
short_kind word.Bang f g h = refl
short_kind word.Lolli f g h = refl
short_kind word.Imp f g h = refl
short_kind word.Forall f g h = refl
short_kind word.Use f g h = refl
short_kind word.Num f g h = refl

pub bare_kind : (k : NodeWord) → is_short k ≡ true → (k ≡ word.Lolli → ⊥) → (k ≡ word.Imp → ⊥) → (k ≡ word.Forall → ⊥) → asks k ≡ Nothing
bare_kind word.Lolli s f g h = absurd (f refl)
bare_kind word.Imp s f g h = absurd (g refl)
bare_kind word.Forall s f g h = absurd (h refl)
bare_kind word.Tensor s f g h = absurd cc
bare_kind word.Exists s f g h = absurd cc
bare_kind word.Clause s f g h = absurd cc
bare_kind word.True s f g h = refl
bare_kind word.Erase s f g h = refl
bare_kind word.With s f g h = refl
bare_kind word.Left s f g h = refl
bare_kind word.Right s f g h = refl
bare_kind word.Bang s f g h = refl
bare_kind word.Use s f g h = refl
bare_kind word.Num s f g h = refl

-- the last word with a number
pub forall_kind : (k : NodeWord) → asks k ≡ Then Number Nothing → (k ≡ word.Lolli → ⊥) → (k ≡ word.Imp → ⊥) → k ≡ word.Forall
forall_kind word.Forall a f g = refl
forall_kind word.Lolli a f g = absurd (f refl)
forall_kind word.Imp a f g = absurd (g refl)
forall_kind word.Tensor a f g = absurd cc
forall_kind word.Exists a f g = absurd cc
forall_kind word.Clause a f g = absurd cc
forall_kind word.True a f g = absurd cc
forall_kind word.Erase a f g = absurd cc
forall_kind word.With a f g = absurd cc
forall_kind word.Left a f g = absurd cc
forall_kind word.Right a f g = absurd cc
forall_kind word.Bang a f g = absurd cc
forall_kind word.Use a f g = absurd cc
forall_kind word.Num a f g = absurd cc

-- the last word behind which nothing stands
pub num_kind : (k : NodeWord) → asks k ≡ Nothing → (k ≡ word.True → ⊥) → (k ≡ word.Erase → ⊥) → (k ≡ word.With → ⊥) → (k ≡ word.Left → ⊥)
    → (k ≡ word.Right → ⊥) → (k ≡ word.Bang → ⊥) → (k ≡ word.Use → ⊥) → k ≡ word.Num
num_kind word.Num a b c d e f g h = refl
num_kind word.True a b c d e f g h = absurd (b refl)
num_kind word.Erase a b c d e f g h = absurd (c refl)
num_kind word.With a b c d e f g h = absurd (d refl)
num_kind word.Left a b c d e f g h = absurd (e refl)
num_kind word.Right a b c d e f g h = absurd (f refl)
num_kind word.Bang a b c d e f g h = absurd (g refl)
num_kind word.Use a b c d e f g h = absurd (h refl)
num_kind word.Tensor a b c d e f g h = absurd cc
num_kind word.Lolli a b c d e f g h = absurd cc
num_kind word.Imp a b c d e f g h = absurd cc
num_kind word.Forall a b c d e f g h = absurd cc
num_kind word.Exists a b c d e f g h = absurd cc
num_kind word.Clause a b c d e f g h = absurd cc

-- a term is the last field
pub term_row : (names : List (List ℕ)) (bank : Nodes) (rest : List ℕ) (new : List (List ℕ)) (over : Nodes) (at : At)
    → IsTermField names bank rest new over at.0 [] → IsNodeRow names bank (codes "exists" ++ rest) new over (rule.Exists at)
term_row names bank rest new over at f = record {
  good = f.good;
  is = ap (λ z. codes "exists" ++ z) (f.is ∙ append-nil (field (argument_at new over at.0)));
  moves = moves_line names bank (codes "exists") rest new over refl (subst IsAtEnd (sym f.is) space) f.moves;
}

pub tensor_row : (names : List (List ℕ)) (bank : Nodes) (rest : List ℕ) (r : Rule) → IsTensor rest r
    → IsNodeRow names bank (codes "tensor" ++ rest) names bank r
tensor_row names bank rest (rule.Tensor s t) f = record {
  good = (f.small, f.rising);
  is = ap (λ z. codes "tensor" ++ z) f.is;
  moves = quiet_line names bank (codes "tensor") rest refl (subst IsAtEnd (sym f.is) space)
      (ap (mentions Outside) f.is ∙ quiet_none (field (set_text s.items) ++ field (set_text t.items))
      (quiet_join (field (set_text s.items)) (field (set_text t.items)) (field_quiet (set_text s.items) (set_quiet s.items f.small.0))
      (field_quiet (set_text t.items) (set_quiet t.items f.small.1))));
}
tensor_row names bank rest rule.One f = absurd f
tensor_row names bank rest rule.Erase f = absurd f
tensor_row names bank rest rule.With f = absurd f
tensor_row names bank rest rule.Left f = absurd f
tensor_row names bank rest rule.Right f = absurd f
tensor_row names bank rest rule.Bang f = absurd f
tensor_row names bank rest (rule.Lolli n) f = absurd f
tensor_row names bank rest (rule.Imp n) f = absurd f
tensor_row names bank rest (rule.Forall c) f = absurd f
tensor_row names bank rest (rule.Exists t) f = absurd f
tensor_row names bank rest rule.Use f = absurd f
tensor_row names bank rest rule.Num f = absurd f
tensor_row names bank rest (rule.Clause n k ts ps) f = absurd f

pub tensor_rows : (names : List (List ℕ)) (bank : Nodes) (rest : List ℕ) (x : Result Rule Refusal) → IfOk x (IsTensor rest)
    → IfOk x (IsNodeRow names bank (codes "tensor" ++ rest) names bank)
tensor_rows names bank rest x h = if_ok x (IsTensor rest) (IsNodeRow names bank (codes "tensor" ++ rest) names bank) (tensor_row names bank rest) h

pub clause_row : (names : List (List ℕ)) (bank : Nodes) (rest : List ℕ) (new : List (List ℕ)) (over : Nodes) (r : Rule) → IsClause names bank rest new over r
    → IsNodeRow names bank (codes "clause" ++ rest) new over r
clause_row names bank rest new over (rule.Clause n k ts ps) f =
    let us = flat_map (term_field new) (term_trees over ts.items) in
    let qs = flat_map part_field (map part_line ps.items) in
    record {
      good = (f.small, (f.good, (f.spelled, f.rising)));
      is =
          ap (λ z. codes "clause" ++ z) (f.is ∙ (ap (λ z. field (decimal n) ++ (field (decimal k) ++ (z ++ qs))) (args_fields new over ts.items)
          ∙ sym (together (field (decimal n)) (field (decimal k)) us qs)));
      moves = moves_line names bank (codes "clause") rest new over refl (subst IsAtEnd (sym f.is) space) f.moves;
    }
  where
    together : (a b c d : List ℕ) → a ++ b ++ c ++ d ≡ a ++ (b ++ (c ++ d))
    together a b c d = simp append_assoc
clause_row names bank rest new over rule.One f = absurd f
clause_row names bank rest new over rule.Erase f = absurd f
clause_row names bank rest new over (rule.Tensor s t) f = absurd f
clause_row names bank rest new over rule.With f = absurd f
clause_row names bank rest new over rule.Left f = absurd f
clause_row names bank rest new over rule.Right f = absurd f
clause_row names bank rest new over rule.Bang f = absurd f
clause_row names bank rest new over (rule.Lolli n) f = absurd f
clause_row names bank rest new over (rule.Imp n) f = absurd f
clause_row names bank rest new over (rule.Forall c) f = absurd f
clause_row names bank rest new over (rule.Exists t) f = absurd f
clause_row names bank rest new over rule.Use f = absurd f
clause_row names bank rest new over rule.Num f = absurd f

pub clause_rows : (names : List (List ℕ)) (bank : Nodes) (rest : List ℕ) (new : List (List ℕ)) (over : Nodes) (x : Result Rule Refusal)
    → IfOk x (IsClause names bank rest new over) → IfOk x (IsNodeRow names bank (codes "clause" ++ rest) new over)
clause_rows names bank rest new over x h = if_ok x (IsClause names bank rest new over) (IsNodeRow names bank (codes "clause" ++ rest) new over)
    (clause_row names bank rest new over) h

-- ---- lines

pub let_row : (names : List (List ℕ)) (bank : Nodes) (line w rest : List ℕ) (lets : Bool) (new : List (List ℕ)) (over : Nodes) (at : At) → line ≡ w ++ rest
    → IsRowWord lets w first.Let → IsTermField names bank rest new over at.0 [] → IsLetRow names bank line lets new over at.0
let_row names bank line w rest lets new over at e k f =
    let text : line ≡ codes "let" ++ rest = e ∙ ap (λ z. z ++ rest) k.is in
    record {
      may = let_may lets (Then Argument Nothing) (ap (want lets) (sym k.is) ∙ k.known);
      good = f.good;
      is = text ∙ ap (λ z. codes "let" ++ z) (f.is ∙ append-nil (field (argument_at new over at.0)));
      moves = subst (λ z. MovesLine names bank z new over) (sym text)
          (moves_line names bank (codes "let") rest new over refl (subst IsAtEnd (sym f.is) space) f.moves);
    }

pub node_row : (names : List (List ℕ)) (bank : Nodes) (line w rest : List ℕ) (lets : Bool) (k : NodeWord) (new : List (List ℕ)) (over : Nodes) (r : Rule)
    → line ≡ w ++ rest → IsRowWord lets w (first.Node k) → IsNodeRow names bank (spelling k ++ rest) new over r → IsNodeRow names bank line new over r
node_row names bank line w rest lets k new over r e i f = subst (λ z. IsNodeRow names bank z new over r) (sym (e ∙ ap (λ z. z ++ rest) i.is)) f

pub word_none : (line w rest : List ℕ) (lets : Bool) → line ≡ w ++ rest → list_all (is_not 32) w ≡ true → Stops (is_not 32) rest → want lets w ≡ None
    → want lets (first_word line) ≡ None
word_none line w rest lets e h s n = ap (λ z. want lets (first_word z)) e ∙ (ap (want lets) (first_alone w rest h (stops_end rest s)) ∙ n)

-- the column of a wrong field
stop_at : (v : Want) (good rest : List ℕ) (n left : ℕ) (line : List ℕ) → line ≡ good ++ rest → n ≡ length good → left ≡ length rest → IsBad v rest
    → IsStop v n rest (bad_column (length line) left)
stop_at v good rest n left line e l k (lacking f m) =
    let z : left ≡ 0 = k ∙ ap length f in
    let t = ap length e in
    let a = length-append good rest in
    let q : n + 1 ≡ length line - 0 + 1 = omega arith in
    subst (λ bs. IsStop v n bs (bad_column (length line) left)) (sym f)
    (subst (λ j. IsStop v n [] (bad_column (length line) j)) (sym z) (subst (IsStop v n []) q (lacks m)))
stop_at v good rest n left line e l k (wrong bs f h) =
    let z : left ≡ suc (length bs) = k ∙ ap length f in
    let t = ap length e in
    let a = length-append good rest in
    let test : (suc (length bs) == 0) ≡ false = ne_eqb (suc (length bs)) 0 (omega arith) in
    let c : n + 2 ≡ length line - suc (length bs) + 2 = omega arith in
    let q : n + 2 ≡ bad_column (length line) (suc (length bs)) = c ∙ ap (λ b. length line - suc (length bs) + (if b then 1 else 2)) (sym test) in
    subst (λ us. IsStop v n us (bad_column (length line) left)) (sym f)
    (subst (λ j. IsStop v n (32 ∷ bs) (bad_column (length line) j)) (sym z) (subst (IsStop v n (32 ∷ bs)) q (no_field h)))

pub bad_left : (wants : List ℕ → Option Want) (line w rest : List ℕ) (asked : Want) (left : ℕ) → line ≡ w ++ rest → wants w ≡ Some asked
    → StopsAt asked rest left → HasBadLeft wants line left
bad_left wants line w rest asked left e known s =
    let text : line ≡ w ++ (s.good ++ s.rest) = e ∙ ap (λ z. w ++ z) s.is in
    let split : line ≡ (w ++ s.good) ++ s.rest = text ∙ sym (append_assoc w s.good s.rest) in
    record {
      within = let l = s.left_is in let t = ap length split in let a = length-append (w ++ s.good) s.rest in omega arith;
      bad = record {
        word = w;
        good = s.good;
        rest = s.rest;
        asked = asked;
        left = s.next;
        is = text;
        known = known;
        fields = s.fields;
        stop = stop_at s.next (w ++ s.good) s.rest (length w + length s.good) left line split (sym (length-append w s.good)) s.left_is s.bad;
      };
    }

pub refused_at : (wants : List ℕ → Option Want) (line w rest : List ℕ) (asked : Want) (x : Refusal) → line ≡ w ++ rest → wants w ≡ Some asked
    → Refuses (StopsAt asked rest) x → IsRefused wants line x
refused_at wants line w rest asked refusal.Word e i h = absurd h
refused_at wants line w rest asked (refusal.Field left) e i h = bad_left wants line w rest asked left e i h
refused_at wants line w rest asked refusal.OutOfMemory e i h = h

pub refused_row : (lets : Bool) (line w rest : List ℕ) (k : RowWord) (x : Refusal) → line ≡ w ++ rest → IsRowWord lets w k
    → Refuses (StopsAt (row_asks k) rest) x → IsRefused (want lets) line x
refused_row lets line w rest k x e i h = refused_at (want lets) line w rest (row_asks k) x e i.known h

pub rest_room : (names : List (List ℕ)) (line w rest : List ℕ) → line ≡ w ++ rest → length names + length line < 2 ^ 32 → length names + length rest < 2 ^ 32
rest_room names line w rest e h = let t = ap length e in let a = length-append w rest in omega arith
