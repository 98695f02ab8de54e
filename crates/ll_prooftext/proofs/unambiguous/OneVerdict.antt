-- A line has one first fault, or it is good and so many nodes stand under it.
use Rattle.std.proofs.Common.{◌≡◌, ℕ, ◌+◌, ◌<◌, ◌^◌, Bool, true, false, List, [], ◌∷◌, ◌++◌, length, All, refl, ap, sym, subst, ◌∙◌, arith, decimal, codes}
use Rattle.std.proofs.Common.{append_assoc, append-nil, length-append, Some, None}
use Rattle.std.specs.Prelude.{if◌then◌else◌}
use Rattle.std.specs.List.{list_all, list_any, flat_map}
use Rattle.std.specs.Str.{bytes_eq}
use Rattle.std.proofs.lemmas.Slice.Eq.{bytes_eq-Decides}
use Rattle.std.proofs.lemmas.List.Elements.{All-head, All-tail}
use Rattle.ll_list_laws.proofs.CallerLemmas.{and_true_left as and_left, and_true_right as and_right}
use Rattle.ll_bank.specs.Term.{Term, is_closed}
use Rattle.ll_laws.specs.Output.{term_text, argument_text}
use Rattle.ll_laws.specs.Line.{PartLine, Labels, Free, Line, OneLine, EraseLine, TensorLine, WithLine, LeftLine, RightLine, BangLine, UseLine, LolliLine}
use Rattle.ll_laws.specs.Line.{ImpLine, ForallLine, ExistsLine, ClauseLine, NumLine, rises, part_rises, is_line}
use Rattle.ll_laws.specs.ProofText.{field, term_field, part_field, set_text, node_text}
use Rattle.ll_prooftext.specs.Admitted.{AreLabels, IsSpelledTerm, IsSpelledPart, IsSpelledLine}
use Rattle.ll_prooftext.specs.Reading.{Kind, Number, Set, Argument, Mark, Plain, Sign, Cell, Want, Nothing, Arguments, Premises, Then, after_field, may_end}
use Rattle.ll_prooftext.specs.Reading.{IsNumber, IsSet, IsArgument, IsField, Fields, none, one, IsAtEnd, line_end, space, HasNoField, IsStop, lacks, no_field}
use Rattle.ll_prooftext.specs.Reading.{listed, node_words, want, first_word, HasBadField, children}
use Rattle.ll_prooftext.specs.Words.{is_not}
use Rattle.ll_prooftext.proofs.spelling.Cuts.{one_cut}
use Rattle.ll_prooftext.proofs.spelling.Mentioning.{first_alone}
use Rattle.ll_prooftext.proofs.unambiguous.OneField.{IsSmall, small_after, end_stops, one_field}

-- ---- fields

-- an unknown word, a fault of the fields at a column, or a good line with so many premises
pub data Verdict : Type 0 where
  Unknown : Verdict
  Bad Good : ℕ → Verdict

abbrev pub premise : Kind → ℕ
premise Number = 0
premise Argument = 0
premise Plain = 0
premise Sign = 0
premise (Cell n) = 0
premise Set = 1
premise Mark = 1

-- what fields come to, where so many bytes and premises stand before them
pub data Reads (o : Verdict) : Want → ℕ → ℕ → List ℕ → Type 0 where
  ends : {v : Want} {n m : ℕ} {bytes : List ℕ} → bytes ≡ [] → may_end v ≡ true → o ≡ Good m → Reads o v n m bytes
  lacking : {v : Want} {n m : ℕ} {bytes : List ℕ} → bytes ≡ [] → may_end v ≡ false → o ≡ Bad (n + 1) → Reads o v n m bytes
  wrong : {v : Want} {n m : ℕ} {bytes : List ℕ} → (rest : List ℕ) → bytes ≡ 32 ∷ rest → HasNoField v rest → o ≡ Bad (n + 2) → Reads o v n m bytes
  more : {v : Want} {n m : ℕ} {bytes : List ℕ} → (k : Kind) (field rest : List ℕ) (next : Want) → bytes ≡ 32 ∷ (field ++ rest) → after_field v k ≡ Some next
      → IsField k field → IsAtEnd rest → Reads o next (n + 1 + length field) (m + premise k) rest → Reads o v n m bytes

may_not : (v w : Want) → v ≡ w → may_end v ≡ true → may_end w ≡ false → ⊥
may_not v w e t f = let x : true ≡ false = sym t ∙ (ap may_end e ∙ f) in let y : ⊥ = cc in y

empty_not : (us vs rest : List ℕ) → us ≡ [] → us ≡ vs → vs ≡ 32 ∷ rest → ⊥
empty_not us vs rest e f g = cc

none_there : (v w : Want) (us vs r field rest : List ℕ) (k : Kind) (next : Want) → v ≡ w → us ≡ vs → us ≡ 32 ∷ r → HasNoField v r → vs ≡ 32 ∷ (field ++ rest)
    → after_field w k ≡ Some next → IsField k field → IsAtEnd rest → ⊥
none_there v w us vs r field rest k next e f g h l a i x =
    let q : 32 ∷ r ≡ 32 ∷ (field ++ rest) = sym g ∙ (f ∙ l) in
    let t : r ≡ field ++ rest = cc in
    h k field rest next (ap (λ z. after_field z k) e ∙ a) i t x

pub reads_once : (o p : Verdict) (v w : Want) (n i m j : ℕ) (us vs : List ℕ) → IsSmall v → Reads o v n m us → Reads p w i j vs → v ≡ w → n ≡ i → m ≡ j → us ≡ vs
    → o ≡ p
reads_once o p v w n i m j us vs few (ends e t q) (ends f u r) a b c d = cc
reads_once o p v w n i m j us vs few (ends e t q) (lacking f u r) a b c d = absurd (may_not v w a t u)
reads_once o p v w n i m j us vs few (ends e t q) (wrong rest f h r) a b c d = absurd (empty_not us vs rest e d f)
reads_once o p v w n i m j us vs few (ends e t q) (more k field rest next f h x y z) a b c d = absurd (empty_not us vs (field ++ rest) e d f)
reads_once o p v w n i m j us vs few (lacking e t q) (ends f u r) a b c d = absurd (may_not w v (sym a) u t)
reads_once o p v w n i m j us vs few (lacking e t q) (lacking f u r) a b c d = q ∙ (ap (λ z. Bad (z + 1)) b ∙ sym r)
reads_once o p v w n i m j us vs few (lacking e t q) (wrong rest f h r) a b c d = absurd (empty_not us vs rest e d f)
reads_once o p v w n i m j us vs few (lacking e t q) (more k field rest next f h x y z) a b c d = absurd (empty_not us vs (field ++ rest) e d f)
reads_once o p v w n i m j us vs few (wrong s e g q) (ends f u r) a b c d = absurd (empty_not vs us s f (sym d) e)
reads_once o p v w n i m j us vs few (wrong s e g q) (lacking f u r) a b c d = absurd (empty_not vs us s f (sym d) e)
reads_once o p v w n i m j us vs few (wrong s e g q) (wrong rest f h r) a b c d = q ∙ (ap (λ z. Bad (z + 2)) b ∙ sym r)
reads_once o p v w n i m j us vs few (wrong s e g q) (more k field rest next f h x y z) a b c d =
    absurd (none_there v w us vs s field rest k next a d e g f h x y)
reads_once o p v w n i m j us vs few (more l fd s nx e g q y t) (ends f u r) a b c d = absurd (empty_not vs us (fd ++ s) f (sym d) e)
reads_once o p v w n i m j us vs few (more l fd s nx e g q y t) (lacking f u r) a b c d = absurd (empty_not vs us (fd ++ s) f (sym d) e)
reads_once o p v w n i m j us vs few (more l fd s nx e g q y t) (wrong rest f h r) a b c d =
    absurd (none_there w v vs us rest fd s l nx (sym a) (sym d) f h e g q y)
reads_once o p v w n i m j us vs few (more l fd s nx e g q y t) (more k field rest next f h x z u) a b c d =
    let both : 32 ∷ (fd ++ s) ≡ 32 ∷ (field ++ rest) = sym e ∙ (d ∙ f) in
    let same = one_field v l k nx next fd field s rest few g (ap (λ z. after_field z k) a ∙ h) q x y z (let behind : fd ++ s ≡ field ++ rest = cc in behind) in
    reads_once o p nx next (n + 1 + length fd) (i + 1 + length field) (m + premise l) (j + premise k) s rest (small_after v l nx g few).1 t u same.next
    (ap (λ z. z + 1 + length fd) b ∙ ap (λ z. i + 1 + length z) same.text)
    (ap (λ z. z + premise l) c ∙ ap (λ z. j + premise z) same.kind)
    same.rest

pub fields_end : (v u : Want) (good rest : List ℕ) → Fields v good u → IsAtEnd rest → IsAtEnd (good ++ rest)
fields_end v u good rest none x = x
fields_end v u good rest (one k field next a i fs) x = space

pub stop_end : (v : Want) (n c : ℕ) (rest : List ℕ) → IsStop v n rest c → IsAtEnd rest
stop_end v n c rest (lacks e) = line_end
stop_end v n c rest (no_field h) = space

stop_read : (v : Want) (i n m c : ℕ) (rest : List ℕ) → i ≡ n → IsStop v i rest c → Reads (Bad c) v n m rest
stop_read v i n m c rest e (lacks f) = lacking refl f (ap (λ z. Bad (z + 1)) e)
stop_read v i n m c rest e (no_field {bytes = bytes} h) = wrong bytes refl h (ap (λ z. Bad (z + 2)) e)

pub fields_read : (v u : Want) (good rest : List ℕ) (n m c : ℕ) → Fields v good u → IsStop u (n + length good) rest c → Reads (Bad c) v n m (good ++ rest)
fields_read v u good rest n m c none s = stop_read v (n + 0) n m c rest (omega arith) s
fields_read v u good rest n m c (one {rest = others} k field next a i fs) s =
    let e : n + length (32 ∷ (field ++ others)) ≡ n + 1 + length field + length others = omega (arith, length-append field others) in
    more k field (others ++ rest) next (ap (λ z. 32 ∷ z) (append_assoc field others rest)) a i
    (fields_end next u others rest fs (stop_end u (n + length (32 ∷ (field ++ others))) c rest s))
    (fields_read next u others rest (n + 1 + length field) (m + premise k) c fs (subst (λ z. IsStop u z rest c) e s))

-- ---- first words

-- a known word has no space
pub listed_free : (entries : List (List ℕ × Want)) → list_all (λ (e : List ℕ × Want). list_all (is_not 32) e.0) entries ≡ true → (w : List ℕ) (v : Want)
    → listed entries w ≡ Some v → list_all (is_not 32) w ≡ true
listed_free [] f w v e = absurd cc
listed_free (x ∷ xs) f w v e = by_test (bytes_eq x.0 w) refl e
    (λ h. listed_free xs (and_right (list_all (is_not 32) x.0) (list_all (λ (e : List ℕ × Want). list_all (is_not 32) e.0) xs) f) w v h)
  where
    by_test : (t : Bool) → bytes_eq x.0 w ≡ t → (if t then Some x.1 else listed xs w) ≡ Some v → (listed xs w ≡ Some v → list_all (is_not 32) w ≡ true)
        → list_all (is_not 32) w ≡ true
    by_test true t h ih = ap (list_all (is_not 32)) (sym ((bytes_eq-Decides x.0 w).0 t))
        ∙ and_left (list_all (is_not 32) x.0) (list_all (λ (e : List ℕ × Want). list_all (is_not 32) e.0) xs) f
    by_test false t h ih = ih h

word_free : (lets : Bool) (w : List ℕ) (v : Want) → want lets w ≡ Some v → list_all (is_not 32) w ≡ true
word_free true w v e = listed_free ((codes "let", Then Argument Nothing) ∷ node_words) refl w v e
word_free false w v e = listed_free node_words refl w v e

-- and what follows it has no rows
abbrev pub AreSmall : List (List ℕ × Want) → Type 0
AreSmall [] = Unit {0}
AreSmall (e ∷ es) = IsSmall e.1 × AreSmall es

pub listed_small : (entries : List (List ℕ × Want)) → AreSmall entries → (w : List ℕ) (v : Want) → listed entries w ≡ Some v → IsSmall v
listed_small [] a w v e = absurd cc
listed_small (x ∷ xs) a w v e = by_test (bytes_eq x.0 w) e (λ h. listed_small xs a.1 w v h)
  where
    by_test : (t : Bool) → (if t then Some x.1 else listed xs w) ≡ Some v → (listed xs w ≡ Some v → IsSmall v) → IsSmall v
    by_test true h ih = subst IsSmall (let q : x.1 ≡ v = cc in q) a.0
    by_test false h ih = ih h

nodes_small : AreSmall node_words
nodes_small = (tt, (tt, ((tt, (tt, tt)), (tt, (tt, (tt, (tt, ((tt, tt), ((tt, tt), ((tt, tt), ((tt, tt), (tt, (tt, ((tt, (tt, tt)), tt))))))))))))))

want_small : (lets : Bool) (w : List ℕ) (v : Want) → want lets w ≡ Some v → IsSmall v
want_small true w v e = listed_small ((codes "let", Then Argument Nothing) ∷ node_words) ((tt, tt), nodes_small) w v e
want_small false w v e = listed_small node_words nodes_small w v e

-- ---- lines

-- what a line comes to
pub data Judges (o : Verdict) (lets : Bool) (bytes : List ℕ) : Type 0 where
  unknown : want lets (first_word bytes) ≡ None → o ≡ Unknown → Judges o lets bytes
  known : (word rest : List ℕ) (asked : Want) → bytes ≡ word ++ rest → want lets word ≡ Some asked → IsAtEnd rest → Reads o asked (length word) 0 rest
      → Judges o lets bytes

word_known : (lets : Bool) (bytes word rest : List ℕ) (asked : Want) → want lets (first_word bytes) ≡ None → bytes ≡ word ++ rest → want lets word ≡ Some asked
    → IsAtEnd rest → ⊥
word_known lets bytes word rest asked n e k x =
    let f : first_word bytes ≡ word = ap first_word e ∙ first_alone word rest (word_free lets word asked k) x in
    let g : None ≡ Some asked = sym n ∙ (ap (want lets) f ∙ k) in
    let y : ⊥ = cc in y

pub judges_once : (o p : Verdict) (lets : Bool) (bytes : List ℕ) → Judges o lets bytes → Judges p lets bytes → o ≡ p
judges_once o p lets bytes (unknown n q) (unknown m r) = q ∙ sym r
judges_once o p lets bytes (unknown n q) (known w s a e k x r) = absurd (word_known lets bytes w s a n e k x)
judges_once o p lets bytes (known w s a e k x r) (unknown n q) = absurd (word_known lets bytes w s a n e k x)
judges_once o p lets bytes (known w s a e k x r) (known v t b f l y q) =
    let c = one_cut (is_not 32) w v s t (word_free lets w a k) (word_free lets v b l) (end_stops (is_not 32) s refl x) (end_stops (is_not 32) t refl y)
    (sym e ∙ f) in
    let g : Some a ≡ Some b = sym k ∙ (ap (want lets) c.0 ∙ l) in
    reads_once o p a b (length w) (length v) 0 0 s t (want_small lets w a k) r q (let z : a ≡ b = cc in z) (ap length c.0) refl c.1

pub bad_judged : (lets : Bool) (bytes : List ℕ) (c : ℕ) → HasBadField (want lets) bytes c → Judges (Bad c) lets bytes
bad_judged lets bytes c h =
    known h.word (h.good ++ h.rest) h.asked h.is h.known (fields_end h.asked h.left h.good h.rest h.fields
    (stop_end h.left (length h.word + length h.good) c h.rest h.stop))
    (fields_read h.asked h.left h.good h.rest (length h.word) 0 c h.fields h.stop)

-- ---- good lines

-- a line of a variable of the query
abbrev pub is_let : List ℕ → Bool
is_let bytes = bytes_eq (first_word bytes) (codes "let")

-- how many nodes stand under a line beside its premises
abbrev own : List ℕ → ℕ
own w =
    if bytes_eq w (codes "with") then 2
    else if list_any (bytes_eq w) (codes "true" ∷ codes "erase" ∷ codes "num" ∷ codes "tensor" ∷ codes "clause" ∷ []) then 0
    else 1

-- how many nodes stand under a line with so many premises
abbrev pub under : List ℕ → ℕ → ℕ
under bytes premises = own (first_word bytes) + premises

pub record IsGoodLine (lets : Bool) (bytes : List ℕ) (nodes : ℕ) (as_let : Bool) : Type 0 where
  pub premises : ℕ
  pub judged : Judges (Good premises) lets bytes
  pub many : under bytes premises ≡ nodes
  pub kind : is_let bytes ≡ as_let

argument_is : (names : List (List ℕ)) (t : Term) → IsSpelledTerm names t → is_closed t ≡ true → IsArgument (argument_text t (term_text names t))
argument_is names t s c = record { names = names; term = t; spelled = s; closed = c; is = refl }

pub number_is : (n : ℕ) → n < 2 ^ 32 → IsNumber (decimal n)
number_is n s = record { number = n; small = s; is = refl }

pub set_is : (s : List ℕ) → AreLabels s → rises s ≡ true → IsSet (set_text s)
set_is s a r = record { labels = s; small = a; rising = r; is = refl }

pub last : (text : List ℕ) → 32 ∷ text ≡ 32 ∷ (text ++ [])
last text = ap (λ z. 32 ∷ z) (sym (append-nil text))

pub number_last : (i n : ℕ) → n < 2 ^ 32 → Reads (Good 0) (Then Number Nothing) i 0 (32 ∷ decimal n)
number_last i n s = more Number (decimal n) [] Nothing (last (decimal n)) refl (number_is n s) line_end (ends refl refl refl)

argument_last : (names : List (List ℕ)) (i : ℕ) (t : Term) → IsSpelledTerm names t → is_closed t ≡ true
    → Reads (Good 0) (Then Argument Nothing) i 0 (term_field names t)
argument_last names i t s c = let text = argument_text t (term_text names t) in
    more Argument text [] Nothing (last text) refl (argument_is names t s c) line_end (ends refl refl refl)

pub parts_end : (ps : List PartLine) → IsAtEnd (flat_map part_field ps)
parts_end [] = line_end
parts_end (Labels s ∷ ps) = space
parts_end (Free ∷ ps) = space

terms_end : (names : List (List ℕ)) (ts : List Term) (rest : List ℕ) → IsAtEnd rest → IsAtEnd (flat_map (term_field names) ts ++ rest)
terms_end names [] rest x = x
terms_end names (t ∷ ts) rest x = space

pub parts_read : (v : Want) (ps : List PartLine) (n m : ℕ) → may_end v ≡ true → after_field v Set ≡ Some Premises → after_field v Mark ≡ Some Premises
    → All IsSpelledPart ps → list_all part_rises ps ≡ true → Reads (Good (m + length ps)) v n m (flat_map part_field ps)
parts_read v [] n m e f g a r = ends refl e (ap Good (let z : m + 0 ≡ m = omega arith in z))
parts_read v (Labels s ∷ ps) n m e f g a r =
    let b = and_right (rises s) (list_all part_rises ps) r in
    let ih = parts_read Premises ps (n + 1 + length (set_text s)) (m + 1) refl refl refl (All-tail IsSpelledPart (Labels s) ps a) b in
    more Set (set_text s) (flat_map part_field ps) Premises refl f
    (set_is s (All-head IsSpelledPart (Labels s) ps a) (and_left (rises s) (list_all part_rises ps) r)) (parts_end ps)
    (subst (λ z. Reads (Good z) Premises (n + 1 + length (set_text s)) (m + 1) (flat_map part_field ps)) (omega arith) ih)
parts_read v (Free ∷ ps) n m e f g a r =
    let ih = parts_read Premises ps (n + 1 + 1) (m + 1) refl refl refl (All-tail IsSpelledPart Free ps a) r in
    more Mark (codes "!") (flat_map part_field ps) Premises refl g refl (parts_end ps)
    (subst (λ z. Reads (Good z) Premises (n + 1 + 1) (m + 1) (flat_map part_field ps)) (omega arith) ih)

terms_read : (o : Verdict) (names : List (List ℕ)) (ts : List Term) (rest : List ℕ) (n m : ℕ) → IsAtEnd rest → ((i : ℕ) → Reads o Arguments i m rest)
    → All (IsSpelledTerm names) ts → list_all is_closed ts ≡ true → Reads o Arguments n m (flat_map (term_field names) ts ++ rest)
terms_read o names [] rest n m x h a c = h n
terms_read o names (t ∷ ts) rest n m x h a c =
    let text = argument_text t (term_text names t) in
    let others = flat_map (term_field names) ts in
    let ih = terms_read o names ts rest (n + 1 + length text) m x h (All-tail (IsSpelledTerm names) t ts a) (and_right (is_closed t) (list_all is_closed ts) c)
    in
    more Argument text (others ++ rest) Arguments (ap (λ z. 32 ∷ z) (append_assoc text others rest)) refl
    (argument_is names t (All-head (IsSpelledTerm names) t ts a) (and_left (is_closed t) (list_all is_closed ts) c)) (terms_end names ts rest x)
    (subst (λ z. Reads o Arguments (n + 1 + length text) z (others ++ rest)) (let z : m ≡ m + 0 = omega arith in z) ih)

clause_read : (names : List (List ℕ)) (n k : ℕ) (ts : List Term) (ps : List PartLine) (i : ℕ) → IsSpelledLine names (ClauseLine n k ts ps)
    → is_line (ClauseLine n k ts ps) ≡ true
    → Reads (Good (length ps)) (Then Number (Then Number Arguments)) i 0
    (32 ∷ (decimal n ++ 32 ∷ (decimal k ++ (flat_map (term_field names) ts ++ flat_map part_field ps))))
clause_read names n k ts ps i s l =
    let closed = and_left (list_all is_closed ts) (list_all part_rises ps) l in
    let rising = and_right (list_all is_closed ts) (list_all part_rises ps) l in
    let rest = flat_map part_field ps in
    let behind = flat_map (term_field names) ts ++ rest in
    let parts = λ (j : ℕ). subst (λ z. Reads (Good z) Arguments j 0 rest) (let z : 0 + length ps ≡ length ps = omega arith in
    z) (parts_read Arguments ps j 0 refl refl refl s.1.1.1 rising) in
    more Number (decimal n) (32 ∷ (decimal k ++ behind)) (Then Number Arguments) refl refl (number_is n s.0) space
    (more Number (decimal k) behind Arguments refl refl (number_is k s.1.0) (terms_end names ts rest (parts_end ps))
    (terms_read (Good (length ps)) names ts rest (i + 1 + length (decimal n) + 1 + length (decimal k)) 0 (parts_end ps) parts s.1.1.0 closed))

pub tensor_read : (s t : List ℕ) (i : ℕ) → AreLabels s × AreLabels t → is_line (TensorLine s t) ≡ true
    → Reads (Good 2) (Then Set (Then Set Nothing)) i 0 (32 ∷ (set_text s ++ 32 ∷ set_text t))
tensor_read s t i a l =
    more Set (set_text s) (32 ∷ set_text t) (Then Set Nothing) refl refl (set_is s a.0 (and_left (rises s) (rises t) l)) space
    (more Set (set_text t) [] Nothing (last (set_text t)) refl (set_is t a.1 (and_right (rises s) (rises t) l)) line_end (ends refl refl refl))

node_known : (lets : Bool) (w : List ℕ) (v : Want) → listed node_words w ≡ Some v → bytes_eq (codes "let") w ≡ false → want lets w ≡ Some v
node_known true w v e f = rw f e
node_known false w v e f = e

bare : (lets : Bool) (w : List ℕ) → listed node_words w ≡ Some Nothing → bytes_eq (codes "let") w ≡ false → Judges (Good 0) lets w
bare lets w e f = known w [] Nothing (sym (append-nil w)) (node_known lets w Nothing e f) line_end (ends refl refl refl)

-- the fields of a clause node, from its front
pub clause_text : (names : List (List ℕ)) (n k : ℕ) (ts : List Term) (ps : List PartLine)
    → node_text names (ClauseLine n k ts ps) ≡ codes "clause" ++ 32
    ∷ (decimal n ++ 32 ∷ (decimal k ++ (flat_map (term_field names) ts ++ flat_map part_field ps)))
clause_text names n k ts ps = regroup (codes "clause") (field (decimal n)) (field (decimal k)) (flat_map (term_field names) ts) (flat_map part_field ps)
  where
    regroup : (a b c d e : List ℕ) → (((a ++ b) ++ c) ++ d) ++ e ≡ a ++ (b ++ (c ++ (d ++ e)))
    regroup a b c d e = simp append_assoc

-- the line of a node
pub node_good : (names : List (List ℕ)) (lets : Bool) (x : Line) → is_line x ≡ true → IsSpelledLine names x
    → IsGoodLine lets (node_text names x) (children x) false
node_good names lets OneLine l s = record { premises = 0; judged = bare lets (codes "true") refl refl; many = refl; kind = refl }
node_good names lets EraseLine l s = record { premises = 0; judged = bare lets (codes "erase") refl refl; many = refl; kind = refl }
node_good names lets WithLine l s = record { premises = 0; judged = bare lets (codes "with") refl refl; many = refl; kind = refl }
node_good names lets LeftLine l s = record { premises = 0; judged = bare lets (codes "left") refl refl; many = refl; kind = refl }
node_good names lets RightLine l s = record { premises = 0; judged = bare lets (codes "right") refl refl; many = refl; kind = refl }
node_good names lets BangLine l s = record { premises = 0; judged = bare lets (codes "bang") refl refl; many = refl; kind = refl }
node_good names lets UseLine l s = record { premises = 0; judged = bare lets (codes "use") refl refl; many = refl; kind = refl }
node_good names lets NumLine l s = record { premises = 0; judged = bare lets (codes "num") refl refl; many = refl; kind = refl }
node_good names lets (TensorLine s t) l a = record {
  premises = 2;
  judged =
      known (codes "tensor") (32 ∷ (set_text s ++ 32 ∷ set_text t)) (Then Set (Then Set Nothing)) refl
      (node_known lets (codes "tensor") (Then Set (Then Set Nothing)) refl refl) space (tensor_read s t 6 a l);
  many = refl;
  kind = refl;
}
node_good names lets (LolliLine n) l s = record {
  premises = 0;
  judged =
      known (codes "lolli") (32 ∷ decimal n) (Then Number Nothing) refl (node_known lets (codes "lolli") (Then Number Nothing) refl refl) space
      (number_last 5 n s);
  many = refl;
  kind = refl;
}
node_good names lets (ImpLine n) l s = record {
  premises = 0;
  judged =
      known (codes "imp") (32 ∷ decimal n) (Then Number Nothing) refl (node_known lets (codes "imp") (Then Number Nothing) refl refl) space (number_last 3 n s);
  many = refl;
  kind = refl;
}
node_good names lets (ForallLine n) l s = record {
  premises = 0;
  judged =
      known (codes "forall") (32 ∷ decimal n) (Then Number Nothing) refl (node_known lets (codes "forall") (Then Number Nothing) refl refl) space
      (number_last 6 n s);
  many = refl;
  kind = refl;
}
node_good names lets (ExistsLine t) l s = record {
  premises = 0;
  judged =
      known (codes "exists") (term_field names t) (Then Argument Nothing) refl (node_known lets (codes "exists") (Then Argument Nothing) refl refl) space
      (argument_last names 6 t s l);
  many = refl;
  kind = refl;
}
node_good names lets (ClauseLine n k ts ps) l s = record {
  premises = length ps;
  judged = known (codes "clause") (32 ∷ (decimal n ++ 32 ∷ (decimal k ++ (flat_map (term_field names) ts ++ flat_map part_field ps))))
      (Then Number (Then Number Arguments)) (clause_text names n k ts ps) (node_known lets (codes "clause") (Then Number (Then Number Arguments)) refl refl)
      space (clause_read names n k ts ps 6 s l);
  many = let z : 0 + length ps ≡ length ps = omega arith in z;
  kind = refl;
}

-- the line of a variable of the query
pub let_good : (names : List (List ℕ)) (t : Term) → is_closed t ≡ true → IsSpelledTerm names t → IsGoodLine true (codes "let" ++ term_field names t) 1 true
let_good names t c s = record {
  premises = 0;
  judged = known (codes "let") (term_field names t) (Then Argument Nothing) refl refl space
      (argument_last names 3 t s c);
  many = refl;
  kind = refl;
}
