-- A text has one first fault, or none.
use Rattle.std.proofs.Common.{◌≡◌, ℕ, zero, suc, ◌+◌, Bool, true, false, List, [], ◌∷◌, ◌++◌, length, map, All, refl, ap, sym, subst, ◌∙◌, arith, codes}
use Rattle.std.proofs.Common.{Option, Some, None}
use Rattle.std.specs.List.{list_all}
use Rattle.std.proofs.lemmas.List.Elements.{All-head, All-tail}
use Rattle.ll_list_laws.proofs.CallerLemmas.{and_true_left as and_left, and_true_right as and_right}
use Rattle.ll_bank.specs.Term.{Term, is_closed}
use Rattle.ll_lexer.specs.declared.Fault.{Fault}
use Rattle.ll_lexer.specs.declared.Place.{Place}
use Rattle.ll_lexer.specs.Reading.{place_at}
use Rattle.ll_laws.specs.Line.{Line, is_line, DerivationLines}
use Rattle.ll_laws.specs.ProofText.{term_field, node_text}
use Rattle.ll_prooftext.specs.Admitted.{IsSpelledTerm, IsSpelledLine}
use Rattle.ll_prooftext.specs.Reading.{text_lines, children, missing, is_none, Begins, next_line, HasNoVersion, HasFault, version, unknown_word, bad_field}
use Rattle.ll_prooftext.specs.Reading.{nodes_missing, left_over, IsTextOf}
use Rattle.ll_prooftext.proofs.unambiguous.OneVerdict.{Verdict, Unknown, Bad, Good, Judges, unknown, judges_once, bad_judged, is_let, under, node_good}
use Rattle.ll_prooftext.proofs.unambiguous.OneVerdict.{let_good}
use Rattle.ll_prooftext.proofs.writing.WholeText.{text_begins}

-- ---- lines

abbrev pub fault_in : ℕ → ℕ → ℕ → Fault
fault_in line column kind = record { at = record { line = line; column = column }; kind = kind }

-- the fault at the end of a text whose nodes lack so many
abbrev pub end_fault : Place → ℕ → Option Fault
end_fault end zero = None
end_fault end (suc k) = Some (record { at = end; kind = 15 })

-- what a line's verdict comes to, and what is behind a good one
abbrev pub Follows : Option Fault → ℕ → (ℕ → Type 0) → Verdict → Type 0
Follows o n Rest Unknown = o ≡ Some (fault_in n 1 13)
Follows o n Rest (Bad c) = o ≡ Some (fault_in n c 14)
Follows o n Rest (Good premises) = Rest premises

-- what the lines from this number on come to, where so many nodes lack
abbrev Ran : Place → Option Fault → Bool → ℕ → ℕ → List (List ℕ) → Type 0
Ran end o lets n k [] = o ≡ end_fault end k
Ran end o lets n zero (bytes ∷ more) = o ≡ Some (fault_in n 1 16)
Ran end o lets n (suc k) (bytes ∷ more) = (v : Verdict) × (Judges v lets bytes × Follows o n (λ c. Ran end o (is_let bytes) (n + 1) (under bytes c + k) more) v)

pub follows_once : (o p : Option Fault) (n : ℕ) (X Y : ℕ → Type 0) (v w : Verdict) → v ≡ w → Follows o n X v → Follows p n Y w → ((c : ℕ) → X c → Y c → o ≡ p)
    → o ≡ p
follows_once o p n X Y Unknown Unknown e f g h = f ∙ sym g
follows_once o p n X Y (Bad c) (Bad d) e f g h = f ∙ (ap (λ z. Some (fault_in n z 14)) (let q : c ≡ d = cc in q) ∙ sym g)
follows_once o p n X Y (Good c) (Good d) e f g h = h d (subst X (let q : c ≡ d = cc in q) f) g
follows_once o p n X Y v w e f g h = absurd cc

ran_once : (end : Place) (o p : Option Fault) (lets : Bool) (n k : ℕ) (lines : List (List ℕ)) → Ran end o lets n k lines → Ran end p lets n k lines → o ≡ p
ran_once end o p lets n k [] a b = a ∙ sym b
ran_once end o p lets n zero (bytes ∷ more) a b = a ∙ sym b
ran_once end o p lets n (suc k) (bytes ∷ more) a b =
    follows_once o p n (λ c. Ran end o (is_let bytes) (n + 1) (under bytes c + k) more) (λ c. Ran end p (is_let bytes) (n + 1) (under bytes c + k) more) a.0 b.0
    (judges_once a.0 b.0 lets bytes a.1.0 b.1.0) a.1.1 b.1.1
    (λ c. ran_once end o p (is_let bytes) (n + 1) (under bytes c + k) more)

-- ---- the lines of a derivation in front

-- whether a line of a variable may stand behind these nodes
abbrev still_lets : Bool → List Line → Bool
still_lets lets [] = lets
still_lets lets (x ∷ xs) = false

still_none : (xs : List Line) → still_lets false xs ≡ false
still_none [] = refl
still_none (x ∷ xs) = refl

still_first : (xs : List Line) → still_lets true xs ≡ is_none xs
still_first [] = refl
still_first (x ∷ xs) = refl

moved : (end : Place) (o : Option Fault) (lets may : Bool) (n i k j : ℕ) (lines : List (List ℕ)) → lets ≡ may → n ≡ i → k ≡ j → Ran end o lets n k lines
    → Ran end o may i j lines
moved end o lets may n i k j lines e f g r = subst (λ z. Ran end o z i j lines) e
    (subst (λ z. Ran end o lets z j lines) f (subst (λ z. Ran end o lets n z lines) g r))

nodes_ran : (end : Place) (o : Option Fault) (names : List (List ℕ)) (nodes : List Line) (rest : List (List ℕ)) (lets : Bool) (n j k : ℕ)
    → list_all is_line nodes ≡ true → All (IsSpelledLine names) nodes → missing j nodes ≡ Some k
    → Ran end o (still_lets lets nodes) (n + length nodes) k rest → Ran end o lets n j (map (node_text names) nodes ++ rest)
nodes_ran end o names [] rest lets n j k l s m r = moved end o lets lets (n + 0) n k j rest refl (omega arith) (let q : j ≡ k = cc in sym q) r
nodes_ran end o names (x ∷ xs) rest lets n zero k l s m r = absurd cc
nodes_ran end o names (x ∷ xs) rest lets n (suc j) k l s m r =
    let bytes = node_text names x in
    let g = node_good names lets x (and_left (is_line x) (list_all is_line xs) l) (All-head (IsSpelledLine names) x xs s) in
    let behind = moved end o false (still_lets false xs) (n + suc (length xs)) (n + 1 + length xs) k k rest (sym (still_none xs)) (omega arith) refl r in
    let ih : Ran end o false (n + 1) (children x + j) (map (node_text names) xs ++ rest) =
    nodes_ran end o names xs rest false (n + 1) (children x + j) k (and_right (is_line x) (list_all is_line xs) l) (All-tail (IsSpelledLine names) x xs s) m
    behind in (
      Good g.premises,
      (
        g.judged,
        moved end o false (is_let bytes) (n + 1) (n + 1) (children x + j) (under bytes g.premises + j)
            (map (node_text names) xs ++ rest) (sym g.kind) refl (ap (λ z. z + j) (sym g.many)) ih,
      ),
    )

lets_ran : (end : Place) (o : Option Fault) (names : List (List ℕ)) (asked : List Term) (rest : List (List ℕ)) (n : ℕ) → list_all is_closed asked ≡ true
    → All (IsSpelledTerm names) asked
    → Ran end o true (n + length asked) 1 rest → Ran end o true n 1 (map (λ t. codes "let" ++ term_field names t) asked ++ rest)
lets_ran end o names [] rest n l s r = moved end o true true (n + 0) n 1 1 rest refl (omega arith) refl r
lets_ran end o names (t ∷ ts) rest n l s r =
    let bytes = codes "let" ++ term_field names t in
    let lines = map (λ (t : Term). codes "let" ++ term_field names t) ts ++ rest in
    let g = let_good names t (and_left (is_closed t) (list_all is_closed ts) l) (All-head (IsSpelledTerm names) t ts s) in
    let behind = moved end o true true (n + suc (length ts)) (n + 1 + length ts) 1 1 rest refl (omega arith) refl r in
    let ih : Ran end o true (n + 1) 1 lines = lets_ran end o names ts rest (n + 1) (and_right (is_closed t) (list_all is_closed ts) l)
    (All-tail (IsSpelledTerm names) t ts s) behind in (
      Good g.premises,
      (
        g.judged,
        moved end o true (is_let bytes) (n + 1) (n + 1) 1 (under bytes g.premises + 0) lines (sym g.kind) refl (let q = g.many in
            omega arith) ih,
      ),
    )

-- ---- texts

-- what a text comes to
data Comes (lines : List (List ℕ)) (end : Place) (o : Option Fault) : Type 0 where
  no_version : HasNoVersion (codes "proof 1") lines → o ≡ Some (fault_in 1 1 14) → Comes lines end o
  begun : (rest : List (List ℕ)) → lines ≡ codes "proof 1" ∷ rest → Ran end o true 2 1 rest → Comes lines end o

comes_once : (lines : List (List ℕ)) (end : Place) (o p : Option Fault) → Comes lines end o → Comes lines end p → o ≡ p
comes_once lines end o p (no_version h e) (no_version l f) = e ∙ sym f
comes_once lines end o p (no_version h e) (begun rest f r) = absurd (h rest f)
comes_once lines end o p (begun rest f r) (no_version h e) = absurd (h rest f)
comes_once lines end o p (begun us e r) (begun vs f s) =
    let both : codes "proof 1" ∷ us ≡ codes "proof 1" ∷ vs = sym e ∙ f in
    ran_once end o p true 2 1 vs (subst (λ z. Ran end o true 2 1 z) (others (codes "proof 1") us vs both) r) s
  where
    others : (w : List ℕ) (us vs : List (List ℕ)) → w ∷ us ≡ w ∷ vs → us ≡ vs
    others w us vs e = cc

begins_come : (end : Place) (o : Option Fault) (lines rest : List (List ℕ)) (k : ℕ) (b : Begins lines rest k) → Ran end o (is_none b.nodes) (next_line b) k rest
    → Comes lines end o
begins_come end o lines rest k b r =
    let behind = moved end o (is_none b.nodes) (still_lets true b.nodes) (next_line b) (2 + length b.asked + length b.nodes) k k rest
    (sym (still_first b.nodes)) (omega arith) refl r in
    begun (map (λ t. codes "let" ++ term_field b.names t) b.asked ++ (map (node_text b.names) b.nodes ++ rest)) b.is
    (lets_ran end o b.names b.asked (map (node_text b.names) b.nodes ++ rest) 2 b.closed b.spelled_terms
    (nodes_ran end o b.names b.nodes rest true (2 + length b.asked) 1 k b.ordered b.spelled_nodes b.still behind))

fault_comes : (text : List ℕ) (f : Fault) → HasFault text f → Comes (text_lines text) (place_at text (length text)) (Some f)
fault_comes text f (version h) = no_version h refl
fault_comes text f (unknown_word bytes more k b h) = begins_come (place_at text (length text)) (Some f) (text_lines text) (bytes ∷ more) (suc k) b (
  Unknown,
  (unknown h refl, refl),
)
fault_comes text f (bad_field bytes more k column b h) = begins_come (place_at text (length text)) (Some f) (text_lines text) (bytes ∷ more) (suc k) b
    (Bad column, (bad_judged (is_none b.nodes) bytes column h, refl))
fault_comes text f (nodes_missing k b) = begins_come (place_at text (length text)) (Some f) (text_lines text) [] (suc k) b refl
fault_comes text f (left_over bytes more b) = begins_come (place_at text (length text)) (Some f) (text_lines text) (bytes ∷ more) 0 b refl

-- a text has one first fault
pub one_fault : (text : List ℕ) (f g : Fault) → HasFault text f → HasFault text g → f ≡ g
one_fault text f g a b = let e : Some f ≡ Some g = comes_once (text_lines text) (place_at text (length text)) (Some f) (Some g) (fault_comes text f a)
    (fault_comes text g b) in cc

-- the text of a derivation has none
pub no_fault : (names : List (List ℕ)) (text : List ℕ) (d : DerivationLines) (f : Fault) → IsTextOf names text d → HasFault text f → ⊥
no_fault names text d f t a =
    let end = place_at text (length text) in
    let whole : Comes (text_lines text) end None = begins_come end None (text_lines text) [] 0 (text_begins names text d t) refl in
    let e : None ≡ Some f = comes_once (text_lines text) end None (Some f) whole (fault_comes text f a) in
    let x : ⊥ = cc in x
