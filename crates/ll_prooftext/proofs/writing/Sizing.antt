-- The lengths of texts of derivations.
use Rattle.std.proofs.Common.{◌≡◌, ℕ, suc, ◌+◌, ◌<◌, ◌≢◌, ◌⊎◌, min, Bool, true, false, ◌&&◌, eqb, if◌then◌else◌, List, [], ◌∷◌, ◌++◌, length, get_or, take}
use Rattle.std.proofs.Common.{refl, ap, sym, subst, ◌∙◌, inl, inr, arith, append_assoc, length-append, codes, decimal, true≢false}
use Rattle.std.specs.List.{flat_map}
use Rattle.std.specs.Str.{bytes_eq}
use Rattle.std.proofs.Math.ListN.{get_or-append}
use Rattle.std.proofs.lemmas.Bool.{cases_lt}
use Rattle.std.proofs.lemmas.List.{length_push, get_or_push}
use Rattle.std.proofs.lemmas.Grind.{flat_map-append}
use Rattle.ll_bank.specs.declared.At.{At}
use Rattle.ll_bank.specs.declared.Head.{Head}
use Rattle.ll_bank.specs.declared.Head.TheVariants.{Name, Eigen, Bound}
use Rattle.ll_bank.specs.Term.{Term, Var, Int, Con, Ap, app}
use Rattle.ll_bank.specs.Nodes.{Nodes, term_tree}
use Rattle.ll_laws.specs.Line.{Line, OneLine, EraseLine, TensorLine, WithLine, LeftLine, RightLine, BangLine, LolliLine, ImpLine, ForallLine, ExistsLine}
use Rattle.ll_laws.specs.Line.{UseLine, NumLine, ClauseLine, DerivationLines}
use Rattle.ll_laws.specs.Output.{line, head_text, term_text, bracket_if, has_arguments, is_cons, is_cons_head}
use Rattle.ll_laws.specs.ProofText.{field, term_field, part_field, node_text, proof_text}
use Rattle.ll_laws.specs.Search.{cut_count}
use Rattle.ll_printer.proofs.CallerLemmas.{app_text, cons_text, is_cons-app}
use Rattle.ll_prooftext.specs.declared.sizes.Length.{Length}
use Rattle.ll_prooftext.specs.Table.{line_terms, field_terms}
use Rattle.ll_prooftext.specs.ProofText2.{let_text_by, node_text_by, lines_by}
use Rattle.ll_prooftext.specs.Lengths.{IsLength, AreLengths}
use Rattle.ll_prooftext.proofs.writing.Writing.{parts_more}
use Rattle.ll_prooftext.proofs.spelling.Extended.{arguments_fields}

-- ---- a text and what is left of it without its terms

-- a term is shown by nothing
abbrev pub nothing : Term → List ℕ
nothing t = []

no_fields : (ts : List Term) → flat_map nothing ts ≡ []
no_fields [] = refl
no_fields (t ∷ ts) = no_fields ts

module _ (show : Term → List ℕ) where
  node_length : (n : Line) → length (line (node_text_by show n)) ≡ length (line (node_text_by nothing n)) + length (flat_map show (line_terms n))
  node_length OneLine = refl
  node_length EraseLine = refl
  node_length (TensorLine s t) = omega arith
  node_length WithLine = refl
  node_length LeftLine = refl
  node_length RightLine = refl
  node_length BangLine = refl
  node_length (LolliLine n) = omega arith
  node_length (ImpLine n) = omega arith
  node_length (ForallLine c) = omega arith
  node_length UseLine = refl
  node_length NumLine = refl
  node_length (ExistsLine t) =
      let a = length-append (codes "exists" ++ show t) (10 ∷ []) in let b = length-append (codes "exists") (show t) in let c = length-append (show t) [] in
      let d : length (codes "exists") ≡ 6 = refl in let e : length (line (codes "exists" ++ [])) ≡ 7 = refl in let f : length {A = ℕ} (10 ∷ []) ≡ 1 = refl in
      omega arith
  node_length (ClauseLine n k ts ps) =
      let front = codes "clause" ++ field (decimal n) ++ field (decimal k) in let parts = flat_map part_field ps in
      let a = length-append ((front ++ flat_map show ts) ++ parts) (10 ∷ []) in let b = length-append (front ++ flat_map show ts) parts in
      let c = length-append front (flat_map show ts) in
      let d = length-append ((front ++ flat_map nothing ts) ++ parts) (10 ∷ []) in let e = length-append (front ++ flat_map nothing ts) parts in
      let f = length-append front (flat_map nothing ts) in
      let g = ap length (no_fields ts) in omega arith

  nodes_length : (ns : List Line) → length (flat_map (λ n. line (node_text_by show n)) ns) ≡ length (flat_map (λ n. line (node_text_by nothing n)) ns)
      + length (flat_map show (flat_map line_terms ns))
  nodes_length [] = refl
  nodes_length (n ∷ ns) =
      let a = length-append (line (node_text_by show n)) (flat_map (λ m. line (node_text_by show m)) ns) in
      let b = length-append (line (node_text_by nothing n)) (flat_map (λ m. line (node_text_by nothing m)) ns) in
      let c = ap length (flat_map-append show (line_terms n) (flat_map line_terms ns)) in
      let d = length-append (flat_map show (line_terms n)) (flat_map show (flat_map line_terms ns)) in
      let e = node_length n in let f = nodes_length ns in omega arith

  lets_length : (ts : List Term) → length (flat_map (λ t. line (let_text_by show t)) ts) ≡ length (flat_map (λ t. line (let_text_by nothing t)) ts)
      + length (flat_map show ts)
  lets_length [] = refl
  lets_length (t ∷ ts) =
      let a = length-append (line (let_text_by show t)) (flat_map (λ u. line (let_text_by show u)) ts) in
      let b = length-append (line (let_text_by nothing t)) (flat_map (λ u. line (let_text_by nothing u)) ts) in
      let c = length-append (show t) (flat_map show ts) in let d = length-append (codes "let" ++ show t) (10 ∷ []) in
      let e = length-append (codes "let") (show t) in
      let f : length (line (let_text_by nothing t)) ≡ 4 = refl in let g : length (codes "let") ≡ 3 = refl in let h : length {A = ℕ} (10 ∷ []) ≡ 1 = refl in
      let k = lets_length ts in omega arith

  lines_length : (d : DerivationLines) → length (lines_by show d) ≡ length (lines_by nothing d) + length (flat_map show (field_terms d))
  lines_length d =
      let a = length-append (flat_map (λ t. line (let_text_by show t)) d.asked) (flat_map (λ n. line (node_text_by show n)) d.nodes) in
      let b = length-append (flat_map (λ t. line (let_text_by nothing t)) d.asked) (flat_map (λ n. line (node_text_by nothing n)) d.nodes) in
      let c = ap length (flat_map-append show d.asked (flat_map line_terms d.nodes)) in
      let e = length-append (flat_map show d.asked) (flat_map show (flat_map line_terms d.nodes)) in
      let f = lets_length d.asked in let g = nodes_length d.nodes in omega arith

-- version 1 shows each term whole
node_whole : (names : List (List ℕ)) (n : Line) → node_text names n ≡ node_text_by (term_field names) n
node_whole names OneLine = refl
node_whole names EraseLine = refl
node_whole names (TensorLine s t) = refl
node_whole names WithLine = refl
node_whole names LeftLine = refl
node_whole names RightLine = refl
node_whole names BangLine = refl
node_whole names (LolliLine n) = refl
node_whole names (ImpLine n) = refl
node_whole names (ForallLine c) = refl
node_whole names UseLine = refl
node_whole names NumLine = refl
node_whole names (ExistsLine t) = refl
node_whole names (ClauseLine n k ts ps) = refl

nodes_whole : (names : List (List ℕ)) (ns : List Line) → flat_map (λ n. line (node_text names n)) ns
    ≡ flat_map (λ n. line (node_text_by (term_field names) n)) ns
nodes_whole names [] = refl
nodes_whole names (n ∷ ns) = λ i. line (node_whole names n i) ++ nodes_whole names ns i

pub whole_length : (names : List (List ℕ)) (d : DerivationLines)
    → length (line (codes "proof 1") ++ lines_by nothing d) + length (flat_map (term_field names) (field_terms d)) ≡ length (proof_text names d)
whole_length names d =
    let lets = flat_map (λ t. line (let_text_by (term_field names) t)) d.asked in
    let text : proof_text names d ≡ line (codes "proof 1") ++ lines_by (term_field names) d =
    ap (λ ns. (line (codes "proof 1") ++ lets) ++ ns) (nodes_whole names d.nodes)
    ∙ append_assoc (line (codes "proof 1")) lets (flat_map (λ n. line (node_text_by (term_field names) n)) d.nodes) in
    let a = ap length text in let b = length-append (line (codes "proof 1")) (lines_by (term_field names) d) in
    let c = length-append (line (codes "proof 1")) (lines_by nothing d) in
    let e = lines_length (term_field names) d in omega arith

-- ---- the lengths of terms

-- the head of `::` is told by its text
pub cons_head : (names : List (List ℕ)) (h : Head) → is_cons_head names h ≡ bytes_eq (head_text names h) (codes "::")
cons_head names (Name n) = refl
cons_head names (Eigen n) = refl
cons_head names (Bound n) = refl

-- a head and its arguments
pub app_length : (names : List (List ℕ)) (h : Head) (ts : List Term) → (eqb (length ts) 2 && is_cons_head names h) ≡ false
    → length (head_text names h) + length (flat_map (term_field names) ts) ≡ length (term_text names (app h ts))
app_length names h ts e =
    let a = ap length (app_text names h ts e ∙ ap (λ us. head_text names h ++ us) (arguments_fields names ts)) in
    let b = length-append (head_text names h) (flat_map (term_field names) ts) in omega arith

-- the field of a term
pub field_length_is : (names : List (List ℕ)) (t : Term) → length (term_field names t) ≡ length (term_text names t) + ((if has_arguments t then 2 else 0) + 1)
field_length_is names t = by (has_arguments t)
  where
    by : (b : Bool) → length (field (bracket_if b (term_text names t))) ≡ length (term_text names t) + ((if b then 2 else 0) + 1)
    by true = let a = length-append (term_text names t) (codes ")") in let b : length (codes ")") ≡ 1 = refl in omega arith
    by false = omega arith

pub cons_length_is : (b : Bool) (x y : List ℕ) → length (bracket_if b x ++ codes "::" ++ y) ≡ (length x + ((if b then 2 else 0) + 2)) + length y
cons_length_is true x y =
    let a = length-append (bracket_if true x ++ codes "::") y in let c = length-append (bracket_if true x) (codes "::") in
    let d = length-append x (codes ")") in
    let e : length (codes ")") ≡ 1 = refl in let f : length (codes "::") ≡ 2 = refl in
    let g : length (bracket_if true x) ≡ suc (length (x ++ codes ")")) = refl in omega arith
cons_length_is false x y = let a = length-append (x ++ codes "::") y in let c = length-append x (codes "::") in let f : length (codes "::") ≡ 2 = refl in
    omega arith

-- one length more
pub lengths_more : (names : List (List ℕ)) (bank : Nodes) (lengths : List Length) (l : Length) → AreLengths names bank lengths
    → length lengths < length bank.terms
    → IsLength names (term_tree bank (length lengths)) l → AreLengths names bank (lengths ++ l ∷ [])
lengths_more names bank lengths l a m h = record {
  inside = let e = length_push lengths l in omega arith;
  each = λ at d n. elim (cases_lt at (length lengths)) [
    | inl k ↦ subst (IsLength names (term_tree bank at)) (sym (get_or-append lengths (l ∷ []) d at k)) (a.each at d k)
    | inr k ↦
        let e : length lengths ≡ at = (let q = length_push lengths l in omega arith) in
        subst (IsLength names (term_tree bank at)) (sym (get_or_push lengths l d at e)) (subst (λ i. IsLength names (term_tree bank i) l) e h)
  ];
}

-- ---- sums that are cut

pub cons_sum : (names : List (List ℕ)) (x y : Term) (p q k s u : ℕ) (b : Bool) → p ≡ cut_count (length (term_text names x))
    → q ≡ cut_count (length (term_text names y)) → b ≡ is_cons names x
    → k ≡ (if b then 2 else 0) → s ≡ min (p + (k + 2)) 18446744073709551615 → u ≡ min (s + q) 18446744073709551615
    → u ≡ cut_count (length (bracket_if (is_cons names x) (term_text names x) ++ codes "::" ++ term_text names y))
cons_sum names x y p q k s u b e f c g h i =
    cut_twice (length (term_text names x)) (length (term_text names y)) p q k s u
    (length (bracket_if (is_cons names x) (term_text names x) ++ codes "::" ++ term_text names y)) e f
    (cons_length_is (is_cons names x) (term_text names x) (term_text names y)
    ∙ ap (λ z. (length (term_text names x) + (z + 2)) + length (term_text names y)) (ap (λ z. if z then 2 else 0) (sym c) ∙ sym g)) h i
  where
    cut_twice : (m n p q k s u all : ℕ) → p ≡ min m 18446744073709551615 → q ≡ min n 18446744073709551615 → all ≡ (m + (k + 2)) + n
        → s ≡ min (p + (k + 2)) 18446744073709551615
        → u ≡ min (s + q) 18446744073709551615 → u ≡ min all 18446744073709551615
    cut_twice m n p q k s u all e f a h i = omega arith

pub field_sum : (names : List (List ℕ)) (t : Term) (p k s : ℕ) → p ≡ cut_count (length (term_text names t)) → k ≡ (if has_arguments t then 2 else 0)
    → s ≡ min (p + (k + 1)) 18446744073709551615
    → s ≡ cut_count (length (term_field names t))
field_sum names t p k s e g h = cut_once (length (term_text names t)) p k s (length (term_field names t)) e
    (field_length_is names t ∙ ap (λ z. length (term_text names t) + (z + 1)) (sym g)) h
  where
    cut_once : (m p k s all : ℕ) → p ≡ min m 18446744073709551615 → all ≡ m + (k + 1) → s ≡ min (p + (k + 1)) 18446744073709551615
        → s ≡ min all 18446744073709551615
    cut_once m p k s all e a h = omega arith

pub total_more : (f : At → List ℕ) (xs : List At) (i : ℕ) (d : At) (start total part next : ℕ) → i < length xs
    → total ≡ cut_count (start + length (flat_map f (take i xs))) → part ≡ cut_count (length (f (get_or xs i d)))
    → next ≡ min (total + part) 18446744073709551615 → next ≡ cut_count (start + length (flat_map f (take (i + 1) xs)))
total_more f xs i d start total part next l e g h =
    cut_more (start + length (flat_map f (take i xs))) (length (f (get_or xs i d))) total part next (start + length (flat_map f (take (i + 1) xs))) e g
    (ap (λ t. start + length t) (ap (λ j. flat_map f (take j xs)) (let z : i + 1 ≡ suc i = omega arith in z) ∙ parts_more f xs i d l)
    ∙ (let a = length-append (flat_map f (take i xs)) (f (get_or xs i d)) in omega arith)) h
  where
    cut_more : (m n p q u all : ℕ) → p ≡ min m 18446744073709551615 → q ≡ min n 18446744073709551615 → all ≡ m + n → u ≡ min (p + q) 18446744073709551615
        → u ≡ min all 18446744073709551615
    cut_more m n p q u all e f a h = omega arith

-- ---- the length of a term by its parts

pub leaf_is : (names : List (List ℕ)) (t : Term) (n : ℕ) (out : List ℕ) → has_arguments t ≡ false → out ≡ term_text names t → n ≡ length out
    → n < 18446744073709551616 → IsLength names t (record { bytes = n; is_cons = false })
leaf_is names t n out has e f l = record { bytes = let a = ap length e in omega arith; cons = by t has }
  where
    by : (t : Term) → has_arguments t ≡ false → false ≡ is_cons names t
    by (Var x) h = refl
    by (Int z) h = refl
    by (Con k) h = refl
    by (Ap f a) h = absurd (true≢false h)

pub pair_is : (names : List (List ℕ)) (h : Head) (x y t : Term) (n : ℕ) → t ≡ app h (x ∷ y ∷ []) → is_cons_head names h ≡ true
    → n ≡ cut_count (length (bracket_if (is_cons names x) (term_text names x) ++ codes "::" ++ term_text names y))
    → IsLength names t (record { bytes = n; is_cons = true })
pair_is names h x y t n is c e = record {
  bytes = e ∙ ap (λ u. cut_count (length u)) (sym (cons_text names h x y c) ∙ ap (term_text names) (sym is));
  cons = sym (ap (is_cons names) is ∙ c);
}

pub spine_is : (names : List (List ℕ)) (h : Head) (ts : List Term) (t : Term) (start n : ℕ) → t ≡ app h ts → (eqb (length ts) 2 && is_cons_head names h) ≡ false
    → start ≡ length (head_text names h)
    → n ≡ cut_count (start + length (flat_map (term_field names) ts)) → IsLength names t (record { bytes = n; is_cons = false })
spine_is names h ts t start n is c s e = record {
  bytes = e ∙ (ap (λ k. cut_count (k + length (flat_map (term_field names) ts))) s
      ∙ ap cut_count (app_length names h ts c ∙ ap (λ u. length (term_text names u)) (sym is)));
  cons = sym (ap (is_cons names) is ∙ (is_cons-app names h ts ∙ c));
}

-- a version that is not the first is the second
pub is_second : (v : ℕ) → (v ≡ 1) ⊎ (v ≡ 2) → v ≢ 1 → v ≡ 2
is_second v (inl e) n = absurd (n e)
is_second v (inr e) n = e
