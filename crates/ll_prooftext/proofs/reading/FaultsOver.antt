-- What reading over a table comes to: a derivation, or the faults.
use Rattle.std.proofs.Common.{◌≡◌, ◌≢◌, ℕ, zero, suc, ◌+◌, ◌-◌, ◌<◌, ◌≤◌, List, [], ◌∷◌, ◌++◌, length, take, map, All, refl, ap, sym, subst, ◌∙◌, arith, codes}
use Rattle.std.proofs.Common.{Option, Some, None, inl, inr, true≢false, MatchOption}
use Rattle.std.specs.Prelude.{◌⊎◌, ◌&&◌}
use Rattle.std.specs.List.{IsDistinct, flat_map, slice_get}
use Rattle.std.specs.Str.{bytes_eq}
use Rattle.std.proofs.lemmas.List.{length-map, take_all}
use Rattle.std.proofs.lemmas.Option.{slice_get_within}
use Rattle.ll_list_laws.proofs.CallerLemmas.{All-slice_get as there}
use Rattle.ll_bank.specs.declared.At.{At}
use Rattle.ll_bank.specs.Names.{with_names}
use Rattle.ll_bank.specs.Term.{Term}
use Rattle.ll_bank.specs.Nodes.{Nodes, term_tree, term_trees}
use Rattle.ll_laws.specs.Output.{line as with_end}
use Rattle.ll_laws.specs.ShownLines.{line_of}
use Rattle.ll_lexer.specs.declared.Place.{Place}
use Rattle.ll_lexer.specs.declared.TextFault.{TextFault}
use Rattle.ll_lexer.specs.Reading.{place_at}
use Rattle.ll_prooftext.specs.declared.rows.Refusal.{Refusal}
use Rattle.ll_prooftext.specs.declared.rows.Refusal.TheVariants as refusal
use Rattle.ll_prooftext.specs.declared.reader.TextLine.{TextLine}
use Rattle.ll_prooftext.specs.declared.reader.Lines.{Lines}
use Rattle.ll_prooftext.specs.declared.shared_reader.Sharing.{Sharing}
use Rattle.ll_prooftext.specs.declared.table.Table.{Table}
use Rattle.ll_prooftext.specs.Mentions.{line_names, text_names}
use Rattle.ll_prooftext.specs.Reading.{Want, text_lines, is_none, HasNoVersion}
use Rattle.ll_prooftext.specs.Reading2.{IsText2Of, IsOff, BeginsOver, version2, unknown_word2, bad_field2, nodes_missing2, left_over2, off_table, IsCause2}
use Rattle.ll_prooftext.specs.RowWords.{bad_column, IsRefused}
use Rattle.ll_prooftext.specs.Reader.{fault_at, refused_fault, end_from, TakesLine}
use Rattle.ll_prooftext.specs.SharedLines.{want_over}
use Rattle.ll_prooftext.specs.SharedReader.{rows_of, derivation_of, AreInPlace, IsFirstOff, AreFirstRows}
use Rattle.ll_prooftext.specs.Short.{rule_places}
use Rattle.ll_prooftext.specs.Table.{completed, rows_in, table, field_terms}
use Rattle.ll_prooftext.specs.Tables.{HasNumberAt, row_at, IsRowOf, IsTableOf}
use Rattle.ll_prooftext.specs.ProofText2.{proof_text2}
use Rattle.ll_prooftext.proofs.reading.Faults.{same_none}
use Rattle.ll_prooftext.proofs.spelling.Kept.{grows_none}
use Rattle.ll_prooftext.proofs.reading.LinesRead.{lines_back}
use Rattle.ll_prooftext.proofs.tabling.RowsInPlace.{AreOnce, table_once, there_among, row_there, table_among, rows_whole, lines_text}
use Rattle.ll_prooftext.proofs.writing.ShortLines.{fields_of}
use Rattle.ll_prooftext.proofs.reading.SoFarOver.{IsSoFarOver, line_number}
use Rattle.ll_prooftext.proofs.reading.Whole.{terms_closed, terms_spelled, rules_ordered, rules_spelled, one_tree}

-- ---- faults

pub no_version2_cause : (text : List ℕ) (x : TextFault) → HasNoVersion (codes "proof 2") (text_lines text) → x ≡ fault_at 1 1 14 → IsCause2 text x
no_version2_cause text x h e = subst (IsCause2 text) (sym e) (version2 h)

abbrev pub over_begins : (text : List ℕ) (old names : List (List ℕ)) (o : Sharing) (p : Lines) (rest : List (List ℕ)) (k : ℕ) → IsSoFarOver text old names o p
    → text_lines p.rest.now ≡ rest → o.lacking ≡ k → BeginsOver (text_lines text) rest k
over_begins text old names o p rest k s r l = record {
  names = names;
  rows = rows_of o;
  asked = term_trees o.bank o.asked.items;
  nodes = map (line_of o.bank) o.nodes.items;
  shares = s.shares;
  lets = s.lets;
  steps = s.steps;
  is = s.lines ∙ ap (λ z. codes "proof 2" ∷ (s.shares ++ (s.lets ++ (s.steps ++ z)))) r;
  are_rows = s.are_rows names (grows_none names);
  are_asked = s.are_asked names (grows_none names);
  are_nodes = s.are_nodes names (grows_none names);
  closed = terms_closed names o.bank o.asked.items s.asked;
  ordered = rules_ordered names o.bank o.nodes.items s.nodes;
  spelled_rows = terms_spelled names o.bank o.rows.items s.rows;
  spelled_terms = terms_spelled names o.bank o.asked.items s.asked;
  spelled_nodes = rules_spelled names o.bank o.nodes.items s.nodes;
  still = s.still ∙ ap (λ z. Some z) l;
}

module _ (text : List ℕ) (old names : List (List ℕ)) (o : Sharing) (p : Lines) (line : TextLine) (q : Lines) (s : IsSoFarOver text old names o p)
    (t : TakesLine p line q) where
  abbrev begun : (k : ℕ) → o.lacking ≡ k → BeginsOver (text_lines text) (line.bytes.now ∷ text_lines q.rest.now) k
  begun k l = over_begins text old names o p (line.bytes.now ∷ text_lines q.rest.now) k s t.lines l

  abbrev number : ℕ
  number = length (rows_of o) + length (term_trees o.bank o.asked.items) + length (map (line_of o.bank) o.nodes.items) + 2

  number_is : line.number ≡ number
  number_is =
      let n = line_number text old names o p q line s t in
      let a = length-map o.rows.items (λ (a : At). term_tree o.bank a.0) in
      let b = length-map o.asked.items (λ (a : At). term_tree o.bank a.0) in
      let c = length-map o.nodes.items (line_of o.bank) in
      omega arith

  abbrev wants : List ℕ → Option Want
  wants = want_over (length o.rows.items) (is_none o.asked.items && is_none o.nodes.items) (is_none o.nodes.items)

  abbrev wants_there : List ℕ → Option Want
  wants_there = want_over (length (rows_of o)) (is_none (term_trees o.bank o.asked.items) && is_none (map (line_of o.bank) o.nodes.items))
      (is_none (map (line_of o.bank) o.nodes.items))

  wants_same : wants ≡ wants_there
  wants_same =
      ap (λ n. want_over n (is_none o.asked.items && is_none o.nodes.items) (is_none o.nodes.items))
      (sym (length-map o.rows.items (λ (a : At). term_tree o.bank a.0)))
      ∙ (ap (λ b. want_over (length (rows_of o)) (b && is_none o.nodes.items) (is_none o.nodes.items))
      (sym (same_none (λ (a : At). term_tree o.bank a.0) o.asked.items))
      ∙ ap (λ b. want_over (length (rows_of o)) (is_none (term_trees o.bank o.asked.items) && b) b) (sym (same_none (line_of o.bank) o.nodes.items)))

  pub left_over_cause : (x : TextFault) → o.lacking ≡ 0 → x ≡ fault_at line.number 1 16 → IsCause2 text x
  left_over_cause x l e = subst (IsCause2 text) (sym (e ∙ ap (λ n. fault_at n 1 16) number_is)) (left_over2 line.bytes.now (text_lines q.rest.now) (begun 0 l))

  refused_there : (y : Refusal) → 0 < o.lacking → IsRefused wants_there line.bytes.now y → IsCause2 text (refused_fault line.number (length line.bytes.now) y)
  refused_there refusal.Word l h = subst (λ n. IsCause2 text (fault_at n 1 13)) (sym number_is)
      (unknown_word2 line.bytes.now (text_lines q.rest.now) (o.lacking - 1) (begun (suc (o.lacking - 1)) (omega arith)) h)
  refused_there (refusal.Field left) l h = subst (λ n. IsCause2 text (fault_at n (bad_column (length line.bytes.now) left) 14)) (sym number_is)
      (bad_field2 line.bytes.now (text_lines q.rest.now) (o.lacking - 1) (bad_column (length line.bytes.now) left) (begun (suc (o.lacking - 1)) (omega arith))
      h.bad)
  refused_there refusal.OutOfMemory l h = tt

  pub refused_over_cause : (y : Refusal) (x : TextFault) → 0 < o.lacking → IsRefused wants line.bytes.now y
      → x ≡ refused_fault line.number (length line.bytes.now) y → IsCause2 text x
  refused_over_cause y x l h e = subst (IsCause2 text) (sym e) (refused_there y l (subst (λ ws. IsRefused ws line.bytes.now y) wants_same h))

pub missing_over_cause : (text : List ℕ) (old names : List (List ℕ)) (o : Sharing) (p : Lines) (at : Place) (x : TextFault) → IsSoFarOver text old names o p
    → p.rest.now ≡ [] → at ≡ p.at → 0 < o.lacking → x ≡ fault_at at.line at.column 15 → IsCause2 text x
missing_over_cause text old names o p at x s r a l e =
    let place : at ≡ place_at text (length text) = a ∙ (ap (λ z. end_from p.at z) (sym r) ∙ s.end) in
    let fault : IsCause2 text (fault_at (place_at text (length text)).line (place_at text (length text)).column 15) =
    nodes_missing2 (o.lacking - 1) (over_begins text old names o p [] (suc (o.lacking - 1)) s (ap text_lines r) (omega arith)) in
    subst (IsCause2 text) (sym (e ∙ ap (λ (z : Place). fault_at z.line z.column 15) place)) fault

pub off_cause : (text : List ℕ) (old names : List (List ℕ)) (o : Sharing) (p : Lines) (k : ℕ) (x : TextFault) → IsSoFarOver text old names o p → p.rest.now ≡ []
    → o.lacking ≡ 0 → IsDistinct bytes_eq names → IsOff (rows_of o) (derivation_of o) k → x ≡ fault_at (k + 2) 1 18 → IsCause2 text x
off_cause text old names o p k x s r l d h e = subst (IsCause2 text) (sym e) (off_table k (over_begins text old names o p [] 0 s (ap text_lines r) l) d h)

-- the number of such a row
pub off_few : (text : List ℕ) (old names : List (List ℕ)) (o : Sharing) (p : Lines) (k : ℕ) → IsSoFarOver text old names o p
    → IsOff (rows_of o) (derivation_of o) k → k < length text
off_few text old names o p k s h = let m = s.many in let w = h.within in let l = length-map o.rows.items (λ (a : At). term_tree o.bank a.0) in omega arith

-- ---- the text of a derivation

pub text2_read : (text : List ℕ) (old names : List (List ℕ)) (o : Sharing) (p : Lines) → IsSoFarOver text old names o p → p.rest.now ≡ [] → o.lacking ≡ 0
    → AreFirstRows (rows_of o) (derivation_of o) → IsText2Of names text (derivation_of o)
text2_read text old names o p s r l f =
    let d = derivation_of o in
    let b = over_begins text old names o p [] 0 s (ap text_lines r) l in
    let tree = one_tree (map (line_of o.bank) o.nodes.items) b.still in
    let whole : rows_of o ≡ table d = rows_whole (rows_of o) (table d) (table_once d)
    (table_among names (rows_of o) d s.shares s.lets s.steps b.are_rows b.are_asked b.are_nodes) f in
    let all : flat_map with_end (text_lines text) ≡ proof_text2 names d =
    ap (flat_map with_end) b.is ∙ lines_text names (rows_of o) d s.shares s.lets s.steps whole b.are_rows b.are_asked b.are_nodes in
    record {
      spelled = record {
        whole = record { tree = tree.tree; is_tree = tree.is; asked = b.closed; nodes = b.ordered };
        asked = b.spelled_terms;
        nodes = b.spelled_nodes;
      };
      is = by_end all (lines_back text);
    }
  where
    by_end : flat_map with_end (text_lines text) ≡ proof_text2 names (derivation_of o)
        → (text ≡ flat_map with_end (text_lines text)) ⊎ (text ++ 10 ∷ [] ≡ flat_map with_end (text_lines text))
        → (text ≡ proof_text2 names (derivation_of o)) ⊎ (text ++ 10 ∷ [] ≡ proof_text2 names (derivation_of o))
    by_end e (inl f) = inl (f ∙ e)
    by_end e (inr f) = inr (f ∙ e)

pub names2_read : (text : List ℕ) (old names : List (List ℕ)) (o : Sharing) (p : Lines) → IsSoFarOver text old names o p → p.rest.now ≡ []
    → names ≡ with_names old (text_names text)
unfolding text_names
names2_read text old names o p s r = sym (s.names_on ∙ ap (λ z. with_names names (flat_map line_names (text_lines z))) r)

-- ---- rows in place

in_place : (bank : Nodes) (t : Table) (rows : List Term) (at k : ℕ) → IsTableOf bank t rows → HasNumberAt t at → row_at t at ≡ Some k
    → slice_get rows k ≡ Some (term_tree bank at)
in_place bank t rows at k h n e =
    let r : IsRowOf rows (term_tree bank at) (Some k) = subst (IsRowOf rows (term_tree bank at)) e (h.numbered at n.inside) in
    ap (slice_get rows) (sym r.1) ∙ row_there rows (term_tree bank at) r.0

its_row : (bank : Nodes) (t : Table) (rows : List Term) (at k : ℕ) → AreOnce rows → IsTableOf bank t rows → HasNumberAt t at
    → slice_get rows k ≡ Some (term_tree bank at) → row_at t at ≡ Some k
its_row bank t rows at k once h n e = by (row_at t at) (h.numbered at n.inside)
  where
    by : (r : Option ℕ) → IsRowOf rows (term_tree bank at) r → r ≡ Some k
    by None f = absurd (true≢false (sym (there_among rows k (term_tree bank at) e) ∙ f))
    by (Some j) f = ap (λ z. Some z) (sym f.1 ∙ once k (term_tree bank at) e)

take_same : (n : ℕ) (xs ys : List Term) → ((j : ℕ) → j < n → slice_get xs j ≡ slice_get ys j) → take n xs ≡ take n ys
take_same zero xs ys h = refl
take_same (suc n) [] [] h = refl
take_same (suc n) [] (y ∷ ys) h = let q : None ≡ Some y = h 0 (omega arith) in absurd cc
take_same (suc n) (x ∷ xs) [] h = let q : Some x ≡ None = h 0 (omega arith) in absurd cc
take_same (suc n) (x ∷ xs) (y ∷ ys) h =
    let q : Some x ≡ Some y = h 0 (omega arith) in
    let a : x ≡ y = cc in
    let b = take_same n xs ys (λ j l. h (suc j) (omega arith)) in
    cc

place_there : (rows : List At) (j : ℕ) → j < length rows → (a : At) × (slice_get rows j ≡ Some a)
place_there [] j l = absurd (omega arith)
place_there (a ∷ rows) zero l = (a, refl)
place_there (a ∷ rows) (suc j) l = place_there rows j (omega arith)

tree_at : (bank : Nodes) (rows : List At) (k : ℕ) (a : At) → slice_get rows k ≡ Some a → slice_get (term_trees bank rows) k ≡ Some (term_tree bank a.0)
tree_at bank [] k a e = absurd cc
tree_at bank (x ∷ rows) zero a e = ap (λ (b : At). Some (term_tree bank b.0)) (let q : x ≡ a = cc in q)
tree_at bank (x ∷ rows) (suc k) a e = tree_at bank rows k a e

module _ (bank : Nodes) (t : Table) (rows : List At) (all : List Term) (h : IsTableOf bank t all) (n : All (λ (a : At). HasNumberAt t a.0) rows) where
  same_before : (k : ℕ) → k ≤ length rows → AreInPlace t rows k → take k (term_trees bank rows) ≡ take k all
  same_before k l p = take_same k (term_trees bank rows) all (λ j b.
      let a = place_there rows j (omega arith) in
      tree_at bank rows j a.0 a.1 ∙ sym (in_place bank t all a.0.0 j h (there (λ (a : At). HasNumberAt t a.0) rows j a.0 n a.1) (p j a.0 b a.1)))

  all_first : AreInPlace t rows (length rows) → term_trees bank rows ≡ take (length (term_trees bank rows)) all
  all_first p =
      let l = length-map rows (λ (a : At). term_tree bank a.0) in
      sym (take_all (length (term_trees bank rows)) (term_trees bank rows) (omega arith))
      ∙ (ap (λ k. take k (term_trees bank rows)) l ∙ (same_before (length rows) (omega arith) p ∙ ap (λ k. take k all) (sym l)))

  one_off : AreOnce all → (k : ℕ) → IsFirstOff t rows k → (k < length (term_trees bank rows))
      × ((take k (term_trees bank rows) ≡ take k all) × (slice_get (term_trees bank rows) k ≢ slice_get all k))
  one_off once k f =
      let b = slice_get_within rows k f.at f.is in
      let l = length-map rows (λ (a : At). term_tree bank a.0) in (
        omega arith,
        (
          same_before k (omega arith) f.before,
          λ e.
              f.off (its_row bank t all f.at.0 k once h (there (λ (a : At). HasNumberAt t a.0) rows k f.at n f.is) (sym e ∙ tree_at bank rows k f.at f.is)),
        ),
      )

-- what is found of the rows, told of the table
pub off_found : (o : Sharing) (t : Table) (fields : List At) (r : Option ℕ) → fields ≡ o.asked.items ++ flat_map rule_places o.nodes.items
    → IsTableOf o.bank t (rows_in (flat_map completed (term_trees o.bank fields))) → All (λ (a : At). HasNumberAt t a.0) o.rows.items
    → MatchOption r (AreInPlace t o.rows.items (length o.rows.items)) (IsFirstOff t o.rows.items)
    → MatchOption r (AreFirstRows (rows_of o) (derivation_of o)) (IsOff (rows_of o) (derivation_of o))
unfolding table
off_found o t fields r e h n m = by r m
  where
    whole : IsTableOf o.bank t (rows_in (flat_map completed (field_terms (derivation_of o))))
    whole = subst (λ ts. IsTableOf o.bank t (rows_in (flat_map completed ts))) (ap (term_trees o.bank) e ∙ fields_of o.bank o.asked.items o.nodes.items) h

    by : (r : Option ℕ) → MatchOption r (AreInPlace t o.rows.items (length o.rows.items)) (IsFirstOff t o.rows.items)
        → MatchOption r (AreFirstRows (rows_of o) (derivation_of o)) (IsOff (rows_of o) (derivation_of o))
    by None p = all_first o.bank t o.rows.items (rows_in (flat_map completed (field_terms (derivation_of o)))) whole n p
    by (Some k) f = let x = one_off o.bank t o.rows.items (rows_in (flat_map completed (field_terms (derivation_of o)))) whole n (table_once (derivation_of o))
        k f in record { within = x.0; same = x.1.0; off = x.1.1 }
