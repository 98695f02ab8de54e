-- The faults that reading comes to.
use Rattle.std.proofs.Common.{◌≡◌, ℕ, suc, ◌+◌, ◌-◌, ◌<◌, List, [], ◌∷◌, length, map, refl, ap, sym, subst, ◌∙◌, arith, codes, Option, None}
use Rattle.std.proofs.lemmas.List.{length-map}
use Rattle.ll_bank.specs.declared.At.{At}
use Rattle.ll_bank.specs.Nodes.{term_tree, term_trees}
use Rattle.ll_laws.specs.ShownLines.{line_of}
use Rattle.ll_lexer.specs.declared.Place.{Place}
use Rattle.ll_lexer.specs.declared.TextFault.{TextFault}
use Rattle.ll_lexer.specs.Reading.{place_at}
use Rattle.ll_prooftext.specs.declared.rows.Refusal.{Refusal}
use Rattle.ll_prooftext.specs.declared.rows.Refusal.TheVariants as refusal
use Rattle.ll_prooftext.specs.declared.reader.TextLine.{TextLine}
use Rattle.ll_prooftext.specs.declared.reader.Lines.{Lines}
use Rattle.ll_prooftext.specs.declared.reader.Reading.{Reading}
use Rattle.ll_prooftext.specs.Reading.{text_lines, is_none, Want, want, first_word, HasBadField, Begins, HasNoVersion, HasFault, version, unknown_word}
use Rattle.ll_prooftext.specs.Reading.{bad_field, nodes_missing, left_over, IsCause}
use Rattle.ll_prooftext.specs.RowWords.{bad_column, IsRefused}
use Rattle.ll_prooftext.specs.Reader.{fault_at, refused_fault, IsWithin, end_from, TakesLine}
use Rattle.ll_prooftext.proofs.reading.SoFar.{IsSoFar, its_number}
use Rattle.ll_prooftext.proofs.reading.Whole.{so_far_begins}

pub no_version_cause : (text : List ℕ) (x : TextFault) → HasNoVersion (codes "proof 1") (text_lines text) → x ≡ fault_at 1 1 14 → IsCause text x
no_version_cause text x h e = subst (IsCause text) (sym e) (version h)

pub same_none : {X Y : Type 0} (f : X → Y) (xs : List X) → is_none (map f xs) ≡ is_none xs
same_none f [] = refl
same_none f (x ∷ xs) = refl

module _ (text : List ℕ) (old names : List (List ℕ)) (o : Reading) (p : Lines) (line : TextLine) (q : Lines) (s : IsSoFar text old names o p)
    (t : TakesLine p line q) where
  abbrev begun : (k : ℕ) → o.lacking ≡ k → Begins (text_lines text) (line.bytes.now ∷ text_lines q.rest.now) k
  begun k l = so_far_begins text old names o p (line.bytes.now ∷ text_lines q.rest.now) k s t.lines l

  number_is : line.number ≡ length (term_trees o.bank o.asked.items) + length (map (line_of o.bank) o.nodes.items) + 2
  number_is =
      its_number text old names o p q line s t
      ∙ (ap (λ z. z + length o.nodes.items + 2) (sym (length-map o.asked.items (λ (a : At). term_tree o.bank a.0)))
      ∙ ap (λ z. length (term_trees o.bank o.asked.items) + z + 2) (sym (length-map o.nodes.items (line_of o.bank))))

  pub left_cause : (x : TextFault) → o.lacking ≡ 0 → x ≡ fault_at line.number 1 16 → IsCause text x
  left_cause x l e = subst (IsCause text) (sym (e ∙ ap (λ n. fault_at n 1 16) number_is)) (left_over line.bytes.now (text_lines q.rest.now) (begun 0 l))

  word_fault : (k : ℕ) → o.lacking ≡ suc k → want (is_none o.nodes.items) (first_word line.bytes.now) ≡ None
      → HasFault text (record {
        at = record { line = length (term_trees o.bank o.asked.items) + length (map (line_of o.bank) o.nodes.items) + 2; column = 1 };
        kind = 13;
      })
  word_fault k l h = unknown_word line.bytes.now (text_lines q.rest.now) k (begun (suc k) l)
      (ap (λ b. want b (first_word line.bytes.now)) (same_none (line_of o.bank) o.nodes.items) ∙ h)

  field_fault : (k column : ℕ) → o.lacking ≡ suc k → HasBadField (want (is_none o.nodes.items)) line.bytes.now column
      → HasFault text (record {
        at = record {
          line = length (term_trees o.bank o.asked.items) + length (map (line_of o.bank) o.nodes.items) + 2;
          column =
              column;
        };
        kind = 14;
      })
  field_fault k column l h = bad_field line.bytes.now (text_lines q.rest.now) k column (begun (suc k) l)
      (subst (λ b. HasBadField (want b) line.bytes.now column) (sym (same_none (line_of o.bank) o.nodes.items)) h)

  refused : (y : Refusal) → 0 < o.lacking → IsRefused (want (is_none o.nodes.items)) line.bytes.now y
      → IsCause text (refused_fault line.number (length line.bytes.now) y)
  refused refusal.Word l h = subst (λ n. IsCause text (fault_at n 1 13)) (sym number_is) (word_fault (o.lacking - 1) (omega arith) h)
  refused (refusal.Field left) l h = subst (λ n. IsCause text (fault_at n (bad_column (length line.bytes.now) left) 14)) (sym number_is)
      (field_fault (o.lacking - 1) (bad_column (length line.bytes.now) left) (omega arith) h.bad)
  refused refusal.OutOfMemory l h = tt

  pub refused_cause : (y : Refusal) (x : TextFault) → 0 < o.lacking → IsRefused (want (is_none o.nodes.items)) line.bytes.now y
      → x ≡ refused_fault line.number (length line.bytes.now) y → IsCause text x
  refused_cause y x l h e = subst (IsCause text) (sym e) (refused y l h)

pub refused_within : (wants : List ℕ → Option Want) (bytes : List ℕ) (y : Refusal) → IsRefused wants bytes y → IsWithin (length bytes) y
refused_within wants bytes refusal.Word h = tt
refused_within wants bytes (refusal.Field left) h = h.within
refused_within wants bytes refusal.OutOfMemory h = tt

pub missing_cause : (text : List ℕ) (old names : List (List ℕ)) (o : Reading) (p : Lines) (at : Place) (x : TextFault) → IsSoFar text old names o p
    → p.rest.now ≡ [] → at ≡ p.at → 0 < o.lacking → x ≡ fault_at at.line at.column 15 → IsCause text x
missing_cause text old names o p at x s r a l e =
    let place : at ≡ place_at text (length text) = a ∙ (ap (λ z. end_from p.at z) (sym r) ∙ s.end) in
    let fault : IsCause text (fault_at (place_at text (length text)).line (place_at text (length text)).column 15) =
    nodes_missing (o.lacking - 1) (so_far_begins text old names o p [] (suc (o.lacking - 1)) s (ap text_lines r) (omega arith)) in
    subst (IsCause text) (sym (e ∙ ap (λ (z : Place). fault_at z.line z.column 15) place)) fault
