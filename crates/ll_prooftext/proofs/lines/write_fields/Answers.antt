use Rattle.ll_prooftext.proofs.writing.Signs.{fieldless}
use Rattle.std.proofs.lemmas.Result.{IfOk-from_err}
use Rattle.std.proofs.Common.{◌≡◌, ℕ, List, ◌++◌, map, refl, ap, sym, ◌∙◌, append-nil, decimal, Vec, Global}
use Rattle.std.specs.List.{flat_map}
use Rattle.ll_bank.specs.Nodes.{Nodes, term_trees}
use Rattle.ll_bank.specs.declared.At.{At}
use Rattle.ll_laws.specs.declared.Part.{Part}
use Rattle.ll_laws.specs.declared.Rule.{Rule}
use Rattle.ll_laws.specs.declared.Rule.TheVariants.{Clause}
use Rattle.ll_laws.specs.ProofText.{field, set_text, term_field, part_field}
use Rattle.ll_laws.specs.ShownLines.{line_of, part_line}
use Rattle.ll_prooftext.specs.Rows.{fields_text}
use Rattle.ll_printer.proofs.CallerLemmas.{begins_before, begins_same}
use Rattle.ll_prooftext.proofs.writing.Writing.{both_text, both_stopped, both_whole}
use Rattle.ll_prooftext.proofs.lines.write_fields.Goals as goal

-- the texts of a clause's four fields
record ClauseTexts (text : List ℕ) : Type 0 where
  label : List ℕ
  leaf : List ℕ
  terms : List ℕ
  parts : List ℕ
  is : text ≡ label ++ (leaf ++ (terms ++ parts))

clause_fields : {node : Rule} {label leaf : ℕ} {terms : Vec At Global} {parts : Vec Part Global} {ts : List At} {ps : List Part} (names : List (List ℕ))
    (bank : Nodes) → node ≡ Clause label leaf terms parts → ts ≡ terms.items → ps ≡ parts.items
    → fields_text names (line_of bank node)
    ≡ field (decimal label) ++ (field (decimal leaf) ++ (flat_map (term_field names) (term_trees bank ts) ++ flat_map part_field (map part_line ps)))
clause_fields {label} {leaf} {parts} {ts} names bank is e f =
    let before = λ (us qs : List ℕ). field (decimal label) ++ (field (decimal leaf) ++ (us ++ qs)) in
    ap (λ (r : Rule). fields_text names (line_of bank r)) is
    ∙ (ap (λ (xs : List At). before (flat_map (term_field names) (term_trees bank xs)) (flat_map part_field (map part_line parts.items))) (sym e)
    ∙ ap (λ (xs : List Part). before (flat_map (term_field names) (term_trees bank ts)) (flat_map part_field (map part_line xs))) (sym f))

abbrev clause_texts : {node : Rule} {label leaf : ℕ} {terms : Vec At Global} {parts : Vec Part Global} {ts : List At} {ps : List Part}
    (names : List (List ℕ)) (bank : Nodes) → node ≡ Clause label leaf terms parts → ts ≡ terms.items → ps ≡ parts.items
    → ClauseTexts (fields_text names (line_of bank node))
clause_texts {label} {leaf} {ts} {ps} names bank is e f = record {
  label = field (decimal label);
  leaf = field (decimal leaf);
  terms = flat_map (term_field names) (term_trees bank ts);
  parts = flat_map part_field (map part_line ps);
  is = clause_fields names bank is e f;
}

pub returns-in_err-write_set_field-in-Tensor-clause-begun : goal.returns-in_err-write_set_field-in-Tensor-clause-begun
returns-in_err-write_set_field-in-Tensor-clause-begun c =
    begins_before (field (set_text c.deref.result.now)) (field (set_text c.in-Tensor.second.items)) _ c.args.out.now.items c.write_set_field.new.out.items
    (ap (λ (r : Rule). fields_text c.args.names.now (line_of c.args.bank.now r)) c.in-Tensor.is
    ∙ ap (λ (s : List ℕ). field (set_text s) ++ field (set_text c.in-Tensor.second.items)) (sym c.deref.ensures.value))
    c.write_set_field.ensures.begun

pub returns-in_err-write_set_field-in-Tensor-2-clause-begun : goal.returns-in_err-write_set_field-in-Tensor-2-clause-begun
returns-in_err-write_set_field-in-Tensor-2-clause-begun c =
    both_stopped (field (set_text c.deref.result.now)) (field (set_text c.deref-in-Tensor.result.now)) _ c.args.out.now.items c.write_set_field.new.out.items
    c.write_set_field-in-Tensor.new.out.items
    (ap (λ (r : Rule). fields_text c.args.names.now (line_of c.args.bank.now r)) c.in-Tensor.is
    ∙ (ap (λ (s : List ℕ). field (set_text s) ++ field (set_text c.in-Tensor.second.items)) (sym c.deref.ensures.value)
    ∙ ap (λ (s : List ℕ). field (set_text c.deref.result.now) ++ field (set_text s)) (sym c.deref-in-Tensor.ensures.value)))
    c.in_ok-write_set_field-in-Tensor.ensures.text c.write_set_field-in-Tensor.ensures.begun

pub returns-in_ok-write_set_field-in-Tensor-2-clause-begun : goal.returns-in_ok-write_set_field-in-Tensor-2-clause-begun
returns-in_ok-write_set_field-in-Tensor-2-clause-begun c =
    both_whole (field (set_text c.deref.result.now)) (field (set_text c.deref-in-Tensor.result.now)) _ c.args.out.now.items c.write_set_field.new.out.items
    c.write_set_field-in-Tensor.new.out.items
    (ap (λ (r : Rule). fields_text c.args.names.now (line_of c.args.bank.now r)) c.in-Tensor.is
    ∙ (ap (λ (s : List ℕ). field (set_text s) ++ field (set_text c.in-Tensor.second.items)) (sym c.deref.ensures.value)
    ∙ ap (λ (s : List ℕ). field (set_text c.deref.result.now) ++ field (set_text s)) (sym c.deref-in-Tensor.ensures.value)))
    c.in_ok-write_set_field-in-Tensor.ensures.text c.in_ok-write_set_field-in-Tensor-2.ensures.text

pub returns-in_err-write_number_field-in-Clause-clause-begun : goal.returns-in_err-write_number_field-in-Clause-clause-begun
returns-in_err-write_number_field-in-Clause-clause-begun c =
    let f = clause_texts c.args.names.now c.args.bank.now c.in-Clause.is refl refl in
    begins_before f.label (f.leaf ++ (f.terms ++ f.parts)) _ c.args.out.now.items c.write_number_field.new.out.items f.is c.write_number_field.ensures.begun

pub returns-in_err-write_number_field-in-Clause-2-clause-begun : goal.returns-in_err-write_number_field-in-Clause-2-clause-begun
returns-in_err-write_number_field-in-Clause-2-clause-begun c =
    let f = clause_texts c.args.names.now c.args.bank.now c.in-Clause.is refl refl in
    both_stopped f.label (f.leaf ++ (f.terms ++ f.parts)) _ c.args.out.now.items c.write_number_field.new.out.items c.write_number_field-in-Clause.new.out.items
    f.is c.in_ok-write_number_field-in-Clause.ensures.text
    (begins_before f.leaf (f.terms ++ f.parts) _ c.write_number_field.new.out.items c.write_number_field-in-Clause.new.out.items refl
    c.write_number_field-in-Clause.ensures.begun)

pub returns-in_err-write_term_fields-in-Clause-clause-begun : goal.returns-in_err-write_term_fields-in-Clause-clause-begun
returns-in_err-write_term_fields-in-Clause-clause-begun c =
    let f = clause_texts c.args.names.now c.args.bank.now c.in-Clause.is c.deref-in-Clause.ensures.value refl in
    both_stopped f.label (f.leaf ++ (f.terms ++ f.parts)) _ c.args.out.now.items c.write_number_field.new.out.items c.write_term_fields.new.out.items
    f.is c.in_ok-write_number_field-in-Clause.ensures.text
    (both_stopped f.leaf (f.terms ++ f.parts) _ c.write_number_field.new.out.items c.write_number_field-in-Clause.new.out.items
    c.write_term_fields.new.out.items refl c.in_ok-write_number_field-in-Clause-2.ensures.text
    (begins_before f.terms f.parts _ c.write_number_field-in-Clause.new.out.items c.write_term_fields.new.out.items refl c.write_term_fields.ensures.begun))

pub returns-in_err-write_part_fields-in-Clause-clause-begun : goal.returns-in_err-write_part_fields-in-Clause-clause-begun
returns-in_err-write_part_fields-in-Clause-clause-begun c =
    let f = clause_texts c.args.names.now c.args.bank.now c.in-Clause.is c.deref-in-Clause.ensures.value c.deref-in-Clause-2.ensures.value in
    both_stopped f.label (f.leaf ++ (f.terms ++ f.parts)) _ c.args.out.now.items c.write_number_field.new.out.items c.write_part_fields.new.out.items
    f.is c.in_ok-write_number_field-in-Clause.ensures.text
    (both_stopped f.leaf (f.terms ++ f.parts) _ c.write_number_field.new.out.items c.write_number_field-in-Clause.new.out.items
    c.write_part_fields.new.out.items refl c.in_ok-write_number_field-in-Clause-2.ensures.text
    (both_stopped f.terms f.parts _ c.write_number_field-in-Clause.new.out.items c.write_term_fields.new.out.items c.write_part_fields.new.out.items refl
    c.in_ok-write_term_fields-in-Clause.ensures.text c.write_part_fields.ensures.begun))

pub returns-in_ok-write_part_fields-in-Clause-clause-begun : goal.returns-in_ok-write_part_fields-in-Clause-clause-begun
returns-in_ok-write_part_fields-in-Clause-clause-begun c =
    let f = clause_texts c.args.names.now c.args.bank.now c.in-Clause.is c.deref-in-Clause.ensures.value c.deref-in-Clause-2.ensures.value in
    both_stopped f.label (f.leaf ++ (f.terms ++ f.parts)) _ c.args.out.now.items c.write_number_field.new.out.items c.write_part_fields.new.out.items
    f.is c.in_ok-write_number_field-in-Clause.ensures.text
    (both_stopped f.leaf (f.terms ++ f.parts) _ c.write_number_field.new.out.items c.write_number_field-in-Clause.new.out.items
    c.write_part_fields.new.out.items refl c.in_ok-write_number_field-in-Clause-2.ensures.text
    (both_whole f.terms f.parts _ c.write_number_field-in-Clause.new.out.items c.write_term_fields.new.out.items c.write_part_fields.new.out.items refl
    c.in_ok-write_term_fields-in-Clause.ensures.text c.in_ok-write_part_fields-in-Clause.ensures.text))

pub returns-in_ok-write_part_fields-in-Clause-clause-text : goal.returns-in_ok-write_part_fields-in-Clause-clause-text
returns-in_ok-write_part_fields-in-Clause-clause-text c =
    let f = clause_texts c.args.names.now c.args.bank.now c.in-Clause.is c.deref-in-Clause.ensures.value c.deref-in-Clause-2.ensures.value in
    both_text f.label (f.leaf ++ (f.terms ++ f.parts)) _ c.args.out.now.items c.write_number_field.new.out.items c.write_part_fields.new.out.items
    f.is c.in_ok-write_number_field-in-Clause.ensures.text
    (both_text f.leaf (f.terms ++ f.parts) _ c.write_number_field.new.out.items c.write_number_field-in-Clause.new.out.items
    c.write_part_fields.new.out.items refl c.in_ok-write_number_field-in-Clause-2.ensures.text
    (both_text f.terms f.parts _ c.write_number_field-in-Clause.new.out.items c.write_term_fields.new.out.items c.write_part_fields.new.out.items refl
    c.in_ok-write_term_fields-in-Clause.ensures.text c.in_ok-write_part_fields-in-Clause.ensures.text))

pub returns-in_err-write_set_field-in-Tensor-clause-text : goal.returns-in_err-write_set_field-in-Tensor-clause-text
returns-in_err-write_set_field-in-Tensor-clause-text c = IfOk-from_err c.from_residual.result _ c.from_residual.ensures.0

pub returns-in_err-write_set_field-in-Tensor-2-clause-text : goal.returns-in_err-write_set_field-in-Tensor-2-clause-text
returns-in_err-write_set_field-in-Tensor-2-clause-text c =
    IfOk-from_err c.from_residual-in_err-write_set_field-in-Tensor-2.result _ c.from_residual-in_err-write_set_field-in-Tensor-2.ensures.0

pub returns-in_err-write_number_field-in-Clause-clause-text : goal.returns-in_err-write_number_field-in-Clause-clause-text
returns-in_err-write_number_field-in-Clause-clause-text c =
    IfOk-from_err c.from_residual-in_err-write_number_field-in-Clause.result _ c.from_residual-in_err-write_number_field-in-Clause.ensures.0

pub returns-in_err-write_number_field-in-Clause-2-clause-text : goal.returns-in_err-write_number_field-in-Clause-2-clause-text
returns-in_err-write_number_field-in-Clause-2-clause-text c =
    IfOk-from_err c.from_residual-in_err-write_number_field-in-Clause-2.result _ c.from_residual-in_err-write_number_field-in-Clause-2.ensures.0

pub returns-in_err-write_term_fields-in-Clause-clause-text : goal.returns-in_err-write_term_fields-in-Clause-clause-text
returns-in_err-write_term_fields-in-Clause-clause-text c =
    IfOk-from_err c.from_residual-in_err-write_term_fields-in-Clause.result _ c.from_residual-in_err-write_term_fields-in-Clause.ensures.0

pub returns-in_err-write_part_fields-in-Clause-clause-text : goal.returns-in_err-write_part_fields-in-Clause-clause-text
returns-in_err-write_part_fields-in-Clause-clause-text c =
    IfOk-from_err c.from_residual-in_err-write_part_fields-in-Clause.result _ c.from_residual-in_err-write_part_fields-in-Clause.ensures.0

pub returns-in_ok-write_set_field-in-Tensor-2-clause-text : goal.returns-in_ok-write_set_field-in-Tensor-2-clause-text
returns-in_ok-write_set_field-in-Tensor-2-clause-text c =
    both_text (field (set_text c.deref.result.now)) (field (set_text c.deref-in-Tensor.result.now)) _ c.args.out.now.items c.write_set_field.new.out.items
    c.write_set_field-in-Tensor.new.out.items
    (ap (λ (r : Rule). fields_text c.args.names.now (line_of c.args.bank.now r)) c.in-Tensor.is
    ∙ (ap (λ (s : List ℕ). field (set_text s) ++ field (set_text c.in-Tensor.second.items)) (sym c.deref.ensures.value)
    ∙ ap (λ (s : List ℕ). field (set_text c.deref.result.now) ++ field (set_text s)) (sym c.deref-in-Tensor.ensures.value)))
    c.in_ok-write_set_field-in-Tensor.ensures.text c.in_ok-write_set_field-in-Tensor-2.ensures.text

pub returns-in_default-clause-text : goal.returns-in_default-clause-text
returns-in_default-clause-text c =
    sym (ap (λ (text : List ℕ). c.args.out.now.items ++ text) (fieldless c.args.names.now c.args.bank.now c.args.node.now c.in_default.not-Tensor
    c.in_default.not-Lolli c.in_default.not-Imp
    c.in_default.not-Forall c.in_default.not-Exists c.in_default.not-Clause)
    ∙ append-nil c.args.out.now.items)

pub returns-in_default-clause-begun : goal.returns-in_default-clause-begun
returns-in_default-clause-begun c = begins_same _ c.args.out.now.items c.args.out.now.items refl
