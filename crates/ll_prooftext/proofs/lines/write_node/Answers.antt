use Rattle.std.proofs.lemmas.Result.{IfOk-from_err}
use Rattle.std.proofs.Common.{◌≡◌, ℕ, List, [], ◌∷◌, ◌++◌, refl, ap, sym, ◌∙◌, append_assoc}
use Rattle.ll_laws.specs.Output.{line}
use Rattle.ll_laws.specs.ShownLines.{line_of}
use Rattle.ll_prooftext.specs.Rows.{fields_text, row_text}
use Rattle.ll_printer.proofs.CallerLemmas.{begins_before, begins_same}
use Rattle.ll_prooftext.proofs.writing.Writing.{both_text, both_whole, both_stopped}
use Rattle.ll_prooftext.proofs.lines.write_node.Goals as goal

-- a line of a word, fields, and its end
row_is : {word bytes : List ℕ} (fields : List ℕ) → bytes ≡ word → line (word ++ fields) ≡ bytes ++ (fields ++ 10 ∷ [])
row_is {bytes} fields e = ap (λ (w : List ℕ). line (w ++ fields)) (sym e) ∙ append_assoc bytes fields (10 ∷ [])

pub returns-in_err-extend_from_slice-clause-begun : goal.returns-in_err-extend_from_slice-clause-begun
returns-in_err-extend_from_slice-clause-begun c =
    begins_same (row_text c.args.names.now c.args.bank.now c.args.node.now) c.args.out.now.items c.extend_from_slice.new.self.items
    c.in_err-extend_from_slice.ensures.items

pub returns-in_err-write_fields-clause-begun : goal.returns-in_err-write_fields-clause-begun
returns-in_err-write_fields-clause-begun c =
    let fields = fields_text c.args.names.now (line_of c.args.bank.now c.args.node.now) in
    both_stopped c.as_bytes.result.now (fields ++ 10 ∷ []) _ c.args.out.now.items c.extend_from_slice.new.self.items c.write_fields.new.out.items
    (row_is fields (c.as_bytes.ensures.value ∙ c.word.ensures)) c.in_ok-extend_from_slice.ensures.items
    (begins_before fields (10 ∷ []) _ c.extend_from_slice.new.self.items c.write_fields.new.out.items refl c.write_fields.ensures.begun)

pub returns-in_err-push-clause-begun : goal.returns-in_err-push-clause-begun
returns-in_err-push-clause-begun c =
    let fields = fields_text c.args.names.now (line_of c.args.bank.now c.args.node.now) in
    both_stopped c.as_bytes.result.now (fields ++ 10 ∷ []) _ c.args.out.now.items c.extend_from_slice.new.self.items c.push.new.self.items
    (row_is fields (c.as_bytes.ensures.value ∙ c.word.ensures)) c.in_ok-extend_from_slice.ensures.items
    (both_stopped fields (10 ∷ []) _ c.extend_from_slice.new.self.items c.write_fields.new.out.items c.push.new.self.items refl
    c.in_ok-write_fields.ensures.text (begins_same (10 ∷ []) c.write_fields.new.out.items c.push.new.self.items c.in_err-push.ensures.items))

pub returns-clause-text : goal.returns-clause-text
returns-clause-text c =
    let fields = fields_text c.args.names.now (line_of c.args.bank.now c.args.node.now) in
    both_text c.as_bytes.result.now (fields ++ 10 ∷ []) _ c.args.out.now.items c.extend_from_slice.new.self.items c.push.new.self.items
    (row_is fields (c.as_bytes.ensures.value ∙ c.word.ensures)) c.in_ok-extend_from_slice.ensures.items
    (both_text fields (10 ∷ []) _ c.extend_from_slice.new.self.items c.write_fields.new.out.items c.push.new.self.items refl
    c.in_ok-write_fields.ensures.text c.in_ok-push.ensures.items)

pub returns-clause-begun : goal.returns-clause-begun
returns-clause-begun c =
    let fields = fields_text c.args.names.now (line_of c.args.bank.now c.args.node.now) in
    both_whole c.as_bytes.result.now (fields ++ 10 ∷ []) _ c.args.out.now.items c.extend_from_slice.new.self.items c.push.new.self.items
    (row_is fields (c.as_bytes.ensures.value ∙ c.word.ensures)) c.in_ok-extend_from_slice.ensures.items
    (both_text fields (10 ∷ []) _ c.extend_from_slice.new.self.items c.write_fields.new.out.items c.push.new.self.items refl
    c.in_ok-write_fields.ensures.text c.in_ok-push.ensures.items)

pub returns-in_err-extend_from_slice-clause-text : goal.returns-in_err-extend_from_slice-clause-text
returns-in_err-extend_from_slice-clause-text c = IfOk-from_err c.from_residual.result _ c.from_residual.ensures.0

pub returns-in_err-write_fields-clause-text : goal.returns-in_err-write_fields-clause-text
returns-in_err-write_fields-clause-text c = IfOk-from_err c.from_residual-in_err-write_fields.result _ c.from_residual-in_err-write_fields.ensures.0

pub returns-in_err-push-clause-text : goal.returns-in_err-push-clause-text
returns-in_err-push-clause-text c = IfOk-from_err c.from_residual-in_err-push.result _ c.from_residual-in_err-push.ensures.0
