use Rattle.std.proofs.lemmas.Result.{IfOk-from_err}
use Rattle.std.proofs.Common.{[], ◌∷◌, ◌++◌, refl, codes}
use Rattle.ll_bank.specs.Nodes.{term_tree}
use Rattle.ll_laws.specs.ProofText.{term_field}
use Rattle.ll_prooftext.specs.Rows.{let_text}
use Rattle.ll_printer.proofs.CallerLemmas.{begins_before, begins_same}
use Rattle.ll_prooftext.proofs.writing.Writing.{both_text, both_whole, both_stopped}
use Rattle.ll_prooftext.proofs.lines.write_let.Goals as goal

pub returns-in_err-write_term_field-clause-begun : goal.returns-in_err-write_term_field-clause-begun
returns-in_err-write_term_field-clause-begun c =
    let t = term_tree c.args.bank.now c.args.at.0 in
    both_stopped (codes "let") (term_field c.args.names.now t ++ 10 ∷ []) (let_text c.args.names.now t) c.args.out.now.items c.extend_from_slice.new.self.items
    c.write_term_field.new.out.items refl c.in_ok-extend_from_slice.ensures.items
    (begins_before (term_field c.args.names.now t) (10 ∷ []) (term_field c.args.names.now t ++ 10 ∷ []) c.extend_from_slice.new.self.items
    c.write_term_field.new.out.items refl c.write_term_field.ensures.begun)

pub returns-in_err-extend_from_slice-clause-text : goal.returns-in_err-extend_from_slice-clause-text
returns-in_err-extend_from_slice-clause-text c = IfOk-from_err c.from_residual.result _ c.from_residual.ensures.0

pub returns-in_err-write_term_field-clause-text : goal.returns-in_err-write_term_field-clause-text
returns-in_err-write_term_field-clause-text c = IfOk-from_err c.from_residual-in_err-write_term_field.result _ c.from_residual-in_err-write_term_field.ensures.0

pub returns-in_err-push-clause-text : goal.returns-in_err-push-clause-text
returns-in_err-push-clause-text c = IfOk-from_err c.from_residual-in_err-push.result _ c.from_residual-in_err-push.ensures.0

pub returns-in_err-extend_from_slice-clause-begun : goal.returns-in_err-extend_from_slice-clause-begun
returns-in_err-extend_from_slice-clause-begun c =
    begins_same (let_text c.args.names.now (term_tree c.args.bank.now c.args.at.0)) c.args.out.now.items c.extend_from_slice.new.self.items
    c.in_err-extend_from_slice.ensures.items

pub returns-in_err-push-clause-begun : goal.returns-in_err-push-clause-begun
returns-in_err-push-clause-begun c =
    let t = term_tree c.args.bank.now c.args.at.0 in let field = term_field c.args.names.now t in
    both_stopped (codes "let") (field ++ 10 ∷ []) (let_text c.args.names.now t) c.args.out.now.items c.extend_from_slice.new.self.items c.push.new.self.items
    refl c.in_ok-extend_from_slice.ensures.items
    (both_stopped field (10 ∷ []) (field ++ 10 ∷ []) c.extend_from_slice.new.self.items c.write_term_field.new.out.items c.push.new.self.items refl
    c.in_ok-write_term_field.ensures.text
    (begins_same (10 ∷ []) c.write_term_field.new.out.items c.push.new.self.items c.in_err-push.ensures.items))

pub returns-clause-text : goal.returns-clause-text
returns-clause-text c =
    let t = term_tree c.args.bank.now c.args.at.0 in let field = term_field c.args.names.now t in
    both_text (codes "let") (field ++ 10 ∷ []) (let_text c.args.names.now t) c.args.out.now.items c.extend_from_slice.new.self.items c.push.new.self.items
    refl c.in_ok-extend_from_slice.ensures.items
    (both_text field (10 ∷ []) (field ++ 10 ∷ []) c.extend_from_slice.new.self.items c.write_term_field.new.out.items c.push.new.self.items refl
    c.in_ok-write_term_field.ensures.text c.in_ok-push.ensures.items)

pub returns-clause-begun : goal.returns-clause-begun
returns-clause-begun c =
    let t = term_tree c.args.bank.now c.args.at.0 in let field = term_field c.args.names.now t in
    both_whole (codes "let") (field ++ 10 ∷ []) (let_text c.args.names.now t) c.args.out.now.items c.extend_from_slice.new.self.items c.push.new.self.items
    refl c.in_ok-extend_from_slice.ensures.items
    (both_text field (10 ∷ []) (field ++ 10 ∷ []) c.extend_from_slice.new.self.items c.write_term_field.new.out.items c.push.new.self.items refl
    c.in_ok-write_term_field.ensures.text c.in_ok-push.ensures.items)
