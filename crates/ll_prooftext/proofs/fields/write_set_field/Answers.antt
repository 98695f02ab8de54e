use Rattle.std.proofs.lemmas.Result.{IfOk-from_err}
use Rattle.std.proofs.Common.{◌++◌, refl, codes}
use Rattle.ll_laws.specs.ProofText.{field, labels_text, set_text}
use Rattle.ll_printer.proofs.CallerLemmas.{begins_before, begins_same}
use Rattle.ll_prooftext.proofs.writing.Writing.{both_text, both_whole, both_stopped}
use Rattle.ll_prooftext.proofs.fields.write_set_field.Goals as goal

pub returns-in_err-extend_from_slice-clause-text : goal.returns-in_err-extend_from_slice-clause-text
returns-in_err-extend_from_slice-clause-text c = IfOk-from_err c.from_residual.result _ c.from_residual.ensures.0

pub returns-in_err-write_labels-clause-text : goal.returns-in_err-write_labels-clause-text
returns-in_err-write_labels-clause-text c = IfOk-from_err c.from_residual-in_err-write_labels.result _ c.from_residual-in_err-write_labels.ensures.0

pub returns-in_err-push-clause-text : goal.returns-in_err-push-clause-text
returns-in_err-push-clause-text c = IfOk-from_err c.from_residual-in_err-push.result _ c.from_residual-in_err-push.ensures.0

pub returns-in_err-extend_from_slice-clause-begun : goal.returns-in_err-extend_from_slice-clause-begun
returns-in_err-extend_from_slice-clause-begun c =
    begins_same (field (set_text c.args.labels.now)) c.args.out.now.items c.extend_from_slice.new.self.items c.in_err-extend_from_slice.ensures.items

pub returns-in_err-write_labels-clause-begun : goal.returns-in_err-write_labels-clause-begun
returns-in_err-write_labels-clause-begun c = let text = labels_text c.args.labels.now in
    both_stopped (codes " {") (text ++ codes "}") (field (set_text c.args.labels.now)) c.args.out.now.items c.extend_from_slice.new.self.items
    c.write_labels.new.out.items refl
    c.in_ok-extend_from_slice.ensures.items (begins_before text (codes "}") _ c.extend_from_slice.new.self.items c.write_labels.new.out.items refl
    c.write_labels.ensures.begun)

pub returns-in_err-push-clause-begun : goal.returns-in_err-push-clause-begun
returns-in_err-push-clause-begun c = let text = labels_text c.args.labels.now in
    both_stopped (codes " {") (text ++ codes "}") (field (set_text c.args.labels.now)) c.args.out.now.items c.extend_from_slice.new.self.items
    c.push.new.self.items refl
    c.in_ok-extend_from_slice.ensures.items
    (both_stopped text (codes "}") _ c.extend_from_slice.new.self.items c.write_labels.new.out.items c.push.new.self.items refl
    c.in_ok-write_labels.ensures.text
    (begins_same (codes "}") c.write_labels.new.out.items c.push.new.self.items c.in_err-push.ensures.items))

pub returns-clause-text : goal.returns-clause-text
returns-clause-text c = let text = labels_text c.args.labels.now in
    both_text (codes " {") (text ++ codes "}") (field (set_text c.args.labels.now)) c.args.out.now.items c.extend_from_slice.new.self.items
    c.push.new.self.items refl
    c.in_ok-extend_from_slice.ensures.items
    (both_text text (codes "}") _ c.extend_from_slice.new.self.items c.write_labels.new.out.items c.push.new.self.items refl c.in_ok-write_labels.ensures.text
    c.in_ok-push.ensures.items)

pub returns-clause-begun : goal.returns-clause-begun
returns-clause-begun c = let text = labels_text c.args.labels.now in
    both_whole (codes " {") (text ++ codes "}") (field (set_text c.args.labels.now)) c.args.out.now.items c.extend_from_slice.new.self.items
    c.push.new.self.items refl
    c.in_ok-extend_from_slice.ensures.items
    (both_text text (codes "}") _ c.extend_from_slice.new.self.items c.write_labels.new.out.items c.push.new.self.items refl c.in_ok-write_labels.ensures.text
    c.in_ok-push.ensures.items)
