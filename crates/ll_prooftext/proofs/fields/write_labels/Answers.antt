use Rattle.std.proofs.lemmas.Result.{IfOk-from_err}
use Rattle.std.proofs.Common.{ap, ◌∙◌, decimal}
use Rattle.std.specs.List.{flat_map}
use Rattle.ll_laws.specs.ProofText.{field, labels_text}
use Rattle.ll_prooftext.proofs.writing.Writing.{labels_all, both_text, both_whole, both_stopped}
use Rattle.ll_prooftext.proofs.fields.write_labels.Goals as goal

pub returns-in_err-write_number_fields-clause-begun : goal.returns-in_err-write_number_fields-clause-begun
returns-in_err-write_number_fields-clause-begun c =
    both_stopped (decimal c.in-Some.first.now) (flat_map (λ m. field (decimal m)) c.in-Some.others.now) (labels_text c.args.labels.now) c.args.out.now.items
    c.write_number.new.out.items c.write_number_fields.new.out.items
    (ap labels_text c.in-Some.ensures.cases.0 ∙ labels_all c.in-Some.first.now c.in-Some.others.now) c.in_ok-write_number.ensures.text
    c.write_number_fields.ensures.begun

pub returns-in_ok-write_number_fields-clause-text : goal.returns-in_ok-write_number_fields-clause-text
returns-in_ok-write_number_fields-clause-text c =
    both_text (decimal c.in-Some.first.now) (flat_map (λ m. field (decimal m)) c.in-Some.others.now) (labels_text c.args.labels.now) c.args.out.now.items
    c.write_number.new.out.items c.write_number_fields.new.out.items
    (ap labels_text c.in-Some.ensures.cases.0 ∙ labels_all c.in-Some.first.now c.in-Some.others.now) c.in_ok-write_number.ensures.text
    c.in_ok-write_number_fields.ensures.text

pub returns-in_ok-write_number_fields-clause-begun : goal.returns-in_ok-write_number_fields-clause-begun
returns-in_ok-write_number_fields-clause-begun c =
    both_whole (decimal c.in-Some.first.now) (flat_map (λ m. field (decimal m)) c.in-Some.others.now) (labels_text c.args.labels.now) c.args.out.now.items
    c.write_number.new.out.items c.write_number_fields.new.out.items
    (ap labels_text c.in-Some.ensures.cases.0 ∙ labels_all c.in-Some.first.now c.in-Some.others.now) c.in_ok-write_number.ensures.text
    c.in_ok-write_number_fields.ensures.text

pub returns-in_err-write_number-clause-text : goal.returns-in_err-write_number-clause-text
returns-in_err-write_number-clause-text c = IfOk-from_err c.from_residual.result _ c.from_residual.ensures.0

pub returns-in_err-write_number_fields-clause-text : goal.returns-in_err-write_number_fields-clause-text
returns-in_err-write_number_fields-clause-text c =
    IfOk-from_err c.from_residual-in_err-write_number_fields.result _ c.from_residual-in_err-write_number_fields.ensures.0
