use Rattle.std.proofs.lemmas.Result.{IfOk-from_err}
use Rattle.std.proofs.Common.{◌++◌, arith, ap, subst, ◌∙◌}
use Rattle.ll_laws.specs.declared.Part.{Part}
use Rattle.ll_laws.specs.declared.Part.TheVariants.{Unbounded}
use Rattle.ll_laws.specs.ProofText.{part_field}
use Rattle.ll_laws.specs.ShownLines.{part_line}
use Rattle.ll_printer.specs.Pieces.{BeginsText}
use Rattle.ll_prooftext.proofs.writing.Writing.{parts_on, parts_refused, parts_whole, parts_ended, flat_map-map}
use Rattle.ll_prooftext.proofs.fields.write_part_fields.Goals as goal

pub loop-i-preserved : goal.loop-i-preserved
loop-i-preserved c =
    parts_on (λ (p : Part). part_field (part_line p)) c.args.parts.now c.loop-i.i c.index-parts-i.result c.args.out.now.items c.loop-i.out.items
    c.write_part_field.new.out.items c.loop-i.invariant (omega arith)
    (c.in_ok-write_part_field.ensures.text ∙ ap (λ (p : Part). c.loop-i.out.items ++ part_field (part_line p)) c.index-parts-i.is)

pub returns-in_err-write_part_field-clause-begun : goal.returns-in_err-write_part_field-clause-begun
returns-in_err-write_part_field-clause-begun c =
    subst (λ t. BeginsText t c.args.out.now.items c.write_part_field.new.out.items) (flat_map-map part_line part_field c.args.parts.now)
    (parts_refused (λ (p : Part). part_field (part_line p)) c.args.parts.now c.loop-i.i c.index-parts-i.result c.args.out.now.items c.loop-i.out.items
    c.write_part_field.new.out.items c.loop-i.invariant (omega arith)
    (subst (λ (p : Part). BeginsText (part_field (part_line p)) c.loop-i.out.items c.write_part_field.new.out.items) c.index-parts-i.is
    c.write_part_field.ensures.begun))

pub returns-clause-text : goal.returns-clause-text
returns-clause-text c =
    parts_whole (λ (p : Part). part_field (part_line p)) c.args.parts.now c.loop-i.i Unbounded c.args.out.now.items c.loop-i.out.items c.loop-i.out.items
    c.loop-i.invariant (omega arith)
    ∙ ap (λ t. c.args.out.now.items ++ t) (flat_map-map part_line part_field c.args.parts.now)

pub returns-clause-begun : goal.returns-clause-begun
returns-clause-begun c =
    subst (λ t. BeginsText t c.args.out.now.items c.loop-i.out.items) (flat_map-map part_line part_field c.args.parts.now)
    (parts_ended (λ (p : Part). part_field (part_line p)) c.args.parts.now c.loop-i.i Unbounded c.args.out.now.items c.loop-i.out.items c.loop-i.out.items
    c.loop-i.invariant (omega arith))

pub returns-in_err-write_part_field-clause-text : goal.returns-in_err-write_part_field-clause-text
returns-in_err-write_part_field-clause-text c = IfOk-from_err c.from_residual.result _ c.from_residual.ensures.0
