use Rattle.std.proofs.lemmas.Result.{IfOk-from_err}
use Rattle.std.proofs.Common.{arith, decimal}
use Rattle.ll_laws.specs.ProofText.{field}
use Rattle.ll_prooftext.proofs.writing.Writing.{parts_on, parts_refused, parts_ended}
use Rattle.ll_prooftext.proofs.fields.write_number_fields.Goals as goal

pub loop-i-preserved : goal.loop-i-preserved
loop-i-preserved c =
    parts_on (λ n. field (decimal n)) c.args.numbers.now c.loop-i.i 0 c.args.out.now.items c.loop-i.out.items c.write_number_field.new.out.items
    c.loop-i.invariant (omega arith) c.in_ok-write_number_field.ensures.text

pub returns-in_err-write_number_field-clause-begun : goal.returns-in_err-write_number_field-clause-begun
returns-in_err-write_number_field-clause-begun c =
    parts_refused (λ n. field (decimal n)) c.args.numbers.now c.loop-i.i 0 c.args.out.now.items c.loop-i.out.items c.write_number_field.new.out.items
    c.loop-i.invariant (omega arith) c.write_number_field.ensures.begun

pub returns-clause-begun : goal.returns-clause-begun
returns-clause-begun c =
    parts_ended (λ n. field (decimal n)) c.args.numbers.now c.loop-i.i 0 c.args.out.now.items c.loop-i.out.items c.loop-i.out.items c.loop-i.invariant
    (omega arith)

pub returns-in_err-write_number_field-clause-text : goal.returns-in_err-write_number_field-clause-text
returns-in_err-write_number_field-clause-text c = IfOk-from_err c.from_residual.result _ c.from_residual.ensures.0
