use Rattle.std.proofs.Common.{arith}
use Rattle.ll_prooftext.specs.Reading.{Number}
use Rattle.ll_prooftext.proofs.reading.Rest.{number_made, number_none, nothing_there}
use Rattle.ll_prooftext.proofs.rows.number_field.Goals as goal

pub returns-in-Some-number_of-clause-ok : goal.returns-in-Some-number_of-clause-ok
returns-in-Some-number_of-clause-ok c =
    number_made c.args.bytes.now c.in-Some.field.now c.split_before.result.0.now c.split_before.result.1.now c.in-Some-number_of.number c.in-Some.ensures
    c.split_before.ensures.is c.in-Some-number_of.ensures (omega arith) c.split_before.ensures.stops

pub returns-in-None-clause-err : goal.returns-in-None-clause-err
returns-in-None-clause-err c =
    nothing_there Number c.args.bytes.now c.in-Some.field.now c.in-Some.ensures
    (number_none c.in-Some.field.now c.split_before.result.0.now c.split_before.result.1.now c.split_before.ensures.is c.split_before.ensures.free
    c.split_before.ensures.stops c.in-None.ensures)
