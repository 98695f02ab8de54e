use Rattle.std.proofs.lemmas.Result.{IfOk-from_err, err_from_is_err_and}
use Rattle.ll_prooftext.specs.Reading.{Argument}
use Rattle.ll_prooftext.proofs.reading.Rest.{term_made_field, nothing_there}
use Rattle.ll_prooftext.proofs.rows.term_field.Goals as goal

pub returns-in-None-clause-err : goal.returns-in-None-clause-err
returns-in-None-clause-err c = nothing_there Argument c.args.bytes.now c.in-Some.field.now c.in-Some.ensures (rw c.in-None.is at c.in_ok-at.ensures.found)

pub returns-in-Some-2-clause-ok : goal.returns-in-Some-2-clause-ok
returns-in-Some-2-clause-ok c = term_made_field c.args.names.now c.args.bank.now c.args.bytes.now c.in-Some.field.now c.argument_at.new.names
    c.argument_at.new.bank c.in-Some-2.at.0 c.in-Some-2.rest.now c.in-Some.ensures (rw c.in-Some-2.is at c.in_ok-at.ensures.found)

pub returns-in_err-at-clause-ok : goal.returns-in_err-at-clause-ok
returns-in_err-at-clause-ok c = IfOk-from_err c.from_residual.result _ c.from_residual.ensures.0

pub returns-in_err-at-clause-err : goal.returns-in_err-at-clause-err
returns-in_err-at-clause-err c = let p = err_from_is_err_and c.from_residual.result c.from_residual.ensures.1 in rw (p.1, p.2) tt

pub returns-in_err-at-clause-grows : goal.returns-in_err-at-clause-grows
returns-in_err-at-clause-grows c = c.argument_at.ensures.grows

pub returns-in-Some-2-clause-grows : goal.returns-in-Some-2-clause-grows
returns-in-Some-2-clause-grows c = c.argument_at.ensures.grows

pub returns-in-None-clause-grows : goal.returns-in-None-clause-grows
returns-in-None-clause-grows c = c.argument_at.ensures.grows

pub returns-in_default-clause-ok : goal.returns-in_default-clause-ok
returns-in_default-clause-ok c = _

pub returns-in-Some-2-clause-err : goal.returns-in-Some-2-clause-err
returns-in-Some-2-clause-err c = _

pub returns-in-None-clause-ok : goal.returns-in-None-clause-ok
returns-in-None-clause-ok c = _
