use Rattle.std.proofs.lemmas.Result.{IfOk-from_err, err_from_is_err_and}
use Rattle.ll_prooftext.proofs.reading.CellsRead.{front_made, front_none}
use Rattle.ll_prooftext.proofs.cells.front_field.Goals as goal

pub returns-in-Some-2-clause-ok : goal.returns-in-Some-2-clause-ok
returns-in-Some-2-clause-ok c =
    front_made c.args.names.now c.args.bank.now c.args.bytes.now c.in-Some.field.now c.split_before.result.0.now c.split_before.result.1.now
    c.front_of.new.names c.front_of.new.bank c.in-Some-2.front c.in-Some.ensures c.split_before.ensures.is c.split_before.ensures.stops
    (rw c.in-Some-2.is at c.in_ok-front.ensures.found) (rw c.in-Some-2.is at c.in_ok-front.ensures.moves)

pub returns-in-None-clause-err : goal.returns-in-None-clause-err
returns-in-None-clause-err c =
    let none = rw c.in-None.is at c.in_ok-front.ensures.found in
    front_none c.args.bytes.now c.in-Some.field.now c.split_before.result.0.now c.split_before.result.1.now c.in-Some.ensures c.split_before.ensures.is
    c.split_before.ensures.free c.split_before.ensures.stops none.0 none.1

pub returns-in_err-front-clause-ok : goal.returns-in_err-front-clause-ok
returns-in_err-front-clause-ok c = IfOk-from_err c.from_residual.result _ c.from_residual.ensures.0

pub returns-in_err-front-clause-err : goal.returns-in_err-front-clause-err
returns-in_err-front-clause-err c = let p = err_from_is_err_and c.from_residual.result c.from_residual.ensures.1 in rw (p.1, p.2) tt

pub returns-in_err-front-clause-grows : goal.returns-in_err-front-clause-grows
returns-in_err-front-clause-grows c = c.front_of.ensures.grows

pub returns-in-Some-2-clause-grows : goal.returns-in-Some-2-clause-grows
returns-in-Some-2-clause-grows c = c.front_of.ensures.grows

pub returns-in-None-clause-grows : goal.returns-in-None-clause-grows
returns-in-None-clause-grows c = c.front_of.ensures.grows

pub returns-in_default-clause-ok : goal.returns-in_default-clause-ok
returns-in_default-clause-ok c = _

pub returns-in-Some-2-clause-err : goal.returns-in-Some-2-clause-err
returns-in-Some-2-clause-err c = _

pub returns-in-None-clause-ok : goal.returns-in-None-clause-ok
returns-in-None-clause-ok c = _
