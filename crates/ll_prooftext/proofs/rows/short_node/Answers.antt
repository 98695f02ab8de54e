use Rattle.std.proofs.Common.{sym, subst}
use Rattle.std.proofs.lemmas.Result.{err_from_is_err_and}
use Rattle.ll_prooftext.specs.Fields.{Refuses, StopsAt}
use Rattle.ll_prooftext.proofs.reading.RowsRead.{bare_row, numbered_row}
use Rattle.ll_prooftext.proofs.rows.short_node.Goals as goal

pub last_number-requires : goal.last_number-requires
last_number-requires c = c.requires.end

pub no_more-requires : goal.no_more-requires
no_more-requires c = c.requires.end

pub returns-in_err-number-clause-ok : goal.returns-in_err-number-clause-ok
returns-in_err-number-clause-ok c = let p = err_from_is_err_and c.from_residual.result c.from_residual.ensures.1 in rw p.1 tt

pub returns-in_err-number-clause-err : goal.returns-in_err-number-clause-err
returns-in_err-number-clause-err c = let p = err_from_is_err_and c.from_residual.result c.from_residual.ensures.1 in
    rw (p.1, p.2) (subst (λ v. Refuses (StopsAt v c.args.rest.now) c.in_err-number.field-0.0) (sym c.if-has_number.ensures) c.in_err-number.ensures.err)

pub returns-then-has_number-clause-ok : goal.returns-then-has_number-clause-ok
returns-then-has_number-clause-ok c = numbered_row c.args.word c.args.rest.now c.in_ok-number.number c.numbered_rule.result c.in_ok-number.ensures.ok
    c.numbered_rule.ensures

pub returns-in_err-no_more-clause-ok : goal.returns-in_err-no_more-clause-ok
returns-in_err-no_more-clause-ok c = let p = err_from_is_err_and c.from_residual-in_err-no_more.result c.from_residual-in_err-no_more.ensures.1 in rw p.1 tt

pub returns-in_err-no_more-clause-err : goal.returns-in_err-no_more-clause-err
returns-in_err-no_more-clause-err c = let p = err_from_is_err_and c.from_residual-in_err-no_more.result c.from_residual-in_err-no_more.ensures.1 in
    rw (p.1, p.2) (subst (λ v. Refuses (StopsAt v c.args.rest.now) c.in_err-no_more.field-0.0) (sym c.if-has_number.ensures) c.in_err-no_more.ensures.err)

pub returns-clause-ok : goal.returns-clause-ok
returns-clause-ok c = bare_row c.args.word c.args.rest.now c.bare_rule.result c.bare_rule.ensures c.in_ok-no_more.ensures.ok

pub returns-then-has_number-clause-err : goal.returns-then-has_number-clause-err
returns-then-has_number-clause-err c = _

pub returns-clause-err : goal.returns-clause-err
returns-clause-err c = _
