use Rattle.std.proofs.Common.{None}
use Rattle.std.proofs.lemmas.Result.{IfOk-from_err}
use Rattle.std.proofs.lemmas.Result.{err_from_is_err_and}
use Rattle.ll_edge.proofs.CallerLemmas.{fits_first, fits_second}
use Rattle.ll_top.specs.forms.Words.{shown_words}
use Rattle.ll_edge.proofs.CallerLemmas.{kept_trans}
use Rattle.ll_top.proofs.judging.PrepareLemmas.{program-refused, query-refused, not-read-after, prepared, asks-read}
use Rattle.ll_top.proofs.judging.ToldLemmas.{shelf-read, shelf-later, shelf-refused}
use Rattle.ll_top.proofs.texts.preparing.prepare.Goals as goal

pub returns-in_err-program-clause-prepares : goal.returns-in_err-program-clause-prepares
returns-in_err-program-clause-prepares g c =
    let p = err_from_is_err_and c.from_residual.result c.from_residual.ensures.1 in
    λ told fits. rw (p.1, p.2) (program-refused told _ _ (shown_words c.args.run.now) _ (c.in_err-program.ensures.refused told fits))

pub returns-in_err-query-clause-prepares : goal.returns-in_err-query-clause-prepares
returns-in_err-query-clause-prepares g c =
    let p = err_from_is_err_and c.from_residual-in_err-query.result c.from_residual-in_err-query.ensures.1 in
    let first = c.in_ok-program.ensures.kept in
    λ told fits. rw (p.1, p.2) (query-refused told _ _ (shown_words c.args.run.now) _ _
    (c.in_ok-program.ensures.read told (fits_first told _ _ _ c.in_err-query.ensures.kept.grew fits))
    (not-read-after _ told _ _ _ first
    (c.in_err-query.ensures.refused told (fits_second told _ _ _ first.grew fits))))

pub returns-clause-prepares : goal.returns-clause-prepares
returns-clause-prepares g c =
    λ told fits. prepared told _ _ (shown_words c.args.run.now) c.in_ok-program.program.items c.in_ok-query.query.items
    (c.in_ok-program.ensures.read told (fits_first told _ _ _ c.in_ok-query.ensures.kept.grew fits))
    (c.in_ok-query.ensures.read told (fits_second told _ _ _ c.in_ok-program.ensures.kept.grew fits)) _
    (rw (c.deref.ensures.value, c.deref-2.ensures.value) at c.problem_of.ensures.judges)

pub returns-clause-reads : goal.returns-clause-reads
returns-clause-reads g c =
    asks-read (shown_words c.args.run.now) _ _ _ c.in_ok-program.program.items c.in_ok-query.query.items _ c.in_ok-program.ensures.reads
    c.in_ok-query.ensures.reads (rw (c.deref.ensures.value, c.deref-2.ensures.value) at c.problem_of.ensures.judges)

pub returns-in_err-program-clause-reads : goal.returns-in_err-program-clause-reads
returns-in_err-program-clause-reads g c = IfOk-from_err c.from_residual.result _ c.from_residual.ensures.0

pub returns-in_err-query-clause-reads : goal.returns-in_err-query-clause-reads
returns-in_err-query-clause-reads g c = IfOk-from_err c.from_residual-in_err-query.result _ c.from_residual-in_err-query.ensures.0

pub returns-in_err-program-clause-valid : goal.returns-in_err-program-clause-valid
returns-in_err-program-clause-valid g c = IfOk-from_err c.from_residual.result _ c.from_residual.ensures.0

pub returns-in_err-query-clause-valid : goal.returns-in_err-query-clause-valid
returns-in_err-query-clause-valid g c = IfOk-from_err c.from_residual-in_err-query.result _ c.from_residual-in_err-query.ensures.0

pub returns-in_err-program-clause-kept : goal.returns-in_err-program-clause-kept
returns-in_err-program-clause-kept g c = c.in_err-program.ensures.kept

pub returns-in_err-query-clause-kept : goal.returns-in_err-query-clause-kept
returns-in_err-query-clause-kept g c = kept_trans c.in_ok-program.ensures.kept c.in_err-query.ensures.kept

pub returns-clause-kept : goal.returns-clause-kept
returns-clause-kept g c = kept_trans c.in_ok-program.ensures.kept c.in_ok-query.ensures.kept

pub returns-clause-valid : goal.returns-clause-valid
returns-clause-valid g c = c.problem_of.ensures.valid

pub problem_of-requires-clause-bound : goal.problem_of-requires-clause-bound
problem_of-requires-clause-bound g c = c.requires.bound

pub problem_of-requires-clause-program : goal.problem_of-requires-clause-program
problem_of-requires-clause-program g c = rw c.deref.ensures.value (c.in_ok-program.ensures.read None tt).within

pub problem_of-requires-clause-query : goal.problem_of-requires-clause-query
problem_of-requires-clause-query g c = rw c.deref-2.ensures.value (c.in_ok-query.ensures.read None tt).within

pub returns-in_err-program-clause-shelf_told : goal.returns-in_err-program-clause-shelf_told
returns-in_err-program-clause-shelf_told g c =
    let p = err_from_is_err_and c.from_residual.result c.from_residual.ensures.1 in rw (p.1, p.2) (shelf-refused c.in_err-program.ensures.shelf_told)

pub returns-in_err-query-clause-shelf_told : goal.returns-in_err-query-clause-shelf_told
returns-in_err-query-clause-shelf_told g c =
    let p = err_from_is_err_and c.from_residual-in_err-query.result c.from_residual-in_err-query.ensures.1 in
    rw (p.1, p.2) (shelf-later _ c.in_ok-program.ensures.shelf_told (shelf-refused c.in_err-query.ensures.shelf_told))

pub returns-clause-shelf_told : goal.returns-clause-shelf_told
returns-clause-shelf_told g c = shelf-read _ (shelf-later _ c.in_ok-program.ensures.shelf_told c.in_ok-query.ensures.shelf_told)
