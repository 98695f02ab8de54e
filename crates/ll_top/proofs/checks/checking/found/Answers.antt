use Rattle.std.proofs.Common.{None}
use Rattle.std.proofs.lemmas.Result.{err_from_is_err_and}
use Rattle.ll_top.specs.declared.texts.judge.Role.TheVariants.{Program, Query, Proof}
use Rattle.ll_top.specs.forms.Words.{shown_check}
use Rattle.ll_top.specs.texts.Outcome.{first, later}
use Rattle.ll_top.proofs.judging.PrepareLemmas.{not-read-after}
use Rattle.ll_top.proofs.judging.ToldLemmas.{shelf-read, shelf-later, shelf-refused}
use Rattle.ll_edge.proofs.CallerLemmas.{kept_trans, fits_first, fits_second}
use Rattle.ll_top.proofs.verdicts.CheckLemmas.{text-refused, texts-judged}
use Rattle.ll_top.proofs.checks.checking.found.Goals as goal

pub returns-in_err-program-clause-finds : goal.returns-in_err-program-clause-finds
returns-in_err-program-clause-finds g c =
    let p = err_from_is_err_and c.from_residual.result c.from_residual.ensures.1 in
    λ told fits. rw (p.1, p.2) (text-refused told _ _ (shown_check c.args.command.now) Program _ first (c.in_err-program.ensures.refused told fits))

pub returns-in_err-query-clause-finds : goal.returns-in_err-query-clause-finds
returns-in_err-query-clause-finds g c =
    let p = err_from_is_err_and c.from_residual-in_err-query.result c.from_residual-in_err-query.ensures.1 in
    let one = c.in_ok-program.ensures.kept in
    λ told fits. rw (p.1, p.2) (text-refused told _ _ (shown_check c.args.command.now) Query _
    (later _ (c.in_ok-program.ensures.read told (fits_first told _ _ _ c.in_err-query.ensures.kept.grew fits)) first)
    (not-read-after _ told _ _ _ one
    (c.in_err-query.ensures.refused told (fits_second told _ _ _ one.grew fits))))

pub returns-in_err-proof-clause-finds : goal.returns-in_err-proof-clause-finds
returns-in_err-proof-clause-finds g c =
    let p = err_from_is_err_and c.from_residual-in_err-proof.result c.from_residual-in_err-proof.ensures.1 in
    let one = c.in_ok-program.ensures.kept in
    let two = kept_trans one c.in_ok-query.ensures.kept in
    λ told fits. let both = fits_first told _ _ _ c.in_err-proof.ensures.kept.grew fits in
    rw (p.1, p.2) (text-refused told _ _ (shown_check c.args.command.now) Proof _
    (later _ (c.in_ok-program.ensures.read told (fits_first told _ _ _ c.in_ok-query.ensures.kept.grew both))
    (later _ (c.in_ok-query.ensures.read told (fits_second told _ _ _ one.grew both)) first))
    (not-read-after _ told _ _ _ two
    (c.in_err-proof.ensures.refused told (fits_second told _ _ _ two.grew fits))))

pub returns-clause-finds : goal.returns-clause-finds
returns-clause-finds g c =
    let one = c.in_ok-program.ensures.kept in
    let two = kept_trans one c.in_ok-query.ensures.kept in
    λ told fits. let both = fits_first told _ _ _ c.in_ok-proof.ensures.kept.grew fits in
    texts-judged told _ _ (shown_check c.args.command.now) c.in_ok-program.program.items c.in_ok-query.query.items c.in_ok-proof.proof.items
    (c.in_ok-program.ensures.read told (fits_first told _ _ _ c.in_ok-query.ensures.kept.grew both))
    (c.in_ok-query.ensures.read told (fits_second told _ _ _ one.grew both))
    (c.in_ok-proof.ensures.read told (fits_second told _ _ _ two.grew fits)) _
    (rw (c.deref.ensures.value, c.deref-2.ensures.value, c.deref-3.ensures.value) at c.finding_of.ensures)

pub returns-in_err-program-clause-kept : goal.returns-in_err-program-clause-kept
returns-in_err-program-clause-kept g c = c.in_err-program.ensures.kept

pub returns-in_err-query-clause-kept : goal.returns-in_err-query-clause-kept
returns-in_err-query-clause-kept g c = kept_trans c.in_ok-program.ensures.kept c.in_err-query.ensures.kept

pub returns-in_err-proof-clause-kept : goal.returns-in_err-proof-clause-kept
returns-in_err-proof-clause-kept g c = kept_trans (kept_trans c.in_ok-program.ensures.kept c.in_ok-query.ensures.kept) c.in_err-proof.ensures.kept

pub returns-clause-kept : goal.returns-clause-kept
returns-clause-kept g c = kept_trans (kept_trans c.in_ok-program.ensures.kept c.in_ok-query.ensures.kept) c.in_ok-proof.ensures.kept

pub finding_of-requires-clause-program : goal.finding_of-requires-clause-program
finding_of-requires-clause-program g c = rw c.deref.ensures.value (c.in_ok-program.ensures.read None tt).within

pub finding_of-requires-clause-query : goal.finding_of-requires-clause-query
finding_of-requires-clause-query g c = rw c.deref-2.ensures.value (c.in_ok-query.ensures.read None tt).within

pub finding_of-requires-clause-proof : goal.finding_of-requires-clause-proof
finding_of-requires-clause-proof g c = rw c.deref-3.ensures.value (c.in_ok-proof.ensures.read None tt).within

pub returns-in_err-program-clause-shelf_told : goal.returns-in_err-program-clause-shelf_told
returns-in_err-program-clause-shelf_told g c =
    let p = err_from_is_err_and c.from_residual.result c.from_residual.ensures.1 in rw (p.1, p.2) (shelf-refused c.in_err-program.ensures.shelf_told)

pub returns-in_err-query-clause-shelf_told : goal.returns-in_err-query-clause-shelf_told
returns-in_err-query-clause-shelf_told g c =
    let p = err_from_is_err_and c.from_residual-in_err-query.result c.from_residual-in_err-query.ensures.1 in
    rw (p.1, p.2) (shelf-later _ c.in_ok-program.ensures.shelf_told (shelf-refused c.in_err-query.ensures.shelf_told))

pub returns-in_err-proof-clause-shelf_told : goal.returns-in_err-proof-clause-shelf_told
returns-in_err-proof-clause-shelf_told g c =
    let p = err_from_is_err_and c.from_residual-in_err-proof.result c.from_residual-in_err-proof.ensures.1 in
    rw (p.1, p.2) (shelf-later _ (shelf-later _ c.in_ok-program.ensures.shelf_told c.in_ok-query.ensures.shelf_told)
    (shelf-refused c.in_err-proof.ensures.shelf_told))

pub returns-clause-shelf_told : goal.returns-clause-shelf_told
returns-clause-shelf_told g c =
    shelf-read _ (shelf-later _ (shelf-later _ c.in_ok-program.ensures.shelf_told c.in_ok-query.ensures.shelf_told) c.in_ok-proof.ensures.shelf_told)
