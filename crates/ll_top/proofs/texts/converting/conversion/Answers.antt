use Rattle.std.proofs.Common.{None}
use Rattle.std.proofs.lemmas.Result.{err_from_is_err_and}
use Rattle.ll_top.specs.forms.Words.{shown_convert}
use Rattle.ll_top.proofs.judging.ConvertLemmas.{proof-unread, proof-converted}
use Rattle.ll_top.proofs.judging.ToldLemmas.{shelf-read, shelf-refused}
use Rattle.ll_top.proofs.texts.converting.conversion.Goals as goal

pub returns-in_err-proof-clause-converts : goal.returns-in_err-proof-clause-converts
returns-in_err-proof-clause-converts g c =
    let p = err_from_is_err_and c.from_residual.result c.from_residual.ensures.1 in
    λ told fits. rw (p.1, p.2) (proof-unread told _ _ (shown_convert c.args.convert.now) _ (c.in_err-proof.ensures.refused told fits))

pub returns-clause-converts : goal.returns-clause-converts
returns-clause-converts g c =
    λ told fits. proof-converted told _ _ (shown_convert c.args.convert.now) c.in_ok-proof.proof.items (c.in_ok-proof.ensures.read told fits) _
    (rw c.deref.ensures.value at c.converted.ensures)

pub converted-requires-clause-short : goal.converted-requires-clause-short
converted-requires-clause-short g c = rw c.deref.ensures.value (c.in_ok-proof.ensures.read None tt).within

pub returns-in_err-proof-clause-shelf_told : goal.returns-in_err-proof-clause-shelf_told
returns-in_err-proof-clause-shelf_told g c =
    let p = err_from_is_err_and c.from_residual.result c.from_residual.ensures.1 in rw (p.1, p.2) (shelf-refused c.in_err-proof.ensures.shelf_told)

pub returns-clause-shelf_told : goal.returns-clause-shelf_told
returns-clause-shelf_told g c = shelf-read _ c.in_ok-proof.ensures.shelf_told
