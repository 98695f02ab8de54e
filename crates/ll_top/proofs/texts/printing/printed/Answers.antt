use Rattle.std.proofs.Common.{None}
use Rattle.std.proofs.lemmas.Result.{IfOk-from_err}
use Rattle.std.proofs.lemmas.Result.{err_from_is_err_and}
use Rattle.ll_top.proofs.judging.PrepareLemmas.{source-refused, source-made, source-unprinted}
use Rattle.ll_top.proofs.judging.ToldLemmas.{shelf-read, shelf-refused}
use Rattle.ll_top.proofs.texts.printing.printed.Goals as goal

pub returns-in_err-text-clause-refused : goal.returns-in_err-text-clause-refused
returns-in_err-text-clause-refused g c =
    let p = err_from_is_err_and c.from_residual.result c.from_residual.ensures.1 in
    rw (p.1, p.2) (λ told fits. source-refused told _ _ c.args.name.now _ (c.in_err-text.ensures.refused told fits))

pub returns-clause-refused : goal.returns-clause-refused
returns-clause-refused g c = source-unprinted _ _ c.args.name.now c.in_ok-text.text.items c.in_ok-text.ensures.read _ _ _
    (rw c.deref.ensures.value at c.printed_text.ensures.refused)

pub returns-clause-bytes : goal.returns-clause-bytes
returns-clause-bytes g c =
    source-made _ _ c.args.name.now c.in_ok-text.text.items c.in_ok-text.ensures.read _ (rw c.deref.ensures.value at c.printed_text.ensures.bytes)

pub returns-in_err-text-clause-bytes : goal.returns-in_err-text-clause-bytes
returns-in_err-text-clause-bytes g c = IfOk-from_err c.from_residual.result _ c.from_residual.ensures.0

pub returns-in_err-text-clause-kept : goal.returns-in_err-text-clause-kept
returns-in_err-text-clause-kept g c = c.in_err-text.ensures.kept

pub returns-clause-kept : goal.returns-clause-kept
returns-clause-kept g c = c.in_ok-text.ensures.kept

pub printed_text-requires : goal.printed_text-requires
printed_text-requires g c = rw c.deref.ensures.value (c.in_ok-text.ensures.read None tt).within

pub returns-in_err-text-clause-shelf_told : goal.returns-in_err-text-clause-shelf_told
returns-in_err-text-clause-shelf_told g c =
    let p = err_from_is_err_and c.from_residual.result c.from_residual.ensures.1 in rw (p.1, p.2) (shelf-refused c.in_err-text.ensures.shelf_told)

pub returns-clause-shelf_told : goal.returns-clause-shelf_told
returns-clause-shelf_told g c = shelf-read _ c.in_ok-text.ensures.shelf_told
