use Rattle.std.proofs.Common.{refl}
use Rattle.std.proofs.lemmas.Result.{IfOk-from_err, err_from_is_err_and}
use Rattle.ll_top.specs.texts.CallEnds.{nothing}
use Rattle.ll_top.proofs.judging.ToldLemmas.{sink-still}
use Rattle.ll_top.proofs.session.reply_over.Goals as goal

pub returns-in_err-index-clause-ends : goal.returns-in_err-index-clause-ends
returns-in_err-index-clause-ends g c = λ program is. let p = err_from_is_err_and c.from_residual.result c.from_residual.ensures.1 in
    rw (p.1, p.2) (nothing refl)

pub returns-in_err-index-clause-replied : goal.returns-in_err-index-clause-replied
returns-in_err-index-clause-replied g c = IfOk-from_err c.from_residual.result _ c.from_residual.ensures.0

pub returns-clause-replied : goal.returns-clause-replied
returns-clause-replied g c = c.reply_to_lines.ensures.replied

pub returns-in_err-index-clause-sink_told : goal.returns-in_err-index-clause-sink_told
returns-in_err-index-clause-sink_told g c = sink-still _ _ c.from_residual.result refl

pub returns-clause-sink_told : goal.returns-clause-sink_told
returns-clause-sink_told g c = c.reply_to_lines.ensures.sink_told
