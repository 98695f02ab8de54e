use Rattle.std.proofs.Common.{refl, ap, Some}
use Rattle.ll_edge.proofs.CallerLemmas.{no_front, taken_front}
use Rattle.ll_top.proofs.judging.ToldLemmas.{sink-still}
use Rattle.ll_top.proofs.run.write_summary.Goals as goal
use Rattle.ll_list_laws.proofs.CallerLemmas.{OnErr-always as on_err}

pub returns-in_err-summary-clause-prefix : goal.returns-in_err-summary-clause-prefix
returns-in_err-summary-clause-prefix g c = on_err _ (no_front _ _)

pub returns-in_err-write_all-clause-prefix : goal.returns-in_err-write_all-clause-prefix
returns-in_err-write_all-clause-prefix g c = on_err _
    (taken_front (rw (c.deref.ensures.value, c.in_ok-summary.ensures.text, c.clear.ensures.items) at c.in_err-write_all.ensures.takes_front))

pub returns-clause-text : goal.returns-clause-text
returns-clause-text g c = ap Some (rw (c.deref.ensures.value, c.in_ok-summary.ensures.text, c.clear.ensures.items) at c.in_ok-write_all.ensures.takes)

pub returns-in_err-summary-clause-sink_told : goal.returns-in_err-summary-clause-sink_told
returns-in_err-summary-clause-sink_told g c = sink-still _ _ c.from_residual.result refl
