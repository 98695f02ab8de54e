use Rattle.std.proofs.Common.{◌≡◌, refl, subst, IfOk, Some}
use Rattle.ll_list_laws.proofs.CallerLemmas.{OnErr-always as on_err}
use Rattle.ll_top.specs.Endings.{status_of_found}
use Rattle.ll_top.specs.MadeRuns.{last_line}
use Rattle.ll_edge.proofs.CallerLemmas.{no_front}
use Rattle.ll_top.proofs.writing.RunLemmas.{on_ok_map, on_err_map}
use Rattle.ll_top.proofs.calls.RunLemmas.{run-status}
use Rattle.ll_top.proofs.calls.MadeRunLemmas.{line-written, line-cut}
use Rattle.ll_top.proofs.judging.ToldLemmas.{sink-still}
use Rattle.ll_top.proofs.made_runs.write_counts.Goals as goal

pub returns-in_err-counts-clause-prefix : goal.returns-in_err-counts-clause-prefix
returns-in_err-counts-clause-prefix g c = on_err _ (no_front _ (last_line c.args.problem.now))

pub returns-in_err-counts-clause-sink_told : goal.returns-in_err-counts-clause-sink_told
returns-in_err-counts-clause-sink_told g c = sink-still _ _ c.from_residual-in_err-counts.result refl

pub returns-in_err-index-clause-prefix : goal.returns-in_err-index-clause-prefix
returns-in_err-index-clause-prefix g c = on_err _ (no_front _ (last_line c.args.problem.now))

pub returns-in_err-index-clause-sink_told : goal.returns-in_err-index-clause-sink_told
returns-in_err-index-clause-sink_told g c = sink-still _ _ c.from_residual.result refl

pub returns-clause-found : goal.returns-clause-found
returns-clause-found g c = subst (λ n. IfOk c.write_summary.result (λ found. status_of_found found ≡ n))
    (run-status _ c.in_ok-counts.counts c.in_ok-counts.ensures.counts) c.write_summary.ensures.found

pub returns-clause-line : goal.returns-clause-line
returns-clause-line g c =
    on_ok_map c.write_summary.result _ _ c.write_summary.ensures.text
    (λ w. line-written c.args.problem.now c.in_ok-counts.counts (Some (g.O.Sink.taken c.args.sink.now)) _ c.in_ok-counts.ensures.counts w)

pub returns-clause-prefix : goal.returns-clause-prefix
returns-clause-prefix g c =
    on_err_map c.write_summary.result _ _ c.write_summary.ensures.prefix
    (λ f. line-cut _ c.in_ok-counts.counts _ _ c.in_ok-counts.ensures.counts f)
