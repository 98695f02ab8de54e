use Rattle.std.proofs.Common.{refl, ◌∙◌}
use Rattle.ll_make.proofs.CallerLemmas.{program_short, query_short}
use Rattle.ll_top.specs.forms.Words.{shown_made_run}
use Rattle.ll_top.proofs.calls.MadeRunLemmas.{unjudged, counted-ends}
use Rattle.ll_top.proofs.judging.ToldLemmas.{sink-still}
use Rattle.ll_top.proofs.made_runs.run_made.Goals as goal

pub problem_of-requires-clause-program : goal.problem_of-requires-clause-program
problem_of-requires-clause-program g c = rw (c.deref.ensures.value, c.in_ok-text.ensures)
    (program_short c.args.run.make.kind c.args.run.make.number c.requires.fits)

pub problem_of-requires-clause-query : goal.problem_of-requires-clause-query
problem_of-requires-clause-query g c = rw (c.as_bytes-asked.ensures.value, c.query.ensures) (query_short c.args.run.make.kind)

pub returns-in_err-problem-clause-ends : goal.returns-in_err-problem-clause-ends
returns-in_err-problem-clause-ends g c =
    unjudged _ (shown_made_run c.args.run) _ _ _ _ _ c.from_residual-in_err-problem.ensures.1 (c.deref.ensures.value ∙ c.in_ok-text.ensures)
    (c.as_bytes-asked.ensures.value ∙ c.query.ensures)
    (λ role f. c.made_asks.ensures.no_fault c.args.run.make.kind c.args.run.make.number role f c.requires.fits) c.in_err-problem.ensures.judges

pub returns-clause-ends : goal.returns-clause-ends
returns-clause-ends g c =
    let asks = rw (c.deref.ensures.value, c.in_ok-text.ensures, c.as_bytes-asked.ensures.value, c.query.ensures) at c.in_ok-problem.ensures.judges in
    counted-ends (shown_made_run c.args.run) _ _ _ _ _ _ asks c.write_counts.ensures.found c.write_counts.ensures.line c.write_counts.ensures.refused
    c.write_counts.ensures.prefix

pub returns-in_err-text-clause-sink_told : goal.returns-in_err-text-clause-sink_told
returns-in_err-text-clause-sink_told g c = sink-still _ _ c.from_residual.result refl

pub returns-in_err-problem-clause-sink_told : goal.returns-in_err-problem-clause-sink_told
returns-in_err-problem-clause-sink_told g c = sink-still _ _ c.from_residual-in_err-problem.result refl

pub returns-clause-sink_told : goal.returns-clause-sink_told
returns-clause-sink_told g c = c.write_counts.ensures.sink_told
