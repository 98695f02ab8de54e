use Rattle.std.specs.Prelude.{Some}
use Rattle.std.proofs.Common.{arith, le_trans}
use Rattle.ll_top.specs.forms.Words.{shown_made_run}
use Rattle.ll_top.proofs.calls.MadeRunLemmas.{made-found-ends}
use Rattle.ll_top.proofs.calls.RefusedLemmas.{made-refused, refusal-write}
use Rattle.ll_top.proofs.made_runs.serve_made_run.Goals as goal

pub returns-in-Ok-clause-ends : goal.returns-in-Ok-clause-ends
returns-in-Ok-clause-ends g c = made-found-ends _ (shown_made_run c.args.run) _ _ c.in-Ok.found _ c.found_status.ensures c.in-Ok.ensures.ends

pub returns-in-Ok-clause-write_told : goal.returns-in-Ok-clause-write_told
returns-in-Ok-clause-write_told g c = λ more. let e = c.in-Ok.ensures.sink_told in absurd (omega arith)

pub returns-in-Err-clause-ends : goal.returns-in-Err-clause-ends
returns-in-Err-clause-ends g c =
    made-refused g.O.Sink.faults (λ s. Some (g.O.Sink.taken s)) c.args.sink.now c.run_made.new.sink c.end_refused.new.sink
    c.in-Err.ensures.faults_kept _ _ (shown_made_run c.args.run) c.in-Err.refusal c.in-Err.ensures.ends c.end_refused.ensures.ends

pub returns-in-Err-clause-write_told : goal.returns-in-Err-clause-write_told
returns-in-Err-clause-write_told g c =
    refusal-write _ (g.O.Sink.faults c.run_made.new.sink) _ _ _ _ _ _ _ c.in-Err.refusal c.in-Err.ensures.sink_told c.end_refused.ensures.write_told
    c.end_refused.ensures.ends

pub returns-in-Err-clause-faults_kept : goal.returns-in-Err-clause-faults_kept
returns-in-Err-clause-faults_kept g c = le_trans c.in-Err.ensures.faults_kept c.end_refused.ensures.faults_kept
