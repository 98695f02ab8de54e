use Rattle.std.specs.Prelude.{Some}
use Rattle.std.proofs.Common.{refl, le_refl, le_trans}
use Rattle.std.proofs.lemmas.Result.{err_from_is_err_and}
use Rattle.ll_top.specs.texts.CallEnds.{nothing}
use Rattle.ll_top.proofs.calls.DeepenLemmas.{line-cut, run-deepened}
use Rattle.ll_top.proofs.judging.ToldLemmas.{sink-still, sink-later}
use Rattle.ll_top.proofs.deepening.run_deepened.Goals as goal

pub returns-in_err-write_heading-clause-ends : goal.returns-in_err-write_heading-clause-ends
returns-in_err-write_heading-clause-ends g c =
    let p = err_from_is_err_and c.from_residual-in_err-write_heading.result c.from_residual-in_err-write_heading.ensures.1 in
    rw (p.1, p.2) (line-cut c.args.proofs c.args.series.now c.args.problem.now c.in_ok-bound.bound _ _ _ _ c.in_ok-bound.ensures.decides
    c.in_err-write_heading.ensures.failed c.in_err-write_heading.ensures.prefix)

pub returns-clause-ends : goal.returns-clause-ends
returns-clause-ends g c =
    run-deepened c.args.proofs c.args.series.now c.args.problem.now _ c.in_ok-bound.bound _ _ _ (Some (g.O.Sink.taken c.args.sink.now)) _ _ _
    c.in_ok-bound.ensures.decides
    c.in_ok-bound.ensures.problem c.in_ok-write_heading.ensures.faults_kept
    c.in_ok-write_heading.ensures.line c.run.ensures.found c.run.ensures.text c.run.ensures.refused c.run.ensures.prefix

pub returns-in_err-bound-clause-faults_kept : goal.returns-in_err-bound-clause-faults_kept
returns-in_err-bound-clause-faults_kept g c = le_refl _

pub returns-in_err-bound-clause-ends : goal.returns-in_err-bound-clause-ends
returns-in_err-bound-clause-ends g c =
    let p = err_from_is_err_and c.from_residual-in_err-bound.result c.from_residual-in_err-bound.ensures.1 in
    rw (p.1, p.2, c.in_err-bound.ensures.refused) (nothing refl)

pub returns-in_err-write_heading-clause-faults_kept : goal.returns-in_err-write_heading-clause-faults_kept
returns-in_err-write_heading-clause-faults_kept g c = c.in_err-write_heading.ensures.faults_kept

pub returns-clause-faults_kept : goal.returns-clause-faults_kept
returns-clause-faults_kept g c = le_trans c.in_ok-write_heading.ensures.faults_kept c.run.ensures.faults_kept

pub returns-in_err-bound-clause-sink_told : goal.returns-in_err-bound-clause-sink_told
returns-in_err-bound-clause-sink_told g c = sink-still _ _ c.from_residual-in_err-bound.result refl

pub returns-clause-sink_told : goal.returns-clause-sink_told
returns-clause-sink_told g c = sink-later _ _ _ _ c.in_ok-write_heading.ensures.quiet c.run.ensures.sink_told

pub returns-in_err-index-clause-faults_kept : goal.returns-in_err-index-clause-faults_kept
returns-in_err-index-clause-faults_kept g c = le_refl _

pub returns-in_err-index-clause-ends : goal.returns-in_err-index-clause-ends
returns-in_err-index-clause-ends g c =
    let p = err_from_is_err_and c.from_residual.result c.from_residual.ensures.1 in
    rw (p.1, p.2) (nothing refl)

pub returns-in_err-index-clause-sink_told : goal.returns-in_err-index-clause-sink_told
returns-in_err-index-clause-sink_told g c = sink-still _ _ c.from_residual.result refl
