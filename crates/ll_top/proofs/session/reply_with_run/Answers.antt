use denote.Builtin.{unit}
use Rattle.std.specs.Prelude.{Some}
use Rattle.std.proofs.Common.{◌∙◌, le_trans, Err}
use Rattle.std.proofs.lemmas.Result.{IfOk-from_err, err_from_is_err_and}
use Rattle.std.specs.Prelude.{codes, decimal, ◌++◌}
use Rattle.ll_list_laws.proofs.CallerLemmas.{OnErr-always as on_err}
use Rattle.ll_laws.specs.Output.{line}
use Rattle.ll_top.specs.Outcome.{whole_text}
use Rattle.ll_edge.proofs.CallerLemmas.{both-written, first-cut, second-cut}
use Rattle.ll_top.proofs.outcomes.OwnLemmas.{refusal-later}
use Rattle.ll_top.proofs.judging.ToldLemmas.{sink-later}
use Rattle.ll_top.proofs.session.reply_with_run.Goals as goal

pub returns-in_err-write_heading-clause-prefix : goal.returns-in_err-write_heading-clause-prefix
returns-in_err-write_heading-clause-prefix g c =
    on_err _ (first-cut _ _ (line (codes "query " ++ decimal c.args.number)) (whole_text c.args.base.now.session.now.proofs c.args.problem.now)
    c.in_err-write_heading.ensures.prefix)

pub returns-in_err-run-clause-refused : goal.returns-in_err-run-clause-refused
returns-in_err-run-clause-refused g c =
    let p = err_from_is_err_and c.from_residual-in_err-run.result c.from_residual-in_err-run.ensures.1 in
    rw (p.1, p.2) (refusal-later _ _ _ _ c.in_ok-write_heading.ensures.faults_kept c.in_err-run.ensures.refused)

pub returns-in_err-run-clause-prefix : goal.returns-in_err-run-clause-prefix
returns-in_err-run-clause-prefix g c =
    on_err _ (second-cut _ _ _ (line (codes "query " ++ decimal c.args.number)) (whole_text c.args.base.now.session.now.proofs c.args.problem.now)
    c.in_ok-write_heading.ensures.line c.in_err-run.ensures.prefix)

pub returns-clause-text : goal.returns-clause-text
returns-clause-text g c =
    both-written (Some (g.O.Sink.taken c.args.sink.now)) _ _ (line (codes "query " ++ decimal c.args.number)) (whole_text c.args.base.now.session.now.proofs c.args.problem.now)
    c.in_ok-write_heading.ensures.line c.in_ok-run.ensures.text

pub returns-in_err-write_heading-clause-faults_kept : goal.returns-in_err-write_heading-clause-faults_kept
returns-in_err-write_heading-clause-faults_kept g c = c.in_err-write_heading.ensures.faults_kept

pub returns-in_err-write_heading-clause-text : goal.returns-in_err-write_heading-clause-text
returns-in_err-write_heading-clause-text g c = IfOk-from_err c.from_residual.result _ c.from_residual.ensures.0

pub returns-in_err-write_heading-clause-refused : goal.returns-in_err-write_heading-clause-refused
returns-in_err-write_heading-clause-refused g c =
    let p = err_from_is_err_and c.from_residual.result c.from_residual.ensures.1 in
    rw (p.1, p.2) c.in_err-write_heading.ensures.failed

pub returns-in_err-run-clause-faults_kept : goal.returns-in_err-run-clause-faults_kept
returns-in_err-run-clause-faults_kept g c = le_trans c.in_ok-write_heading.ensures.faults_kept c.in_err-run.ensures.faults_kept

pub returns-in_err-run-clause-text : goal.returns-in_err-run-clause-text
returns-in_err-run-clause-text g c = IfOk-from_err c.from_residual-in_err-run.result _ c.from_residual-in_err-run.ensures.0

pub returns-clause-faults_kept : goal.returns-clause-faults_kept
returns-clause-faults_kept g c = le_trans c.in_ok-write_heading.ensures.faults_kept c.in_ok-run.ensures.faults_kept

pub returns-in_err-run-clause-sink_told : goal.returns-in_err-run-clause-sink_told
returns-in_err-run-clause-sink_told g c =
    let p = err_from_is_err_and c.from_residual-in_err-run.result c.from_residual-in_err-run.ensures.1 in
    rw (p.1, p.2) (sink-later {A = unit.Denot} _ _ _ (Err _) c.in_ok-write_heading.ensures.quiet c.in_err-run.ensures.sink_told)

pub returns-clause-sink_told : goal.returns-clause-sink_told
returns-clause-sink_told g c = c.in_ok-run.ensures.sink_told ∙ c.in_ok-write_heading.ensures.quiet
