use Rattle.std.specs.Prelude.{Some}
use Rattle.std.proofs.Common.{◌≡◌, subst, IfOk, le_trans}
use Rattle.std.proofs.lemmas.Result.{IfOk-from_err, err_from_is_err_and}
use Rattle.ll_list_laws.proofs.CallerLemmas.{OnErr-always as on_err}
use Rattle.ll_top.specs.Endings.{status_of_found}
use Rattle.ll_top.proofs.writing.RunLemmas.{on_ok_map, on_err_map}
use Rattle.ll_top.proofs.calls.EndLemmas.{end-status, text-ended, text-cut}
use Rattle.ll_top.proofs.outcomes.OwnLemmas.{refused-later}
use Rattle.ll_top.proofs.judging.ToldLemmas.{sink-later}
use Rattle.ll_top.proofs.run.run.Goals as goal

pub returns-clause-found : goal.returns-clause-found
returns-clause-found g c = subst (λ n. IfOk c.write_end.result (λ found. status_of_found found ≡ n))
    (end-status c.args.wanted.now.limit c.args.wanted.now.problem.now c.in_ok-ended.ended c.in_ok-ended.ensures.ended) c.write_end.ensures.found

pub returns-clause-text : goal.returns-clause-text
returns-clause-text g c =
    on_ok_map c.write_end.result _ _ c.write_end.ensures.text
    (λ w. text-ended c.args.wanted.now.limit c.args.wanted.now.problem.now c.args.wanted.now.proofs c.in_ok-ended.ended c.in_ok-ended.ensures.ended
    (Some (g.O.Sink.taken c.args.sink.now)) _ _ c.in_ok-ended.ensures.lines w)

pub returns-clause-prefix : goal.returns-clause-prefix
returns-clause-prefix g c =
    on_err_map c.write_end.result _ _ c.write_end.ensures.prefix
    (λ f. text-cut c.args.wanted.now.limit c.args.wanted.now.problem.now c.args.wanted.now.proofs c.in_ok-ended.ended c.in_ok-ended.ensures.ended
    _ _ _ c.in_ok-ended.ensures.lines f)

pub returns-in_err-ended-clause-faults_kept : goal.returns-in_err-ended-clause-faults_kept
returns-in_err-ended-clause-faults_kept g c = c.in_err-ended.ensures.faults_kept

pub returns-in_err-ended-clause-found : goal.returns-in_err-ended-clause-found
returns-in_err-ended-clause-found g c = IfOk-from_err c.from_residual.result _ c.from_residual.ensures.0

pub returns-in_err-ended-clause-text : goal.returns-in_err-ended-clause-text
returns-in_err-ended-clause-text g c = IfOk-from_err c.from_residual.result _ c.from_residual.ensures.0

pub returns-in_err-ended-clause-refused : goal.returns-in_err-ended-clause-refused
returns-in_err-ended-clause-refused g c =
    let p = err_from_is_err_and c.from_residual.result c.from_residual.ensures.1 in
    rw (p.1, p.2) c.in_err-ended.ensures.refused

pub returns-in_err-ended-clause-prefix : goal.returns-in_err-ended-clause-prefix
returns-in_err-ended-clause-prefix g c = on_err _ c.in_err-ended.ensures.prefix

pub returns-clause-faults_kept : goal.returns-clause-faults_kept
returns-clause-faults_kept g c = le_trans c.in_ok-ended.ensures.faults_kept c.write_end.ensures.faults_kept

pub returns-clause-refused : goal.returns-clause-refused
returns-clause-refused g c = refused-later _ _ _ _ c.in_ok-ended.ensures.faults_kept c.write_end.ensures.refused

pub returns-in_err-ended-clause-sink_told : goal.returns-in_err-ended-clause-sink_told
returns-in_err-ended-clause-sink_told g c =
    let p = err_from_is_err_and c.from_residual.result c.from_residual.ensures.1 in rw (p.1, p.2) (c.in_err-ended.ensures.sink_told)

pub returns-clause-sink_told : goal.returns-clause-sink_told
returns-clause-sink_told g c = sink-later _ _ _ _ c.in_ok-ended.ensures.sink_told c.write_end.ensures.sink_told
