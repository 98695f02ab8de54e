use Rattle.std.specs.Prelude.{Some}
use Rattle.std.proofs.Common.{◌∙◌, le_trans}
use Rattle.std.proofs.lemmas.Result.{IfOk-from_err, err_from_is_err_and}
use Rattle.std.specs.Prelude.{codes, decimal, ◌++◌}
use Rattle.ll_list_laws.proofs.CallerLemmas.{OnErr-always as on_err}
use Rattle.ll_laws.specs.Output.{line}
use Rattle.ll_top.specs.texts.Faults.{Faulty, fault_text}
use Rattle.ll_edge.proofs.CallerLemmas.{Rose-later, both-written, first-cut, second-cut}
use Rattle.ll_top.proofs.session.reply_with_fault.Goals as goal

pub returns-in_err-write_heading-clause-prefix : goal.returns-in_err-write_heading-clause-prefix
returns-in_err-write_heading-clause-prefix g c =
    on_err _ (first-cut _ _ (line (codes "query " ++ decimal c.args.fault.at.line)) (fault_text (Faulty c.args.session.now.queries.now c.args.fault))
    c.in_err-write_heading.ensures.prefix)

pub returns-in_err-write_line-clause-prefix : goal.returns-in_err-write_line-clause-prefix
returns-in_err-write_line-clause-prefix g c =
    on_err _ (second-cut _ _ _ (line (codes "query " ++ decimal c.args.fault.at.line)) (fault_text (Faulty c.args.session.now.queries.now c.args.fault))
    c.in_ok-write_heading.ensures.line c.in_err-write_line.ensures.prefix)

pub returns-clause-text : goal.returns-clause-text
returns-clause-text g c =
    both-written (Some (g.O.Sink.taken c.args.sink.now)) _ _ (line (codes "query " ++ decimal c.args.fault.at.line)) (fault_text (Faulty c.args.session.now.queries.now c.args.fault))
    c.in_ok-write_heading.ensures.line c.in_ok-write_line.ensures.line

pub returns-in_err-write_heading-clause-faults_kept : goal.returns-in_err-write_heading-clause-faults_kept
returns-in_err-write_heading-clause-faults_kept g c = c.in_err-write_heading.ensures.faults_kept

pub returns-in_err-write_heading-clause-text : goal.returns-in_err-write_heading-clause-text
returns-in_err-write_heading-clause-text g c = IfOk-from_err c.from_residual.result _ c.from_residual.ensures.0

pub returns-in_err-write_heading-clause-refused : goal.returns-in_err-write_heading-clause-refused
returns-in_err-write_heading-clause-refused g c =
    let p = err_from_is_err_and c.from_residual.result c.from_residual.ensures.1 in
    rw (p.1, p.2) c.in_err-write_heading.ensures.failed

pub returns-in_err-write_line-clause-faults_kept : goal.returns-in_err-write_line-clause-faults_kept
returns-in_err-write_line-clause-faults_kept g c = le_trans c.in_ok-write_heading.ensures.faults_kept c.in_err-write_line.ensures.faults_kept

pub returns-in_err-write_line-clause-text : goal.returns-in_err-write_line-clause-text
returns-in_err-write_line-clause-text g c = IfOk-from_err c.from_residual-in_err-write_line.result _ c.from_residual-in_err-write_line.ensures.0

pub returns-in_err-write_line-clause-refused : goal.returns-in_err-write_line-clause-refused
returns-in_err-write_line-clause-refused g c =
    let p = err_from_is_err_and c.from_residual-in_err-write_line.result c.from_residual-in_err-write_line.ensures.1 in
    rw (p.1, p.2) (Rose-later _ _ _ c.in_ok-write_heading.ensures.faults_kept c.in_err-write_line.ensures.failed)

pub returns-clause-faults_kept : goal.returns-clause-faults_kept
returns-clause-faults_kept g c = le_trans c.in_ok-write_heading.ensures.faults_kept c.in_ok-write_line.ensures.faults_kept

pub returns-clause-sink_told : goal.returns-clause-sink_told
returns-clause-sink_told g c = c.in_ok-write_line.ensures.quiet ∙ c.in_ok-write_heading.ensures.quiet
