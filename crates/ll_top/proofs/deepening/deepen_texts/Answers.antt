use Rattle.ll_edge.specs.Counts.{Rose}
use Rattle.std.specs.Prelude.{Some}
use Rattle.std.proofs.Common.{refl, le_refl}
use Rattle.std.proofs.lemmas.Result.{IfOk-from_err, err_from_is_err_and}
use Rattle.ll_top.specs.forms.Words.{shown_deepen}
use Rattle.ll_top.proofs.calls.DeepenLemmas.{not-deepened, texts-deepened}
use Rattle.ll_top.proofs.calls.RightLemmas.{FollowingLaws, texts-shown}
use Rattle.ll_top.proofs.judging.ToldLemmas.{shelf-read, shelf-refused, sink-still}
use Rattle.ll_top.proofs.deepening.deepen_texts.Goals as goal

pub returns-in_err-problem-clause-ends : goal.returns-in_err-problem-clause-ends
returns-in_err-problem-clause-ends g c =
    let p = err_from_is_err_and c.from_residual.result c.from_residual.ensures.1 in
    λ told fits. rw (p.1, p.2) (not-deepened told _ _ (shown_deepen c.args.deepen.now) _ _ _ (c.in_err-problem.ensures.prepares told fits))

pub returns-clause-ends : goal.returns-clause-ends
returns-clause-ends g c =
    λ told fits. texts-deepened told _ _ (shown_deepen c.args.deepen.now)
    (Rose (g.O.Sink.faults c.args.sink.now) (g.O.Sink.faults c.run_deepened.new.sink)) c.in_ok-problem.problem
    (Some (g.O.Sink.taken c.args.sink.now)) (Some (g.O.Sink.taken c.run_deepened.new.sink)) _
    (c.in_ok-problem.ensures.prepares told fits) c.run_deepened.ensures.ends

pub returns-in_err-problem-clause-kept : goal.returns-in_err-problem-clause-kept
returns-in_err-problem-clause-kept g c = c.in_err-problem.ensures.kept

pub returns-in_err-problem-clause-sink_faults_kept : goal.returns-in_err-problem-clause-sink_faults_kept
returns-in_err-problem-clause-sink_faults_kept g c = le_refl _

pub returns-clause-kept : goal.returns-clause-kept
returns-clause-kept g c = c.in_ok-problem.ensures.kept

pub returns-clause-sink_faults_kept : goal.returns-clause-sink_faults_kept
returns-clause-sink_faults_kept g c = c.run_deepened.ensures.faults_kept

pub returns-in_err-problem-clause-deepened : goal.returns-in_err-problem-clause-deepened
returns-in_err-problem-clause-deepened g c = IfOk-from_err c.from_residual.result _ c.from_residual.ensures.0

pub returns-clause-deepened : goal.returns-clause-deepened
returns-clause-deepened g c =
    let laws : FollowingLaws = record {
      shown = c.answers_are_shown.ensures;
      answers = c.answers_are_what_follows.ensures.answers;
      instances = c.answers_are_what_follows.ensures.instances;
      answered = c.answers_are_what_follows.ensures.answered;
      nothing = c.answers_are_what_follows.ensures.nothing;
      numberless = c.answers_are_what_follows.ensures.numberless;
    } in
    texts-shown laws (shown_deepen c.args.deepen.now) c.in_ok-problem.problem _ _ _ _ (Some (g.O.Sink.taken c.args.sink.now))
    (Some (g.O.Sink.taken c.run_deepened.new.sink)) c.run_deepened.result c.in_ok-problem.ensures.valid
    c.requires.series.greatest c.in_ok-problem.ensures.prepares c.run_deepened.ensures.ends

pub returns-in_err-problem-clause-shelf_told : goal.returns-in_err-problem-clause-shelf_told
returns-in_err-problem-clause-shelf_told g c =
    let p = err_from_is_err_and c.from_residual.result c.from_residual.ensures.1 in rw (p.1, p.2) (shelf-refused c.in_err-problem.ensures.shelf_told)

pub returns-in_err-problem-clause-sink_told : goal.returns-in_err-problem-clause-sink_told
returns-in_err-problem-clause-sink_told g c = sink-still _ _ c.from_residual.result refl

pub returns-clause-shelf_told : goal.returns-clause-shelf_told
returns-clause-shelf_told g c = shelf-read _ c.in_ok-problem.ensures.shelf_told

pub returns-clause-sink_told : goal.returns-clause-sink_told
returns-clause-sink_told g c = c.run_deepened.ensures.sink_told
