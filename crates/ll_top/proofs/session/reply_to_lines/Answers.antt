use Rattle.std.specs.Prelude.{Some}
use denote.Builtin.{unit}
use Rattle.std.proofs.Common.{refl, sym, ◌∙◌, arith, le_refl, le_trans, length, Err}
use Rattle.std.proofs.lemmas.Bool.Decides.{Decides-eqb}
use Rattle.std.proofs.lemmas.Result.{IfOk-from_err, err_from_is_err_and}
use Rattle.ll_session.proofs.CallerLemmas.{none-answered, line-passed, line-answered, line-refused, all-answered}
use Rattle.ll_top.specs.SessionEnds.{WritesReply, CutsReply}
use Rattle.ll_top.proofs.outcomes.OwnLemmas.{refusal-later}
use Rattle.ll_top.proofs.calls.SessionLemmas.{replies-written, replies-valid, lines-stopped}
use Rattle.ll_top.proofs.judging.ToldLemmas.{sink-later}
use Rattle.ll_top.proofs.session.reply_to_lines.Goals as goal

pub loop-rest-init : goal.loop-rest-init
loop-rest-init g c =
    let s = c.args.base.now.session.now in let proofs = s.proofs in let name = s.queries.now in record {
      answered = λ program is. (
        0,
        none-answered (WritesReply proofs name) (CutsReply proofs name) program c.args.text.now s.bound
            (Some (g.O.Sink.taken c.args.sink.now)),
      );
      faults_kept = le_refl _;
      quiet = refl;
      few = let h = c.requires.text in omega arith;
    }

pub loop-rest-preserved-in-Continue-1 : goal.loop-rest-preserved-in-Continue-1
loop-rest-preserved-in-Continue-1 g c =
    let s = c.args.base.now.session.now in let proofs = s.proofs in let name = s.queries.now in
    let i = c.loop-rest.invariant in record {
      answered = λ program is. let a = i.answered program is in (
        _,
        line-answered (WritesReply proofs name) (CutsReply proofs name) program c.args.text.now s.bound (Some (g.O.Sink.taken c.args.sink.now))
            c.loop-rest.number a.0 c.loop-rest.rest.now c.split_line.result.0.now c.split_line.result.1.now (Some (g.O.Sink.taken c.loop-rest.sink))
            c.split_line.ensures.lines a.1 (sym c.if-is_query_line.ensures) (Some (g.O.Sink.taken c.reply_to_line.new.sink))
            (c.in_ok-reply_to_line.ensures.replies program is),
      );
      faults_kept = le_trans i.faults_kept c.in_ok-reply_to_line.ensures.faults_kept;
      quiet = c.in_ok-reply_to_line.ensures.sink_told ∙ i.quiet;
      few = let a = i.few in let b = c.split_line.ensures.shorter in omega arith;
    }

pub loop-rest-preserved : goal.loop-rest-preserved
loop-rest-preserved g c =
    let s = c.args.base.now.session.now in let proofs = s.proofs in let name = s.queries.now in
    let i = c.loop-rest.invariant in record {
      answered = λ program is. let a = i.answered program is in (
        a.0,
        line-passed (WritesReply proofs name) (CutsReply proofs name) program c.args.text.now s.bound (Some (g.O.Sink.taken c.args.sink.now))
            c.loop-rest.number a.0 c.loop-rest.rest.now c.split_line.result.0.now c.split_line.result.1.now (Some (g.O.Sink.taken c.loop-rest.sink))
            c.split_line.ensures.lines a.1 (sym c.if-is_query_line.ensures),
      );
      faults_kept = i.faults_kept;
      quiet = i.quiet;
      few = let a = i.few in let b = c.split_line.ensures.shorter in omega arith;
    }

pub returns-in_err-reply_to_line-clause-ends : goal.returns-in_err-reply_to_line-clause-ends
returns-in_err-reply_to_line-clause-ends g c = λ program is.
    let s = c.args.base.now.session.now in let proofs = s.proofs in let name = s.queries.now in
    let i = c.loop-rest.invariant in let a = i.answered program is in
    let p = err_from_is_err_and c.from_residual.result c.from_residual.ensures.1 in
    rw (p.1, p.2)
    (lines-stopped proofs name program c.args.text.now s.bound (Some (g.O.Sink.taken c.args.sink.now)) (Some
    (g.O.Sink.taken c.reply_to_line.new.sink))
    {A = unit.Denot} (λ x. 0) _ _ _
    (refusal-later _ _ _ _ i.faults_kept c.in_err-reply_to_line.ensures.refused)
    (line-refused (WritesReply proofs name) (CutsReply proofs name) program c.args.text.now s.bound (Some (g.O.Sink.taken c.args.sink.now))
    c.loop-rest.number a.0 c.loop-rest.rest.now c.split_line.result.0.now c.split_line.result.1.now (Some (g.O.Sink.taken c.loop-rest.sink))
    c.split_line.ensures.lines a.1 (sym c.if-is_query_line.ensures) (c.one_session.ensures.some program is.faultless s.bound)
    (Some (g.O.Sink.taken c.reply_to_line.new.sink)) (c.in_err-reply_to_line.ensures.cut program is)))

pub returns-clause-ends : goal.returns-clause-ends
returns-clause-ends g c = λ program is.
    let s = c.args.base.now.session.now in let proofs = s.proofs in let name = s.queries.now in
    let a = c.loop-rest.invariant.answered program is in
    replies-written proofs name program c.args.text.now s.bound (Some (g.O.Sink.taken c.args.sink.now)) (Some
    (g.O.Sink.taken c.loop-rest.sink)) a.0
    (all-answered (WritesReply proofs name) (CutsReply proofs name) program c.args.text.now s.bound (Some (g.O.Sink.taken c.args.sink.now))
    c.loop-rest.number a.0 c.loop-rest.rest.now (Some (g.O.Sink.taken c.loop-rest.sink))
    ((Decides-eqb (length c.loop-rest.rest.now) 0).0 (sym c.loop-rest-test.ensures)) a.1)

pub returns-in_err-reply_to_line-clause-replied : goal.returns-in_err-reply_to_line-clause-replied
returns-in_err-reply_to_line-clause-replied g c = IfOk-from_err c.from_residual.result _ c.from_residual.ensures.0

pub returns-clause-replied : goal.returns-clause-replied
returns-clause-replied g c = λ program is.
    let s = c.args.base.now.session.now in let proofs = s.proofs in let name = s.queries.now in
    let a = c.loop-rest.invariant.answered program is in
    replies-valid proofs name program c.args.text.now s.bound (Some (g.O.Sink.taken c.args.sink.now)) (Some
    (g.O.Sink.taken c.loop-rest.sink)) a.0
    (all-answered (WritesReply proofs name) (CutsReply proofs name) program c.args.text.now s.bound (Some (g.O.Sink.taken c.args.sink.now))
    c.loop-rest.number a.0 c.loop-rest.rest.now (Some (g.O.Sink.taken c.loop-rest.sink))
    ((Decides-eqb (length c.loop-rest.rest.now) 0).0 (sym c.loop-rest-test.ensures)) a.1)

pub returns-in_err-reply_to_line-clause-sink_told : goal.returns-in_err-reply_to_line-clause-sink_told
returns-in_err-reply_to_line-clause-sink_told g c =
    let p = err_from_is_err_and c.from_residual.result c.from_residual.ensures.1 in
    rw (p.1, p.2) (sink-later {A = unit.Denot} _ _ _ (Err _) c.loop-rest.invariant.quiet c.in_err-reply_to_line.ensures.sink_told)

pub returns-clause-sink_told : goal.returns-clause-sink_told
returns-clause-sink_told g c = c.loop-rest.invariant.quiet
