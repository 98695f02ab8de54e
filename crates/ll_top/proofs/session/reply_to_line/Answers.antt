use Rattle.std.specs.Prelude.{Some}
use Rattle.std.proofs.Common.{refl, sym, subst, ◌∙◌}
use Rattle.std.specs.Prelude.{Ok, Err}
use Rattle.ll_list_laws.proofs.CallerLemmas.{OnOk-weaker as on-ok, OnErr-weaker as on-err}
use Rattle.ll_parser.specs.Raw.{ProgramTree}
use Rattle.ll_session.specs.Queries.{IsProgramOf, on_line}
use Rattle.ll_session.specs.Replied.{Replies, RefusesLine, line_refused}
use Rattle.ll_top.specs.SessionEnds.{WritesReply, CutsReply}
use Rattle.ll_top.proofs.calls.SessionLemmas.{query-indexed}
use Rattle.ll_top.proofs.judging.ToldLemmas.{sink-still}
use Rattle.ll_top.proofs.session.reply_to_line.Goals as goal

pub reply_with_run-reply-requires-clause-valid : goal.reply_with_run-reply-requires-clause-valid
reply_with_run-reply-requires-clause-valid g c κs within = let l = c.requires.loaded in
    (c.in-Ok.ensures.asks l.0 (subst (IsProgramOf l.0) (sym c.in_ok-part.ensures) l.1)).1

pub reply_with_run-reply-requires-clause-index : goal.reply_with_run-reply-requires-clause-index
reply_with_run-reply-requires-clause-index g c κs within =
    let l = c.requires.loaded in
    query-indexed l.0 c.args.base.now.loaded.now c.args.line.now c.args.base.now.session.now.bound c.in-Ok.problem _ l.1
    (c.in-Ok.ensures.asks l.0 (subst (IsProgramOf l.0) (sym c.in_ok-part.ensures) l.1)).0 c.requires.index

pub returns-in-Ok-clause-replies : goal.returns-in-Ok-clause-replies
returns-in-Ok-clause-replies g c =
    let s = c.args.base.now.session.now in
    on-ok
    {Q = (program : ProgramTree) → IsProgramOf program c.args.base.now.loaded.now
    → Replies (WritesReply s.proofs s.queries.now) (CutsReply s.proofs s.queries.now) program s.bound c.args.number c.args.line.now
    (Some (g.O.Sink.taken c.args.sink.now)) (Some (g.O.Sink.taken c.reply_with_run-reply.new.sink))}
    c.reply_with_run-reply.result
    (λ taken program is. record {
      what = Ok c.in-Ok.problem;
      asks =
          (c.in-Ok.ensures.asks program (subst (IsProgramOf program) (sym c.in_ok-part.ensures) is)).0;
      taken = (taken, (c.in-Ok.ensures.asks program (subst (IsProgramOf program) (sym c.in_ok-part.ensures) is)).1);
    }) c.reply_with_run-reply.ensures.text

pub returns-in-Ok-clause-cut : goal.returns-in-Ok-clause-cut
returns-in-Ok-clause-cut g c =
    let s = c.args.base.now.session.now in
    on-err
    {Q = (program : ProgramTree) → IsProgramOf program c.args.base.now.loaded.now
    → RefusesLine (WritesReply s.proofs s.queries.now) (CutsReply s.proofs s.queries.now) program s.bound c.args.number c.args.line.now
    (Some (g.O.Sink.taken c.args.sink.now)) (Some (g.O.Sink.taken c.reply_with_run-reply.new.sink))}
    c.reply_with_run-reply.result
    (λ broke program is. line_refused (Ok c.in-Ok.problem) (c.in-Ok.ensures.asks program (subst (IsProgramOf program) (sym c.in_ok-part.ensures) is)).0 broke)
    c.reply_with_run-reply.ensures.prefix

pub returns-in-Err-Text-clause-replies : goal.returns-in-Err-Text-clause-replies
returns-in-Err-Text-clause-replies g c =
    let s = c.args.base.now.session.now in
    let cause = rw c.in-Err-Text.field-0-is at c.in-Err-Text.ensures.cause in
    let asked = rw c.on_line.ensures at c.reply_with_fault.ensures.text in
    on-ok
    {Q = (program : ProgramTree) → IsProgramOf program c.args.base.now.loaded.now
    → Replies (WritesReply s.proofs s.queries.now) (CutsReply s.proofs s.queries.now) program s.bound c.args.number c.args.line.now
    (Some (g.O.Sink.taken c.args.sink.now)) (Some (g.O.Sink.taken c.reply_with_fault.new.sink))}
    c.reply_with_fault.result
    (λ taken program is. record {
      what = Err (on_line c.args.number c.in-Err-Text.fault);
      asks =
          (c.in-Err-Text.fault, cause program (c.in_ok-part.ensures ∙ is.is), refl);
      taken = (taken, tt);
    }) asked

pub returns-in-Err-Text-clause-cut : goal.returns-in-Err-Text-clause-cut
returns-in-Err-Text-clause-cut g c =
    let s = c.args.base.now.session.now in
    let cause = rw c.in-Err-Text.field-0-is at c.in-Err-Text.ensures.cause in
    let asked = rw c.on_line.ensures at c.reply_with_fault.ensures.prefix in
    on-err
    {Q = (program : ProgramTree) → IsProgramOf program c.args.base.now.loaded.now
    → RefusesLine (WritesReply s.proofs s.queries.now) (CutsReply s.proofs s.queries.now) program s.bound c.args.number c.args.line.now
    (Some (g.O.Sink.taken c.args.sink.now)) (Some (g.O.Sink.taken c.reply_with_fault.new.sink))}
    c.reply_with_fault.result
    (λ broke program is. line_refused (Err (on_line c.args.number c.in-Err-Text.fault)) (
      c.in-Err-Text.fault,
      cause program (c.in_ok-part.ensures ∙ is.is),
      refl,
    ) broke) asked

pub returns-in_err-part-clause-sink_told : goal.returns-in_err-part-clause-sink_told
returns-in_err-part-clause-sink_told g c = sink-still _ _ c.from_residual.result refl

pub returns-in-Ok-clause-sink_told : goal.returns-in-Ok-clause-sink_told
returns-in-Ok-clause-sink_told g c = c.reply_with_run-reply.ensures.sink_told

pub returns-in-Err-Text-clause-sink_told : goal.returns-in-Err-Text-clause-sink_told
returns-in-Err-Text-clause-sink_told g c = c.reply_with_fault.ensures.sink_told
