use Rattle.std.proofs.Common.{sym, subst, ◌∙◌}
use Rattle.std.specs.Prelude.{Ok, Err}
use Rattle.ll_list_laws.proofs.CallerLemmas.{OnOk-weaker as on-ok, OnErr-weaker as on-err}
use Rattle.ll_parser.specs.Raw.{ProgramTree}
use Rattle.ll_session.specs.Queries.{IsProgramOf}
use Rattle.ll_session.specs.Replied.{Replies, RefusesLine, line_refused}
use Rattle.ll_session.proofs.answering.answer_line.Goals as goal

pub reply-requires : goal.reply-requires
reply-requires g c = let l = c.requires.loaded in (c.in-Ok-ask_text.ensures.asks l.0 (subst (IsProgramOf l.0) (sym c.in-Ok.ensures) l.1)).1

pub returns-in-Ok-ask_text-clause-replies : goal.returns-in-Ok-ask_text-clause-replies
returns-in-Ok-ask_text-clause-replies g c =
    on-ok {Q = (program : ProgramTree) → IsProgramOf program c.args.loaded.now
    → Replies g.R.Replies.takes g.R.Replies.breaks program c.args.bound c.args.number c.args.line.now c.args.replies.now c.reply.new.self} c.reply.result
    (λ taken program is. record {
      what = Ok c.in-Ok-ask_text.problem;
      asks =
          (c.in-Ok-ask_text.ensures.asks program (subst (IsProgramOf program) (sym c.in-Ok.ensures) is)).0;
      taken = taken;
    }) c.reply.ensures.taken

pub returns-in-Ok-ask_text-clause-refused : goal.returns-in-Ok-ask_text-clause-refused
returns-in-Ok-ask_text-clause-refused g c =
    on-err {Q = (program : ProgramTree) → IsProgramOf program c.args.loaded.now
    → RefusesLine g.R.Replies.takes g.R.Replies.breaks program c.args.bound c.args.number c.args.line.now c.args.replies.now c.reply.new.self}
    c.reply.result
    (λ broke program is. line_refused (Ok c.in-Ok-ask_text.problem)
    (c.in-Ok-ask_text.ensures.asks program (subst (IsProgramOf program) (sym c.in-Ok.ensures) is)).0 broke) c.reply.ensures.refused

pub returns-in-Err-Text-clause-refused : goal.returns-in-Err-Text-clause-refused
returns-in-Err-Text-clause-refused g c =
    let cause = rw c.in-Err-Text.field-0-is at c.in-Err-Text.ensures.cause in
    on-err {Q = (program : ProgramTree) → IsProgramOf program c.args.loaded.now
    → RefusesLine g.R.Replies.takes g.R.Replies.breaks program c.args.bound c.args.number c.args.line.now c.args.replies.now c.reply-in-Err-Text.new.self}
    c.reply-in-Err-Text.result
    (λ broke program is. line_refused (Err c.on_line.result) (c.in-Err-Text.fault, cause program (c.in-Ok.ensures ∙ is.is), c.on_line.ensures) broke)
    c.reply-in-Err-Text.ensures.refused
