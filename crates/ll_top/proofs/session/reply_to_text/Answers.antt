use Rattle.ll_edge.specs.Counts.{Rose}
use denote.Builtin.{unit}
use Rattle.std.specs.Prelude.{Some, Err}
use Rattle.std.proofs.Common.{refl}
use Rattle.ll_list_laws.proofs.CallerLemmas.{OnOk-weaker as on-ok}
use Rattle.ll_parser.specs.Raw.{ProgramTree}
use Rattle.ll_top.specs.texts.Judging.{IsFaultless}
use Rattle.ll_top.specs.Shown.{WritesReplies}
use Rattle.ll_top.proofs.calls.SessionLemmas.{loaded-program, lines-ended, not-loaded}
use Rattle.ll_top.proofs.judging.ToldLemmas.{sink-still}
use Rattle.ll_top.proofs.session.reply_to_text.Goals as goal

pub reply_over-requires-clause-loaded : goal.reply_over-requires-clause-loaded
reply_over-requires-clause-loaded g c κs within = (c.in-Ok.ensures.part.tree, loaded-program c.args.program.now c.in-Ok.loaded c.in-Ok.ensures.part)

pub returns-in-Ok-clause-ends : goal.returns-in-Ok-clause-ends
returns-in-Ok-clause-ends g c =
    lines-ended (λ x. 0) c.args.session.now.proofs c.args.session.now.queries.now c.args.program.now c.args.text.now c.args.session.now.bound c.in-Ok.loaded
    (Rose (g.O.Sink.faults c.args.sink.now) (g.O.Sink.faults c.reply_over.new.sink)) (Some (g.O.Sink.taken c.args.sink.now)) (Some
    (g.O.Sink.taken c.reply_over.new.sink)) _ c.in-Ok.ensures.part c.reply_over.ensures.ends

pub returns-in-Err-clause-ends : goal.returns-in-Err-clause-ends
returns-in-Err-clause-ends g c = not-loaded {A = unit.Denot} _ (λ x. 0) c.args.program.now _ _ c.in-Err.fault _ c.refusal.ensures c.in-Err.ensures.cause

pub returns-in-Ok-clause-replied : goal.returns-in-Ok-clause-replied
returns-in-Ok-clause-replied g c =
    let part = c.in-Ok.ensures.part in
    on-ok {Q = (tree : ProgramTree) × IsFaultless c.args.program.now tree
    × WritesReplies c.args.session.now.proofs c.args.session.now.queries.now tree c.args.text.now c.args.session.now.bound
    (Some (g.O.Sink.taken c.args.sink.now)) (Some (g.O.Sink.taken c.reply_over.new.sink))}
    c.reply_over.result
    (λ written. (part.tree, part.is_faultless, written part.tree (loaded-program c.args.program.now c.in-Ok.loaded part))) c.reply_over.ensures.replied

pub returns-in-Err-clause-replied : goal.returns-in-Err-clause-replied
returns-in-Err-clause-replied g c = _

pub returns-in-Err-clause-sink_told : goal.returns-in-Err-clause-sink_told
returns-in-Err-clause-sink_told g c = sink-still {A = unit.Denot} _ _ (Err c.refusal.result) refl

pub returns-in-Ok-clause-sink_told : goal.returns-in-Ok-clause-sink_told
returns-in-Ok-clause-sink_told g c = c.reply_over.ensures.sink_told
