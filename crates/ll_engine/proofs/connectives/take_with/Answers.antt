use Rattle.std.proofs.lemmas.Result.{IfOk-from_err}
use Rattle.ll_agenda.specs.Frames.{items_at}
use Rattle.ll_freeze.specs.Parts.{parts_of}
use Rattle.ll_freeze.proofs.CallerLemmas.{later_then}
use Rattle.ll_engine.proofs.machine.Keeping.{later_context}
use Rattle.ll_engine.proofs.machine.MachineLemmas.{front_tree}
use Rattle.ll_engine.proofs.inferences.Connecting.{both}
use Rattle.ll_engine.proofs.connectives.take_with.Goals as goal

pub returns-clause-attempts : goal.returns-clause-attempts
returns-clause-attempts c candidate =
    let m = parts_of c.args.machine.now in let h = c.requires.front in
    both m (parts_of c.go_on.new.machine) c.save.new.self.present h.goal c.args.position.environment c.args.first c.args.second c.in_ok-saved.saved
    (items_at m.agenda c.args.position.rest)
    candidate c.requires.fits h.list (front_tree m _ c.args.position h) h.seen.parts c.in_ok-saved.ensures.number c.in_ok-saved.ensures.kept
    c.in_ok-saved.ensures.same c.in_ok-saved.ensures.saved c.in_ok-go_on.ensures.goes

pub returns-clause-later : goal.returns-clause-later
returns-clause-later c =
    let m = c.args.machine.now in
    later_then m _ c.go_on.new.machine (later_context m c.save.new.self c.save.ensures.marks) c.in_ok-go_on.ensures.later

pub returns-in_err-saved-clause-later : goal.returns-in_err-saved-clause-later
returns-in_err-saved-clause-later c = IfOk-from_err c.from_residual.result _ c.from_residual.ensures.0

pub returns-in_err-go_on-clause-later : goal.returns-in_err-go_on-clause-later
returns-in_err-go_on-clause-later c = IfOk-from_err c.from_residual-in_err-go_on.result _ c.from_residual-in_err-go_on.ensures.0
