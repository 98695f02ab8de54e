use Rattle.std.proofs.lemmas.Result.{IfOk-from_err}
use Rattle.ll_agenda.specs.Frames.{items_at}
use Rattle.ll_freeze.specs.Parts.{parts_of}
use Rattle.ll_engine.proofs.machine.MachineLemmas.{front_tree}
use Rattle.ll_engine.proofs.inferences.Connecting.{tensor}
use Rattle.ll_engine.proofs.connectives.take_tensor.Goals as goal

pub returns-clause-attempts : goal.returns-clause-attempts
returns-clause-attempts c candidate =
    let m = parts_of c.args.machine.now in let h = c.requires.front in
    tensor m (parts_of c.go_on.new.machine) h.goal c.args.position.environment c.args.first c.args.second (items_at m.agenda c.args.position.rest) candidate
    c.requires.fits h.list (front_tree m _ c.args.position h)
    h.seen.parts c.in_ok-go_on.ensures.goes

pub returns-in_err-go_on-clause-later : goal.returns-in_err-go_on-clause-later
returns-in_err-go_on-clause-later c = IfOk-from_err c.from_residual.result _ c.from_residual.ensures.0
