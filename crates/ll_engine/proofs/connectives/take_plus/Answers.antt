use Rattle.std.proofs.lemmas.Result.{IfOk-from_err}
use Rattle.std.proofs.Common.{rules}
use Rattle.ll_agenda.specs.Frames.{items_at}
use Rattle.ll_freeze.specs.Parts.{parts_of}
use Rattle.ll_engine.proofs.machine.MachineLemmas.{front_tree}
use Rattle.ll_engine.proofs.inferences.Connecting.{left, right}
use Rattle.ll_engine.proofs.connectives.take_plus.Goals as goal

pub returns-then-candidate-eq0-clause-attempts : goal.returns-then-candidate-eq0-clause-attempts
returns-then-candidate-eq0-clause-attempts c =
    let m = parts_of c.args.machine.now in let h = c.requires.front in
    left m (parts_of c.go_on.new.machine) h.goal c.args.position.environment c.args.left c.args.right (items_at m.agenda c.args.position.rest)
    c.args.candidate c.requires.fits h.list
    (front_tree m _ c.args.position h) h.seen.parts (search rules) c.in_ok-go_on.ensures.goes

pub returns-clause-attempts : goal.returns-clause-attempts
returns-clause-attempts c =
    let m = parts_of c.args.machine.now in let h = c.requires.front in
    right m (parts_of c.go_on-2.new.machine) h.goal c.args.position.environment c.args.left c.args.right (items_at m.agenda c.args.position.rest)
    c.args.candidate c.requires.fits h.list
    (front_tree m _ c.args.position h) h.seen.parts (search rules) c.in_ok-go_on-2.ensures.goes

pub returns-in_err-go_on-clause-attempts : goal.returns-in_err-go_on-clause-attempts
returns-in_err-go_on-clause-attempts c = IfOk-from_err c.from_residual.result _ c.from_residual.ensures.0

pub returns-in_err-go_on-clause-later : goal.returns-in_err-go_on-clause-later
returns-in_err-go_on-clause-later c = IfOk-from_err c.from_residual.result _ c.from_residual.ensures.0

pub returns-in_err-go_on-2-clause-attempts : goal.returns-in_err-go_on-2-clause-attempts
returns-in_err-go_on-2-clause-attempts c = IfOk-from_err c.from_residual-in_err-go_on-2.result _ c.from_residual-in_err-go_on-2.ensures.0

pub returns-in_err-go_on-2-clause-later : goal.returns-in_err-go_on-2-clause-later
returns-in_err-go_on-2-clause-later c = IfOk-from_err c.from_residual-in_err-go_on-2.result _ c.from_residual-in_err-go_on-2.ensures.0
