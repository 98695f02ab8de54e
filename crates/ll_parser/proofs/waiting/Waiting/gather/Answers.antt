use Rattle.std.proofs.lemmas.Result.{IfOk-from_err}
use Rattle.ll_parser.proofs.machines.Handing.{gathering-begins, gathering-node, gathering-more, gathering-less, gathering-ends}
use Rattle.ll_parser.proofs.waiting.Waiting.gather.Goals as goal

pub loop-sign-init : goal.loop-sign-init
loop-sign-init c = gathering-begins c.args.self.now c.args.term c.requires.fits c.requires.term

pub pop_cell-requires : goal.pop_cell-requires
pop_cell-requires c = c.loop-sign.invariant.fits

pub cons-requires-clause-fits : goal.cons-requires-clause-fits
cons-requires-clause-fits c = c.in-Some.ensures.some.fits

pub cons-requires-clause-first : goal.cons-requires-clause-first
cons-requires-clause-first c = c.in-Some.ensures.some.inside

pub cons-requires-clause-rest : goal.cons-requires-clause-rest
cons-requires-clause-rest c =
    gathering-node c.args.self.now c.loop-sign.self c.args.term c.loop-sign.at c.loop-sign.invariant c.pop_cell.new.self
    c.in-Some.sign c.in-Some.first c.in-Some.ensures.some

pub returns-in_err-at-clause-gives : goal.returns-in_err-at-clause-gives
returns-in_err-at-clause-gives c = IfOk-from_err c.from_residual.result _ c.from_residual.ensures.0

pub returns-in_err-at-clause-grows : goal.returns-in_err-at-clause-grows
returns-in_err-at-clause-grows c = IfOk-from_err c.from_residual.result _ c.from_residual.ensures.0

pub loop-sign-smaller : goal.loop-sign-smaller
loop-sign-smaller c =
    gathering-less c.args.self.now c.loop-sign.self c.args.term c.loop-sign.at c.loop-sign.invariant c.pop_cell.new.self
    c.in-Some.sign c.in-Some.first c.in-Some.ensures.some c.cons.new.self c.in_ok-at.ensures.gives.frames

pub loop-sign-preserved : goal.loop-sign-preserved
loop-sign-preserved c =
    gathering-more c.args.self.now c.loop-sign.self c.args.term c.loop-sign.at c.loop-sign.invariant c.pop_cell.new.self
    c.in-Some.sign c.in-Some.first c.in-Some.ensures.some c.in-Some.ensures.grows c.cons.new.self c.in_ok-at.at c.in_ok-at.ensures.gives
    c.in_ok-at.ensures.grows

pub returns-clause-gives : goal.returns-clause-gives
returns-clause-gives c =
    gathering-ends c.args.self.now c.loop-sign.self c.args.term c.loop-sign.at c.loop-sign.invariant c.pop_cell.new.self
    c.in_default.ensures.none

pub returns-clause-grows : goal.returns-clause-grows
returns-clause-grows c = λ later e. c.loop-sign.invariant.grows later (c.in_default.ensures.grows later e)
