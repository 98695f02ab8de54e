use Rattle.std.proofs.lemmas.Result.{IfOk-from_err}
use Rattle.ll_parser.proofs.machines.Handing.{popped-node, reducing-begins, reducing-more, reducing-less, reducing-ends}
use Rattle.ll_parser.proofs.waiting.Waiting.reduce.Goals as goal

pub loop-front-init : goal.loop-front-init
loop-front-init c = reducing-begins c.args.level c.args.self.now c.args.operand c.requires.fits c.requires.operand

pub pop-requires : goal.pop-requires
pop-requires c = c.loop-front.invariant.fits

pub build-requires-clause-front : goal.build-requires-clause-front
build-requires-clause-front c = c.in-Some.ensures.some.can

pub build-requires-clause-operand : goal.build-requires-clause-operand
build-requires-clause-operand c =
    popped-node c.args.level c.loop-front.self c.pop.new.self c.in-Some.front c.loop-front.at c.in-Some.ensures.some c.loop-front.invariant.inside

pub returns-in_err-at-clause-gives : goal.returns-in_err-at-clause-gives
returns-in_err-at-clause-gives c = IfOk-from_err c.from_residual.result _ c.from_residual.ensures.0

pub returns-in_err-at-clause-grows : goal.returns-in_err-at-clause-grows
returns-in_err-at-clause-grows c = IfOk-from_err c.from_residual.result _ c.from_residual.ensures.0

pub loop-front-smaller : goal.loop-front-smaller
loop-front-smaller c =
    reducing-less c.args.level c.args.self.now c.loop-front.self c.args.operand c.loop-front.at c.loop-front.invariant c.pop.new.self c.in-Some.front
    c.in-Some.ensures.some c.build.new.self c.in_ok-at.at c.in_ok-at.ensures.gives

pub loop-front-preserved : goal.loop-front-preserved
loop-front-preserved c =
    reducing-more c.args.level c.args.self.now c.loop-front.self c.args.operand c.loop-front.at c.loop-front.invariant c.pop.new.self c.in-Some.front
    c.in-Some.ensures.some c.in-Some.ensures.grows c.build.new.self c.in_ok-at.at c.in_ok-at.ensures.gives c.in_ok-at.ensures.grows

pub returns-clause-gives : goal.returns-clause-gives
returns-clause-gives c =
    reducing-ends c.args.level c.args.self.now c.loop-front.self c.args.operand c.loop-front.at c.loop-front.invariant c.pop.new.self
    c.in_default.ensures.none

pub returns-clause-grows : goal.returns-clause-grows
returns-clause-grows c = λ later e. c.loop-front.invariant.grows later (c.in_default.ensures.grows later e)
