use Rattle.std.proofs.lemmas.Result.{IfOk-from_err}
use Rattle.ll_parser.specs.declared.waiting.Frame.TheVariants as frame
use Rattle.ll_parser.specs.Waiting.{Dropped}
use Rattle.ll_parser.proofs.machines.Dropped.{some-frame, dropped, still-node, ends-is, ends-test}
use Rattle.ll_parser.proofs.machines.NumberFrames.{no-goal-none, no-goal-other}
use Rattle.ll_parser.proofs.waiting.Waiting.goal.Goals as goal

pub returns-in-None-clause-gives : goal.returns-in-None-clause-gives
returns-in-None-clause-gives c = no-goal-none c.args.self.now (rw c.deref.ensures.value at c.in-None.ensures)

pub returns-in_default-clause-gives : goal.returns-in_default-clause-gives
returns-in_default-clause-gives c =
    no-goal-other c.args.self.now c.in-Some.frame (rw c.deref.ensures.value at c.in-Some.ensures) c.in_default.not-Is c.in_default.not-Comparison

pub drop_newest-requires : goal.drop_newest-requires
drop_newest-requires c = some-frame c.args.self.now c.in-Some.frame (rw c.deref.ensures.value at c.in-Some.ensures)

pub drop_newest-requires-in-Comparison : goal.drop_newest-requires-in-Comparison
drop_newest-requires-in-Comparison c = some-frame c.args.self.now c.in-Some.frame (rw c.deref.ensures.value at c.in-Some.ensures)

pub add-requires : goal.add-requires
add-requires c =
    let d : Dropped c.args.self.now c.drop_newest.new.self (frame.Is c.in-Is.at c.in-Is.left) =
    dropped c.args.self.now c.drop_newest.new.self c.in-Some.frame (frame.Is c.in-Is.at c.in-Is.left)
    (rw c.deref.ensures.value at c.in-Some.ensures) c.in-Is.is c.drop_newest.ensures.gives in (
      (d.can c.requires.fits).frame,
      still-node c.args.self.now c.drop_newest.new.self (frame.Is c.in-Is.at c.in-Is.left) c.args.expression d c.requires.expression,
    )

pub comparison-requires-clause-fits : goal.comparison-requires-clause-fits
comparison-requires-clause-fits c =
    let d : Dropped c.args.self.now c.drop_newest-in-Comparison.new.self (frame.Comparison c.in-Comparison.op c.in-Comparison.at c.in-Comparison.left) =
    dropped c.args.self.now c.drop_newest-in-Comparison.new.self c.in-Some.frame
    (frame.Comparison c.in-Comparison.op c.in-Comparison.at c.in-Comparison.left)
    (rw c.deref.ensures.value at c.in-Some.ensures) c.in-Comparison.is c.drop_newest-in-Comparison.ensures.gives in
    (d.can c.requires.fits).fits

pub comparison-requires-clause-left : goal.comparison-requires-clause-left
comparison-requires-clause-left c =
    let d : Dropped c.args.self.now c.drop_newest-in-Comparison.new.self (frame.Comparison c.in-Comparison.op c.in-Comparison.at c.in-Comparison.left) =
    dropped c.args.self.now c.drop_newest-in-Comparison.new.self c.in-Some.frame
    (frame.Comparison c.in-Comparison.op c.in-Comparison.at c.in-Comparison.left)
    (rw c.deref.ensures.value at c.in-Some.ensures) c.in-Comparison.is c.drop_newest-in-Comparison.ensures.gives in
    (d.can c.requires.fits).frame

pub comparison-requires-clause-right : goal.comparison-requires-clause-right
comparison-requires-clause-right c =
    let d : Dropped c.args.self.now c.drop_newest-in-Comparison.new.self (frame.Comparison c.in-Comparison.op c.in-Comparison.at c.in-Comparison.left) =
    dropped c.args.self.now c.drop_newest-in-Comparison.new.self c.in-Some.frame
    (frame.Comparison c.in-Comparison.op c.in-Comparison.at c.in-Comparison.left)
    (rw c.deref.ensures.value at c.in-Some.ensures) c.in-Comparison.is c.drop_newest-in-Comparison.ensures.gives in
    still-node c.args.self.now c.drop_newest-in-Comparison.new.self (frame.Comparison c.in-Comparison.op c.in-Comparison.at c.in-Comparison.left)
    c.args.expression d c.requires.expression

pub returns-in_ok-goal-in-Is-clause-gives : goal.returns-in_ok-goal-in-Is-clause-gives
returns-in_ok-goal-in-Is-clause-gives c =
    let d : Dropped c.args.self.now c.drop_newest.new.self (frame.Is c.in-Is.at c.in-Is.left) =
    dropped c.args.self.now c.drop_newest.new.self c.in-Some.frame (frame.Is c.in-Is.at c.in-Is.left)
    (rw c.deref.ensures.value at c.in-Some.ensures) c.in-Is.is c.drop_newest.ensures.gives in
    ends-is c.args.self.now c.drop_newest.new.self c.add.new.self c.requires.fits c.in-Is.left c.args.expression c.in_ok-goal-in-Is.goal c.in-Is.at d
    c.in_ok-goal-in-Is.ensures.gives

pub returns-in_ok-goal-in-Comparison-clause-gives : goal.returns-in_ok-goal-in-Comparison-clause-gives
returns-in_ok-goal-in-Comparison-clause-gives c =
    let d : Dropped c.args.self.now c.drop_newest-in-Comparison.new.self (frame.Comparison c.in-Comparison.op c.in-Comparison.at c.in-Comparison.left) =
    dropped c.args.self.now c.drop_newest-in-Comparison.new.self c.in-Some.frame
    (frame.Comparison c.in-Comparison.op c.in-Comparison.at c.in-Comparison.left)
    (rw c.deref.ensures.value at c.in-Some.ensures) c.in-Comparison.is c.drop_newest-in-Comparison.ensures.gives in
    ends-test c.args.self.now c.drop_newest-in-Comparison.new.self c.comparison.new.self c.requires.fits c.in-Comparison.left c.args.expression
    c.in_ok-goal-in-Comparison.goal c.in-Comparison.op c.in-Comparison.at d c.in_ok-goal-in-Comparison.ensures.gives

pub returns-in_ok-goal-in-Is-clause-grows : goal.returns-in_ok-goal-in-Is-clause-grows
returns-in_ok-goal-in-Is-clause-grows c = λ later e. c.drop_newest.ensures.grows later (c.in_ok-goal-in-Is.ensures.grows later e)

pub returns-in_ok-goal-in-Comparison-clause-grows : goal.returns-in_ok-goal-in-Comparison-clause-grows
returns-in_ok-goal-in-Comparison-clause-grows c = λ later e.
    c.drop_newest-in-Comparison.ensures.grows later (c.in_ok-goal-in-Comparison.ensures.grows later e)

pub returns-in_err-goal-in-Is-clause-gives : goal.returns-in_err-goal-in-Is-clause-gives
returns-in_err-goal-in-Is-clause-gives c = IfOk-from_err c.from_residual.result _ c.from_residual.ensures.0

pub returns-in_err-goal-in-Is-clause-grows : goal.returns-in_err-goal-in-Is-clause-grows
returns-in_err-goal-in-Is-clause-grows c = IfOk-from_err c.from_residual.result _ c.from_residual.ensures.0

pub returns-in_err-goal-in-Comparison-clause-gives : goal.returns-in_err-goal-in-Comparison-clause-gives
returns-in_err-goal-in-Comparison-clause-gives c =
    IfOk-from_err c.from_residual-in_err-goal-in-Comparison.result _ c.from_residual-in_err-goal-in-Comparison.ensures.0

pub returns-in_err-goal-in-Comparison-clause-grows : goal.returns-in_err-goal-in-Comparison-clause-grows
returns-in_err-goal-in-Comparison-clause-grows c =
    IfOk-from_err c.from_residual-in_err-goal-in-Comparison.result _ c.from_residual-in_err-goal-in-Comparison.ensures.0
