use Rattle.ll_parser.proofs.machines.Closing.{ends, ends-not}
use Rattle.ll_parser.proofs.waiting.Waiting.finish_operand.Goals as goal

pub returns-in-None-clause-gives : goal.returns-in-None-clause-gives
returns-in-None-clause-gives c = (
  (c.in_ok-formula.ensures.gives.fits, c.in_ok-formula.ensures.gives.inside, rw c.deref.ensures.value at c.in-None.ensures),
  ends c.args.self.now c.reduce.new.self c.args.operand c.in_ok-formula.formula c.in_ok-formula.ensures.gives
      (rw c.deref.ensures.value at c.in-None.ensures),
)

pub returns-in-Some-clause-gives : goal.returns-in-Some-clause-gives
returns-in-Some-clause-gives c = ends-not c.args.self.now c.reduce.new.self c.args.operand c.in_ok-formula.formula c.in_ok-formula.ensures.gives
    c.in-Some.field-0 (rw c.deref.ensures.value at c.in-Some.ensures)
