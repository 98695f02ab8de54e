use Rattle.std.proofs.Common.{refl}
use Rattle.ll_parser.specs.Flat.{take_sum}
use Rattle.ll_parser.proofs.machines.NumberFrames.{takes-none, takes-not, no-sum}
use Rattle.ll_parser.proofs.waiting.Waiting.pop_sum.Goals as goal

pub returns-in-None-clause-none : goal.returns-in-None-clause-none
returns-in-None-clause-none c = takes-none take_sum c.args.self.now (rw c.deref.ensures.value at c.in-None.ensures) (λ r. refl)

pub returns-in_default : goal.returns-in_default
returns-in_default c = record {
  none = takes-not take_sum c.args.self.now c.in-Some.frame (rw c.deref.ensures.value at c.in-Some.ensures) (no-sum c.in-Some.frame c.in_default.not-Sum);
  some = tt;
  grows = λ later e. e;
}
