use Rattle.std.proofs.Common.{refl}
use Rattle.ll_parser.specs.Flat.{take_product}
use Rattle.ll_parser.proofs.machines.NumberFrames.{takes-none, takes-not, no-product}
use Rattle.ll_parser.proofs.waiting.Waiting.pop_product.Goals as goal

pub returns-in-None-clause-none : goal.returns-in-None-clause-none
returns-in-None-clause-none c = takes-none take_product c.args.self.now (rw c.deref.ensures.value at c.in-None.ensures) (λ r. refl)

pub returns-in_default : goal.returns-in_default
returns-in_default c = record {
  none = takes-not take_product c.args.self.now c.in-Some.frame (rw c.deref.ensures.value at c.in-Some.ensures)
      (no-product c.in-Some.frame c.in_default.not-Product);
  some = tt;
  grows = λ later e. e;
}
