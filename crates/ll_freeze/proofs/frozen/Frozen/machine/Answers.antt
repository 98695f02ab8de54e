use Rattle.std.proofs.lemmas.Result.{IfOk-from_err}
use Rattle.std.proofs.Common.{ap, ◌∙◌}
use Rattle.ll_freeze.specs.Frozen.{FrozenSight}
use Rattle.ll_freeze.specs.Onward.{base_in}
use Rattle.ll_freeze.proofs.frozen.Frozen.machine.Goals as goal

pub machine_over-requires : goal.machine_over-requires
machine_over-requires c = ap base_in c.in_ok-store.ensures ∙ ap (λ (f : FrozenSight). f.base) c.self.view_is

pub returns-in_err-store : goal.returns-in_err-store
returns-in_err-store c = IfOk-from_err c.from_residual.result _ c.from_residual.ensures.0
