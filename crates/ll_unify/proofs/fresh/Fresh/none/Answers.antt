use Rattle.std.proofs.Common.{◌-◌}
use Rattle.ll_unify.proofs.FreshLemmas.{none-false}
use Rattle.ll_unify.proofs.fresh.Fresh.none.Goals as goal

pub returns : goal.returns
returns c = λ x h. none-false 64 (x - 0) h.1
