use Rattle.std.specs.List.{IsDistinct}
use Rattle.ll_bank.proofs.texts.Texts.new.Goals as goal

pub invariant_of-result : goal.invariant_of-result
unfolding IsDistinct
invariant_of-result c = rw c.new.ensures.empty tt
