use Rattle.std.proofs.Common.{arith}
use Rattle.ll_unify.proofs.bind.is_new.Goals as goal

pub value-requires : goal.value-requires
value-requires g c = let l = c.requires.below in let e = c.requires.table.bound in omega (arith, l, e)
