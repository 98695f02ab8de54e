use Rattle.std.proofs.Common.{◌≡◌, take}
use Rattle.ll_index.specs.Keys.{leaf_keys}
use Rattle.ll_index.proofs.linking.keys_of.Given as goal

abbrev pub invariant-loop-leaf : goal.invariant-loop-leaf
invariant-loop-leaf l = l.keys.items ≡ leaf_keys l.bank l.by_sign (take l.leaf-index l.leaves)
