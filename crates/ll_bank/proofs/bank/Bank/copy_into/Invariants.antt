use Rattle.std.proofs.Common.{take}
use Rattle.std.specs.Ordering.{nat_cmp}
use Rattle.std.specs.BTreeMap.{get}
use Rattle.ll_bank.specs.Nodes.{term_tree}
use Rattle.ll_bank.specs.Walk.{IsCopying}
use Rattle.ll_bank.proofs.bank.Bank.copy_into.Given as goal

abbrev pub invariant-loop-place : goal.invariant-loop-place
invariant-loop-place l = IsCopying l.initial.other l.other (get nat_cmp l.images) (term_tree l.self) (take l.place-index l.place-items)
