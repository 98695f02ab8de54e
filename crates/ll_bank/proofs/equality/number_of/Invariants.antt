use Rattle.std.proofs.Common.{take}
use Rattle.std.specs.Ordering.{nat_cmp}
use Rattle.std.specs.BTreeMap.{get}
use Rattle.ll_bank.specs.Nodes.{term_tree}
use Rattle.ll_bank.specs.Signs.{Grows, HasNumber}
use Rattle.ll_bank.specs.Walk.{HasImages}
use Rattle.ll_bank.proofs.equality.number_of.Given as goal

abbrev pub invariant-loop-place : goal.invariant-loop-place
invariant-loop-place l = Grows l.initial.signs.keys l.signs.keys × HasImages (HasNumber l.signs.keys) (get nat_cmp l.numbers) (term_tree l.bank) (take
    l.place-index l.place-items)
