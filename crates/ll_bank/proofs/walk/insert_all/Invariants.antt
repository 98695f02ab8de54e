use Rattle.std.proofs.Common.{◌≡◌, ℕ, ◌||◌, take}
use Rattle.std.specs.Prelude.{nat_eq}
use Rattle.std.specs.List.{list_any}
use Rattle.std.specs.Ordering.{nat_cmp}
use Rattle.std.specs.BTreeSet.{contains}
use Rattle.ll_bank.specs.Nodes.{places}
use Rattle.ll_bank.proofs.walk.insert_all.Given as goal

abbrev pub invariant-loop-place : goal.invariant-loop-place
invariant-loop-place l = (at : ℕ) → contains nat_cmp l.waiting at ≡ (contains nat_cmp l.initial.waiting at
    || list_any (nat_eq at) (take l.place-index (places l.more)))
