use Rattle.std.specs.Ordering.{nat_cmp}
use Rattle.std.specs.BTreeSet.{contains}
use Rattle.ll_bank.specs.Walk.{IsWalking}
use Rattle.ll_bank.proofs.Ceiling.{ceiling}
use Rattle.ll_bank.proofs.walk.terms_under.Given as goal

abbrev pub invariant-loop-place : goal.invariant-loop-place
invariant-loop-place l = IsWalking l.bank l.roots (contains nat_cmp l.waiting) l.places.items

abbrev pub decreases-loop-place : goal.decreases-loop-place
decreases-loop-place l = ceiling l.waiting.keys
