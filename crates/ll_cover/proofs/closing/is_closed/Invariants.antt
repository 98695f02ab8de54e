use Rattle.std.specs.Ordering.{nat_cmp}
use Rattle.std.specs.BTreeSet.{contains}
use Rattle.ll_bank.proofs.CallerLemmas.{ceiling}
use Rattle.ll_cover.specs.Closing.{IsClosedBy}
use Rattle.ll_cover.proofs.closing.is_closed.Given as goal

abbrev pub invariant-loop-place : goal.invariant-loop-place
invariant-loop-place l = IsClosedBy l.bank l.fn.at.0 (contains nat_cmp l.waiting)

abbrev pub decreases-loop-place : goal.decreases-loop-place
decreases-loop-place l = ceiling l.waiting.keys
