use Rattle.std.proofs.Common.{◌≡◌, length}
use Rattle.ll_polarity.proofs.scope.Binders.close_all.Given as goal

abbrev pub invariant-loop-self : goal.invariant-loop-self
invariant-loop-self l = l.self.texts ≡ l.fn.self.texts

abbrev pub decreases-loop-self : goal.decreases-loop-self
decreases-loop-self l = length l.self.scope
