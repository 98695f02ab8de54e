use Rattle.std.proofs.Common.{◌≡◌, ℕ, length, ◌-◌}
use Rattle.ll_index.specs.declared.laws.First.TheVariants.{Open}
use Rattle.ll_index.specs.declared.key.Key.TheVariants.{Named}
use Rattle.ll_index.specs.Keys.{first_place}
use Rattle.ll_index.specs.Rows.{IsPassed}
use Rattle.ll_index.proofs.index.Index.walked.Given as goal

abbrev pub invariant-walk : goal.invariant-walk
invariant-walk l = (name arguments : ℕ) → l.from ≡ first_place l.self.predicates (Named name arguments Open) (length l.self.keys.items)
    → IsPassed l.self.keys.items name arguments l.first l.at

abbrev pub decreases-walk : goal.decreases-walk
decreases-walk l = length l.self.keys.items - l.at
