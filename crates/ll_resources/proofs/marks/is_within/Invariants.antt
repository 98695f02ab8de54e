use Rattle.std.proofs.Common.{◌≡◌, ℕ, ◌<◌, false, ◌&&◌, not, get_or}
use Rattle.std.specs.Prelude.{reverse}
use Rattle.ll_resources.proofs.marks.is_within.Given as goal

-- the first places are in order
abbrev pub invariant-loop-i : goal.invariant-loop-i
invariant-loop-i l = (k : ℕ) → k < l.i → (get_or (reverse l.first) k false && not (get_or (reverse l.second) k false)) ≡ false
