use Rattle.std.proofs.Common.{◌≡◌, ℕ, ◌<◌, false, get_or}
use Rattle.std.specs.Prelude.{reverse}
use Rattle.ll_resources.proofs.state.State.any_live.Given as goal

-- the newest entries are not live
abbrev pub invariant-loop-from_front : goal.invariant-loop-from_front
invariant-loop-from_front g l = (j : ℕ) → j < l.from_front → get_or (reverse l.self.live.items) j false ≡ false
