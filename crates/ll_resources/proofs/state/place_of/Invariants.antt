use Rattle.std.proofs.Common.{◌≡◌, ◌+◌, drop}
use Rattle.std.specs.Prelude.{reverse}
use Rattle.ll_resources.specs.Raw.{first_place}
use Rattle.ll_resources.proofs.state.place_of.Given as goal

-- the place is among the rest
abbrev pub invariant-loop-i : goal.invariant-loop-i
invariant-loop-i g l = first_place l.label (reverse l.entries) ≡ l.i + first_place l.label (drop l.i (reverse l.entries))
