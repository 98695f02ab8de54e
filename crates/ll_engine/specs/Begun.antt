-- Machines that begin with an alternative of a frozen choice point.
use Rattle.std.specs.Prelude.{◌≡◌, ◌-◌, ℕ, Bool, true, false, []}
use Rattle.ll_freeze.specs.Parts.{Parts}
use Rattle.ll_freeze.specs.Frozen.{FrozenSight, first_in}
use Rattle.ll_engine.specs.Seen.{Choices}
use Rattle.ll_engine.specs.Turned.{Gave}
use Rattle.ll_engine.specs.Pointed.{IsRunning, choices_at}

-- how many inferences a branch may make from the state that an alternative gives
abbrev pub left_by : Bool → FrozenSight → ℕ
left_by true f = f.problem.bound
left_by false f = f.left - 1

-- the machine is in the state that alternative k gives, if it gives one
pub record BeginsIn (f : FrozenSight) (k : ℕ) (began : Bool) (m : Parts) : Type 0 where
  pub gives : Gave (first_in f k) (left_by f.starts f) began (choices_at (first_in f k) f.problem m [])
  pub runs : IsRunning began f.problem m

-- with no choice point
pub record Begins (f : FrozenSight) (k : ℕ) (began : Bool) (z : Choices) : Type 0 where
  pub problem : z.problem ≡ f.problem
  pub first : z.first ≡ first_in f k
  pub gives : Gave (first_in f k) (left_by f.starts f) began z
  pub points : z.points ≡ []
