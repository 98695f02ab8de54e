-- Choice points that are split off, the oldest first.
use Rattle.std.specs.Prelude.{◌≡◌, ℕ, ◌≤◌, ◌<◌, suc, ◌+◌, ◌++◌, false, [], ◌∷◌, length, flat_map, sum_by, Option, Some, None}
use Rattle.ll_laws.specs.declared.Event.{Event}
use Rattle.ll_laws.specs.Pool.{Owed}
use Rattle.ll_freeze.specs.Parts.{Base}
use Rattle.ll_freeze.specs.Frozen.{FrozenSight, alternatives_in}
use Rattle.ll_engine.specs.Seen.{Point, Choices, Owing}

-- a batch was split off: what was owed is what is now owed, followed by what the batch owes, and the costs add up
pub record SplitsTo (old : Owing) (b : FrozenSight) (new : Owing) : Type 0 where
  pub problem : new.problem ≡ old.problem
  pub of : b.problem ≡ old.problem
  pub first : new.first ≡ old.first
  pub going : new.spent ≡ false
  pub points : old.points ≡ suc new.points
  pub splits : new.splits ≡ suc old.splits
  pub events : old.events ≡ new.events ++ flat_map (λ (o : Owed Event). o.events) (alternatives_in b)
  pub cost : old.cost ≡ new.cost + sum_by (λ (o : Owed Event). o.cost) (alternatives_in b)
  pub some : 0 < length (alternatives_in b)
  pub work : new.work ≤ old.work
  pub made : new.made ≡ old.made

-- nothing was split off exactly where no choice point has a candidate that was not tried yet
abbrev pub Splits : Owing → Option FrozenSight → Owing → Type 0
Splits old None new = (new ≡ old) × (old.points ≡ 0)
Splits old (Some b) new = SplitsTo old b new

-- the batch is this choice point, with this base, and shares with so many
abbrev pub frozen_point : Choices → Point → Base → ℕ → FrozenSight
frozen_point z p base depth = record {
  problem = z.problem;
  state = p.state;
  left = suc p.left;
  untried = p.untried;
  starts = false;
  base = base;
  depth =
      depth;
}

-- the oldest choice point was taken away, and is the batch
pub record TakesOldest (old : Choices) (b : FrozenSight) (new : Choices) : Type 0 where
  pub oldest : Point
  pub some : oldest.untried ≡ [] → ⊥
  pub points : old.points ≡ new.points ++ oldest ∷ []
  pub same : new ≡ record old { points = new.points }
  pub base : Base
  pub depth : ℕ
  pub batch : b ≡ frozen_point old oldest base depth
