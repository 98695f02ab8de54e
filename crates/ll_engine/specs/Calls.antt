-- What the calls of a machine do. Nothing is said of a machine after a refusal.
use Rattle.std.specs.Prelude.{◌≡◌, Bool, true, false, Some, None}
use Rattle.ll_laws.specs.State.{settle}
use Rattle.ll_freeze.specs.Parts.{Parts}
use Rattle.ll_freeze.specs.Shown.{state_of}
use Rattle.ll_freeze.specs.Fits.{Fits}

-- the later machine is the earlier one with its ends in front worked off
pub record IsSettled (old new : Parts) : Type 0 where
  pub settles : settle (state_of old) ≡ Some (state_of new)
  pub fits : Fits new

-- settling gave a state exactly where the answer is true; where it is false an end failed
abbrev pub SettlesOr : Parts → Bool → Parts → Type 0
SettlesOr old true new = IsSettled old new
SettlesOr old false new = settle (state_of old) ≡ None

-- what settling leaves as it is
pub record SameSearch (old new : Parts) : Type 0 where
  pub problem : new.problem ≡ old.problem
  pub left : new.left ≡ old.left
