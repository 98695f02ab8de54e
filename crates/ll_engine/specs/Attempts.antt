-- What an inference by a candidate makes of a machine.
use Rattle.std.specs.Prelude.{◌≡◌, suc, Bool, true, false, Some, None}
use Rattle.ll_laws.specs.declared.Candidate.{Candidate}
use Rattle.ll_laws.specs.Attempt.{attempt}
use Rattle.ll_freeze.specs.Parts.{Parts}
use Rattle.ll_freeze.specs.Shown.{state_of}
use Rattle.ll_freeze.specs.Fits.{Fits, setting}

-- the later machine is the earlier one after an inference by this candidate
pub record Infers (old : Parts) (c : Candidate) (new : Parts) : Type 0 where
  pub gives : attempt (setting old) (state_of old) c ≡ Some (state_of new)
  pub problem : new.problem ≡ old.problem
  pub left : suc new.left ≡ old.left
  pub fits : Fits new

-- an inference by this candidate was made exactly where the answer is true; where it is false there is none
abbrev pub Attempts : Parts → Candidate → Parts → Bool → Type 0
Attempts old c new true = Infers old c new
Attempts old c new false = attempt (setting old) (state_of old) c ≡ None
