-- What the calls that make a machine answer, and what two machines have in common.
use Rattle.std.specs.Prelude.{◌≡◌}
use Rattle.ll_laws.specs.Problem.{ProblemTree, start_of}
use Rattle.ll_freeze.specs.Parts.{Parts, base_of}
use Rattle.ll_freeze.specs.Shown.{state_of}
use Rattle.ll_freeze.specs.Fits.{Fits}

-- the machine in which the search of a problem starts
pub record IsStart (p : ProblemTree) (m : Parts) : Type 0 where
  pub problem : m.problem ≡ p
  pub state : state_of m ≡ start_of p
  pub left : m.left ≡ p.bound
  pub fits : Fits m

-- the later machine shows what the earlier one shows, and its terms are read in the same
pub record IsImage (old new : Parts) : Type 0 where
  pub problem : new.problem ≡ old.problem
  pub state : state_of new ≡ state_of old
  pub base : base_of new ≡ base_of old
  pub left : new.left ≡ old.left
  pub fits : Fits new

-- the later machine has the problem and the terms of the earlier one
pub record SameTerms (old new : Parts) : Type 0 where
  pub problem : new.problem ≡ old.problem
  pub modules : new.modules ≡ old.modules
  pub bank : new.bank ≡ old.bank
  pub bound : new.bound ≡ old.bound
  pub levels : new.levels ≡ old.levels
  pub terms : new.terms ≡ old.terms
