-- What a test of numbers makes of a sequent.
use Rattle.std.specs.Prelude.{◌≡◌, ℕ, Bool, if◌then◌else◌, List, []}
use Rattle.ll_bank.specs.Nodes.{Nodes}
use Rattle.ll_laws.specs.Fault.{is_empty}
use Rattle.ll_laws.specs.Module.{ModuleTree}
use Rattle.ll_sequent.specs.declared.sequents.Resource.{Resource}
use Rattle.ll_sequent.specs.declared.sequents.Sequent.{Sequent}
use Rattle.ll_sequent.specs.declared.sequents.Step.{Step}
use Rattle.ll_sequent.specs.Sequents.{bounded_in}
use Rattle.ll_sequent.specs.Steps.{Refuses, provided, made_in, IsLeft}

-- refused where bounded clauses are left, or else where the test does not hold; otherwise nothing is left to show
pub record IsTested (s : Sequent) (test : Bool) (step : Step) : Type 0 where
  pub is : (bank : Nodes) (free : List Resource) → made_in bank free step
      ≡ (if is_empty (bounded_in bank s.bounded.items) then provided test 12 [] else Refuses 2)
  pub left : (modules : List ModuleTree) (bank : Nodes) (n : ℕ) → IsLeft modules bank n step
