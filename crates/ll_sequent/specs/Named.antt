-- The clauses that labels name, as they are kept.
use Rattle.std.specs.Prelude.{◌≡◌, ℕ, Bool, ◌&&◌, List, nat_eq}
use Rattle.std.specs.List.{list_any, list_all}
use Rattle.ll_bank.specs.Nodes.{Nodes}
use Rattle.ll_laws.specs.Module.{Setting, ModuleTree}
use Rattle.ll_laws.specs.Number.{Operators}
use Rattle.ll_laws.specs.Shows.{has, one_of}
use Rattle.ll_laws.specs.Line.{Line}
use Rattle.ll_sequent.specs.declared.sequents.Resource.{Resource}
use Rattle.ll_sequent.specs.declared.sequents.Sequent.{Sequent}
use Rattle.ll_sequent.specs.declared.sequents.Step.{Step}
use Rattle.ll_sequent.specs.declared.sequents.Step.TheVariants.{Refused, Leaves}
use Rattle.ll_sequent.specs.Sequents.{sequent_in, IsSequent}
use Rattle.ll_sequent.specs.Steps.{made_in, made_at, IsLeft}

-- one of the clauses has the label
abbrev pub has_resource : List Resource → ℕ → Bool
has_resource rs n = list_any (λ (r : Resource). nat_eq n r.label) rs

-- the two sets hold the label of each clause exactly once, and no other
abbrev pub deals : List ℕ → List ℕ → List Resource → Bool
deals s t rs = list_all (has_resource rs) s && list_all (has_resource rs) t && list_all (λ (r : Resource). one_of (has s r.label) (has t r.label)) rs

-- the step leaves these sequents
abbrev pub IsLeaving : List Sequent → Step → Type 0
IsLeaving qs (Refused r) = ⊥
IsLeaving qs (Leaves v) = v.items ≡ qs

-- what a line makes of a sequent, beside any modules and over any unbounded clauses
pub record Makes (bank : Nodes) (line : Line) (s : Sequent) (step : Step) : Type 0 where
  pub is : (b : Setting) (free : List Resource) → made_in bank free step ≡ made_at b line (sequent_in bank free s)
  pub left : (modules : List ModuleTree) → IsSequent modules bank s → IsLeft modules bank s.free step

-- the same of a line that looks at numbers, beside these operators
pub record MakesBy (ops : Operators) (bank : Nodes) (line : Line) (s : Sequent) (step : Step) : Type 0 where
  pub is : (modules : List ModuleTree) (free : List Resource)
      → made_in bank free step ≡ made_at (record { modules = modules; operators = ops }) line (sequent_in bank free s)
  pub left : (modules : List ModuleTree) → IsSequent modules bank s → IsLeft modules bank s.free step
