-- What the checker asks of the modules and of a root, and what it judges.
use Rattle.std.specs.Prelude.{◌≡◌, List, length, All}
use Rattle.ll_bank.specs.Nodes.{Nodes}
use Rattle.ll_laws.specs.Module.{Setting, ModuleTree, ClauseTree}
use Rattle.ll_laws.specs.Number.{Operators}
use Rattle.ll_laws.specs.Valid.{ClauseSide, module_scope}
use Rattle.ll_laws.specs.Shows.{Tree}
use Rattle.ll_laws.specs.Line.{Line}
use Rattle.ll_laws.specs.Fault.{Checked, fault}
use Rattle.ll_sequent.specs.declared.sequents.Resource.{Resource}
use Rattle.ll_sequent.specs.declared.sequents.Sequent.{Sequent}
use Rattle.ll_sequent.specs.declared.sequents.Step.{Step}
use Rattle.ll_sequent.specs.Sequents.{SequentTree, sequent_in, IsSound, IsSequent, AreHeld, Adds}
use Rattle.ll_sequent.specs.Steps.{made_at, made_in, IsLeft}

-- what a derivation is judged beside
abbrev pub beside : Operators → List ModuleTree → Setting
beside ops modules = record { modules = modules; operators = ops }

-- the first fault of a tree at a sequent, its first node being the first one
abbrev pub fault_at : Operators → List ModuleTree → Tree → SequentTree → Checked
fault_at ops modules x q = fault (beside ops modules) 1 x q.free q.bounded q.goal

-- the clauses of each module are sound in its scope
abbrev pub AreModulesSound : List ModuleTree → Type 0
AreModulesSound modules = All (λ (m : ModuleTree). All (λ (c : ClauseTree). IsSound modules ClauseSide (module_scope m) c.form) m.clauses) modules

-- a sequent that has all the unbounded clauses, with all that is asked of its formulas
pub record Holds (modules : List ModuleTree) (bank : Nodes) (free : List Resource) (s : Sequent) : Type 0 where
  pub sequent : IsSequent modules bank s
  pub unbounded : AreHeld modules bank free
  pub all : s.free ≡ length free

-- what comes of a node: what its line makes of the sequent, which holds again; clauses may have come to the unbounded ones
pub record IsStep (ops : Operators) (modules : List ModuleTree) (line : Line) (q : SequentTree) (bank : Nodes) (old new : List Resource) (step : Step) : Type 0
  where
    pub made : made_in bank new step ≡ made_at (beside ops modules) line q
    pub left : IsLeft modules bank (length new) step
    pub free : AreHeld modules bank new
    pub adds : Adds old new

-- the same, beside any operators and any modules for which the sequent holds
abbrev pub Steps : Line → Nodes → List Resource → Sequent → Nodes → List Resource → Step → Type 0
Steps line old before s new after step = (ops : Operators) (modules : List ModuleTree) → Holds modules old before s
    → IsStep ops modules line (sequent_in old before s) new before after step

-- the same over any unbounded clauses, to which none come
abbrev pub StepsOver : Line → Nodes → Sequent → Nodes → Step → Type 0
StepsOver line old s new step = (ops : Operators) (modules : List ModuleTree) (free : List Resource) → Holds modules old free s
    → IsStep ops modules line (sequent_in old free s) new free free step
