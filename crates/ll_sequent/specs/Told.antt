-- What a verdict says.
use Rattle.std.specs.Prelude.{◌≡◌, ℕ, [], ◌∷◌, Some}
use Rattle.ll_laws.specs.Problem.{ProblemTree}
use Rattle.ll_laws.specs.Line.{DerivationLines, trees_of}
use Rattle.ll_laws.specs.Shows.{Tree}
use Rattle.ll_laws.specs.Fault.{Checked, Fits, Fault}
use Rattle.ll_laws.specs.Verdict.{DerivationShows, first_fault}
use Rattle.ll_sequent.specs.declared.Verdict.{Verdict}
use Rattle.ll_sequent.specs.declared.Verdict.TheVariants.{Yes, No}

-- the verdict is that of a check
abbrev pub Tells : Verdict → Checked → Type 0
Tells Yes c = (n : ℕ) × (c ≡ Fits n)
Tells (No n r) c = c ≡ Fault n r

-- yes where the derivation shows the query, and no, where it does not, with the first node that does not fit and its first reason
abbrev pub IsVerdict : ProblemTree → DerivationLines → Verdict → Type 0
IsVerdict p d Yes = DerivationShows p d
IsVerdict p d (No n r) = ¬ DerivationShows p d × ((x : Tree) → trees_of d.nodes ≡ Some (x ∷ []) → first_fault p d x ≡ Fault n r)
