-- What stands at the place of a term, wherever terms have places.
use Rattle.std.specs.Prelude.{◌≡◌, ℕ, map, All}
use Rattle.ll_bank.specs.declared.TermView.{TermView}
use Rattle.ll_bank.specs.declared.TermView.TheVariants.{Var as VarView, Int as IntView, App as AppView}
use Rattle.ll_bank.specs.Term.{Term, Var, Int, app}

-- the view shows the term at a place, and the arguments that it has are at places of terms
abbrev pub IsViewOf : (ℕ → Type 0) → (ℕ → Term) → ℕ → TermView → Type 0
IsViewOf has tree at (VarView n) = tree at ≡ Var n
IsViewOf has tree at (IntView z) = tree at ≡ Int z
IsViewOf has tree at (AppView h args) = (tree at ≡ app h (map (λ a. tree a.0) args.now)) × All (λ a. has a.0) args.now
