-- The head of a clause against an atom: equations of terms with patterns, whose bound places stand for values.
use Rattle.std.specs.Prelude.{◌≡◌, ℕ, ◌++◌, true, List, [], ◌∷◌, map, reverse, length, Option, Some, None}
use Rattle.ll_bank.specs.declared.At.{At}
use Rattle.ll_bank.specs.declared.Head.{Head}
use Rattle.ll_bank.specs.Term.{Term, Var, Env, sub, app, close, applies_heads, not_bound}
use Rattle.ll_bank.specs.Nodes.{Nodes, HasTerm, AllInTerms, ShowsTerm, term_tree, term_trees}
use Rattle.ll_laws.specs.Unify.{Clash as Differ, diff}
use Rattle.ll_unify.specs.Bindings.{Table, HasCells, IsPlaceOf}
use Rattle.ll_bind.specs.declared.head.Closed.{Closed}
use Rattle.ll_bind.specs.declared.head.Closed.TheVariants.{Place, Variable, Unbuilt}
use Rattle.ll_bind.specs.declared.head.Equation.{Equation}
use Rattle.ll_bind.specs.declared.head.Opened.{Opened}
use Rattle.ll_bind.specs.declared.head.Opened.TheVariants.{Open, Clash, Shut}
use Rattle.ll_bind.specs.declared.head.Paired.{Paired}
use Rattle.ll_bind.specs.declared.head.Paired.TheVariants.{Same, Apart}

-- the terms, and what the patterns are once their bound places are closed
abbrev pub terms_of : Nodes → List Equation → List Term
terms_of nodes es = map (λ e. term_tree nodes e.place.0) es

abbrev pub closed_of : Nodes → Env → List Equation → List Term
closed_of nodes env es = map (λ e. close env (term_tree nodes e.pattern.0)) es

-- a place with each pattern
abbrev pub equate : List At → List At → List Equation
equate (a ∷ places) (p ∷ patterns) = record { place = a; pattern = p } ∷ equate places patterns
equate _ _ = []

-- the equations that are pending, where this one is next and those on the stack follow
abbrev pub pending : Option Equation → List Equation → List Equation
pending None items = []
pending (Some e) items = e ∷ reverse items

-- the variables of the term and of the closed pattern have cells, and nothing but a head has arguments
pub record IsEquation (nodes : Nodes) (t : Table) (env : Env) (e : Equation) : Type 0 where
  pub place : IsPlaceOf nodes t e.place.0
  pub inside : HasTerm nodes e.pattern.0
  pub heads : applies_heads (close env (term_tree nodes e.pattern.0)) ≡ true
  pub vars : HasCells nodes t (close env (term_tree nodes e.pattern.0))

abbrev pub AreEquations : Nodes → Table → Env → List Equation → Type 0
AreEquations nodes t env [] = Unit {0}
AreEquations nodes t env (e ∷ es) = IsEquation nodes t env e × AreEquations nodes t env es

-- a term and a pattern with one head, which is no bound place, and as many arguments, with equations for the arguments
pub record AreOpened (nodes : Nodes) (u v : Term) (old new : List Equation) (next : Option Equation) : Type 0 where
  pub head : Head
  pub places : List At
  pub patterns : List At
  pub fixed : not_bound head ≡ true
  pub term : u ≡ app head (term_trees nodes places)
  pub shape : v ≡ app head (term_trees nodes patterns)
  pub even : length places ≡ length patterns
  pub places_inside : AllInTerms nodes places
  pub patterns_inside : AllInTerms nodes patterns
  pub pushed : pending next new ≡ equate places patterns ++ reverse old

-- whatever stands for the variables and the bound places of the pattern, they differ in a sign
abbrev pub AreApart : Term → Term → Type 0
AreApart u v = (env : Env) (s : ℕ → Term) → diff (sub s u) (sub s (close env v)) ≡ Differ

-- what became of the signs of a term and a pattern
abbrev pub IsPaired : Nodes → Term → Term → List Equation → List Equation → Paired → Type 0
IsPaired nodes u v old new (Same next) = AreOpened nodes u v old new next
IsPaired nodes u v old new Apart = AreApart u v

-- what a pattern comes to with its bound places closed
abbrev pub IsClosed : Nodes → Env → ℕ → Closed → Type 0
IsClosed nodes env pattern (Place at) = ShowsTerm nodes at.0 (close env (term_tree nodes pattern))
IsClosed nodes env pattern (Variable x) = close env (term_tree nodes pattern) ≡ Var x
IsClosed nodes env pattern Unbuilt = Unit {0}

-- what became of a term and a pattern
abbrev pub IsOpened : Nodes → Env → Equation → List Equation → List Equation → Opened → Type 0
IsOpened nodes env e old new (Open next) = AreOpened nodes (term_tree nodes e.place.0) (term_tree nodes e.pattern.0) old new next
IsOpened nodes env e old new Clash = AreApart (term_tree nodes e.place.0) (term_tree nodes e.pattern.0)
IsOpened nodes env e old new (Shut closed) = (new ≡ old) × IsClosed nodes env e.pattern.0 closed
