-- New variables that stand in no term yet.
use Rattle.std.specs.Prelude.{◌≡◌, ◌≢◌, ◌<◌, ◌≤◌, ℕ, ◌-◌, ◌++◌, true, false, List, [], ◌∷◌, slice_index, slice_index_or}
use Rattle.ll_bank.specs.Term.{Term, Var, sub, occurs, eigens_below}
use Rattle.ll_bank.specs.Nodes.{Nodes}
use Rattle.ll_unify.specs.declared.fresh.Fresh.{Fresh}
use Rattle.ll_unify.specs.Bindings.{Table, found, count}
use Rattle.ll_unify.specs.Scanned.{is_bad}

-- the variable is one of the new ones, and was not met
abbrev pub IsFresh : Fresh → ℕ → Type 0
IsFresh f x = (f.first ≤ x) × (slice_index_or f.met (x - f.first) true ≡ false)

-- after a substitution the variable stands in none of these terms, nor does an eigenvariable that is not below the level
abbrev pub AreClear : (ℕ → Term) → ℕ → ℕ → List Term → Type 0
AreClear s x l [] = Unit {0}
AreClear s x l (u ∷ us) = (is_bad x l (sub s u) ≡ false) × AreClear s x l us

-- the variable is unbound, and stands neither in what another one stands for nor in these terms; no variable has a higher level than it,
-- and the eigenvariables there are below its level
pub record StandsNowhere (nodes : Nodes) (t : Table) (us : List Term) (x : ℕ) : Type 0 where
  pub own : found nodes t x ≡ Var x
  pub others : (y : ℕ) → y ≢ x → is_bad x (slice_index t.levels x) (found nodes t y) ≡ false
  pub terms : AreClear (found nodes t) x (slice_index t.levels x) us
  pub newest : (y : ℕ) → slice_index t.levels y ≤ slice_index t.levels x

-- each new variable that was not met stands nowhere
abbrev pub AreFresh : Nodes → Table → Fresh → List Term → Type 0
AreFresh nodes t f us = (x : ℕ) → IsFresh f x → x < count t → StandsNowhere nodes t us x

-- those of a later table stand nowhere where those of the earlier one did, in other terms before these
abbrev pub LeavesFresh : Nodes → Table → Table → Fresh → Fresh → List Term → List Term → Type 0
LeavesFresh nodes old new before after us vs = (more : List Term) → AreFresh nodes old before (us ++ more) → AreFresh nodes new after (vs ++ more)

-- a variable that is still new after another one was bound to a term
pub record IsLeft (before : Fresh) (levels : List ℕ) (var : ℕ) (u : Term) (x : ℕ) : Type 0 where
  pub was : IsFresh before x
  pub other : x ≢ var
  pub absent : occurs x u ≡ false
  pub eigens : eigens_below (slice_index levels var) u ≡ true

-- a variable that is still new after one was met
pub record IsOther (before : Fresh) (var x : ℕ) : Type 0 where
  pub was : IsFresh before x
  pub other : x ≢ var

-- a variable that is still new after a binding made two terms the same, the second of which is this one
abbrev pub StaysClear : Nodes → Table → Fresh → Term → ℕ → Type 0
StaysClear nodes t before v x =
    IsFresh before x × (((y : ℕ) → slice_index t.levels y ≤ slice_index t.levels x) → is_bad x (slice_index t.levels x) (sub (found nodes t) v) ≡ false)
