-- Bindings of variables to places of a bank, seen as a substitution.
use Rattle.std.specs.Prelude.{◌≡◌, ◌<◌, ℕ, zero, suc, Bool, true, false, List, [], ◌∷◌, length, slice_index, slice_index_or, slice_set, nat_eq, min, cond}
use Rattle.std.specs.Prelude.{◌||◌, ◌⊎◌, Option, Some, None}
use Rattle.std.specs.List.{list_any}
use Rattle.ll_bank.specs.declared.At.{At}
use Rattle.ll_bank.specs.Term.{Term, Var, Int, Con, Ap, sub, occurs}
use Rattle.ll_bank.specs.Nodes.{Nodes, term_tree, HasTerm}
use Rattle.ll_laws.specs.Unify.{bound_to, Binding, bind, diff, Meet}

-- what each variable is bound to, and its level
pub record Table : Type 0 where
  pub bound : List (Option At)
  pub levels : List ℕ

-- what a variable is bound to
abbrev pub cell : Table → ℕ → Option At
cell t x = slice_index_or t.bound x None

-- the number of variables
abbrev pub count : Table → ℕ
count t = length t.levels

-- what stands for a variable whose cell is this
abbrev pub shown : Nodes → ℕ → Option At → Term
shown nodes x None = Var x
shown nodes x (Some at) = term_tree nodes at.0

-- what stands for a variable after bindings were followed so many times
abbrev pub followed : Nodes → List (Option At) → ℕ → ℕ → Term
followed nodes bound zero x = Var x
followed nodes bound (suc n) x = sub (followed nodes bound n) (shown nodes x (slice_index_or bound x None))

-- what stands for each variable: bindings are followed as often as there are variables
abbrev pub found : Nodes → Table → ℕ → Term
found nodes t = followed nodes t.bound (length t.bound)

-- a substitution followed by one binding
abbrev pub then_bound : (ℕ → Term) → ℕ → Term → ℕ → Term
then_bound s x t y = sub (bound_to x t) (s y)

-- the variable stands in the term, through bindings too
pub data Reaches (nodes : Nodes) (t : Table) (y : ℕ) : Term → Type 0 where
  stands : (u : Term) → occurs y u ≡ true → Reaches nodes t y u
  through : (u : Term) (x : ℕ) (at : At) → occurs x u ≡ true → cell t x ≡ Some at → Reaches nodes t y (term_tree nodes at.0) → Reaches nodes t y u

-- each variable of the term, through bindings too, has a cell
abbrev pub HasCells : Nodes → Table → Term → Type 0
HasCells nodes t u = (y : ℕ) → Reaches nodes t y u → y < count t

-- a place of a term whose variables have cells
pub record IsPlaceOf (nodes : Nodes) (t : Table) (at : ℕ) : Type 0 where
  pub inside : HasTerm nodes at
  pub vars : HasCells nodes t (term_tree nodes at)

-- each variable that stands in a binding comes before the one that is bound, so none is reached from itself
pub record IsOrdered (nodes : Nodes) (t : Table) : Type 0 where
  pub rank : ℕ → ℕ
  pub falls : (x : ℕ) (at : At) → cell t x ≡ Some at → (y : ℕ) → occurs y (term_tree nodes at.0) ≡ true → rank y < rank x

-- each variable has a cell and a level, each binding names a place of the bank, and no variable is reached from itself
pub record IsTable (nodes : Nodes) (t : Table) : Type 0 where
  pub bound : length t.bound ≡ count t
  pub places : (x : ℕ) (at : At) → cell t x ≡ Some at → HasTerm nodes at.0
  pub ordered : IsOrdered nodes t

-- a substitution goes along with the bindings
abbrev pub Obeys : Nodes → Table → (ℕ → Term) → Type 0
Obeys nodes t s = (x : ℕ) (at : At) → cell t x ≡ Some at → s x ≡ sub s (term_tree nodes at.0)

-- if the term is a variable, it is unbound
abbrev pub IsFree : Table → Term → Type 0
IsFree t u = (x : ℕ) → u ≡ Var x → cell t x ≡ None

-- the term is a variable bound to this place
pub record Leads (t : Table) (u : Term) (to : At) : Type 0 where
  pub var : ℕ
  pub is : u ≡ Var var
  pub bound : cell t var ≡ Some to

-- what a term that is a variable is bound to
abbrev pub IsValue : Table → Term → Option At → Type 0
IsValue t u None = IsFree t u
IsValue t u (Some to) = Leads t u to

-- a place where no bound variable stands
pub record IsEnd (nodes : Nodes) (t : Table) (at : ℕ) : Type 0 where
  pub place : IsPlaceOf nodes t at
  pub free : IsFree t (term_tree nodes at)

-- the place itself, or one that a variable is bound to
abbrev pub IsAmong : Table → At → At → Type 0
IsAmong t at end = (end ≡ at) ⊎ ((x : ℕ) × (cell t x ≡ Some end))

-- two terms are the same for each substitution that goes along with the bindings
abbrev pub AreSame : Nodes → Table → Term → Term → Type 0
AreSame nodes t u v = (s : ℕ → Term) → Obeys nodes t s → sub s u ≡ sub s v

-- where a term leads that is a bound variable
abbrev pub leads_to : List (Option At) → Term → Option At
leads_to bound (Var x) = slice_index_or bound x None
leads_to bound (Int z) = None
leads_to bound (Con h) = None
leads_to bound (Ap f a) = None

-- one more than a number of a place, if there is one
abbrev pub one_more : (At → ℕ) → Option At → ℕ
one_more f None = 0
one_more f (Some at) = suc (f at)

-- how often bindings lead on from a term, at most so many times
abbrev pub chain : Nodes → List (Option At) → ℕ → Term → ℕ
chain nodes bound zero u = 0
chain nodes bound (suc n) u = one_more (λ at. chain nodes bound n (term_tree nodes at.0)) (leads_to bound u)

-- the later table has one binding more
pub record IsSet (old new : Table) (x : ℕ) (to : At) : Type 0 where
  pub bound : new.bound ≡ slice_set old.bound x (Some to)
  pub levels : new.levels ≡ old.levels

-- the levels of these variables fell to a level where they were higher, and no others
pub record IsLowered (old : List ℕ) (vars : List ℕ) (l : ℕ) (new : List ℕ) : Type 0 where
  pub same_length : length new ≡ length old
  pub each : (x : ℕ) → slice_index new x ≡ cond (list_any (nat_eq x) vars) (min (slice_index old x) l) (slice_index old x)

-- the variable has this level, and nothing else changed
pub record IsLevel (old new : Table) (x l : ℕ) : Type 0 where
  pub levels : new.levels ≡ slice_set old.levels x l
  pub bound : new.bound ≡ old.bound

-- the level of one variable fell to a level where it was higher, and nothing else changed
pub record FallsOne (old new : Table) (x l : ℕ) : Type 0 where
  pub levels : new.levels ≡ slice_set old.levels x (min (slice_index old.levels x) l)
  pub bound : new.bound ≡ old.bound

-- so did those of these variables
pub record Falls (old new : Table) (vars : List ℕ) (l : ℕ) : Type 0 where
  pub levels : IsLowered old.levels vars l new.levels
  pub bound : new.bound ≡ old.bound

-- each binding names a place of a term whose variables have cells
abbrev pub BindsPlaces : Nodes → Table → Type 0
BindsPlaces nodes t = (x : ℕ) (at : At) → cell t x ≡ Some at → IsPlaceOf nodes t at.0

-- terms whose variables have cells in the earlier table have them in the later one, and so have the terms that are bound
pub record KeepsCells (nodes : Nodes) (old new : Table) : Type 0 where
  pub terms : (w : Term) → HasCells nodes old w → HasCells nodes new w
  pub bound : BindsPlaces nodes old → BindsPlaces nodes new

-- the term is a variable
abbrev pub is_var : Term → Bool
is_var (Var x) = true
is_var (Int z) = false
is_var (Con h) = false
is_var (Ap f a) = false

-- how many cells are unbound
abbrev pub unbound : List (Option At) → ℕ
unbound [] = 0
unbound (None ∷ os) = suc (unbound os)
unbound (Some at ∷ os) = unbound os

-- the later table has this binding more, which makes the two terms the same
pub record HasBound (nodes : Nodes) (old new : Table) (u v : Term) (b : Binding) : Type 0 where
  pub table : IsTable nodes new
  pub levels : new.levels ≡ b.levels
  pub count : length b.levels ≡ count old
  pub subst : (x : ℕ) → found nodes new x ≡ sub (bound_to b.var b.value) (found nodes old x)
  pub fewer : suc (unbound new.bound) ≡ unbound old.bound
  pub obeys : (s : ℕ → Term) → Obeys nodes new s → Obeys nodes old s
  pub same : AreSame nodes new u v
  pub cells : KeepsCells nodes old new
  pub cells_before : (w : Term) → HasCells nodes new w → HasCells nodes old w

-- the later table has the binding that is asked for, or there is none
abbrev pub Binds : Nodes → Table → Table → Term → Term → Option Binding → Bool → Type 0
Binds nodes old new u v (Some b) true = HasBound nodes old new u v b
Binds nodes old new u v None false = Unit {0}
Binds nodes old new u v _ _ = ⊥

-- two places at one of which an unbound variable stands, and not the same at both
pub record IsMeeting (nodes : Nodes) (t : Table) (left right : ℕ) : Type 0 where
  pub left_end : IsEnd nodes t left
  pub right_end : IsEnd nodes t right
  pub var : is_var (term_tree nodes left) || is_var (term_tree nodes right) ≡ true
  pub differ : (x : ℕ) → term_tree nodes left ≡ Var x → term_tree nodes right ≡ Var x → ⊥

-- the later table has the binding that the first difference of the two terms asks for, or there is none
pub record Meets (nodes : Nodes) (old new : Table) (u v : Term) (bound : Bool) : Type 0 where
  pub var : ℕ
  pub value : Term
  pub meet : diff (sub (found nodes old) u) (sub (found nodes old) v) ≡ Meet var value
  pub binds : Binds nodes old new u v (bind old.levels var value) bound

-- a place of a term whose variables have cells, in a bank whose bindings are a table
pub record IsReadable (nodes : Nodes) (t : Table) (at : ℕ) : Type 0 where
  pub table : IsTable nodes t
  pub place : IsPlaceOf nodes t at
