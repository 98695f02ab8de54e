-- What is known of the terms that were looked through.
use Rattle.std.specs.Prelude.{◌≡◌, ◌<◌, ◌⊎◌, ℕ, Bool, true, false, ◌||◌, not, List, [], ◌∷◌, ◌++◌, All, length, nat_eq, None, slice_index_or}
use Rattle.std.specs.List.{list_any}
use Rattle.ll_bank.specs.declared.At.{At}
use Rattle.ll_bank.specs.Term.{Term, Var, Int, Con, Ap, sub, occurs, eigens_below, eigen_below}
use Rattle.ll_bank.specs.Nodes.{Nodes, term_tree}
use Rattle.ll_unify.specs.declared.frame.Frame.{Frame}
use Rattle.ll_unify.specs.Spines.{arg}
use Rattle.ll_unify.specs.Stacks.{lowest, Waits, Stack}
use Rattle.ll_unify.specs.Bindings.{Table, found, cell, count, IsEnd}
use Rattle.ll_unify.specs.Frames.{frame_tree}

-- the number is among these
abbrev pub is_among : List ℕ → ℕ → Bool
is_among ys y = list_any (nat_eq y) ys

-- the variable of this level does not stand in the term, its eigenvariables are below the level, and its variables were noted
pub record IsGood (x l : ℕ) (vars : List ℕ) (u : Term) : Type 0 where
  pub free : occurs x u ≡ false
  pub eigens : eigens_below l u ≡ true
  pub noted : (y : ℕ) → occurs y u ≡ true → is_among vars y ≡ true

-- what stands in u stands in t
pub record IsPart (x l : ℕ) (u t : Term) : Type 0 where
  pub vars : (y : ℕ) → occurs y u ≡ true → occurs y t ≡ true
  pub eigens : eigens_below l t ≡ true → eigens_below l u ≡ true

-- the variable stands in the term, or an eigenvariable that is not below the level
abbrev pub is_bad : ℕ → ℕ → Term → Bool
is_bad x l u = occurs x u || not (eigens_below l u)

-- the variables noted are unbound and stand in the term
pub record AreNoted (t : Table) (vars : List ℕ) (u : Term) : Type 0 where
  pub stand : (y : ℕ) → is_among vars y ≡ true → occurs y u ≡ true
  pub below : All (λ y. y < count t) vars
  pub free : (y : ℕ) → is_among vars y ≡ true → cell t y ≡ None

-- what looking through a term finds: nothing bad, and all its variables, or something bad
abbrev pub IsScan : Table → ℕ → ℕ → List ℕ → Term → Bool → Type 0
IsScan t x l vars u true = IsGood x l vars u × AreNoted t vars u
IsScan t x l vars u false = is_bad x l u ≡ true

-- the arguments before the next one are good, or the last of them is what is waited for
abbrev pub AreGood : Nodes → Table → ℕ → ℕ → List ℕ → Frame → Term → Type 0
AreGood nodes t x l vars f c = (k : ℕ) → k < f.next → IsGood x l vars (sub (found nodes t) (arg (term_tree nodes f.at.0) k))
    ⊎ (sub (found nodes t) (arg (term_tree nodes f.at.0) k) ≡ sub (found nodes t) c)

-- a frame is at an end and stands in the whole term
pub record IsFrame (nodes : Nodes) (t : Table) (x l : ℕ) (whole : Term) (f : Frame) : Type 0 where
  pub end : IsEnd nodes t f.at.0
  pub part : IsPart x l (sub (found nodes t) (frame_tree nodes f)) whole

-- the arguments of the last frame are good so far, and the frames below wait for it
pub record IsScanning (nodes : Nodes) (t : Table) (x l : ℕ) (vars : List ℕ) (whole : Term) (fs : List Frame) (f : Frame) : Type 0 where
  pub top : (k : ℕ) → k < f.next → IsGood x l vars (sub (found nodes t) (arg (frame_tree nodes f) k))
  pub waits : Waits (frame_tree nodes) (AreGood nodes t x l vars) fs (frame_tree nodes f)
  pub bottom : sub (found nodes t) (lowest (frame_tree nodes) fs (frame_tree nodes f)) ≡ whole
  pub frame : IsFrame nodes t x l whole f
  pub frames : All (IsFrame nodes t x l whole) fs

-- the stack of frames
abbrev pub AreFrames : Nodes → Table → ℕ → ℕ → List ℕ → Term → List Frame → Type 0
AreFrames nodes t x l vars whole items = Stack (IsGood x l vars whole) (IsScanning nodes t x l vars whole) items

-- what holds while a term is looked through
pub record IsScanned (nodes : Nodes) (t : Table) (x l : ℕ) (ps : List At) (vars : List ℕ) (whole : Term) (items : List Frame) : Type 0 where
  pub places : All (λ (p : At). IsGood x l vars (sub (found nodes t) (term_tree nodes p.0))) ps
  pub noted : AreNoted t vars whole
  pub frames : AreFrames nodes t x l vars whole items

-- a place that is known is among those that were looked through
abbrev pub IsKnown : List At → At → Bool → Type 0
IsKnown places at true = (k : ℕ) × (k < length places) × (slice_index_or places k (record { 0 = 0 }) ≡ at)
IsKnown places at false = Unit {0}

-- what a term's own sign is: not the variable, and no eigenvariable that is not below the level
abbrev pub is_good_sign : ℕ → ℕ → Term → Bool
is_good_sign x l (Var y) = not (nat_eq x y)
is_good_sign x l (Int z) = true
is_good_sign x l (Con h) = eigen_below l h
is_good_sign x l (Ap f a) = is_good_sign x l f

-- the variable that a term is
abbrev pub own_vars : Term → List ℕ
own_vars (Var y) = y ∷ []
own_vars (Int z) = []
own_vars (Con h) = []
own_vars (Ap f a) = []

-- a look at a term's sign
pub record IsLook (u : Term) (x l : ℕ) (before after : List ℕ) (answer : Bool) : Type 0 where
  pub vars : after ≡ before ++ own_vars u
  pub good : answer ≡ is_good_sign x l u

-- what came of a term that was looked through further: something bad, or it goes on
abbrev pub IsPassed : Nodes → Table → ℕ → ℕ → List At → List ℕ → Term → List Frame → Bool → Type 0
IsPassed nodes t x l ps vars whole items true = IsScanned nodes t x l ps vars whole items
IsPassed nodes t x l ps vars whole items false = is_bad x l whole ≡ true
