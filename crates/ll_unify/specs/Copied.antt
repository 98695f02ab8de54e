-- Copies of terms with all bindings applied.
use Rattle.std.specs.Prelude.{◌≡◌, ◌<◌, ◌≤◌, ◌⊎◌, ℕ, suc, false, ◌++◌, List, [], ◌∷◌, map, take, length, All, Option, Some, None, slice_index_or}
use Rattle.ll_bank.specs.declared.Head.{Head}
use Rattle.ll_bank.specs.declared.At.{At}
use Rattle.ll_bank.specs.Term.{Term, Var, sub, head_of, is_spine}
use Rattle.ll_bank.specs.Nodes.{Nodes, HasTerm, ShowsTerm, term_tree, term_trees, AllInTerms}
use Rattle.ll_unify.specs.declared.frame.Frame.{Frame}
use Rattle.ll_unify.specs.Spines.{args_in, arg}
use Rattle.ll_unify.specs.Stacks.{lowest, Stack}
use Rattle.ll_unify.specs.Bindings.{Table, found, cell, IsEnd}
use Rattle.ll_unify.specs.Frames.{frame_tree}

-- a place of the first bank has a copy that shows what it shows with all bindings applied
pub record HasCopy (first nodes : Nodes) (t : Table) (at : ℕ) (copy : At) : Type 0 where
  pub inside : HasTerm first at
  pub shows : ShowsTerm nodes copy.0 (sub (found first t) (term_tree first at))

-- each copy that is known is one
abbrev pub AreCopies : Nodes → Nodes → Table → (ℕ → Option At) → Type 0
AreCopies first nodes t known = (at : ℕ) (copy : At) → known at ≡ Some copy → HasCopy first nodes t at copy

-- no copy is known that was not known before, but this one
abbrev pub AddsCopy : (ℕ → Option At) → (ℕ → Option At) → ℕ → At → Type 0
AddsCopy old new at copy = (place : ℕ) (made : At) → new place ≡ Some made → (old place ≡ Some made) ⊎ ((place ≡ at) × (made ≡ copy))

-- the places show the first arguments of a term with all bindings applied
pub record CopyArgs (nodes : Nodes) (s : ℕ → Term) (u : Term) (n : ℕ) (own : List At) : Type 0 where
  pub upto : n ≤ length (args_in u)
  pub places : AllInTerms nodes own
  pub trees : term_trees nodes own ≡ map (sub s) (take n (args_in u))

-- a frame has the copies of its arguments but for the last, which is what it waits for
pub record Lacks (nodes : Nodes) (s : ℕ → Term) (u : Term) (f : Frame) (c : Term) (own : List At) : Type 0 where
  pub before : ℕ
  pub next : f.next ≡ suc before
  pub among : before < length (args_in u)
  pub copies : CopyArgs nodes s u before own
  pub last : sub s (arg u before) ≡ sub s c

-- the copies that were made are those of the frames, the lowest first, which wait for one another and the last for c
abbrev pub Held : Nodes → Nodes → (ℕ → Term) → List Frame → Term → List At → Type 0
Held first nodes s [] c made = made ≡ []
Held first nodes s (f ∷ fs) c made =
    (own : List At) × (rest : List At) × (made ≡ own ++ rest) × Lacks nodes s (frame_tree first f) f (lowest (frame_tree first) fs c) own
    × Held first nodes s fs c rest

-- the last frame has the copies of its arguments so far, and the frames below wait for it
pub record IsCopying (first nodes : Nodes) (t : Table) (whole : Term) (made : List At) (fs : List Frame) (f : Frame) : Type 0 where
  pub below : List At
  pub own : List At
  pub is : made ≡ below ++ own
  pub copies : CopyArgs nodes (found first t) (frame_tree first f) f.next own
  pub held : Held first nodes (found first t) fs (frame_tree first f) below
  pub bottom : sub (found first t) (lowest (frame_tree first) fs (frame_tree first f)) ≡ whole
  pub end : IsEnd first t f.at.0
  pub ends : All (λ (g : Frame). IsEnd first t g.at.0) fs

-- the stack of frames, or the copy of the whole
abbrev pub IsCopied : Nodes → Nodes → Table → Term → List At → At → List Frame → Type 0
IsCopied first nodes t whole made last items = Stack (ShowsTerm nodes last.0 whole) (IsCopying first nodes t whole made) items

-- the head that a copy needs, or none where the place itself serves
abbrev pub IsChanged : Nodes → ℕ → List At → Option Head → Type 0
IsChanged nodes at own None = (is_spine (term_tree nodes at) ≡ false) ⊎ (args_in (term_tree nodes at) ≡ term_trees nodes own)
IsChanged nodes at own (Some h) = head_of (term_tree nodes at) ≡ Some h

-- the place shows the term at another with these arguments applied
abbrev pub IsBuilt : Nodes → Nodes → ℕ → List At → ℕ → Type 0
IsBuilt old new at own copy =
    (s : ℕ → Term) → term_trees old own ≡ map (sub s) (args_in (term_tree old at)) → ((x : ℕ) → term_tree old at ≡ Var x → s x ≡ Var x)
    → ShowsTerm new copy (sub s (term_tree old at))

-- the places show what these terms are with all bindings applied
pub record AreRead (first nodes : Nodes) (t : Table) (terms : List Term) (made : List At) : Type 0 where
  pub inside : AllInTerms nodes made
  pub shows : term_trees nodes made ≡ map (sub (found first t)) terms

-- a copy of what a cell is bound to
abbrev pub IsCellCopy : Nodes → Nodes → Table → Option At → Option At → Type 0
IsCellCopy old new t None None = Unit {0}
IsCellCopy old new t (Some to) (Some at) = ShowsTerm new at.0 (sub (found old t) (term_tree old to.0))
IsCellCopy old new t _ _ = ⊥

-- what is found for a variable, by its cell: nothing for an unbound one, and a place that shows it for a bound one
abbrev pub IsFinal : Nodes → Term → Option At → Option At → Type 0
IsFinal nodes u None None = Unit {0}
IsFinal nodes u (Some to) (Some at) = ShowsTerm nodes at.0 u
IsFinal nodes u _ _ = ⊥

-- what is found for each of the first n variables
pub record AreFinal (first nodes : Nodes) (t : Table) (n : ℕ) (cells : List (Option At)) : Type 0 where
  pub size : length cells ≡ n
  pub each : (x : ℕ) → x < n → IsFinal nodes (found first t x) (cell t x) (slice_index_or cells x None)
