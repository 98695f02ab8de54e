-- The faults of what is left of a walk through a formula.
use Rattle.std.specs.Prelude.{◌≡◌, ℕ, suc, ◌+◌, ◌*◌, ◌<◌, List, [], ◌∷◌, ◌++◌, length, Option, Some, None}
use Rattle.std.specs.HashMap.{HashMap}
use Rattle.std.specs.declared.hash.FoldHasher.{FoldHasher}
use Rattle.std.specs.declared.hash.BuildHasherDefault.{BuildHasherDefault}
use denote.Ref.{Bor}
use Rattle.ll_lexer.specs.declared.Fault.{Fault}
use Rattle.ll_laws.specs.Valid.{Side, GoalSide, ClauseSide}
use Rattle.ll_parser.specs.declared.RawAt.{RawAt}
use Rattle.ll_parser.specs.Raw.{Raw, truth, erasure, braces, universal, existential, load, binary, is_goal, less_goal, most_goal, head, anything, int, RawList}
use Rattle.ll_parser.specs.Raw.{none, more}
use Rattle.ll_parser.specs.Nodes.{Node, raw_at}
use Rattle.ll_polarity.specs.declared.pending.Side as seen
use Rattle.ll_polarity.specs.declared.pending.Side.TheVariants as side
use Rattle.ll_polarity.specs.declared.pending.Part.{Part}
use Rattle.ll_polarity.specs.declared.pending.Part.TheVariants as part
use Rattle.ll_polarity.specs.Scope.{Scope, outer}
use Rattle.ll_polarity.specs.Faults.{Heading, term_faults, form_faults}
use Rattle.ll_polarity.specs.Asks.{IsFirst}
use Rattle.ll_polarity.specs.Headings.{AreFound}
use Rattle.ll_polarity.specs.Named.{IsNamed}

-- the first of these faults, or there is none
abbrev pub IsHead : Option Fault → List Fault → Type 0
IsHead None faults = faults ≡ []
IsHead (Some f) faults = IsFirst f faults

-- a side, as the code has it
abbrev pub side_of : seen.Side → Side
side_of side.Goal = GoalSide
side_of side.Clause = ClauseSide

abbrev mutual
  -- the number of nodes of a raw tree
  pub size : Raw → ℕ
  size (truth at) = 1
  size (erasure at) = 1
  size (braces at r) = suc (size r)
  size (universal at n r) = suc (size r)
  size (existential at n r) = suc (size r)
  size (load at m args r) = suc (sizes args + size r)
  size (binary o at l r) = suc (size l + size r)
  size (is_goal at l r) = suc (size l + size r)
  size (less_goal at l r) = suc (size l + size r)
  size (most_goal at l r) = suc (size l + size r)
  size (head n args) = suc (sizes args)
  size (anything at) = 1
  size (int at z) = 1

  pub sizes : RawList → ℕ
  sizes none = 0
  sizes (more r rs) = size r + sizes rs

-- the scope after the parts, where the next one stands in this scope
abbrev pub scope_after : Scope → List Part → Scope
scope_after scope [] = scope
scope_after scope (part.Form s at ∷ ps) = scope_after scope ps
scope_after scope (part.Term at ∷ ps) = scope_after scope ps
scope_after scope (part.Found f ∷ ps) = scope_after scope ps
scope_after scope (part.Close ∷ ps) = scope_after (outer scope) ps

module _ (texts : List (List ℕ)) (nodes : List Node) where
  -- the faults of the parts, where the next one stands in this scope
  abbrev pub pending_faults : List Heading → Scope → List Part → List Fault
  pending_faults ms scope [] = []
  pending_faults ms scope (part.Form s at ∷ ps) = form_faults ms (side_of s) scope (raw_at texts nodes at.0) ++ pending_faults ms scope ps
  pending_faults ms scope (part.Term at ∷ ps) = term_faults scope (raw_at texts nodes at.0) ++ pending_faults ms scope ps
  pending_faults ms scope (part.Found f ∷ ps) = f ∷ pending_faults ms scope ps
  pending_faults ms scope (part.Close ∷ ps) = pending_faults ms (outer scope) ps

  -- a place is that of a node, and each name there has a text
  abbrev pub IsReady : RawAt → Type 0
  IsReady at = (at.0 < length nodes) × IsNamed (raw_at texts nodes at.0)

  -- so are the places of the parts
  abbrev pub AreReady : List Part → Type 0
  AreReady [] = Unit {0}
  AreReady (part.Form s at ∷ ps) = IsReady at × AreReady ps
  AreReady (part.Term at ∷ ps) = IsReady at × AreReady ps
  AreReady (part.Found f ∷ ps) = AreReady ps
  AreReady (part.Close ∷ ps) = AreReady ps

  -- how much is left to do
  abbrev pub pending_size : List Part → ℕ
  pending_size [] = 0
  pending_size (part.Form s at ∷ ps) = 3 * size (raw_at texts nodes at.0) + pending_size ps
  pending_size (part.Term at ∷ ps) = 3 * size (raw_at texts nodes at.0) + pending_size ps
  pending_size (part.Found f ∷ ps) = suc (pending_size ps)
  pending_size (part.Close ∷ ps) = suc (pending_size ps)

  -- The parts and the scope after the first part was opened, of which these are the faults: they are those of its own parts, and
  -- less is left to do.
  pub record IsOpened (params : HashMap (Bor (List ℕ)) ℕ (BuildHasherDefault FoldHasher)) (faults : List Heading
      → List Fault) (room : ℕ) (before : Scope) (old : List Part) (after : Scope) (new : List Part) : Type 0 where
    pub faults_stay : (ms : List Heading) → AreFound params ms → pending_faults ms after new ≡ faults ms ++ pending_faults ms before old
    pub ready : AreReady old → AreReady new
    pub scope_stays : scope_after after new ≡ scope_after before old
    pub smaller : pending_size new < room + pending_size old
