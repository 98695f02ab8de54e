-- What passes know, as the proofs read it.
use Rattle.std.specs.Prelude.{◌≡◌, ℕ, List, [], ◌∷◌, Option, Some, None, ◌==◌, if◌then◌else◌, Bool, true, false}
use Rattle.std.proofs.Common.{true≢false, sym}
use mathlib.Core.Option.{some}
use lib.ListN.{get_elem?}
use Rattle.ll_turn.specs.declared.view.Stage.{Stage}
use Rattle.ll_turn.specs.declared.view.Stage.TheVariants.{Rests, Holds, Notes}
use Rattle.ll_turn.specs.declared.view.Known.{Known}
use Rattle.ll_turn.specs.declared.view.View.{View}
use Rattle.ll_turn.specs.declared.view.View.TheVariants.{Spent, Live}

-- the numbers of a list that are not this one
abbrev pub without : ℕ → List ℕ → List ℕ
without n [] = []
without n (x ∷ xs) = if n == x then without n xs else x ∷ without n xs

-- the value as a pass found it, while it holds the turn and has announced nothing
abbrev pub before_of : {S : Type 0} → Stage S → Option S
before_of Rests = None
before_of (Holds value) = Some value
before_of (Notes value) = None

module _ {S P M : Type 0} where
  -- the view of a pass with this problem, these data, this stage and these numbers given
  abbrev pub live : P → M → Stage S → List ℕ → View S P M
  live p mine stage given = Live (record { problem = p; mine = mine; stage = stage; given = given })

  -- a pass at another stage
  abbrev pub staged : Known S P M → Stage S → View S P M
  staged k stage = Live (record { problem = k.problem; mine = k.mine; stage = stage; given = k.given })

  -- the pass at this seat lives, and knows this
  abbrev pub Knows : List (View S P M) → ℕ → Known S P M → Type 0
  Knows views seat k = get_elem? views seat ≡ some (Live k)

  -- the pass was not joined to another
  abbrev pub is_live : View S P M → Bool
  is_live Spent = false
  is_live (Live _) = true

  -- what a pass that lives knows
  abbrev pub known : (v : View S P M) → is_live v ≡ true → Known S P M
  known Spent lives = absurd (true≢false (sym lives))
  known (Live k) _ = k
