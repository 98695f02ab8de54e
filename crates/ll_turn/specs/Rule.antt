-- The rule of a turn: what the word, the slot and the views of the passes have to do with one another between any two steps.
-- It says nothing of passes that were joined to another.
use Rattle.std.specs.Prelude.{◌≡◌, ◌≢◌, ◌⊎◌, ℕ, ◌+◌, ◌≤◌, List, [], ◌∷◌, map, Option, Some}
use mathlib.Core.Option.{none, some}
use mathlib.Core.Option as maybe
use lib.ListN.{get_elem?}
use Rattle.atomic_table.specs.Table.{State}
use Rattle.ll_turn.specs.Numbers.{Numbers, Apart, IsProper}
use Rattle.ll_turn.specs.Views.{Knows}
use Rattle.ll_turn.specs.declared.view.Stage.TheVariants.{Rests, Holds, Notes}
use Rattle.ll_turn.specs.declared.view.Known.{Known}
use Rattle.ll_turn.specs.declared.view.View.{View}
use Rattle.ll_turn.specs.declared.view.View.TheVariants.{Spent, Live}

-- what stays of a pass while it takes and gives turns: its problem, its numbers, and the numbers that it gave
pub record Card (P : Type 0) : Type 0 where
  pub problem : P
  pub numbers : Numbers
  pub given : List ℕ

-- the list has this element somewhere
abbrev pub Lists : {A : Type 0} → List A → A → Type 0
Lists xs x = (i : ℕ) × (get_elem? xs i ≡ some x)

-- the pass at this seat lives, and has this card
abbrev pub HasCard : {P : Type 0} → List (maybe.Option (Card P)) → ℕ → Card P → Type 0
HasCard cards seat c = get_elem? cards seat ≡ some (some c)

-- All passes carry one problem. Their numbers and the numbers that they have to give are all different.
-- Beyond that, the first pass lists the numbers of all others, and those have no numbers to give
pub record Orderly {P : Type 0} (p : P) (cards : List (maybe.Option (Card P))) : Type 0 where
  pub same : (i : ℕ) (c : Card P) → HasCard cards i c → c.problem ≡ p
  pub proper : (i : ℕ) (c : Card P) → HasCard cards i c → IsProper c.numbers
  pub apart : (i j : ℕ) (c d : Card P) → HasCard cards i c → HasCard cards j d → i ≢ j → Apart c.numbers d.numbers
  pub listed : (i j : ℕ) (c d : Card P) → HasCard cards i c → HasCard cards j d → i ≢ j
      → c.numbers.own ≡ 0 → Lists c.given d.numbers.own
  pub barren : (i : ℕ) (c : Card P) → HasCard cards i c → c.numbers.own ≢ 0 → c.numbers.end ≤ c.numbers.from

module _ {S P M : Type 0} (numbers : M → Numbers) where
  -- the card of a pass that lives
  abbrev pub card : View S P M → maybe.Option (Card P)
  card Spent = none
  card (Live k) = some (record { problem = k.problem; numbers = numbers k.mine; given = k.given })

module _ {S P M : Type 0} (numbers : M → Numbers) (fit : S → P → M → Type 0) (p : P) where
  -- no pass holds the turn
  abbrev pub NoneHolds : List (View S P M) → Type 0
  NoneHolds views = (i : ℕ) (k : Known S P M) → Knows views i k → k.stage ≡ Rests

  -- no pass holds the turn but that of this seat
  abbrev pub NoOtherHolds : ℕ → List (View S P M) → Type 0
  NoOtherHolds seat views = (i : ℕ) (k : Known S P M) → Knows views i k → i ≢ seat → k.stage ≡ Rests

  -- the value fits every pass
  abbrev pub FitsAll : S → List (View S P M) → Type 0
  FitsAll value views = (i : ℕ) (k : Known S P M) → Knows views i k → fit value p k.mine

  -- no pass holds the turn, and the value is at home and fits every pass
  pub record IsFree (homes : List (maybe.Option (Option S))) (views : List (View S P M)) : Type 0 where
    pub value : S
    pub home : homes ≡ some (Some value) ∷ []
    pub idle : NoneHolds views
    pub fits : FitsAll value views

  -- Exactly the pass with this number holds the turn, and the slot is out with it. Before its announcement it knows the value
  -- as it found it, and from then on the value that it is about to put back. This value fits every pass
  pub record IsHeldBy (number : ℕ) (homes : List (maybe.Option (Option S))) (views : List (View S P M)) : Type 0 where
    pub seat : ℕ
    pub holder : Known S P M
    pub value : S
    pub there : Knows views seat holder
    pub own : (numbers holder.mine).own ≡ number
    pub stage : (holder.stage ≡ Holds value) ⊎ (holder.stage ≡ Notes value)
    pub out : homes ≡ none ∷ []
    pub alone : NoOtherHolds seat views
    pub fits : FitsAll value views

  -- the word is 0 while the turn is free, and one more than the holder's number while it is held
  pub record IsKept (s : State (Option S) (View S P M)) : Type 0 where
    pub word : ℕ
    pub words : s.words ≡ word ∷ []
    pub orderly : Orderly p (map (card numbers) s.views)
    pub free : word ≡ 0 → IsFree s.homes s.views
    pub held : (number : ℕ) → word ≡ number + 1 → IsHeldBy number s.homes s.views
