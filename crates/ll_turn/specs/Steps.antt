-- What the steps of a turn do to the pass that makes them, and what a pass carries between two calls.
use Rattle.std.specs.Prelude.{◌≡◌, ◌≢◌, ℕ, ◌<◌, ◌≤◌, List, [], ◌∷◌, Option, Some, None}
use Rattle.atomic_table.specs.Seated.{TableId}
use Rattle.atomic_table.specs.Table.{Me, Step, rest}
use Rattle.ll_turn.specs.Numbers.{Numbers, HasToGive}
use Rattle.ll_turn.specs.Views.{live, staged, without}
use Rattle.ll_turn.specs.declared.view.Stage.{Stage}
use Rattle.ll_turn.specs.declared.view.Stage.TheVariants.{Rests, Holds, Notes}
use Rattle.ll_turn.specs.declared.view.Known.{Known}
use Rattle.ll_turn.specs.declared.view.View.{View}
use Rattle.ll_turn.specs.declared.view.View.TheVariants.{Spent, Live}

-- the table of a turn has one word and one slot
abbrev pub HasWordAndSlot : TableId → Type 0
HasWordAndSlot table = (table.words ≡ 1) × (table.slots ≡ 1)

-- between two calls a pass carries no slot while it rests, and the empty slot while it holds the turn
abbrev pub Carries : {S : Type 0} → Stage S → List (ℕ × Option S) → Type 0
Carries Rests slots = slots ≡ []
Carries (Holds _) slots = slots ≡ (0, None) ∷ []
Carries (Notes _) slots = ⊥

-- a pass's view, and the slots that are out with it
abbrev pub Hand : Type 0 → Type 0 → Type 0 → Type 0
Hand S P M = Me (Option S) (View S P M)

-- The steps on the word. A step takes its operands, the seat before, the word that it found and the seat after
module _ {S P M : Type 0} where
  -- to try to hold: where the word was 0 the pass holds the turn, and the value that is out with it fits it.
  -- Otherwise nothing changed
  abbrev pub tried : (S → P → M → Type 0) → Step (Option S) → Hand S P M → ℕ → Hand S P M → Type 0
  tried fit _ me found me' = (found ≢ 0 → me' ≡ me)
      × (found ≡ 0 → (k : Known S P M) → me.0 ≡ Live k
      → (value : S) × (me' ≡ (staged k (Holds value), (0, Some value) ∷ me.1)) × fit value k.problem k.mine)

  -- to announce: the pass has its next data, and notes the value to be put back
  abbrev pub announced : (P → S → M → S → M) → Option S → Step (Option S) → Hand S P M → ℕ → Hand S P M → Type 0
  announced next noted _ me _ me' =
      (k : Known S P M) (before after : S) → me.0 ≡ Live k → k.stage ≡ Holds before → noted ≡ Some after
      → me' ≡ (live k.problem (next k.problem before k.mine after) (Notes after) k.given, me.1)

  -- to free the word: the pass holds no more, and the value that it noted, which fits it, is at home
  abbrev pub freed : (S → P → M → Type 0) → Step (Option S) → Hand S P M → ℕ → Hand S P M → Type 0
  freed fit _ me _ me' = (k : Known S P M) (noted : S) → me.0 ≡ Live k → k.stage ≡ Notes noted
      → (me' ≡ (staged k Rests, rest me.1)) × fit noted k.problem k.mine

  -- a splitting pass has one number less to give
  abbrev pub left_part : (M → Numbers) → (M → M × M) → View S P M → View S P M
  left_part numbers parted Spent = Spent
  left_part numbers parted (Live k) = live k.problem (parted k.mine).0 k.stage ((numbers k.mine).from ∷ k.given)

  -- the new pass begins with the other part
  abbrev pub right_part : (M → M × M) → View S P M → View S P M
  right_part parted Spent = Spent
  right_part parted (Live k) = live k.problem (parted k.mine).1 Rests []

  -- a joining pass keeps its data, and the number of the other is given no more
  abbrev pub taken_back : (M → Numbers) → View S P M → View S P M → View S P M
  taken_back numbers (Live k) (Live l) = live k.problem k.mine k.stage (without (numbers l.mine).own k.given)
  taken_back numbers v _ = v

-- What the calls of a turn need of a pass, and leave it with
module _ {S P M : Type 0} where
  -- a running pass keeps its own number and the least that it has to give as plain numbers
  pub record Runs (numbers : M → Numbers) (me : Hand S P M) (number least : ℕ) : Type 0 where
    pub pass : Known S P M
    pub lives : me.0 ≡ Live pass
    pub carries : Carries pass.stage me.1
    pub number_is : (numbers pass.mine).own ≡ number
    pub least_is : HasToGive (numbers pass.mine) → (numbers pass.mine).from ≡ least
    pub small : number < 4294967296
    pub low : HasToGive (numbers pass.mine) → (numbers pass.mine).end ≤ 4294967296

  -- the pass has this number and holds no turn
  abbrev pub IsResting : (M → Numbers) → Hand S P M → ℕ → Type 0
  IsResting numbers me number = (k : Known S P M) × (me ≡ (Live k, [])) × (k.stage ≡ Rests) × ((numbers k.mine).own ≡ number)

  -- it took the turn, and the value out of the slot, which fits it
  abbrev pub TakesOut : (S → P → M → Type 0) → Hand S P M → S → Hand S P M → Type 0
  TakesOut fit me value me' = (k : Known S P M) → me ≡ (Live k, [])
      → (me' ≡ (staged k (Holds value), (0, None) ∷ [])) × fit value k.problem k.mine

  -- the pass has this number, holds the turn, and may change the value that it found to this one
  abbrev pub MayGive : (M → Numbers) → (P → S → M → S → Type 0) → Hand S P M → ℕ → S → Type 0
  MayGive numbers lawful me number after = (k : Known S P M) × (before : S) × (me ≡ (Live k, (0, None) ∷ []))
      × (k.stage ≡ Holds before) × ((numbers k.mine).own ≡ number) × lawful k.problem before k.mine after

  -- it has its next data and notes the value, while the slot is empty
  abbrev pub Announces : (P → S → M → S → M) → Hand S P M → S → Hand S P M → Type 0
  Announces next me after me' = (k : Known S P M) (before : S) → me ≡ (Live k, (0, None) ∷ []) → k.stage ≡ Holds before
      → me' ≡ (live k.problem (next k.problem before k.mine after) (Notes after) k.given, (0, None) ∷ [])

  -- it has its next data, which the value fits, and holds no turn
  abbrev pub PutsBack : (S → P → M → Type 0) → (P → S → M → S → M) → Hand S P M → S → Hand S P M → Type 0
  PutsBack fit next me after me' = (k : Known S P M) (before : S) → me ≡ (Live k, (0, None) ∷ []) → k.stage ≡ Holds before
      → (me' ≡ (live k.problem (next k.problem before k.mine after) Rests k.given, []))
      × fit after k.problem (next k.problem before k.mine after)
