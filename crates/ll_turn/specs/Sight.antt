-- What a contract sees of a pass.
use Rattle.std.specs.Prelude.{◌≡◌, ℕ, List, true, Option}
use Rattle.atomic_table.specs.Seated.{TableId}
use Rattle.ll_turn.specs.declared.view.View.{View}
use Rattle.ll_turn.specs.Views.{is_live, known, before_of}

-- its turn, its problem, its own data, the value as it stood when the pass took the turn that it still holds, or None,
-- and the numbers of the passes that were split from it and not joined to it yet
pub record Sight (S P M : Type 0) : Type 0 where
  pub table : TableId
  pub problem : P
  pub mine : M
  pub before : Option S
  pub given : List ℕ

-- the sight of a pass that lives, at this table
abbrev pub sight : {S P M : Type 0} → TableId → (v : View S P M) → is_live v ≡ true → Sight S P M
sight table v lives =
    let k = known v lives in
    record { table = table; problem = k.problem; mine = k.mine; before = before_of k.stage; given = k.given }
