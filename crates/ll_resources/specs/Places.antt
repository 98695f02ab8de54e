-- The places of entries.
use Rattle.std.specs.Prelude.{ℕ, suc, nat_eq, List, [], ◌∷◌, if◌then◌else◌}
use Rattle.ll_laws.specs.Settle.{Entry}

-- the place of the first entry with this label, the newest being 0, or their number if there is none
abbrev pub label_place : {C : Type 0} → ℕ → List (Entry C) → ℕ
label_place label [] = 0
label_place label (e ∷ es) = if nat_eq e.label label then 0 else suc (label_place label es)
