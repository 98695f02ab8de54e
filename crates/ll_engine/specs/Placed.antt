-- Entries at the places of their labels.
use Rattle.std.specs.Prelude.{◌≡◌, ℕ, List, Some, slice_get}
use Rattle.ll_laws.specs.Settle.{Entry}
use Rattle.ll_resources.specs.Places.{label_place}

-- each entry is at the first place with its label
abbrev pub AreAtTheirLabels : {C : Type 0} → List (Entry C) → Type 0
AreAtTheirLabels es = (i : ℕ) (e : _) → slice_get es i ≡ Some e → label_place e.label es ≡ i
