-- What is known of the places of modules by their names.
use Rattle.std.specs.Prelude.{◌≡◌, ℕ, List, unwrap_or}
use Rattle.std.specs.Str.{bytes_eq}
use Rattle.std.specs.HashMap.{HashMap, get_by}
use denote.Ref.{Bor}
use Rattle.std.specs.declared.hash.FoldHasher.{FoldHasher}
use Rattle.std.specs.declared.hash.BuildHasherDefault.{BuildHasherDefault}
use Rattle.ll_bank.specs.Names.{number_of}

-- the places of modules by their names
abbrev pub PlaceMap : Type 0
PlaceMap = HashMap (Bor (List ℕ)) ℕ (BuildHasherDefault FoldHasher)

-- the place of a module, or 0
abbrev pub place_in : PlaceMap → List ℕ → ℕ
place_in places w = unwrap_or (get_by (λ k. bytes_eq w k.now) places) 0

-- the map has at each name the place of the first module of the name
abbrev pub FindsFirst : PlaceMap → List (List ℕ) → Type 0
FindsFirst places ms = (w : List ℕ) → get_by (λ k. bytes_eq w k.now) places ≡ number_of ms w
