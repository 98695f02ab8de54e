-- What is known of a program's modules by the names of the first of them.
use Rattle.std.specs.Prelude.{◌≡◌, ℕ, List, find}
use Rattle.std.specs.Option.{option_map}
use Rattle.std.specs.Str.{bytes_eq}
use Rattle.std.specs.HashMap.{HashMap, get_by}
use denote.Ref.{Bor}
use Rattle.std.specs.declared.hash.FoldHasher.{FoldHasher}
use Rattle.std.specs.declared.hash.BuildHasherDefault.{BuildHasherDefault}
use Rattle.ll_polarity.specs.Faults.{Heading, is_named}

-- the map has at each name the number of parameters of the first module of the name
abbrev pub AreFound : HashMap (Bor (List ℕ)) ℕ (BuildHasherDefault FoldHasher) → List Heading → Type 0
AreFound params ms = (w : List ℕ) → get_by (λ k. bytes_eq w k.now) params ≡ option_map (λ m. m.params) (find (is_named w) ms)
