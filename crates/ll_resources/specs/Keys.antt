-- Entries by the keys under which they were loaded.
use Rattle.std.specs.Prelude.{ℕ, Bool, false, ◌||◌, ◌&&◌, nat_eq, nat_lt, List, [], ◌∷◌, length, Option, Some, None, if◌then◌else◌}
use Rattle.ll_laws.specs.Settle.{Entry}
use Rattle.ll_laws.specs.Attempt.{is_open}
use Rattle.ll_resources.specs.declared.keyed.Keyed.{Keyed}
use Rattle.ll_resources.specs.Resources.{Resources}

-- an entry was loaded under this key
abbrev pub has_key : ℕ → Option ℕ → Bool
has_key key None = false
has_key key (Some k) = nat_eq k key

-- entries of a key, with those under key 0, are found by it
abbrev pub is_found : ℕ → Option ℕ → Bool
is_found key given = has_key key given || has_key 0 given

-- the open ones among entries that are found by a key
abbrev pub open_found : {C : Type 0} → ℕ → List (Option ℕ) → List (Entry C) → List (Entry C)
open_found key [] es = []
open_found key (k ∷ ks) [] = []
open_found key (k ∷ ks) (e ∷ es) = if is_found key k && is_open e then e ∷ open_found key ks es else open_found key ks es

-- the open entries of a context that are found by a key, the newest first
abbrev pub found_by : {C : Type 0} → ℕ → Resources C → List (Entry C)
found_by key r = open_found key r.keys r.entries

-- an entry with so many older ones, that was loaded under a key, is still to come
abbrev pub comes : Keyed → ℕ → Option ℕ → Bool
comes k place given = (has_key k.key given && nat_lt place k.own) || (has_key 0 given && nat_lt place k.any)

-- the open ones among entries that are still to come
abbrev pub open_coming : {C : Type 0} → Keyed → List (Option ℕ) → List (Entry C) → List (Entry C)
open_coming k [] es = []
open_coming k (given ∷ ks) [] = []
open_coming k (given ∷ ks) (e ∷ es) = if comes k (length es) given && is_open e then e ∷ open_coming k ks es else open_coming k ks es

-- the open entries of a context that are still to come, the newest first
abbrev pub to_come : {C : Type 0} → Keyed → Resources C → List (Entry C)
to_come k r = open_coming k r.keys r.entries
