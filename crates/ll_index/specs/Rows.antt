-- What the rows of names say of the leaves' keys, and a walk along the chain of a predicate.
use Rattle.std.specs.Prelude.{◌≡◌, ◌<◌, ◌≤◌, ℕ, suc, ◌+◌, Bool, false, ◌||◌, ◌&&◌, not, List, [], ◌∷◌, length, slice_get, Some, unwrap_or}
use Rattle.std.specs.Prelude.{nat_eq, nat_lt, if◌then◌else◌}
use Rattle.ll_index.specs.declared.laws.First.{First}
use Rattle.ll_index.specs.declared.laws.First.TheVariants.{Open}
use Rattle.ll_index.specs.contracts.laws.FirstPartialEq.TheImpl.{eq-value as first_eq}
use Rattle.ll_index.specs.declared.key.Key.{Key}
use Rattle.ll_index.specs.declared.key.Key.TheVariants.{Unnamed, Named}
use Rattle.ll_index.specs.declared.rows.Row.{Row}

-- ---- rows

-- the row of a name that has no leaf
abbrev pub no_row : ℕ → Row
no_row end = record { first = end; signless = end; arity = 0; count = 0; mixed = false }

-- the first leaf whose sign clashes with none, where a leaf with this sign comes before the others
abbrev pub signless_at : ℕ → First → ℕ → ℕ
signless_at at Open next = at
signless_at at _ next = next

-- one leaf more, where 8 stand for more as well
abbrev pub one_more : ℕ → ℕ
one_more n = if nat_lt n 8 then n + 1 else 8

-- a row with one leaf more, before the others
abbrev pub with_leaf : ℕ → ℕ → First → Row → Row
with_leaf at arguments first r = record {
  first = at;
  signless = signless_at at first r.signless;
  arity = arguments;
  count = one_more r.count;
  mixed = r.mixed || (nat_lt 0 r.count && not (nat_eq r.arity arguments));
}

-- and with a leaf that has this key
abbrev pub with_key : ℕ → Key → ℕ → Row → Row
with_key at (Named n k f) name r = if nat_eq n name then with_leaf at k f r else r
with_key at Unnamed name r = r

-- the row of a name, from keys that begin at place i
abbrev pub row_from : ℕ → List Key → ℕ → Row
row_from i [] name = no_row i
row_from i (k ∷ ks) name = with_key i k name (row_from (suc i) ks name)

-- the row that stands for a name
abbrev pub row_at : List Row → ℕ → ℕ → Row
row_at rows end name = unwrap_or (slice_get rows name) (no_row end)

-- the rows of all names
abbrev pub HasRows : List Key → List Row → Type 0
HasRows keys rows = (name : ℕ) → row_at rows (length keys) name ≡ row_from 0 keys name

-- the number of the name of a key is below this one
abbrev pub IsNamedBelow : ℕ → Key → Type 0
IsNamedBelow names (Named n k f) = n < names
IsNamedBelow names Unnamed = Unit {0}

-- ---- a walk along a chain

-- the key of the predicate alone
abbrev pub without_sign : Key → Key
without_sign (Named n k f) = Named n k Open
without_sign Unnamed = Unnamed

-- a key has this sign
abbrev pub has_sign : First → Key → Bool
has_sign first (Named n k f) = (first_eq).it f first
has_sign first Unnamed = false

-- a place of a predicate, or the end, before which no key is this one
pub record IsPassed (keys : List Key) (name arguments : ℕ) (first : First) (at : ℕ) : Type 0 where
  pub inside : at ≤ length keys
  pub here : (k : Key) → slice_get keys at ≡ Some k → without_sign k ≡ Named name arguments Open
  pub before : (j : ℕ) → j < at → slice_get keys j ≡ Some (Named name arguments first) → ⊥
