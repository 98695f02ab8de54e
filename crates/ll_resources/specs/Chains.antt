-- Chains of entries of one key, and what makes it sound to pass what was spent.
use Rattle.std.specs.Prelude.{◌≡◌, ℕ, ◌-◌, ◌≤◌, ◌<◌, Bool, true, false, ◌||◌, ◌&&◌, not, List, length, map, reverse, All, slice_index_or, Option, Some, None}
use Rattle.std.specs.Vec.{vec_capacity}
use Rattle.ll_laws.specs.Attempt.{is_linear}
use Rattle.ll_resources.specs.declared.state.State.{State}
use Rattle.ll_resources.specs.declared.state.Stored.{Stored}
use Rattle.ll_resources.specs.Saves.{IsWithin}
use Rattle.ll_resources.specs.Keys.{has_key}
use Rattle.ll_resources.specs.Raw.{Raw, raw_loaded, label_at, kept_under, block_under}
use Rattle.ll_laws.specs.declared.Kind.{Kind}

-- parts of the entry at a place, the oldest being 0
abbrev pub key_at : {C : Type 0} → List (Stored C) → ℕ → Option ℕ
key_at es i = slice_index_or (map (λ s. s.key) es) i None

abbrev pub linear_at : {C : Type 0} → List (Stored C) → ℕ → Bool
linear_at es i = slice_index_or (map (λ s. is_linear s.kind) es) i true

abbrev pub past_at : {C : Type 0} → List (Stored C) → ℕ → ℕ
past_at es i = slice_index_or (map (λ s. s.past) es) i 0

abbrev pub under_at : {C : Type 0} → List (Stored C) → ℕ → ℕ
under_at es i = slice_index_or (map (λ s. s.under) es) i 0

-- the mark of the entry at a place, among the marks of so many
abbrev pub mark_of : ℕ → List Bool → ℕ → Bool
mark_of count live i = slice_index_or (reverse live) (count - 1 - i) false

-- the entry at a place may be picked
abbrev pub open_at : {C : Type 0} → Raw C → ℕ → Bool
open_at r i = not (linear_at r.entries i) || mark_of (length r.entries) r.live i

-- and is of a key
abbrev pub wanted : {C : Type 0} → Raw C → ℕ → ℕ → Bool
wanted r key i = has_key key (key_at r.entries i) && open_at r i

-- an entry is spent as long as a newer one is there
pub record IsSpent {C : Type 0} (r : Raw C) (newer i : ℕ) : Type 0 where
  pub linear : linear_at r.entries i ≡ true
  pub mark : mark_of (length r.entries) r.live i ≡ false
  -- also in what was kept since
  pub kept : (n : ℕ) → n < length r.kept → label_at r.entries newer < (kept_under n r).next
      → mark_of (kept_under n r).count (block_under n r) i ≡ false

-- the chains of a context are sound
pub record IsChained {C : Type 0} (r : Raw C) : Type 0 where
  -- the labels of loaded entries rise
  pub rise : (key i j : ℕ) → key_at r.entries i ≡ Some key → i < j → j < length r.entries → label_at r.entries i < label_at r.entries j
  pub below : (key i : ℕ) → key_at r.entries i ≡ Some key → label_at r.entries i < r.next
  -- what was kept was kept before now
  pub kept : All (λ k. k.next ≤ r.next) r.kept
  pub tops : (key i : ℕ) → key_at r.entries i ≡ Some key → i < r.tops key
  pub under : (key i j : ℕ) → key_at r.entries i ≡ Some key → key_at r.entries j ≡ Some key → i < j → i < under_at r.entries j
  pub past : r.skips ≡ true → (key i j : ℕ) → key_at r.entries i ≡ Some key → key_at r.entries j ≡ Some key → i < j → past_at r.entries j ≤ i
      → IsSpent r j i

-- the place behind the newest open entry of a key before a place
pub record IsNewestOpen {C : Type 0} (r : Raw C) (key from at : ℕ) : Type 0 where
  pub within : at ≤ from
  pub none : (i : ℕ) → at ≤ i → i < from → wanted r key i ≡ false
  pub here : 0 < at → wanted r key (at - 1) ≡ true
  pub there : at ≤ length r.entries

-- a clause is loaded under a key
pub record Loads {C : Type 0} (kind : Kind) (clause : C) (key : ℕ) (old new : Raw C) : Type 0 where
  pub at : ℕ
  pub newest : IsNewestOpen old key (old.tops key) at
  pub state : new ≡ raw_loaded kind clause key at old

-- how much a context can hold without more memory: entries, live marks and keys
pub record Room : Type 0 where
  pub entries : ℕ
  pub live : ℕ
  pub keys : ℕ

abbrev pub room_of : {C : Type 0} → State C → Room
room_of s = record { entries = vec_capacity s.entries; live = vec_capacity s.live; keys = length s.tops.items }

-- there is room for the entries, their marks and keys, what is kept lies among the marks, and the chains are sound
pub record IsSound {C : Type 0} (room : Room) (r : Raw C) : Type 0 where
  pub entries_fit : length r.entries ≤ room.entries
  pub live_fit : length r.live ≤ room.live
  pub keys_fit : (key i : ℕ) → key_at r.entries i ≡ Some key → key < room.keys
  pub within : All (IsWithin r.marks) r.kept
  pub chained : IsChained r

-- no less room
pub record IsNoLess (old new : Room) : Type 0 where
  pub entries : old.entries ≤ new.entries
  pub live : old.live ≤ new.live
  pub keys : old.keys ≤ new.keys

-- the later state has no less room
abbrev pub HasNoLess : {C : Type 0} → State C → State C → Type 0
HasNoLess old new = IsNoLess (room_of old) (room_of new)
