-- A context as it is stored, and what each call makes of it.
use Rattle.std.specs.Prelude.{◌≡◌, ℕ, suc, ◌+◌, ◌-◌, Bool, false, ◌||◌, ◌&&◌, not, nat_lt, nat_eq, List, [], ◌∷◌, ◌++◌, length, map, reverse, take}
use Rattle.std.specs.Prelude.{◌<◌, Option, Some, None, slice_set, slice_index_or, if◌then◌else◌}
use Rattle.ll_laws.specs.declared.Kind.{Kind}
use Rattle.ll_laws.specs.Attempt.{is_linear}
use Rattle.ll_laws.specs.Settle.{join_by, kept_if, both_live}
use Rattle.ll_resources.specs.declared.state.State.{State}
use Rattle.ll_resources.specs.declared.state.Stored.{Stored}
use Rattle.ll_resources.specs.declared.saves.SavedMarks.{SavedMarks}
use Rattle.ll_resources.specs.Resources.{Resources}
use Rattle.ll_resources.specs.Saves.{kept_marks, block_of}
use Rattle.ll_resources.specs.Seen.{seen_all, filled}

-- the entries, the oldest first, and the live marks of the newest of them
pub record Raw (C : Type 0) : Type 0 where
  pub entries : List (Stored C)
  pub live : List Bool
  pub flag : Bool
  pub next : ℕ
  -- marks that were kept, and marks from before a change, one block behind the other
  pub marks : List Bool
  pub kept : List SavedMarks
  -- a place before which all entries of a key come
  pub tops : ℕ → ℕ
  -- what was spent when an entry was loaded is so as long as it is there
  pub skips : Bool

-- the place that is listed for a key, or 0
abbrev pub top_in : List ℕ → ℕ → ℕ
top_in tops key = slice_index_or tops key 0

-- what a state stores
abbrev pub raw : {C : Type 0} → State C → Raw C
raw s = record {
  entries = s.entries.items;
  live = s.live.items;
  flag = s.flag;
  next = s.next;
  marks = s.saves.marks.items;
  kept = s.saves.kept.items;
  tops = top_in s.tops.items;
  skips = s.skips;
}

-- and contracts see
abbrev pub shown : {C : Type 0} → Raw C → Resources C
shown r = record {
  entries = seen_all (reverse r.entries) (reverse r.live);
  flag = r.flag;
  next = r.next;
  kept = map (kept_marks r.marks) r.kept;
  keys = map (λ s. s.key) (reverse r.entries);
}

-- a list without its last item
abbrev pub front : {X : Type 0} → List X → List X
front xs = take (length xs - 1) xs

-- the place of a key, or 0 for none
abbrev pub top_of : Option ℕ → (ℕ → ℕ) → ℕ
top_of None tops = 0
top_of (Some key) tops = tops key

-- another place for a key
abbrev pub with_top : Option ℕ → ℕ → (ℕ → ℕ) → ℕ → ℕ
with_top None top tops k = tops k
with_top (Some key) top tops k = if nat_eq k key then top else tops k

-- there is a place for the key
abbrev pub IsListed : List ℕ → Option ℕ → Type 0
IsListed tops None = Unit {0}
IsListed tops (Some key) = key < length tops

-- the places once the first of these entries goes, the newest in front
abbrev pub tops_under : {C : Type 0} → List (Stored C) → (ℕ → ℕ) → ℕ → ℕ
tops_under [] tops k = tops k
tops_under (e ∷ es) tops k = with_top e.key e.under tops k

-- the newest entry let go, without its mark
abbrev pub uncovered : {C : Type 0} → Raw C → Raw C
uncovered r = record r { entries = front r.entries; tops = tops_under (reverse r.entries) r.tops }

-- a clause as an entry with this label
abbrev pub stored : {C : Type 0} → ℕ → Kind → C → Stored C
stored label kind clause = record { label = label; kind = kind; clause = clause; key = None; past = 0; under = 0 }

-- a clause as an entry with a key, and with the places before which the others of its key come
abbrev pub chained : {C : Type 0} → ℕ → Kind → C → ℕ → ℕ → ℕ → Stored C
chained label kind clause key past under = record (stored label kind clause) { key = Some key; past = past; under = under }

-- a clause loaded under the next label and a key, where the open ones of its key come before a place
abbrev pub raw_loaded : {C : Type 0} → Kind → C → ℕ → ℕ → Raw C → Raw C
raw_loaded kind clause key past r = record r {
  entries = r.entries ++ chained r.next kind clause key past (r.tops key) ∷ [];
  live = r.live ++ is_linear kind ∷ [];
  flag = if is_linear kind then false else r.flag;
  next = suc r.next;
  tops = with_top (Some key) (suc (length r.entries)) r.tops;
}

-- the place among so many marks of the one that is this far from the newest, or their number
abbrev pub mark_slot : ℕ → ℕ → ℕ
mark_slot count from_front = if nat_lt from_front count then count - 1 - from_front else count

-- the later marks are the earlier ones and this one, of a newer entry
abbrev pub HasOneMore : List Bool → Bool → List Bool → Type 0
HasOneMore old mark new = (n : ℕ) → filled (suc n) (reverse new) ≡ mark ∷ filled n (reverse old)

-- the mark at a place taken away
abbrev pub raw_picked : {C : Type 0} → ℕ → Raw C → Raw C
raw_picked slot r = record r { live = slice_set r.live slot false }

-- the place of the first entry with this label, or their number if there is none
abbrev pub first_place : {C : Type 0} → ℕ → List (Stored C) → ℕ
first_place label [] = 0
first_place label (e ∷ es) = if nat_eq e.label label then 0 else suc (first_place label es)

-- the newest entry let go, under this flag
abbrev pub raw_closed : {C : Type 0} → Bool → Raw C → Raw C
raw_closed flag r = record (uncovered r) { live = front r.live; flag = flag }

-- the newest entry is linear
abbrev pub newest_linear : {C : Type 0} → List (Stored C) → Bool
newest_linear [] = false
newest_linear (e ∷ es) = is_linear e.kind

-- the end of the newest entry's goal fails: the entry is linear and live, and the flag is clear
abbrev pub end_fails : {C : Type 0} → Raw C → Bool
end_fails r = newest_linear (reverse r.entries) && (slice_index_or (reverse r.live) 0 false && not r.flag)

-- the flag after it
abbrev pub end_flag : {C : Type 0} → Bool → Raw C → Bool
end_flag saved r = if newest_linear (reverse r.entries) then saved || r.flag else r.flag

-- the end of the newest entry's goal leads from one state to the other
pub record Closes {C : Type 0} (saved : Bool) (old new : Raw C) : Type 0 where
  pub goes : end_fails old ≡ false
  pub state : new ≡ raw_closed (end_flag saved old) old

-- the present marks and flag, as they are kept behind all others
abbrev pub kept_now : {C : Type 0} → Raw C → SavedMarks
kept_now r = record {
  count = length r.entries;
  next = r.next;
  from = length r.marks;
  to = length r.marks + length r.live;
  flag = r.flag;
  skips = r.skips;
}

-- marks and flag kept, and others in their place
abbrev pub raw_kept : {C : Type 0} → List Bool → Raw C → Raw C
raw_kept live r = record r { live = live; flag = false; marks = r.marks ++ r.live; kept = r.kept ++ kept_now r ∷ [] }

-- other marks and another flag, with the old marks behind all others
abbrev pub raw_remarked : {C : Type 0} → List Bool → Bool → Raw C → Raw C
raw_remarked live flag r = record r { live = live; flag = flag; marks = r.marks ++ r.live }

-- what was kept under a number
abbrev pub kept_under : {C : Type 0} → ℕ → Raw C → SavedMarks
kept_under number r = slice_index_or r.kept number (record { count = 0; next = 0; from = 0; to = 0; flag = false; skips = false })

-- its marks
abbrev pub block_under : {C : Type 0} → ℕ → Raw C → List Bool
block_under number r = block_of r.marks (kept_under number r)

-- its marks once the present ones lie behind them
abbrev pub block_later : {C : Type 0} → ℕ → Raw C → List Bool
block_later number r = block_of (r.marks ++ r.live) (kept_under number r)

-- the labels of entries
abbrev pub label_at : {C : Type 0} → List (Stored C) → ℕ → ℕ
label_at es i = slice_index_or (map (λ s. s.label) es) i 0

-- what was kept under a number was kept while all of these entries were there
abbrev pub is_younger : {C : Type 0} → ℕ → Raw C → Bool
is_younger number r =
    let n = length r.entries in let k = kept_under number r in
    nat_eq n 0 || (nat_eq k.count n && nat_lt (label_at r.entries (n - 1)) k.next)

-- entries are skipped from now on where what is given back was kept while all of them were there
abbrev pub with_skips : {C : Type 0} → ℕ → Raw C → Raw C → Raw C
with_skips number old new = record new { skips = old.skips && is_younger number old }

-- the first side's marks and flag were kept under this number, and both sides agree exactly where the test holds
abbrev pub Agrees : {C : Type 0} → ℕ → Raw C → Bool → Type 0
Agrees half r ok =
    let a = filled (length r.entries) (reverse (block_under half r)) in let b = filled (length r.entries) (reverse r.live) in
    let v = (kept_under half r).flag in join_by v r.flag a b ≡ kept_if ok (both_live a b) (v && r.flag)

-- what both sides leave is in the later state
pub record Joins {C : Type 0} (number half : ℕ) (old new : Raw C) : Type 0 where
  pub state : new ≡ raw_remarked new.live ((kept_under number old).flag || ((kept_under half old).flag && old.flag)) old
  pub both : (n : ℕ) → filled n (reverse new.live) ≡ both_live (filled n (reverse (block_later half old))) (filled n (reverse old.live))
