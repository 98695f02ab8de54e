-- A context as contracts see it, and what each of its calls makes of it.
-- Leftovers are handed on lazily, after the input and output contexts of Hodas and Miller 1994.
use Rattle.std.specs.Prelude.{ℕ, suc, ◌-◌, Bool, true, false, ◌≡◌, ◌<◌, List, [], ◌∷◌, ◌++◌, length, map, drop, slice_index_or, Option, Some, None}
use Rattle.std.specs.Prelude.{if◌then◌else◌, option_map}
use Rattle.ll_laws.specs.declared.Kind.{Kind}
use Rattle.ll_laws.specs.Settle.{Entry, Saved, Item, Goal, WithMiddle, LolliEnd, ImpEnd, WithEnd, BangEnd, Front, marks, remark, unlive, settle_front}
use Rattle.ll_resources.specs.declared.context.Saved.{Saved as Handle}
use Rattle.ll_laws.specs.Attempt.{is_linear, is_open, entry_at, picked}

-- a context as contracts see it, with what it has kept
pub record Resources (C : Type 0) : Type 0 where
  -- the entries, the newest in front
  pub entries : List (Entry C)
  -- an `erase` may still take what is left
  pub flag : Bool
  -- the label of the next entry
  pub next : ℕ
  -- the live marks and flags that were kept so far, by their numbers
  pub kept : List Saved
  -- the key under which each entry was loaded; those of the start have none
  pub keys : List (Option ℕ)

-- the live marks and the flag that a context has
abbrev pub saved_now : {C : Type 0} → Resources C → Saved
saved_now r = record { live = marks r.entries; flag = r.flag }

-- the handle of what was kept under a number
abbrev pub saved_as : ℕ → Handle
saved_as n = record { number = n }

-- what was kept under a handle
abbrev pub saved_at : List Saved → Handle → Saved
saved_at kept h = slice_index_or kept h.number (record { live = []; flag = false })

-- a clause as an entry with this label: a linear one is live
abbrev pub new_entry : {C : Type 0} → ℕ → Kind → C → Entry C
new_entry label kind clause = record { label = label; kind = kind; live = is_linear kind; clause = clause }

-- clauses as entries, the first in front, with labels from n on
abbrev pub entries_from : {C : Type 0} → ℕ → List (Kind × C) → List (Entry C)
entries_from n [] = []
entries_from n (c ∷ cs) = new_entry n c.0 c.1 ∷ entries_from (suc n) cs

-- the context in which a search over these clauses starts
abbrev pub started : {C : Type 0} → List (Kind × C) → Resources C
started cs = record { entries = entries_from 0 cs; flag = false; next = length cs; kept = []; keys = map (λ _. None) cs }

-- a context with a clause loaded in front under the next label and this key; a linear one clears the flag
abbrev pub after_load_keyed : {C : Type 0} → Kind → C → ℕ → Resources C → Resources C
after_load_keyed kind clause key r =
    record r {
      entries = new_entry r.next kind clause ∷ r.entries;
      flag = if is_linear kind then false else r.flag;
      next = suc r.next;
      keys = Some key ∷ r.keys;
    }

-- a clause that is loaded without a key has the key 0
abbrev pub after_load : {C : Type 0} → Kind → C → Resources C → Resources C
after_load kind clause r = after_load_keyed kind clause 0 r

-- a context in which the entry with this label has lost its live mark
abbrev pub after_pick : {C : Type 0} → ℕ → Resources C → Resources C
after_pick label r = record r { entries = picked label r.entries }

-- an entry has this label, and is unbounded or live
abbrev pub CanPick : {C : Type 0} → ℕ → Resources C → Type 0
CanPick label r = option_map is_open (entry_at r.entries label) ≡ Some true

-- a context with its flag set
abbrev pub after_erase : {C : Type 0} → Resources C → Resources C
after_erase r = record r { flag = true }

-- a context that has kept its live marks and its flag, and whose flag is cleared
abbrev pub after_save : {C : Type 0} → Resources C → Resources C
after_save r = record r { flag = false; kept = r.kept ++ saved_now r ∷ [] }

-- a context in which all entries have lost their live marks
abbrev pub after_bang : {C : Type 0} → Resources C → Resources C
after_bang r = record r { entries = map unlive r.entries }

-- the context has as many entries as when this was kept
abbrev pub SavedFits : {C : Type 0} → Handle → Resources C → Type 0
SavedFits saved r = (saved.number < length r.kept) × (length (saved_at r.kept saved).live ≡ length r.entries)

-- the first so many that were kept mean the same in both contexts
abbrev pub KeepsSaved : {C : Type 0} → ℕ → Resources C → Resources C → Type 0
KeepsSaved count r s = (h : Handle) → h.number < count → saved_at s.kept h ≡ saved_at r.kept h

-- the middle of `&`: the present live marks and flag are kept, the live marks from before are given back, the flag is cleared
abbrev pub after_with_mid : {C : Type 0} → Handle → Resources C → Resources C
after_with_mid saved r = record (after_save r) { entries = remark r.entries (saved_at r.kept saved).live }

-- an end in front of an agenda. What goals are made of plays no part in it.
abbrev pub End : Type 0
End = Item (Unit {0})

-- a context with the entries and the flag that settling gave. Those that are there still have their keys.
abbrev pub with_front : {C : Type 0} → Resources C → Front (Unit {0}) C → Resources C
with_front r f = record r { entries = f.context; flag = f.flag; keys = drop (length r.entries - length f.context) r.keys }

-- the context after an end is worked off, or none where settling fails
abbrev pub settled : {C : Type 0} → End → Resources C → Option (Resources C)
settled end r = option_map (with_front r) (settle_front (end ∷ []) r.entries r.flag)

-- the end of the goal for which the front entry was loaded: of `-o` for a linear one, of `=>` for an unbounded one
abbrev pub load_end : {C : Type 0} → Bool → List (Entry C) → End
load_end saved [] = ImpEnd
load_end saved (e ∷ es) = if is_linear e.kind then LolliEnd saved else ImpEnd

-- the end of `{}`, and that of `&`, by the numbers of what was kept
abbrev pub bang_end : List Saved → Handle → End
bang_end kept saved = BangEnd (saved_at kept saved)

abbrev pub with_end : List Saved → Handle → Handle → End
with_end kept saved half = WithEnd (saved_at kept saved) (saved_at kept half)

-- the middle of `&` as settling works it off: a goal is next, and after it the end of `&` with what the first side left
abbrev pub SettlesMiddle : {C : Type 0} → Saved → Saved → Resources C → Resources C → Type 0
SettlesMiddle saved half old new =
    settle_front (WithMiddle saved ∷ Goal (tt {0}) ∷ WithEnd saved saved ∷ []) old.entries old.flag
    ≡ Some (record { agenda = Goal (tt {0}) ∷ WithEnd saved half ∷ []; context = new.entries; flag = new.flag })
