-- Changes of a context, and the states from which it came by them.
use Rattle.std.specs.Prelude.{◌≡◌, ℕ, zero, suc, Bool, List, [], ◌∷◌, ◌++◌, length, take, drop, slice_set, Option, Some, None}
use Rattle.ll_resources.specs.declared.state.State.{State}
use Rattle.ll_resources.specs.declared.state.Change.{Change}
use Rattle.ll_resources.specs.declared.state.Change.TheVariants.{Loaded, Closed, Picked, Erased, SavedMarks, Remarked}
use Rattle.ll_resources.specs.Raw.{Raw, raw, shown, front, with_top, uncovered, kept_under}
use Rattle.ll_resources.specs.Chains.{Room, IsSound, HasNoLess}
use Rattle.ll_resources.specs.Resources.{Resources}
use Rattle.ll_resources.specs.Saves.{block_of}
use Rattle.ll_resources.specs.History.{History}

-- marks with one more, if there is one
abbrev pub with_last : List Bool → Option Bool → List Bool
with_last bs None = bs
with_last bs (Some b) = bs ++ b ∷ []

-- a state that has kept so many, without the last of them, whose live marks and flag are given back
abbrev pub without_last : {C : Type 0} → ℕ → Raw C → Raw C
without_last zero r = r
without_last (suc n) r =
    let last = kept_under n r in
    record r { live = block_of r.marks last; flag = last.flag; skips = last.skips; marks = take last.from r.marks; kept = take n r.kept }

-- the state before a change, by the state after it
abbrev pub taken_back : {C : Type 0} → Change C → Raw C → Raw C
taken_back (Loaded label flag) r = record (uncovered r) { live = front r.live; flag = flag; next = label }
taken_back (Closed e live flag top) r =
    record r { entries = r.entries ++ e ∷ []; live = with_last r.live live; flag = flag; tops = with_top e.key top r.tops }
taken_back (Picked slot live) r = record r { live = slice_set r.live slot live }
taken_back (Erased flag) r = record r { flag = flag }
taken_back SavedMarks r = without_last (length r.kept) r
taken_back (Remarked from flag skips) r = record r { live = drop from r.marks; flag = flag; skips = skips; marks = take from r.marks }

-- the state before these changes, which were made one after another
abbrev pub before : {C : Type 0} → List (Change C) → Raw C → Raw C
before [] r = r
before (c ∷ cs) r = taken_back c (before cs r)

-- the states before each of these changes
abbrev pub states_before : {C : Type 0} → List (Change C) → Raw C → List (Resources C)
states_before [] r = []
states_before (c ∷ cs) r = shown (before (c ∷ cs) r) ∷ states_before cs r

-- a state with those from which it came
abbrev pub history : {C : Type 0} → List (Change C) → Raw C → History C
history cs r = record { present = shown r; past = states_before cs r }

-- this state and those from which it came are sound
abbrev pub AreSound : {C : Type 0} → List (Change C) → Raw C → Room → Type 0
AreSound cs r room = (i : ℕ) → IsSound room (before (drop i cs) r)

-- the change leads from one state to the other, in no less room
pub record Leads {C : Type 0} (change : Change C) (old new : State C) : Type 0 where
  pub back : taken_back change (raw new) ≡ raw old
  pub room : HasNoLess old new
