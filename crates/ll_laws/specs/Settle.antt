-- Resources and how the ends of goals are settled, over any kind of clause C and of goal G.
-- Leftovers are handed on lazily, after the input and output contexts of Hodas and Miller 1994; the flag says that an
-- `erase` may still take what is left.
use Rattle.std.specs.Prelude.{ℕ, Bool, true, false, ◌||◌, ◌&&◌, not, List, [], ◌∷◌, map, Option, Some, None, if◌then◌else◌}
use Rattle.std.specs.List.{list_any}
use Rattle.ll_laws.specs.declared.Kind.{Kind}

-- an entry of a context: a clause with its label; only a linear one can be live
pub record Entry (C : Type 0) : Type 0 where
  pub label : ℕ
  pub kind : Kind
  pub live : Bool
  pub clause : C

-- live marks, in the order of the context's entries, and a flag, as they were kept
pub record Saved : Type 0 where
  pub live : List Bool
  pub flag : Bool

-- an item of an agenda: a goal, or the end of one.
-- The end of `-o` keeps the flag from before; the middle of `&` and the end of `{}` keep marks and flag from before.
-- The end of `&` keeps those from before and those that the first side left, which the middle puts there.
pub data Item (G : Type 0) : Type 0 where
  Goal : G → Item G
  LolliEnd : Bool → Item G
  ImpEnd : Item G
  WithMiddle : Saved → Item G
  WithEnd : Saved → Saved → Item G
  BangEnd : Saved → Item G

-- what settling looks at: the agenda, the context with its newest entry in front, and the flag
pub record Front (G C : Type 0) : Type 0 where
  pub agenda : List (Item G)
  pub context : List (Entry C)
  pub flag : Bool

-- the live marks of a context
abbrev pub marks : {C : Type 0} → List (Entry C) → List Bool
marks es = map (λ e. e.live) es

-- a context with other live marks
abbrev pub remark : {C : Type 0} → List (Entry C) → List Bool → List (Entry C)
remark [] bs = []
remark (e ∷ es) [] = e ∷ es
remark (e ∷ es) (b ∷ bs) = record e { live = b } ∷ remark es bs

-- some entry is live
abbrev pub has_live : {C : Type 0} → List (Entry C) → Bool
has_live es = list_any (λ e. e.live) es

-- an entry without its live mark
abbrev pub unlive : {C : Type 0} → Entry C → Entry C
unlive e = record e { live = false }

-- each place that is live in the first marks is live in the second
abbrev pub within : List Bool → List Bool → Bool
within [] bs = true
within (a ∷ as') [] = true
within (a ∷ as') (b ∷ bs) = (not a || b) && within as' bs

-- the places that are live in both
abbrev pub both_live : List Bool → List Bool → List Bool
both_live [] bs = []
both_live (a ∷ as') [] = []
both_live (a ∷ as') (b ∷ bs) = (a && b) ∷ both_live as' bs

-- marks with a flag where a test holds
abbrev pub kept_if : Bool → List Bool → Bool → Option Saved
kept_if b live flag = if b then Some (record { live = live; flag = flag }) else None

-- what both sides of `&` leave, by the flags of the first and of the second side: none where they can't agree
abbrev pub join_by : Bool → Bool → List Bool → List Bool → Option Saved
join_by false false first second = kept_if (within first second && within second first) first false
join_by false true first second = kept_if (within first second) first false
join_by true false first second = kept_if (within second first) second false
join_by true true first second = Some (record { live = both_live first second; flag = true })

-- what both sides of `&` leave
abbrev pub join : Saved → Saved → Option Saved
join first second = join_by first.flag second.flag first.live second.live

-- the end of `-o`, which its entry has to have been used for, unless the flag is set
abbrev pub end_lolli : {G C : Type 0} → (List (Entry C) → Bool → Option (Front G C)) → Bool → List (Entry C) → Bool → Option (Front G C)
end_lolli go saved [] flag = None
end_lolli go saved (e ∷ es) flag = if e.live && not flag then None else go es (saved || flag)

-- a context without its newest entry
abbrev pub without_newest : {C : Type 0} → List (Entry C) → List (Entry C)
without_newest [] = []
without_newest (e ∷ es) = es

-- the middle of `&`: the second side is next, with the resources from before, and the end gets what the first side left
abbrev pub at_middle : {G C : Type 0} → Saved → Saved → List (Item G) → List (Entry C) → Option (Front G C)
at_middle saved half (Goal g ∷ WithEnd kept old ∷ rest) es =
    Some (record { agenda = Goal g ∷ WithEnd kept half ∷ rest; context = remark es saved.live; flag = false })
at_middle saved half _ es = None

-- the end of `&`
abbrev pub end_with : {G C : Type 0} → (List (Entry C) → Bool → Option (Front G C)) → Saved → List (Entry C) → Option Saved → Option (Front G C)
end_with go saved es None = None
end_with go saved es (Some s) = go (remark es s.live) (saved.flag || s.flag)

-- the ends in front of an agenda worked off: none where one of them fails
abbrev pub settle_front : {G C : Type 0} → List (Item G) → List (Entry C) → Bool → Option (Front G C)
settle_front [] es flag = Some (record { agenda = []; context = es; flag = flag })
settle_front (Goal g ∷ rest) es flag = Some (record { agenda = Goal g ∷ rest; context = es; flag = flag })
settle_front (LolliEnd saved ∷ rest) es flag = end_lolli (settle_front rest) saved es flag
settle_front (ImpEnd ∷ rest) es flag = settle_front rest (without_newest es) flag
settle_front (WithMiddle saved ∷ rest) es flag = at_middle saved (record { live = marks es; flag = flag }) rest es
settle_front (WithEnd saved half ∷ rest) es flag = end_with (settle_front rest) saved es (join half (record { live = marks es; flag = flag }))
settle_front (BangEnd saved ∷ rest) es flag = settle_front rest (remark es saved.live) saved.flag

-- an item whose goal is another
abbrev pub map_item : {G H : Type 0} → (G → H) → Item G → Item H
map_item g (Goal x) = Goal (g x)
map_item g (LolliEnd b) = LolliEnd b
map_item g ImpEnd = ImpEnd
map_item g (WithMiddle s) = WithMiddle s
map_item g (WithEnd s h) = WithEnd s h
map_item g (BangEnd s) = BangEnd s

-- an entry whose clause is another
abbrev pub map_entry : {C D : Type 0} → (C → D) → Entry C → Entry D
map_entry c e = record { label = e.label; kind = e.kind; live = e.live; clause = c e.clause }

-- a front whose goals and clauses are others
abbrev pub map_front : {G H C D : Type 0} → (G → H) → (C → D) → Front G C → Front H D
map_front g c f = record { agenda = map (map_item g) f.agenda; context = map (map_entry c) f.context; flag = f.flag }
