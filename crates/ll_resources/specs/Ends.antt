-- Ends in front of an agenda whose goals are of any kind.
use Rattle.std.specs.Prelude.{◌≡◌, Bool, true, false, List, ◌∷◌, Option, Some, None}
use Rattle.ll_laws.specs.Settle.{Saved, Item, Goal, LolliEnd, ImpEnd, WithMiddle, WithEnd, BangEnd, Front, settle_front, map_item}
use Rattle.ll_resources.specs.Resources.{Resources, End, settled, SettlesMiddle}

-- an item is the end of a `-o`, `=>`, `&` or `{}`
abbrev pub is_end : {G : Type 0} → Item G → Bool
is_end (Goal g) = false
is_end (LolliEnd saved) = true
is_end ImpEnd = true
is_end (WithMiddle saved) = false
is_end (WithEnd saved half) = true
is_end (BangEnd saved) = true

-- an item without what its goal is made of
abbrev pub as_end : {G : Type 0} → Item G → End
as_end i = map_item (λ _. tt {0}) i

-- an agenda settled after the end before it
abbrev pub settled_after : {G C : Type 0} → List (Item G) → Option (Resources C) → Option (Front G C)
settled_after rest None = None
settled_after rest (Some r) = settle_front rest r.entries r.flag

-- an agenda that begins with an end is settled by working off this end, which looks at no goal, and then settling the rest
abbrev pub EndsSettle : Type 0 → Type 0 → Type 0
EndsSettle G C = (i : Item G) (rest : List (Item G)) (r : Resources C) → is_end i ≡ true
    → settle_front (i ∷ rest) r.entries r.flag ≡ settled_after rest (settled (as_end i) r)

-- an agenda that begins with the middle of a `&` is settled by what its second side gets, which looks at no goal
abbrev pub MiddlesSettle : Type 0 → Type 0 → Type 0
MiddlesSettle G C =
    (saved half kept old : Saved) (g : G) (rest : List (Item G)) (r s : Resources C) → SettlesMiddle saved half r s
    → settle_front (WithMiddle saved ∷ Goal g ∷ WithEnd kept old ∷ rest) r.entries r.flag
    ≡ Some (record { agenda = Goal g ∷ WithEnd kept half ∷ rest; context = s.entries; flag = s.flag })
