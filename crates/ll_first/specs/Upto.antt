-- The first answers of a search.
use Rattle.std.specs.Prelude.{ℕ, zero, suc, ◌<◌, ◌≤◌, List, [], ◌∷◌, Option, Some, None, option_map, unwrap_or, if◌then◌else◌}
use Rattle.ll_laws.specs.declared.Event.{Event}
use Rattle.ll_laws.specs.declared.Event.TheVariants.{Answer, Reached}
use Rattle.ll_laws.specs.Search.{is_answer, cut_count}

-- the shortest prefix of the events that has so many answers; none where they have fewer
abbrev pub upto : List Event → ℕ → Option (List Event)
upto es zero = Some []
upto [] (suc k) = None
upto (e ∷ es) (suc k) = option_map (λ front. e ∷ front) (upto es (if is_answer e then k else suc k))

-- the events of which so many answers are wanted: the shortest prefix with these, and all events where they have fewer
abbrev pub first_of : List Event → ℕ → List Event
first_of es k = unwrap_or (upto es k) es

-- so many answers that one may want
abbrev pub IsLimit : ℕ → Type 0
IsLimit k = (0 < k) × (k ≤ 18446744073709551615)

-- the number of answers with one event more, cut at the greatest u64
abbrev pub counted : ℕ → Event → ℕ
counted k (Answer a) = cut_count (suc k)
counted k Reached = k
