-- What contracts see of entries.
use Rattle.std.specs.Prelude.{ℕ, zero, suc, Bool, false, List, [], ◌∷◌}
use Rattle.ll_laws.specs.Settle.{Entry as Resource}
use Rattle.ll_resources.specs.declared.Entry.{Entry}
use Rattle.ll_resources.specs.declared.state.Stored.{Stored}

-- an entry of a context as a resource
abbrev pub resource : {C : Type 0} → Entry C → Resource C
resource e = record { label = e.label; kind = e.kind; live = e.live; clause = e.clause }

-- an entry with its live mark
abbrev pub seen : {C : Type 0} → Stored C → Bool → Resource C
seen s live = record { label = s.label; kind = s.kind; live = live; clause = s.clause }

-- entries with their live marks, both with the newest in front: where the marks end no entry is live
abbrev pub seen_all : {C : Type 0} → List (Stored C) → List Bool → List (Resource C)
seen_all [] bs = []
seen_all (s ∷ ss) [] = seen s false ∷ seen_all ss []
seen_all (s ∷ ss) (b ∷ bs) = seen s b ∷ seen_all ss bs

-- the marks of so many entries
abbrev pub filled : ℕ → List Bool → List Bool
filled zero bs = []
filled (suc n) [] = false ∷ filled n []
filled (suc n) (b ∷ bs) = b ∷ filled n bs
