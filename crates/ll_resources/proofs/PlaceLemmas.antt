-- The places of entries.
use Rattle.std.proofs.Common.{◌≡◌, ℕ, suc, Bool, nat_eq, List, [], ◌∷◌, refl, ap}
use Rattle.std.specs.Prelude.{if◌then◌else◌}
use Rattle.ll_resources.specs.declared.state.Stored.{Stored}
use Rattle.ll_resources.specs.Seen.{seen_all}
use Rattle.ll_resources.specs.Raw.{first_place}
use Rattle.ll_resources.specs.Places.{label_place}

-- an entry has one place, with its mark and without
pub place-seen : {C : Type 0} (label : ℕ) (ss : List (Stored C)) (bs : List Bool) → label_place label (seen_all ss bs) ≡ first_place label ss
place-seen label [] bs = refl
place-seen label (s ∷ ss) [] = ap (λ n. if nat_eq s.label label then 0 else suc n) (place-seen label ss [])
place-seen label (s ∷ ss) (b ∷ bs) = ap (λ n. if nat_eq s.label label then 0 else suc n) (place-seen label ss bs)
