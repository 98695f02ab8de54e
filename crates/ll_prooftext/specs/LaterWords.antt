-- The last of the words of nodes, and what follows each.
use Rattle.std.specs.Prelude.{ℕ, List, [], ◌∷◌, codes}
use Rattle.ll_prooftext.specs.Reading.{Want, Nothing, Then, Arguments, Number, Argument}

abbrev pub later_words : List (List ℕ × Want)
later_words =
    (codes "lolli", Then Number Nothing) ∷ (codes "imp", Then Number Nothing) ∷ (codes "forall", Then Number Nothing)
    ∷ (codes "exists", Then Argument Nothing) ∷ (codes "use", Nothing) ∷ (codes "num", Nothing) ∷ (codes "clause", Then Number (Then Number Arguments)) ∷ []
