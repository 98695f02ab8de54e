-- The words of nodes, told apart in two parts.
use Rattle.std.proofs.Common.{◌≡◌, ℕ, false, List, [], ◌∷◌, ◌++◌, Option, Some, None, MatchOption, codes}
use Rattle.std.specs.Str.{bytes_eq}
use Rattle.ll_prooftext.specs.declared.rows.NodeWord.{NodeWord}
use Rattle.ll_prooftext.specs.Reading.{Want, Nothing, Then, Set, listed, node_words}
use Rattle.ll_prooftext.specs.RowWords.{IsNodeWord}
use Rattle.ll_prooftext.specs.LaterWords.{later_words}
use Rattle.ll_prooftext.proofs.reading.RowsRead.{AreOthers}

not_listed_front : (ws more : List (List ℕ × Want)) (w : List ℕ) → AreOthers ws w → listed more w ≡ None → listed (ws ++ more) w ≡ None
not_listed_front [] more w a h = h
not_listed_front (entry ∷ ws) more w a h = let f : bytes_eq entry.0 w ≡ false = a.0 in rw f (not_listed_front ws more w a.1 h)

-- the words in front of the last ones
abbrev pub first_words : List (List ℕ × Want)
first_words =
    (codes "true", Nothing) ∷ (codes "erase", Nothing) ∷ (codes "tensor", Then Set (Then Set Nothing)) ∷ (codes "with", Nothing) ∷ (codes "left", Nothing)
    ∷ (codes "right", Nothing) ∷ (codes "bang", Nothing) ∷ []

pub by_later : (w : List ℕ) (r : Option NodeWord) → AreOthers first_words w → MatchOption r (listed later_words w ≡ None) (IsNodeWord w)
    → MatchOption r (listed node_words w ≡ None) (IsNodeWord w)
by_later w None a h = not_listed_front first_words later_words w a h
by_later w (Some k) a h = h
