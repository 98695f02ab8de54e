-- The lines that say what a check finds, and those of a cover.
use Rattle.std.specs.Prelude.{ℕ, List, [], ◌∷◌, slice_index_or, codes, decimal}
use Rattle.std.specs.List.{concat}

-- the text of each reason why a node does not fit, from reason 0, which there is not, to reason 12
abbrev pub reason_texts : List (List ℕ)
reason_texts =
    []
    ∷ codes "rule does not fit the goal"
    ∷ codes "bounded resources left"
    ∷ codes "not a dealing"
    ∷ codes "no such resource"
    ∷ codes "no such leaf"
    ∷ codes "wrong number of terms"
    ∷ codes "head is not the goal"
    ∷ codes "wrong parts"
    ∷ codes "label not new"
    ∷ codes "constant not new"
    ∷ codes "wrong number of let terms"
    ∷ codes "numbers do not fit"
    ∷ []

abbrev pub reason_text : ℕ → List ℕ
reason_text reason = slice_index_or reason_texts reason []

-- the line of a derivation that shows the query: `yes, nodes N`
abbrev pub yes_text : ℕ → List ℕ
yes_text nodes = concat (codes "yes, nodes " ∷ decimal nodes ∷ codes "\n" ∷ [])

-- the line of one that does not, whose numbers are spelled: `no, node N, reason R TEXT`
abbrev pub no_fields : List ℕ → List ℕ → List ℕ → List ℕ
no_fields node reason text = concat (codes "no, node " ∷ node ∷ codes ", reason " ∷ reason ∷ codes " " ∷ text ∷ codes "\n" ∷ [])

abbrev pub no_text : ℕ → ℕ → List ℕ
no_text node reason = no_fields (decimal node) (decimal reason) (reason_text reason)

-- the line of a derivation that an answer covers, by the answer's number: `covered by answer K`
abbrev pub covered_text : ℕ → List ℕ
covered_text number = concat (codes "covered by answer " ∷ decimal number ∷ codes "\n" ∷ [])

-- the line of one with more nodes than the bound, whose numbers are spelled: `not covered: derivation has M nodes, bound N`
abbrev pub too_long_fields : List ℕ → List ℕ → List ℕ
too_long_fields nodes bound = concat (codes "not covered: derivation has " ∷ nodes ∷ codes " nodes, bound " ∷ bound ∷ codes "\n" ∷ [])

abbrev pub too_long_text : ℕ → ℕ → List ℕ
too_long_text nodes bound = too_long_fields (decimal nodes) (decimal bound)

-- the line of one with a node of a whole-number goal: `not covered: node I counts numbers`
abbrev pub counts_text : ℕ → List ℕ
counts_text node = concat (codes "not covered: node " ∷ decimal node ∷ codes " counts numbers\n" ∷ [])
