-- Pairs of places whose terms are to be equal.
use Rattle.std.specs.Prelude.{◌≡◌, List, map}
use Rattle.ll_bank.specs.declared.At.{At}
use Rattle.ll_bank.specs.declared.pairs.Pair.{Pair}
use Rattle.ll_bank.specs.Nodes.{Nodes, term_trees, AllInTerms}

-- the places on the left, and on the right
abbrev pub lefts : List Pair → List At
lefts pairs = map (λ p. p.left) pairs

abbrev pub rights : List Pair → List At
rights pairs = map (λ p. p.right) pairs

-- the places on the left are in the one bank, and those on the right in the other
pub record AreInBanks (mine theirs : Nodes) (pairs : List Pair) : Type 0 where
  pub left : AllInTerms mine (lefts pairs)
  pub right : AllInTerms theirs (rights pairs)

-- the terms of each pair are equal
abbrev pub AreEqual : Nodes → Nodes → List Pair → Type 0
AreEqual mine theirs pairs = term_trees mine (lefts pairs) ≡ term_trees theirs (rights pairs)
