-- Copies of the terms of a derivation, and pairs of terms of one bank.
use Rattle.std.specs.Prelude.{◌≡◌, ℕ, ◌<◌, List, length, map, All, slice_index_or}
use Rattle.ll_bank.specs.declared.At.{At}
use Rattle.ll_bank.specs.Nodes.{Nodes, term_tree, term_trees, HasTerm, ShowsTerm}
use Rattle.ll_laws.specs.Line.{Line, OneLine, EraseLine, WithLine, LeftLine, RightLine, BangLine, UseLine, TensorLine, LolliLine, ImpLine, ForallLine}
use Rattle.ll_laws.specs.Line.{ExistsLine, ClauseLine, NumLine}
use Rattle.ll_laws.specs.ShownLines.{part_line}
use Rattle.ll_laws.specs.declared.Rule.{Rule}
use Rattle.ll_laws.specs.declared.Rule.TheVariants.{One, Erase, Tensor, With, Left, Right, Bang, Lolli, Imp, Forall, Exists, Use, Clause, Num}
use Rattle.ll_sequent.specs.declared.same.Pair.{Pair}

-- the first terms of the one bank have their copies in the other one, each at its number
abbrev pub AreCopies : Nodes → Nodes → List At → Type 0
AreCopies terms bank copies = (at : ℕ) (d : At) → at < length copies → ShowsTerm bank (slice_index_or copies at d).0 (term_tree terms at)

-- the places are below a number
abbrev pub AreBelow : ℕ → List At → Type 0
AreBelow n places = All (λ (a : At). a.0 < n) places

-- the copies of the terms at places
abbrev pub copied_places : List At → List At → List At
copied_places copies places = map (λ (a : At). slice_index_or copies a.0 a) places

-- the line of a rule, with copies of its terms
abbrev pub copied_line : Nodes → List At → Rule → Line
copied_line bank copies One = OneLine
copied_line bank copies Erase = EraseLine
copied_line bank copies (Tensor s t) = TensorLine s.items t.items
copied_line bank copies With = WithLine
copied_line bank copies Left = LeftLine
copied_line bank copies Right = RightLine
copied_line bank copies Bang = BangLine
copied_line bank copies (Lolli n) = LolliLine n
copied_line bank copies (Imp n) = ImpLine n
copied_line bank copies (Forall c) = ForallLine c
copied_line bank copies (Exists t) = ExistsLine (term_tree bank (slice_index_or copies t.0 t).0)
copied_line bank copies Use = UseLine
copied_line bank copies Num = NumLine
copied_line bank copies (Clause n k ts ps) = ClauseLine n k (term_trees bank (copied_places copies ts.items)) (map part_line ps.items)

-- the places of a rule are below a number
abbrev pub IsLineBelow : ℕ → Rule → Type 0
IsLineBelow n (Exists t) = t.0 < n
IsLineBelow n (Clause l k ts ps) = AreBelow n ts.items
IsLineBelow n _ = Unit {0}

-- the places of pairs are in the bank
abbrev pub ArePairs : Nodes → List Pair → Type 0
ArePairs bank pairs = All (λ (p : Pair). HasTerm bank p.left.0 × HasTerm bank p.right.0) pairs

-- the terms of each pair are equal
abbrev pub AreSame : Nodes → List Pair → Type 0
AreSame bank pairs = All (λ (p : Pair). term_tree bank p.left.0 ≡ term_tree bank p.right.0) pairs
