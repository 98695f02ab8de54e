-- The nodes of a tree whose labels are dealt out can be spelled where those before could.
use Rattle.std.proofs.Common.{◌≡◌, ◌<◌, ℕ, ◌^◌, refl, ap, sym, subst, Bool, true, false, List, [], ◌∷◌, ◌++◌}
use Rattle.std.proofs.lemmas.List.Elements.{All-nil, All-cons}
use Rattle.std.specs.Prelude.{Option, Some, None, filter, if◌then◌else◌, option_and_then, not}
use Rattle.ll_bank.specs.Term.{Term}
use Rattle.ll_laws.specs.Shows.{Tree, OneNode, EraseNode, TensorNode, WithNode, LeftNode, RightNode, BangNode, LolliNode, ImpNode, ForallNode, ExistsNode}
use Rattle.ll_laws.specs.Shows.{UseNode, ClauseNode, Parts, NoParts, BoundedPart, UnboundedPart, NumNode}
use Rattle.ll_laws.specs.Line.{PartLine, Labels, Free, Line, OneLine, EraseLine, TensorLine, WithLine, LeftLine, RightLine, BangLine, UseLine, LolliLine}
use Rattle.ll_laws.specs.Line.{ImpLine, ForallLine, ExistsLine, ClauseLine, NumLine, Cut, Short, Cuts, add_part, cut_parts, put_clause, put, trees_of, lines}
use Rattle.ll_laws.specs.Line.{lines_of_parts, part_lines}
use Rattle.ll_laws.specs.Dealing.{uses, uses_part, erases, goes_to, without, deal, deal_parts}
use Rattle.ll_prooftext.specs.Admitted.{AreLabels, IsSpelledPart, IsSpelledLine}
use Rattle.std.specs.Prelude.{All}
use Rattle.ll_top.proofs.respelling.Replayed.{LinesSpelled}

-- labels that are small
abbrev pub Small : List ℕ → Type 0
Small [] = Unit {0}
Small (n ∷ ns) = (n < 2 ^ 32) × Small ns

small-labels : (ns : List ℕ) → Small ns → AreLabels ns
small-labels [] h = All-nil (λ n. n < 2 ^ 32)
small-labels (n ∷ ns) h = All-cons (λ n. n < 2 ^ 32) n ns h.0 (small-labels ns h.1)

small-filter : (p : ℕ → Bool) (ns : List ℕ) → Small ns → Small (filter p ns)
small-filter p [] h = tt
small-filter p (n ∷ ns) h = step (p n) (small-filter p ns h.1)
  where
    step : (b : Bool) → Small (filter p ns) → Small (if b then n ∷ filter p ns else filter p ns)
    step true i = (h.0, i)
    step false i = i

small-then : (ns : List ℕ) (n : ℕ) → Small ns → n < 2 ^ 32 → Small (ns ++ n ∷ [])
small-then [] n h l = (l, tt)
small-then (m ∷ ns) n h l = (h.0, small-then ns n h.1 l)

module _ (names : List (List ℕ)) where
  lines-left : (xs ys : List Line) → LinesSpelled names (xs ++ ys) → LinesSpelled names xs
  lines-left [] ys h = tt
  lines-left (x ∷ xs) ys h = (h.0, lines-left xs ys h.1)

  lines-right : (xs ys : List Line) → LinesSpelled names (xs ++ ys) → LinesSpelled names ys
  lines-right [] ys h = h
  lines-right (x ∷ xs) ys h = lines-right xs ys h.1

  lines-both : (xs ys : List Line) → LinesSpelled names xs → LinesSpelled names ys → LinesSpelled names (xs ++ ys)
  lines-both [] ys h i = i
  lines-both (x ∷ xs) ys h i = (h.0, lines-both xs ys h.1 i)

  -- the parts of a clause's node, whose labels are small
  abbrev PartsSmall : Parts → Type 0
  PartsSmall NoParts = Unit {0}
  PartsSmall (BoundedPart s x ps) = Small s × PartsSmall ps
  PartsSmall (UnboundedPart x ps) = PartsSmall ps

  parts-small : (ps : Parts) → PartsSmall ps → All IsSpelledPart (part_lines ps)
  parts-small NoParts h = All-nil IsSpelledPart
  parts-small (BoundedPart s x ps) h = All-cons IsSpelledPart (Labels s) (part_lines ps) (small-labels s h.0) (parts-small ps h.1)
  parts-small (UnboundedPart x ps) h = All-cons IsSpelledPart Free (part_lines ps) tt (parts-small ps h)

  deal-small : (d : List ℕ) (ps : Parts) → Small d → PartsSmall (deal_parts d ps)
  deal-small d NoParts h = tt
  deal-small d (BoundedPart s x ps) h =
      (small-filter _ d h, deal-small (filter (λ n. not (goes_to (uses n x) (uses_part n ps) (erases x))) d) ps (small-filter _ d h))
  deal-small d (UnboundedPart x ps) h = deal-small d ps h

  mutual
    pub deal-spelled : (d : List ℕ) (x : Tree) → Small d → LinesSpelled names (lines x) → LinesSpelled names (lines (deal d x))
    deal-spelled d OneNode s h = h
    deal-spelled d EraseNode s h = h
    deal-spelled d NumNode s h = h
    deal-spelled d (TensorNode a b x y) s h = (
      (small-labels _ (small-filter _ d s), small-labels _ (small-filter _ d s)),
      lines-both _ _ (deal-spelled _ x (small-filter _ d s) (lines-left (lines x) (lines y) h.1))
          (deal-spelled _ y (small-filter _ d s) (lines-right (lines x) (lines y) h.1)),
    )
    deal-spelled d (WithNode x y) s h =
        (tt, lines-both _ _ (deal-spelled d x s (lines-left (lines x) (lines y) h.1)) (deal-spelled d y s (lines-right (lines x) (lines y) h.1)))
    deal-spelled d (LeftNode x) s h = (tt, deal-spelled d x s h.1)
    deal-spelled d (RightNode x) s h = (tt, deal-spelled d x s h.1)
    deal-spelled d (BangNode x) s h = (tt, deal-spelled [] x tt h.1)
    deal-spelled d (LolliNode n x) s h = (h.0, deal-spelled (d ++ n ∷ []) x (small-then d n s h.0) h.1)
    deal-spelled d (ImpNode n x) s h = (h.0, deal-spelled d x s h.1)
    deal-spelled d (ForallNode c x) s h = (h.0, deal-spelled d x s h.1)
    deal-spelled d (ExistsNode t x) s h = (h.0, deal-spelled d x s h.1)
    deal-spelled d (UseNode x) s h = (tt, deal-spelled d x s h.1)
    deal-spelled d (ClauseNode n k ts ps) s h = (
      (h.0.0, (h.0.1.0, (h.0.1.1.0, parts-small _ (deal-small (without n d) ps (small-filter _ d s))))),
      deal_parts-spelled (without n d) ps
          (small-filter _ d s) h.1,
    )

    deal_parts-spelled : (d : List ℕ) (ps : Parts) → Small d → LinesSpelled names (lines_of_parts ps) → LinesSpelled names (lines_of_parts (deal_parts d ps))
    deal_parts-spelled d NoParts s h = h
    deal_parts-spelled d (BoundedPart a x ps) s h =
        lines-both _ _ (deal-spelled _ x (small-filter _ d s) (lines-left (lines x) (lines_of_parts ps) h))
        (deal_parts-spelled _ ps (small-filter _ d s) (lines-right (lines x) (lines_of_parts ps) h))
    deal_parts-spelled d (UnboundedPart x ps) s h =
        lines-both _ _ (deal-spelled [] x tt (lines-left (lines x) (lines_of_parts ps) h))
        (deal_parts-spelled d ps s (lines-right (lines x) (lines_of_parts ps) h))

  -- ---- the trees that nodes make

  -- the nodes of the trees can be spelled
  abbrev pub TreesSpelled : List Tree → Type 0
  TreesSpelled [] = Unit {0}
  TreesSpelled (x ∷ xs) = LinesSpelled names (lines x) × TreesSpelled xs

  finish : (xs ts : List Tree) → Some xs ≡ Some ts → TreesSpelled xs → TreesSpelled ts
  finish xs ts e h = let q : xs ≡ ts = cc in subst TreesSpelled q h

  -- trees that were cut off for the premises of a clause
  record IsCut (ps : List PartLine) (qs : Parts) (rest : List Tree) : Type 0 where
    said : part_lines qs ≡ ps
    inner : LinesSpelled names (lines_of_parts qs)
    outer : TreesSpelled rest

  -- and of those that were cut off, where there were enough
  CutSpelled : List PartLine → Cut → Type 0
  CutSpelled ps Short = Unit {0}
  CutSpelled ps (Cuts qs rest) = IsCut ps qs rest

  add-cut : (p : PartLine) (ps : List PartLine) (x : Tree) (c : Cut) → LinesSpelled names (lines x) → CutSpelled ps c → CutSpelled (p ∷ ps) (add_part p x c)
  unfolding CutSpelled
  add-cut p ps x Short h i = tt
  add-cut (Labels s) ps x (Cuts qs rest) h i =
      record { said = ap (λ ls. Labels s ∷ ls) i.said; inner = lines-both (lines x) (lines_of_parts qs) h i.inner; outer = i.outer }
  add-cut Free ps x (Cuts qs rest) h i =
      record { said = ap (λ ls. Free ∷ ls) i.said; inner = lines-both (lines x) (lines_of_parts qs) h i.inner; outer = i.outer }

  cut-spelled : (ps : List PartLine) (ts : List Tree) → TreesSpelled ts → CutSpelled ps (cut_parts ps ts)
  unfolding CutSpelled
  cut-spelled [] ts h = record { said = refl; inner = tt; outer = h }
  cut-spelled (p ∷ ps) [] h = tt
  cut-spelled (p ∷ ps) (t ∷ ts) h = add-cut p ps t (cut_parts ps ts) h.0 (cut-spelled ps ts h.1)

  clause-spelled : (n k : ℕ) (us : List Term) (ps : List PartLine) (c : Cut) (ts : List Tree) → IsSpelledLine names (ClauseLine n k us ps) → CutSpelled ps c
      → put_clause n k us c ≡ Some ts → TreesSpelled ts
  unfolding CutSpelled
  clause-spelled n k us ps Short ts h i e = cc
  clause-spelled n k us ps (Cuts qs rest) ts h i e =
      finish (ClauseNode n k us qs ∷ rest) ts e ((subst (λ ls. IsSpelledLine names (ClauseLine n k us ls)) (sym i.said) h, i.inner), i.outer)

  put-spelled : (n : Line) (us ts : List Tree) → IsSpelledLine names n → TreesSpelled us → put n us ≡ Some ts → TreesSpelled ts
  put-spelled OneLine us ts h i e = finish _ ts e ((tt, tt), i)
  put-spelled EraseLine us ts h i e = finish _ ts e ((tt, tt), i)
  put-spelled NumLine us ts h i e = finish _ ts e ((tt, tt), i)
  put-spelled (TensorLine a b) (x ∷ y ∷ us) ts h i e = finish (TensorNode a b x y ∷ us) ts e ((h, lines-both (lines x) (lines y) i.0 i.1.0), i.1.1)
  put-spelled WithLine (x ∷ y ∷ us) ts h i e = finish (WithNode x y ∷ us) ts e ((h, lines-both (lines x) (lines y) i.0 i.1.0), i.1.1)
  put-spelled LeftLine (x ∷ us) ts h i e = finish (LeftNode x ∷ us) ts e ((h, i.0), i.1)
  put-spelled RightLine (x ∷ us) ts h i e = finish (RightNode x ∷ us) ts e ((h, i.0), i.1)
  put-spelled BangLine (x ∷ us) ts h i e = finish (BangNode x ∷ us) ts e ((h, i.0), i.1)
  put-spelled UseLine (x ∷ us) ts h i e = finish (UseNode x ∷ us) ts e ((h, i.0), i.1)
  put-spelled (LolliLine n) (x ∷ us) ts h i e = finish (LolliNode n x ∷ us) ts e ((h, i.0), i.1)
  put-spelled (ImpLine n) (x ∷ us) ts h i e = finish (ImpNode n x ∷ us) ts e ((h, i.0), i.1)
  put-spelled (ForallLine c) (x ∷ us) ts h i e = finish (ForallNode c x ∷ us) ts e ((h, i.0), i.1)
  put-spelled (ExistsLine t) (x ∷ us) ts h i e = finish (ExistsNode t x ∷ us) ts e ((h, i.0), i.1)
  put-spelled (ClauseLine n k vs ps) us ts h i e = clause-spelled n k vs ps (cut_parts ps us) ts h (cut-spelled ps us i) e
  put-spelled _ us ts h i e = cc

  pub trees-spelled : (ns : List Line) (ts : List Tree) → LinesSpelled names ns → trees_of ns ≡ Some ts → TreesSpelled ts
  trees-spelled [] ts h e = finish [] ts e tt
  trees-spelled (n ∷ ns) ts h e = step (trees_of ns) refl (λ us q. trees-spelled ns us h.1 q) e
    where
      step : (o : Option (List Tree)) → trees_of ns ≡ o → ((us : List Tree) → trees_of ns ≡ Some us → TreesSpelled us) → option_and_then (put n) o ≡ Some ts
          → TreesSpelled ts
      step None q go e = cc
      step (Some us) q go e = put-spelled n us ts h.0 (go us q) e
