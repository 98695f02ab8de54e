-- Trees and lists of nodes without whole-number goals.
use Rattle.std.proofs.Common.{◌≡◌, refl, ap, sym, subst, ◌∙◌, Bool, true, false, List, [], ◌∷◌}
use Rattle.std.specs.Prelude.{◌||◌, Option, Some, None, option_and_then}
use Rattle.std.specs.List.{list_any}
use Rattle.std.proofs.Math.Bool.{or-false}
use Rattle.ll_list_laws.proofs.CallerLemmas.{or_assoc}
use Rattle.ll_laws.specs.Shows.{Tree, OneNode, EraseNode, NumNode, TensorNode, WithNode, LeftNode, RightNode, BangNode, LolliNode, ImpNode, ForallNode}
use Rattle.ll_laws.specs.Shows.{ExistsNode, UseNode, ClauseNode, Parts, NoParts, BoundedPart, UnboundedPart}
use Rattle.ll_laws.specs.Line.{PartLine, Labels, Free, Line, OneLine, EraseLine, NumLine, WithLine, LeftLine, RightLine, BangLine, UseLine, TensorLine}
use Rattle.ll_laws.specs.Line.{LolliLine, ImpLine, ForallLine, ExistsLine, ClauseLine, Cut, Short, Cuts, add_part, cut_parts, put_clause, put, trees_of, lines}
use Rattle.ll_laws.specs.Line.{counts_numbers}
use Rattle.ll_laws.proofs.search.RunsShown.{tree_of_lines}

abbrev mutual
  -- some node is that of a whole-number goal
  pub numbers : Tree → Bool
  numbers NumNode = true
  numbers OneNode = false
  numbers EraseNode = false
  numbers (TensorNode s t x y) = numbers x || numbers y
  numbers (WithNode x y) = numbers x || numbers y
  numbers (LeftNode x) = numbers x
  numbers (RightNode x) = numbers x
  numbers (BangNode x) = numbers x
  numbers (LolliNode n x) = numbers x
  numbers (ImpNode n x) = numbers x
  numbers (ForallNode c x) = numbers x
  numbers (ExistsNode t x) = numbers x
  numbers (UseNode x) = numbers x
  numbers (ClauseNode n k ts ps) = numbers_part ps

  pub numbers_part : Parts → Bool
  numbers_part NoParts = false
  numbers_part (BoundedPart s x ps) = numbers x || numbers_part ps
  numbers_part (UnboundedPart x ps) = numbers x || numbers_part ps

abbrev numbers_of : List Tree → Bool
numbers_of [] = false
numbers_of (x ∷ xs) = numbers x || numbers_of xs

cut-numbers : (ps : List PartLine) (ts : List Tree) (qs : Parts) (us : List Tree) → cut_parts ps ts ≡ Cuts qs us
    → numbers_part qs || numbers_of us ≡ numbers_of ts
cut-numbers [] ts qs us h = let e : NoParts ≡ qs = cc in let f : ts ≡ us = cc in
    subst (λ q. numbers_part q || numbers_of us ≡ numbers_of ts) e (ap numbers_of (sym f))
cut-numbers (p ∷ ps) [] qs us h = cc
cut-numbers (p ∷ ps) (t ∷ ts) qs us h = step p (cut_parts ps ts) (cut-numbers ps ts) h
  where
    step : (p : PartLine) (c : Cut) → ((rs : Parts) (vs : List Tree) → c ≡ Cuts rs vs → numbers_part rs || numbers_of vs ≡ numbers_of ts)
        → add_part p t c ≡ Cuts qs us
        → numbers_part qs || numbers_of us ≡ numbers t || numbers_of ts
    step p Short go h = cc
    step (Labels s) (Cuts rs vs) go h =
        let e : BoundedPart s t rs ≡ qs = cc in let f : vs ≡ us = cc in let g = go rs vs refl in
        subst (λ q. numbers_part q || numbers_of us ≡ numbers t || numbers_of ts) e
        (subst (λ v. (numbers t || numbers_part rs) || numbers_of v ≡ numbers t || numbers_of ts) f
        (or_assoc (numbers t) (numbers_part rs) (numbers_of vs) ∙ ap (λ b. numbers t || b) g))
    step Free (Cuts rs vs) go h =
        let e : UnboundedPart t rs ≡ qs = cc in let f : vs ≡ us = cc in let g = go rs vs refl in
        subst (λ q. numbers_part q || numbers_of us ≡ numbers t || numbers_of ts) e
        (subst (λ v. (numbers t || numbers_part rs) || numbers_of v ≡ numbers t || numbers_of ts) f
        (or_assoc (numbers t) (numbers_part rs) (numbers_of vs) ∙ ap (λ b. numbers t || b) g))

put-numbers : (l : Line) (ts us : List Tree) → put l ts ≡ Some us → numbers_of us ≡ counts_numbers l || numbers_of ts
put-numbers OneLine ts us h = let e : OneNode ∷ ts ≡ us = cc in ap numbers_of (sym e)
put-numbers EraseLine ts us h = let e : EraseNode ∷ ts ≡ us = cc in ap numbers_of (sym e)
put-numbers NumLine ts us h = let e : NumNode ∷ ts ≡ us = cc in ap numbers_of (sym e)
put-numbers (TensorLine s t) (x ∷ y ∷ ts) us h = let e : TensorNode s t x y ∷ ts ≡ us = cc in
    ap numbers_of (sym e) ∙ or_assoc (numbers x) (numbers y) (numbers_of ts)
put-numbers WithLine (x ∷ y ∷ ts) us h = let e : WithNode x y ∷ ts ≡ us = cc in ap numbers_of (sym e) ∙ or_assoc (numbers x) (numbers y) (numbers_of ts)
put-numbers LeftLine (x ∷ ts) us h = let e : LeftNode x ∷ ts ≡ us = cc in ap numbers_of (sym e)
put-numbers RightLine (x ∷ ts) us h = let e : RightNode x ∷ ts ≡ us = cc in ap numbers_of (sym e)
put-numbers BangLine (x ∷ ts) us h = let e : BangNode x ∷ ts ≡ us = cc in ap numbers_of (sym e)
put-numbers UseLine (x ∷ ts) us h = let e : UseNode x ∷ ts ≡ us = cc in ap numbers_of (sym e)
put-numbers (LolliLine n) (x ∷ ts) us h = let e : LolliNode n x ∷ ts ≡ us = cc in ap numbers_of (sym e)
put-numbers (ImpLine n) (x ∷ ts) us h = let e : ImpNode n x ∷ ts ≡ us = cc in ap numbers_of (sym e)
put-numbers (ForallLine c) (x ∷ ts) us h = let e : ForallNode c x ∷ ts ≡ us = cc in ap numbers_of (sym e)
put-numbers (ExistsLine t) (x ∷ ts) us h = let e : ExistsNode t x ∷ ts ≡ us = cc in ap numbers_of (sym e)
put-numbers (ClauseLine n k vs ps) ts us h = step (cut_parts ps ts) (cut-numbers ps ts) h
  where
    step : (c : Cut) → ((qs : Parts) (ws : List Tree) → c ≡ Cuts qs ws → numbers_part qs || numbers_of ws ≡ numbers_of ts) → put_clause n k vs c ≡ Some us
        → numbers_of us ≡ numbers_of ts
    step Short go h = cc
    step (Cuts qs ws) go h = let e : ClauseNode n k vs qs ∷ ws ≡ us = cc in ap numbers_of (sym e) ∙ go qs ws refl
put-numbers _ ts us h = cc

trees-numbers : (ns : List Line) (ts : List Tree) → trees_of ns ≡ Some ts → numbers_of ts ≡ list_any counts_numbers ns
trees-numbers [] ts h = let e : [] ≡ ts = cc in ap numbers_of (sym e)
trees-numbers (n ∷ ns) ts h = step (trees_of ns) (trees-numbers ns) h
  where
    step : (o : Option (List Tree)) → ((us : List Tree) → o ≡ Some us → numbers_of us ≡ list_any counts_numbers ns) → option_and_then (put n) o ≡ Some ts
        → numbers_of ts ≡ counts_numbers n || list_any counts_numbers ns
    step None go h = cc
    step (Some us) go h = put-numbers n us ts h ∙ ap (λ b. counts_numbers n || b) (go us refl)

-- a tree has whole-number goals where its nodes have
pub tree-numbers : (ns : List Line) (x : Tree) → trees_of ns ≡ Some (x ∷ []) → numbers x ≡ list_any counts_numbers ns
tree-numbers ns x h = sym (or-false (numbers x)) ∙ trees-numbers ns (x ∷ []) h

pub lines-numbers : (x : Tree) → numbers x ≡ list_any counts_numbers (lines x)
lines-numbers x = tree-numbers (lines x) x (tree_of_lines x)
