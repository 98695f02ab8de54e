-- A derivation whose names have other numbers is whole where it was.
use Rattle.std.proofs.Common.{◌≡◌, ℕ, refl, ap, ◌∙◌, List, [], ◌∷◌, map}
use Rattle.std.specs.Prelude.{◌&&◌, Option, Some, None, option_map, option_and_then}
use Rattle.std.specs.List.{list_all}
use Rattle.ll_bank.specs.declared.Head.TheVariants.{Name, Eigen, Bound}
use Rattle.ll_bank.specs.Term.{Term, Var, Int, Con, Ap, is_closed, is_spine}
use Rattle.ll_laws.specs.Shows.{Tree}
use Rattle.ll_laws.specs.Line.{PartLine, Labels, Free, Line, OneLine, EraseLine, TensorLine, WithLine, LeftLine, RightLine, BangLine, UseLine, LolliLine}
use Rattle.ll_laws.specs.Line.{ImpLine, ForallLine, ExistsLine, ClauseLine, NumLine, Cut, Short, Cuts, add_part, cut_parts, put_clause, put, trees_of}
use Rattle.ll_laws.specs.Line.{DerivationLines, is_line, part_rises, IsWhole}
use Rattle.ll_prooftext.specs.Twins.{Numbers, moved, moved_line, moved_derivation, moved_tree, moved_parts}

abbrev moved_cut : Numbers → Cut → Cut
moved_cut r Short = Short
moved_cut r (Cuts ps ts) = Cuts (moved_parts r ps) (map (moved_tree r) ts)

module _ (r : Numbers) where
  abbrev trees : List Tree → List Tree
  trees ts = map (moved_tree r) ts

  added : (p : PartLine) (x : Tree) (c : Cut) → add_part p (moved_tree r x) (moved_cut r c) ≡ moved_cut r (add_part p x c)
  added (Labels s) x Short = refl
  added (Labels s) x (Cuts ps ts) = refl
  added Free x Short = refl
  added Free x (Cuts ps ts) = refl

  cut-moved : (ps : List PartLine) (ts : List Tree) → cut_parts ps (trees ts) ≡ moved_cut r (cut_parts ps ts)
  cut-moved [] ts = refl
  cut-moved (p ∷ ps) [] = refl
  cut-moved (p ∷ ps) (t ∷ ts) = ap (add_part p (moved_tree r t)) (cut-moved ps ts) ∙ added p t (cut_parts ps ts)

  clause-put : (n k : ℕ) (us : List Term) (c : Cut) → put_clause n k (map (moved r) us) (moved_cut r c) ≡ option_map trees (put_clause n k us c)
  clause-put n k us Short = refl
  clause-put n k us (Cuts ps ts) = refl

  put-moved : (l : Line) (ts : List Tree) → put (moved_line r l) (trees ts) ≡ option_map trees (put l ts)
  put-moved OneLine ts = refl
  put-moved EraseLine ts = refl
  put-moved NumLine ts = refl
  put-moved (TensorLine s t) [] = refl
  put-moved (TensorLine s t) (x ∷ []) = refl
  put-moved (TensorLine s t) (x ∷ y ∷ ts) = refl
  put-moved WithLine [] = refl
  put-moved WithLine (x ∷ []) = refl
  put-moved WithLine (x ∷ y ∷ ts) = refl
  put-moved LeftLine [] = refl
  put-moved LeftLine (x ∷ ts) = refl
  put-moved RightLine [] = refl
  put-moved RightLine (x ∷ ts) = refl
  put-moved BangLine [] = refl
  put-moved BangLine (x ∷ ts) = refl
  put-moved UseLine [] = refl
  put-moved UseLine (x ∷ ts) = refl
  put-moved (LolliLine n) [] = refl
  put-moved (LolliLine n) (x ∷ ts) = refl
  put-moved (ImpLine n) [] = refl
  put-moved (ImpLine n) (x ∷ ts) = refl
  put-moved (ForallLine n) [] = refl
  put-moved (ForallLine n) (x ∷ ts) = refl
  put-moved (ExistsLine t) [] = refl
  put-moved (ExistsLine t) (x ∷ ts) = refl
  put-moved (ClauseLine n k us ps) ts = ap (put_clause n k (map (moved r) us)) (cut-moved ps ts) ∙ clause-put n k us (cut_parts ps ts)

  pub trees-moved : (ls : List Line) → trees_of (map (moved_line r) ls) ≡ option_map trees (trees_of ls)
  trees-moved [] = refl
  trees-moved (l ∷ ls) = ap (option_and_then (put (moved_line r l))) (trees-moved ls) ∙ step (trees_of ls)
    where
      step : (o : Option (List Tree)) → option_and_then (put (moved_line r l)) (option_map trees o) ≡ option_map trees (option_and_then (put l) o)
      step None = refl
      step (Some ts) = put-moved l ts

  -- ---- closed terms

  spine-moved : (t : Term) → is_spine (moved r t) ≡ is_spine t
  spine-moved (Var n) = refl
  spine-moved (Int n) = refl
  spine-moved (Con h) = refl
  spine-moved (Ap f a) = spine-moved f

  closed-moved : (t : Term) → is_closed (moved r t) ≡ is_closed t
  closed-moved (Var n) = refl
  closed-moved (Int n) = refl
  closed-moved (Con (Name n)) = refl
  closed-moved (Con (Eigen n)) = refl
  closed-moved (Con (Bound n)) = refl
  closed-moved (Ap f a) =
      ap (λ z. z && is_closed (moved r f) && is_closed (moved r a)) (spine-moved f)
      ∙ (ap (λ z. is_spine f && z && is_closed (moved r a)) (closed-moved f) ∙ ap (λ z. is_spine f && is_closed f && z) (closed-moved a))

  all-closed : (ts : List Term) → list_all is_closed (map (moved r) ts) ≡ list_all is_closed ts
  all-closed [] = refl
  all-closed (t ∷ ts) = ap (λ z. z && list_all is_closed (map (moved r) ts)) (closed-moved t) ∙ ap (λ z. is_closed t && z) (all-closed ts)

  line-moved : (l : Line) → is_line (moved_line r l) ≡ is_line l
  line-moved OneLine = refl
  line-moved EraseLine = refl
  line-moved WithLine = refl
  line-moved LeftLine = refl
  line-moved RightLine = refl
  line-moved BangLine = refl
  line-moved UseLine = refl
  line-moved NumLine = refl
  line-moved (TensorLine a b) = refl
  line-moved (LolliLine n) = refl
  line-moved (ImpLine n) = refl
  line-moved (ForallLine c) = refl
  line-moved (ExistsLine t) = closed-moved t
  line-moved (ClauseLine n j ts ps) = ap (λ z. z && list_all part_rises ps) (all-closed ts)

  all-lines : (ls : List Line) → list_all is_line (map (moved_line r) ls) ≡ list_all is_line ls
  all-lines [] = refl
  all-lines (l ∷ ls) = ap (λ z. z && list_all is_line (map (moved_line r) ls)) (line-moved l) ∙ ap (λ z. is_line l && z) (all-lines ls)

  pub whole-moved : (d : DerivationLines) → IsWhole d → IsWhole (moved_derivation r d)
  whole-moved d w = record {
    tree = moved_tree r w.tree;
    is_tree = trees-moved d.nodes ∙ ap (option_map trees) w.is_tree;
    asked = all-closed d.asked ∙ w.asked;
    nodes = all-lines d.nodes ∙ w.nodes;
  }
