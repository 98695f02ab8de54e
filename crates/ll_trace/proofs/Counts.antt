-- A tree has as many nodes as lines.
use Rattle.std.proofs.Common.{◌≡◌, suc, refl, ap, length, arith, length-append}
use Rattle.ll_laws.specs.Shows.{Tree, OneNode, EraseNode, TensorNode, WithNode, LeftNode, RightNode, BangNode, LolliNode, ImpNode, ForallNode, ExistsNode}
use Rattle.ll_laws.specs.Shows.{UseNode, ClauseNode, Parts, NoParts, BoundedPart, UnboundedPart, nodes, part_nodes, NumNode}
use Rattle.ll_laws.specs.Line.{lines, lines_of_parts}

mutual
  pub lines_count : (x : Tree) → length (lines x) ≡ nodes x
  lines_count OneNode = refl
  lines_count NumNode = refl
  lines_count EraseNode = refl
  lines_count (TensorNode s t x y) = let p = lines_count x in let q = lines_count y in let r = length-append (lines x) (lines y) in omega (arith, p, q, r)
  lines_count (WithNode x y) = let p = lines_count x in let q = lines_count y in let r = length-append (lines x) (lines y) in omega (arith, p, q, r)
  lines_count (LeftNode x) = ap (λ n. suc n) (lines_count x)
  lines_count (RightNode x) = ap (λ n. suc n) (lines_count x)
  lines_count (BangNode x) = ap (λ n. suc n) (lines_count x)
  lines_count (LolliNode n x) = ap (λ n. suc n) (lines_count x)
  lines_count (ImpNode n x) = ap (λ n. suc n) (lines_count x)
  lines_count (ForallNode c x) = ap (λ n. suc n) (lines_count x)
  lines_count (ExistsNode t x) = ap (λ n. suc n) (lines_count x)
  lines_count (UseNode x) = ap (λ n. suc n) (lines_count x)
  lines_count (ClauseNode n k ts ps) = ap (λ n. suc n) (part_lines_count ps)

  part_lines_count : (ps : Parts) → length (lines_of_parts ps) ≡ part_nodes ps
  part_lines_count NoParts = refl
  part_lines_count (BoundedPart s x ps) = let p = lines_count x in let q = part_lines_count ps in let r = length-append (lines x) (lines_of_parts ps) in
      omega (arith, p, q, r)
  part_lines_count (UnboundedPart x ps) = let p = lines_count x in let q = part_lines_count ps in let r = length-append (lines x) (lines_of_parts ps) in
      omega (arith, p, q, r)
