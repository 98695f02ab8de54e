-- A node is told by its line over some rows.
use Rattle.std.proofs.Common.{◌≡◌, ℕ, ◌<◌, ◌^◌, List, [], ◌∷◌, length, All, refl, ap, sym, ◌∙◌}
use Rattle.std.specs.List.{IsDistinct, flat_map}
use Rattle.std.specs.Str.{bytes_eq}
use Rattle.std.proofs.lemmas.Bool.{eqb-false}
use Rattle.std.proofs.lemmas.List.Elements.{All-head, All-tail}
use Rattle.ll_bank.specs.Term.{Term}
use Rattle.ll_laws.specs.Line.{Line, OneLine, EraseLine, TensorLine, WithLine, LeftLine, RightLine, BangLine, UseLine, LolliLine, ImpLine, ForallLine}
use Rattle.ll_laws.specs.Line.{ExistsLine, ClauseLine, NumLine, PartLine}
use Rattle.ll_laws.specs.ProofText.{part_field}
use Rattle.ll_prooftext.specs.Admitted.{IsSpelledLine}
use Rattle.ll_prooftext.specs.Sharing.{IsClauseStep, IsStep, AreEach}
use Rattle.ll_prooftext.proofs.unambiguous.OneLine.{line_kind, parts_same, one_line}
use Rattle.ll_prooftext.proofs.unambiguous.OneTable.{AlikeAll, all_alike_are, clause_alike, by_kind, step_kind}

module _ (names : List (List ℕ)) (distinct : IsDistinct bytes_eq names) (rows : List Term) (same : AlikeAll names names rows rows) (few : length rows < 2 ^ 64)
  where
    clause_once : (n m i j : ℕ) (ts us : List Term) (ps qs : List PartLine) (l : List ℕ) → IsSpelledLine names (ClauseLine n m ts ps)
        → IsSpelledLine names (ClauseLine i j us qs)
        → IsClauseStep names rows n m ts (flat_map part_field ps) l → IsClauseStep names rows i j us (flat_map part_field qs) l
        → ClauseLine n m ts ps ≡ ClauseLine i j us qs
    clause_once n m i j ts us ps qs l s v a b =
        let k = clause_alike names names distinct distinct rows rows n m i j ts us ps qs l same few s v a b in
        let e : n ≡ i = k.0 in
        let f : m ≡ j = k.1 in
        let g : ts ≡ us = all_alike_are names distinct ts us k.2 in
        let h : ps ≡ qs = parts_same ps qs s.1.1.1 v.1.1.1 k.3 in
        cc

    once_by_kind : (x y : Line) (l : List ℕ) → line_kind x ≡ line_kind y → IsSpelledLine names x → IsSpelledLine names y → IsStep names rows x l
        → IsStep names rows y l → x ≡ y
    once_by_kind (ExistsLine t) (ExistsLine u) l q s v a b =
        let e : t ∷ [] ≡ u ∷ [] = all_alike_are names distinct (t ∷ []) (u ∷ [])
        (by_kind names names distinct distinct rows rows (ExistsLine t) (ExistsLine u) l refl same few s v a b) in
        let f : t ≡ u = cc in
        ap ExistsLine f
    once_by_kind (ClauseLine n m ts ps) (ClauseLine i j us qs) l q s v a b = clause_once n m i j ts us ps qs l s v a b
    once_by_kind (TensorLine c d) (TensorLine e f) l q s v a b = one_line names distinct (TensorLine c d) (TensorLine e f) s v (sym a ∙ b)
    once_by_kind (LolliLine n) (LolliLine m) l q s v a b = one_line names distinct (LolliLine n) (LolliLine m) s v (sym a ∙ b)
    once_by_kind (ImpLine n) (ImpLine m) l q s v a b = one_line names distinct (ImpLine n) (ImpLine m) s v (sym a ∙ b)
    once_by_kind (ForallLine n) (ForallLine m) l q s v a b = one_line names distinct (ForallLine n) (ForallLine m) s v (sym a ∙ b)
    once_by_kind OneLine OneLine l q s v a b = refl
    once_by_kind EraseLine EraseLine l q s v a b = refl
    once_by_kind WithLine WithLine l q s v a b = refl
    once_by_kind LeftLine LeftLine l q s v a b = refl
    once_by_kind RightLine RightLine l q s v a b = refl
    once_by_kind BangLine BangLine l q s v a b = refl
    once_by_kind UseLine UseLine l q s v a b = refl
    once_by_kind NumLine NumLine l q s v a b = refl
    once_by_kind x y l q s v a b = absurd (eqb-false (line_kind x) (line_kind y) refl q)

    -- lines are those of one list of nodes
    pub steps_once : (xs ys : List Line) (ls : List (List ℕ)) → All (IsSpelledLine names) xs → All (IsSpelledLine names) ys → AreEach (IsStep names rows) xs ls
        → AreEach (IsStep names rows) ys ls → xs ≡ ys
    steps_once [] [] ls s v a b = refl
    steps_once [] (y ∷ ys) [] s v a b = absurd b
    steps_once [] (y ∷ ys) (l ∷ ls) s v a b = absurd a
    steps_once (x ∷ xs) [] [] s v a b = absurd a
    steps_once (x ∷ xs) [] (l ∷ ls) s v a b = absurd b
    steps_once (x ∷ xs) (y ∷ ys) [] s v a b = absurd a
    steps_once (x ∷ xs) (y ∷ ys) (l ∷ ls) s v a b =
        let e = once_by_kind x y l (step_kind names names distinct distinct rows rows x y l a.0 b.0) (All-head (IsSpelledLine names) x xs s)
        (All-head (IsSpelledLine names) y ys v) a.0 b.0 in
        let f = steps_once xs ys ls (All-tail (IsSpelledLine names) x xs s) (All-tail (IsSpelledLine names) y ys v) a.1 b.1 in
        ap (λ z. z ∷ xs) e ∙ ap (λ z. y ∷ z) f
