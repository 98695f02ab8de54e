-- Over any names what a text of version 2 is read as has one text of version 1.
use Rattle.std.proofs.Common.{◌≡◌, ℕ, ◌<◌, ◌^◌, Bool, true, false, List, [], ◌∷◌, ◌++◌, length, refl, ap, sym, ◌∙◌, codes, decimal, All, inl, inr}
use Rattle.std.specs.Prelude.{if◌then◌else◌}
use Rattle.std.specs.List.{IsDistinct, flat_map}
use Rattle.std.specs.Str.{bytes_eq}
use Rattle.std.proofs.lemmas.Bool.{eqb-false}
use Rattle.std.proofs.lemmas.List.Elements.{All-head, All-tail}
use Rattle.ll_bank.specs.declared.Head.{Head}
use Rattle.ll_bank.specs.declared.Head.TheVariants.{Name, Eigen, Bound}
use Rattle.ll_bank.specs.Term.{Term}
use Rattle.ll_laws.specs.Output.{line, head_text, has_arguments, bracket_if, is_cons_head, is_cons, term_text, applied_text, argument_text}
use Rattle.ll_laws.specs.ProofText.{field, term_field, part_field, node_text}
use Rattle.ll_laws.specs.Line.{Line, OneLine, EraseLine, TensorLine, WithLine, LeftLine, RightLine, BangLine, UseLine, LolliLine, ImpLine, ForallLine}
use Rattle.ll_laws.specs.Line.{ExistsLine, ClauseLine, NumLine, PartLine}
use Rattle.ll_prooftext.specs.Admitted.{IsSpelledLine}
use Rattle.ll_prooftext.specs.Sharing.{IsClauseStep, IsStep, AreEach}
use Rattle.ll_prooftext.proofs.unambiguous.OneLine.{line_kind}
use Rattle.ll_prooftext.proofs.unambiguous.OneTable.{IsHeld, AlikeHead, Alike, same_var, same_int, same_con, same_ap, AlikeAll, no_terms, next_term}
use Rattle.ll_prooftext.proofs.unambiguous.OneTable.{clause_alike, by_kind, step_kind}

-- ---- terms

cons_by_text : (ns : List (List ℕ)) (h : Head) → IsHeld ns h → is_cons_head ns h ≡ bytes_eq (head_text ns h) (codes "::")
cons_by_text ns (Name n) h = refl
cons_by_text ns (Eigen n) h = refl
cons_by_text ns (Bound n) (inl h) = absurd h
cons_by_text ns (Bound n) (inr h) = absurd cc

module _ (names ms : List (List ℕ)) where
  cons_head : (h k : Head) → AlikeHead names ms h k → is_cons_head names h ≡ is_cons_head ms k
  cons_head h k a = cons_by_text names h a.left ∙ (ap (λ w. bytes_eq w (codes "::")) a.text ∙ sym (cons_by_text ms k a.right))

  -- terms that are alike have the same shape
  shape : (t u : Term) → Alike names ms t u → has_arguments t ≡ has_arguments u
  shape t u same_var = refl
  shape t u same_int = refl
  shape t u (same_con a) = refl
  shape t u (same_ap p q) = refl

  cons : (t u : Term) → Alike names ms t u → is_cons names t ≡ is_cons ms u
  cons t u same_var = refl
  cons t u same_int = refl
  cons t u (same_con a) = refl
  cons t u (same_ap same_var q) = refl
  cons t u (same_ap same_int q) = refl
  cons t u (same_ap (same_con a) q) = refl
  cons t u (same_ap (same_ap same_var p) q) = refl
  cons t u (same_ap (same_ap same_int p) q) = refl
  cons t u (same_ap (same_ap (same_con {h = h} {k = k} a) p) q) = cons_head h k a
  cons t u (same_ap (same_ap (same_ap p q) r) s) = refl

  brackets : (t u : Term) (v w : List ℕ) → Alike names ms t u → v ≡ w → argument_text t v ≡ argument_text u w
  brackets t u v w a e = ap (λ z. bracket_if z v) (shape t u a) ∙ ap (argument_text u) e

  applied : (f g : Term) (a b : Term) (v w x y : List ℕ) → v ≡ w → Alike names ms a b → x ≡ y
      → v ++ codes " " ++ argument_text a x ≡ w ++ codes " " ++ argument_text b y
  applied f g a b v w x y e p q = ap (λ z. z ++ codes " " ++ argument_text a x) e ∙ ap (λ z. w ++ codes " " ++ z) (brackets a b x y p q)

  pair : (b c : Bool) (h k v w x y : List ℕ) (t s u r : Term) → b ≡ c → h ≡ k → Alike names ms t u → v ≡ w → Alike names ms s r → x ≡ y
      → (if b then bracket_if (is_cons names t) v ++ codes "::" ++ x else h ++ codes " " ++ argument_text t v ++ codes " " ++ argument_text s x)
      ≡ (if c then bracket_if (is_cons ms u) w ++ codes "::" ++ y else k ++ codes " " ++ argument_text u w ++ codes " " ++ argument_text r y)
  pair true true h k v w x y t s u r e f p a q b = ap (λ z. bracket_if z v ++ codes "::" ++ x) (cons t u p)
      ∙ (ap (λ z. bracket_if (is_cons ms u) z ++ codes "::" ++ x) a ∙ ap (λ z. bracket_if (is_cons ms u) w ++ codes "::" ++ z) b)
  pair false false h k v w x y t s u r e f p a q b = applied t u s r (h ++ codes " " ++ argument_text t v) (k ++ codes " " ++ argument_text u w) x y
      (applied t u t u h k v w f p a) q b
  pair true false h k v w x y t s u r e f p a q b = absurd cc
  pair false true h k v w x y t s u r e f p a q b = absurd cc

  mutual
    same_term : (t u : Term) → Alike names ms t u → term_text names t ≡ term_text ms u
    same_term t u same_var = refl
    same_term t u same_int = refl
    same_term t u (same_con a) = a.text
    same_term t u (same_ap {a = l} {b = m} (same_ap {a = x} {b = y} (same_con {h = h} {k = k} a) p) q) =
        pair (is_cons_head names h) (is_cons_head ms k) (head_text names h) (head_text ms k) (term_text names x) (term_text ms y) (term_text names l)
        (term_text ms m) x l y m (cons_head h k a) a.text p (same_term x y p) q (same_term l m q)
    same_term t u (same_ap {f = f} {g = g} {a = a} {b = b} p q) =
        applied f g a b (applied_text names f) (applied_text ms g) (term_text names a) (term_text ms b) (same_applied f g p) q (same_term a b q)

    same_applied : (f g : Term) → Alike names ms f g → applied_text names f ≡ applied_text ms g
    same_applied f g same_var = refl
    same_applied f g same_int = refl
    same_applied f g (same_con a) = a.text
    same_applied t u (same_ap {f = f} {g = g} {a = a} {b = b} p q) =
        applied f g a b (applied_text names f) (applied_text ms g) (term_text names a) (term_text ms b) (same_applied f g p) q (same_term a b q)

  same_field : (t u : Term) → Alike names ms t u → term_field names t ≡ term_field ms u
  same_field t u a = ap field (brackets t u (term_text names t) (term_text ms u) a (same_term t u a))

  same_fields : (ts us : List Term) → AlikeAll names ms ts us → flat_map (term_field names) ts ≡ flat_map (term_field ms) us
  same_fields ts us no_terms = refl
  same_fields ts us (next_term {t = t} {u = u} {ts = rs} {us = ss} a b) =
      ap (λ z. z ++ flat_map (term_field names) rs) (same_field t u a) ∙ ap (λ z. term_field ms u ++ z) (same_fields rs ss b)

  pub same_lets : (ts us : List Term) → AlikeAll names ms ts us
      → flat_map (λ t. line (codes "let" ++ term_field names t)) ts ≡ flat_map (λ t. line (codes "let" ++ term_field ms t)) us
  same_lets ts us no_terms = refl
  same_lets ts us (next_term {t = t} {u = u} {ts = rs} {us = ss} a b) =
      ap (λ z. line (codes "let" ++ z) ++ flat_map (λ t. line (codes "let" ++ term_field names t)) rs) (same_field t u a)
      ∙ ap (λ z. line (codes "let" ++ term_field ms u) ++ z) (same_lets rs ss b)

-- ---- nodes

module _ (names ms : List (List ℕ)) (one : IsDistinct bytes_eq names) (two : IsDistinct bytes_eq ms) (rows others : List Term)
    (like : AlikeAll names ms rows others) (few : length rows < 2 ^ 64) where
  same_clause : (n m i j : ℕ) (ts us : List Term) (ps qs : List PartLine) (l : List ℕ) → IsSpelledLine names (ClauseLine n m ts ps)
      → IsSpelledLine ms (ClauseLine i j us qs)
      → IsClauseStep names rows n m ts (flat_map part_field ps) l → IsClauseStep ms others i j us (flat_map part_field qs) l
      → node_text names (ClauseLine n m ts ps) ≡ node_text ms (ClauseLine i j us qs)
  same_clause n m i j ts us ps qs l s v a b =
      let k = clause_alike names ms one two rows others n m i j ts us ps qs l like few s v a b in
      let x = flat_map (term_field names) ts in
      let y = flat_map (term_field ms) us in
      ap (λ z. codes "clause" ++ field (decimal z) ++ field (decimal m) ++ x ++ flat_map part_field ps) k.0
      ∙ (ap (λ z. codes "clause" ++ field (decimal i) ++ field (decimal z) ++ x ++ flat_map part_field ps) k.1
      ∙ (ap (λ z. codes "clause" ++ field (decimal i) ++ field (decimal j) ++ z ++ flat_map part_field ps) (same_fields names ms ts us k.2)
      ∙ ap (λ z. codes "clause" ++ field (decimal i) ++ field (decimal j) ++ y ++ z) k.3))

  same_by_kind : (x y : Line) (l : List ℕ) → line_kind x ≡ line_kind y → IsSpelledLine names x → IsSpelledLine ms y → IsStep names rows x l
      → IsStep ms others y l → node_text names x ≡ node_text ms y
  same_by_kind (ExistsLine t) (ExistsLine u) l q s v a b = by (by_kind names ms one two rows others (ExistsLine t) (ExistsLine u) l refl like few s v a b)
    where
      by : AlikeAll names ms (t ∷ []) (u ∷ []) → codes "exists" ++ term_field names t ≡ codes "exists" ++ term_field ms u
      by (next_term c d) = ap (λ z. codes "exists" ++ z) (same_field names ms t u c)
  same_by_kind (ClauseLine n m ts ps) (ClauseLine i j us qs) l q s v a b = same_clause n m i j ts us ps qs l s v a b
  same_by_kind (TensorLine c d) (TensorLine e f) l q s v a b = sym a ∙ b
  same_by_kind (LolliLine n) (LolliLine m) l q s v a b = sym a ∙ b
  same_by_kind (ImpLine n) (ImpLine m) l q s v a b = sym a ∙ b
  same_by_kind (ForallLine n) (ForallLine m) l q s v a b = sym a ∙ b
  same_by_kind OneLine OneLine l q s v a b = refl
  same_by_kind EraseLine EraseLine l q s v a b = refl
  same_by_kind WithLine WithLine l q s v a b = refl
  same_by_kind LeftLine LeftLine l q s v a b = refl
  same_by_kind RightLine RightLine l q s v a b = refl
  same_by_kind BangLine BangLine l q s v a b = refl
  same_by_kind UseLine UseLine l q s v a b = refl
  same_by_kind NumLine NumLine l q s v a b = refl
  same_by_kind x y l q s v a b = absurd (eqb-false (line_kind x) (line_kind y) refl q)

  pub same_nodes : (xs ys : List Line) (ls : List (List ℕ)) → All (IsSpelledLine names) xs → All (IsSpelledLine ms) ys → AreEach (IsStep names rows) xs ls
      → AreEach (IsStep ms others) ys ls → flat_map (λ n. line (node_text names n)) xs ≡ flat_map (λ n. line (node_text ms n)) ys
  same_nodes [] [] ls s v a b = refl
  same_nodes [] (y ∷ ys) [] s v a b = absurd b
  same_nodes [] (y ∷ ys) (l ∷ ls) s v a b = absurd a
  same_nodes (x ∷ xs) [] [] s v a b = absurd a
  same_nodes (x ∷ xs) [] (l ∷ ls) s v a b = absurd b
  same_nodes (x ∷ xs) (y ∷ ys) [] s v a b = absurd a
  same_nodes (x ∷ xs) (y ∷ ys) (l ∷ ls) s v a b =
      let e = same_by_kind x y l (step_kind names ms one two rows others x y l a.0 b.0) (All-head (IsSpelledLine names) x xs s)
      (All-head (IsSpelledLine ms) y ys v) a.0 b.0 in
      ap (λ z. line z ++ flat_map (λ n. line (node_text names n)) xs) e
      ∙ ap (λ z. line (node_text ms y) ++ z) (same_nodes xs ys ls (All-tail (IsSpelledLine names) x xs s) (All-tail (IsSpelledLine ms) y ys v) a.1 b.1)
