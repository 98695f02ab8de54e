-- A derivation whose names have other numbers: its texts over the names that have these numbers are the same.
use Rattle.std.proofs.Common.{◌≡◌, ◌<◌, ℕ, length, refl, ap, sym, subst, ◌∙◌, List, [], ◌∷◌, ◌++◌, map, inl, inr}
use Rattle.std.specs.Prelude.{IsTrue, All, codes, decimal}
use Rattle.std.specs.List.{flat_map}
use Rattle.std.specs.Str.{bytes_eq}
use Rattle.std.proofs.lemmas.List.Elements.{All-nil, All-cons, All-head, All-tail}
use Rattle.std.proofs.lemmas.List.Concat.{flat_map-cons}
use Rattle.ll_bank.specs.declared.Head.{Head}
use Rattle.ll_bank.specs.declared.Head.TheVariants.{Name, Eigen, Bound}
use Rattle.ll_bank.specs.Term.{Term, Var, Int, Con, Ap}
use Rattle.ll_laws.specs.Output.{line, name_text, head_text, is_cons_head, is_cons, argument_text, term_text, applied_text, has_arguments, bracket_if}
use Rattle.ll_laws.specs.Line.{Line, OneLine, EraseLine, TensorLine, WithLine, LeftLine, RightLine, BangLine, UseLine, LolliLine}
use Rattle.ll_laws.specs.Line.{ImpLine, ForallLine, ExistsLine, ClauseLine, DerivationLines, NumLine}
use Rattle.ll_laws.specs.ProofText.{field, term_field, part_field, node_text, proof_text}
use Rattle.ll_prooftext.specs.Twins.{Numbers, moved_head, moved, moved_line, moved_derivation}
use Rattle.ll_prooftext.specs.Admitted.{IsPlainName, IsPlainHead, IsPairHead, IsSpelledTerm, IsSpelledSpine, IsSpelledLine}

module _ (names others : List (List ℕ)) (r : Numbers) where
  -- the name has a text, and its new number has the same one
  pub record IsKeptName (n : ℕ) : Type 0 where
    pub full : 0 < length (name_text names n)
    pub same : name_text others (r n) ≡ name_text names n

  abbrev pub IsKeptHead : Head → Type 0
  IsKeptHead (Name n) = IsKeptName n
  IsKeptHead (Eigen n) = Unit {0}
  IsKeptHead (Bound n) = Unit {0}

  -- so it is with each name in the term
  abbrev pub IsKept : Term → Type 0
  IsKept (Var n) = Unit {0}
  IsKept (Int z) = Unit {0}
  IsKept (Con h) = IsKeptHead h
  IsKept (Ap f a) = IsKept f × IsKept a

  abbrev pub AreKept : List Term → Type 0
  AreKept [] = Unit {0}
  AreKept (t ∷ ts) = IsKept t × AreKept ts

  abbrev pub IsKeptLine : Line → Type 0
  IsKeptLine (ExistsLine t) = IsKept t
  IsKeptLine (ClauseLine n k ts ps) = AreKept ts
  IsKeptLine _ = Unit {0}

  abbrev pub AreKeptLines : List Line → Type 0
  AreKeptLines [] = Unit {0}
  AreKeptLines (l ∷ ls) = IsKeptLine l × AreKeptLines ls

  -- ---- heads

  pub head-text : (h : Head) → IsKeptHead h → head_text others (moved_head r h) ≡ head_text names h
  head-text (Name n) k = k.same
  head-text (Eigen n) k = refl
  head-text (Bound n) k = refl

  pub head-cons : (h : Head) → IsKeptHead h → is_cons_head others (moved_head r h) ≡ is_cons_head names h
  head-cons (Name n) k = ap (λ w. bytes_eq w (codes "::")) k.same
  head-cons (Eigen n) k = refl
  head-cons (Bound n) k = refl

  pub head-plain : (h : Head) → IsKeptHead h → IsPlainHead names h → IsPlainHead others (moved_head r h)
  head-plain (Name n) k p = subst IsPlainName (sym k.same) p
  head-plain (Eigen n) k p = p
  head-plain (Bound n) k p = p

  pub head-pair : (h : Head) → IsKeptHead h → IsPairHead names h → IsPairHead others (moved_head r h)
  head-pair h k (inl p) = inl (head-plain h k p)
  head-pair h k (inr q) = inr (subst IsTrue (sym (head-cons h k)) q)

  -- ---- terms

  pub moved-cons : (x : Term) → IsKept x → is_cons others (moved r x) ≡ is_cons names x
  moved-cons (Var n) s = refl
  moved-cons (Int z) s = refl
  moved-cons (Con h) s = refl
  moved-cons (Ap (Var n) a) s = refl
  moved-cons (Ap (Int n) a) s = refl
  moved-cons (Ap (Con n) a) s = refl
  moved-cons (Ap (Ap (Var h) x) l) s = refl
  moved-cons (Ap (Ap (Int h) x) l) s = refl
  moved-cons (Ap (Ap (Con h) x) l) s = head-cons h s.0.0
  moved-cons (Ap (Ap (Ap f b) x) l) s = refl

  pub moved-arguments : (x : Term) → has_arguments (moved r x) ≡ has_arguments x
  moved-arguments (Var n) = refl
  moved-arguments (Int z) = refl
  moved-arguments (Con h) = refl
  moved-arguments (Ap f a) = refl

  pub moved-argument : (x : Term) → term_text others (moved r x) ≡ term_text names x
      → argument_text (moved r x) (term_text others (moved r x)) ≡ argument_text x (term_text names x)
  moved-argument x e = ap (λ b. bracket_if b (term_text others (moved r x))) (moved-arguments x) ∙ ap (argument_text x) e

  mutual
    pub moved-text : (t : Term) → IsKept t → term_text others (moved r t) ≡ term_text names t
    moved-text (Var n) s = refl
    moved-text (Int z) s = refl
    moved-text (Con h) s = head-text h s
    moved-text (Ap (Var n) a) s = ap (λ w. applied_text names (Var n) ++ codes " " ++ w) (moved-argument a (moved-text a s.1))
    moved-text (Ap (Int n) a) s = ap (λ w. applied_text names (Int n) ++ codes " " ++ w) (moved-argument a (moved-text a s.1))
    moved-text (Ap (Con h) a) s =
        ap (λ w. w ++ codes " " ++ argument_text (moved r a) (term_text others (moved r a))) (head-text h s.0)
        ∙ ap (λ w. head_text names h ++ codes " " ++ w) (moved-argument a (moved-text a s.1))
    moved-text (Ap (Ap (Var h) x) l) s =
        ap (λ w. w ++ codes " " ++ argument_text (moved r l) (term_text others (moved r l))) (moved-applied (Ap (Var h) x) s.0)
        ∙ ap (λ w. applied_text names (Ap (Var h) x) ++ codes " " ++ w) (moved-argument l (moved-text l s.1))
    moved-text (Ap (Ap (Int h) x) l) s =
        ap (λ w. w ++ codes " " ++ argument_text (moved r l) (term_text others (moved r l))) (moved-applied (Ap (Int h) x) s.0)
        ∙ ap (λ w. applied_text names (Ap (Int h) x) ++ codes " " ++ w) (moved-argument l (moved-text l s.1))
    moved-text (Ap (Ap (Con h) x) l) s =
        let c = head-cons h s.0.0 in let e = head-text h s.0.0 in let a = moved-text x s.0.1 in let b = moved-text l s.1 in
        let k = moved-cons x s.0.1 in let f = moved-argument x a in let g = moved-argument l b in
        rw c (rw e (rw f (rw g (rw k (rw a (rw b refl))))))
    moved-text (Ap (Ap (Ap f b) x) l) s =
        ap (λ w. w ++ codes " " ++ argument_text (moved r l) (term_text others (moved r l))) (moved-applied (Ap (Ap f b) x) s.0)
        ∙ ap (λ w. applied_text names (Ap (Ap f b) x) ++ codes " " ++ w) (moved-argument l (moved-text l s.1))

    pub moved-applied : (t : Term) → IsKept t → applied_text others (moved r t) ≡ applied_text names t
    moved-applied (Var n) s = refl
    moved-applied (Int z) s = refl
    moved-applied (Con h) s = head-text h s
    moved-applied (Ap f a) s =
        ap (λ w. w ++ codes " " ++ argument_text (moved r a) (term_text others (moved r a))) (moved-applied f s.0)
        ∙ ap (λ w. applied_text names f ++ codes " " ++ w) (moved-argument a (moved-text a s.1))

  mutual
    pub moved-spelled : (t : Term) → IsKept t → IsSpelledTerm names t → IsSpelledTerm others (moved r t)
    moved-spelled (Var n) k s = s
    moved-spelled (Int z) k s = s
    moved-spelled (Con h) k s = head-plain h k s
    moved-spelled (Ap (Var n) a) k s = absurd s.0
    moved-spelled (Ap (Int n) a) k s = absurd s.0
    moved-spelled (Ap (Con h) a) k s = (head-plain h k.0 s.0, moved-spelled a k.1 s.1)
    moved-spelled (Ap (Ap (Var h) x) l) k s = absurd s.0.0
    moved-spelled (Ap (Ap (Int h) x) l) k s = absurd s.0.0
    moved-spelled (Ap (Ap (Con h) x) l) k s = (head-pair h k.0.0 s.0, (moved-spelled x k.0.1 s.1.0, moved-spelled l k.1 s.1.1))
    moved-spelled (Ap (Ap (Ap f b) x) l) k s = (moved-spine (Ap (Ap f b) x) k.0 s.0, moved-spelled l k.1 s.1)

    moved-spine : (t : Term) → IsKept t → IsSpelledSpine names t → IsSpelledSpine others (moved r t)
    moved-spine (Var n) k s = absurd s
    moved-spine (Int z) k s = absurd s
    moved-spine (Con h) k s = head-plain h k s
    moved-spine (Ap f a) k s = (moved-spine f k.0 s.0, moved-spelled a k.1 s.1)

  -- ---- lists

  pub all-spelled : (ts : List Term) → AreKept ts → All (IsSpelledTerm names) ts → All (IsSpelledTerm others) (map (moved r) ts)
  all-spelled [] k s = All-nil (IsSpelledTerm others)
  all-spelled (t ∷ ts) k s =
      All-cons (IsSpelledTerm others) (moved r t) (map (moved r) ts) (moved-spelled t k.0 (All-head (IsSpelledTerm names) t ts s))
      (all-spelled ts k.1 (All-tail (IsSpelledTerm names) t ts s))

  pub line-spelled : (l : Line) → IsKeptLine l → IsSpelledLine names l → IsSpelledLine others (moved_line r l)
  line-spelled OneLine k s = s
  line-spelled EraseLine k s = s
  line-spelled WithLine k s = s
  line-spelled LeftLine k s = s
  line-spelled RightLine k s = s
  line-spelled BangLine k s = s
  line-spelled UseLine k s = s
  line-spelled NumLine k s = s
  line-spelled (TensorLine a b) k s = s
  line-spelled (LolliLine n) k s = s
  line-spelled (ImpLine n) k s = s
  line-spelled (ForallLine c) k s = s
  line-spelled (ExistsLine t) k s = moved-spelled t k s
  line-spelled (ClauseLine n j ts ps) k s = (s.0, (s.1.0, (all-spelled ts k s.1.1.0, s.1.1.1)))

  pub lines-spelled : (ls : List Line) → AreKeptLines ls → All (IsSpelledLine names) ls → All (IsSpelledLine others) (map (moved_line r) ls)
  lines-spelled [] k s = All-nil (IsSpelledLine others)
  lines-spelled (l ∷ ls) k s =
      All-cons (IsSpelledLine others) (moved_line r l) (map (moved_line r) ls) (line-spelled l k.0 (All-head (IsSpelledLine names) l ls s))
      (lines-spelled ls k.1 (All-tail (IsSpelledLine names) l ls s))

  -- what is shown of each term is shown of all
  pub terms-shown : (f g : Term → List ℕ) → ((t : Term) → IsKept t → g (moved r t) ≡ f t) → (ts : List Term) → AreKept ts
      → flat_map g (map (moved r) ts) ≡ flat_map f ts
  terms-shown f g each [] k = refl
  terms-shown f g each (t ∷ ts) k =
      flat_map-cons g (moved r t) (map (moved r) ts) ∙ (ap (λ w. w ++ flat_map g (map (moved r) ts)) (each t k.0)
      ∙ (ap (λ w. f t ++ w) (terms-shown f g each ts k.1) ∙ sym (flat_map-cons f t ts)))

  pub lines-shown : (f g : Line → List ℕ) → ((l : Line) → IsKeptLine l → g (moved_line r l) ≡ f l) → (ls : List Line) → AreKeptLines ls
      → flat_map g (map (moved_line r) ls) ≡ flat_map f ls
  lines-shown f g each [] k = refl
  lines-shown f g each (l ∷ ls) k =
      flat_map-cons g (moved_line r l) (map (moved_line r) ls) ∙ (ap (λ w. w ++ flat_map g (map (moved_line r) ls)) (each l k.0)
      ∙ (ap (λ w. f l ++ w) (lines-shown f g each ls k.1) ∙ sym (flat_map-cons f l ls)))

  field-shown : (t : Term) → IsKept t → term_field others (moved r t) ≡ term_field names t
  field-shown t k = ap field (moved-argument t (moved-text t k))

  node-shown : (l : Line) → IsKeptLine l → node_text others (moved_line r l) ≡ node_text names l
  node-shown OneLine k = refl
  node-shown EraseLine k = refl
  node-shown WithLine k = refl
  node-shown LeftLine k = refl
  node-shown RightLine k = refl
  node-shown BangLine k = refl
  node-shown UseLine k = refl
  node-shown NumLine k = refl
  node-shown (TensorLine a b) k = refl
  node-shown (LolliLine n) k = refl
  node-shown (ImpLine n) k = refl
  node-shown (ForallLine c) k = refl
  node-shown (ExistsLine t) k = ap (λ w. codes "exists" ++ w) (field-shown t k)
  node-shown (ClauseLine n j ts ps) k =
      ap (λ w. codes "clause" ++ field (decimal n) ++ field (decimal j) ++ w ++ flat_map part_field ps)
      (terms-shown (term_field names) (term_field others) field-shown ts k)

  -- the text of version 1 is the same
  pub text-moved : (d : DerivationLines) → AreKept d.asked → AreKeptLines d.nodes → proof_text others (moved_derivation r d) ≡ proof_text names d
  text-moved d a n =
      let e = terms-shown (λ t. line (codes "let" ++ term_field names t)) (λ t. line (codes "let" ++ term_field others t))
      (λ t k. ap (λ w. line (codes "let" ++ w)) (field-shown t k)) d.asked a in
      let f = lines-shown (λ l. line (node_text names l)) (λ l. line (node_text others l)) (λ l k. ap line (node-shown l k)) d.nodes n in
      ap (λ w. line (codes "proof 1") ++ w ++ flat_map (λ n. line (node_text others n)) (map (moved_line r) d.nodes)) e
      ∙ ap (λ w. line (codes "proof 1") ++ flat_map (λ t. line (codes "let" ++ term_field names t)) d.asked ++ w) f
