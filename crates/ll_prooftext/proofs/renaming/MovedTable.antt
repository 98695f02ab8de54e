-- The table of a derivation whose names have other numbers, and its text of version 2.
use Rattle.std.proofs.Common.{◌≡◌, ℕ, refl, ap, sym, subst, ◌∙◌, Bool, true, false, List, [], ◌∷◌, ◌++◌, map, fold, arith}
use Rattle.std.specs.Prelude.{codes, if◌then◌else◌, ◌&&◌, nat_eq, decimal}
use Rattle.std.specs.List.{flat_map, IsDistinct}
use Rattle.std.specs.Str.{bytes_eq}
use Rattle.std.proofs.lemmas.List.{map-append}
use Rattle.std.proofs.lemmas.List.Concat.{flat_map-cons}
use Rattle.std.proofs.lemmas.Bool.Decides.{nat_tests}
use Rattle.ll_list_laws.proofs.CallerLemmas.{eq-moved}
use Rattle.ll_bank.specs.declared.Head.{Head}
use Rattle.ll_bank.specs.declared.Head.TheVariants.{Name, Eigen, Bound}
use Rattle.ll_bank.specs.Term.{Term, Var, Int, Con, Ap, head_eq}
use Rattle.ll_laws.specs.Fault.{term_eq}
use Rattle.ll_laws.specs.Output.{line, name_text}
use Rattle.ll_laws.specs.Line.{Line, OneLine, EraseLine, TensorLine, WithLine, LeftLine, RightLine, BangLine, UseLine, LolliLine}
use Rattle.ll_laws.specs.Line.{ImpLine, ForallLine, ExistsLine, ClauseLine, DerivationLines, NumLine}
use Rattle.ll_laws.specs.ProofText.{field, part_field}
use Rattle.ll_prooftext.specs.Table.{completed, completed_arguments, line_terms, field_terms, is_among, with_row, rows_in, table, row_of}
use Rattle.ll_prooftext.specs.ProofText2.{short_text, short_field, spine_text, share_line, let_text_by, node_text_by, lines_by, text_over, proof_text2}
use Rattle.ll_prooftext.proofs.unambiguous.OneTerm.{same_name}
use Rattle.ll_prooftext.specs.Twins.{Numbers, moved_head, moved, moved_line, moved_derivation}
use Rattle.ll_prooftext.proofs.renaming.Moved.{IsKeptName, IsKeptHead, IsKept, AreKept, IsKeptLine, AreKeptLines, head-text, lines-shown, terms-shown}

module _ (names others : List (List ℕ)) (r : Numbers) (distinct : IsDistinct bytes_eq names) where
  abbrev Kept : Term → Type 0
  Kept t = IsKept names others r t

  abbrev Keep : List Term → Type 0
  Keep ts = AreKept names others r ts

  -- ---- terms are told apart as before

  name-apart : (m n : ℕ) → IsKeptName names others r m → IsKeptName names others r n → nat_eq (r m) (r n) ≡ nat_eq m n
  name-apart m n p q =
      eq-moved r m n (λ w. same_name names distinct m n p.full (sym p.same ∙ (ap (name_text others) w ∙ q.same)))

  head-apart : (h k : Head) → IsKeptHead names others r h → IsKeptHead names others r k → head_eq (moved_head r h) (moved_head r k) ≡ head_eq h k
  head-apart (Name m) (Name n) p q = name-apart m n p q
  head-apart (Name m) (Eigen n) p q = refl
  head-apart (Name m) (Bound n) p q = refl
  head-apart (Eigen m) (Name n) p q = refl
  head-apart (Eigen m) (Eigen n) p q = refl
  head-apart (Eigen m) (Bound n) p q = refl
  head-apart (Bound m) (Name n) p q = refl
  head-apart (Bound m) (Eigen n) p q = refl
  head-apart (Bound m) (Bound n) p q = refl

  term-apart : (t u : Term) → Kept t → Kept u → term_eq (moved r t) (moved r u) ≡ term_eq t u
  term-apart (Var x) (Var y) p q = refl
  term-apart (Var x) (Int y) p q = refl
  term-apart (Var x) (Con y) p q = refl
  term-apart (Var x) (Ap g b) p q = refl
  term-apart (Int x) (Var y) p q = refl
  term-apart (Int x) (Int y) p q = refl
  term-apart (Int x) (Con y) p q = refl
  term-apart (Int x) (Ap g b) p q = refl
  term-apart (Con h) (Var y) p q = refl
  term-apart (Con h) (Int y) p q = refl
  term-apart (Con h) (Con k) p q = head-apart h k p q
  term-apart (Con h) (Ap g b) p q = refl
  term-apart (Ap f a) (Var y) p q = refl
  term-apart (Ap f a) (Int y) p q = refl
  term-apart (Ap f a) (Con k) p q = refl
  term-apart (Ap f a) (Ap g b) p q =
      ap (λ z. z && term_eq (moved r a) (moved r b)) (term-apart f g p.0 q.0) ∙ ap (λ z. term_eq f g && z) (term-apart a b p.1 q.1)

  among-moved : (rows : List Term) (t : Term) → Keep rows → Kept t → is_among (map (moved r) rows) (moved r t) ≡ is_among rows t
  among-moved [] t p q = refl
  among-moved (u ∷ rows) t p q = let a = term-apart t u q p.0 in let b = among-moved rows t p.1 q in rw a (rw b refl)

  place-moved : (rows : List Term) (t : Term) → Keep rows → Kept t → row_of (map (moved r) rows) (moved r t) ≡ row_of rows t
  place-moved [] t p q = refl
  place-moved (u ∷ rows) t p q = let a = term-apart t u q p.0 in let b = place-moved rows t p.1 q in rw a (rw b refl)

  -- ---- what is kept of lists

  keep-join : (ts us : List Term) → Keep ts → Keep us → Keep (ts ++ us)
  keep-join [] us p q = q
  keep-join (t ∷ ts) us p q = (p.0, keep-join ts us p.1 q)

  mutual
    completed-kept : (t : Term) → Kept t → Keep (completed t)
    completed-kept (Var n) k = tt
    completed-kept (Int n) k = tt
    completed-kept (Con n) k = tt
    completed-kept (Ap f a) k =
        keep-join (completed_arguments f ++ completed a) (Ap f a ∷ []) (keep-join (completed_arguments f) (completed a) (arguments-kept f k.0)
        (completed-kept a k.1)) (k, tt)

    arguments-kept : (t : Term) → Kept t → Keep (completed_arguments t)
    arguments-kept (Var n) k = tt
    arguments-kept (Int n) k = tt
    arguments-kept (Con n) k = tt
    arguments-kept (Ap f a) k = keep-join (completed_arguments f) (completed a) (arguments-kept f k.0) (completed-kept a k.1)

  mutual
    completed-moved : (t : Term) → completed (moved r t) ≡ map (moved r) (completed t)
    completed-moved (Var n) = refl
    completed-moved (Int n) = refl
    completed-moved (Con n) = refl
    completed-moved (Ap f a) =
        ap (λ z. z ++ moved r (Ap f a) ∷ [])
        (ap (λ z. z ++ completed (moved r a)) (arguments-moved f)
        ∙ (ap (λ z. map (moved r) (completed_arguments f) ++ z) (completed-moved a) ∙ sym (map-append (moved r) (completed_arguments f) (completed a))))
        ∙ sym (map-append (moved r) (completed_arguments f ++ completed a) (Ap f a ∷ []))

    arguments-moved : (t : Term) → completed_arguments (moved r t) ≡ map (moved r) (completed_arguments t)
    arguments-moved (Var n) = refl
    arguments-moved (Int n) = refl
    arguments-moved (Con n) = refl
    arguments-moved (Ap f a) =
        ap (λ z. z ++ completed (moved r a)) (arguments-moved f)
        ∙ (ap (λ z. map (moved r) (completed_arguments f) ++ z) (completed-moved a) ∙ sym (map-append (moved r) (completed_arguments f) (completed a)))

  all-completed : (ts : List Term) → flat_map completed (map (moved r) ts) ≡ map (moved r) (flat_map completed ts)
  all-completed [] = refl
  all-completed (t ∷ ts) =
      flat_map-cons completed (moved r t) (map (moved r) ts) ∙ (ap (λ z. z ++ flat_map completed (map (moved r) ts)) (completed-moved t)
      ∙ (ap (λ z. map (moved r) (completed t) ++ z) (all-completed ts) ∙ (sym (map-append (moved r) (completed t) (flat_map completed ts))
      ∙ ap (map (moved r)) (sym (flat_map-cons completed t ts)))))

  all-kept : (ts : List Term) → Keep ts → Keep (flat_map completed ts)
  all-kept [] k = tt
  all-kept (t ∷ ts) k =
      subst Keep (sym (flat_map-cons completed t ts)) (keep-join (completed t) (flat_map completed ts) (completed-kept t k.0) (all-kept ts k.1))

  terms-moved : (l : Line) → line_terms (moved_line r l) ≡ map (moved r) (line_terms l)
  terms-moved OneLine = refl
  terms-moved EraseLine = refl
  terms-moved WithLine = refl
  terms-moved LeftLine = refl
  terms-moved RightLine = refl
  terms-moved BangLine = refl
  terms-moved UseLine = refl
  terms-moved NumLine = refl
  terms-moved (TensorLine a b) = refl
  terms-moved (LolliLine n) = refl
  terms-moved (ImpLine n) = refl
  terms-moved (ForallLine c) = refl
  terms-moved (ExistsLine t) = refl
  terms-moved (ClauseLine n j ts ps) = refl

  terms-kept : (l : Line) → IsKeptLine names others r l → Keep (line_terms l)
  terms-kept OneLine k = tt
  terms-kept EraseLine k = tt
  terms-kept WithLine k = tt
  terms-kept LeftLine k = tt
  terms-kept RightLine k = tt
  terms-kept BangLine k = tt
  terms-kept UseLine k = tt
  terms-kept NumLine k = tt
  terms-kept (TensorLine a b) k = tt
  terms-kept (LolliLine n) k = tt
  terms-kept (ImpLine n) k = tt
  terms-kept (ForallLine c) k = tt
  terms-kept (ExistsLine t) k = (k, tt)
  terms-kept (ClauseLine n j ts ps) k = k

  all-terms : (ls : List Line) → flat_map line_terms (map (moved_line r) ls) ≡ map (moved r) (flat_map line_terms ls)
  all-terms [] = refl
  all-terms (l ∷ ls) =
      flat_map-cons line_terms (moved_line r l) (map (moved_line r) ls) ∙ (ap (λ z. z ++ flat_map line_terms (map (moved_line r) ls)) (terms-moved l)
      ∙ (ap (λ z. map (moved r) (line_terms l) ++ z) (all-terms ls) ∙ (sym (map-append (moved r) (line_terms l) (flat_map line_terms ls))
      ∙ ap (map (moved r)) (sym (flat_map-cons line_terms l ls)))))

  all-terms-kept : (ls : List Line) → AreKeptLines names others r ls → Keep (flat_map line_terms ls)
  all-terms-kept [] k = tt
  all-terms-kept (l ∷ ls) k =
      subst Keep (sym (flat_map-cons line_terms l ls)) (keep-join (line_terms l) (flat_map line_terms ls) (terms-kept l k.0) (all-terms-kept ls k.1))

  -- ---- rows

  row-kept : (rows : List Term) (t : Term) → Keep rows → Kept t → Keep (with_row rows t)
  row-kept rows t p q = step (is_among rows t)
    where
      step : (b : Bool) → Keep (if b then rows else rows ++ t ∷ [])
      step true = p
      step false = keep-join rows (t ∷ []) p (q, tt)

  row-moved : (rows : List Term) (t : Term) → Keep rows → Kept t → with_row (map (moved r) rows) (moved r t) ≡ map (moved r) (with_row rows t)
  row-moved rows t p q = ap (λ b. if b then map (moved r) rows else map (moved r) rows ++ moved r t ∷ []) (among-moved rows t p q) ∙ step (is_among rows t)
    where
      step : (b : Bool) → (if b then map (moved r) rows else map (moved r) rows ++ moved r t ∷ []) ≡ map (moved r) (if b then rows else rows ++ t ∷ [])
      step true = refl
      step false = sym (map-append (moved r) rows (t ∷ []))

  rows-moved : (rows ts : List Term) → Keep rows → Keep ts → fold with_row (map (moved r) rows) (map (moved r) ts) ≡ map (moved r) (fold with_row rows ts)
  rows-moved rows [] p q = refl
  rows-moved rows (t ∷ ts) p q =
      ap (λ z. fold with_row z (map (moved r) ts)) (row-moved rows t p q.0) ∙ rows-moved (with_row rows t) ts (row-kept rows t p q.0) q.1

  rows-kept : (rows ts : List Term) → Keep rows → Keep ts → Keep (fold with_row rows ts)
  rows-kept rows [] p q = p
  rows-kept rows (t ∷ ts) p q = rows-kept (with_row rows t) ts (row-kept rows t p q.0) q.1

  module _ (d : DerivationLines) (a : Keep d.asked) (n : AreKeptLines names others r d.nodes) where
    fields-moved : field_terms (moved_derivation r d) ≡ map (moved r) (field_terms d)
    fields-moved = ap (λ z. map (moved r) d.asked ++ z) (all-terms d.nodes) ∙ sym (map-append (moved r) d.asked (flat_map line_terms d.nodes))

    fields-kept : Keep (flat_map completed (field_terms d))
    fields-kept = all-kept (field_terms d) (keep-join d.asked (flat_map line_terms d.nodes) a (all-terms-kept d.nodes n))

    pub table-moved : table (moved_derivation r d) ≡ map (moved r) (table d)
    unfolding table
    table-moved =
        ap (λ z. rows_in (flat_map completed z)) fields-moved ∙ (ap rows_in (all-completed (field_terms d))
        ∙ rows-moved [] (flat_map completed (field_terms d)) tt fields-kept)

    pub table-kept : Keep (table d)
    unfolding table
    table-kept = rows-kept [] (flat_map completed (field_terms d)) tt fields-kept

  -- ---- the text over rows

  module _ (rows : List Term) (kept : Keep rows) where
    abbrev new : List Term
    new = map (moved r) rows

    short-moved : (t : Term) → Kept t → short_text others new (moved r t) ≡ short_text names rows t
    short-moved (Var n) k = refl
    short-moved (Int n) k = refl
    short-moved (Con h) k = head-text names others r h k
    short-moved (Ap f a) k = ap (λ z. codes "@" ++ decimal z) (place-moved rows (Ap f a) kept k)

    cell-moved : (t : Term) → Kept t → short_field others new (moved r t) ≡ short_field names rows t
    cell-moved t k = ap field (short-moved t k)

    spine-moved : (t : Term) → Kept t → spine_text others new (moved r t) ≡ spine_text names rows t
    spine-moved (Var n) k = refl
    spine-moved (Int n) k = refl
    spine-moved (Con h) k = head-text names others r h k
    spine-moved (Ap f a) k =
        ap (λ z. z ++ short_field others new (moved r a)) (spine-moved f k.0) ∙ ap (λ z. spine_text names rows f ++ z) (cell-moved a k.1)

    node-moved : (l : Line) → IsKeptLine names others r l
        → node_text_by (short_field others new) (moved_line r l) ≡ node_text_by (short_field names rows) l
    node-moved OneLine k = refl
    node-moved EraseLine k = refl
    node-moved WithLine k = refl
    node-moved LeftLine k = refl
    node-moved RightLine k = refl
    node-moved BangLine k = refl
    node-moved UseLine k = refl
    node-moved NumLine k = refl
    node-moved (TensorLine a b) k = refl
    node-moved (LolliLine n) k = refl
    node-moved (ImpLine n) k = refl
    node-moved (ForallLine c) k = refl
    node-moved (ExistsLine t) k = ap (λ w. codes "exists" ++ w) (cell-moved t k)
    node-moved (ClauseLine n j ts ps) k =
        ap (λ w. codes "clause" ++ field (decimal n) ++ field (decimal j) ++ w ++ flat_map part_field ps)
        (terms-shown names others r (short_field names rows) (short_field others new) cell-moved ts k)

    shares-moved : flat_map (share_line others new) new ≡ flat_map (share_line names rows) rows
    shares-moved = terms-shown names others r (share_line names rows) (share_line others new)
        (λ t k. ap (λ w. line (codes "share" ++ field w)) (spine-moved t k)) rows kept

    over-moved : (d : DerivationLines) → Keep d.asked → AreKeptLines names others r d.nodes
        → text_over others new (moved_derivation r d) ≡ text_over names rows d
    over-moved d a n =
        let e = terms-shown names others r (λ t. line (let_text_by (short_field names rows) t)) (λ t. line (let_text_by (short_field others new) t))
        (λ t k. ap (λ w. line (codes "let" ++ w)) (cell-moved t k)) d.asked a in
        let f = lines-shown names others r (λ l. line (node_text_by (short_field names rows) l)) (λ l. line (node_text_by (short_field others new) l))
        (λ l k. ap line (node-moved l k)) d.nodes n in
        ap (λ w. line (codes "proof 2") ++ (w ++ lines_by (short_field others new) (moved_derivation r d))) shares-moved
        ∙ ap (λ w. line (codes "proof 2") ++ (flat_map (share_line names rows) rows ++ w))
        (ap (λ w. w ++ flat_map (λ l. line (node_text_by (short_field others new) l)) (map (moved_line r) d.nodes)) e
        ∙ ap (λ w. flat_map (λ t. line (let_text_by (short_field names rows) t)) d.asked ++ w) f)

  -- the text of version 2 is the same
  pub text2-moved : (d : DerivationLines) → Keep d.asked → AreKeptLines names others r d.nodes → proof_text2 others (moved_derivation r d) ≡ proof_text2 names d
  unfolding proof_text2
  text2-moved d a n =
      ap (λ z. text_over others z (moved_derivation r d)) (table-moved d a n) ∙ over-moved (table d) (table-kept d a n) d a n
