-- Over any names the same lines have the same table.
use Rattle.std.proofs.Common.{◌≡◌, ℕ, zero, suc, ◌<◌, ◌^◌, Bool, true, false, ◌||◌, List, [], ◌∷◌, ◌++◌, length, All, fold, refl, ap, sym, subst, ◌∙◌, arith}
use Rattle.std.proofs.Common.{codes, append_assoc, append-nil, length-append, decimal, Option, Some, None, inl, inr, IsTrue, true≢false, ℤ}
use Rattle.std.specs.Prelude.{◌⊎◌, if◌then◌else◌}
use Rattle.std.specs.List.{IsDistinct, list_all, flat_map, slice_get}
use Rattle.std.specs.Str.{bytes_eq}
use Rattle.std.proofs.lemmas.Bool.{eqb-false}
use Rattle.std.proofs.lemmas.Slice.Eq.{bytes_eq-Decides}
use Rattle.std.proofs.lemmas.Fmt.{decimal_injective, signed_decimal_injective}
use Rattle.std.proofs.lemmas.List.Elements.{All-nil, All-cons, All-head, All-tail}
use Rattle.std.proofs.lemmas.Option.{slice_get_within}
use Rattle.ll_bank.specs.declared.Head.{Head}
use Rattle.ll_bank.specs.declared.Head.TheVariants.{Name, Eigen, Bound}
use Rattle.ll_bank.specs.Term.{Term, Var, Int, Con, Ap, apply, app}
use Rattle.ll_laws.specs.Fault.{term_eq}
use Rattle.ll_laws.specs.Output.{head_text, has_arguments, is_cons_head, term_text}
use Rattle.ll_laws.specs.ProofText.{field, set_text, part_field}
use Rattle.ll_laws.specs.Line.{Line, OneLine, EraseLine, TensorLine, WithLine, LeftLine, RightLine, BangLine, UseLine, LolliLine, ImpLine, ForallLine}
use Rattle.ll_laws.specs.Line.{ExistsLine, ClauseLine, NumLine, DerivationLines, PartLine, Labels, Free}
use Rattle.ll_laws.proofs.CallerLemmas.{term_eq-true, term_eq-refl}
use Rattle.ll_prooftext.specs.Admitted.{IsPlainHead, IsSpelledTerm, IsSpelledLine}
use Rattle.ll_prooftext.specs.Reading.{IsField, Cell, IsAtEnd, line_end, space}
use Rattle.ll_prooftext.specs.Fields.{HasNoTerm, brace, mark}
use Rattle.ll_prooftext.specs.Terms.{Bare, IsWord}
use Rattle.ll_prooftext.specs.Words.{at_byte, is_not}
use Rattle.ll_prooftext.specs.Table.{completed, completed_arguments, is_among, with_row, table, line_terms, field_terms}
use Rattle.ll_prooftext.specs.Sharing.{StandsFor, itself, by_row, AreCells, no_cells, next_cell, IsShare, AreShares, no_shares, next_share, IsLet, IsClauseStep}
use Rattle.ll_prooftext.specs.Sharing.{IsStep, AreEach}
use Rattle.ll_prooftext.proofs.reading.CellsRead.{row_word, word_free, cell_free}
use Rattle.ll_prooftext.proofs.spelling.Cuts.{one_cut}
use Rattle.ll_prooftext.proofs.spelling.Extended.{plain_apart}
use Rattle.ll_prooftext.proofs.reading.LinesOver.{no_cell_begins, one_first}
use Rattle.ll_prooftext.proofs.spelling.Numerals.{mag_small}
use Rattle.ll_prooftext.proofs.unambiguous.OneField.{end_stops}
use Rattle.ll_prooftext.proofs.unambiguous.OneLine.{number_same, line_word, line_kind, one_kind}
use Rattle.ll_prooftext.proofs.unambiguous.OneLine.{word_free as line_free}
use Rattle.ll_prooftext.proofs.unambiguous.OneSharing.{app_arguments, cons_text, cell_good, cells_end}
use Rattle.ll_prooftext.proofs.spelling.Reach.{head_word}
use Rattle.ll_prooftext.proofs.spelling.Spellings.{one_shape}
use Rattle.ll_prooftext.proofs.unambiguous.OneTerm.{same_plain, same_sign, no_question, bare_word, bare_shape}

-- ---- terms that are the same but for the numbers of their names

-- the head may stand in a text
abbrev pub IsHeld : List (List ℕ) → Head → Type 0
IsHeld names h = IsPlainHead names h ⊎ IsTrue (is_cons_head names h)

pub record AlikeHead (names ms : List (List ℕ)) (h k : Head) : Type 0 where
  pub text : head_text names h ≡ head_text ms k
  pub left : IsHeld names h
  pub right : IsHeld ms k

pub data Alike (names ms : List (List ℕ)) : Term → Term → Type 0 where
  same_var : {n : ℕ} → Alike names ms (Var n) (Var n)
  same_int : {z : ℤ} → Alike names ms (Int z) (Int z)
  same_con : {h k : Head} → AlikeHead names ms h k → Alike names ms (Con h) (Con k)
  same_ap : {f g a b : Term} → Alike names ms f g → Alike names ms a b → Alike names ms (Ap f a) (Ap g b)

pub data AlikeAll (names ms : List (List ℕ)) : List Term → List Term → Type 0 where
  no_terms : AlikeAll names ms [] []
  next_term : {t u : Term} {ts us : List Term} → Alike names ms t u → AlikeAll names ms ts us → AlikeAll names ms (t ∷ ts) (u ∷ us)

flip : (names ms : List (List ℕ)) (t u : Term) → Alike names ms t u → Alike ms names u t
flip names ms t u same_var = same_var
flip names ms t u same_int = same_int
flip names ms t u (same_con h) = same_con (record { text = sym h.text; left = h.right; right = h.left })
flip names ms t u (same_ap {f = f} {g = g} {a = a} {b = b} p q) = same_ap (flip names ms f g p) (flip names ms a b q)

is_sign : (w : List ℕ) → w ≡ codes "::" → bytes_eq w (codes "::") ≡ true
is_sign w e = (bytes_eq-Decides w (codes "::")).1 e

sharp_not : (w : List ℕ) → 35 ∷ w ≡ codes "::" → ⊥
sharp_not w e = cc

module _ (ms : List (List ℕ)) (distinct : IsDistinct bytes_eq ms) where
  sign_plain : (h k : Head) → IsPlainHead ms h → IsTrue (is_cons_head ms k) → head_text ms h ≡ head_text ms k → ⊥
  sign_plain (Name m) k p c e = true≢false (sym (is_sign (head_text ms (Name m)) (e ∙ cons_text ms k c)) ∙ plain_apart ms (Name m) p)
  sign_plain (Eigen m) k p c e = sharp_not (decimal m) (e ∙ cons_text ms k c)
  sign_plain (Bound m) k p c e = absurd p

  held_once : (h k : Head) → IsHeld ms h → IsHeld ms k → head_text ms h ≡ head_text ms k → h ≡ k
  held_once h k (inl p) (inl q) e = same_plain ms distinct h k p q e
  held_once h k (inr p) (inr q) e = same_sign ms distinct h k p q
  held_once h k (inl p) (inr q) e = absurd (sign_plain h k p q e)
  held_once h k (inr p) (inl q) e = absurd (sign_plain k h q p (sym e))

  -- a term is like one
  alike_once : (names : List (List ℕ)) (t x y : Term) → Alike names ms t x → Alike names ms t y → x ≡ y
  alike_once names t x y same_var same_var = refl
  alike_once names t x y same_int same_int = refl
  alike_once names t x y (same_con {k = k} h) (same_con {k = j} g) = ap Con (held_once k j h.right g.right (sym h.text ∙ g.text))
  alike_once names t x y (same_ap {f = f} {g = g} {a = a} {b = b} p q) (same_ap {g = h} {b = c} r s) =
      let i = alike_once names f g h p r in
      let j = alike_once names a b c q s in
      ap (λ z. Ap z b) i ∙ ap (λ z. Ap h z) j

  -- and over the same names it is that one
  alike_is : (t u : Term) → Alike ms ms t u → t ≡ u
  alike_is t u same_var = refl
  alike_is t u same_int = refl
  alike_is t u (same_con {h = h} {k = k} a) = ap Con (held_once h k a.left a.right a.text)
  alike_is t u (same_ap {f = f} {g = g} {a = a} {b = b} p q) = ap (λ z. Ap z a) (alike_is f g p) ∙ ap (λ z. Ap g z) (alike_is a b q)

  pub all_alike_are : (ts us : List Term) → AlikeAll ms ms ts us → ts ≡ us
  all_alike_are ts us no_terms = refl
  all_alike_are ts us (next_term {t = t} {u = u} {ts = rs} {us = ss} a b) = ap (λ z. z ∷ rs) (alike_is t u a) ∙ ap (λ z. u ∷ z) (all_alike_are rs ss b)

all_parts : (ns : List (List ℕ)) (xs : List Term) (x : Term) → All (IsSpelledTerm ns) (xs ++ x ∷ []) → All (IsSpelledTerm ns) xs × IsSpelledTerm ns x
all_parts ns [] x h = (All-nil (IsSpelledTerm ns), All-head (IsSpelledTerm ns) x [] h)
all_parts ns (y ∷ ys) x h = let k = all_parts ns ys x (All-tail (IsSpelledTerm ns) y (ys ++ x ∷ []) h) in
    (All-cons (IsSpelledTerm ns) y ys (All-head (IsSpelledTerm ns) y (ys ++ x ∷ []) h) k.0, k.1)

-- the first word of a node's line, and what stands behind it
step_front : (names : List (List ℕ)) (rows : List Term) (x : Line) (l : List ℕ) → IsStep names rows x l
    → (rest : List ℕ) × ((l ≡ line_word x ++ rest) × IsAtEnd rest)
step_front names rows (ExistsLine t) l i = (field i.text, (i.is, space))
step_front names rows (ClauseLine n k ts ps) l i = (field (decimal n) ++ (field (decimal k) ++ (i.cells ++ flat_map part_field ps)), (i.is, space))
step_front names rows (TensorLine s t) l i = (field (set_text s) ++ field (set_text t), (i, space))
step_front names rows (LolliLine n) l i = (field (decimal n), (i, space))
step_front names rows (ImpLine n) l i = (field (decimal n), (i, space))
step_front names rows (ForallLine n) l i = (field (decimal n), (i, space))
step_front names rows OneLine l i = ([], (i, line_end))
step_front names rows EraseLine l i = ([], (i, line_end))
step_front names rows WithLine l i = ([], (i, line_end))
step_front names rows LeftLine l i = ([], (i, line_end))
step_front names rows RightLine l i = ([], (i, line_end))
step_front names rows BangLine l i = ([], (i, line_end))
step_front names rows UseLine l i = ([], (i, line_end))
step_front names rows NumLine l i = ([], (i, line_end))

module _ (names ms : List (List ℕ)) (one : IsDistinct bytes_eq names) (two : IsDistinct bytes_eq ms) where
  eq_alike : (t u x y : Term) → Alike names ms t x → Alike names ms u y → term_eq t u ≡ term_eq x y
  eq_alike t u x y a b = by (term_eq t u) refl (term_eq x y) refl
    where
      by : (v : Bool) → term_eq t u ≡ v → (w : Bool) → term_eq x y ≡ w → v ≡ w
      by true e true f = refl
      by false e false f = refl
      by true e false f =
          let q : t ≡ u = term_eq-true t u e in
          let r : x ≡ y = alike_once ms two names t x y a (subst (λ z. Alike names ms z y) (sym q) b) in
          absurd (true≢false (sym (ap (term_eq x) (sym r) ∙ term_eq-refl x) ∙ f))
      by false e true f =
          let q : x ≡ y = term_eq-true x y f in
          let r : t ≡ u = alike_once names one ms x t u (flip names ms t x a) (subst (λ z. Alike ms names z u) (sym q) (flip names ms u y b)) in
          absurd (true≢false (sym (ap (term_eq t) (sym r) ∙ term_eq-refl t) ∙ e))

  among_alike : (rows others : List Term) (t x : Term) → AlikeAll names ms rows others → Alike names ms t x → is_among rows t ≡ is_among others x
  among_alike rows others t x no_terms a = refl
  among_alike rows others t x (next_term {t = r} {u = s} {ts = rs} {us = ss} b c) a =
      ap (λ v. v || is_among rs t) (eq_alike t r x s a b) ∙ ap (λ v. term_eq x s || v) (among_alike rs ss t x c a)

  pub push_alike : (ts us vs ws : List Term) → AlikeAll names ms ts us → AlikeAll names ms vs ws → AlikeAll names ms (ts ++ vs) (us ++ ws)
  push_alike ts us vs ws no_terms b = b
  push_alike ts us vs ws (next_term {t = t} {u = u} {ts = rs} {us = ss} a c) b = next_term a (push_alike rs ss vs ws c b)

  row_alike : (rows others : List Term) (t x : Term) → AlikeAll names ms rows others → Alike names ms t x
      → AlikeAll names ms (with_row rows t) (with_row others x)
  row_alike rows others t x a b = by (is_among rows t) (is_among others x) (among_alike rows others t x a b)
    where
      by : (v w : Bool) → v ≡ w → AlikeAll names ms (if v then rows else rows ++ t ∷ []) (if w then others else others ++ x ∷ [])
      by true true e = a
      by false false e = push_alike rows others (t ∷ []) (x ∷ []) a (next_term b no_terms)
      by true false e = absurd (true≢false e)
      by false true e = absurd (true≢false (sym e))

  rows_alike : (ts us rows others : List Term) → AlikeAll names ms ts us → AlikeAll names ms rows others
      → AlikeAll names ms (fold with_row rows ts) (fold with_row others us)
  rows_alike ts us rows others no_terms b = b
  rows_alike ts us rows others (next_term {t = t} {u = u} {ts = rs} {us = ss} a c) b =
      rows_alike rs ss (with_row rows t) (with_row others u) c (row_alike rows others t u b a)

  mutual
    completed_alike : (t u : Term) → Alike names ms t u → AlikeAll names ms (completed t) (completed u)
    completed_alike t u same_var = no_terms
    completed_alike t u same_int = no_terms
    completed_alike t u (same_con h) = no_terms
    completed_alike t u (same_ap {f = f} {g = g} {a = a} {b = b} p q) =
        push_alike (completed_arguments f ++ completed a) (completed_arguments g ++ completed b) (Ap f a ∷ []) (Ap g b ∷ [])
        (push_alike (completed_arguments f) (completed_arguments g) (completed a) (completed b) (arguments_alike f g p) (completed_alike a b q))
        (next_term (same_ap p q) no_terms)

    arguments_alike : (t u : Term) → Alike names ms t u → AlikeAll names ms (completed_arguments t) (completed_arguments u)
    arguments_alike t u same_var = no_terms
    arguments_alike t u same_int = no_terms
    arguments_alike t u (same_con h) = no_terms
    arguments_alike t u (same_ap {f = f} {g = g} {a = a} {b = b} p q) =
        push_alike (completed_arguments f) (completed_arguments g) (completed a) (completed b) (arguments_alike f g p) (completed_alike a b q)

  all_completed : (ts us : List Term) → AlikeAll names ms ts us → AlikeAll names ms (flat_map completed ts) (flat_map completed us)
  all_completed ts us no_terms = no_terms
  all_completed ts us (next_term {t = t} {u = u} {ts = rs} {us = ss} a b) =
      push_alike (completed t) (completed u) (flat_map completed rs) (flat_map completed ss) (completed_alike t u a) (all_completed rs ss b)

  pub table_alike : (d e : DerivationLines) → AlikeAll names ms (field_terms d) (field_terms e) → AlikeAll names ms (table d) (table e)
  unfolding table
  table_alike d e a = rows_alike (flat_map completed (field_terms d)) (flat_map completed (field_terms e)) [] []
      (all_completed (field_terms d) (field_terms e) a) no_terms

  -- ---- the same place in lists that are alike

  none_alike : (ts us : List Term) (k : ℕ) → AlikeAll names ms ts us → slice_get ts k ≡ None → slice_get us k ≡ None
  none_alike ts us k no_terms e = refl
  none_alike ts us zero (next_term a b) e = absurd cc
  none_alike ts us (suc k) (next_term {ts = rs} {us = ss} a b) e = none_alike rs ss k b e

  some_alike : (ts us : List Term) (k : ℕ) (t : Term) → AlikeAll names ms ts us → slice_get ts k ≡ Some t
      → (u : Term) × ((slice_get us k ≡ Some u) × Alike names ms t u)
  some_alike ts us k t no_terms e = absurd cc
  some_alike ts us zero t (next_term {t = r} {u = s} a b) e = (s, (refl, subst (λ z. Alike names ms z s) (let q : r ≡ t = cc in q) a))
  some_alike ts us (suc k) t (next_term {ts = rs} {us = ss} a b) e = some_alike rs ss k t b e

  -- what two lists have in common they have in common
  pub common_alike : (rows others tops others2 : List Term) (k : ℕ) → AlikeAll names ms rows others → AlikeAll names ms tops others2
      → slice_get rows k ≡ slice_get tops k → slice_get others k ≡ slice_get others2 k
  common_alike rows others tops others2 k a b e = by (slice_get rows k) refl
    where
      by : (r : Option Term) → slice_get rows k ≡ r → slice_get others k ≡ slice_get others2 k
      by None f = none_alike rows others k a f ∙ sym (none_alike tops others2 k b (sym e ∙ f))
      by (Some t) f =
          let x = some_alike rows others k t a f in
          let y = some_alike tops others2 k t b (sym e ∙ f) in
          x.1.0 ∙ (ap (λ z. Some z) (alike_once ms two names t x.0 y.0 x.1.1 y.1.1) ∙ sym y.1.0)

  -- ---- lines

  leaf_shape : (t u : Term) → has_arguments t ≡ false → has_arguments u ≡ false → IsSpelledTerm names t → IsSpelledTerm ms u
      → term_text names t ≡ term_text ms u → bare_shape t ≡ bare_shape u
  leaf_shape t u a b p q e = one_shape (term_text names t) (bare_shape t) (bare_shape u) (bare_word names t a p)
      (subst (λ w. IsWord w (bare_shape u)) (sym e) (bare_word ms u b q))

  leaf_alike : (t u : Term) → has_arguments t ≡ false → has_arguments u ≡ false → IsSpelledTerm names t → IsSpelledTerm ms u
      → term_text names t ≡ term_text ms u → Alike names ms t u
  leaf_alike (Var m) (Var n) a b p q e = subst (λ z. Alike names ms (Var m) (Var z)) (decimal_injective m n p q (let t : decimal m ≡ decimal n = cc in t))
      same_var
  leaf_alike (Int y) (Int z) a b p q e = subst (λ x. Alike names ms (Int y) (Int x)) (signed_decimal_injective y z (mag_small y p) (mag_small z q) e) same_int
  leaf_alike (Con h) (Con k) a b p q e = same_con (record { text = e; left = inl p; right = inl q })
  leaf_alike (Var m) (Int z) a b p q e = absurd (no_question names one m z q e)
  leaf_alike (Int z) (Var n) a b p q e = absurd (no_question names one n z p (sym e))
  leaf_alike (Con h) (Var n) a b p q e = let x = leaf_shape (Con h) (Var n) refl refl p q e in absurd cc
  leaf_alike (Con h) (Int z) a b p q e = let x = leaf_shape (Con h) (Int z) refl refl p q e in absurd cc
  leaf_alike (Var n) (Con k) a b p q e = let x = leaf_shape (Var n) (Con k) refl refl p q e in absurd cc
  leaf_alike (Int z) (Con k) a b p q e = let x = leaf_shape (Int z) (Con k) refl refl p q e in absurd cc
  leaf_alike (Ap f x) u a b p q e = absurd cc
  leaf_alike t (Ap f x) a b p q e = absurd cc

  lengths_alike : (rows others : List Term) → AlikeAll names ms rows others → length rows ≡ length others
  lengths_alike rows others no_terms = refl
  lengths_alike rows others (next_term {ts = rs} {us = ss} a b) = ap suc (lengths_alike rs ss b)

  bare_not_row : (t : Term) (w : List ℕ) (k : ℕ) (ns : List (List ℕ)) → IsSpelledTerm ns t → has_arguments t ≡ false → w ≡ term_text ns t
      → w ≡ codes "@" ++ decimal k → ⊥
  bare_not_row t w k ns s b e f = row_word w (decimal k) f (bare_shape t) (subst (λ z. IsWord z (bare_shape t)) (sym e) (bare_word ns t b s))

  stands_alike : (rows others : List Term) (t u : Term) (w : List ℕ) → AlikeAll names ms rows others → length rows < 2 ^ 64 → IsSpelledTerm names t
      → IsSpelledTerm ms u → StandsFor names rows t w → StandsFor ms others u w → Alike names ms t u
  stands_alike rows others t u w r l s v (itself b e) (itself c f) = leaf_alike t u b c s v (sym e ∙ f)
  stands_alike rows others t u w r l s v (itself b e) (by_row j h f) = absurd (bare_not_row t w j names s b e f)
  stands_alike rows others t u w r l s v (by_row k g e) (itself c f) = absurd (bare_not_row u w k ms v c f e)
  stands_alike rows others t u w r l s v (by_row k g e) (by_row j h f) =
      let a = slice_get_within rows k t g in
      let b = slice_get_within others j u h in
      let m = lengths_alike rows others r in
      let q : 64 ∷ decimal k ≡ 64 ∷ decimal j = sym e ∙ f in
      let i : k ≡ j = decimal_injective k j (omega arith) (omega arith) (let t : decimal k ≡ decimal j = cc in t) in
      let x = some_alike rows others k t r g in
      let y : Some x.0 ≡ Some u = sym x.1.0 ∙ (ap (slice_get others) i ∙ h) in
      subst (Alike names ms t) (let z : x.0 ≡ u = cc in z) x.1.1

  tail_end : (a : List ℕ) → HasNoTerm a → IsAtEnd a
  tail_end a (inl e) = subst IsAtEnd (sym e) line_end
  tail_end a (inr (brace r e)) = subst IsAtEnd (sym e) space
  tail_end a (inr (mark r e)) = subst IsAtEnd (sym e) space

  -- a cell does not begin a tail
  tail_not : (n : ℕ) (a w rest : List ℕ) → HasNoTerm a → IsField (Cell n) w → a ≡ 32 ∷ w ++ rest → ⊥
  tail_not n a w rest h i e = no_cell_begins n w rest (w ++ rest) (subst HasNoTerm e h) i refl

  -- cells in front of a tail that has none: their terms, and the tail
  cells_alike : (rows others ts us : List Term) (x y a b : List ℕ) → AlikeAll names ms rows others → length rows < 2 ^ 64 → All (IsSpelledTerm names) ts
      → All (IsSpelledTerm ms) us → AreCells names rows ts x → AreCells ms others us y → HasNoTerm a → HasNoTerm b → x ++ a ≡ y ++ b
      → AlikeAll names ms ts us × (a ≡ b)
  cells_alike rows others ts us x y a b r l s v no_cells no_cells h g e = (no_terms, e)
  cells_alike rows others ts us x y a b r l s v no_cells (next_cell {t = u} {ts = vs} {text = w} {rest = rest} c cs) h g e =
      absurd (tail_not (length others) a w (rest ++ b) h (cell_good ms others u w (All-head (IsSpelledTerm ms) u vs v) c)
      (e ∙ ap (λ z. 32 ∷ z) (append_assoc w rest b)))
  cells_alike rows others ts us x y a b r l s v (next_cell {t = t} {ts = rs} {text = w} {rest = rest} c cs) no_cells h g e =
      absurd (tail_not (length rows) b w (rest ++ a) g (cell_good names rows t w (All-head (IsSpelledTerm names) t rs s) c)
      (sym e ∙ ap (λ z. 32 ∷ z) (append_assoc w rest a)))
  cells_alike rows others ts us x y a b r l s v (next_cell {t = t} {ts = rs} {text = w} {rest = rest} c cs)
      (next_cell {t = u} {ts = vs} {text = z} {rest = behind} d ds) h g e =
      let m = lengths_alike rows others r in
      let st = All-head (IsSpelledTerm names) t rs s in
      let su = All-head (IsSpelledTerm ms) u vs v in
      let f : 32 ∷ (w ++ (rest ++ a)) ≡ 32 ∷ (z ++ (behind ++ b)) =
      ap (λ k. 32 ∷ k) (sym (append_assoc w rest a)) ∙ (e ∙ ap (λ k. 32 ∷ k) (append_assoc z behind b)) in
      let k = one_cut (is_not 32) w z (rest ++ a) (behind ++ b) (cell_free (length rows) w l (cell_good names rows t w st c))
      (cell_free (length others) z (omega arith) (cell_good ms others u z su d))
      (end_stops (is_not 32) (rest ++ a) refl (cells_end names rows rs rest a cs (tail_end a h)))
      (end_stops (is_not 32) (behind ++ b) refl (cells_end ms others vs behind b ds (tail_end b g))) (let q : w ++ (rest ++ a) ≡ z ++ (behind ++ b) = cc in
      q) in
      let i = cells_alike rows others rs vs rest behind a b r l (All-tail (IsSpelledTerm names) t rs s) (All-tail (IsSpelledTerm ms) u vs v) cs ds h g k.1 in
      (next_term (stands_alike rows others t u z r l st su (subst (StandsFor names rows t) k.0 c) d) i.0, i.1)

  apply_alike : (f g : Term) (ts us : List Term) → Alike names ms f g → AlikeAll names ms ts us → Alike names ms (apply f ts) (apply g us)
  apply_alike f g ts us a no_terms = a
  apply_alike f g ts us a (next_term {t = t} {u = u} {ts = rs} {us = ss} b c) = apply_alike (Ap f t) (Ap g u) rs ss (same_ap a b) c

  held_free : (ns : List (List ℕ)) (h : Head) → IsHeld ns h → list_all (is_not 32) (head_text ns h) ≡ true
  held_free ns h (inl p) = word_free (head_text ns h) Bare (head_word ns h p)
  held_free ns h (inr c) = ap (list_all (is_not 32)) (cons_text ns h c)

  fits_held : (ns : List (List ℕ)) (h : Head) (n : ℕ) → IsPlainHead ns h ⊎ (IsTrue (is_cons_head ns h) × (n ≡ 1)) → IsHeld ns h
  fits_held ns h n (inl p) = inl p
  fits_held ns h n (inr c) = inr c.0

  share_alike : (before tops : List Term) (t u : Term) (line : List ℕ) → AlikeAll names ms before tops → length before < 2 ^ 64 → IsSpelledTerm names t
      → IsSpelledTerm ms u → IsShare names before t line → IsShare ms tops u line → Alike names ms t u
  share_alike before tops t u line r l s v i j =
      let e : codes "share" ++ (32 ∷ head_text names i.head ++ i.cells) ≡ codes "share" ++ (32 ∷ head_text ms j.head ++ j.cells) = sym i.text ∙ j.text in
      let f : head_text names i.head ++ i.cells ≡ head_text ms j.head ++ j.cells = cc in
      let h = fits_held names i.head (length i.others) i.fits in
      let g = fits_held ms j.head (length j.others) j.fits in
      let k = one_cut (is_not 32) (head_text names i.head) (head_text ms j.head) i.cells j.cells (held_free names i.head h) (held_free ms j.head g)
      (end_stops (is_not 32) i.cells refl (subst IsAtEnd (append-nil i.cells) (cells_end names before (i.first ∷ i.others) i.cells [] i.shown line_end)))
      (end_stops (is_not 32) j.cells refl (subst IsAtEnd (append-nil j.cells) (cells_end ms tops (j.first ∷ j.others) j.cells [] j.shown line_end))) f in
      let args = cells_alike before tops (i.first ∷ i.others) (j.first ∷ j.others) i.cells j.cells [] [] r l
      (app_arguments names i.head (i.first ∷ i.others) (subst (IsSpelledTerm names) i.is s))
      (app_arguments ms j.head (j.first ∷ j.others) (subst (IsSpelledTerm ms) j.is v)) i.shown j.shown (inl refl) (inl refl) (ap (λ z. z ++ []) k.1) in
      subst (λ z. Alike names ms z u) (sym i.is) (subst (Alike names ms (app i.head (i.first ∷ i.others))) (sym j.is)
      (apply_alike (Con i.head) (Con j.head) (i.first ∷ i.others) (j.first ∷ j.others) (same_con (record { text = k.0; left = h; right = g })) args.0))

  push_same : (xs ys : List (List ℕ)) (x y : List ℕ) → xs ++ x ∷ [] ≡ ys ++ y ∷ [] → (xs ≡ ys) × (x ≡ y)
  push_same [] [] x y e = (refl, cc)
  push_same [] (z ∷ []) x y e = let q : x ∷ [] ≡ z ∷ y ∷ [] = e in absurd cc
  push_same [] (z ∷ v ∷ ys) x y e = let q : x ∷ [] ≡ z ∷ v ∷ (ys ++ y ∷ []) = e in absurd cc
  push_same (z ∷ []) [] x y e = let q : z ∷ x ∷ [] ≡ y ∷ [] = e in absurd cc
  push_same (z ∷ v ∷ xs) [] x y e = let q : z ∷ v ∷ (xs ++ x ∷ []) ≡ y ∷ [] = e in absurd cc
  push_same (z ∷ xs) (v ∷ ys) x y e =
      let f : xs ++ x ∷ [] ≡ ys ++ y ∷ [] = cc in
      let g : z ≡ v = cc in
      let k = push_same xs ys x y f in
      (ap (λ w. w ∷ xs) g ∙ ap (λ w. v ∷ w) k.0, k.1)

  pushed_not : (xs : List (List ℕ)) (x : List ℕ) → [] ≡ xs ++ x ∷ [] → ⊥
  pushed_not [] x e = cc
  pushed_not (y ∷ xs) x e = cc

  pub shares_alike : (rows others : List Term) (ls ks : List (List ℕ)) → ls ≡ ks → length rows < 2 ^ 64 → All (IsSpelledTerm names) rows
      → All (IsSpelledTerm ms) others → AreShares names rows ls → AreShares ms others ks → AlikeAll names ms rows others
  shares_alike rows others ls ks q l s v (no_shares a b) (no_shares c d) =
      subst (λ z. AlikeAll names ms z others) (sym a) (subst (AlikeAll names ms []) (sym c) no_terms)
  shares_alike rows others ls ks q l s v (no_shares a b) (next_share before above t line x i c d) = absurd (pushed_not above line (sym b ∙ (q ∙ d)))
  shares_alike rows others ls ks q l s v (next_share before above t line x i c d) (no_shares a b) = absurd (pushed_not above line (sym b ∙ (sym q ∙ d)))
  shares_alike rows others ls ks q l s v (next_share before above t line x i a b) (next_share tops highs u other y j c d) =
      let k = push_same above highs line other (sym b ∙ (q ∙ d)) in
      let n = ap length a in
      let m = length-append before (t ∷ []) in
      let st = all_parts names before t (subst (All (IsSpelledTerm names)) a s) in
      let su = all_parts ms tops u (subst (All (IsSpelledTerm ms)) c v) in
      let r = shares_alike before tops above highs k.0 (omega arith) st.0 su.0 x y in
      subst (λ z. AlikeAll names ms z others) (sym a) (subst (AlikeAll names ms (before ++ t ∷ [])) (sym c)
      (push_alike before tops (t ∷ []) (u ∷ []) r (next_term
      (share_alike before tops t u other r (omega arith) st.1 su.1 (subst (IsShare names before t) k.1 i) j) no_terms)))

  pub lets_alike : (rows others ts us : List Term) (ls : List (List ℕ)) → AlikeAll names ms rows others → length rows < 2 ^ 64 → All (IsSpelledTerm names) ts
      → All (IsSpelledTerm ms) us → AreEach (IsLet names rows) ts ls → AreEach (IsLet ms others) us ls → AlikeAll names ms ts us
  lets_alike rows others [] [] ls r l s v a b = no_terms
  lets_alike rows others [] (u ∷ us) [] r l s v a b = absurd b
  lets_alike rows others [] (u ∷ us) (k ∷ ls) r l s v a b = absurd a
  lets_alike rows others (t ∷ ts) [] [] r l s v a b = absurd a
  lets_alike rows others (t ∷ ts) [] (k ∷ ls) r l s v a b = absurd b
  lets_alike rows others (t ∷ ts) (u ∷ us) [] r l s v a b = absurd a
  lets_alike rows others (t ∷ ts) (u ∷ us) (k ∷ ls) r l s v a b =
      let e : codes "let" ++ field a.0.text ≡ codes "let" ++ field b.0.text = sym a.0.is ∙ b.0.is in
      let f : a.0.text ≡ b.0.text = cc in
      next_term (stands_alike rows others t u b.0.text r l (All-head (IsSpelledTerm names) t ts s) (All-head (IsSpelledTerm ms) u us v)
      (subst (StandsFor names rows t) f a.0.stands) b.0.stands)
      (lets_alike rows others ts us ls r l (All-tail (IsSpelledTerm names) t ts s) (All-tail (IsSpelledTerm ms) u us v) a.1 b.1)

  parts_no_term : (ps : List PartLine) → HasNoTerm (flat_map part_field ps)
  parts_no_term [] = inl refl
  parts_no_term (Labels s ∷ ps) = inr (brace _ refl)
  parts_no_term (Free ∷ ps) = inr (mark _ refl)

  -- the numbers of a clause step, its terms, and the text of its premises
  pub clause_alike : (rows others : List Term) (n m i j : ℕ) (ts us : List Term) (ps qs : List PartLine) (k : List ℕ) → AlikeAll names ms rows others
      → length rows < 2 ^ 64 → IsSpelledLine names (ClauseLine n m ts ps) → IsSpelledLine ms (ClauseLine i j us qs)
      → IsClauseStep names rows n m ts (flat_map part_field ps) k → IsClauseStep ms others i j us (flat_map part_field qs) k
      → (n ≡ i) × (m ≡ j) × AlikeAll names ms ts us × (flat_map part_field ps ≡ flat_map part_field qs)
  clause_alike rows others n m i j ts us ps qs k r l s v a b =
      let x = flat_map part_field ps in
      let y = flat_map part_field qs in
      let e : codes "clause" ++ (32 ∷ decimal n ++ (32 ∷ decimal m ++ (a.cells ++ x))) ≡ codes "clause"
      ++ (32 ∷ decimal i ++ (32 ∷ decimal j ++ (b.cells ++ y))) = sym a.is ∙ b.is in
      let f : decimal n ++ (32 ∷ decimal m ++ (a.cells ++ x)) ≡ decimal i ++ (32 ∷ decimal j ++ (b.cells ++ y)) = cc in
      let g = number_same n i (32 ∷ decimal m ++ (a.cells ++ x)) (32 ∷ decimal j ++ (b.cells ++ y)) s.0 v.0 (at_byte 32 _ refl refl) (at_byte 32 _ refl refl) f
      in
      let h : 32 ∷ (decimal m ++ (a.cells ++ x)) ≡ 32 ∷ (decimal j ++ (b.cells ++ y)) = g.1 in
      let c = number_same m j (a.cells ++ x) (b.cells ++ y) s.1.0 v.1.0
      (end_stops (is_not 32) (a.cells ++ x) refl (cells_end names rows ts a.cells x a.shown (tail_end x (parts_no_term ps))))
      (end_stops (is_not 32) (b.cells ++ y) refl (cells_end ms others us b.cells y b.shown (tail_end y (parts_no_term qs))))
      (let z : decimal m ++ (a.cells ++ x) ≡ decimal j ++ (b.cells ++ y) = cc in z) in
      let d = cells_alike rows others ts us a.cells b.cells x y r l s.1.1.0 v.1.1.0 a.shown b.shown (parts_no_term ps) (parts_no_term qs) c.1 in
      (g.0, c.0, d.0, d.1)

  pub by_kind : (rows others : List Term) (x y : Line) (k : List ℕ) → line_kind x ≡ line_kind y → AlikeAll names ms rows others → length rows < 2 ^ 64
      → IsSpelledLine names x → IsSpelledLine ms y → IsStep names rows x k → IsStep ms others y k → AlikeAll names ms (line_terms x) (line_terms y)
  by_kind rows others (ExistsLine t) (ExistsLine u) k q r l s v a b =
      let e : codes "exists" ++ field a.text ≡ codes "exists" ++ field b.text = sym a.is ∙ b.is in
      let f : a.text ≡ b.text = cc in
      next_term (stands_alike rows others t u b.text r l s v (subst (StandsFor names rows t) f a.stands) b.stands) no_terms
  by_kind rows others (ClauseLine n m ts ps) (ClauseLine i j us qs) k q r l s v a b = (clause_alike rows others n m i j ts us ps qs k r l s v a b).2
  by_kind rows others OneLine OneLine k q r l s v a b = no_terms
  by_kind rows others EraseLine EraseLine k q r l s v a b = no_terms
  by_kind rows others (TensorLine c d) (TensorLine e f) k q r l s v a b = no_terms
  by_kind rows others WithLine WithLine k q r l s v a b = no_terms
  by_kind rows others LeftLine LeftLine k q r l s v a b = no_terms
  by_kind rows others RightLine RightLine k q r l s v a b = no_terms
  by_kind rows others BangLine BangLine k q r l s v a b = no_terms
  by_kind rows others (LolliLine n) (LolliLine m) k q r l s v a b = no_terms
  by_kind rows others (ImpLine n) (ImpLine m) k q r l s v a b = no_terms
  by_kind rows others (ForallLine n) (ForallLine m) k q r l s v a b = no_terms
  by_kind rows others UseLine UseLine k q r l s v a b = no_terms
  by_kind rows others NumLine NumLine k q r l s v a b = no_terms
  by_kind rows others x y k q r l s v a b = absurd (eqb-false (line_kind x) (line_kind y) refl q)

  -- the lines of nodes that are the same are of one kind
  pub step_kind : (rows others : List Term) (x y : Line) (k : List ℕ) → IsStep names rows x k → IsStep ms others y k → line_kind x ≡ line_kind y
  step_kind rows others x y k a b =
      let f = step_front names rows x k a in
      let g = step_front ms others y k b in
      one_kind x y (one_first (line_word x) (line_word y) f.0 g.0 (line_free x).0 (line_free y).0 f.1.1 g.1.1 (sym f.1.0 ∙ g.1.0))

  pub steps_alike : (rows others : List Term) (xs ys : List Line) (ls : List (List ℕ)) → AlikeAll names ms rows others → length rows < 2 ^ 64
      → All (IsSpelledLine names) xs → All (IsSpelledLine ms) ys → AreEach (IsStep names rows) xs ls → AreEach (IsStep ms others) ys ls
      → AlikeAll names ms (flat_map line_terms xs) (flat_map line_terms ys)
  steps_alike rows others [] [] ls r l s v a b = no_terms
  steps_alike rows others [] (y ∷ ys) [] r l s v a b = absurd b
  steps_alike rows others [] (y ∷ ys) (k ∷ ls) r l s v a b = absurd a
  steps_alike rows others (x ∷ xs) [] [] r l s v a b = absurd a
  steps_alike rows others (x ∷ xs) [] (k ∷ ls) r l s v a b = absurd b
  steps_alike rows others (x ∷ xs) (y ∷ ys) [] r l s v a b = absurd a
  steps_alike rows others (x ∷ xs) (y ∷ ys) (k ∷ ls) r l s v a b =
      push_alike (line_terms x) (line_terms y) (flat_map line_terms xs) (flat_map line_terms ys)
      (by_kind rows others x y k (step_kind rows others x y k a.0 b.0) r l (All-head (IsSpelledLine names) x xs s) (All-head (IsSpelledLine ms) y ys v) a.0
      b.0)
      (steps_alike rows others xs ys ls r l (All-tail (IsSpelledLine names) x xs s) (All-tail (IsSpelledLine ms) y ys v) a.1 b.1)
