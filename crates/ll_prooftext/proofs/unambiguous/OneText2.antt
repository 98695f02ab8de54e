-- The lines of a derivation's text of version 2 are rows, and those of the derivation over them.
use Rattle.std.proofs.Common.{◌≡◌, ℕ, ◌+◌, ◌<◌, ◌≤◌, ◌^◌, Bool, true, false, if◌then◌else◌, List, [], ◌∷◌, ◌++◌, length, map, All, fold, refl, ap, sym, subst}
use Rattle.std.proofs.Common.{◌∙◌, arith, codes, append_assoc, append-nil, length-append, decimal, Some, None, inl, inr, IsTrue}
use Rattle.std.specs.Prelude.{◌⊎◌}
use Rattle.std.specs.List.{IsDistinct, list_all, flat_map, slice_get}
use Rattle.std.specs.Str.{bytes_eq}
use Rattle.std.proofs.lemmas.List.{map-append}
use Rattle.std.proofs.lemmas.List.Concat.{flat_map-append}
use Rattle.std.proofs.lemmas.List.Elements.{All-nil, All-cons, All-push, All-head, All-tail, All-append, All-weaker}
use Rattle.ll_bank.specs.declared.Head.{Head}
use Rattle.ll_bank.specs.Term.{Term, Var, Int, Con, Ap, app}
use Rattle.ll_bank.proofs.CallerLemmas.{apply-push}
use Rattle.ll_lexer.specs.declared.Fault.{Fault}
use Rattle.ll_lexer.specs.Reading.{place_at}
use Rattle.ll_laws.specs.Output.{line as with_end, head_text, has_arguments, is_cons_head, term_text}
use Rattle.ll_laws.specs.ProofText.{field, part_field, term_field, node_text, proof_text}
use Rattle.ll_laws.specs.Line.{Line, OneLine, EraseLine, TensorLine, WithLine, LeftLine, RightLine, BangLine, UseLine, LolliLine, ImpLine, ForallLine}
use Rattle.ll_laws.specs.Line.{ExistsLine, ClauseLine, NumLine, DerivationLines}
use Rattle.ll_prooftext.specs.Admitted.{IsPlainHead, IsSpelledTerm, IsSpelledSpine, IsSpelledLine}
use Rattle.ll_prooftext.specs.Table.{completed, completed_arguments, is_among, with_row, row_of, table, line_terms, field_terms}
use Rattle.ll_prooftext.specs.ProofText2.{short_text, short_field, spine_text, let_text_by, node_text_by, proof_text2}
use Rattle.ll_prooftext.specs.Sharing.{StandsFor, itself, by_row, AreCells, no_cells, next_cell}
use Rattle.ll_prooftext.specs.Sharing.{IsShare, AreShares, no_shares, next_share, IsLet, IsStep, AreEach}
use Rattle.ll_prooftext.specs.Reading.{text_lines, IsTextOf}
use Rattle.ll_prooftext.specs.Reading2.{IsText2Of, BeginsOver, HasFault2}
use Rattle.ll_prooftext.specs.Terms.{Bare}
use Rattle.ll_prooftext.specs.Words.{is_not}
use Rattle.ll_prooftext.proofs.unambiguous.OneFault2.{rows_many, same_steps, rows_few, rows_like, asked_like, row_common}
use Rattle.ll_prooftext.proofs.unambiguous.OneFault2.{lines_few as text_lines_few}
use Rattle.ll_prooftext.proofs.unambiguous.OneSharing.{ArgumentsSpelled, term_arguments, app_arguments, cons_text, comes2_once, whole_comes, IsFaultOf}
use Rattle.ll_prooftext.proofs.unambiguous.OneSharing.{of_line, of_row, fault_of}
use Rattle.ll_prooftext.proofs.unambiguous.OneStep.{steps_once}
use Rattle.ll_prooftext.proofs.unambiguous.OneTable.{AlikeAll, all_alike_are}
use Rattle.ll_prooftext.proofs.unambiguous.OneTerm.{bare_word, bare_shape}
use Rattle.ll_prooftext.proofs.spelling.Reach.{head_word}
use Rattle.ll_prooftext.proofs.writing.SameText.{same_lets, same_nodes}
use Rattle.ll_prooftext.proofs.tabling.RowsInPlace.{AreOnce, table_once, get_front, row_there, pushed_cases, among_pushed, lines_text}
use Rattle.ll_prooftext.proofs.writing.WholeText.{HasNoEnd, IsFull, AreFull, full, joined, word_free, number_free, small_free, parts_free, node_full}
use Rattle.ll_prooftext.proofs.writing.WholeText.{lines_of_ended, lines_of_open, trees_missing}
use Rattle.std.proofs.lemmas.Option.{slice_get_within}
use Rattle.ll_prooftext.proofs.writing.ShortLines.{spine_app}
use Rattle.ll_prooftext.proofs.tabling.TableTerms.{AreAmong, AreBehind, all_behind, rows_in-among, are_themselves, among_left, completed_is, arguments_app}

-- ---- fields over rows that have their terms

left : {X : Type 0} (P : X → Type 0) (xs ys : List X) → All P (xs ++ ys) → All P xs
left P [] ys h = All-nil P
left P (x ∷ xs) ys h = All-cons P x xs (All-head P x (xs ++ ys) h) (left P xs ys (All-tail P x (xs ++ ys) h))

right : {X : Type 0} (P : X → Type 0) (xs ys : List X) → All P (xs ++ ys) → All P ys
right P [] ys h = h
right P (x ∷ xs) ys h = right P xs ys (All-tail P x (xs ++ ys) h)

-- a term with arguments is one of those that it completes
itself_among : (rows : List Term) (t : Term) → has_arguments t ≡ true → AreAmong rows (completed t) → is_among rows t ≡ true
itself_among rows t h a =
    let x = right (λ u. is_among rows u ≡ true) (completed_arguments t) (t ∷ []) (subst (AreAmong rows) (completed_is t h) a) in
    All-head (λ u. is_among rows u ≡ true) t [] x

-- the rows are the first ones of the table
record IsFront (rows top : List Term) : Type 0 where
  pub once : AreOnce top
  pub more : List Term
  pub is : top ≡ rows ++ more

stands_there : (names : List (List ℕ)) (rows top : List Term) (t : Term) → IsFront rows top → AreAmong rows (completed t)
    → StandsFor names rows t (short_text names top t)
stands_there names rows top (Var n) f a = itself refl refl
stands_there names rows top (Int z) f a = itself refl refl
stands_there names rows top (Con h) f a = itself refl refl
stands_there names rows top (Ap g x) f a =
    let t = Ap g x in
    let m = itself_among rows t refl a in
    let s = row_there rows t m in
    let k : row_of top t ≡ row_of rows t = f.once (row_of rows t) t (ap (λ z. slice_get z (row_of rows t)) f.is ∙ get_front rows f.more (row_of rows t) t s) in
    by_row (row_of top t) (ap (slice_get rows) k ∙ s) refl

cells_there : (names : List (List ℕ)) (rows top ts : List Term) → IsFront rows top → AreAmong rows (flat_map completed ts)
    → AreCells names rows ts (flat_map (short_field names top) ts)
cells_there names rows top [] f a = no_cells
cells_there names rows top (t ∷ ts) f a =
    next_cell (stands_there names rows top t f (left (λ u. is_among rows u ≡ true) (completed t) (flat_map completed ts) a))
    (cells_there names rows top ts f (right (λ u. is_among rows u ≡ true) (completed t) (flat_map completed ts) a))

lets_there : (names : List (List ℕ)) (rows ts : List Term) → IsFront rows rows → AreAmong rows (flat_map completed ts)
    → AreEach (IsLet names rows) ts (map (let_text_by (short_field names rows)) ts)
lets_there names rows [] f a = tt
lets_there names rows (t ∷ ts) f a = (
  record {
    text = short_text names rows t;
    stands = stands_there names rows rows t f
        (left (λ u. is_among rows u ≡ true) (completed t) (flat_map completed ts) a);
    is = refl;
  },
  lets_there names rows ts f (right (λ u. is_among rows u ≡ true) (completed t) (flat_map completed ts) a),
)

step_there : (names : List (List ℕ)) (rows : List Term) (x : Line) → IsFront rows rows → AreAmong rows (flat_map completed (line_terms x))
    → IsStep names rows x (node_text_by (short_field names rows) x)
step_there names rows (ExistsLine t) f a = record {
  text = short_text names rows t;
  stands =
      stands_there names rows rows t f (left (λ u. is_among rows u ≡ true) (completed t) [] a);
  is = refl;
}
step_there names rows (ClauseLine n k ts ps) f a = record {
  cells = flat_map (short_field names rows) ts;
  shown = cells_there names rows rows ts f a;
  is =
      regroup (codes "clause") (field (decimal n)) (field (decimal k)) (flat_map (short_field names rows) ts) (flat_map part_field ps);
}
  where
    regroup : (a b c d e : List ℕ) → (((a ++ b) ++ c) ++ d) ++ e ≡ a ++ (b ++ (c ++ (d ++ e)))
    regroup a b c d e = simp append_assoc
step_there names rows OneLine f a = refl
step_there names rows EraseLine f a = refl
step_there names rows (TensorLine s t) f a = refl
step_there names rows WithLine f a = refl
step_there names rows LeftLine f a = refl
step_there names rows RightLine f a = refl
step_there names rows BangLine f a = refl
step_there names rows (LolliLine n) f a = refl
step_there names rows (ImpLine n) f a = refl
step_there names rows (ForallLine c) f a = refl
step_there names rows UseLine f a = refl
step_there names rows NumLine f a = refl

steps_there : (names : List (List ℕ)) (rows : List Term) (xs : List Line) → IsFront rows rows → AreAmong rows (flat_map completed (flat_map line_terms xs))
    → AreEach (IsStep names rows) xs (map (node_text_by (short_field names rows)) xs)
steps_there names rows [] f a = tt
steps_there names rows (x ∷ xs) f a =
    let h = subst (AreAmong rows) (flat_map-append completed (line_terms x) (flat_map line_terms xs)) a in (
      step_there names rows x f (left (λ u. is_among rows u ≡ true) (flat_map completed (line_terms x)) (flat_map completed (flat_map line_terms xs)) h),
      steps_there names rows xs f (right (λ u. is_among rows u ≡ true) (flat_map completed (line_terms x)) (flat_map completed (flat_map line_terms xs)) h),
    )

-- ---- the rows themselves

-- a term with arguments that a text can spell: a head and its arguments
record IsCompound (names : List (List ℕ)) (t : Term) : Type 0 where
  pub head : Head
  pub first : Term
  pub others : List Term
  pub is : t ≡ app head (first ∷ others)
  pub fits : IsPlainHead names head ⊎ (IsTrue (is_cons_head names head) × (length others ≡ 1))

spine_of : (names : List (List ℕ)) (f : Term) → IsSpelledSpine names f → (h : Head) × ((ts : List Term) × ((f ≡ app h ts) × IsPlainHead names h))
spine_of names (Var n) s = absurd s
spine_of names (Int z) s = absurd s
spine_of names (Con h) s = (h, ([], (refl, s)))
spine_of names (Ap f a) s = let k = spine_of names f s.0 in (k.0, (k.1.0 ++ a ∷ [], (ap (λ z. Ap z a) k.1.1.0 ∙ sym (apply-push (Con k.0) k.1.0 a), k.1.1.1)))

plain_compound : (names : List (List ℕ)) (f a : Term) → IsSpelledSpine names f → IsCompound names (Ap f a)
plain_compound names f a s = let k = spine_of names f s in by k.0 k.1.0 k.1.1.0 k.1.1.1
  where
    by : (h : Head) (ts : List Term) → f ≡ app h ts → IsPlainHead names h → IsCompound names (Ap f a)
    by h [] e p = record { head = h; first = a; others = []; is = ap (λ z. Ap z a) e; fits = inl p }
    by h (t ∷ ts) e p = record { head = h; first = t; others = ts ++ a ∷ []; is = ap (λ z. Ap z a) e ∙ sym (apply-push (Con h) (t ∷ ts) a); fits = inl p }

compound : (names : List (List ℕ)) (t : Term) → IsSpelledTerm names t → has_arguments t ≡ true → IsCompound names t
compound names (Var n) s h = absurd cc
compound names (Int z) s h = absurd cc
compound names (Con k) s h = absurd cc
compound names (Ap (Ap (Con k) x) l) s h = record { head = k; first = x; others = l ∷ []; is = refl; fits = by s.0 }
  where
    by : IsPlainHead names k ⊎ IsTrue (is_cons_head names k) → IsPlainHead names k ⊎ (IsTrue (is_cons_head names k) × (length (l ∷ []) ≡ 1))
    by (inl p) = inl p
    by (inr c) = inr (c, refl)
compound names (Ap f a) s h = plain_compound names f a s.0

abbrev share_text : List (List ℕ) → List Term → Term → List ℕ
share_text names top t = codes "share" ++ field (spine_text names top t)

share_there : (names : List (List ℕ)) (rows top : List Term) (t : Term) → IsFront rows top → IsSpelledTerm names t → has_arguments t ≡ true
    → AreAmong rows (completed_arguments t) → IsShare names rows t (share_text names top t)
share_there names rows top t f s h a =
    let c = compound names t s h in
    record {
      head = c.head;
      first = c.first;
      others = c.others;
      cells = flat_map (short_field names top) (c.first ∷ c.others);
      is = c.is;
      fits = c.fits;
      shown = cells_there names rows top (c.first ∷ c.others) f
          (subst (AreAmong rows) (ap completed_arguments c.is ∙ arguments_app c.head (c.first ∷ c.others)) a);
      text = ap (λ z. codes "share" ++ field z) (ap (spine_text names top) c.is ∙ spine_app names top c.head (c.first ∷ c.others));
    }

-- what rows begin
fold_front : (ts rows : List Term) → (more : List Term) × (fold with_row rows ts ≡ rows ++ more)
fold_front [] rows = ([], sym (append-nil rows))
fold_front (t ∷ ts) rows = by (λ rs. fold_front ts rs) (is_among rows t) refl
  where
    by : ((rs : List Term) → (more : List Term) × (fold with_row rs ts ≡ rs ++ more)) → (b : Bool) → is_among rows t ≡ b
        → (more : List Term) × (fold with_row (with_row rows t) ts ≡ rows ++ more)
    by on true e = let k = on rows in (k.0, ap (λ b. fold with_row (if b then rows else rows ++ t ∷ []) ts) e ∙ k.1)
    by on false e = let k = on (rows ++ t ∷ []) in (
      t ∷ k.0,
      ap (λ b. fold with_row (if b then rows else rows ++ t ∷ []) ts) e ∙ (k.1 ∙ append_assoc rows (t ∷ []) k.0),
    )

module _ (names : List (List ℕ)) (top : List Term) (once : AreOnce top) where
  abbrev Good : Term → Type 0
  Good u = IsSpelledTerm names u × (has_arguments u ≡ true)

  folded : (ts done rows : List Term) → fold with_row rows ts ≡ top → AreBehind done ts → ((u : Term) → is_among done u ≡ true → is_among rows u ≡ true)
      → All Good ts → AreShares names rows (map (share_text names top) rows) → AreShares names top (map (share_text names top) top)
  folded [] done rows e b h g a = subst (λ z. AreShares names z (map (share_text names top) z)) e a
  folded (t ∷ ts) done rows e b h g a = by (λ rs f k c. folded ts (done ++ t ∷ []) rs f b.1 k (All-tail Good t ts g) c) (is_among rows t) refl
    where
      by : ((rs : List Term) → fold with_row rs ts ≡ top → ((u : Term) → is_among (done ++ t ∷ []) u ≡ true → is_among rs u ≡ true)
          → AreShares names rs (map (share_text names top) rs) → AreShares names top (map (share_text names top) top)) → (v : Bool) → is_among rows t ≡ v
          → AreShares names top (map (share_text names top) top)
      by on true q =
          on rows (ap (λ v. fold with_row (if v then rows else rows ++ t ∷ []) ts) (sym q) ∙ e)
          (λ u m. pushed_cases done t u m (is_among rows u ≡ true) (h u) (λ r. subst (λ z. is_among rows z ≡ true) (sym r) q)) a
      by on false q =
          let f : fold with_row (rows ++ t ∷ []) ts ≡ top = ap (λ v. fold with_row (if v then rows else rows ++ t ∷ []) ts) (sym q) ∙ e in
          let k = fold_front ts (rows ++ t ∷ []) in
          let front : IsFront rows top = record { once = once; more = t ∷ k.0; is = sym f ∙ (k.1 ∙ append_assoc rows (t ∷ []) k.0) } in
          let x = All-head Good t ts g in
          on (rows ++ t ∷ []) f (λ u m. pushed_cases done t u m (is_among (rows ++ t ∷ []) u ≡ true) (λ n. among_left rows (t ∷ []) u (h u n))
          (λ r. subst (λ z. is_among (rows ++ t ∷ []) z ≡ true) (sym r) (among_pushed rows t)))
          (next_share rows (map (share_text names top) rows) t (share_text names top t) a
          (share_there names rows top t front x.0 x.1 (All-weaker (λ u. is_among done u ≡ true) (λ u. is_among rows u ≡ true) h (completed_arguments t)
          b.0)) refl (map-append (share_text names top) rows (t ∷ [])))

module _ (names : List (List ℕ)) where
  abbrev Fine : Term → Type 0
  Fine u = IsSpelledTerm names u × (has_arguments u ≡ true)

  mutual
    completed_fine : (t : Term) → IsSpelledTerm names t → All Fine (completed t)
    completed_fine (Var n) s = All-nil Fine
    completed_fine (Int z) s = All-nil Fine
    completed_fine (Con h) s = All-nil Fine
    completed_fine (Ap f a) s =
        let k = term_arguments names (Ap f a) s in
        All-append Fine (completed_arguments f ++ completed a) (Ap f a ∷ [])
        (All-append Fine (completed_arguments f) (completed a) (arguments_fine f k.0) (completed_fine a k.1))
        (All-cons Fine (Ap f a) [] (s, refl) (All-nil Fine))

    arguments_fine : (t : Term) → ArgumentsSpelled names t → All Fine (completed_arguments t)
    arguments_fine (Var n) s = All-nil Fine
    arguments_fine (Int z) s = All-nil Fine
    arguments_fine (Con h) s = All-nil Fine
    arguments_fine (Ap f a) s = All-append Fine (completed_arguments f) (completed a) (arguments_fine f s.0) (completed_fine a s.1)

  all_fine : (ts : List Term) → All (IsSpelledTerm names) ts → All Fine (flat_map completed ts)
  all_fine [] a = All-nil Fine
  all_fine (t ∷ ts) a = All-append Fine (completed t) (flat_map completed ts) (completed_fine t (All-head (IsSpelledTerm names) t ts a))
      (all_fine ts (All-tail (IsSpelledTerm names) t ts a))

  line_spelled : (x : Line) → IsSpelledLine names x → All (IsSpelledTerm names) (line_terms x)
  line_spelled (ExistsLine t) s = All-cons (IsSpelledTerm names) t [] s (All-nil (IsSpelledTerm names))
  line_spelled (ClauseLine n k ts ps) s = s.1.1.0
  line_spelled OneLine s = All-nil (IsSpelledTerm names)
  line_spelled EraseLine s = All-nil (IsSpelledTerm names)
  line_spelled (TensorLine a b) s = All-nil (IsSpelledTerm names)
  line_spelled WithLine s = All-nil (IsSpelledTerm names)
  line_spelled LeftLine s = All-nil (IsSpelledTerm names)
  line_spelled RightLine s = All-nil (IsSpelledTerm names)
  line_spelled BangLine s = All-nil (IsSpelledTerm names)
  line_spelled (LolliLine n) s = All-nil (IsSpelledTerm names)
  line_spelled (ImpLine n) s = All-nil (IsSpelledTerm names)
  line_spelled (ForallLine c) s = All-nil (IsSpelledTerm names)
  line_spelled UseLine s = All-nil (IsSpelledTerm names)
  line_spelled NumLine s = All-nil (IsSpelledTerm names)

  lines_spelled : (xs : List Line) → All (IsSpelledLine names) xs → All (IsSpelledTerm names) (flat_map line_terms xs)
  lines_spelled [] a = All-nil (IsSpelledTerm names)
  lines_spelled (x ∷ xs) a = All-append (IsSpelledTerm names) (line_terms x) (flat_map line_terms xs) (line_spelled x (All-head (IsSpelledLine names) x xs a))
      (lines_spelled xs (All-tail (IsSpelledLine names) x xs a))

-- a derivation's table, and its lines over it
pub record IsLaidOut (names : List (List ℕ)) (d : DerivationLines) : Type 0 where
  pub shares : List (List ℕ)
  pub lets : List (List ℕ)
  pub steps : List (List ℕ)
  pub are_rows : AreShares names (table d) shares
  pub are_asked : AreEach (IsLet names (table d)) d.asked lets
  pub are_nodes : AreEach (IsStep names (table d)) d.nodes steps
  pub spelled : All (IsSpelledTerm names) (table d)

laid_out : (names : List (List ℕ)) (d : DerivationLines) → All (IsSpelledTerm names) d.asked → All (IsSpelledLine names) d.nodes → IsLaidOut names d
unfolding table
laid_out names d s v =
    let top = table d in
    let cs = flat_map completed (field_terms d) in
    let once = table_once d in
    let front : IsFront top top = record { once = once; more = []; is = sym (append-nil top) } in
    let fine = all_fine names (field_terms d) (All-append (IsSpelledTerm names) d.asked (flat_map line_terms d.nodes) s (lines_spelled names d.nodes v)) in
    let among : AreAmong top cs = All-weaker (λ u. is_among cs u ≡ true) (λ u. is_among top u ≡ true) (λ u m. rows_in-among cs u ∙ m) cs (are_themselves [] cs)
    in
    let parts = subst (AreAmong top) (flat_map-append completed d.asked (flat_map line_terms d.nodes)) among in
    let rows = folded names top once cs [] [] refl (all_behind (field_terms d) []) (λ u m. m) fine (no_shares refl refl) in
    record {
      shares = map (share_text names top) top;
      lets = map (let_text_by (short_field names top)) d.asked;
      steps = map (node_text_by (short_field names top)) d.nodes;
      are_rows = rows;
      are_asked = lets_there names top d.asked front (left (λ u. is_among top u ≡ true) (flat_map completed d.asked)
          (flat_map completed (flat_map line_terms d.nodes)) parts);
      are_nodes = steps_there names top d.nodes front (right (λ u. is_among top u ≡ true) (flat_map completed d.asked)
          (flat_map completed (flat_map line_terms d.nodes)) parts);
      spelled = fold_all (IsSpelledTerm names) cs [] (All-weaker (λ u. IsSpelledTerm names u × (has_arguments u ≡ true)) (IsSpelledTerm names) (λ u k. k.0) cs
          fine) (All-nil (IsSpelledTerm names));
    }
  where
    fold_all : (P : Term → Type 0) (ts rows : List Term) → All P ts → All P rows → All P (fold with_row rows ts)
    fold_all P [] rows a b = b
    fold_all P (t ∷ ts) rows a b = fold_all P ts (with_row rows t) (All-tail P t ts a) (by (is_among rows t))
      where
        by : (v : Bool) → All P (if v then rows else rows ++ t ∷ [])
        by true = b
        by false = All-push P rows t b (All-head P t ts a)

-- ---- its lines are those of the text

stands_free : (names : List (List ℕ)) (rows : List Term) (t : Term) (w : List ℕ) → length rows < 2 ^ 64 → IsSpelledTerm names t → StandsFor names rows t w
    → HasNoEnd w
stands_free names rows t w l s (itself b e) = subst HasNoEnd (sym e) (word_free (term_text names t) (bare_shape t) (bare_word names t b s))
stands_free names rows t w l s (by_row k g e) = subst HasNoEnd (sym e)
    (joined (codes "@") (decimal k) refl (number_free k (let h = slice_get_within rows k t g in omega arith)))

cells_free : (names : List (List ℕ)) (rows ts : List Term) (w : List ℕ) → length rows < 2 ^ 64 → All (IsSpelledTerm names) ts → AreCells names rows ts w
    → HasNoEnd w
cells_free names rows ts w l s no_cells = refl
cells_free names rows ts w l s (next_cell {t = t} {ts = us} {text = x} {rest = rest} c cs) =
    joined (32 ∷ x) rest (joined (codes " ") x refl (stands_free names rows t x l (All-head (IsSpelledTerm names) t us s) c))
    (cells_free names rows us rest l (All-tail (IsSpelledTerm names) t us s) cs)

head_free : (names : List (List ℕ)) (h : Head) (n : ℕ) → IsPlainHead names h ⊎ (IsTrue (is_cons_head names h) × (n ≡ 1)) → HasNoEnd (head_text names h)
head_free names h n (inl p) = word_free (head_text names h) Bare (head_word names h p)
head_free names h n (inr c) = ap (list_all (is_not 10)) (cons_text names h c.0)

share_full : (names : List (List ℕ)) (rows : List Term) (t : Term) (l : List ℕ) → length rows < 2 ^ 64 → IsSpelledTerm names t → IsShare names rows t l
    → IsFull l
share_full names rows t l few s i =
    let args = app_arguments names i.head (i.first ∷ i.others) (subst (IsSpelledTerm names) i.is s) in
    subst IsFull (sym i.text) (
      joined (codes "share") (32 ∷ head_text names i.head ++ i.cells) refl
          (joined (32 ∷ head_text names i.head) i.cells (joined (codes " ") (head_text names i.head) refl (head_free names i.head (length i.others) i.fits))
          (cells_free names rows (i.first ∷ i.others) i.cells few args i.shown)),
      full _ _,
    )

full_join : (xs ys : List (List ℕ)) → AreFull xs → AreFull ys → AreFull (xs ++ ys)
full_join [] ys a b = b
full_join (x ∷ xs) ys a b = (a.0, full_join xs ys a.1 b)

shares_full : (names : List (List ℕ)) (rows : List Term) (ls : List (List ℕ)) → length rows < 2 ^ 64 → All (IsSpelledTerm names) rows → AreShares names rows ls
    → AreFull ls
shares_full names rows ls few s (no_shares a b) = subst AreFull (sym b) tt
shares_full names rows ls few s (next_share before above t line x i a b) =
    let h = subst (All (IsSpelledTerm names)) a s in
    let n = ap length a in
    let m = length-append before (t ∷ []) in
    subst AreFull (sym b) (full_join above (line ∷ []) (shares_full names before above (omega arith) (left (IsSpelledTerm names) before (t ∷ []) h) x)
    (share_full names before t line (omega arith) (All-head (IsSpelledTerm names) t [] (right (IsSpelledTerm names) before (t ∷ []) h)) i, tt))

lets_full2 : (names : List (List ℕ)) (rows ts : List Term) (ls : List (List ℕ)) → length rows < 2 ^ 64 → All (IsSpelledTerm names) ts
    → AreEach (IsLet names rows) ts ls → AreFull ls
lets_full2 names rows [] [] few s a = tt
lets_full2 names rows [] (l ∷ ls) few s a = absurd a
lets_full2 names rows (t ∷ ts) [] few s a = absurd a
lets_full2 names rows (t ∷ ts) (l ∷ ls) few s a = (
  subst IsFull (sym a.0.is) (
    joined (codes "let ") a.0.text refl (stands_free names rows t a.0.text few (All-head (IsSpelledTerm names) t ts s) a.0.stands),
    full _ _,
  ),
  lets_full2 names rows ts ls few (All-tail (IsSpelledTerm names) t ts s) a.1,
)

step_full : (names : List (List ℕ)) (rows : List Term) (x : Line) (l : List ℕ) → length rows < 2 ^ 64 → IsSpelledLine names x → IsStep names rows x l → IsFull l
step_full names rows (ExistsLine t) l few s i = subst IsFull (sym i.is) (
  joined (codes "exists ") i.text refl (stands_free names rows t i.text few s i.stands),
  full _ _,
)
step_full names rows (ClauseLine n k ts ps) l few s i =
    subst IsFull (sym i.is) (
      joined (codes "clause") (field (decimal n) ++ (field (decimal k) ++ (i.cells ++ flat_map part_field ps))) refl
          (joined (field (decimal n)) (field (decimal k) ++ (i.cells ++ flat_map part_field ps)) (joined (codes " ") (decimal n) refl (small_free n s.0))
          (joined (field (decimal k)) (i.cells ++ flat_map part_field ps) (joined (codes " ") (decimal k) refl (small_free k s.1.0))
          (joined i.cells (flat_map part_field ps) (cells_free names rows ts i.cells few s.1.1.0 i.shown) (parts_free ps s.1.1.1)))),
      full _ _,
    )
step_full names rows OneLine l few s i = subst IsFull (sym i) (node_full [] OneLine s)
step_full names rows EraseLine l few s i = subst IsFull (sym i) (node_full [] EraseLine s)
step_full names rows (TensorLine a b) l few s i = subst IsFull (sym i) (node_full [] (TensorLine a b) s)
step_full names rows WithLine l few s i = subst IsFull (sym i) (node_full [] WithLine s)
step_full names rows LeftLine l few s i = subst IsFull (sym i) (node_full [] LeftLine s)
step_full names rows RightLine l few s i = subst IsFull (sym i) (node_full [] RightLine s)
step_full names rows BangLine l few s i = subst IsFull (sym i) (node_full [] BangLine s)
step_full names rows (LolliLine n) l few s i = subst IsFull (sym i) (node_full [] (LolliLine n) s)
step_full names rows (ImpLine n) l few s i = subst IsFull (sym i) (node_full [] (ImpLine n) s)
step_full names rows (ForallLine n) l few s i = subst IsFull (sym i) (node_full [] (ForallLine n) s)
step_full names rows UseLine l few s i = subst IsFull (sym i) (node_full [] UseLine s)
step_full names rows NumLine l few s i = subst IsFull (sym i) (node_full [] NumLine s)

steps_full : (names : List (List ℕ)) (rows : List Term) (xs : List Line) (ls : List (List ℕ)) → length rows < 2 ^ 64 → All (IsSpelledLine names) xs
    → AreEach (IsStep names rows) xs ls → AreFull ls
steps_full names rows [] [] few s a = tt
steps_full names rows [] (l ∷ ls) few s a = absurd a
steps_full names rows (x ∷ xs) [] few s a = absurd a
steps_full names rows (x ∷ xs) (l ∷ ls) few s a = (
  step_full names rows x l few (All-head (IsSpelledLine names) x xs s) a.0,
  steps_full names rows xs ls few (All-tail (IsSpelledLine names) x xs s) a.1,
)

-- each line has a byte at least
lines_few : (ls : List (List ℕ)) → length ls ≤ length (flat_map with_end ls)
lines_few [] = omega arith
lines_few (l ∷ ls) = let h = lines_few ls in let a = length-append (with_end l) (flat_map with_end ls) in let b = length-append l (10 ∷ []) in omega arith

module _ (names : List (List ℕ)) (text : List ℕ) (d : DerivationLines) (t : IsText2Of names text d) (short : length text < 2 ^ 64) where
  out : IsLaidOut names d
  out = laid_out names d t.spelled.asked t.spelled.nodes

  abbrev its : List (List ℕ)
  its = codes "proof 2" ∷ (out.shares ++ (out.lets ++ (out.steps ++ [])))

  its_text : flat_map with_end its ≡ proof_text2 names d
  its_text = lines_text names (table d) d out.shares out.lets out.steps refl out.are_rows out.are_asked out.are_nodes

  long : length (proof_text2 names d) ≤ length text + 1
  long = by t.is
    where
      by : (text ≡ proof_text2 names d) ⊎ (text ++ 10 ∷ [] ≡ proof_text2 names d) → length (proof_text2 names d) ≤ length text + 1
      by (inl e) = let l = ap length e in omega arith
      by (inr e) = let l = ap length e in let k = length-append text (10 ∷ []) in omega arith

  few : length (table d) < 2 ^ 64
  few =
      let a = rows_many names (table d) out.shares out.are_rows in
      let b = lines_few its in
      let c = ap length its_text in
      let e = length-append out.shares (out.lets ++ (out.steps ++ [])) in
      let f = long in
      omega arith

  its_full : AreFull its
  its_full = (
    (refl, full _ _),
    full_join out.shares (out.lets ++ (out.steps ++ [])) (shares_full names (table d) out.shares few out.spelled out.are_rows)
        (full_join out.lets (out.steps ++ []) (lets_full2 names (table d) d.asked out.lets few t.spelled.asked out.are_asked)
        (full_join out.steps [] (steps_full names (table d) d.nodes out.steps few t.spelled.nodes out.are_nodes) tt)),
  )

  its_lines : text_lines text ≡ its
  its_lines = by t.is
    where
      by : (text ≡ proof_text2 names d) ⊎ (text ++ 10 ∷ [] ≡ proof_text2 names d) → text_lines text ≡ its
      by (inl e) = ap text_lines (e ∙ sym its_text) ∙ lines_of_ended its its_full
      by (inr e) = lines_of_open its text its_full (e ∙ sym its_text)

  -- the text is laid out in these lines, over a table of fewer than 2^64 rows
  pub record HasLayout : Type 0 where
    pub laid : IsLaidOut names d
    pub lines : text_lines text ≡ codes "proof 2" ∷ (laid.shares ++ (laid.lets ++ (laid.steps ++ [])))
    pub few : length (table d) < 2 ^ 64

  pub its_layout : HasLayout
  its_layout = record { laid = out; lines = its_lines; few = few }

  pub text2_begins : BeginsOver (text_lines text) [] 0
  text2_begins = record {
    names = names;
    rows = table d;
    asked = d.asked;
    nodes = d.nodes;
    shares = out.shares;
    lets = out.lets;
    steps = out.steps;
    is = its_lines;
    are_rows = out.are_rows;
    are_asked = out.are_asked;
    are_nodes = out.are_nodes;
    closed = t.spelled.whole.asked;
    ordered = t.spelled.whole.nodes;
    spelled_rows = out.spelled;
    spelled_terms = t.spelled.asked;
    spelled_nodes = t.spelled.nodes;
    still = trees_missing d.nodes (t.spelled.whole.tree ∷ []) t.spelled.whole.is_tree;
  }

  -- the text of a derivation has no fault
  pub no_fault2 : IsDistinct bytes_eq names → (f : Fault) → HasFault2 text f → ⊥
  unfolding text2_begins
  no_fault2 distinct f a = by (fault_of text f a)
    where
      lines_short : length (text_lines text) < 2 ^ 64
      lines_short = let h = text_lines_few text in omega arith

      by : IsFaultOf text f → ⊥
      by (of_line x) = let q : Some f ≡ None = comes2_once (text_lines text) (place_at text (length text)) (Some f) None lines_short x
          (whole_comes text text2_begins) in cc
      by (of_row k c e h q) = h.off (row_common (text_lines text) lines_short text2_begins c distinct e k refl)

-- the text is that of one derivation
pub one_text2 : (names : List (List ℕ)) → IsDistinct bytes_eq names → (text : List ℕ) → length text < 2 ^ 64 → (d e : DerivationLines) → IsText2Of names text d
    → IsText2Of names text e → d ≡ e
unfolding text2_begins
one_text2 names distinct text short d e x y =
    let lines_short : length (text_lines text) < 2 ^ 64 = let h = text_lines_few text in omega arith in
    let b = text2_begins names text d x short in
    let c = text2_begins names text e y short in
    let like = rows_like (text_lines text) lines_short b c distinct distinct in
    let rows : table d ≡ table e = all_alike_are names distinct (table d) (table e) like in
    let asked : d.asked ≡ e.asked = all_alike_are names distinct d.asked e.asked (asked_like (text_lines text) lines_short b c distinct distinct) in
    let steps = subst (AreEach (IsStep names (table d)) d.nodes) (same_steps (text_lines text) lines_short b c) b.are_nodes in
    let nodes : d.nodes ≡ e.nodes =
    steps_once names distinct (table e) (subst (λ z. AlikeAll names names z (table e)) rows like) (few names text e y short) d.nodes e.nodes c.steps
    x.spelled.nodes y.spelled.nodes (subst (λ z. AreEach (IsStep names z) d.nodes c.steps) rows steps) c.are_nodes
    in
    λ i. record { asked = asked i; nodes = nodes i }

-- over any names what the text is read as has one text of version 1
pub same_text : (names ms : List (List ℕ)) → IsDistinct bytes_eq names → IsDistinct bytes_eq ms → (text : List ℕ) → length text < 2 ^ 64
    → (d e : DerivationLines) → IsText2Of names text d → IsText2Of ms text e → proof_text names d ≡ proof_text ms e
unfolding text2_begins
same_text names ms one two text short d e x y =
    let lines_short : length (text_lines text) < 2 ^ 64 = let h = text_lines_few text in omega arith in
    let b = text2_begins names text d x short in
    let c = text2_begins ms text e y short in
    let like = rows_like (text_lines text) lines_short b c one two in
    let lets = same_lets names ms d.asked e.asked (asked_like (text_lines text) lines_short b c one two) in
    let steps = subst (AreEach (IsStep names b.rows) d.nodes) (same_steps (text_lines text) lines_short b c) b.are_nodes in
    let nodes = same_nodes names ms one two b.rows c.rows like (rows_few (text_lines text) lines_short b c) d.nodes e.nodes c.steps x.spelled.nodes
    y.spelled.nodes steps c.are_nodes in
    ap (λ z. with_end (codes "proof 1") ++ z ++ flat_map (λ n. with_end (node_text names n)) d.nodes) lets
    ∙ ap (λ z. with_end (codes "proof 1") ++ flat_map (λ t. with_end (codes "let" ++ term_field ms t)) e.asked ++ z) nodes

-- a text of version 1, written as version 2 and read over any names, is a text of what was read
pub there_and_back : (names ms : List (List ℕ)) (text : List ℕ) (d e : DerivationLines) → IsDistinct bytes_eq names → IsDistinct bytes_eq ms
    → length (proof_text2 names d) < 2 ^ 64 → IsTextOf names text d → IsText2Of ms (proof_text2 names d) e → IsTextOf ms text e
there_and_back names ms text d e one two short x y =
    let same = same_text names ms one two (proof_text2 names d) short d e (record { spelled = x.spelled; is = inl refl }) y in
    record { spelled = y.spelled; is = subst (λ z. (text ≡ z) ⊎ (text ++ 10 ∷ [] ≡ z)) same x.is }
