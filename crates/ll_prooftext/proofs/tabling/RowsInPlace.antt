-- Rows that are those of a table, and texts over them.
use Rattle.std.proofs.Common.{◌≡◌, ℕ, zero, suc, ◌+◌, ◌<◌, ◌≤◌, Bool, true, false, ◌||◌, if◌then◌else◌, List, [], ◌∷◌, ◌++◌, length, take, fold, refl, ap, sym}
use Rattle.std.proofs.Common.{subst, ◌∙◌, arith, append_assoc, append-nil, codes, decimal, Some, true≢false, cond, not, inl, inr}
use Rattle.std.specs.Prelude.{◌⊎◌}
use Rattle.std.specs.List.{flat_map, slice_get}
use Rattle.std.proofs.Math.Bool.{or-true}
use Rattle.std.proofs.lemmas.List.{take_all}
use Rattle.std.proofs.lemmas.List.Concat.{flat_map-append}
use Rattle.std.proofs.lemmas.List.Elements.{All-nil, All-cons, All-head, All-tail, All-append}
use Rattle.ll_bank.specs.Term.{Term}
use Rattle.ll_laws.specs.Fault.{term_eq}
use Rattle.ll_laws.specs.Line.{Line, OneLine, EraseLine, TensorLine, WithLine, LeftLine, RightLine, BangLine, UseLine, LolliLine, ImpLine, ForallLine}
use Rattle.ll_laws.specs.Line.{ExistsLine, ClauseLine, NumLine, DerivationLines}
use Rattle.ll_laws.specs.Output.{line as with_end, head_text, has_arguments}
use Rattle.ll_laws.specs.ProofText.{field, part_field}
use Rattle.ll_laws.proofs.CallerLemmas.{term_eq-true, term_eq-refl}
use Rattle.ll_prooftext.specs.Table.{completed, completed_arguments, is_among, with_row, row_of, table, line_terms, field_terms}
use Rattle.ll_prooftext.specs.ProofText2.{short_field, share_line, spine_text, let_text_by, node_text_by, proof_text2}
use Rattle.ll_prooftext.specs.Sharing.{StandsFor, itself, by_row, AreCells, no_cells, next_cell}
use Rattle.ll_prooftext.specs.Sharing.{IsShare, AreShares, no_shares, next_share, IsLet, IsStep, AreEach}
use Rattle.ll_prooftext.proofs.spelling.Extended.{app_has}
use Rattle.ll_prooftext.proofs.writing.ShortLines.{spine_app, field_by_row, field_itself, text2_is}
use Rattle.ll_prooftext.proofs.tabling.TableTerms.{AreAmong, among-append, rows_in-among, wider, completed_is, completed_bare, arguments_app, row_kept}
use Rattle.ll_prooftext.proofs.tabling.TableTerms.{row_new, found_below}

-- ---- rows that differ

-- each term is in one row
abbrev pub AreOnce : List Term → Type 0
AreOnce rows = (k : ℕ) (t : Term) → slice_get rows k ≡ Some t → row_of rows t ≡ k

pub get_front : (xs ys : List Term) (k : ℕ) (t : Term) → slice_get xs k ≡ Some t → slice_get (xs ++ ys) k ≡ Some t
get_front [] ys k t e = absurd cc
get_front (x ∷ xs) ys zero t e = e
get_front (x ∷ xs) ys (suc k) t e = get_front xs ys k t e

pub there_among : (rows : List Term) (k : ℕ) (t : Term) → slice_get rows k ≡ Some t → is_among rows t ≡ true
there_among [] k t e = absurd cc
there_among (r ∷ rows) zero t e = let q : r ≡ t = cc in ap (λ b. b || is_among rows t) (ap (term_eq t) q ∙ term_eq-refl t)
there_among (r ∷ rows) (suc k) t e = or_right (term_eq t r) (there_among rows k t e)
  where
    or_right : (a : Bool) {b : Bool} → b ≡ true → (a || b) ≡ true
    or_right true h = refl
    or_right false h = h

pub row_there : (rows : List Term) (t : Term) → is_among rows t ≡ true → slice_get rows (row_of rows t) ≡ Some t
row_there [] t h = absurd (true≢false (sym h))
row_there (r ∷ rows) t h = by (λ g. row_there rows t g) (term_eq t r) refl h
  where
    by : (is_among rows t ≡ true → slice_get rows (row_of rows t) ≡ Some t) → (b : Bool) → term_eq t r ≡ b → (b || is_among rows t) ≡ true
        → slice_get (r ∷ rows) (cond (not b) (1 + row_of rows t) 0) ≡ Some t
    by more true e g = ap (λ x. Some x) (sym (term_eq-true t r e))
    by more false e g = ap (slice_get (r ∷ rows)) (let q : 1 + row_of rows t ≡ suc (row_of rows t) = omega arith in q) ∙ more g

-- what stands in a list behind one more
push_cases : (rows : List Term) (t : Term) (k : ℕ) (u : Term) → slice_get (rows ++ t ∷ []) k ≡ Some u → (P : Type 0) → (slice_get rows k ≡ Some u → P)
    → (k ≡ length rows → u ≡ t → P) → P
push_cases [] t zero u e P f g = g refl (let q : t ≡ u = cc in sym q)
push_cases [] t (suc k) u e P f g = absurd cc
push_cases (r ∷ rows) t zero u e P f g = f e
push_cases (r ∷ rows) t (suc k) u e P f g = push_cases rows t k u e P f (λ q. g (ap suc q))

once_more : (rows : List Term) (t : Term) → AreOnce rows → AreOnce (with_row rows t)
once_more rows t o = by (is_among rows t) refl
  where
    by : (b : Bool) → is_among rows t ≡ b → AreOnce (if b then rows else rows ++ t ∷ [])
    by true e k u g = o k u g
    by false e k u g = push_cases rows t k u g (row_of (rows ++ t ∷ []) u ≡ k) (λ h. row_kept rows t u (there_among rows k u h) ∙ o k u h)
        (λ q r. ap (row_of (rows ++ t ∷ [])) r ∙ (row_new rows t e ∙ sym q))

once_all : (ts rows : List Term) → AreOnce rows → AreOnce (fold with_row rows ts)
once_all [] rows o = o
once_all (t ∷ ts) rows o = once_all ts (with_row rows t) (once_more rows t o)

pub table_once : (d : DerivationLines) → AreOnce (table d)
unfolding table
table_once d = once_all (flat_map completed (field_terms d)) [] (λ k t e. absurd cc)

-- ---- rows that hold all terms

-- what a text stands for is in a row, with all that it completes
stands_among : (names : List (List ℕ)) (rows : List Term) (t : Term) (text : List ℕ) → ((u : Term) → is_among rows u ≡ true → AreAmong rows (completed u))
    → StandsFor names rows t text → AreAmong rows (completed t)
stands_among names rows t text h (itself b e) = subst (AreAmong rows) (sym (completed_bare t b)) (All-nil (λ u. is_among rows u ≡ true))
stands_among names rows t text h (by_row k g e) = h t (there_among rows k t g)

cells_among : (names : List (List ℕ)) (rows ts : List Term) (text : List ℕ) → ((u : Term) → is_among rows u ≡ true → AreAmong rows (completed u))
    → AreCells names rows ts text → AreAmong rows (flat_map completed ts)
cells_among names rows ts text h no_cells = All-nil (λ u. is_among rows u ≡ true)
cells_among names rows ts text h (next_cell {t = t} {ts = others} {text = w} {rest = rest} s f) =
    All-append (λ u. is_among rows u ≡ true) (completed t) (flat_map completed others) (stands_among names rows t w h s)
    (cells_among names rows others rest h f)

pub among_pushed : (rows : List Term) (t : Term) → is_among (rows ++ t ∷ []) t ≡ true
among_pushed rows t = among-append rows (t ∷ []) t ∙ ap (λ b. is_among rows t || (b || false)) (term_eq-refl t) ∙ or-true (is_among rows t)

pub pushed_cases : (rows : List Term) (t u : Term) → is_among (rows ++ t ∷ []) u ≡ true → (P : Type 0) → (is_among rows u ≡ true → P) → (u ≡ t → P) → P
pushed_cases rows t u h P f g = by (is_among rows u) refl (term_eq u t) refl (sym (among-append rows (t ∷ []) u) ∙ h)
  where
    by : (a : Bool) → is_among rows u ≡ a → (b : Bool) → term_eq u t ≡ b → (a || (b || false)) ≡ true → P
    by true e b k m = f e
    by false e true k m = g (term_eq-true u t k)
    by false e false k m = absurd (true≢false (sym m))

-- a row's arguments are in rows before it
pub rows_closed : (names : List (List ℕ)) (rows : List Term) (lines : List (List ℕ)) → AreShares names rows lines → (u : Term) → is_among rows u ≡ true
    → AreAmong rows (completed u)
rows_closed names rows lines (no_shares e f) u h = absurd (true≢false (sym h ∙ ap (λ rs. is_among rs u) e))
rows_closed names rows lines (next_share before above t line s i e f) u h =
    subst (λ rs. AreAmong rs (completed u)) (sym e)
    (pushed_cases before t u (ap (λ rs. is_among rs u) (sym e) ∙ h) (AreAmong (before ++ t ∷ []) (completed u))
    (λ m. wider before (t ∷ []) (completed u) (rows_closed names before above s u m))
    (λ q. subst (λ z. AreAmong (before ++ t ∷ []) (completed z)) (sym q) (own (rows_closed names before above s))))
  where
    whole : completed t ≡ flat_map completed (i.first ∷ i.others) ++ t ∷ []
    whole = completed_is t (ap has_arguments i.is ∙ app_has i.head i.first i.others)
        ∙ ap (λ z. z ++ t ∷ []) (ap completed_arguments i.is ∙ arguments_app i.head (i.first ∷ i.others))

    own : ((v : Term) → is_among before v ≡ true → AreAmong before (completed v)) → AreAmong (before ++ t ∷ []) (completed t)
    own inner = subst (AreAmong (before ++ t ∷ [])) (sym whole)
        (All-append (λ u. is_among (before ++ t ∷ []) u ≡ true) (flat_map completed (i.first ∷ i.others)) (t ∷ [])
        (wider before (t ∷ []) (flat_map completed (i.first ∷ i.others)) (cells_among names before (i.first ∷ i.others) i.cells inner i.shown))
        (All-cons (λ u. is_among (before ++ t ∷ []) u ≡ true) t [] (among_pushed before t) (All-nil (λ u. is_among (before ++ t ∷ []) u ≡ true))))

lets_among : (names : List (List ℕ)) (rows ts : List Term) (lines : List (List ℕ)) → ((u : Term) → is_among rows u ≡ true → AreAmong rows (completed u))
    → AreEach (IsLet names rows) ts lines → AreAmong rows (flat_map completed ts)
lets_among names rows [] [] h a = All-nil (λ u. is_among rows u ≡ true)
lets_among names rows [] (l ∷ ls) h a = absurd a
lets_among names rows (t ∷ ts) [] h a = absurd a
lets_among names rows (t ∷ ts) (l ∷ ls) h a = All-append (λ u. is_among rows u ≡ true) (completed t) (flat_map completed ts)
    (stands_among names rows t a.0.text h a.0.stands) (lets_among names rows ts ls h a.1)

none_among : (rows : List Term) → AreAmong rows []
none_among rows = All-nil (λ u. is_among rows u ≡ true)

step_among : (names : List (List ℕ)) (rows : List Term) (n : Line) (l : List ℕ) → ((u : Term) → is_among rows u ≡ true → AreAmong rows (completed u))
    → IsStep names rows n l → AreAmong rows (flat_map completed (line_terms n))
step_among names rows (ExistsLine t) l h s = All-append (λ u. is_among rows u ≡ true) (completed t) [] (stands_among names rows t s.text h s.stands)
    (none_among rows)
step_among names rows (ClauseLine n k ts ps) l h s = cells_among names rows ts s.cells h s.shown
step_among names rows OneLine l h s = none_among rows
step_among names rows EraseLine l h s = none_among rows
step_among names rows (TensorLine a b) l h s = none_among rows
step_among names rows WithLine l h s = none_among rows
step_among names rows LeftLine l h s = none_among rows
step_among names rows RightLine l h s = none_among rows
step_among names rows BangLine l h s = none_among rows
step_among names rows (LolliLine n) l h s = none_among rows
step_among names rows (ImpLine n) l h s = none_among rows
step_among names rows (ForallLine c) l h s = none_among rows
step_among names rows UseLine l h s = none_among rows
step_among names rows NumLine l h s = none_among rows

steps_among : (names : List (List ℕ)) (rows : List Term) (ns : List Line) (lines : List (List ℕ))
    → ((u : Term) → is_among rows u ≡ true → AreAmong rows (completed u)) → AreEach (IsStep names rows) ns lines
    → AreAmong rows (flat_map completed (flat_map line_terms ns))
steps_among names rows [] [] h a = none_among rows
steps_among names rows [] (l ∷ ls) h a = absurd a
steps_among names rows (n ∷ ns) [] h a = absurd a
steps_among names rows (n ∷ ns) (l ∷ ls) h a =
    subst (AreAmong rows) (sym (flat_map-append completed (line_terms n) (flat_map line_terms ns)))
    (All-append (λ u. is_among rows u ≡ true) (flat_map completed (line_terms n)) (flat_map completed (flat_map line_terms ns))
    (step_among names rows n l h a.0) (steps_among names rows ns ls h a.1))

among_all : (rows ts : List Term) (u : Term) → AreAmong rows ts → is_among ts u ≡ true → is_among rows u ≡ true
among_all rows [] u h m = absurd (true≢false (sym m))
among_all rows (t ∷ ts) u h m = by (term_eq u t) refl m (among_all rows ts u (All-tail (λ v. is_among rows v ≡ true) t ts h))
  where
    by : (b : Bool) → term_eq u t ≡ b → (b || is_among ts u) ≡ true → (is_among ts u ≡ true → is_among rows u ≡ true) → is_among rows u ≡ true
    by true e g more = subst (λ v. is_among rows v ≡ true) (sym (term_eq-true u t e)) (All-head (λ v. is_among rows v ≡ true) t ts h)
    by false e g more = more g

-- each term of the table is in a row
pub table_among : (names : List (List ℕ)) (rows : List Term) (d : DerivationLines) (shares lets steps : List (List ℕ)) → AreShares names rows shares
    → AreEach (IsLet names rows) d.asked lets → AreEach (IsStep names rows) d.nodes steps → (u : Term) → is_among (table d) u ≡ true → is_among rows u ≡ true
unfolding table
table_among names rows d shares lets steps a b c u m =
    let h = rows_closed names rows shares a in
    let all : AreAmong rows (flat_map completed (field_terms d)) =
    subst (AreAmong rows) (sym (flat_map-append completed d.asked (flat_map line_terms d.nodes)))
    (All-append (λ u. is_among rows u ≡ true) (flat_map completed d.asked) (flat_map completed (flat_map line_terms d.nodes))
    (lets_among names rows d.asked lets h b) (steps_among names rows d.nodes steps h c)) in
    among_all rows (flat_map completed (field_terms d)) u all (sym (rows_in-among (flat_map completed (field_terms d)) u) ∙ m)

get_taken : (n : ℕ) (xs : List Term) (k : ℕ) (t : Term) → slice_get (take n xs) k ≡ Some t → slice_get xs k ≡ Some t
get_taken zero xs k t e = absurd cc
get_taken (suc n) [] k t e = e
get_taken (suc n) (x ∷ xs) zero t e = e
get_taken (suc n) (x ∷ xs) (suc k) t e = get_taken n xs k t e

some_there : (xs : List Term) (k : ℕ) → k < length xs → (t : Term) × (slice_get xs k ≡ Some t)
some_there [] k l = absurd (omega arith)
some_there (x ∷ xs) zero l = (x, refl)
some_there (x ∷ xs) (suc k) l = some_there xs k (omega arith)

below_or : (n m : ℕ) → (n ≤ m) ⊎ (m < n)
below_or zero m = inl (omega arith)
below_or (suc n) zero = inr (omega arith)
below_or (suc n) (suc m) = by (below_or n m)
  where
    by : (n ≤ m) ⊎ (m < n) → (suc n ≤ suc m) ⊎ (suc m < suc n)
    by (inl h) = inl (omega arith)
    by (inr h) = inr (omega arith)

-- rows that begin a table and hold all its terms are the table
pub rows_whole : (rows table : List Term) → AreOnce table → ((u : Term) → is_among table u ≡ true → is_among rows u ≡ true) → rows ≡ take (length rows) table
    → rows ≡ table
rows_whole rows table once all e = by_length (length table) refl
  where
    past : length rows < length table → ⊥
    past l =
        let s = some_there table (length rows) l in
        let m = all s.0 (there_among table (length rows) s.0 s.1) in
        let g = get_taken (length rows) table (row_of rows s.0) s.0 (ap (λ z. slice_get z (row_of rows s.0)) (sym e) ∙ row_there rows s.0 m) in
        let p : row_of table s.0 ≡ row_of rows s.0 = once (row_of rows s.0) s.0 g in
        let q : row_of table s.0 ≡ length rows = once (length rows) s.0 s.1 in
        let b = found_below rows s.0 m in
        omega arith

    within : (n : ℕ) → length table ≡ n → n ≤ length rows → rows ≡ table
    within n l h = e ∙ take_all (length rows) table (omega arith)

    by_length : (n : ℕ) → length table ≡ n → rows ≡ table
    by_length n l = by_case (below_or n (length rows))
      where
        by_case : (n ≤ length rows) ⊎ (length rows < n) → rows ≡ table
        by_case (inl h) = within n l h
        by_case (inr h) = absurd (past (omega arith))

-- ---- the text over the table

rows_have : (names : List (List ℕ)) (rows : List Term) (lines : List (List ℕ)) → AreShares names rows lines → (k : ℕ) (t : Term) → slice_get rows k ≡ Some t
    → has_arguments t ≡ true
rows_have names rows lines (no_shares e f) k t g = let x : slice_get [] k ≡ Some t = ap (λ rs. slice_get rs k) (sym e) ∙ g in absurd cc
rows_have names rows lines (next_share before above u line s i e f) k t g =
    push_cases before u k t (ap (λ rs. slice_get rs k) (sym e) ∙ g) (has_arguments t ≡ true) (rows_have names before above s k t)
    (λ q r. ap has_arguments (r ∙ i.is) ∙ app_has i.head i.first i.others)

module _ (names : List (List ℕ)) (rows : List Term) (once : AreOnce rows) where
  -- rows in front of more
  abbrev AreFront : List Term → Type 0
  AreFront before = (k : ℕ) (t : Term) → slice_get before k ≡ Some t → (slice_get rows k ≡ Some t) × (has_arguments t ≡ true)

  stands_text : (before : List Term) (t : Term) (text : List ℕ) → AreFront before → StandsFor names before t text → field text ≡ short_field names rows t
  stands_text before t text f (itself b e) = ap field e ∙ field_itself names rows t b
  stands_text before t text f (by_row k g e) = ap field e ∙ (ap (λ j. codes " @" ++ decimal j) (sym (once k t (f k t g).0))
      ∙ field_by_row names rows t (f k t g).1)

  cells_text : (before ts : List Term) (text : List ℕ) → AreFront before → AreCells names before ts text → text ≡ flat_map (short_field names rows) ts
  cells_text before ts text f no_cells = refl
  cells_text before ts text f (next_cell {t = t} {ts = others} {text = w} {rest = rest} s c) =
      ap (λ z. z ++ rest) (stands_text before t w f s) ∙ ap (λ z. short_field names rows t ++ z) (cells_text before others rest f c)

  share_text : (before : List Term) (t : Term) (line : List ℕ) → AreFront before → IsShare names before t line
      → line ≡ codes "share" ++ field (spine_text names rows t)
  share_text before t line f i =
      i.text ∙ (ap (λ z. codes "share" ++ (field (head_text names i.head) ++ z)) (cells_text before (i.first ∷ i.others) i.cells f i.shown)
      ∙ ap (λ z. codes "share" ++ field z) (sym (ap (spine_text names rows) i.is ∙ spine_app names rows i.head (i.first ∷ i.others))))

  shares_text : (before : List Term) (lines : List (List ℕ)) → AreFront before → AreShares names before lines
      → flat_map with_end lines ≡ flat_map (share_line names rows) before
  shares_text before lines f (no_shares e g) = ap (flat_map with_end) g ∙ sym (ap (flat_map (share_line names rows)) e)
  shares_text before lines f (next_share above tops t line s i e g) =
      let front : AreFront above = λ k u h. f k u (ap (λ rs. slice_get rs k) e ∙ get_front above (t ∷ []) k u h) in
      ap (flat_map with_end) g
      ∙ (flat_map-append with_end tops (line ∷ [])
      ∙ (ap (λ z. z ++ (with_end line ++ [])) (shares_text above tops front s)
      ∙ (ap (λ z. flat_map (share_line names rows) above ++ (with_end z ++ [])) (share_text above t line front i)
      ∙ (sym (flat_map-append (share_line names rows) above (t ∷ [])) ∙ ap (flat_map (share_line names rows)) (sym e)))))

  lets_text : AreFront rows → (ts : List Term) (lines : List (List ℕ)) → AreEach (IsLet names rows) ts lines
      → flat_map with_end lines ≡ flat_map (λ t. with_end (let_text_by (short_field names rows) t)) ts
  lets_text f [] [] a = refl
  lets_text f [] (l ∷ ls) a = absurd a
  lets_text f (t ∷ ts) [] a = absurd a
  lets_text f (t ∷ ts) (l ∷ ls) a =
      let i = a.0 in
      let text : l ≡ let_text_by (short_field names rows) t = i.is ∙ ap (λ z. codes "let" ++ z) (stands_text rows t i.text f i.stands) in
      ap (λ z. with_end z ++ flat_map with_end ls) text ∙ ap (λ z. with_end (let_text_by (short_field names rows) t) ++ z) (lets_text f ts ls a.1)

  step_text : AreFront rows → (n : Line) (l : List ℕ) → IsStep names rows n l → l ≡ node_text_by (short_field names rows) n
  step_text f (ExistsLine t) l s = s.is ∙ ap (λ z. codes "exists" ++ z) (stands_text rows t s.text f s.stands)
  step_text f (ClauseLine n k ts ps) l s = s.is ∙ (ap (λ z. codes "clause" ++ (field (decimal n) ++ (field (decimal k) ++ (z ++ flat_map part_field ps))))
      (cells_text rows ts s.cells f s.shown) ∙ sym (regroup (codes "clause") (field (decimal n)) (field (decimal k)) (flat_map (short_field names rows) ts)
      (flat_map part_field ps)))
    where
      regroup : (a b c d e : List ℕ) → (((a ++ b) ++ c) ++ d) ++ e ≡ a ++ (b ++ (c ++ (d ++ e)))
      regroup a b c d e = simp append_assoc
  step_text f OneLine l s = s
  step_text f EraseLine l s = s
  step_text f (TensorLine a b) l s = s
  step_text f WithLine l s = s
  step_text f LeftLine l s = s
  step_text f RightLine l s = s
  step_text f BangLine l s = s
  step_text f (LolliLine n) l s = s
  step_text f (ImpLine n) l s = s
  step_text f (ForallLine c) l s = s
  step_text f UseLine l s = s
  step_text f NumLine l s = s

  steps_text : AreFront rows → (ns : List Line) (lines : List (List ℕ)) → AreEach (IsStep names rows) ns lines
      → flat_map with_end lines ≡ flat_map (λ n. with_end (node_text_by (short_field names rows) n)) ns
  steps_text f [] [] a = refl
  steps_text f [] (l ∷ ls) a = absurd a
  steps_text f (n ∷ ns) [] a = absurd a
  steps_text f (n ∷ ns) (l ∷ ls) a = ap (λ z. with_end z ++ flat_map with_end ls) (step_text f n l a.0)
      ∙ ap (λ z. with_end (node_text_by (short_field names rows) n) ++ z) (steps_text f ns ls a.1)

-- lines over rows that are the table are the text of the derivation
pub lines_text : (names : List (List ℕ)) (rows : List Term) (d : DerivationLines) (shares lets steps : List (List ℕ)) → rows ≡ table d
    → AreShares names rows shares → AreEach (IsLet names rows) d.asked lets → AreEach (IsStep names rows) d.nodes steps
    → flat_map with_end (codes "proof 2" ∷ (shares ++ (lets ++ (steps ++ [])))) ≡ proof_text2 names d
unfolding table
lines_text names rows d shares lets steps e a b c =
    let once : AreOnce rows = subst AreOnce (sym e) (table_once d) in
    let front : (k : ℕ) (t : Term) → slice_get rows k ≡ Some t
    → (slice_get rows k ≡ Some t) × (has_arguments t ≡ true) = λ k t g. (g, rows_have names rows shares a k t g) in
    ap (λ z. with_end (codes "proof 2") ++ z)
    (flat_map-append with_end shares (lets ++ (steps ++ []))
    ∙ (ap (λ z. flat_map with_end shares ++ z) (flat_map-append with_end lets (steps ++ [])
    ∙ ap (λ z. flat_map with_end lets ++ flat_map with_end z) (append-nil steps))
    ∙ (ap (λ z. z ++ (flat_map with_end lets ++ flat_map with_end steps)) (shares_text names rows once rows shares front a)
    ∙ (ap (λ z. flat_map (share_line names rows) rows ++ (z ++ flat_map with_end steps)) (lets_text names rows once front d.asked lets b)
    ∙ ap (λ z. flat_map (share_line names rows) rows ++ (flat_map (λ t. with_end (let_text_by (short_field names rows) t)) d.asked ++ z))
    (steps_text names rows once front d.nodes steps c)))))
    ∙ text2_is names d rows e
