-- What the table of the innermost binders says of names.
use Rattle.std.proofs.Common.{◌≡◌, ℕ, zero, suc, ◌+◌, ◌-◌, ◌<◌, ◌≤◌, Bool, true, false, eqb, ltb, ◌||◌, true≢false, List, [], ◌∷◌, ◌++◌, length, map, reverse}
use Rattle.std.proofs.Common.{slice_get, length-append, Option, Some, None, slice_set, slice_index_or, refl, sym, subst, ap, ◌∙◌, arith, if◌then◌else◌}
use Rattle.std.specs.Prelude.{is_some}
use Rattle.std.specs.List.{list_any, IsDistinct}
use Rattle.std.specs.Str.{bytes_eq}
use Rattle.std.proofs.lemmas.Bool.{false_from_ne_true}
use Rattle.std.proofs.lemmas.Bool.Decides.{Decides-eqb, Decides-ltb}
use Rattle.std.proofs.lemmas.List.{get_or-set_same, get_or-set_other, get_or_past, get_or_default, length-set, length-reverse, reverse-append}
use Rattle.std.proofs.lemmas.Option.{slice_get-get_or, get_or_from_slice_get}
use Rattle.std.proofs.lemmas.Slice.Eq.{bytes_eq-Decides}
use Rattle.ll_bank.specs.Names.{number_of}
use Rattle.ll_bank.proofs.CallerLemmas.{number_of-slice_get}
use Rattle.ll_polarity.specs.declared.scope.Innermost.{Innermost}
use Rattle.ll_polarity.specs.declared.scope.Row.{Row}
use Rattle.ll_polarity.specs.Scope.{Binder, Meaning, bound_by, unbound, is_variable, meaning, meaning_from, Scoped}
use Rattle.ll_polarity.specs.Binders.{scope_of, AreInnermost, AreKept}

pub not_below : (m n : ℕ) → ltb m n ≡ false → n ≤ m
not_below m n q = let h : m < n → ⊥ = λ l. true≢false (sym ((Decides-ltb m n).1 l) ∙ q) in omega arith

apart : (m n : ℕ) → eqb m n ≡ false → m ≡ n → ⊥
apart m n q e = let t = (Decides-eqb m n).1 e in true≢false (sym t ∙ q)

-- what is found in the table is within it
within : (table : List (Option Innermost)) (n : ℕ) (i : Innermost) → slice_index_or table n None ≡ Some i → n < length table
within table n i e = by (ltb n (length table)) refl
  where
    by : (b : Bool) → ltb n (length table) ≡ b → n < length table
    by true q = (Decides-ltb n (length table)).0 q
    by false q = let p : length table ≤ n = not_below n (length table) q in let none = get_or_past table n None p in absurd (cc)

-- an entry that is put back
set-back : {X : Type 0} (xs : List X) (i : ℕ) (a d : X) → slice_set (slice_set xs i a) i (slice_index_or xs i d) ≡ xs
set-back [] i a d = refl
set-back (x ∷ xs) zero a d = refl
set-back (x ∷ xs) (suc i) a d = ap (λ ys. x ∷ ys) (set-back xs i a d)

-- what a name means by its place in the table, k binders having been passed
abbrev pub by_table : Bool → ℕ → ℕ → Option Innermost → Meaning
by_table variable k n None = unbound variable
by_table variable k n (Some i) = bound_by i.local (k + (n - i.depth))

-- a place in the table is at most as deep as there are rows
pub depth-within : (table : List (Option Innermost)) (rows : List Row) (name : ℕ) (i : Innermost) → AreInnermost table rows
    → slice_index_or table name None ≡ Some i → i.depth ≤ length rows
depth-within table [] name i h e = let n = h name in absurd (cc)
depth-within table (r ∷ rs) name i h e = by (eqb name r.name) refl (λ f. depth-within (slice_set table r.name r.hidden) rs name i h.1 f)
  where
    by : (b : Bool) → eqb name r.name ≡ b → (slice_index_or (slice_set table r.name r.hidden) name None ≡ Some i → i.depth ≤ length rs)
        → i.depth ≤ length (r ∷ rs)
    by true q rest =
        let n : name ≡ r.name = (Decides-eqb name r.name).0 q in
        let this : slice_index_or table r.name None ≡ Some i = ap (λ k. slice_index_or table k None) (sym n) ∙ e in
        let same : i ≡ record { depth = length (r ∷ rs); local = r.local } = let s = h.0 in cc in
        let d : i.depth ≡ length (r ∷ rs) = ap (λ (j : Innermost). j.depth) same in omega arith
    by false q rest = let d = rest (get_or-set_other table r.name name r.hidden None (apart name r.name q) ∙ e) in omega arith

-- one more binder was passed
one_passed : (variable : Bool) (k n : ℕ) (o : Option Innermost) → ((i : Innermost) → o ≡ Some i → i.depth ≤ n)
    → by_table variable (suc k) n o ≡ by_table variable k (suc n) o
one_passed variable k n None h = refl
one_passed variable k n (Some i) h = let d = h i refl in let e : suc k + (n - i.depth) ≡ k + (suc n - i.depth) = omega arith in ap (bound_by i.local) e

module _ (texts : List (List ℕ)) (distinct : IsDistinct bytes_eq texts) (name : ℕ) (inside : name < length texts) where
  abbrev pub text : List ℕ
  text = slice_index_or texts name []

  -- two names with one text are one
  same_text : (other : ℕ) (b : Bool) → other < length texts → eqb name other ≡ b → bytes_eq text (slice_index_or texts other []) ≡ b
  same_text other true l q = (bytes_eq-Decides text (slice_index_or texts other [])).1 (ap (λ n. slice_index_or texts n []) ((Decides-eqb name other).0 q))
  same_text other false l q =
      false_from_ne_true (bytes_eq text (slice_index_or texts other []))
      (λ e. let t : text ≡ slice_index_or texts other [] = (bytes_eq-Decides text (slice_index_or texts other [])).0 e in
      let a = number_of-slice_get texts text name distinct (slice_get-get_or texts name [] inside) in
      let b = number_of-slice_get texts (slice_index_or texts other []) other distinct (slice_get-get_or texts other [] l) in
      let s : Some name ≡ Some other = sym a ∙ (ap (number_of texts) t ∙ b) in
      let n : name ≡ other = cc in apart name other q n)

  -- the table says what a name means
  pub table-means : (table : List (Option Innermost)) (rows : List Row) (k : ℕ) → length table ≡ length texts → AreInnermost table rows
      → meaning_from k (scope_of texts rows) text ≡ by_table (is_variable text) k (length rows) (slice_index_or table name None)
  table-means table [] k sized h = rw (h name) refl
  table-means table (r ∷ rs) k sized h = by (eqb name r.name) refl
      (table-means (slice_set table r.name r.hidden) rs (suc k) (length-set table r.name r.hidden ∙ sized) h.1)
    where
      known : r.name < length texts
      known = let w = within table r.name _ h.0 in omega arith

      by : (b : Bool) → eqb name r.name ≡ b
          → meaning_from (suc k) (scope_of texts rs) text ≡ by_table (is_variable text) (suc k) (length rs)
          (slice_index_or (slice_set table r.name r.hidden) name None)
          → meaning_from k (scope_of texts (r ∷ rs)) text ≡ by_table (is_variable text) k (length (r ∷ rs)) (slice_index_or table name None)
      by true q rest =
          let here : slice_index_or table name None ≡ Some (record { depth = length (r ∷ rs); local = r.local }) =
          ap (λ n. slice_index_or table n None) ((Decides-eqb name r.name).0 q) ∙ h.0 in
          let zero_more : k ≡ k + (length (r ∷ rs) - length (r ∷ rs)) = omega arith in
          ap (λ b. if b then bound_by r.local k else meaning_from (suc k) (scope_of texts rs) text) (same_text r.name true known q)
          ∙ (ap (bound_by r.local) zero_more ∙ sym (ap (by_table (is_variable text) k (length (r ∷ rs))) here))
      by false q rest =
          let other = get_or-set_other table r.name name r.hidden None (apart name r.name q) in
          ap (λ b. if b then bound_by r.local k else meaning_from (suc k) (scope_of texts rs) text) (same_text r.name false known q)
          ∙ (rest ∙ (ap (by_table (is_variable text) (suc k) (length rs)) other
          ∙ one_passed (is_variable text) k (length rs) (slice_index_or table name None)
          (λ i e. depth-within (slice_set table r.name r.hidden) rs name i h.1 (other ∙ e))))

  -- and whether something binds it
  pub table-binds : (table : List (Option Innermost)) (rows : List Row) → length table ≡ length texts → AreInnermost table rows
      → is_some (slice_index_or table name None) ≡ list_any (bytes_eq text) (map (λ (b : Binder). b.text) (scope_of texts rows))
  table-binds table [] sized h = rw (h name) refl
  table-binds table (r ∷ rs) sized h = by (eqb name r.name) refl
      (table-binds (slice_set table r.name r.hidden) rs (length-set table r.name r.hidden ∙ sized) h.1)
    where
      known : r.name < length texts
      known = let w = within table r.name _ h.0 in omega arith

      others : Bool
      others = list_any (bytes_eq text) (map (λ (b : Binder). b.text) (scope_of texts rs))

      by : (b : Bool) → eqb name r.name ≡ b → is_some (slice_index_or (slice_set table r.name r.hidden) name None)
          ≡ list_any (bytes_eq text) (map (λ (b : Binder). b.text) (scope_of texts rs))
          → is_some (slice_index_or table name None) ≡ (bytes_eq text (slice_index_or texts r.name [])
          || list_any (bytes_eq text) (map (λ (b : Binder). b.text) (scope_of texts rs)))
      by true q rest =
          let here : slice_index_or table name None ≡ Some (record { depth = length (r ∷ rs); local = r.local }) =
          ap (λ n. slice_index_or table n None) ((Decides-eqb name r.name).0 q) ∙ h.0 in
          ap is_some here ∙ sym (ap (λ b. b || list_any (bytes_eq text) (map (λ (b : Binder). b.text) (scope_of texts rs))) (same_text r.name true known q))
      by false q rest =
          let other = get_or-set_other table r.name name r.hidden None (apart name r.name q) in
          sym (ap is_some other)
          ∙ (rest ∙ sym (ap (λ b. b || list_any (bytes_eq text) (map (λ (b : Binder). b.text) (scope_of texts rs))) (same_text r.name false known q)))

-- one more binder
pub table-opened : (texts : List (List ℕ)) (table : List (Option Innermost)) (rows : List Row) (r : Row) (depth : ℕ) → AreKept texts table rows
    → r.name < length texts → depth ≡ suc (length rows) → slice_index_or table r.name None ≡ r.hidden
    → AreKept texts (slice_set table r.name (Some (record { depth = depth; local = r.local }))) (r ∷ rows)
table-opened texts table rows r depth kept inside deep hidden =
    let l = kept.sized in let b : r.name < length table = omega arith in
    record {
      distinct = kept.distinct;
      sized = length-set table r.name _ ∙ kept.sized;
      innermost = (
        get_or-set_same table r.name _ None b ∙ ap (λ d. let o : Option Innermost = Some (record { depth = d; local = r.local }) in o) deep,
        subst (λ t. AreInnermost t rows) (sym (ap (slice_set (slice_set table r.name (Some (record { depth = depth; local = r.local }))) r.name) (sym hidden)
            ∙ set-back table r.name _ None)) kept.innermost,
      );
    }

-- ---- as the binders are seen

module _ (texts : List (List ℕ)) (table : List (Option Innermost)) (rows : List Row) (kept : AreKept texts table rows) (now : Scoped)
    (is : record { texts = texts; scope = scope_of texts rows } ≡ now) (name : ℕ) where
  read : (o : Option Innermost) → name < length texts → o ≡ slice_index_or table name o → o ≡ slice_index_or table name None
  read o inside r = let l = kept.sized in let b : name < length table = omega arith in r ∙ get_or_default table name o None b

  pub has-shown : (o : Option Innermost) → name < length now.texts → o ≡ slice_index_or table name o
      → is_some o ≡ list_any (bytes_eq (slice_index_or now.texts name [])) (map (λ (b : Binder). b.text) now.scope)
  has-shown o = subst (λ (v : Scoped). name < length v.texts → o ≡ slice_index_or table name o
      → is_some o ≡ list_any (bytes_eq (slice_index_or v.texts name [])) (map (λ (b : Binder). b.text) v.scope)) is
      (λ inside r. ap is_some (read o inside r) ∙ table-binds texts kept.distinct name inside table rows kept.sized kept.innermost)

  pub means-shown : (o : Option Innermost) → name < length now.texts → o ≡ slice_index_or table name o
      → meaning now.scope (slice_index_or now.texts name []) ≡ by_table (is_variable (slice_index_or now.texts name [])) 0 (length rows) o
  means-shown o = subst (λ (v : Scoped). name < length v.texts → o ≡ slice_index_or table name o
      → meaning v.scope (slice_index_or v.texts name []) ≡ by_table (is_variable (slice_index_or v.texts name [])) 0 (length rows) o) is
      (λ inside r. table-means texts kept.distinct name inside table rows 0 kept.sized kept.innermost
      ∙ sym (ap (by_table (is_variable (slice_index_or texts name [])) 0 (length rows)) (read o inside r)))

  pub depth-shown : (o : Option Innermost) (i : Innermost) → name < length now.texts → o ≡ slice_index_or table name o → o ≡ Some i → i.depth ≤ length rows
  depth-shown o i inside r e =
      let t : now.texts ≡ texts = ap (λ (v : Scoped). v.texts) (sym is) in let l = ap length t in let b : name < length texts = omega arith in
      depth-within table rows name i kept.innermost (sym (read o b r) ∙ e)

  pub found-means : (o : Option Innermost) (i : Innermost) (n : ℕ) (m : Meaning) → name < length now.texts → o ≡ slice_index_or table name o → o ≡ Some i
      → n ≡ length rows → m ≡ bound_by i.local (n - i.depth)
      → m ≡ meaning now.scope (slice_index_or now.texts name [])
  found-means o i n m inside r e l q =
      let k : n - i.depth ≡ 0 + (length rows - i.depth) = omega arith in
      q ∙ (ap (bound_by i.local) k ∙ (sym (ap (by_table (is_variable (slice_index_or now.texts name [])) 0 (length rows)) e) ∙ sym (means-shown o inside r)))

  pub none-means : (o : Option Innermost) (t : List ℕ) (m : Meaning) → name < length now.texts → o ≡ slice_index_or table name o → o ≡ None
      → slice_get texts name ≡ Some t → m ≡ unbound (is_variable t)
      → m ≡ meaning now.scope (slice_index_or now.texts name [])
  none-means o t m inside r e g q =
      let there : slice_index_or now.texts name [] ≡ t = ap (λ (v : Scoped). slice_index_or v.texts name []) (sym is)
      ∙ get_or_from_slice_get texts name t [] g in
      q ∙ (ap (λ w. unbound (is_variable w)) (sym there) ∙ (sym (ap (by_table (is_variable (slice_index_or now.texts name [])) 0 (length rows)) e)
      ∙ sym (means-shown o inside r)))

-- a binder that is put behind the others is the innermost
pub opened-kept : (texts : List (List ℕ)) (table : List (Option Innermost)) (items pushed : List Row) (r : Row) (len : ℕ) → AreKept texts table (reverse items)
    → (now : Scoped) → record { texts = texts; scope = scope_of texts (reverse items) } ≡ now
    → r.name < length now.texts → r.hidden ≡ slice_index_or table r.name r.hidden → pushed ≡ items ++ r ∷ [] → len ≡ length pushed
    → AreKept texts (slice_set table r.name (Some (record { depth = len; local = r.local }))) (reverse pushed)
opened-kept texts table items pushed r len kept now is inside read p l =
    let same : now.texts ≡ texts = ap (λ (v : Scoped). v.texts) (sym is) in
    let size = ap length same in
    let b : r.name < length texts = omega arith in
    let sized = kept.sized in
    let w : r.name < length table = omega arith in
    let back : reverse pushed ≡ r ∷ reverse items = ap reverse p ∙ reverse-append items (r ∷ []) in
    let longer : length pushed ≡ length items + 1 = ap length p ∙ length-append items (r ∷ []) in
    let turned = length-reverse items in
    let deep : len ≡ suc (length (reverse items)) = omega arith in
    subst (AreKept texts (slice_set table r.name (Some (record { depth = len; local = r.local })))) (sym back)
    (table-opened texts table (reverse items) r len kept b deep (sym (read ∙ get_or_default table r.name r.hidden None w)))
