-- Terms one after the other, each once.
use Rattle.std.proofs.Common.{◌≡◌, suc, ◌+◌, ◌<◌, Bool, true, false, cond, ◌||◌, not, if◌then◌else◌, List, [], ◌∷◌, ◌++◌, length, All, fold, refl, ap, sym}
use Rattle.std.proofs.Common.{subst, ◌∙◌, arith, append_assoc, true≢false, add-zero, ◌≢◌}
use Rattle.std.specs.List.{flat_map}
use Rattle.std.proofs.Math.Bool.{or-true}
use Rattle.std.proofs.lemmas.List.{append-nil}
use Rattle.std.proofs.lemmas.List.Folds.{list_any-append, position_or_len_push}
use Rattle.std.proofs.lemmas.List.Sums.{fold-append}
use Rattle.std.proofs.lemmas.List.Elements.{All-head, All-tail, All-cons, All-append, All-nil, All-weaker}
use Rattle.std.proofs.lemmas.Bool.{eq-eqb, ne_eqb}
use Rattle.ll_bank.specs.declared.Head.{Head}
use Rattle.ll_bank.specs.Term.{Term, Var, Int, Con, Ap, apply, app}
use Rattle.ll_laws.specs.Fault.{term_eq}
use Rattle.ll_laws.specs.Output.{has_arguments}
use Rattle.ll_laws.proofs.CallerLemmas.{term_eq-true, term_eq-refl}
use Rattle.ll_prooftext.specs.Table.{completed, completed_arguments, is_among, with_row, rows_in, row_of}

-- ---- terms among others

pub among-append : (xs ys : List Term) (t : Term) → is_among (xs ++ ys) t ≡ (is_among xs t || is_among ys t)
among-append xs ys t = list_any-append (term_eq t) xs ys

pub among_left : (xs ys : List Term) (t : Term) → is_among xs t ≡ true → is_among (xs ++ ys) t ≡ true
among_left xs ys t h = among-append xs ys t ∙ ap (λ b. b || is_among ys t) h

among_right : (xs ys : List Term) (t : Term) → is_among ys t ≡ true → is_among (xs ++ ys) t ≡ true
among_right xs ys t h = among-append xs ys t ∙ (ap (λ b. is_among xs t || b) h ∙ or-true (is_among xs t))

-- where a term is among others
pub record IsSplitAt (xs : List Term) (t : Term) : Type 0 where
  pub front : List Term
  pub back : List Term
  pub is : xs ≡ front ++ t ∷ back

pub among_split : (xs : List Term) (t : Term) → is_among xs t ≡ true → IsSplitAt xs t
among_split [] t h = absurd (true≢false (sym h))
among_split (x ∷ xs) t h = by (λ g. among_split xs t g) (term_eq t x) refl h
  where
    by : (is_among xs t ≡ true → IsSplitAt xs t) → (b : Bool) → term_eq t x ≡ b → (b || is_among xs t) ≡ true → IsSplitAt (x ∷ xs) t
    by split true e g = record { front = []; back = xs; is = ap (λ y. y ∷ xs) (sym (term_eq-true t x e)) }
    by split false e g = let s = split g in record { front = x ∷ s.front; back = s.back; is = ap (λ ys. x ∷ ys) s.is }

-- all of these are among those
abbrev pub AreAmong : List Term → List Term → Type 0
AreAmong rows ts = All (λ t. is_among rows t ≡ true) ts

-- ---- each term once

with_row-among : (rows : List Term) (t u : Term) → is_among (with_row rows t) u ≡ (is_among rows u || (term_eq u t || false))
with_row-among rows t u = by (is_among rows t) refl
  where
    or_same : (a b : Bool) → (b ≡ true → a ≡ true) → a ≡ (a || (b || false))
    or_same true b h = refl
    or_same false true h = absurd (true≢false (sym (h refl)))
    or_same false false h = refl

    by : (b : Bool) → is_among rows t ≡ b → is_among (if b then rows else rows ++ t ∷ []) u ≡ (is_among rows u || (term_eq u t || false))
    by true e = or_same (is_among rows u) (term_eq u t) (λ h. subst (λ v. is_among rows v ≡ true) (sym (term_eq-true u t h)) e)
    by false e = among-append rows (t ∷ []) u

pub rows-among : (rows ts : List Term) (u : Term) → is_among (fold with_row rows ts) u ≡ (is_among rows u || is_among ts u)
rows-among rows [] u = sym (or_false (is_among rows u))
  where
    or_false : (b : Bool) → (b || false) ≡ b
    or_false true = refl
    or_false false = refl
rows-among rows (t ∷ ts) u = rows-among (with_row rows t) ts u
    ∙ (ap (λ b. b || is_among ts u) (with_row-among rows t u) ∙ regroup (is_among rows u) (term_eq u t) (is_among ts u))
  where
    regroup : (a b c : Bool) → ((a || (b || false)) || c) ≡ (a || (b || c))
    regroup true b c = refl
    regroup false true c = refl
    regroup false false c = refl

-- the rows have exactly the terms
pub rows_in-among : (ts : List Term) (u : Term) → is_among (rows_in ts) u ≡ is_among ts u
rows_in-among ts u = rows-among [] ts u

-- terms that are there add no row
pub rows_stay : (rows ts : List Term) → AreAmong rows ts → fold with_row rows ts ≡ rows
rows_stay rows [] h = refl
rows_stay rows (t ∷ ts) h =
    ap (λ rs. fold with_row rs ts) (ap (λ b. if b then rows else rows ++ t ∷ []) (All-head (λ v. is_among rows v ≡ true) t ts h))
    ∙ rows_stay rows ts (All-tail (λ v. is_among rows v ≡ true) t ts h)

pub rows_in-append : (xs ys : List Term) → rows_in (xs ++ ys) ≡ fold with_row (rows_in xs) ys
rows_in-append xs ys = fold-append with_row [] xs ys

-- ---- terms behind those in their arguments

-- each term's arguments have their terms in front of it
abbrev pub AreBehind : List Term → List Term → Type 0
AreBehind before [] = Unit {0}
AreBehind before (t ∷ ts) = AreAmong before (completed_arguments t) × AreBehind (before ++ t ∷ []) ts

behind-append : (before xs ys : List Term) → AreBehind before xs → AreBehind (before ++ xs) ys → AreBehind before (xs ++ ys)
behind-append before [] ys h k = subst (λ bs. AreBehind bs ys) (append-nil before) k
behind-append before (x ∷ xs) ys h k = (
  h.0,
  behind-append (before ++ x ∷ []) xs ys h.1
      (subst (λ bs. AreBehind bs ys) (sym (append_assoc before (x ∷ []) xs)) k),
)

pub are_themselves : (before xs : List Term) → AreAmong (before ++ xs) xs
are_themselves before [] = All-nil (λ t. is_among (before ++ []) t ≡ true)
are_themselves before (x ∷ xs) =
    All-cons (λ t. is_among (before ++ x ∷ xs) t ≡ true) x xs (among_right before (x ∷ xs) x (ap (λ b. b || is_among xs x) (term_eq-refl x)))
    (subst (λ zs. AreAmong zs xs) (append_assoc before (x ∷ []) xs) (are_themselves (before ++ x ∷ []) xs))

-- the terms in the arguments of a term, and those that it completes
completed_behind : (t : Term) → ((before : List Term) → AreBehind before (completed t)) × ((before : List Term) → AreBehind before (completed_arguments t))
completed_behind (Var n) = (λ before. tt, λ before. tt)
completed_behind (Int z) = (λ before. tt, λ before. tt)
completed_behind (Con h) = (λ before. tt, λ before. tt)
completed_behind (Ap f a) =
    let inside : (before : List Term) → AreBehind before (completed_arguments f ++ completed a) =
    λ before. behind-append before (completed_arguments f) (completed a) ((completed_behind f).1 before)
    ((completed_behind a).0 (before ++ completed_arguments f)) in (
      λ before. behind-append before (completed_arguments f ++ completed a) (Ap f a ∷ []) (inside before)
          (are_themselves before (completed_arguments f ++ completed a), tt),
      inside,
    )

pub all_behind : (ts : List Term) (before : List Term) → AreBehind before (flat_map completed ts)
all_behind [] before = tt
all_behind (t ∷ ts) before = behind-append before (completed t) (flat_map completed ts) ((completed_behind t).0 before) (all_behind ts (before ++ completed t))

-- so where a term is, those in its arguments are in front of it
front_among : (before front : List Term) (t : Term) (back : List Term) → AreBehind before (front ++ t ∷ back)
    → AreAmong (before ++ front) (completed_arguments t)
front_among before [] t back h = subst (λ bs. AreAmong bs (completed_arguments t)) (sym (append-nil before)) h.0
front_among before (x ∷ front) t back h = subst (λ bs. AreAmong bs (completed_arguments t)) (append_assoc before (x ∷ []) front)
    (front_among (before ++ x ∷ []) front t back h.1)

pub wider : (xs ys ts : List Term) → AreAmong xs ts → AreAmong (xs ++ ys) ts
wider xs ys ts h = All-weaker (λ t. is_among xs t ≡ true) (λ t. is_among (xs ++ ys) t ≡ true) (λ t k. among_left xs ys t k) ts h

-- a term with arguments is completed behind those in its arguments
pub completed_is : (t : Term) → has_arguments t ≡ true → completed t ≡ completed_arguments t ++ t ∷ []
completed_is (Ap f a) h = refl
completed_is (Var n) h = absurd (true≢false (sym h))
completed_is (Int z) h = absurd (true≢false (sym h))
completed_is (Con k) h = absurd (true≢false (sym h))

pub completed_bare : (t : Term) → has_arguments t ≡ false → completed t ≡ []
completed_bare (Ap f a) h = absurd (true≢false h)
completed_bare (Var n) h = refl
completed_bare (Int z) h = refl
completed_bare (Con k) h = refl

-- the terms in the arguments of a head
arguments_apply : (f : Term) (ts : List Term) → completed_arguments (apply f ts) ≡ completed_arguments f ++ flat_map completed ts
arguments_apply f [] = sym (append-nil (completed_arguments f))
arguments_apply f (t ∷ ts) = arguments_apply (Ap f t) ts ∙ append_assoc (completed_arguments f) (completed t) (flat_map completed ts)

pub arguments_app : (h : Head) (ts : List Term) → completed_arguments (app h ts) ≡ flat_map completed ts
arguments_app h ts = arguments_apply (Con h) ts

-- where some terms are done and a term is among them, so are all that it completes
pub known_done : (fields done rest : List Term) (t : Term) → done ++ rest ≡ flat_map completed fields → is_among done t ≡ true → AreAmong done (completed t)
known_done fields done rest t e h = by t (has_arguments t) refl h
  where
    by : (t : Term) (b : Bool) → has_arguments t ≡ b → is_among done t ≡ true → AreAmong done (completed t)
    by t false a m = subst (AreAmong done) (sym (completed_bare t a)) (All-nil (λ u. is_among done u ≡ true))
    by t true a m =
        let s = among_split done t m in
        let whole : flat_map completed fields ≡ s.front ++ t ∷ (s.back ++ rest) =
        sym e ∙ (ap (λ xs. xs ++ rest) s.is ∙ append_assoc s.front (t ∷ s.back) rest) in
        let front = front_among [] s.front t (s.back ++ rest) (subst (AreBehind []) whole (all_behind fields [])) in
        subst (AreAmong done) (sym (completed_is t a))
        (All-append (λ u. is_among done u ≡ true) (completed_arguments t) (t ∷ [])
        (subst (λ xs. AreAmong xs (completed_arguments t)) (sym s.is) (wider s.front (t ∷ s.back) (completed_arguments t) front))
        (All-cons (λ u. is_among done u ≡ true) t [] m (All-nil (λ u. is_among done u ≡ true))))

-- ---- the number of a row

pub found_below : (rows : List Term) (t : Term) → is_among rows t ≡ true → row_of rows t < length rows
found_below [] t h = absurd (true≢false (sym h))
found_below (r ∷ rows) t h = by (λ g. found_below rows t g) (term_eq t r) h
  where
    by : (is_among rows t ≡ true → row_of rows t < length rows) → (b : Bool) → (b || is_among rows t) ≡ true
        → cond (not b) (1 + row_of rows t) 0 < suc (length rows)
    by more true g = omega arith
    by more false g = let z = more g in omega arith

pub none_below : (rows : List Term) (t : Term) → is_among rows t ≡ false → row_of rows t ≡ length rows
none_below [] t h = refl
none_below (r ∷ rows) t h = by (λ g. none_below rows t g) (term_eq t r) h
  where
    by : (is_among rows t ≡ false → row_of rows t ≡ length rows) → (b : Bool) → (b || is_among rows t) ≡ false
        → cond (not b) (1 + row_of rows t) 0 ≡ suc (length rows)
    by more true g = absurd (true≢false g)
    by more false g = let z = more g in omega arith

-- a row more leaves the numbers of the others, and has the next one
pub row_kept : (rows : List Term) (t u : Term) → is_among rows u ≡ true → row_of (rows ++ t ∷ []) u ≡ row_of rows u
row_kept rows t u h =
    position_or_len_push (term_eq u) rows t
    ∙ ap (λ b. cond b (length rows + cond (term_eq u t) 0 1) (row_of rows u)) (let l = found_below rows u h in
    let n : row_of rows u ≢ length rows = omega arith in ne_eqb (row_of rows u) (length rows) n)

pub row_new : (rows : List Term) (t : Term) → is_among rows t ≡ false → row_of (rows ++ t ∷ []) t ≡ length rows
row_new rows t h =
    position_or_len_push (term_eq t) rows t
    ∙ (ap (λ b. cond b (length rows + cond (term_eq t t) 0 1) (row_of rows t)) (eq-eqb (row_of rows t) (length rows) (none_below rows t h))
    ∙ (ap (λ b. length rows + cond b 0 1) (term_eq-refl t) ∙ add-zero (length rows)))
