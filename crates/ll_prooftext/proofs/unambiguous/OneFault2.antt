-- A text over a table has one fault, also where a row is off.
use Rattle.std.proofs.Common.{◌≡◌, ℕ, zero, suc, ◌+◌, ◌<◌, ◌≤◌, ◌^◌, Bool, true, false, List, [], ◌∷◌, ◌++◌, length, take, refl, ap, sym, subst, ◌∙◌, arith}
use Rattle.std.proofs.Common.{codes, append-nil, length-append, Some, None, inl, inr, true≢false}
use Rattle.std.specs.Prelude.{◌⊎◌, not, if◌then◌else◌, ◌==◌}
use Rattle.std.specs.List.{IsDistinct, list_all, flat_map, slice_get}
use Rattle.std.specs.Str.{bytes_eq}
use Rattle.std.proofs.lemmas.List.Folds.{list_all-append}
use Rattle.std.proofs.lemmas.Bool.{and_from as both}
use Rattle.ll_list_laws.proofs.CallerLemmas.{and_true_both as parts}
use Rattle.ll_bank.specs.Term.{Term}
use Rattle.ll_lexer.specs.declared.Fault.{Fault}
use Rattle.ll_lexer.specs.Reading.{place_at}
use Rattle.ll_laws.specs.Line.{Line, OneLine, EraseLine, TensorLine, WithLine, LeftLine, RightLine, BangLine, UseLine, LolliLine, ImpLine, ForallLine}
use Rattle.ll_laws.specs.Line.{ExistsLine, ClauseLine, NumLine}
use Rattle.ll_prooftext.specs.Reading.{text_lines, add_byte}
use Rattle.ll_prooftext.specs.Table.{table, line_terms}
use Rattle.ll_prooftext.specs.Sharing.{AreShares, no_shares, next_share, IsLet, IsStep, AreEach}
use Rattle.ll_prooftext.specs.Reading2.{IsOff, BeginsOver, derivation, HasFault2}
use Rattle.ll_prooftext.proofs.unambiguous.OneFault.{fault_in}
use Rattle.ll_prooftext.proofs.unambiguous.OneSharing.{is_share, comes2_once, whole_comes, IsFaultOf, of_line, of_row, fault_of}
use Rattle.ll_prooftext.proofs.unambiguous.OneTable.{AlikeAll, push_alike, table_alike, common_alike, shares_alike, lets_alike, steps_alike}
use Rattle.ll_prooftext.proofs.unambiguous.OneVerdict.{is_let}

-- ---- rows, variables and nodes among lines

-- no line has this form
abbrev AreNot : (List ℕ → Bool) → List (List ℕ) → Type 0
AreNot p ls = list_all (λ l. not (p l)) ls ≡ true

cut_lines : (p : List ℕ → Bool) (xs ys rs ss : List (List ℕ)) → list_all p xs ≡ true → list_all p ys ≡ true → AreNot p rs → AreNot p ss → xs ++ rs ≡ ys ++ ss
    → (xs ≡ ys) × (rs ≡ ss)
cut_lines p [] [] rs ss a b c d e = (refl, e)
cut_lines p [] (y ∷ ys) rs ss a b c d e =
    let f = (parts (p y) (list_all p ys) b).0 in
    let g = (parts (not (p y)) (list_all (λ l. not (p l)) (ys ++ ss)) (sym (ap (list_all (λ l. not (p l))) e) ∙ c)).0 in
    absurd (true≢false (sym g ∙ ap not f))
cut_lines p (x ∷ xs) [] rs ss a b c d e =
    let f = (parts (p x) (list_all p xs) a).0 in
    let g = (parts (not (p x)) (list_all (λ l. not (p l)) (xs ++ rs)) (ap (list_all (λ l. not (p l))) e ∙ d)).0 in
    absurd (true≢false (sym g ∙ ap not f))
cut_lines p (x ∷ xs) (y ∷ ys) rs ss a b c d e =
    let f : xs ++ rs ≡ ys ++ ss = cc in
    let g : x ≡ y = cc in
    let k = cut_lines p xs ys rs ss (parts (p x) (list_all p xs) a).1 (parts (p y) (list_all p ys) b).1 c d f in
    (ap (λ z. z ∷ xs) g ∙ ap (λ z. y ∷ z) k.0, k.1)

joined : (q : List ℕ → Bool) (xs ys : List (List ℕ)) → list_all q xs ≡ true → list_all q ys ≡ true → list_all q (xs ++ ys) ≡ true
joined q xs ys a b = list_all-append q xs ys ∙ (rw (a, b) refl)

shares_are : (names : List (List ℕ)) (rows : List Term) (ls : List (List ℕ)) → AreShares names rows ls → list_all is_share ls ≡ true
shares_are names rows ls (no_shares a b) = ap (list_all is_share) b
shares_are names rows ls (next_share before above t line s i a b) =
    ap (list_all is_share) b ∙ joined is_share above (line ∷ []) (shares_are names before above s) (both (is_share line) true (ap is_share i.text) refl)

lets_are : (names : List (List ℕ)) (rows ts : List Term) (ls : List (List ℕ)) → AreEach (IsLet names rows) ts ls
    → (list_all is_let ls ≡ true) × AreNot is_share ls
lets_are names rows [] [] a = (refl, refl)
lets_are names rows [] (l ∷ ls) a = absurd a
lets_are names rows (t ∷ ts) [] a = absurd a
lets_are names rows (t ∷ ts) (l ∷ ls) a =
    let k = lets_are names rows ts ls a.1 in (
      both (is_let l) (list_all is_let ls) (ap is_let a.0.is) k.0,
      both (not (is_share l)) (list_all (λ l. not (is_share l)) ls) (ap (λ z. not (is_share z)) a.0.is) k.1,
    )

step_is : (names : List (List ℕ)) (rows : List Term) (x : Line) (l : List ℕ) → IsStep names rows x l → (not (is_let l) ≡ true) × (not (is_share l) ≡ true)
step_is names rows (ExistsLine t) l i = (ap (λ z. not (is_let z)) i.is, ap (λ z. not (is_share z)) i.is)
step_is names rows (ClauseLine n k ts ps) l i = (ap (λ z. not (is_let z)) i.is, ap (λ z. not (is_share z)) i.is)
step_is names rows (TensorLine s t) l i = (ap (λ z. not (is_let z)) i, ap (λ z. not (is_share z)) i)
step_is names rows (LolliLine n) l i = (ap (λ z. not (is_let z)) i, ap (λ z. not (is_share z)) i)
step_is names rows (ImpLine n) l i = (ap (λ z. not (is_let z)) i, ap (λ z. not (is_share z)) i)
step_is names rows (ForallLine n) l i = (ap (λ z. not (is_let z)) i, ap (λ z. not (is_share z)) i)
step_is names rows OneLine l i = (ap (λ z. not (is_let z)) i, ap (λ z. not (is_share z)) i)
step_is names rows EraseLine l i = (ap (λ z. not (is_let z)) i, ap (λ z. not (is_share z)) i)
step_is names rows WithLine l i = (ap (λ z. not (is_let z)) i, ap (λ z. not (is_share z)) i)
step_is names rows LeftLine l i = (ap (λ z. not (is_let z)) i, ap (λ z. not (is_share z)) i)
step_is names rows RightLine l i = (ap (λ z. not (is_let z)) i, ap (λ z. not (is_share z)) i)
step_is names rows BangLine l i = (ap (λ z. not (is_let z)) i, ap (λ z. not (is_share z)) i)
step_is names rows UseLine l i = (ap (λ z. not (is_let z)) i, ap (λ z. not (is_share z)) i)
step_is names rows NumLine l i = (ap (λ z. not (is_let z)) i, ap (λ z. not (is_share z)) i)

steps_are : (names : List (List ℕ)) (rows : List Term) (xs : List Line) (ls : List (List ℕ)) → AreEach (IsStep names rows) xs ls
    → AreNot is_let ls × AreNot is_share ls
steps_are names rows [] [] a = (refl, refl)
steps_are names rows [] (l ∷ ls) a = absurd a
steps_are names rows (x ∷ xs) [] a = absurd a
steps_are names rows (x ∷ xs) (l ∷ ls) a =
    let k = steps_are names rows xs ls a.1 in
    let i = step_is names rows x l a.0 in
    (both (not (is_let l)) (list_all (λ l. not (is_let l)) ls) i.0 k.0, both (not (is_share l)) (list_all (λ l. not (is_share l)) ls) i.1 k.1)

-- ---- two readings of the same lines

pub rows_many : (names : List (List ℕ)) (rows : List Term) (ls : List (List ℕ)) → AreShares names rows ls → length rows ≡ length ls
rows_many names rows ls (no_shares a b) = ap length a ∙ sym (ap length b)
rows_many names rows ls (next_share before above t line s i a b) =
    let k = rows_many names before above s in
    let x = ap length a in
    let y = ap length b in
    let z = length-append before (t ∷ []) in
    let w = length-append above (line ∷ []) in
    omega arith

module _ (lines : List (List ℕ)) (few : length lines < 2 ^ 64) (b c : BeginsOver lines [] 0) where
  behind : b.shares ++ (b.lets ++ (b.steps ++ [])) ≡ c.shares ++ (c.lets ++ (c.steps ++ []))
  behind = others (codes "proof 2") _ _ (sym b.is ∙ c.is)
    where
      others : (w : List ℕ) (us vs : List (List ℕ)) → w ∷ us ≡ w ∷ vs → us ≡ vs
      others w us vs e = cc

  tails : (d : BeginsOver lines [] 0) → AreNot is_share (d.lets ++ (d.steps ++ []))
  tails d =
      let x = lets_are d.names d.rows d.asked d.lets d.are_asked in
      let y = steps_are d.names d.rows d.nodes d.steps d.are_nodes in
      joined (λ l. not (is_share l)) d.lets (d.steps ++ []) x.1 (joined (λ l. not (is_share l)) d.steps [] y.1 refl)

  first_cut : (b.shares ≡ c.shares) × (b.lets ++ (b.steps ++ []) ≡ c.lets ++ (c.steps ++ []))
  first_cut = cut_lines is_share b.shares c.shares (b.lets ++ (b.steps ++ [])) (c.lets ++ (c.steps ++ [])) (shares_are b.names b.rows b.shares b.are_rows)
      (shares_are c.names c.rows c.shares c.are_rows) (tails b) (tails c) behind

  second_cut : (b.lets ≡ c.lets) × (b.steps ++ [] ≡ c.steps ++ [])
  second_cut =
      cut_lines is_let b.lets c.lets (b.steps ++ []) (c.steps ++ []) (lets_are b.names b.rows b.asked b.lets b.are_asked).0
      (lets_are c.names c.rows c.asked c.lets c.are_asked).0
      (joined (λ l. not (is_let l)) b.steps [] (steps_are b.names b.rows b.nodes b.steps b.are_nodes).0 refl)
      (joined (λ l. not (is_let l)) c.steps [] (steps_are c.names c.rows c.nodes c.steps c.are_nodes).0 refl) first_cut.1

  pub same_steps : b.steps ≡ c.steps
  same_steps = sym (append-nil b.steps) ∙ (second_cut.1 ∙ append-nil c.steps)

  pub rows_few : length b.rows < 2 ^ 64
  rows_few =
      let m = rows_many b.names b.rows b.shares b.are_rows in
      let l = ap length b.is in
      let k = length-append b.shares (b.lets ++ (b.steps ++ [])) in
      omega arith

  module _ (one : IsDistinct bytes_eq b.names) (two : IsDistinct bytes_eq c.names) where
    pub rows_like : AlikeAll b.names c.names b.rows c.rows
    rows_like = shares_alike b.names c.names one two b.rows c.rows b.shares c.shares first_cut.0 rows_few b.spelled_rows c.spelled_rows b.are_rows c.are_rows

    pub asked_like : AlikeAll b.names c.names b.asked c.asked
    asked_like = lets_alike b.names c.names one two b.rows c.rows b.asked c.asked c.lets rows_like rows_few b.spelled_terms c.spelled_terms
        (subst (AreEach (IsLet b.names b.rows) b.asked) second_cut.0 b.are_asked) c.are_asked

    nodes_like : AlikeAll b.names c.names (flat_map line_terms b.nodes) (flat_map line_terms c.nodes)
    nodes_like = steps_alike b.names c.names one two b.rows c.rows b.nodes c.nodes c.steps rows_like rows_few b.spelled_nodes c.spelled_nodes
        (subst (AreEach (IsStep b.names b.rows) b.nodes) same_steps b.are_nodes) c.are_nodes

    tables_like : AlikeAll b.names c.names (table (derivation b)) (table (derivation c))
    tables_like = table_alike b.names c.names one two (derivation b) (derivation c)
        (push_alike b.names c.names one two b.asked c.asked (flat_map line_terms b.nodes) (flat_map line_terms c.nodes) asked_like nodes_like)

    -- a row that is the table's in one is so in the other
    pub row_common : (k : ℕ) → slice_get b.rows k ≡ slice_get (table (derivation b)) k → slice_get c.rows k ≡ slice_get (table (derivation c)) k
    row_common k e = common_alike b.names c.names one two b.rows c.rows (table (derivation b)) (table (derivation c)) k rows_like tables_like e

get_take : (j : ℕ) (xs : List Term) (k : ℕ) → k < j → slice_get (take j xs) k ≡ slice_get xs k
get_take zero xs k l = absurd (omega arith)
get_take (suc j) [] k l = refl
get_take (suc j) (x ∷ xs) zero l = refl
get_take (suc j) (x ∷ xs) (suc k) l = get_take j xs k (omega arith)

-- before a row that is off the rows are the table's
before_off : (rows top : List Term) (j k : ℕ) → take j rows ≡ take j top → k < j → slice_get rows k ≡ slice_get top k
before_off rows top j k e l = sym (get_take j rows k l) ∙ (ap (λ z. slice_get z k) e ∙ get_take j top k l)

trichotomy : (k j : ℕ) → (k ≡ j) ⊎ ((k < j) ⊎ (j < k))
trichotomy zero zero = inl refl
trichotomy zero (suc j) = inr (inl (omega arith))
trichotomy (suc k) zero = inr (inr (omega arith))
trichotomy (suc k) (suc j) = by (trichotomy k j)
  where
    by : (k ≡ j) ⊎ ((k < j) ⊎ (j < k)) → (suc k ≡ suc j) ⊎ ((suc k < suc j) ⊎ (suc j < suc k))
    by (inl e) = inl (ap suc e)
    by (inr (inl l)) = inr (inl (omega arith))
    by (inr (inr l)) = inr (inr (omega arith))

offs_once : (lines : List (List ℕ)) → length lines < 2 ^ 64 → (b c : BeginsOver lines [] 0) → IsDistinct bytes_eq b.names → IsDistinct bytes_eq c.names
    → (k j : ℕ) → IsOff b.rows (derivation b) k → IsOff c.rows (derivation c) j → k ≡ j
offs_once lines few b c one two k j x y = by (trichotomy k j)
  where
    by : (k ≡ j) ⊎ ((k < j) ⊎ (j < k)) → k ≡ j
    by (inl e) = e
    by (inr (inl l)) = absurd (x.off (row_common lines few c b two one k (before_off c.rows (table (derivation c)) j k y.same l)))
    by (inr (inr l)) = absurd (y.off (row_common lines few b c one two j (before_off b.rows (table (derivation b)) k j x.same l)))

-- ---- one fault

pub lines_few : (text : List ℕ) → length (text_lines text) ≤ length text
lines_few [] = omega arith
lines_few (b ∷ bs) = by (b == 10) (lines_few bs)
  where
    added : (ls : List (List ℕ)) → length (add_byte b ls) ≤ suc (length ls)
    added [] = omega arith
    added (l ∷ ls) = omega arith

    by : (v : Bool) → length (text_lines bs) ≤ length bs → length (if v then [] ∷ text_lines bs else add_byte b (text_lines bs)) ≤ suc (length bs)
    by true h = omega arith
    by false h = let a = added (text_lines bs) in omega arith

pub one_fault2 : (text : List ℕ) (f g : Fault) → length text < 2 ^ 64 → HasFault2 text f → HasFault2 text g → f ≡ g
one_fault2 text f g short a b = by (fault_of text f a) (fault_of text g b)
  where
    few : length (text_lines text) < 2 ^ 64
    few = let l = lines_few text in omega arith

    by : IsFaultOf text f → IsFaultOf text g → f ≡ g
    by (of_line x) (of_line y) = let e : Some f ≡ Some g = comes2_once (text_lines text) (place_at text (length text)) (Some f) (Some g) few x y in cc
    by (of_line x) (of_row k c d h e) = let q : Some f ≡ None =
        comes2_once (text_lines text) (place_at text (length text)) (Some f) None few x (whole_comes text c) in absurd cc
    by (of_row k c d h e) (of_line y) = let q : Some g ≡ None =
        comes2_once (text_lines text) (place_at text (length text)) (Some g) None few y (whole_comes text c) in absurd cc
    by (of_row k c d h e) (of_row j v w i q) = e ∙ (ap (λ z. fault_in (z + 2) 1 18) (offs_once (text_lines text) few c v d w k j h i) ∙ sym q)
