-- The lines of a text, and the one list of queries that they have.
use Rattle.std.proofs.Common.{◌≡◌, ◌⊎◌, ℕ, zero, suc, ◌+◌, ◌<◌, ◌≤◌, Bool, true, false, not, List, [], ◌∷◌, length, take, drop, get_or, refl, sym, ◌∙◌, ap}
use Rattle.std.proofs.Common.{subst, arith, inl, inr, if◌then◌else◌}
use Rattle.std.specs.Prelude.{Result, Ok, Err, ◌==◌}
use Rattle.std.specs.List.{prefix_len}
use Rattle.std.proofs.lemmas.List.Sums.{prefix_len_passes, prefix_len_stops}
use Rattle.std.proofs.lemmas.Bool.{false≢true}
use Rattle.ll_list_laws.proofs.CallerLemmas.{false_from_not as not-true, true_from_not as not-false}
use Rattle.ll_lexer.specs.declared.Fault.{Fault}
use Rattle.ll_laws.specs.Problem.{ProblemTree}
use Rattle.ll_parser.specs.Raw.{ProgramTree}
use Rattle.ll_session.specs.Lines.{with_front, lines, is_query_line}
use Rattle.ll_session.specs.Reading.{IsQueryFault, TextAsks}
use Rattle.ll_session.specs.Queries.{QueryLine, on_line, LineAsks, HaveQueries, no_line, passed, asked}

-- ---- splitting

drop-none : (xs : List ℕ) → drop 0 xs ≡ xs
drop-none [] = refl
drop-none (x ∷ xs) = refl

-- a text up to its first LF, and behind it
split-at : (text : List ℕ) (n : ℕ) → n < length text → ((k : ℕ) → k < n → (get_or text k 0 == 10) ≡ false) → (get_or text n 0 == 10) ≡ true
    → lines text ≡ take n text ∷ lines (drop (n + 1) text)
split-at [] n l h e = absurd (omega arith)
split-at (b ∷ bs) zero l h e = ap (λ v. if v then [] ∷ lines bs else with_front b (lines bs)) e ∙ ap (λ xs. [] ∷ lines xs) (sym (drop-none bs))
split-at (b ∷ bs) (suc n) l h e =
    let rest = split-at bs n (omega arith) (λ k m. h (suc k) (omega arith)) e in
    ap (λ v. if v then [] ∷ lines bs else with_front b (lines bs)) (h 0 (omega arith))
    ∙ (ap (with_front b) rest ∙ ap (λ m. (b ∷ take n bs) ∷ lines (drop m (b ∷ bs))) (let s : suc (n + 1) ≡ suc n + 1 = omega arith in s))

-- a text without an LF is one line
one-line : (text : List ℕ) → 0 < length text → ((k : ℕ) → k < length text → (get_or text k 0 == 10) ≡ false) → lines text ≡ text ∷ []
one-line [] l h = absurd (omega arith)
one-line (b ∷ []) l h = ap (λ v. if v then [] ∷ lines [] else with_front b (lines [])) (h 0 (omega arith))
one-line (b ∷ c ∷ cs) l h =
    ap (λ v. if v then [] ∷ lines (c ∷ cs) else with_front b (lines (c ∷ cs))) (h 0 (omega arith))
    ∙ ap (with_front b) (one-line (c ∷ cs) (omega arith) (λ k m. h (suc k) (omega arith)))

pub line-split : (text : List ℕ) (n : ℕ) → n ≡ prefix_len (λ b. not (b == 10)) text → n < length text → lines text ≡ take n text ∷ lines (drop (n + 1) text)
line-split text n e l =
    split-at text n l (λ k m. not-true (get_or text k 0 == 10) (prefix_len_passes (λ b. not (b == 10)) text k 0 (subst (λ i. k < i) e m)))
    (not-false (get_or text n 0 == 10) (subst (λ i. not (get_or text i 0 == 10) ≡ false) (sym e)
    (prefix_len_stops (λ b. not (b == 10)) text 0 (subst (λ i. i < length text) e l))))

pub line-alone : (text : List ℕ) (n : ℕ) → n ≡ prefix_len (λ b. not (b == 10)) text → length text ≤ n → 0 < length text → lines text ≡ text ∷ []
line-alone text n e l h = one-line text h (λ k m. not-true (get_or text k 0 == 10)
    (prefix_len_passes (λ b. not (b == 10)) text k 0 (subst (λ i. k < i) e (omega arith))))

-- ---- one list of queries

module _ (one_problem : (program : ProgramTree) (text : List ℕ) (bound : ℕ) (p q : ProblemTree) → TextAsks program text bound p → TextAsks program text bound q
    → p ≡ q)
    (one_fault : (program : ProgramTree) (text : List ℕ) (f g : Fault) → IsQueryFault program text f → IsQueryFault program text g → f ≡ g)
    (no_fault : (program : ProgramTree) (text : List ℕ) (bound : ℕ) (p : ProblemTree) (f : Fault) → TextAsks program text bound p → IsQueryFault program text f
    → ⊥) where
  pub one-asked : (program : ProgramTree) (bound line : ℕ) (text : List ℕ) (a b : Result ProblemTree Fault) → LineAsks program bound line text a
      → LineAsks program bound line text b → a ≡ b
  one-asked program bound line text (Ok p) (Ok q) h k = ap (λ x. let r : Result ProblemTree Fault = Ok x in r) (one_problem program text bound p q h k)
  one-asked program bound line text (Ok p) (Err g) h k = absurd (no_fault program text bound p k.0 h k.1)
  one-asked program bound line text (Err f) (Ok q) h k = absurd (no_fault program text bound q h.0 k h.1)
  one-asked program bound line text (Err f) (Err g) h k =
      ap (λ x. let r : Result ProblemTree Fault = Err x in r) (h.2 ∙ (ap (on_line line) (one_fault program text h.0 k.0 h.1 k.1) ∙ sym k.2))

  pub one-list : (program : ProgramTree) (bound line : ℕ) (texts : List (List ℕ)) (xs ys : List QueryLine) → HaveQueries program bound line texts xs
      → HaveQueries program bound line texts ys → xs ≡ ys
  one-list program bound line [] xs ys no_line no_line = refl
  one-list program bound line (text ∷ rest) xs ys (passed e h) (passed f k) = one-list program bound (line + 1) rest xs ys h k
  one-list program bound line (text ∷ rest) xs ys (passed e h) (asked what f a k) = absurd (false≢true (sym e ∙ f))
  one-list program bound line (text ∷ rest) xs ys (asked what e a h) (passed f k) = absurd (false≢true (sym f ∙ e))
  one-list program bound line (text ∷ rest) xs ys (asked {queries = us} what e a h) (asked {queries = vs} other f b k) =
      let here = one-asked program bound line text what other a b in
      let behind = one-list program bound (line + 1) rest us vs h k in
      λ i. record { line = line; asked = here i } ∷ behind i

module _ (program : ProgramTree) (either : (bound : ℕ) (text : List ℕ)
    → ((p : ProblemTree) × TextAsks program text bound p) ⊎ ((f : Fault) × IsQueryFault program text f)) where
  pub some-list : (bound line : ℕ) (texts : List (List ℕ)) → (queries : List QueryLine) × HaveQueries program bound line texts queries
  some-list bound line [] = ([], no_line)
  some-list bound line (text ∷ rest) = by (is_query_line text) refl (some-list bound (line + 1) rest)
    where
      by : (b : Bool) → is_query_line text ≡ b → ((queries : List QueryLine) × HaveQueries program bound (line + 1) rest queries)
          → (queries : List QueryLine) × HaveQueries program bound line (text ∷ rest) queries
      by false e r = (r.0, passed e r.1)
      by true e r = elim (either bound text) [
        | inl p ↦ (record { line = line; asked = Ok p.0 } ∷ r.0, asked (Ok p.0) e p.1 r.1)
        | inr f ↦ (record { line = line; asked = Err (on_line line f.0) } ∷ r.0, asked (Err (on_line line f.0)) e (f.0, f.1, refl) r.1)
      ]
