-- A run from its start to its end.
use Rattle.std.proofs.Common.{◌≡◌, ◌≤◌, ℕ, zero, suc, ◌+◌, refl, subst, ap, sym, ◌∙◌, Bool, true, false, List, [], ◌∷◌, ◌++◌, length, take, arith}
use Rattle.std.proofs.Common.{append_assoc, inl, inr}
use Rattle.std.specs.Prelude.{count_by, cond, nat_lt, ◌||◌}
use Rattle.std.specs.List.{list_any, Contains}
use Rattle.std.proofs.lemmas.List.Sums.{sum_by-cons}
use Rattle.std.proofs.lemmas.Bool.{lt-ltb}
use Rattle.std.proofs.lemmas.List.{length-take}
use Rattle.std.proofs.lemmas.List.Elements.{Contains-append_right}
use Rattle.ll_bank.specs.Term.{Term}
use Rattle.ll_edge.specs.Pieces.{AppendsFront}
use Rattle.ll_laws.specs.declared.Event.{Event}
use Rattle.ll_laws.specs.declared.Event.TheVariants.{Answer, Reached}
use Rattle.ll_laws.specs.declared.Counts.{Counts}
use Rattle.ll_laws.specs.Answered.{Answered}
use Rattle.ll_laws.specs.Search.{cut_count, is_answer, is_reached}
use Rattle.ll_laws.specs.Problem.{ProblemTree, problem_events, problem_cost}
use Rattle.ll_laws.specs.Output.{summary_text, counts_text, run_status, status_by}
use Rattle.ll_laws.specs.Laws.{AnswersAreShown}
use Rattle.ll_laws.specs.Valid.{IsValid}
use Rattle.ll_laws.specs.Sound.{Every}
use Rattle.ll_order.specs.Outlets.{GivesPrefix, CountsOf}
use Rattle.ll_top.proofs.writing.RunLemmas.{events-same, refused-same, front-written, refused-lines}
use Rattle.ll_top.specs.MadeRuns.{last_line}
use Rattle.ll_top.specs.Outcome.{whole_text}
use Rattle.ll_top.specs.lines.Running.{all_lines, AnswersAll, IsWelcome, OutletState, SameOutlet, Writes, BreaksOff}
use Rattle.ll_top.specs.Running.{status_of_counts}

-- the whole text: the lines of the events, and the last line
pub whole-lines : (proofs : Bool) (p : ProblemTree) → all_lines proofs p 0 (problem_events p)
    ++ summary_text (count_by is_answer (problem_events p)) (count_by is_reached (problem_events p)) (problem_cost p) ≡ whole_text proofs p
whole-lines false p = refl
whole-lines true p = refl

count-cons : (test : Event → Bool) (e : Event) (es : List Event) (b : Bool) → test e ≡ b → count_by test (e ∷ es) ≡ cond b 1 0 + count_by test es
count-cons test e es b h = sum_by-cons (λ x. cond (test x) 1 0) e es ∙ ap (λ x. cond x 1 0 + count_by test es) h

-- an answer that was found has a term for each variable that is asked for
enough-terms : (p : ProblemTree) (a : Answered) (ts : List Term) → ts ≡ take (length p.asked) a.terms → length ts ≡ length p.asked
    → length p.asked ≤ length a.terms
enough-terms p a ts e f = let g = ap length e in let h = length-take (length p.asked) a.terms in omega arith

pub found-answers_all : AnswersAreShown → (p : ProblemTree) (e : Event) → IsValid p → Contains (problem_events p) e → AnswersAll p e
found-answers_all shown p (Answer a) v has = let d = shown p a v has in enough-terms p a d.0.asked d.2 d.4.count
found-answers_all shown p Reached v has = tt

-- ---- events that were given

-- each event of the search is welcome to an outlet of its problem
pub welcome-all : AnswersAreShown → (p : ProblemTree) → IsValid p → Every (IsWelcome p) (problem_events p)
welcome-all shown p v = by [] (problem_events p) refl
  where
    one : (e : Event) → Contains (problem_events p) e → IsWelcome p e
    one e h = record { valid = v; among = h; all = found-answers_all shown p e v h }

    by : (front es : List Event) → front ++ es ≡ problem_events p → Every (IsWelcome p) es
    by front [] h = tt
    by front (e ∷ es) h = (
      one e (subst (λ xs. Contains xs e) h (Contains-append_right front (e ∷ es) e (0, omega arith, refl))),
      by (front ++ e ∷ []) es (append_assoc front (e ∷ []) es ∙ h),
    )

module _ {W : Type 0} (takes breaks : W → Event → W → Type 0) (state : W → OutletState) (writes : (x : W) (e : Event) (y : W) → takes x e y
    → Writes (state x) e (state y))
    (breaks_off : (x : W) (e : Event) (y : W) → breaks x e y → BreaksOff (state x) e (state y)) where
  -- the lines of events from this state on
  abbrev lines_from : W → List Event → List ℕ
  lines_from x es = all_lines (state x).proofs (state x).problem (state x).answers es

  -- only the first of the events were given
  pub prefix-same : (x y : W) (es : List Event) → GivesPrefix takes breaks x es y → SameOutlet (state x) (state y)
  prefix-same x y es (inl (front, back, e, g)) = events-same takes breaks state writes breaks_off x y front g
  prefix-same x y es (inr r) = refused-same takes breaks state writes breaks_off x y es r

  pub prefix-written : (x y : W) (es : List Event) (last : List ℕ) → GivesPrefix takes breaks x es y
      → AppendsFront (state x).written (lines_from x es ++ last) (state y).written
  prefix-written x y es last (inl (front, back, e, g)) =
      subst (λ xs. AppendsFront (state x).written (lines_from x xs ++ last) (state y).written) (sym e)
      (front-written takes breaks state writes breaks_off x y front back last g)
  prefix-written x y es last (inr r) = refused-lines takes breaks state writes breaks_off x y es last r

  -- what was written of a text with the lines of these events, of which no answer was taken yet, and something behind them
  pub lines-begun : (x y : W) (p : ProblemTree) (es : List Event) (last text : List ℕ) → (state x).problem ≡ p → (state x).answers ≡ 0
      → all_lines (state x).proofs p 0 es ++ last ≡ text → GivesPrefix takes breaks x es y → AppendsFront (state x).written text (state y).written
  lines-begun x y p es last text e k t g =
      let f = prefix-written x y es last g in
      let same : lines_from x es ++ last ≡ text = ap (λ q. all_lines (state x).proofs q (state x).answers es ++ last) e
      ∙ (ap (λ n. all_lines (state x).proofs p n es ++ last) k ∙ t) in
      subst (λ xs. AppendsFront (state x).written xs (state y).written) same f

any-count : (test : Event → Bool) (es : List Event) → list_any test es ≡ nat_lt 0 (count_by test es)
any-count test [] = refl
any-count test (e ∷ es) = step (test e) refl (any-count test es)
  where
    step : (b : Bool) → test e ≡ b → list_any test es ≡ nat_lt 0 (count_by test es) → (test e || list_any test es) ≡ nat_lt 0 (count_by test (e ∷ es))
    step true h ih =
        let q = count-cons test e es true h in
        ap (λ b. b || list_any test es) h ∙ sym (lt-ltb 0 (count_by test (e ∷ es)) (omega arith))
    step false h ih =
        let q : count_by test (e ∷ es) ≡ count_by test es = let k = count-cons test e es false h in omega arith in
        ap (λ b. b || list_any test es) h ∙ (ih ∙ ap (nat_lt 0) (sym q))

status-by : (a r n m : ℕ) → a ≡ cut_count n → r ≡ cut_count m → status_of_counts a r ≡ status_by (nat_lt 0 n) (nat_lt 0 m)
status-by zero zero zero zero e f = refl
status-by zero zero zero (suc m) e f = absurd (omega arith)
status-by zero (suc r) zero zero e f = absurd (omega arith)
status-by zero (suc r) zero (suc m) e f = sym (ap (status_by false) (lt-ltb 0 (suc m) (omega arith)))
status-by zero r (suc n) m e f = absurd (omega arith)
status-by (suc a) r zero m e f = absurd (omega arith)
status-by (suc a) r (suc n) m e f = sym (ap (λ b. status_by b (nat_lt 0 m)) (lt-ltb 0 (suc n) (omega arith)))

-- ---- the end

-- the last line has the counts of the whole search, cut
pub last-line : (p : ProblemTree) (c : Counts) → CountsOf c (problem_events p) (problem_cost p) → counts_text c.answers c.reached c.inferences ≡ last_line p
last-line p c h = let a = h.0 in let b = h.1 in let m = h.2 in cc

-- the status is that of the whole search
pub run-status : (p : ProblemTree) (c : Counts) → CountsOf c (problem_events p) (problem_cost p) → status_of_counts c.answers c.reached ≡ run_status p
run-status p c h =
    let es = problem_events p in
    let f = any-count is_answer es in
    let g = any-count is_reached es in
    let i = status-by c.answers c.reached (count_by is_answer es) (count_by is_reached es) h.0 h.1 in cc
