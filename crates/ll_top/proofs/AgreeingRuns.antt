-- What two runs of the same texts come to, and where a printed derivation stands.
use Rattle.std.proofs.Common.{◌≡◌, ◌≤◌, ◌<◌, ℕ, zero, suc, refl, ap, sym, subst, ◌∙◌, Bool, true, false, List, [], ◌∷◌, ◌++◌, length, take, append_assoc}
use Rattle.std.proofs.Common.{arith}
use Rattle.std.specs.Prelude.{Option, Some, None, IfSome, is_some, if◌then◌else◌, slice_get, count_by}
use Rattle.std.specs.List.{list_any}
use Rattle.ll_edge.specs.Texts.{Texts}
use Rattle.ll_first.specs.Upto.{upto}
use Rattle.ll_laws.specs.declared.Event.{Event}
use Rattle.ll_laws.specs.declared.Event.TheVariants.{Answer, Reached}
use Rattle.ll_laws.specs.Answered.{Answered}
use Rattle.ll_laws.specs.Completeness.{answers_in}
use Rattle.ll_laws.specs.Dealt.{dealt}
use Rattle.ll_laws.specs.Laws.{SteadySearch}
use Rattle.ll_laws.specs.Line.{DerivationLines}
use Rattle.ll_laws.specs.Search.{is_answer, is_reached, any_reached}
use Rattle.ll_laws.specs.Problem.{ProblemTree, setting_of, start_of, problem_events, problem_cost}
use Rattle.ll_laws.specs.Output.{answer_text, summary_text, output_status, run_status, status_by}
use Rattle.ll_laws.specs.ProofText.{derivation_text, proof_text}
use Rattle.ll_top.specs.textbook.Kept.{bounded_by, answers_by, short_answers, AnswersAreKept}
use Rattle.ll_top.specs.lines.Running.{event_lines}
use Rattle.ll_top.specs.forms.Words.{RunWords, SessionWords, DeepenWords, HasFirst, IsRun, IsSession, IsDeepen}
use Rattle.ll_top.proofs.wording.FirstWords.{bad-not-in-form, run-in-form, session-in-form, deepen-in-form, run-kind, session-kind, deepen-kind}
use Rattle.ll_top.specs.declared.texts.judge.Role.TheVariants.{Program, Query, Proof}
use Rattle.ll_top.specs.texts.Faults.{Cause, Usage, Absent, Unreadable, Oversized, OversizedAs, Faulty, fault_text, cause_status}
use Rattle.ll_top.specs.texts.Outcome.{AnyName, NoName, RunFails, not_read, faulty, RunAsks}
use Rattle.ll_top.specs.Outcome.{whole_text, stopped_text, stopped_or_whole, text_of_run, status_of_run, RunComesTo, ran, failed}
use Rattle.ll_top.specs.Sessions.{SessionComesTo}
use Rattle.ll_top.specs.Deepening.{DeepenComesTo}
use Rattle.ll_top.specs.MadeRuns.{last_line}
use Rattle.ll_top.specs.Calls.{ComesTo, misused, runs, sessions, deepens}
use Rattle.ll_top.specs.Agreeing.{answers_of, lines_of, first_lines, to_the_end, StopsOrGoesOn, stops, goes_on, FirstIsFront, StandsIn, DerivationIsPrinted}
use Rattle.ll_top.specs.Agreeing.{bounded_at, KeepsAnswers, BoundsAgree, as_asked, as_refused, GreaterBoundKeeps}
use Rattle.ll_top.proofs.calls.DeepenLemmas.{texts-within}
use Rattle.ll_top.proofs.outcomes.CallLemmas.{comes-kind}
use Rattle.ll_top.proofs.outcomes.LawLemmas.{Laws, one-problem, asks-not-fails, fails-once}
use Rattle.ll_top.proofs.outcomes.OneText.{one-run, one-session, one-deepen}
use Rattle.ll_top.proofs.AgreeingLines.{lines-front, lines-place, lines-answers, whole-answers, upto-answers, upto-few}
use Rattle.ll_top.proofs.Covered.{answer-event}
use Rattle.ll_top.proofs.RunBounds.{run-wants}

-- ---- from a call to its command

module _ (words : List (List ℕ)) (told : Option Texts) (absence read_failed : List ℕ → Type 0) (status : ℕ) (text : List ℕ) where
  -- a call with the words of a run comes to what the run does
  pub comes-run : (run : RunWords) → IsRun words run → ComesTo words told absence read_failed status text → RunComesTo told absence read_failed run status text
  comes-run run is (runs other k c) = subst (λ x. RunComesTo told absence read_failed x status text) (one-run words other run k is) c
  comes-run run is (misused n b s t) = absurd (bad-not-in-form words n b (run-in-form words is.form))
  comes-run run is c = absurd (let k = sym (run-kind words is.form) ∙ comes-kind words told absence read_failed status text c refl in cc)

  -- one with the words of a session what the session does
  pub comes-session : (session : SessionWords) → IsSession words session → ComesTo words told absence read_failed status text
      → SessionComesTo told absence read_failed session status text
  comes-session session is (sessions other k c) =
      subst (λ x. SessionComesTo told absence read_failed x status text) (one-session words other session k is) c
  comes-session session is (misused n b s t) = absurd (bad-not-in-form words n b (session-in-form words is.form))
  comes-session session is c = absurd (let k = sym (session-kind words is.form) ∙ comes-kind words told absence read_failed status text c refl in cc)

  -- and one with the words of a deepening what the deepening does
  pub comes-deepen : (deepen : DeepenWords) → IsDeepen words deepen → ComesTo words told absence read_failed status text
      → DeepenComesTo told absence read_failed deepen status text
  comes-deepen deepen is (deepens other k c) =
      subst (λ x. DeepenComesTo told absence read_failed x status text) (one-deepen words other deepen k is) c
  comes-deepen deepen is (misused n b s t) = absurd (bad-not-in-form words n b (deepen-in-form words is.form))
  comes-deepen deepen is c = absurd (let k = sym (deepen-kind words is.form) ∙ comes-kind words told absence read_failed status text c refl in cc)

-- ---- statuses

-- where there is an answer, some event is one
any-answer : (es : List Event) → 0 < length (answers_in es) → list_any is_answer es ≡ true
any-answer [] h = absurd (omega (arith, h))
any-answer (Answer a ∷ es) h = refl
any-answer (Reached ∷ es) h = any-answer es h

-- and the status is 0
answered-status : (p : ProblemTree) → 0 < length (answers_of p) → run_status p ≡ 0
answered-status p h = ap (λ b. status_by b (list_any is_reached (problem_events p))) (any-answer (problem_events p) h)

status-answered : (es : List Event) → output_status es ≡ 0 → 0 < length (answers_in es)
status-answered [] h = absurd (omega (arith, h))
status-answered (Answer a ∷ es) h = omega arith
status-answered (Reached ∷ es) h = status-answered es (by (list_any is_answer es) (list_any is_reached es) h)
  where
    by : (b c : Bool) → status_by b true ≡ 0 → status_by b c ≡ 0
    by true c e = refl
    by false c e = absurd (omega (arith, e))

-- that of a fault line is none of a run that ended
pub cause-past : (cause : Cause) → 2 < cause_status cause
cause-past (Usage number) = omega arith
cause-past (Absent name) = omega arith
cause-past (Unreadable name) = omega arith
cause-past (Oversized name) = omega arith
cause-past (OversizedAs name version) = omega arith
cause-past (Faulty name fault) = omega arith

-- ---- a run that stops after the first answers

module _ (laws : Laws) (texts : Texts) (run : RunWords) (k workers : ℕ) (some : run.first ≡ Some k) (wanted : 0 < k) where
  asks-same : (p : ProblemTree) → RunAsks (Some texts) (to_the_end run workers) p → RunAsks (Some texts) run p
  asks-same p a = record { program = a.program; query = a.query; program_read = a.program_read; query_read = a.query_read; asks = a.asks }

  fails-same : (c : Cause) → RunFails (Some texts) AnyName NoName (to_the_end run workers) c → RunFails (Some texts) AnyName NoName run c
  fails-same _ (not_read c r) = not_read c r
  fails-same _ (faulty p q Program f h k t) = faulty p q Program f h k t
  fails-same _ (faulty p q Query f h k t) = faulty p q Query f h k t
  fails-same _ (faulty p q Proof f h k t) = faulty p q Proof f h k t

  stops-or-goes : (p : ProblemTree) → RunAsks (Some texts) run p → (status whole_status : ℕ) (text whole : List ℕ) → status ≡ status_of_run run.first p
      → text ≡ text_of_run run.first run.proofs p → whole_status ≡ run_status p → whole ≡ whole_text run.proofs p
      → StopsOrGoesOn texts run k whole_status whole status text
  stops-or-goes p asks status whole_status text whole e f g h = by (upto (problem_events p) k) refl
    where
      text_as : (o : Option (List Event)) → upto (problem_events p) k ≡ o → text ≡ stopped_or_whole run.proofs p k o
      text_as o q = f ∙ (ap (λ w. text_of_run w run.proofs p) some ∙ ap (stopped_or_whole run.proofs p k) q)

      status_as : (o : Option (List Event)) → upto (problem_events p) k ≡ o → status ≡ (if is_some o then 0 else run_status p)
      status_as o q = e ∙ (ap (λ w. status_of_run w p) some ∙ ap (λ (x : Option (List Event)). if is_some x then 0 else run_status p) q)

      by : (o : Option (List Event)) → upto (problem_events p) k ≡ o → StopsOrGoesOn texts run k whole_status whole status text
      by (Some front) q =
          let m = upto-answers (problem_events p) k front q in
          let r = lines-front run.proofs p k (answers_of p) in
          stops p asks m.1 (r.0 ++ last_line p)
          (h ∙ (whole-answers run.proofs p ∙ (ap (λ l. l ++ last_line p) r.1 ∙ append_assoc (first_lines run.proofs p k) r.0 (last_line p))))
          (text_as (Some front) q ∙ ap (λ l. l ++ stopped_text k) (lines-answers run.proofs p 0 front ∙ ap (lines_of run.proofs p 0) m.0))
          (g ∙ answered-status p (omega (arith, m.1, wanted))) (status_as (Some front) q)
      by None q =
          goes_on (λ x b. subst (λ z. length (answers_of z) < k) (one-problem laws texts run p x asks b) (upto-few (problem_events p) k q))
          (text_as None q ∙ sym h) (status_as None q ∙ sym g)

  runs-first : (status whole_status : ℕ) (text whole : List ℕ) → RunComesTo (Some texts) AnyName NoName run status text
      → RunComesTo (Some texts) AnyName NoName (to_the_end run workers) whole_status whole → StopsOrGoesOn texts run k whole_status whole status text
  runs-first s t u v (ran p a e f) (ran q b g h) =
      let same = one-problem laws texts run q p (asks-same q b) a in
      stops-or-goes p a s t u v e f (g ∙ ap run_status same) (h ∙ ap (whole_text run.proofs) same)
  runs-first s t u v (ran p a e f) (failed c b g h) = absurd (asks-not-fails laws texts run p c a (fails-same c b))
  runs-first s t u v (failed c b g h) (ran q a e f) = absurd (asks-not-fails laws texts run q c (asks-same q a) b)
  runs-first s t u v (failed c a e f) (failed d b g h) =
      let same = fails-once laws texts run c d a (fails-same d b) in
      goes_on (λ x y. absurd (asks-not-fails laws texts run x c y a)) (f ∙ (ap fault_text same ∙ sym h)) (e ∙ (ap cause_status same ∙ sym g))

pub first-front : Laws → FirstIsFront
first-front laws words other run k workers texts is some is_whole status whole_status text whole c d =
    let wanted = run-wants words run k is (subst (HasFirst words) some is.first) in
    runs-first laws texts run k workers some wanted status whole_status text whole (comes-run words (Some texts) AnyName NoName status text run is c)
    (comes-run other (Some texts) AnyName NoName whole_status whole (to_the_end run workers) is_whole d)

-- ---- a printed derivation

regrouped : (f a d r l : List ℕ) → (f ++ ((a ++ d) ++ r)) ++ l ≡ f ++ a ++ d ++ (r ++ l)
regrouped f a d r l = simp append_assoc

-- among the first elements those in front of one are the same, and so is this one
take-front : (xs : List Answered) (n k : ℕ) → n < k → take n (take k xs) ≡ take n xs
take-front xs n zero l = absurd (omega (arith, l))
take-front [] zero (suc k) l = refl
take-front [] (suc n) (suc k) l = refl
take-front (x ∷ xs) zero (suc k) l = refl
take-front (x ∷ xs) (suc n) (suc k) l = ap (λ ys. x ∷ ys) (take-front xs n k (omega (arith, l)))

get-front : (xs : List Answered) (n k : ℕ) → n < k → slice_get (take k xs) n ≡ slice_get xs n
get-front xs n zero l = absurd (omega (arith, l))
get-front [] n (suc k) l = refl
get-front (x ∷ xs) zero (suc k) l = refl
get-front (x ∷ xs) (suc n) (suc k) l = get-front xs n k (omega (arith, l))

module _ (p : ProblemTree) (place : ℕ) (a : Answered) (d : DerivationLines) (at : slice_get (answers_of p) place ≡ Some a) (deals : dealt p a ≡ Some d) where
  -- the lines of some answers, the first of which are those of the problem, and something behind them
  stands : (xs : List Answered) (text last : List ℕ) → take place xs ≡ take place (answers_of p) → slice_get xs place ≡ Some a
      → text ≡ lines_of true p 0 xs ++ last → StandsIn p place a d text
  stands xs text last same here is =
      let r = lines-place true p place xs a here in
      let own : event_lines true p place (Answer a) ≡ answer_text p (suc place) a ++ proof_text p.names d =
      ap (λ o. answer_text p (suc place) a ++ derivation_text p.names o) deals in
      record {
        found = answer-event (problem_events p) place a at;
        behind = r.0 ++ last;
        is =
            is
            ∙ (ap (λ l. l ++ last) (r.1 ∙ (ap (λ ys. lines_of true p 0 ys ++ (event_lines true p place (Answer a) ++ r.0)) same
            ∙ ap (λ l. first_lines true p place ++ (l ++ r.0)) own))
            ∙ regrouped (first_lines true p place) (answer_text p (suc place) a) (proof_text p.names d) r.0 last);
      }

  stands-whole : (text : List ℕ) → text ≡ whole_text true p → StandsIn p place a d text
  stands-whole text is = stands (answers_of p) text (last_line p) refl at (is ∙ whole-answers true p)

  stands-told : (first : Option ℕ) (text : List ℕ) → IfSome first (λ k. place < k) → text ≡ text_of_run first true p → StandsIn p place a d text
  stands-told None text l is = stands-whole text is
  stands-told (Some k) text l is = by (upto (problem_events p) k) refl
    where
      by : (o : Option (List Event)) → upto (problem_events p) k ≡ o → StandsIn p place a d text
      by (Some front) q =
          let m = upto-answers (problem_events p) k front q in
          stands (take k (answers_of p)) text (stopped_text k) (take-front (answers_of p) place k l) (get-front (answers_of p) place k l ∙ at)
          (is ∙ (ap (stopped_or_whole true p k) q
          ∙ ap (λ l. l ++ stopped_text k) (lines-answers true p 0 front ∙ ap (lines_of true p 0) m.0)))
      by None q = stands-whole text (is ∙ ap (stopped_or_whole true p k) q)

pub derivation-printed : Laws → DerivationIsPrinted
derivation-printed laws words run texts p place a d is proofs asks wanted at deals status text c =
    by (comes-run words (Some texts) AnyName NoName status text run is c)
  where
    by : RunComesTo (Some texts) AnyName NoName run status text → StandsIn p place a d text
    by (ran q b e f) =
        let same = one-problem laws texts run q p b asks in
        stands-told p place a d at deals run.first text wanted
        (f ∙ (ap (text_of_run run.first run.proofs) same ∙ ap (λ x. text_of_run run.first x p) proofs))
    by (failed cause b e f) = absurd (asks-not-fails laws texts run p cause asks b)

-- ---- a greater bound

-- an answer has the same lines whatever the bound
same-lines : (proofs : Bool) (p : ProblemTree) (n k : ℕ) (a : Answered) → event_lines proofs (bounded_by p n) k (Answer a) ≡ event_lines proofs p k (Answer a)
unfolding dealt
same-lines false p n k a = refl
same-lines true p n k a = refl

lines-bounded : (proofs : Bool) (p : ProblemTree) (n k : ℕ) (xs : List Answered) → lines_of proofs (bounded_by p n) k xs ≡ lines_of proofs p k xs
lines-bounded proofs p n k [] = refl
lines-bounded proofs p n k (x ∷ xs) =
    ap (λ l. l ++ lines_of proofs (bounded_by p n) (suc k) xs) (same-lines proofs p n k x)
    ∙ ap (λ l. event_lines proofs p k (Answer x) ++ l) (lines-bounded proofs p n (suc k) xs)

-- of no answers none are short
short-some : (n : ℕ) (xs : List Answered) → 0 < length (short_answers n xs) → 0 < length xs
short-some n [] h = h
short-some n (x ∷ xs) h = omega arith

asks-greater : (texts : Texts) (run : RunWords) (bound workers : ℕ) (p : ProblemTree) → RunAsks (Some texts) run p
    → RunAsks (Some texts) (bounded_at run workers bound) (bounded_by p bound)
asks-greater texts run bound workers p a = record {
  program = a.program;
  query = a.query;
  program_read = a.program_read;
  query_read = a.query_read;
  asks = texts-within a.program a.query run.bound bound p a.asks;
}

module _ (kept : AnswersAreKept) (steady_search : SteadySearch) (texts : Texts) (run : RunWords) (bound : ℕ) (p : ProblemTree) (le : run.bound ≤ bound)
    (asks : RunAsks (Some texts) run p) where
  abbrev greater : ProblemTree
  greater = bounded_by p bound

  bound-is : p.bound ≡ run.bound
  bound-is = ap (λ (z : ProblemTree). z.bound) asks.asks.asks.is

  answers-short : answers_of p ≡ short_answers run.bound (answers_by p bound)
  answers-short = ap (answers_by p) bound-is ∙ kept p run.bound bound le

  greater-lines : whole_text run.proofs greater ≡ lines_of run.proofs p 0 (answers_by p bound) ++ last_line greater
  greater-lines = whole-answers run.proofs greater ∙ ap (λ l. l ++ last_line greater) (lines-bounded run.proofs p bound 0 (answers_by p bound))

  found-greater : run_status p ≡ 0 → run_status greater ≡ 0
  found-greater e =
      let some : 0 < length (short_answers run.bound (answers_by p bound)) = subst (λ (xs : List Answered). 0 < length xs) answers-short
      (status-answered (problem_events p) e) in
      answered-status greater (short-some run.bound (answers_by p bound) some)

  module _ (ended : any_reached (problem_events p) ≡ false) where
    same-search : (problem_events greater ≡ problem_events p) × (problem_cost greater ≡ problem_cost p)
    same-search = let e = bound-is in steady_search (setting_of p) p.bound bound (start_of p) (omega (arith, e, le)) ended

    same-last : last_line greater ≡ last_line p
    same-last =
        ap (λ es. summary_text (count_by is_answer es) (count_by is_reached es) (problem_cost greater)) same-search.0
        ∙ ap (λ n. summary_text (count_by is_answer (problem_events p)) (count_by is_reached (problem_events p)) n) same-search.1

    same-text : whole_text run.proofs greater ≡ whole_text run.proofs p
    same-text =
        greater-lines
        ∙ (ap (λ es. lines_of run.proofs p 0 (answers_in es) ++ last_line greater) same-search.0
        ∙ (ap (λ l. lines_of run.proofs p 0 (answers_of p) ++ l) same-last ∙ sym (whole-answers run.proofs p)))

  keeps : (status later_status : ℕ) (text later : List ℕ) → status ≡ run_status p → text ≡ whole_text run.proofs p → later_status ≡ run_status greater
      → later ≡ whole_text run.proofs greater → KeepsAnswers run bound p status text later_status later
  keeps status later_status text later e f g h = record {
    text_is = f ∙ (whole-answers run.proofs p ∙ ap (λ xs. lines_of run.proofs p 0 xs ++ last_line p) answers-short);
    later_is = h ∙ greater-lines;
    found = λ zero. g ∙ found-greater (sym e ∙ zero);
    steady = λ ended. (g ∙ (ap output_status (same-search ended).0 ∙ sym e), h ∙ (same-text ended ∙ sym f));
  }

module _ (laws : Laws) (kept : AnswersAreKept) (steady_search : SteadySearch) (texts : Texts) (run : RunWords) (bound workers : ℕ) (le : run.bound ≤ bound)
    (none : run.first ≡ None) where
  abbrev later_run : RunWords
  later_run = bounded_at run workers bound

  asks-smaller : (p : ProblemTree) → RunAsks (Some texts) later_run p → RunAsks (Some texts) run (bounded_by p run.bound)
  asks-smaller p a = record {
    program = a.program;
    query = a.query;
    program_read = a.program_read;
    query_read = a.query_read;
    asks = texts-within a.program a.query bound run.bound p a.asks;
  }

  fails-smaller : (c : Cause) → RunFails (Some texts) AnyName NoName later_run c → RunFails (Some texts) AnyName NoName run c
  fails-smaller _ (not_read c r) = not_read c r
  fails-smaller _ (faulty p q Program f h k t) = faulty p q Program f h k t
  fails-smaller _ (faulty p q Query f h k t) = faulty p q Query f h k t
  fails-smaller _ (faulty p q Proof f h k t) = faulty p q Proof f h k t

  runs-agree : (status later_status : ℕ) (text later : List ℕ) → RunComesTo (Some texts) AnyName NoName run status text
      → RunComesTo (Some texts) AnyName NoName later_run later_status later → BoundsAgree texts run bound status text later_status later
  runs-agree s t u v (ran p a e f) (ran r c g h) =
      let same = one-problem laws texts later_run r (bounded_by p bound) c (asks-greater texts run bound workers p a) in
      as_asked p a (keeps kept steady_search texts run bound p le a s t u v (e ∙ ap (λ o. status_of_run o p) none)
      (f ∙ ap (λ o. text_of_run o run.proofs p) none)
      (g ∙ (ap (status_of_run run.first) same ∙ ap (λ o. status_of_run o (bounded_by p bound)) none))
      (h ∙ (ap (text_of_run run.first run.proofs) same ∙ ap (λ o. text_of_run o run.proofs (bounded_by p bound)) none)))
  runs-agree s t u v (ran p a e f) (failed c b g h) = absurd (asks-not-fails laws texts run p c a (fails-smaller c b))
  runs-agree s t u v (failed c b g h) (ran r a e f) = absurd (asks-not-fails laws texts run (bounded_by r run.bound) c (asks-smaller r a) b)
  runs-agree s t u v (failed c a e f) (failed d b g h) =
      let same = fails-once laws texts run c d a (fails-smaller d b) in
      as_refused (subst (λ n. 2 < n) (sym e) (cause-past c)) (g ∙ (ap cause_status (sym same) ∙ sym e)) (h ∙ (ap fault_text (sym same) ∙ sym f))

pub bound-keeps : Laws → AnswersAreKept → SteadySearch → GreaterBoundKeeps
bound-keeps laws kept steady words other run bound workers texts is none is_other le status later_status text later c d =
    runs-agree laws kept steady texts run bound workers le none status later_status text later
    (comes-run words (Some texts) AnyName NoName status text run is c)
    (comes-run other (Some texts) AnyName NoName later_status later (bounded_at run workers bound) is_other d)
