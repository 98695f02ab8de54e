-- A cover of a derivation that a run prints names its answer or an earlier one.
use Rattle.std.proofs.Common.{◌≡◌, ℕ, zero, suc, ◌≤◌, List, [], ◌∷◌, length, Some, None, ap, sym, subst, ◌∙◌, refl, true, false, inl, inr, arith}
use Rattle.std.specs.Prelude.{Option, is_some, unwrap_or, slice_get, Contains}
use Rattle.std.specs.List.{list_any, position_from}
use Rattle.std.proofs.lemmas.Bool.{cases_lt}
use Rattle.ll_edge.specs.Texts.{Texts}
use Rattle.ll_bank.specs.Term.{Var}
use Rattle.ll_laws.specs.declared.Event.{Event}
use Rattle.ll_laws.specs.declared.Event.TheVariants.{Reached, Answer}
use Rattle.ll_laws.specs.Answered.{Answered}
use Rattle.ll_laws.specs.Completeness.{answers_in}
use Rattle.ll_laws.specs.Dealt.{asked_terms}
use Rattle.ll_laws.specs.Instance.{IsInstance}
use Rattle.ll_laws.specs.Laws.{AnswersAreShown}
use Rattle.ll_laws.specs.Line.{DerivationLines, counts_numbers}
use Rattle.ll_laws.specs.Problem.{ProblemTree, setting_of, start_of, problem_events}
use Rattle.ll_laws.specs.ProofText.{proof_text}
use Rattle.ll_laws.specs.Verdict.{DerivationShows}
use Rattle.ll_laws.proofs.CallerLemmas.{among, subs_id}
use Rattle.ll_top.proofs.following.Steps.{steps_within}
use Rattle.ll_cover.specs.Covering.{IsCoveredBy, NamesFirst}
use Rattle.ll_top.specs.spelled.Laws.{AnswersAreSpelled, SpelledIsRead}
use Rattle.ll_top.specs.forms.Words.{CheckWords, IsCheck}
use Rattle.ll_top.proofs.wording.FirstWords.{bad-not-in-form, checked-in-form, checked-kind}
use Rattle.ll_top.specs.declared.texts.judge.Role.TheVariants.{Program, Query, Proof}
use Rattle.ll_top.specs.texts.Faults.{Cause, fault_text, cause_status}
use Rattle.ll_top.specs.texts.Judging.{TextsAsk}
use Rattle.ll_top.specs.texts.Outcome.{AnyName, NoName}
use Rattle.ll_top.specs.checks.Verdicts.{yes_text, covered_text}
use Rattle.ll_top.specs.checks.Outcome.{bound_in, CheckFails, texts_not_read, faulty_text, CheckGives, CheckComesTo, shown, refuted, covered}
use Rattle.ll_top.specs.checks.Outcome.{too_long, counting}
use Rattle.ll_top.specs.checks.Outcome.{check_failed}
use Rattle.ll_top.proofs.verdicts.CountingLemmas.{none-counts}
use Rattle.ll_top.proofs.verdicts.ProvedLemmas.{cause-not-zero}
use Rattle.ll_top.specs.Calls.{ComesTo, checks, misused}
use Rattle.ll_top.specs.Accepted.{NamesUpTo, PrintedIsCovered}
use Rattle.ll_top.proofs.outcomes.CallLemmas.{comes-kind}
use Rattle.ll_top.proofs.outcomes.LawLemmas.{Laws, given-once, check-once}
use Rattle.ll_top.proofs.outcomes.OneText.{one-check}
use Rattle.ll_top.proofs.Accepted.{printed, says-yes}
use Rattle.ll_top.proofs.RunBounds.{run-bounded}

-- the event of an answer
pub answer-event : (es : List Event) (k : ℕ) (a : Answered) → slice_get (answers_in es) k ≡ Some a → Contains es (Answer a)
answer-event [] k a e = absurd (cc (e))
answer-event (Reached ∷ es) k a e = let r = answer-event es k a e in (suc r.0, omega (arith, r.1), r.2)
answer-event (Answer b ∷ es) zero a e = let q : b ≡ a = cc (e) in (0, omega arith, ap (λ z. Answer z) q)
answer-event (Answer b ∷ es) (suc k) a e = let r = answer-event es k a e in (suc r.0, omega (arith, r.1), r.2)

-- ---- what a cover comes to

-- texts that are not read, or have a fault, are so for the check without a bound
unbounded-fails : (later : Texts) (check : CheckWords) (c : Cause) → CheckFails (Some later) AnyName NoName check c
    → CheckFails (Some later) AnyName NoName (record check { bound = None }) c
unbounded-fails later check _ (texts_not_read c x) = texts_not_read c x
unbounded-fails later check _ (faulty_text p q r Program f h k l t) = faulty_text p q r Program f h k l t
unbounded-fails later check _ (faulty_text p q r Query f h k l t) = faulty_text p q r Query f h k l t
unbounded-fails later check _ (faulty_text p q r Proof f h k l t) = faulty_text p q r Proof f h k l t

module _ (laws : Laws) (later : Texts) (check : CheckWords) (p : ProblemTree) (d : DerivationLines) (gives : CheckGives (Some later) check p d) (place : ℕ)
    (a : Answered) (at : slice_get (answers_in (problem_events p)) place ≡ Some a) (covers : IsCoveredBy p d a) (shows : DerivationShows p d)
    (within : length d.nodes ≤ p.bound) (numberless : list_any counts_numbers d.nodes ≡ false) (bounded : is_some check.bound ≡ true) where
  named : (number : ℕ) → NamesFirst p d number → (status : ℕ) (text : List ℕ) → status ≡ 0 → text ≡ covered_text number → NamesUpTo place status text
  named number f status text ended is = elim (cases_lt place f.place) [
    | inl l ↦ absurd (f.before place a l at covers)
    | inr l ↦ record { status_is = ended; number = f.place; small = omega (arith, l); is = is ∙ ap covered_text f.counted }
  ]

  cover-names : (accepted : List ℕ) → CheckComesTo (Some later) AnyName NoName (record check { bound = None }) 0 accepted → (status : ℕ) (text : List ℕ)
      → CheckComesTo (Some later) AnyName NoName check status text → NamesUpTo place status text
  cover-names accepted unbounded status text (shown q e w g h s t) = absurd (let k = sym w ∙ bounded in cc)
  cover-names accepted unbounded status text (refuted q e n r g h s t) =
      let o = given-once laws later check p q d e gives g in
      absurd (h.not_shown (subst (DerivationShows q) o.1 (subst (λ x. DerivationShows x d) o.0 shows)))
  cover-names accepted unbounded status text (covered q e n w g h s t) =
      let o = given-once laws later check p q d e gives g in
      named n (subst (λ x. NamesFirst x d n) (sym o.0) (subst (λ x. NamesFirst q x n) (sym o.1) h.first)) status text s t
  cover-names accepted unbounded status text (too_long q e w g h s t) =
      let o = given-once laws later check p q d e gives g in
      let x = ap (λ (z : ProblemTree). z.bound) o.0 in let y = ap (λ (z : DerivationLines). length z.nodes) o.1 in
      absurd (omega (arith, x, y, h.beyond, within))
  cover-names accepted unbounded status text (counting q e n w g h s t) =
      let o = given-once laws later check p q d e gives g in
      let none = none-counts 1 d.nodes numberless in
      let f = subst (λ (z : DerivationLines). position_from counts_numbers 1 z.nodes ≡ Some n) (sym o.1) h.first in
      absurd (let k : None ≡ Some n = sym none ∙ f in cc)
  cover-names accepted unbounded status text (check_failed c h s t) =
      absurd (cause-not-zero c (sym (check-once laws later (record check { bound = None }) 0 (cause_status c) accepted (fault_text c) unbounded
      (check_failed c (unbounded-fails later check c h) refl refl)).0))

  call-names : (words : List (List ℕ)) (accepted : List ℕ) → IsCheck words check
      → CheckComesTo (Some later) AnyName NoName (record check { bound = None }) 0 accepted
      → (status : ℕ) (text : List ℕ) → ComesTo words (Some later) AnyName NoName status text → NamesUpTo place status text
  call-names words accepted is unbounded status text (checks other k c) =
      cover-names accepted unbounded status text (subst (λ x. CheckComesTo (Some later) AnyName NoName x status text) (one-check words other check k is) c)
  call-names words accepted is unbounded status text (misused n b s t) = absurd (bad-not-in-form words n b (checked-in-form words check.bound is.form))
  call-names words accepted is unbounded status text c =
      absurd (let k = sym (checked-kind words check.bound is.form) ∙ comes-kind words (Some later) AnyName NoName status text c refl in cc)

pub printed-covered : Laws → AnswersAreShown → AnswersAreSpelled → SpelledIsRead → PrintedIsCovered
printed-covered laws shown_law spelled_law read_law words other run check texts later p place a
    d is_run asks at is numberless is_check bound program query proof
    status text comes =
    let found = answer-event (problem_events p) place a at in
    let facts = printed shown_law spelled_law read_law texts run p asks a d (run-bounded words run is_run) found is in
    let same : bound_in check ≡ run.bound = ap (λ (o : Option ℕ). unwrap_or o 0) bound in
    let gives : CheckGives (Some later) check p d = record {
      program = asks.program;
      query = asks.query;
      proof = proof_text p.names d;
      program_read = program;
      query_read = query;
      proof_read = proof;
      give = record { asks = subst (λ b. TextsAsk asks.program asks.query b p) (sym same) asks.asks; is_text = facts.text };
    } in
    let instance : IsInstance (asked_terms p a) d.asked = record { values = Var; closed = λ x. refl; is = facts.asked ∙ sym (subs_id (asked_terms p a)) } in
    let steps = steps_within (setting_of p) p.bound (start_of p) a (among (problem_events p) (Answer a) found) in
    call-names laws later check p d gives place a at (record { instance = instance; steps = sym facts.count }) facts.shows
    (omega (arith, steps, facts.count)) numberless (ap (λ (o : Option ℕ). is_some o) bound) other (yes_text (length a.steps)) is_check
    (says-yes shown_law spelled_law read_law texts run p asks a d later (record check { bound = None }) facts refl program query proof) status text comes
