-- From the text of a run to the derivations of its answers.
use Rattle.std.proofs.Common.{◌≡◌, ◌≤◌, ℕ, suc, refl, ap, sym, subst, ◌∙◌, Bool, true, false, List, [], ◌∷◌, ◌++◌, length, append_assoc, arith, inl, inr}
use Rattle.std.specs.Prelude.{Option, Some, None, unwrap_or, Contains}
use Rattle.std.specs.Io.KnownBytes.{append_known}
use Rattle.std.proofs.lemmas.List.{append-nil}
use Rattle.std.proofs.lemmas.List.Elements.{Contains-append_right}
use Rattle.ll_edge.specs.Log.{Entry}
use Rattle.ll_edge.specs.Texts.{Texts}
use Rattle.ll_first.specs.Upto.{upto}
use Rattle.ll_first.proofs.CallerLemmas.{upto_front}
use Rattle.ll_laws.specs.declared.Event.{Event}
use Rattle.ll_laws.specs.declared.Event.TheVariants.{Answer, Reached}
use Rattle.ll_laws.specs.Answered.{Answered}
use Rattle.ll_laws.specs.Problem.{ProblemTree, problem_events}
use Rattle.ll_laws.specs.Line.{DerivationLines}
use Rattle.ll_laws.specs.Laws.{AnswersAreShown}
use Rattle.ll_top.specs.textbook.Laws.{AnswersFollow, InstancesFollow, FollowsIsAnswered}
use Rattle.ll_laws.specs.Dealt.{dealt}
use Rattle.ll_laws.specs.Output.{answer_text, answers_text}
use Rattle.ll_laws.specs.ProofText.{derivation_text, proved_answers_text}
use Rattle.ll_laws.specs.Valid.{IsValid}
use Rattle.ll_top.specs.forms.Words.{RunWords, IsRun, SessionWords, IsSession, DeepenWords, IsDeepen}
use Rattle.ll_top.specs.texts.Faults.{Cause, Usage, Absent, Unreadable, Oversized, OversizedAs, Faulty, cause_status}
use Rattle.ll_top.specs.texts.Outcome.{RunAsks}
use Rattle.ll_top.specs.Outcome.{stopped_or_whole, text_of_run}
use Rattle.ll_top.specs.texts.Endings.{Refuses}
use Rattle.ll_top.specs.lines.Running.{all_lines}
use Rattle.ll_top.specs.Proved.{IsRight, ShowsAnswer, AreShown, all_shown, answer_shown, reached_shown, events_told, stop_or_summary, end_of_run, WritesShown}
use Rattle.ll_top.specs.Reads.{RunReads}
use Rattle.ll_top.specs.Shown.{SessionShown, DeepenShown}
use Rattle.ll_top.proofs.calls.RunLemmas.{whole-lines}
use Rattle.ll_top.proofs.judging.OutcomeLemmas.{refused-status}
use Rattle.ll_top.proofs.outcomes.OneText.{one-run, one-session, one-deepen}

module _ (shown : AnswersAreShown) (terms : AnswersFollow) (covered : InstancesFollow) (p : ProblemTree) (valid : IsValid p) where
  is-right : (a : Answered) → Contains (problem_events p) (Answer a) → IsRight p a
  is-right a h =
      let t = terms p a valid h in record {
        filling = t.0;
        follows = t.1;
        instances = λ ts i. (covered p ts (length a.steps) valid (record { answer = a; found = h; instance = i; steps = refl })).1;
      }

  has-derivation : (a : Answered) → Contains (problem_events p) (Answer a) → (d : DerivationLines) × (dealt p a ≡ Some d) × ShowsAnswer p a d
  has-derivation a h = let s = shown p a valid h in (s.0, s.1, record { of_branch = s.1; asked = s.2; whole = s.3; shows = s.4; count = s.5 })

  event-among : (front es : List Event) (e : Event) → front ++ e ∷ es ≡ problem_events p → Contains (problem_events p) e
  event-among front es e h = subst (λ xs. Contains xs e) h (Contains-append_right front (e ∷ es) e (0, omega arith, refl))

  event-moved : (front es : List Event) (e : Event) → front ++ e ∷ es ≡ problem_events p → (front ++ e ∷ []) ++ es ≡ problem_events p
  event-moved front es e h = append_assoc front (e ∷ []) es ∙ h

  -- without proofs nothing stands behind an answer
  answers-plain : (k : ℕ) (front es back : List Event) → front ++ (es ++ back) ≡ problem_events p → AreShown false p k es (answers_text p k es)
  answers-plain k front [] back h = all_shown
  answers-plain k front (Answer a ∷ es) back h =
      let m = event-among front (es ++ back) (Answer a) h in
      subst (λ xs. AreShown false p k (Answer a ∷ es) (xs ++ answers_text p (suc k) es)) (append-nil (answer_text p (suc k) a))
      (answer_shown (is-right a m) [] refl (answers-plain (suc k) (front ++ Answer a ∷ []) es back (event-moved front (es ++ back) (Answer a) h)))
  answers-plain k front (Reached ∷ es) back h = reached_shown (answers-plain k (front ++ Reached ∷ []) es back (event-moved front (es ++ back) Reached h))

  -- with proofs the text of its derivation does
  answers-proved : (k : ℕ) (front es back : List Event) → front ++ (es ++ back) ≡ problem_events p → AreShown true p k es (proved_answers_text p k es)
  answers-proved k front [] back h = all_shown
  answers-proved k front (Answer a ∷ es) back h =
      let m = event-among front (es ++ back) (Answer a) h in
      let s = has-derivation a m in
      answer_shown (is-right a m) (derivation_text p.names (dealt p a)) (s.0, s.2, ap (derivation_text p.names) s.1)
      (answers-proved (suc k) (front ++ Answer a ∷ []) es back (event-moved front (es ++ back) (Answer a) h))
  answers-proved k front (Reached ∷ es) back h = reached_shown (answers-proved k (front ++ Reached ∷ []) es back (event-moved front (es ++ back) Reached h))

  pub answers-shown : (proofs : Bool) (es back : List Event) → es ++ back ≡ problem_events p → AreShown proofs p 0 es (all_lines proofs p 0 es)
  answers-shown false es back h = answers-plain 0 [] es back h
  answers-shown true es back h = answers-proved 0 [] es back h

-- the events that a run tells are the first ones of its problem
told-front : (first : Option ℕ) (p : ProblemTree) → (back : List Event) × (events_told first p ++ back ≡ problem_events p)
told-front None p = ([], append-nil (problem_events p))
told-front (Some k) p = by_upto (upto (problem_events p) k) refl
  where
    by_upto : (o : Option (List Event)) → upto (problem_events p) k ≡ o → (back : List Event) × (unwrap_or o (problem_events p) ++ back ≡ problem_events p)
    by_upto None h = ([], append-nil (problem_events p))
    by_upto (Some front) h = let f = upto_front (problem_events p) k front h in (f.0, sym f.1)

-- its text is their lines, and the last one
pub told-text : (first : Option ℕ) (proofs : Bool) (p : ProblemTree)
    → all_lines proofs p 0 (events_told first p) ++ end_of_run first p ≡ text_of_run first proofs p
told-text None proofs p = whole-lines proofs p
told-text (Some k) proofs p = by_upto (upto (problem_events p) k)
  where
    by_upto : (o : Option (List Event)) → all_lines proofs p 0 (unwrap_or o (problem_events p)) ++ stop_or_summary k p o ≡ stopped_or_whole proofs p k o
    by_upto None = whole-lines proofs p
    by_upto (Some front) = refl

-- a run that ended wrote what is shown
pub run-shown : AnswersAreShown → AnswersFollow → InstancesFollow → FollowsIsAnswered → (told : Option Texts) (run : RunWords)
    (before after : Option (List ℕ)) (p : ProblemTree) → RunAsks told run p → IsValid p
    → after ≡ append_known before (text_of_run run.first run.proofs p) → WritesShown told run before after
run-shown shown terms covered covers told run before after p asks valid written =
    let f = told-front run.first p in
    record {
      problem = p;
      asks = asks;
      answers = all_lines run.proofs p 0 (events_told run.first p);
      are_shown = answers-shown shown terms covered p valid run.proofs (events_told run.first p) f.0 f.1;
      covers = λ ts m h f e le. covers p ts m h valid f e le;
      written = written ∙ ap (append_known before) (sym (told-text run.first run.proofs p));
    }

-- a fault line has no status of a run that ended
cause-past : (cause : Cause) → cause_status cause ≤ 2 → ⊥
cause-past (Usage number) h = omega arith
cause-past (Absent name) h = omega arith
cause-past (Unreadable name) h = omega arith
cause-past (Oversized name) h = omega arith
cause-past (OversizedAs name version) h = omega arith
cause-past (Faulty name fault) h = omega arith

pub refused-past : (cause : Cause) (write_failed : Type 0) (before after : Option (List ℕ)) (status : ℕ) → Refuses cause write_failed before after status
    → status ≤ 2 → ⊥
refused-past cause w before after status r h =
    elim (refused-status cause w before after status r) [ inl e ↦ cause-past cause (subst (λ n. n ≤ 2) e h) | inr s ↦ (let e = s.0 in omega arith) ]

-- what the words of a run ask for
pub shown-run : (words : List (List ℕ)) (told : Option Texts) (run other : RunWords) (before after : Option (List ℕ)) → IsRun words run → IsRun words other
    → WritesShown told run before after → WritesShown told other before after
shown-run words told run other before after h k s = subst (λ r. WritesShown told r before after) (one-run words run other h k) s

pub shown-session : (words : List (List ℕ)) (told : Option Texts) (session other : SessionWords) (before after : Option (List ℕ)) → IsSession words session
    → IsSession words other → SessionShown told session before after → SessionShown told other before after
shown-session words told session other before after h k s = subst (λ x. SessionShown told x before after) (one-session words session other h k) s

pub shown-deepen : (words : List (List ℕ)) (told : Option Texts) (deepen other : DeepenWords) (before after : Option (List ℕ)) (status : ℕ)
    → IsDeepen words deepen → IsDeepen words other → DeepenShown told deepen before after status → DeepenShown told other before after status
shown-deepen words told deepen other before after status h k s =
    subst (λ x. DeepenShown told x before after status) (one-deepen words deepen other h k) s

pub same-reads : (words : List (List ℕ)) (run other : RunWords) (before after : List Entry) (taken later : List ℕ) (status : ℕ) → IsRun words run
    → IsRun words other → RunReads run before after taken later status → RunReads other before after taken later status
same-reads words run other before after taken later status h k r = subst (λ q. RunReads q before after taken later status) (one-run words run other h k) r
