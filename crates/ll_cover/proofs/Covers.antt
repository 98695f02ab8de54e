-- The answers of a search on its way, up to the first that covers a derivation.
use Rattle.std.proofs.Common.{◌≡◌, ℕ, zero, suc, ◌<◌, min, refl, ap, sym, subst, ◌∙◌, List, [], ◌∷◌, ◌++◌, length, take, All, Some, None, inl, inr, arith}
use Rattle.std.proofs.Common.{append_assoc, length-append}
use Rattle.std.specs.Prelude.{slice_get, Bool, Result, Ok, Err, IfOk, IsTrue, ◌↔◌}
use Rattle.std.proofs.lemmas.Bool.{cases_lt}
use Rattle.std.proofs.lemmas.List.{append-nil, take-map, take_all}
use Rattle.std.proofs.lemmas.List.Elements.{All-head, All-tail, All-push}
use Rattle.ll_bank.specs.declared.At.{At}
use Rattle.ll_bank.specs.Nodes.{Nodes, term_trees}
use Rattle.ll_laws.specs.declared.Event.{Event}
use Rattle.ll_laws.specs.declared.Event.TheVariants.{Answer, Reached}
use Rattle.ll_laws.specs.Answered.{Answered}
use Rattle.ll_laws.specs.Problem.{ProblemTree, problem_events}
use Rattle.ll_laws.specs.Search.{cut_count}
use Rattle.ll_laws.specs.Line.{DerivationLines}
use Rattle.ll_laws.specs.Dealt.{asked_terms}
use Rattle.ll_laws.specs.Instance.{IsInstance}
use Rattle.ll_laws.specs.Completeness.{answers_in, NamesCover}
use Rattle.ll_laws.proofs.CallerLemmas.{cut_count-suc}
use Rattle.ll_engine.specs.Seen.{Owing}
use Rattle.ll_engine.specs.Steps.{Steps, fresh}
use Rattle.ll_engine.specs.declared.engine.Step2.TheVariants.{Event as Found, Done, Moved}
use Rattle.ll_cover.specs.Covering.{IsCoveredBy, IsPassing, NamesFirst}

-- ---- answers among events

pub answers-append : (es fs : List Event) → answers_in (es ++ fs) ≡ answers_in es ++ answers_in fs
answers-append [] fs = refl
answers-append (Reached ∷ es) fs = answers-append es fs
answers-append (Answer a ∷ es) fs = ap (λ as'. a ∷ as') (answers-append es fs)

at_seam : (as' bs : List Answered) (a : Answered) → slice_get (as' ++ a ∷ bs) (length as') ≡ Some a
at_seam [] bs a = refl
at_seam (b ∷ as') bs a = at_seam as' bs a

before_seam : (as' bs : List Answered) (k : ℕ) → k < length as' → slice_get (as' ++ bs) k ≡ slice_get as' k
before_seam [] bs k l = absurd (omega arith)
before_seam (a ∷ as') bs zero l = refl
before_seam (a ∷ as') bs (suc k) l = before_seam as' bs k (omega arith)

at_place : (P : Answered → Type 0) (as' : List Answered) (k : ℕ) (a : Answered) → All P as' → slice_get as' k ≡ Some a → P a
at_place P [] k a h e = let q : None ≡ Some a = e in cc
at_place P (b ∷ as') zero a h e = let q : b ≡ a = cc in subst P q (All-head P b as' h)
at_place P (b ∷ as') (suc k) a h e = at_place P as' k a (All-tail P b as' h) e

-- ---- the way of the search

module _ (p : ProblemTree) (d : DerivationLines) where
  pub passing_begins : (o : Owing) → o ≡ fresh p → IsPassing p d o.events 0
  passing_begins o e = record {
    passed = [];
    events = ap (λ (w : Owing). w.events) e;
    counted = refl;
    none = λ k a l. absurd (omega arith);
  }

  -- an event that is no answer
  on : (es : List Event) (old new : List Event) (number : ℕ) → IsPassing p d old number → old ≡ es ++ new → answers_in es ≡ [] → IsPassing p d new number
  on es old new number w e none =
      let same : answers_in (w.passed ++ es) ≡ answers_in w.passed =
      answers-append w.passed es ∙ (ap (λ as'. answers_in w.passed ++ as') none ∙ append-nil (answers_in w.passed)) in
      record {
        passed = w.passed ++ es;
        events = append_assoc w.passed es new ∙ (ap (λ fs. w.passed ++ fs) (sym e) ∙ w.events);
        counted = w.counted ∙ ap (λ as'. cut_count (length as')) (sym same);
        none = subst (All (λ a. IsCoveredBy p d a → ⊥)) (sym same) w.none;
      }

  pub passing_moved : (old new : Owing) (number : ℕ) → IsPassing p d old.events number → Steps old Moved new → IsPassing p d new.events number
  passing_moved old new number w s = on [] old.events new.events number w s.events refl

  pub passing_reached : (old new : Owing) (number : ℕ) → IsPassing p d old.events number → Steps old (Found Reached) new → IsPassing p d new.events number
  passing_reached old new number w s = on (Reached ∷ []) old.events new.events number w s.events refl

  -- an answer that does not cover it
  pub passing_answer : (old new : Owing) (number : ℕ) (a : Answered) → IsPassing p d old.events number → Steps old (Found (Answer a)) new
      → (IsCoveredBy p d a → ⊥)
      → IsPassing p d new.events (cut_count (suc number))
  passing_answer old new number a w s not =
      let more : answers_in (w.passed ++ Answer a ∷ []) ≡ answers_in w.passed ++ a ∷ [] = answers-append w.passed (Answer a ∷ []) in
      let count : length (answers_in (w.passed ++ Answer a ∷ [])) ≡ suc (length (answers_in w.passed)) =
      ap length more ∙ (length-append (answers_in w.passed) (a ∷ []) ∙ (omega arith)) in
      record {
        passed = w.passed ++ Answer a ∷ [];
        events = append_assoc w.passed (Answer a ∷ []) new.events ∙ (ap (λ fs. w.passed ++ fs) (sym s.events) ∙ w.events);
        counted = ap (λ n. cut_count (suc n)) w.counted ∙ (cut_count-suc (length (answers_in w.passed)) ∙ ap cut_count (sym count));
        none = subst (All (λ b. IsCoveredBy p d b → ⊥)) (sym more) (All-push (λ b. IsCoveredBy p d b → ⊥) (answers_in w.passed) a w.none not);
      }

  -- one that does
  pub passing_names : (old new : Owing) (number : ℕ) (a : Answered) → IsPassing p d old.events number → Steps old (Found (Answer a)) new → IsCoveredBy p d a
      → NamesCover p d (cut_count (suc number))
  passing_names old new number a w s is =
      let all : answers_in (problem_events p) ≡ answers_in w.passed ++ a ∷ answers_in new.events =
      ap answers_in (sym w.events) ∙ (answers-append w.passed old.events ∙ ap (λ es. answers_in w.passed ++ answers_in es) s.events) in
      record {
        place = length (answers_in w.passed);
        counted = ap (λ n. cut_count (suc n)) w.counted ∙ cut_count-suc (length (answers_in w.passed));
        answer = a;
        is = ap (λ as'. slice_get as' (length (answers_in w.passed))) all ∙ at_seam (answers_in w.passed) (answers_in new.events) a;
        instance = is.instance;
        steps = is.steps;
      }

  pub passing_first : (old new : Owing) (number : ℕ) (a : Answered) → IsPassing p d old.events number → Steps old (Found (Answer a)) new → IsCoveredBy p d a
      → NamesFirst p d (cut_count (suc number))
  passing_first old new number a w s is =
      let all : answers_in (problem_events p) ≡ answers_in w.passed ++ a ∷ answers_in new.events =
      ap answers_in (sym w.events) ∙ (answers-append w.passed old.events ∙ ap (λ es. answers_in w.passed ++ answers_in es) s.events) in
      record {
        place = length (answers_in w.passed);
        counted = ap (λ n. cut_count (suc n)) w.counted ∙ cut_count-suc (length (answers_in w.passed));
        answer = a;
        is = ap (λ as'. slice_get as' (length (answers_in w.passed))) all ∙ at_seam (answers_in w.passed) (answers_in new.events) a;
        covers = is;
        before = λ k b l e.
            at_place (λ x. IsCoveredBy p d x → ⊥) (answers_in w.passed) k b w.none
            (sym (before_seam (answers_in w.passed) (a ∷ answers_in new.events) k l) ∙ (ap (λ as'. slice_get as' k) (sym all) ∙ e));
      }

  -- the end is not come to, where there is one that does
  pub passing_never_ends : (old new : Owing) (number some : ℕ) → IsPassing p d old.events number → Steps old Done new → NamesCover p d some → ⊥
  passing_never_ends old new number some w s c =
      let all : answers_in (problem_events p) ≡ answers_in w.passed =
      ap answers_in (sym w.events) ∙ (answers-append w.passed old.events
      ∙ (ap (λ es. answers_in w.passed ++ answers_in es) s.ends.1 ∙ append-nil (answers_in w.passed))) in
      at_place (λ a. IsCoveredBy p d a → ⊥) (answers_in w.passed) c.place c.answer w.none (ap (λ as'. slice_get as' c.place) (sym all) ∙ c.is)
      (record { instance = c.instance; steps = c.steps })

-- ---- the terms asked for

take_min : {X : Type 0} (n : ℕ) (xs : List X) → take (min n (length xs)) xs ≡ take n xs
take_min n xs = elim (cases_lt n (length xs)) [
  | inl l ↦ ap (λ k. take k xs) (let e : min n (length xs) ≡ n = omega arith in e)
  | inr l ↦ ap (λ k. take k xs) (let e : min n (length xs) ≡ length xs = omega arith in e) ∙ (take_all (length xs) xs (omega arith) ∙ sym (take_all n xs l))
]

pub asked_first : (bank : Nodes) (ts : List At) (n : ℕ) → term_trees bank (take (min n (length ts)) ts) ≡ take n (term_trees bank ts)
asked_first bank ts n = ap (term_trees bank) (take_min n ts) ∙ sym (take-map _ n ts)

-- ---- one number

pub first_once : (p : ProblemTree) (d : DerivationLines) (m n : ℕ) → NamesFirst p d m → NamesFirst p d n → m ≡ n
first_once p d m n a b = a.counted ∙ (ap (λ k. cut_count (suc k)) same ∙ sym b.counted)
  where
    same : a.place ≡ b.place
    same = elim (cases_lt a.place b.place) [
      | inl l ↦ absurd (b.before a.place a.answer l a.is a.covers)
      | inr l ↦ elim (cases_lt b.place a.place) [ inl k ↦ absurd (a.before b.place b.answer k b.is b.covers) | inr k ↦ omega arith ]
    ]

-- an answer covers the derivation exactly where its first terms, those asked for, have the derivation's as an instance
module _ (p : ProblemTree) (d : DerivationLines) (a : Answered) (bank dbank : Nodes) (ts ds : List At) (n : ℕ) (terms : term_trees bank ts ≡ a.terms)
    (asked : term_trees dbank ds ≡ d.asked)
    (count : n ≡ min (length p.asked) (length ts)) (steps : length a.steps ≡ length d.nodes) where
  first_terms : term_trees bank (take n ts) ≡ asked_terms p a
  first_terms = ap (λ k. term_trees bank (take k ts)) count ∙ (asked_first bank ts (length p.asked) ∙ ap (take (length p.asked)) terms)

  pub covered_by : {E : Type 0} (r : Result Bool E) → IfOk r (λ is. IsTrue is ↔ IsInstance (term_trees bank (take n ts)) (term_trees dbank ds))
      → IfOk r (λ is. IsTrue is ↔ IsCoveredBy p d a)
  covered_by (Err e) h = tt
  covered_by (Ok is) h = (
    λ t. record { instance = subst (λ us. IsInstance us d.asked) first_terms (subst (IsInstance (term_trees bank (take n ts))) asked (h.0 t)); steps = steps },
    λ c. h.1 (subst (IsInstance (term_trees bank (take n ts))) (sym asked) (subst (λ us. IsInstance us d.asked) (sym first_terms) c.instance)),
  )
