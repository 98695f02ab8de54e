-- What the search's invariant says of an answer.
use Rattle.std.proofs.Common.{◌≡◌, ◌≤◌, ◌<◌, ℕ, zero, suc, ◌+◌, ◌*◌, refl, ap, sym, subst, Bool, true, false, List, [], ◌∷◌, length, inl, inr, arith}
use Rattle.std.proofs.Math.Nat.{mul-le-mul_left}
use Rattle.std.specs.Prelude.{Option, Some, None, flat_map, if◌then◌else◌, not, ◌||◌}
use Rattle.std.specs.List.{list_all}
use Rattle.ll_bank.specs.Form.{Form}
use Rattle.ll_laws.specs.declared.Candidate.{Candidate}
use Rattle.ll_laws.specs.declared.Event.TheVariants.{Reached, Answer}
use Rattle.ll_laws.specs.Answered.{Answered}
use Rattle.ll_laws.specs.Module.{Setting}
use Rattle.ll_laws.specs.Settle.{Item, Goal, has_live}
use Rattle.ll_laws.specs.State.{State, settle}
use Rattle.ll_laws.specs.Attempt.{attempt, attempt_agenda, successors, tries, option_to_states}
use Rattle.ll_laws.specs.Search.{events, events_settled, events_of, answer_of}
use Rattle.ll_laws.specs.Valid.{AreModules}
use Rattle.ll_laws.specs.Consistent.{IsConsistent, AreGoals, allowed_in, is_made}
use Rattle.ll_laws.proofs.CallerLemmas.{settles_consistent, steps_consistent, Among, from, settle_steps}
use Rattle.ll_top.proofs.following.Steps.{attempt_steps}
use Rattle.ll_top.specs.spelled.Taking.{TakesAt, TermsTake}
use Rattle.ll_top.proofs.respelling.States.{StepsFit, steps-more, GoalsTake, ModulesTake, StateTakes, settles-take, goal-takes}

-- an answer of a branch with at most so many steps
pub record AnswerTakes (takes : TakesAt) (most base asked budget : ℕ) (a : Answered) : Type 0 where
  pub terms : TermsTake takes [] a.terms
  pub steps : StepsFit (base + budget) most a.steps
  pub eigens : ℕ
  pub few : eigens ≤ budget
  pub made : list_all (is_made (length a.terms) eigens) a.terms ≡ true
  pub count : length a.terms ≤ asked + budget * most
  pub short : length a.steps ≤ budget

module _ (takes : TakesAt) (most base asked : ℕ) (enough : 0 < most) where
  at-answer : (m : Setting) (t : State) (a : Answered) (budget : ℕ) → IsConsistent m t → StateTakes takes most base asked enough t → length t.steps ≤ budget
      → Among (Answer a) (answer_of t) → AnswerTakes takes most base asked budget a
  at-answer m t a budget i k le h = step (not (has_live t.context) || t.flag) h
    where
      step : (b : Bool) → Among (Answer a) (if b then Answer (record { terms = t.terms; steps = t.steps }) ∷ [] else [])
          → AnswerTakes takes most base asked budget a
      step false h = absurd h
      step true (inr h) = absurd h
      step true (inl q) =
          let x : Answered = record { terms = t.terms; steps = t.steps } in
          let e : x ≡ a = cc in
          subst (AnswerTakes takes most base asked budget) e
          (record {
            terms = k.terms;
            steps = steps-more (base + length t.steps) (base + budget) most t.steps (omega (arith, le)) k.steps;
            eigens = t.eigens;
            few = omega (arith, le, k.eigens);
            made = subst (λ n. list_all (is_made n t.eigens) t.terms ≡ true) (sym i.term_count) i.terms;
            count = omega (arith, i.term_count, k.levels, mul-le-mul_left most le);
            short = le;
          })

  step-takes : (m : Setting) (s t : State) (c : Candidate) → ModulesTake takes most base asked enough m.modules → IsConsistent m s
      → StateTakes takes most base asked enough s → (a : List (Item Form)) → AreGoals (allowed_in m s) a → GoalsTake takes most base asked enough a
      → attempt_agenda m s a c ≡ Some t → StateTakes takes most base asked enough t
  step-takes m s t c ms i k (Goal g ∷ rest) r f h = goal-takes takes most base asked enough m s t g rest c ms i k (r.0).loads f.0 f.1 h
  step-takes m s t c ms i k _ r f h = cc

  attempt-takes : (m : Setting) (s t : State) (c : Candidate) → ModulesTake takes most base asked enough m.modules → IsConsistent m s
      → StateTakes takes most base asked enough s → attempt m s c ≡ Some t → StateTakes takes most base asked enough t
  unfolding attempt
  attempt-takes m s t c ms i k h = step-takes m s t c ms i k s.agenda i.goals k.goals h

  -- a candidate by which the first state goes on to the second
  record Succeeded (m : Setting) (s u : State) : Type 0 where
    by : Candidate
    gives : attempt m s by ≡ Some u

  succeeded : (m : Setting) (s u : State) → Among u (successors m s) → Succeeded m s u
  unfolding successors
  succeeded m s u h =
      let o = from (λ c. option_to_states (attempt m s c)) (tries s) u h in
      record { by = o.x; gives = step (attempt m s o.x) o.gives }
    where
      step : (o : Option State) → Among u (option_to_states o) → o ≡ Some u
      step None h = absurd h
      step (Some t) (inl q) = ap Some q
      step (Some t) (inr h) = absurd h

  pub answer-takes : (names : ℕ) (m : Setting) → AreModules names m.modules m.modules → ModulesTake takes most base asked enough m.modules
      → (n : ℕ) (s : State) (a : Answered) → IsConsistent m s → StateTakes takes most base asked enough s → Among (Answer a) (events m n s)
      → AnswerTakes takes most base asked (length s.steps + n) a
  unfolding events
  answer-takes names m v ms zero s a i k h = step (settle s) refl h
    where
      step : (o : Option State) → settle s ≡ o → Among (Answer a) (events_settled (λ t. Reached ∷ []) o)
          → AnswerTakes takes most base asked (length s.steps + 0) a
      step None q h = absurd h
      step (Some t) q h = front t.agenda h
        where
          front : (g : List (Item Form)) → Among (Answer a) (events_of (λ t. Reached ∷ []) t g) → AnswerTakes takes most base asked (length s.steps + 0) a
          front [] h =
              let e = ap length (settle_steps s t q) in
              at-answer m t a (length s.steps + 0) (settles_consistent m s t i q) (settles-take takes most base asked enough s t k q) (omega (arith, e)) h
          front (x ∷ g) (inl w) = cc
          front (x ∷ g) (inr w) = absurd w
  answer-takes names m v ms (suc n) s a i k h = step (answer-takes names m v ms n) (settle s) refl h
    where
      step : ((u : State) (a : Answered) → IsConsistent m u → StateTakes takes most base asked enough u → Among (Answer a) (events m n u)
          → AnswerTakes takes most base asked (length u.steps + n) a)
          → (o : Option State) → settle s ≡ o → Among (Answer a) (events_settled (λ t. flat_map (events m n) (successors m t)) o)
          → AnswerTakes takes most base asked (length s.steps + suc n) a
      step go None q h = absurd h
      step go (Some t) q h = front t.agenda h
        where
          front : (g : List (Item Form)) → Among (Answer a) (events_of (λ t. flat_map (events m n) (successors m t)) t g)
              → AnswerTakes takes most base asked (length s.steps + suc n) a
          front [] h =
              let e = ap length (settle_steps s t q) in
              at-answer m t a (length s.steps + suc n) (settles_consistent m s t i q) (settles-take takes most base asked enough s t k q) (omega (arith, e)) h
          front (x ∷ g) h =
              let o = from (events m n) (successors m t) (Answer a) h in
              let w = succeeded m t o.x o.among in
              let it = settles_consistent m s t i q in
              let kt = settles-take takes most base asked enough s t k q in
              let r = go o.x a (steps_consistent names m t o.x w.by v it w.gives) (attempt-takes m t o.x w.by ms it kt w.gives) o.gives in
              let e = ap length (settle_steps s t q) in
              let f = attempt_steps m t o.x w.by w.gives in
              let same : length o.x.steps + n ≡ length s.steps + suc n = omega (arith, e, f) in
              subst (λ b. AnswerTakes takes most base asked b a) same r
