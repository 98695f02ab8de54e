-- A greater bound keeps each answer of a search, and adds only answers with more steps.
use Rattle.std.proofs.Common.{◌≡◌, ◌≤◌, ◌<◌, ◌+◌, ℕ, zero, suc, refl, ap, sym, ◌∙◌, Bool, true, false, List, [], ◌∷◌, ◌++◌, length, cond, inl, inr, arith}
use Rattle.std.specs.Prelude.{Option, Some, None, if◌then◌else◌, nat_le, flat_map, ◌||◌, not}
use Rattle.std.proofs.lemmas.Bool.{le-leb, lt-leb}
use Rattle.std.proofs.lemmas.List.Concat.{flat_map-cons}
use Rattle.std.proofs.lemmas.List.Elements.{filter-append}
use Rattle.ll_cover.proofs.CallerLemmas.{answers-append}
use Rattle.ll_bank.specs.Form.{Form}
use Rattle.ll_laws.specs.declared.Event.{Event}
use Rattle.ll_laws.specs.declared.Event.TheVariants.{Reached, Answer}
use Rattle.ll_laws.specs.Answered.{Answered}
use Rattle.ll_laws.specs.Module.{Setting}
use Rattle.ll_laws.specs.Problem.{setting_of, start_of}
use Rattle.ll_laws.specs.Completeness.{answers_in}
use Rattle.ll_laws.specs.Dealt.{dealt}
use Rattle.ll_laws.specs.Settle.{Item, has_live}
use Rattle.ll_laws.specs.State.{State, settle}
use Rattle.ll_laws.specs.Attempt.{successors}
use Rattle.ll_laws.specs.Search.{events, events_settled, events_of, answer_of}
use Rattle.ll_top.specs.textbook.Kept.{short_answers, AnswersAreKept, DerivationsAreKept}
use Rattle.ll_laws.proofs.CallerLemmas.{Among, settle_steps}
use Rattle.ll_top.proofs.following.Steps.{successor_steps}

abbrev is_short : ℕ → Answered → Bool
is_short b a = nat_le (length a.steps) b

-- the short answers of the first events and then those of the others
short-append : (b : ℕ) (es fs : List Event) → short_answers b (answers_in (es ++ fs)) ≡ short_answers b (answers_in es) ++ short_answers b (answers_in fs)
short-append b es fs = ap (short_answers b) (answers-append es fs) ∙ filter-append (is_short b) (answers_in es) (answers_in fs)

-- a test in front of a list
short-head : (b : ℕ) (a : Answered) (as' : List Answered) (v : Bool) → is_short b a ≡ v
    → short_answers b (a ∷ as') ≡ cond v (a ∷ short_answers b as') (short_answers b as')
short-head b a as' v e = ap (λ t. cond t (a ∷ short_answers b as') (short_answers b as')) e

-- ---- an answer of a state with nothing left to do

module _ (b : ℕ) (t : State) where
  abbrev ends : Bool → List Event
  ends v = if v then Answer (record { terms = t.terms; steps = t.steps }) ∷ [] else []

  all-short : length t.steps ≤ b → answers_in (answer_of t) ≡ short_answers b (answers_in (answer_of t))
  all-short le = by (not (has_live t.context) || t.flag)
    where
      by : (v : Bool) → answers_in (ends v) ≡ short_answers b (answers_in (ends v))
      by false = refl
      by true = sym (short-head b (record { terms = t.terms; steps = t.steps }) [] true (le-leb (length t.steps) b le))

  none-short : b < length t.steps → short_answers b (answers_in (answer_of t)) ≡ []
  none-short lt = by (not (has_live t.context) || t.flag)
    where
      by : (v : Bool) → short_answers b (answers_in (ends v)) ≡ []
      by false = refl
      by true = short-head b (record { terms = t.terms; steps = t.steps }) [] false (lt-leb (length t.steps) b lt)

-- ---- the searches of the states that inferences give

no-short-flat : (b : ℕ) (f : State → List Event) (us : List State) → ((u : State) → Among u us → short_answers b (answers_in (f u)) ≡ [])
    → short_answers b (answers_in (flat_map f us)) ≡ []
no-short-flat b f [] h = refl
no-short-flat b f (u ∷ us) h =
    ap (λ es. short_answers b (answers_in es)) (flat_map-cons f u us)
    ∙ (short-append b (f u) (flat_map f us)
    ∙ let e = h u (inl refl) in let d = no-short-flat b f us (λ x a. h x (inr a)) in
    (ap (λ as'. as' ++ short_answers b (answers_in (flat_map f us))) e ∙ d))

short-flat : (b : ℕ) (f g : State → List Event) (us : List State)
    → ((u : State) → Among u us → answers_in (f u) ≡ short_answers b (answers_in (g u)))
    → answers_in (flat_map f us) ≡ short_answers b (answers_in (flat_map g us))
short-flat b f g [] h = refl
short-flat b f g (u ∷ us) h =
    ap answers_in (flat_map-cons f u us)
    ∙ (answers-append (f u) (flat_map f us)
    ∙ (ap (λ as'. as' ++ answers_in (flat_map f us)) (h u (inl refl))
    ∙ (ap (λ as'. short_answers b (answers_in (g u)) ++ as') (short-flat b f g us (λ x a. h x (inr a)))
    ∙ (sym (short-append b (g u) (flat_map g us)) ∙ ap (λ es. short_answers b (answers_in es)) (sym (flat_map-cons g u us))))))

-- ---- a search

-- no answer has fewer steps than the state from which it is searched
none-within : (ms : Setting) (n : ℕ) (s : State) (b : ℕ) → b < length s.steps → short_answers b (answers_in (events ms n s)) ≡ []
unfolding events
none-within ms zero s b lt = step (settle s) refl
  where
    step : (o : Option State) → settle s ≡ o → short_answers b (answers_in (events_settled (λ t. Reached ∷ []) o)) ≡ []
    step None q = refl
    step (Some t) q = front t.agenda
      where
        front : (g : List (Item Form)) → short_answers b (answers_in (events_of (λ t. Reached ∷ []) t g)) ≡ []
        front [] = let e = ap length (settle_steps s t q) in none-short b t (omega (arith, e, lt))
        front (x ∷ g) = refl
none-within ms (suc n) s b lt = step (none-within ms n) (settle s) refl
  where
    step : ((u : State) (b : ℕ) → b < length u.steps → short_answers b (answers_in (events ms n u)) ≡ []) → (o : Option State) → settle s ≡ o
        → short_answers b (answers_in (events_settled (λ t. flat_map (events ms n) (successors ms t)) o)) ≡ []
    step go None q = refl
    step go (Some t) q = front t.agenda
      where
        front : (g : List (Item Form)) → short_answers b (answers_in (events_of (λ t. flat_map (events ms n) (successors ms t)) t g)) ≡ []
        front [] = let e = ap length (settle_steps s t q) in none-short b t (omega (arith, e, lt))
        front (x ∷ g) =
            no-short-flat b (events ms n) (successors ms t)
            (λ u a. let e = ap length (settle_steps s t q) in let d = successor_steps ms t u a in go u b (omega (arith, e, d, lt)))

-- with so many more steps allowed, the answers are those with at most as many steps
kept : (ms : Setting) (n m : ℕ) (s : State) (b : ℕ) → n ≤ m → b ≡ length s.steps + n
    → answers_in (events ms n s) ≡ short_answers b (answers_in (events ms m s))
unfolding events
kept ms zero zero s b le is = step (settle s) refl
  where
    step : (o : Option State) → settle s ≡ o
        → answers_in (events_settled (λ t. Reached ∷ []) o) ≡ short_answers b (answers_in (events_settled (λ t. Reached ∷ []) o))
    step None q = refl
    step (Some t) q = front t.agenda
      where
        front : (g : List (Item Form)) → answers_in (events_of (λ t. Reached ∷ []) t g) ≡ short_answers b (answers_in (events_of (λ t. Reached ∷ []) t g))
        front [] = let e = ap length (settle_steps s t q) in all-short b t (omega (arith, e, is))
        front (x ∷ g) = refl
kept ms zero (suc m) s b le is = step (settle s) refl
  where
    step : (o : Option State) → settle s ≡ o
        → answers_in (events_settled (λ t. Reached ∷ []) o)
        ≡ short_answers b (answers_in (events_settled (λ t. flat_map (events ms m) (successors ms t)) o))
    step None q = refl
    step (Some t) q = front t.agenda
      where
        front : (g : List (Item Form)) → answers_in (events_of (λ t. Reached ∷ []) t g)
            ≡ short_answers b (answers_in (events_of (λ t. flat_map (events ms m) (successors ms t)) t g))
        front [] = let e = ap length (settle_steps s t q) in all-short b t (omega (arith, e, is))
        front (x ∷ g) =
            sym (no-short-flat b (events ms m) (successors ms t)
            (λ u a. let e = ap length (settle_steps s t q) in let d = successor_steps ms t u a in none-within ms m u b (omega (arith, e, d, is))))
kept ms (suc n) zero s b le is = absurd (omega arith)
kept ms (suc n) (suc m) s b le is = step (kept ms n m) (settle s) refl
  where
    step : ((u : State) (b : ℕ) → n ≤ m → b ≡ length u.steps + n → answers_in (events ms n u) ≡ short_answers b (answers_in (events ms m u)))
        → (o : Option State) → settle s ≡ o
        → answers_in (events_settled (λ t. flat_map (events ms n) (successors ms t)) o)
        ≡ short_answers b (answers_in (events_settled (λ t. flat_map (events ms m) (successors ms t)) o))
    step go None q = refl
    step go (Some t) q = front t.agenda
      where
        front : (g : List (Item Form)) → answers_in (events_of (λ t. flat_map (events ms n) (successors ms t)) t g)
            ≡ short_answers b (answers_in (events_of (λ t. flat_map (events ms m) (successors ms t)) t g))
        front [] = let e = ap length (settle_steps s t q) in all-short b t (omega (arith, e, is))
        front (x ∷ g) =
            short-flat b (events ms n) (events ms m) (successors ms t)
            (λ u a. let e = ap length (settle_steps s t q) in let d = successor_steps ms t u a in go u b (omega (arith, le)) (omega (arith, e, d, is)))

pub answers_are_kept : AnswersAreKept
answers_are_kept p n m le = kept (setting_of p) n m (start_of p) n le (omega arith)

-- ---- derivations

pub derivations_are_kept : DerivationsAreKept
unfolding dealt
derivations_are_kept p n a = refl
