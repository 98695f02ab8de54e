-- The search of a valid problem finds whatever a derivation shows.
use Rattle.std.proofs.Common.{◌≡◌, inl, inr, ℕ, zero, suc, ◌+◌, refl, ap, sym, subst, ◌∙◌, Bool, true, false, List, [], ◌∷◌, map, length, take, replicate}
use Rattle.std.proofs.Common.{arith}
use Rattle.std.specs.Prelude.{◌||◌, Some, slice_get, slice_index, slice_index_or}
use Rattle.std.specs.List.{list_any, list_all}
use Rattle.std.proofs.lemmas.List.{length-map}
use Rattle.std.proofs.Math.Bool.{or-true}
use Rattle.ll_list_laws.proofs.CallerLemmas.{and_true_left as and_left, and_true_right as and_right, map_map, map_same}
use Rattle.ll_bank.specs.Term.{Term, Var, sub, is_closed, eigens_below}
use Rattle.ll_laws.specs.declared.Event.{Event}
use Rattle.ll_laws.specs.declared.Event.TheVariants.{Reached, Answer}
use Rattle.ll_laws.specs.Answered.{Answered}
use Rattle.ll_laws.specs.State.{sub_state}
use Rattle.ll_laws.specs.Attempt.{vars_from}
use Rattle.ll_laws.specs.Search.{events, is_answer, is_reached, any_reached, cut_count}
use Rattle.ll_laws.specs.Output.{status_by, output_status}
use Rattle.ll_laws.specs.Problem.{setting_of, start_of, problem_events}
use Rattle.ll_laws.specs.Run.{Trace, Run, run_start}
use Rattle.ll_laws.specs.Dealt.{value}
use Rattle.ll_laws.specs.Instance.{IsInstance, hide}
use Rattle.ll_laws.specs.Completeness.{FitLevels, answers_in, ShownIsFound, ShownIsAnswered, ShownIsNumbered, NothingIsShown}
use Rattle.ll_laws.proofs.unification.SubLaws.{sub_comp}
use Rattle.ll_laws.proofs.search.SearchLaws.{events_steady}
use Rattle.ll_laws.proofs.consistency.ConsistentStates.{starts_consistent}
use Rattle.ll_laws.proofs.completeness.Grounding.{grounded, closed_sub}
use Rattle.ll_laws.proofs.search.AnswerRuns.{Among, among}
use Rattle.ll_laws.proofs.derivations.DealtShown.{run_begins}
use Rattle.ll_laws.proofs.completeness.Moving.{no_numbers, move-hides}
use Rattle.ll_laws.proofs.completeness.Numbering.{move-below, move-closed}
use Rattle.ll_laws.proofs.completeness.Chosen.{new-values}
use Rattle.ll_laws.proofs.search.RunsFound.{runs_found, trace_unlevelled}
use Rattle.ll_laws.proofs.completeness.ShownRun.{shown_runs}
use Rattle.ll_laws.proofs.completeness.Hiding.{hidden_cover}

-- ---- hidden terms

hide-below : (name : Term → ℕ) (t : Term) → eigens_below 0 (hide name t) ≡ true
hide-below name t = ap (eigens_below 0) (sym (move-hides name t)) ∙ move-below no_numbers name 0 (λ c j h. absurd (cc)) t

hide-closed : (name : Term → ℕ) (t : Term) → is_closed t ≡ true → is_closed (hide name t) ≡ true
hide-closed name t h = ap is_closed (sym (move-hides name t)) ∙ move-closed no_numbers name t h

value-hidden : (name : Term → ℕ) (ts : List Term) (x y : ℕ) → eigens_below 0 (slice_index_or (map (hide name) ts) x (Var y)) ≡ true
value-hidden name [] x y = refl
value-hidden name (t ∷ ts) zero y = hide-below name t
value-hidden name (t ∷ ts) (suc x) y = value-hidden name ts x y

value-closed : (name : Term → ℕ) (ts : List Term) (x y : ℕ) → list_all is_closed ts ≡ true → is_closed (slice_index_or (map (hide name) ts) x (Var y)) ≡ true
value-closed name [] x y h = refl
value-closed name (t ∷ ts) zero y h = hide-closed name t (and_left (is_closed t) (list_all is_closed ts) h)
value-closed name (t ∷ ts) (suc x) y h = value-closed name ts x y (and_right (is_closed t) (list_all is_closed ts) h)

no-levels : (n x : ℕ) → slice_index (replicate n 0) x ≡ 0
no-levels zero x = refl
no-levels (suc n) zero = refl
no-levels (suc n) (suc x) = no-levels n x

-- ---- an instance of an instance

instance-of : (a b c : List Term) → IsInstance a b → IsInstance b c → IsInstance a c
instance-of a b c i j = record {
  values = λ x. sub j.values (i.values x);
  closed = λ x. closed_sub j.values j.closed (i.values x) (i.closed x);
  is = j.is ∙ (ap (map (sub j.values)) i.is ∙ (map_map (sub j.values) (sub i.values) a ∙ map_same _ _ (sub_comp j.values i.values) a));
}

-- ---- the laws

pub shown_found : ShownIsFound
shown_found p d bound valid sh le =
    let h = hidden_cover d.asked sh.closed in
    let name = h.0 in
    let ts : List Term = map (hide name) d.asked in
    let f : ℕ → Term = value ts in
    let count : length ts ≡ length p.asked = length-map d.asked (hide name) ∙ sh.shows.count in
    let run = shown_runs p d name valid sh in
    let n = length (start_of p).levels in
    let values : map (sub f) (vars_from 0 (length p.asked)) ≡ ts = ap (λ k. map (sub f) (vars_from 0 k)) (sym count) ∙ new-values [] ts 0 refl in
    let begins : run_start p ts ≡ grounded f (start_of p) = sym (run_begins p f ts valid (sym values)) in
    let back : Run (setting_of p) (length d.nodes) (sub_state f (start_of p)) = record {
      nodes = run.nodes;
      trace = trace_unlevelled (setting_of p) (start_of p).levels run.nodes (grounded f (start_of p))
          (subst (λ s. Trace (setting_of p) run.nodes s) begins run.trace);
      count = run.count;
      numberless = run.numberless;
    } in
    let fit : FitLevels (start_of p).levels f = record {
      closed = λ x. value-closed name d.asked x x sh.closed;
      below = λ x l. subst (λ k. eigens_below k (f x) ≡ true) (sym (no-levels (length p.asked) x)) (value-hidden name d.asked x x);
    } in
    let r = runs_found (length p.names) (setting_of p) (start_of p) f (length d.nodes) bound valid.modules (starts_consistent p valid) fit back le in
    let found : IsInstance (take (length d.asked) r.answer.terms) ts =
    subst (λ k. IsInstance (take k r.answer.terms) ts) (length-map d.asked (hide name))
    (subst (λ us. IsInstance (take (length us) r.answer.terms) us) values r.instance) in
    record {
      answer = r.answer;
      found = r.found;
      instance = instance-of (take (length d.asked) r.answer.terms) ts d.asked found (h.1);
      count = r.count ∙ (let e : 0 + length d.nodes ≡ length d.nodes = omega arith in e);
    }

pub shown_answered : ShownIsAnswered
shown_answered p d valid sh le =
    let r = shown_found p d p.bound valid sh le in
    (r.answer, r.found, subst (λ k. IsInstance (take k r.answer.terms) d.asked) sh.shows.count r.instance, r.count)

-- the place of an answer among the answers
record AnswerPlace (es : List Event) (a : Answered) : Type 0 where
  place : ℕ
  is : slice_get (answers_in es) place ≡ Some a

answer_place : (es : List Event) (a : Answered) → Among (Answer a) es → AnswerPlace es a
answer_place [] a m = absurd m
answer_place (Reached ∷ es) a (inl q) = cc
answer_place (Reached ∷ es) a (inr m) = let r = answer_place es a m in record { place = r.place; is = r.is }
answer_place (Answer b ∷ es) a (inl q) = record { place = 0; is = let e : b ≡ a = cc in ap Some e }
answer_place (Answer b ∷ es) a (inr m) = let r = answer_place es a m in record { place = suc r.place; is = r.is }

pub shown_numbered : ShownIsNumbered
shown_numbered p d valid sh le =
    let r = shown_answered p d valid sh le in
    let w = answer_place (problem_events p) (r.0) (among (problem_events p) (Answer (r.0)) (r.1)) in
    (cut_count (suc w.place), record { place = w.place; counted = refl; answer = r.0; is = w.is; instance = r.2; steps = r.3 })

some_answer : (es : List Event) (a : Answered) → Among (Answer a) es → list_any is_answer es ≡ true
some_answer [] a m = absurd m
some_answer (e ∷ es) a (inl q) = ap (λ z. is_answer z || list_any is_answer es) q
some_answer (e ∷ es) a (inr m) = ap (λ b. is_answer e || b) (some_answer es a m) ∙ or-true (is_answer e)

-- what status 1 says of the events
record IsBare (es : List Event) : Type 0 where
  answerless : list_any is_answer es ≡ false
  steady : any_reached es ≡ false

bare : (es : List Event) → output_status es ≡ 1 → IsBare es
bare es h = step (list_any is_answer es) refl (list_any is_reached es) refl h
  where
    step : (a : Bool) → list_any is_answer es ≡ a → (r : Bool) → list_any is_reached es ≡ r → status_by a r ≡ 1 → IsBare es
    step true p r q h = absurd (omega (arith, h))
    step false p true q h = absurd (omega (arith, h))
    step false p false q h = record { answerless = p; steady = q }

pub nothing_shown : NothingIsShown
nothing_shown p d valid status sh =
    let high : ℕ = p.bound + length d.nodes in
    let w = bare (problem_events p) status in
    let r = shown_found p d high valid sh (omega arith) in
    let same : events (setting_of p) high (start_of p) ≡ problem_events p = events_steady (setting_of p) p.bound high (start_of p) (omega arith) w.steady in
    let some = some_answer (problem_events p) r.answer (subst (Among (Answer r.answer)) same
    (among (events (setting_of p) high (start_of p)) (Answer r.answer) r.found)) in
    let z : true ≡ false = sym some ∙ w.answerless in cc
