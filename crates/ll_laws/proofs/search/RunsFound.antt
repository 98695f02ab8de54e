-- What a run brings to an answer, with terms chosen for the variables of a state, the search finds from the state itself.
use Rattle.std.proofs.Common.{◌≡◌, ◌≤◌, ◌<◌, inl, inr, ℕ, zero, suc, ◌+◌, refl, ap, sym, subst, ◌∙◌, Bool, true, false, List, [], ◌∷◌, ◌++◌, map, length, take}
use Rattle.std.proofs.Common.{arith, append_assoc, length-append}
use Rattle.std.specs.Prelude.{◌||◌, not, if◌then◌else◌, Option, Some, None, option_map, slice_index, Contains}
use Rattle.std.specs.List.{take-map, list_any}
use Rattle.std.proofs.lemmas.List.{append-nil, length-map}
use Rattle.std.proofs.Math.Seq.{take-append_seam}
use Rattle.ll_list_laws.proofs.CallerLemmas.{or_false_left as or_off_left, or_false_right as or_off_right}
use Rattle.ll_bank.specs.Term.{Term, Var, sub, is_closed, eigens_below}
use Rattle.ll_bank.specs.Form.{Form, sub_form}
use Rattle.ll_laws.specs.declared.Candidate.{Candidate}
use Rattle.ll_laws.specs.declared.Event.TheVariants.{Answer}
use Rattle.ll_laws.specs.declared.Step.{Step}
use Rattle.ll_laws.specs.Answered.{Answered}
use Rattle.ll_laws.specs.Module.{Setting}
use Rattle.ll_laws.specs.Settle.{Item, Goal, LolliEnd, ImpEnd, WithMiddle, WithEnd, BangEnd, Front, has_live}
use Rattle.ll_laws.specs.State.{State, settle, front_of, with_front, sub_item, sub_state}
use Rattle.ll_laws.specs.Attempt.{attempt, attempt_goal, attempt_agenda, successors, option_to_states, tries, agenda_tries, goal_tries, vars_from}
use Rattle.ll_laws.specs.Search.{events}
use Rattle.ll_laws.specs.Valid.{AreModules}
use Rattle.ll_laws.specs.Consistent.{IsConsistent, allowed_in}
use Rattle.ll_laws.specs.Line.{Line, counts_numbers}
use Rattle.ll_laws.specs.Run.{Goes, goes_one, goes_top, goes_tensor, goes_left, goes_right, goes_with, goes_bang, goes_lolli, goes_imp, goes_forall}
use Rattle.ll_laws.specs.Run.{goes_exists, goes_use, goes_atom, Trace, trace_end, trace_step, is_done, goes_num}
use Rattle.ll_laws.specs.Dealt.{value}
use Rattle.ll_laws.specs.Completeness.{RunsAreFound}
use Rattle.ll_laws.proofs.unification.SubLaws.{IsClosing}
use Rattle.ll_laws.proofs.search.SettleLaws.{settle-sub}
use Rattle.ll_laws.proofs.search.SearchLaws.{events_answer, events_step}
use Rattle.ll_laws.proofs.consistency.ConsistentStates.{settles_consistent}
use Rattle.ll_laws.proofs.consistency.ConsistentSteps.{steps_consistent}
use Rattle.ll_laws.proofs.completeness.Grounding.{grounded, settle_grounded, settle_with}
use Rattle.ll_laws.proofs.search.Projected.{step_of, goes_steps}
use Rattle.ll_laws.proofs.search.AnswerRuns.{Among, live_grounded}
use Rattle.ll_laws.proofs.search.LeafTries.{among_flat}
use Rattle.ll_laws.proofs.search.Lifting.{lift, keeps_terms}
use Rattle.ll_laws.proofs.completeness.Chosen.{FitsAll, value-closing, AgreeBelow, goals-agree, resources-agree, made-agree, listed, same_parts}

-- ---- settling

unlevelled_none : (s : State) (o : Option (Front Form Form)) → front_of s o ≡ None → front_of (record s { levels = [] }) o ≡ None
unlevelled_none s None h = refl
unlevelled_none s (Some x) h = cc

settle_unlevelled_none : (s : State) → settle s ≡ None → settle (record s { levels = [] }) ≡ None
unfolding settle
settle_unlevelled_none s h = unlevelled_none s _ h

-- what a state with terms for its variables settles to is what the state itself settles to
record SettlesBack (f : ℕ → Term) (s c : State) : Type 0 where
  settled : State
  settles : settle s ≡ Some settled
  is : c ≡ grounded f settled

settle_back : (f : ℕ → Term) (s c : State) → settle (grounded f s) ≡ Some c → SettlesBack f s c
settle_back f s c h = step (settle s) refl
  where
    step : (o : Option State) → settle s ≡ o → SettlesBack f s c
    step None q =
        let a : settle (sub_state f s) ≡ None = settle-sub f s ∙ ap (option_map (sub_state f)) q in
        let b : None ≡ Some c = sym (settle_unlevelled_none (sub_state f s) a) ∙ h in cc
    step (Some t) q = let w : Some c ≡ Some (grounded f t) = sym h ∙ settle_grounded f s t q in record { settled = t; settles = q; is = cc }

record GoalBack (f : ℕ → Term) (a : List (Item Form)) (g : Form) (rest : List (Item Form)) : Type 0 where
  goal : Form
  others : List (Item Form)
  agenda : a ≡ Goal goal ∷ others
  goal-is : sub_form f goal ≡ g
  others-are : map (sub_item f) others ≡ rest

goal_back : (f : ℕ → Term) (a : List (Item Form)) (g : Form) (rest : List (Item Form)) → map (sub_item f) a ≡ Goal g ∷ rest → GoalBack f a g rest
goal_back f [] g rest h = cc
goal_back f (Goal x ∷ a) g rest h = record { goal = x; others = a; agenda = refl; goal-is = cc; others-are = cc }
goal_back f (LolliEnd b ∷ a) g rest h = cc
goal_back f (ImpEnd ∷ a) g rest h = cc
goal_back f (WithMiddle s ∷ a) g rest h = cc
goal_back f (WithEnd s k ∷ a) g rest h = cc
goal_back f (BangEnd s ∷ a) g rest h = cc

none_back : (f : ℕ → Term) (a : List (Item Form)) → map (sub_item f) a ≡ [] → a ≡ []
none_back f [] h = refl
none_back f (x ∷ a) h = cc

-- ---- where a search finds what a successor finds

at_goal : (beside : Setting) (t u : State) (c : Candidate) (g : Form) (rest : List (Item Form)) → t.agenda ≡ Goal g ∷ rest → Among c (goal_tries t.context g)
    → attempt_goal beside t g rest c ≡ Some u
    → Among u (successors beside t)
unfolding successors tries attempt
at_goal beside t u c g rest e m h =
    let tried : Among c (agenda_tries t.agenda t.context) = subst (λ a. Among c (agenda_tries a t.context)) (sym e) m in
    let gives : attempt_agenda beside t t.agenda c ≡ Some u = ap (λ a. attempt_agenda beside t a c) e ∙ h in
    among_flat (λ d. option_to_states (attempt_agenda beside t t.agenda d)) c (agenda_tries t.agenda t.context) u tried
    (subst (λ o. Among u (option_to_states o)) (sym gives) (inl refl))

-- an answer of the search that the run with these nodes comes to, where the run's terms and steps so far are these
record Finds (beside : Setting) (n : ℕ) (s : State) (terms : List Term) (steps : List Step) (ns : List Line) : Type 0 where
  answer : Answered
  found : Among (Answer answer) (events beside n s)
  values : ℕ → Term
  closing : IsClosing values
  later : List Term
  terms-are : map (sub values) answer.terms ≡ terms ++ later
  steps-are : answer.steps ≡ steps ++ map step_of ns

settle_events : (beside : Setting) (n : ℕ) (s t : State) → settle s ≡ Some t → t.agenda ≡ [] → is_done t ≡ true
    → Among (Answer (record { terms = t.terms; steps = t.steps })) (events beside n s)
settle_events beside n s t h e d =
    subst (Among (Answer (record { terms = t.terms; steps = t.steps }))) (sym (events_answer beside n s t h e)) (step (not (has_live t.context) || t.flag) d)
  where
    step : (b : Bool) → b ≡ true → Among (Answer (record { terms = t.terms; steps = t.steps }))
        (if b then Answer (record { terms = t.terms; steps = t.steps }) ∷ [] else [])
    step true q = inl refl
    step false q = cc

-- a settled state, in the same terms, keeps the terms and the steps
front_parts : (s t : State) (o : Option (Front Form Form)) → front_of s o ≡ Some t → (t.terms ≡ s.terms) × (t.steps ≡ s.steps) × (t.levels ≡ s.levels)
front_parts s t None h = cc
front_parts s t (Some x) h = let q : with_front s x ≡ t = cc in (ap (λ z. z.terms) (sym q), ap (λ z. z.steps) (sym q), ap (λ z. z.levels) (sym q))

settle_parts : (s t : State) → settle s ≡ Some t → (t.terms ≡ s.terms) × (t.steps ≡ s.steps) × (t.levels ≡ s.levels)
unfolding settle
settle_parts s t h = front_parts s t _ h

at_attempt : (beside : Setting) (t u : State) (c : Candidate) (g : Form) (rest : List (Item Form)) → t.agenda ≡ Goal g ∷ rest
    → attempt_goal beside t g rest c ≡ Some u → attempt beside t c ≡ Some u
unfolding attempt
at_attempt beside t u c g rest e h = ap (λ a. attempt_agenda beside t a c) e ∙ h

finds : (names : ℕ) (beside : Setting) → AreModules names beside.modules beside.modules → (ns : List Line) (c : State) → Trace beside ns c → (n : ℕ)
    → length ns ≤ n → list_any counts_numbers ns ≡ false → (s : State) (fs : List Term) → IsConsistent beside s → FitsAll s.levels fs
    → c ≡ grounded (value fs) s → Finds beside n s c.terms c.steps ns
finds names beside v _ c (trace_end tc h e d) n le k s fs i w q =
    let b = settle_back (value fs) s tc (ap settle (sym q) ∙ h) in
    let t = b.settled in
    let ag = none_back (value fs) t.agenda (ap (λ z. z.agenda) (sym b.is) ∙ e) in
    let done : is_done t ≡ true = sym (ap (λ x. not x || t.flag) (live_grounded (value fs) t.context)) ∙ (ap is_done (sym b.is) ∙ d) in
    let p = settle_parts c tc h in
    let lv = settle_parts s t b.settles in
    record {
      answer = record { terms = t.terms; steps = t.steps };
      found = settle_events beside n s t b.settles ag done;
      values = value fs;
      closing = value-closing s.levels fs w;
      later = [];
      terms-are = ap (λ z. z.terms) (sym b.is) ∙ (p.0 ∙ sym (append-nil c.terms));
      steps-are = ap (λ z. z.steps) (sym b.is) ∙ (p.1 ∙ sym (append-nil c.steps));
    }
finds names beside v _ c (trace_step {n = l} {ns = ns} tc uc gc restc h e go run) zero le k s fs i w q = absurd (omega arith)
finds names beside v _ c (trace_step {n = l} {ns = ns} tc uc gc restc h e go run) (suc n) le k s fs i w q =
    let b = settle_back (value fs) s tc (ap settle (sym q) ∙ h) in
    let t = b.settled in
    let ti = settles_consistent beside s t i b.settles in
    let tw : FitsAll t.levels fs = subst (λ z. FitsAll z fs) (sym ((settle_parts s t b.settles).2)) w in
    let a = goal_back (value fs) t.agenda gc restc (ap (λ z. z.agenda) (sym b.is) ∙ e) in
    let gone = subst (λ z. Goes beside z (map (sub_item (value fs)) a.others) (sub_form (value fs) a.goal) l uc) b.is
    (subst (λ z. Goes beside tc z (sub_form (value fs) a.goal) l uc) (sym a.others-are) (subst (λ z. Goes beside tc restc z l uc) (sym a.goal-is) go)) in
    let u = lift names beside t a.goal a.others fs l uc v ti tw a.agenda gone (or_off_left (counts_numbers l) (list_any counts_numbers ns) k) in
    let gives : attempt beside t u.by ≡ Some u.next = at_attempt beside t u.next u.by a.goal a.others a.agenda u.gives in
    let r = finds names beside v ns uc run n (omega arith) (or_off_right (counts_numbers l) (list_any counts_numbers ns) k) u.next u.values
    (steps_consistent names beside t u.next u.by v ti gives) u.fits u.is in
    let kt = keeps_terms go in
    let p = settle_parts c tc h in
    record {
      answer = r.answer;
      found =
          subst (Among (Answer r.answer)) (sym (events_step beside n s t (Goal a.goal) a.others b.settles a.agenda))
          (among_flat (events beside n) u.next (successors beside t) (Answer r.answer) (at_goal beside t u.next u.by a.goal a.others a.agenda u.tried u.gives)
          r.found);
      values = r.values;
      closing = r.closing;
      later = kt.more ++ r.later;
      terms-are = r.terms-are ∙ (ap (λ z. z ++ r.later) (kt.is ∙ ap (λ z. z ++ kt.more) (p.0)) ∙ append_assoc c.terms kt.more r.later);
      steps-are = r.steps-are ∙ (ap (λ z. z ++ map step_of ns) (goes_steps go ∙ ap (λ z. z ++ step_of l ∷ []) (p.1))
          ∙ append_assoc c.steps (step_of l ∷ []) (map step_of ns));
    }

-- ---- the law

-- the levels of a state play no part in its runs
goes_unlevelled : {beside : Setting} {s : State} {rest : List (Item Form)} {g : Form} {n : Line} {u : State} → (ls : List ℕ) → Goes beside s rest g n u
    → Goes beside (record s { levels = ls }) rest g n (record u { levels = ls })
goes_unlevelled ls goes_one = goes_one
goes_unlevelled ls goes_top = goes_top
goes_unlevelled ls goes_tensor = goes_tensor
goes_unlevelled ls goes_left = goes_left
goes_unlevelled ls goes_right = goes_right
goes_unlevelled ls goes_with = goes_with
goes_unlevelled ls goes_bang = goes_bang
goes_unlevelled ls (goes_lolli f) = goes_lolli f
goes_unlevelled ls (goes_imp f) = goes_imp f
goes_unlevelled ls (goes_forall f) = goes_forall f
goes_unlevelled ls (goes_exists t f) = goes_exists t f
goes_unlevelled ls (goes_use m f) = goes_use m f
goes_unlevelled ls (goes_num p) = goes_num p
goes_unlevelled ls (goes_atom e label k us ps a b c d) = goes_atom e label k us ps a b c d

pub trace_unlevelled : (beside : Setting) (ls : List ℕ) (ns : List Line) (s : State) → Trace beside ns s → Trace beside ns (record s { levels = ls })
trace_unlevelled beside ls _ s (trace_end t h e d) = trace_end (record t { levels = ls }) (settle_with ls s t h) e d
trace_unlevelled beside ls _ s (trace_step {ns = ns} t u g rest h e go run) =
    trace_step (record t { levels = ls }) (record u { levels = ls }) g rest (settle_with ls s t h) e (goes_unlevelled ls go)
    (trace_unlevelled beside ls ns u run)

agreeing : (f : ℕ → Term) (n : ℕ) → AgreeBelow n f (value (map (sub f) (vars_from 0 n)))
agreeing f n x h = sym (listed f 0 n x (Var x) h ∙ ap f (let e : 0 + x ≡ x = omega arith in e))

listed-fit : (f : ℕ → Term) (ls : List ℕ) (n : ℕ) → ((x : ℕ) → is_closed (f x) ≡ true)
    → ((x : ℕ) → x < length ls → eigens_below (slice_index ls x) (f (n + x)) ≡ true) → FitsAll ls (map (sub f) (vars_from n (length ls)))
listed-fit f [] n c b = tt
listed-fit f (l ∷ ls) n c b = (
  c n,
  subst (λ m. eigens_below l (f m) ≡ true) (let e : n + 0 ≡ n = omega arith in e) (b 0 (omega arith)),
  listed-fit f ls (suc n) c (λ x h. subst (λ m. eigens_below (slice_index ls x) (f m) ≡ true) (let e : n + suc x ≡ suc n + x = omega arith in
      e) (b (suc x) (omega arith))),
)

steps-count : (ns : List Line) → length (map step_of ns) ≡ length ns
steps-count ns = length-map ns step_of

pub index_of : {A : Type 0} (x : A) (xs : List A) → Among x xs → Contains xs x
index_of x [] h = absurd h
index_of x (y ∷ ys) (inl e) = (0, omega arith, e)
index_of x (y ∷ ys) (inr h) = let r = index_of x ys h in (suc (r.0), omega (arith, r.1), r.2)

pub runs_found : RunsAreFound
runs_found names m s f size bound v i w run le =
    let n = length s.levels in
    let fs : List Term = map (sub f) (vars_from 0 n) in
    let agree : AgreeBelow n f (value fs) = agreeing f n in
    let fit : FitsAll s.levels fs = listed-fit f s.levels 0 w.closed
    (λ x h. subst (λ y. eigens_below (slice_index s.levels x) (f y) ≡ true) (let e : x ≡ 0 + x = omega arith in e) (w.below x h)) in
    let may = allowed_in m s in
    let same : grounded f s ≡ grounded (value fs) s =
    same_parts (grounded f s) (goals-agree may f (value fs) agree s.agenda i.goals) (resources-agree may f (value fs) agree s.context i.resources)
    (made-agree n s.eigens f (value fs) agree s.terms i.terms) in
    let r = finds names m v run.nodes (grounded f s) (trace_unlevelled m [] run.nodes (sub_state f s) run.trace) bound (let c = run.count in
    omega arith) run.numberless s fs i fit same in
    record {
      answer = r.answer;
      found = index_of (Answer r.answer) (events m bound s) r.found;
      instance = record {
        values = r.values;
        closed = r.closing;
        is =
            sym (take-append_seam (map (sub f) s.terms) r.later)
            ∙ (ap (take (length (map (sub f) s.terms))) (sym r.terms-are) ∙ take-map (sub r.values) (length (map (sub f) s.terms)) r.answer.terms);
      };
      count = ap length r.steps-are ∙ (length-append s.steps (map step_of run.nodes) ∙ ap (λ k. length s.steps + k) (steps-count run.nodes ∙ run.count));
    }
