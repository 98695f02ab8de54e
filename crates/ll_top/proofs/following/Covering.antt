-- What follows in the sequent calculus, a search finds, and what a search finds follows.
use Rattle.std.proofs.Common.{◌≡◌, ◌<◌, ℕ, zero, suc, map, refl, ap, sym, subst, ◌∙◌, Bool, true, false, List, [], ◌∷◌, length, arith}
use Rattle.std.specs.Prelude.{slice_index_or}
use Rattle.std.specs.List.{list_any, list_all}
use Rattle.std.proofs.lemmas.Bool.{and_from as and_intro}
use Rattle.std.proofs.lemmas.List.{length-map}
use Rattle.ll_list_laws.proofs.CallerLemmas.{and_true_left as and_left, and_true_right as and_right}
use Rattle.ll_bank.specs.Term.{Term, Var, sub, is_closed}
use Rattle.ll_bank.specs.Form.{Form}
use Rattle.ll_laws.specs.declared.Kind.TheVariants.{Linear, Unbounded}
use Rattle.ll_laws.specs.declared.Event.TheVariants.{Answer}
use Rattle.ll_laws.specs.Problem.{ProblemTree, setting_of, start_of, problem_events}
use Rattle.ll_laws.specs.Valid.{IsValid}
use Rattle.ll_laws.specs.Derive.{Derivable}
use Rattle.ll_laws.specs.Shows.{clauses, nodes}
use Rattle.ll_laws.specs.Line.{DerivationLines, counts_numbers}
use Rattle.ll_laws.specs.Verdict.{DerivationShows, root_free, root_bounded, instantiated_goal}
use Rattle.ll_laws.specs.Completeness.{ShowsClosed, ShownIsAnswered, NothingIsShown}
use Rattle.ll_laws.specs.Instance.{IsInstance}
use Rattle.ll_laws.specs.Dealt.{asked_terms}
use Rattle.ll_top.specs.textbook.Follows.{of_kind, Follows, IsFilling, reckons}
use Rattle.ll_top.specs.textbook.Laws.{FollowsIsShown, ShownFollows, FollowsIsAnswered, InstancesFollow, AnswersFollow, NothingFollows, ExactlyAnswered}
use Rattle.ll_laws.specs.Laws.{AnswersAreShown}
use Rattle.ll_laws.proofs.CallerLemmas.{trees-count}
use Rattle.ll_laws.proofs.CallerLemmas.{tree-numbers}
use Rattle.ll_top.proofs.following.Unlabelled.{Derived, derived}
use Rattle.ll_top.proofs.following.Converse.{labelled-clauses, follows_shown, IsShown}
use Rattle.ll_laws.proofs.CallerLemmas.{among}
use Rattle.ll_laws.proofs.CallerLemmas.{IsClosing}
use Rattle.ll_top.proofs.following.Numbered.{numberless_follows}
use Rattle.ll_top.proofs.following.Steps.{steps_within}
use Rattle.ll_top.proofs.following.Instances.{put_form, clauses_stay, modules_stay, put_derivation, kind_stays, form-put-sub}
use Rattle.ll_laws.proofs.CallerLemmas.{closed_sub}

shows_closed : (p : ProblemTree) (ts : List Term) (m : ℕ) (b : Bool) → IsFilling p ts → b ≡ false → (s : IsShown p ts m b) → ShowsClosed p s.derivation
shows_closed p ts m b f e s = record {
  shows = s.shows;
  closed = ap (list_all is_closed) s.asked ∙ f.closed;
  numberless = s.reckons ∙ e;
}

pub follows_is_shown : FollowsIsShown
follows_is_shown p ts m h f =
    let s = follows_shown p ts m h f in
    (s.derivation, s.asked, s.whole, s.shows, s.count, s.reckons)

pub follows_is_answered : ShownIsAnswered → FollowsIsAnswered
follows_is_answered shown_answered p ts m h v f e le =
    let s = follows_shown p ts m h f in
    let c = s.count in
    let a = shown_answered p s.derivation v (shows_closed p ts m (reckons h) f e s) (omega (arith, c, le)) in
    record {
      answer = a.0;
      found = a.1;
      instance = subst (IsInstance (asked_terms p (a.0))) s.asked (a.2);
      steps = a.3 ∙ s.count;
    }

pub nothing_follows : NothingIsShown → NothingFollows
nothing_follows nothing_shown p ts m h v q f = step (reckons h) refl (follows_shown p ts m h f)
  where
    step : (b : Bool) → reckons h ≡ b → IsShown p ts m (reckons h) → reckons h ≡ true
    step true e s = e
    step false e s = absurd (nothing_shown p s.derivation v q (shows_closed p ts m (reckons h) f e s))

-- a derivation that shows the query, without its labels
record Unlabelled (p : ProblemTree) (m : ℕ) (ts : List Term) (n : Bool) : Type 0 where
  follows : Follows p m ts
  mark : reckons follows ≡ n

unlabelled : (p : ProblemTree) (d : DerivationLines) → DerivationShows p d → Unlabelled p (length d.nodes) d.asked (list_any counts_numbers d.nodes)
unlabelled p d s =
    let c = trees-count d.nodes (s.tree ∷ []) s.is_tree in
    let count : nodes s.tree ≡ length d.nodes = omega (arith, c) in
    let x = derived (setting_of p) s.tree (root_free p) (root_bounded p) (instantiated_goal p d.asked) s.shows in
    let y : Derived (setting_of p) (length d.nodes) (clauses (root_free p)) (clauses (root_bounded p)) (instantiated_goal p d.asked)
    (list_any counts_numbers d.nodes) =
    subst (λ k. Derived (setting_of p) k (clauses (root_free p)) (clauses (root_bounded p)) (instantiated_goal p d.asked) (list_any counts_numbers d.nodes))
    count
    (subst (Derived (setting_of p) (nodes s.tree) (clauses (root_free p)) (clauses (root_bounded p)) (instantiated_goal p d.asked))
    (tree-numbers d.nodes s.tree s.is_tree) x) in
    let z : Derived (setting_of p) (length d.nodes) (of_kind Unbounded p.clauses) (of_kind Linear p.clauses) (instantiated_goal p d.asked)
    (list_any counts_numbers d.nodes) =
    subst (λ e. Derived (setting_of p) (length d.nodes) e (of_kind Linear p.clauses) (instantiated_goal p d.asked) (list_any counts_numbers d.nodes))
    (labelled-clauses Unbounded 0 p.clauses)
    (subst (λ e. Derived (setting_of p) (length d.nodes) (clauses (root_free p)) e (instantiated_goal p d.asked) (list_any counts_numbers d.nodes))
    (labelled-clauses Linear 0 p.clauses) y) in
    record { follows = z.derivation; mark = z.mark }

pub shown_follows : ShownFollows
shown_follows p d s c = let u = unlabelled p d s in (record { count = s.count; closed = c }, u.follows, u.mark)

pub answers_follow : AnswersAreShown → AnswersFollow
answers_follow answers_are_shown p a v h =
    let s = answers_are_shown p a v h in
    let u = unlabelled p s.0 s.4 in (
      record {
        count = ap length (sym s.2) ∙ s.4.count;
        closed = ap (list_all is_closed) (sym s.2) ∙ s.3.asked;
      },
      subst (λ n. Follows p n (asked_terms p a)) s.5 (subst (λ ts. Follows p (length s.0.nodes) ts) s.2 u.follows),
    )

-- ---- instances

value-at : (f : ℕ → Term) (ts : List Term) (x y : ℕ) → x < length ts → sub f (slice_index_or ts x (Var y)) ≡ slice_index_or (map (sub f) ts) x (Var y)
value-at f [] x y h = absurd (omega (arith, h))
value-at f (t ∷ ts) zero y h = refl
value-at f (t ∷ ts) (suc x) y h = value-at f ts x y (omega (arith, h))

all_closed-sub : (f : ℕ → Term) → IsClosing f → (ts : List Term) → list_all is_closed ts ≡ true → list_all is_closed (map (sub f) ts) ≡ true
all_closed-sub f cl [] h = refl
all_closed-sub f cl (t ∷ ts) h =
    and_intro _ _ (closed_sub f cl t (and_left (is_closed t) (list_all is_closed ts) h))
    (all_closed-sub f cl ts (and_right (is_closed t) (list_all is_closed ts) h))

-- what follows with terms follows with each instance of them
instance_follows : (p : ProblemTree) (ts us : List Term) (m : ℕ) → IsValid p → IsFilling p ts → Follows p m ts → IsInstance ts us → Follows p m us
instance_follows p ts us m v f h i =
    let c = f.count in
    let stay = clauses_stay (length p.names) p.modules [] p.clauses v.clauses in
    let goal : Form = instantiated_goal p us in
    let free : map (put_form i.values (λ c. c)) (of_kind Unbounded p.clauses) ≡ of_kind Unbounded p.clauses =
    kind_stays i.values (λ c. c) Unbounded p.clauses stay in
    let bounded : map (put_form i.values (λ c. c)) (of_kind Linear p.clauses) ≡ of_kind Linear p.clauses =
    kind_stays i.values (λ c. c) Linear p.clauses stay in
    let same : put_form i.values (λ c. c) (instantiated_goal p ts) ≡ instantiated_goal p us =
    form-put-sub i.values (λ x. slice_index_or ts x (Var x)) (λ x. slice_index_or us x (Var x)) (length p.asked)
    (λ x l. value-at i.values ts x x (omega (arith, l, c)) ∙ ap (λ z. slice_index_or z x (Var x)) (sym i.is)) 0 p.goal v.goal.variables in
    subst (λ z. Derivable (setting_of p) m z (of_kind Linear p.clauses) (instantiated_goal p us)) free
    (subst (λ z. Derivable (setting_of p) m (map (put_form i.values (λ c. c)) (of_kind Unbounded p.clauses)) z (instantiated_goal p us)) bounded
    (subst (Derivable (setting_of p) m (map (put_form i.values (λ c. c)) (of_kind Unbounded p.clauses))
    (map (put_form i.values (λ c. c)) (of_kind Linear p.clauses))) same
    (put_derivation (setting_of p) (modules_stay (length p.names) p.modules p.modules v.modules) i.values i.closed (λ c. c) h)))

pub instances_follow : AnswersAreShown → InstancesFollow
instances_follow shown p ts m v c =
    let a = answers_follow shown p c.answer v c.found in
    let i = c.instance in
    let w = steps_within (setting_of p) p.bound (start_of p) c.answer (among (problem_events p) (Answer c.answer) c.found) in
    let k = c.steps in (
      record {
        count = ap length i.is ∙ (length-map (asked_terms p c.answer) (sub i.values) ∙ (a.0).count);
        closed = ap (list_all is_closed) i.is ∙ all_closed-sub i.values i.closed (asked_terms p c.answer) (a.0).closed;
      },
      subst (λ n. Follows p n ts) c.steps (instance_follows p (asked_terms p c.answer) ts (length c.answer.steps) v (a.0) (a.1) i),
      omega (arith, w, k),
    )

pub exactly_answered : AnswersAreShown → ShownIsAnswered → ExactlyAnswered
exactly_answered shown answered p ts m v n =
    (λ c. instances_follow shown p ts m v c, λ f. follows_is_answered answered p ts m (f.1) v (f.0) (numberless_follows p ts m (f.1) n) (f.2))
