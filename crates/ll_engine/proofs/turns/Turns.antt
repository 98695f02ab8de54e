-- What each turn of the engine does with what is owed.
use Rattle.std.proofs.Common.{◌≡◌, ℕ, zero, suc, ◌+◌, ◌≤◌, refl, ap, sym, ◌∙◌, subst, Bool, true, false, List, [], ◌∷◌, ◌++◌, append_assoc, arith, length, drop}
use Rattle.std.specs.Prelude.{Option, Some, None}
use Rattle.std.specs.List.{list_any}
use Rattle.ll_laws.specs.declared.Candidate.{Candidate}
use Rattle.ll_laws.specs.declared.Event.{Event}
use Rattle.ll_laws.specs.declared.Event.TheVariants.{Answer, Reached}
use Rattle.ll_laws.specs.Module.{Setting}
use Rattle.ll_bank.specs.Form.{Form}
use Rattle.ll_laws.specs.Settle.{Item}
use Rattle.ll_laws.specs.State.{State, settle}
use Rattle.ll_laws.specs.Attempt.{tries, attempt, successors}
use Rattle.ll_laws.specs.Search.{answer_of, events, cost, forks, same_candidate, gives_some, count_fork}
use Rattle.ll_laws.specs.Problem.{ProblemTree, setting_of}
use Rattle.ll_laws.proofs.CallerLemmas.{events_none, events_answer, events_reached, events_step, cost_none, cost_answer, cost_zero, cost_step, settle_steps}
use Rattle.ll_engine.specs.Seen.{Point, Choices}
use Rattle.ll_laws.specs.Tried.{events_from, number_from, tried_events, tried_cost}
use Rattle.ll_engine.specs.Owed.{owed, cost_left, one_if_some, open_points, work_by, work, work_left, Thins, put_point, if_running}
use Rattle.ll_engine.specs.Healthy.{Distinct, Path, next, IsPoint, ArePoints, IsNow, RunsFrom, HealthyFrom, Healthy}
use Rattle.ll_engine.specs.Turned.{is_empty, answers, Settles, Gave, Chose, Expands, RetriesAt, Retries, ForksKept, Turned}
use Rattle.ll_engine.proofs.turns.Owing.{tried_events_flat, tried_cost_flat, tried_events_thins, tried_cost_thins, work_by_thins, gives_thins, owed_put}
use Rattle.ll_engine.proofs.turns.Owing.{cost_put, work_put, open_put}
use Rattle.ll_engine.proofs.turns.Forks.{not_before, cut, forks_of}

-- what a state owes whose goal is taken apart

pub events_tries : (beside : Setting) (n : ℕ) (s t : State) → settle s ≡ Some t → is_empty t.agenda ≡ false
    → events beside (suc n) s ≡ tried_events beside n t (tries t)
unfolding successors
events_tries beside n s t h e = go t.agenda refl e
  where
    go : (a : List (Item Form)) → t.agenda ≡ a → is_empty a ≡ false → events beside (suc n) s ≡ tried_events beside n t (tries t)
    go [] h1 h2 = cc
    go (i ∷ is) h1 h2 = events_step beside n s t i is h h1 ∙ tried_events_flat beside n t (tries t)

pub cost_tries : (beside : Setting) (n : ℕ) (s t : State) → settle s ≡ Some t → is_empty t.agenda ≡ false
    → cost beside (suc n) s ≡ suc (tried_cost beside n t (tries t))
unfolding successors
cost_tries beside n s t h e = go t.agenda refl e
  where
    go : (a : List (Item Form)) → t.agenda ≡ a → is_empty a ≡ false → cost beside (suc n) s ≡ suc (tried_cost beside n t (tries t))
    go [] h1 h2 = cc
    go (i ∷ is) h1 h2 = cost_step beside n s t i is h h1 ∙ ap (λ x. suc x) (tried_cost_flat beside n t (tries t))

work_tries : (beside : Setting) (n : ℕ) (s t : State) → settle s ≡ Some t → work beside (suc n) s ≡ suc (work_by (work beside n) beside t (tries t))
unfolding work
work_tries beside n s t h = rw (h, number_from)

work_some : (beside : Setting) (n : ℕ) (s : State) → 1 ≤ work beside n s
unfolding work
work_some beside zero s = omega arith
work_some beside (suc n) s = omega arith

events_over : (beside : Setting) (n : ℕ) (s t : State) → settle s ≡ Some t → is_empty t.agenda ≡ true → events beside n s ≡ answer_of t
events_over beside n s t h e = go t.agenda refl e
  where
    go : (a : List (Item Form)) → t.agenda ≡ a → is_empty a ≡ true → events beside n s ≡ answer_of t
    go [] h1 h2 = events_answer beside n s t h h1
    go (i ∷ is) h1 h2 = cc

cost_over : (beside : Setting) (n : ℕ) (s t : State) → settle s ≡ Some t → is_empty t.agenda ≡ true → cost beside n s ≡ 0
cost_over beside n s t h e = go t.agenda refl e
  where
    go : (a : List (Item Form)) → t.agenda ≡ a → is_empty a ≡ true → cost beside n s ≡ 0
    go [] h1 h2 = cost_answer beside n s t h h1
    go (i ∷ is) h1 h2 = cc

events_at_bound : (beside : Setting) (s t : State) → settle s ≡ Some t → is_empty t.agenda ≡ false → events beside 0 s ≡ Reached ∷ []
events_at_bound beside s t h e = go t.agenda refl e
  where
    go : (a : List (Item Form)) → t.agenda ≡ a → is_empty a ≡ false → events beside 0 s ≡ Reached ∷ []
    go [] h1 h2 = cc
    go (i ∷ is) h1 h2 = events_reached beside s t i is h h1

answer_true : (t : State) → answers t ≡ true → answer_of t ≡ Answer (record { terms = t.terms; steps = t.steps }) ∷ []
answer_true t e = rw e

answer_false : (t : State) → answers t ≡ false → answer_of t ≡ []
answer_false t e = rw e

-- a candidate was attempted

events_gave : (beside : Setting) (o : Option State) (n : ℕ) (r : Bool) (z : Choices) → Gave o n r z
    → events_from (events beside n) o ≡ if_running r (events beside z.left z.now) []
events_gave beside o n true z h = rw (h.0, h.1)
events_gave beside o n false z h = rw h

cost_gave : (beside : Setting) (o : Option State) (n : ℕ) (r : Bool) (z : Choices) → Gave o n r z
    → number_from (cost beside n) o ≡ if_running r (cost beside z.left z.now) 0
cost_gave beside o n true z h = rw (h.0, h.1)
cost_gave beside o n false z h = rw h

work_gave : (beside : Setting) (o : Option State) (n : ℕ) (r : Bool) (z : Choices) → Gave o n r z
    → number_from (work beside n) o ≡ if_running r (work beside z.left z.now) 0
work_gave beside o n true z h = rw (h.0, h.1)
work_gave beside o n false z h = rw h

pub record Chosen (beside : Setting) (t : State) (n : ℕ) (cs : List Candidate) (ps : List Point) (r : Bool) (z : Choices) : Type 0 where
  pub events : tried_events beside n t cs ++ owed beside ps ≡ if_running r (events beside z.left z.now) [] ++ owed beside z.points
  pub cost : tried_cost beside n t cs + cost_left beside ps ≡ if_running r (cost beside z.left z.now) 0 + cost_left beside z.points
  pub work : suc (if_running r (work beside z.left z.now) 0 + work_left beside z.points) ≤ work_by (work beside n) beside t cs + work_left beside ps
  pub healthy : (f : State) (k : ℕ) → IsPoint beside f (k + open_points ps) (record { state = t; left = n; untried = cs }) → ArePoints beside f k ps
      → ArePoints beside f k z.points × RunsFrom beside f k r z.now z.points

chosen_none : (beside : Setting) (t : State) (n : ℕ) (ps : List Point) (z : Choices) → z.points ≡ ps → Chosen beside t n [] ps false z
chosen_none beside t n ps z e =
    record {
      events = rw e;
      cost = rw e;
      work = rw e (omega arith);
      healthy = λ f k h a. (rw e a, tt);
    }

fork_fits : (b : Bool) (cs : List Candidate) (forks m k : ℕ) → (cs ≡ [] → b ≡ false) → forks ≤ k + m → count_fork b forks ≤ k + (one_if_some cs + m)
fork_fits true [] forks m k e h = let e1 = e refl in cc
fork_fits false [] forks m k e h = omega arith
fork_fits true (c ∷ cs) forks m k e h = omega arith
fork_fits false (c ∷ cs) forks m k e h = omega arith

gives_none : (beside : Setting) (t : State) (cs post : List Candidate) → Thins beside t cs post → cs ≡ [] → gives_some beside t post ≡ false
gives_none beside t cs post h e = gives_thins beside t cs post h ∙ ap (λ x. gives_some beside t x) e

now_gave : (beside : Setting) (f s t : State) (n k : ℕ) (c : Candidate) (cs : List Candidate) (ps : List Point) (r : Bool) (z : Choices) (forks : ℕ)
    (pre post : List Candidate) → Path beside f s forks → settle s ≡ Some t → forks ≤ k + open_points ps → tries t ≡ pre ++ c ∷ post
    → list_any (same_candidate c) pre ≡ false → Thins beside t cs post → z.points ≡ put_point t n cs ps → Gave (attempt beside t c) n r z
    → RunsFrom beside f k r z.now z.points
now_gave beside f s t n k c cs ps false z forks pre post path h1 h2 h3 h4 h5 e g = tt
now_gave beside f s t n k c cs ps true z forks pre post path h1 h2 h3 h4 h5 e g =
    let e1 = ap (λ x. open_points x) e ∙ open_put t n cs ps in
    let e2 = fork_fits (gives_some beside t post) cs forks (open_points ps) k (gives_none beside t cs post h5) h2 in
    record {
      forks = count_fork (gives_some beside t post) forks;
      path = next s t forks pre post c path h1 h3 h4 g.0 refl;
      fits = rw e1 e2;
    }

points_put : (beside : Setting) (f t : State) (n k : ℕ) (cs : List Candidate) (ps : List Point)
    → IsPoint beside f (k + open_points ps) (record { state = t; left = n; untried = cs }) → ArePoints beside f k ps
    → ArePoints beside f k (put_point t n cs ps)
points_put beside f t n k [] ps h a = a
points_put beside f t n k (c ∷ cs) ps h a = (h, a)

chosen_some : (beside : Setting) (t : State) (n : ℕ) (c : Candidate) (cs : List Candidate) (ps : List Point) (r : Bool) (z : Choices)
    → z.points ≡ put_point t n cs ps → Gave (attempt beside t c) n r z → Chosen beside t n (c ∷ cs) ps r z
chosen_some beside t n c cs ps r z e g =
    record {
      events =
          append_assoc (events_from (events beside n) (attempt beside t c)) (tried_events beside n t cs) (owed beside ps)
          ∙ (ap (λ x. x ++ (tried_events beside n t cs ++ owed beside ps)) (events_gave beside (attempt beside t c) n r z g)
          ∙ ap (λ x. if_running r (events beside z.left z.now) [] ++ x) (sym (owed_put beside t n cs ps) ∙ ap (λ x. owed beside x) (sym e)));
      cost = let e1 = cost_gave beside (attempt beside t c) n r z g in let e2 = cost_put beside t n cs ps in rw e (omega (arith, e1, e2));
      work = let e1 = work_gave beside (attempt beside t c) n r z g in let e2 = work_put beside t n cs ps in rw e (omega (arith, e1, e2));
      healthy = λ f k h a.
          let d = cut beside t c cs h.post h.thins in
          let e1 : tries t ≡ (h.pre ++ d.mid) ++ c ∷ d.post = h.cut ∙ (ap (λ x. h.pre ++ x) d.cut ∙ sym (append_assoc h.pre d.mid (c ∷ d.post))) in
          let e2 = not_before (h.pre ++ d.mid) d.post c (subst (λ (x : List Candidate). Distinct x) e1 h.distinct) in
          let e3 : tries t ≡ (h.pre ++ (d.mid ++ c ∷ [])) ++ d.post = e1 ∙ regroup h.pre d.mid c d.post in
          let q : IsPoint beside f (k + open_points ps) (record { state = t; left = n; untried = cs }) =
          record {
            s = h.s;
            forks = h.forks;
            path = h.path;
            settled = h.settled;
            fits = h.fits;
            distinct = h.distinct;
            pre = h.pre ++ (d.mid ++ c ∷ []);
            post = d.post;
            cut = e3;
            thins = d.thins;
          } in (
            rw e (points_put beside f t n k cs ps q a),
            now_gave beside f h.s t n k c cs ps r z h.forks (h.pre ++ d.mid) d.post h.path h.settled h.fits e1 e2
                d.thins e g,
          );
    }
  where
    regroup : (pre mid : List Candidate) (c : Candidate) (post : List Candidate) → (pre ++ mid) ++ c ∷ post ≡ (pre ++ (mid ++ c ∷ [])) ++ post
    regroup pre mid c post = simp append_assoc

chosen : (z0 : Choices) (t : State) (n : ℕ) (cs : List Candidate) (ps : List Point) (r : Bool) (z : Choices) → Chose z0 t n cs ps r z
    → Chosen (setting_of z0.problem) t n cs ps r z
chosen z0 t n [] ps true z h = let e1 = h.1 in cc
chosen z0 t n [] ps false z h = chosen_none (setting_of z0.problem) t n ps z (ap (λ x. x.points) h.0)
chosen z0 t n (c ∷ cs) ps r z h = chosen_some (setting_of z0.problem) t n c cs ps r z (ap (λ x. x.points) h.0) h.1

pub record Same (z0 z : Choices) : Type 0 where
  pub problem : z.problem ≡ z0.problem
  pub first : z.first ≡ z0.first

same : (z0 : Choices) (t : State) (n : ℕ) (cs : List Candidate) (ps : List Point) (r : Bool) (z : Choices) → Chose z0 t n cs ps r z → Same z0 z
same z0 t n [] ps r z h = record { problem = ap (λ x. x.problem) h.0; first = ap (λ x. x.first) h.0 }
same z0 t n (c ∷ cs) ps r z h = record { problem = ap (λ x. x.problem) h.0; first = ap (λ x. x.first) h.0 }

-- the turns

turned_quiet : (z0 z : Choices) (t : State) → z ≡ record z0 { now = t }
    → (z.problem ≡ z0.problem) × (z.first ≡ z0.first) × (z.left ≡ z0.left) × (z.points ≡ z0.points)
turned_quiet z0 z t e = (ap (λ x. x.problem) e, ap (λ x. x.first) e, ap (λ x. x.left) e, ap (λ x. x.points) e)

stops : (z0 z : Choices) (r : Bool) (k : ℕ) → z.problem ≡ z0.problem → z.first ≡ z0.first → z.points ≡ z0.points → Healthy k r z0 → Healthy k false z
stops z0 z r k e1 e2 e3 h = go z0.first e2 h
  where
    go : (o : Option State) → z.first ≡ o → HealthyFrom o k r z0 → HealthyFrom z.first k false z
    go None e h = rw e (refl, e3 ∙ h.1)
    go (Some f) e h = rw e (rw (e1, e3) h.0, tt)

-- a state without successors gave these events
ends : (z0 z : Choices) (t : State) (found : List Event) → z ≡ record z0 { now = t } → events (setting_of z0.problem) z0.left z0.now ≡ found
    → cost (setting_of z0.problem) z0.left z0.now ≡ 0 → ((k : ℕ) → Healthy k true z0 → ForksKept z0 k found z) → Turned z0 true found 0 z false
ends z0 z t found e he hc hf =
    let q = turned_quiet z0 z t e in
    record {
      problem = q.0;
      first = q.1;
      events = rw (q.0, q.3) (ap (λ x. x ++ owed (setting_of z0.problem) z0.points) he);
      cost = rw (q.0, q.3) (omega (arith, hc));
      work = let e1 = work_some (setting_of z0.problem) z0.left z0.now in rw (q.0, q.3) (omega arith);
      healthy = λ k h. stops z0 z true k q.0 q.1 q.3 h;
      forks = hf;
    }

pub turned_fails : (z0 z : Choices) (b : Bool) → b ≡ false → Settles z0 b z → Turned z0 true [] 0 z false
turned_fails z0 z true e h = cc
turned_fails z0 z false e h =
    ends z0 z z.now [] h.0 (events_none (setting_of z0.problem) z0.left z0.now h.1) (cost_none (setting_of z0.problem) z0.left z0.now h.1) (λ k p. tt)

pub turned_over : (z0 z : Choices) (b : Bool) → b ≡ true → Settles z0 b z → is_empty z.now.agenda ≡ true → answers z.now ≡ false → Turned z0 true [] 0 z false
turned_over z0 z false q h e a = cc
turned_over z0 z true q h e a =
    ends z0 z z.now [] h.0 (events_over (setting_of z0.problem) z0.left z0.now z.now h.1 e ∙ answer_false z.now a)
    (cost_over (setting_of z0.problem) z0.left z0.now z.now h.1 e) (λ k p. tt)

pub turned_reached : (z0 z : Choices) (b : Bool) → b ≡ true → Settles z0 b z → is_empty z.now.agenda ≡ false → z.left ≡ 0
    → Turned z0 true (Reached ∷ []) 0 z false
turned_reached z0 z false q h e l = cc
turned_reached z0 z true q h e l =
    let l0 : z0.left ≡ 0 = sym (ap (λ x. x.left) h.0) ∙ l in
    ends z0 z z.now (Reached ∷ []) h.0 (rw l0 (events_at_bound (setting_of z0.problem) z0.now z.now h.1 e)) (rw l0 (cost_zero (setting_of z0.problem) z0.now))
    (λ k p. tt)

answer_forks : (z0 z : Choices) (k : ℕ) → z.points ≡ z0.points → settle z0.now ≡ Some z.now → Healthy k true z0
    → ForksKept z0 k (Answer (record { terms = z.now.terms; steps = z.now.steps }) ∷ []) z
answer_forks z0 z k e1 e2 h = λ f e. go f z0.first e h
  where
    with_path : (f : State) → RunsFrom (setting_of z0.problem) f k true z0.now z0.points
        → forks (setting_of z0.problem) (drop (length f.steps) z.now.steps) f ≤ k + open_points z.points
    with_path f h =
        let a = ap (λ x. forks (setting_of z0.problem) (drop (length f.steps) x) f) (settle_steps z0.now z.now e2)
        ∙ forks_of (setting_of z0.problem) f z0.now h.forks h.path in
        rw (a, e1) h.fits

    go : (f : State) (o : Option State) → o ≡ Some f → HealthyFrom o k true z0
        → forks (setting_of z0.problem) (drop (length f.steps) z.now.steps) f ≤ k + open_points z.points
    go f None e h = cc
    go f (Some g) e h =
        let e3 : g ≡ f = cc in with_path f (subst (λ (x : State). RunsFrom (setting_of z0.problem) x k true z0.now z0.points) e3 h.1)

pub turned_answer : (z0 z : Choices) (b : Bool) → b ≡ true → Settles z0 b z → is_empty z.now.agenda ≡ true → answers z.now ≡ true
    → Turned z0 true (Answer (record { terms = z.now.terms; steps = z.now.steps }) ∷ []) 0 z false
turned_answer z0 z false q h e a = cc
turned_answer z0 z true q h e a =
    ends z0 z z.now _ h.0 (events_over (setting_of z0.problem) z0.left z0.now z.now h.1 e ∙ answer_true z.now a)
    (cost_over (setting_of z0.problem) z0.left z0.now z.now h.1 e) (λ k p. answer_forks z0 z k (ap (λ x. x.points) h.0) h.1 p)

-- a healthy choices whose state has the candidates cs
healthy_expand : (z0 z1 z : Choices) (n : ℕ) (cs : List Candidate) (r : Bool) (k : ℕ) → z1 ≡ record z0 { now = z1.now } → settle z0.now ≡ Some z1.now
    → Distinct (tries z1.now) → Thins (setting_of z1.problem) z1.now cs (tries z1.now) → Same z1 z → Chosen (setting_of z1.problem) z1.now n cs z1.points r z
    → Healthy k true z0 → Healthy k r z
healthy_expand z0 z1 z n cs r k e es d th s ch h = go z0.first (s.first ∙ q.1) h
  where
    q : (z1.problem ≡ z0.problem) × (z1.first ≡ z0.first) × (z1.left ≡ z0.left) × (z1.points ≡ z0.points)
    q = turned_quiet z0 z1 z1.now e

    goes : (f : State) → ArePoints (setting_of z1.problem) f k z1.points × IsNow (setting_of z1.problem) f z0.now (k + open_points z1.points)
        → ArePoints (setting_of z1.problem) f k z.points × RunsFrom (setting_of z1.problem) f k r z.now z.points
    goes f h =
        ch.healthy f k
        (record {
          s = z0.now;
          forks = h.1.forks;
          path = h.1.path;
          settled = es;
          fits = h.1.fits;
          distinct = d;
          pre = [];
          post = tries z1.now;
          cut = refl;
          thins = th;
        })
        h.0

    go : (o : Option State) → z.first ≡ o → HealthyFrom o k true z0 → HealthyFrom z.first k r z
    go None e h = let e1 = h.0 in cc
    go (Some f) e h = rw e (rw s.problem (goes f (rw (q.0, q.3) h)))

pub turned_expand : (z0 z1 z : Choices) (r b : Bool) → b ≡ true → Settles z0 b z1 → is_empty z1.now.agenda ≡ false → Expands z1 r z → Turned z0 true [] 1 z r
turned_expand z0 z1 z r false b h e x = cc
turned_expand z0 z1 z r true b h e x =
    let q = turned_quiet z0 z1 z1.now h.0 in
    let s = same z1 z1.now x.left x.candidates z1.points r z x.chose in
    let ch = chosen z1 z1.now x.left x.candidates z1.points r z x.chose in
    let l : z0.left ≡ suc x.left = sym q.2 ∙ x.left_is in
    let e1 : events (setting_of z0.problem) z0.left z0.now ≡ tried_events (setting_of z1.problem) x.left z1.now x.candidates =
    rw (l, q.0) (events_tries (setting_of z0.problem) x.left z0.now z1.now h.1 e
    ∙ sym (tried_events_thins (setting_of z0.problem) z1.now x.left x.candidates (tries z1.now)
    (subst (λ (p : ProblemTree). Thins (setting_of p) z1.now x.candidates (tries z1.now)) q.0 x.thins))) in
    let e2 : cost (setting_of z0.problem) z0.left z0.now ≡ suc (tried_cost (setting_of z1.problem) x.left z1.now x.candidates) =
    rw (l, q.0) (cost_tries (setting_of z0.problem) x.left z0.now z1.now h.1 e
    ∙ ap (λ x. suc x) (sym (tried_cost_thins (setting_of z0.problem) z1.now x.left x.candidates (tries z1.now)
    (subst (λ (p : ProblemTree). Thins (setting_of p) z1.now x.candidates (tries z1.now)) q.0 x.thins)))) in
    let e3 : suc (work_by (work (setting_of z1.problem) x.left) (setting_of z1.problem) z1.now x.candidates) ≤ work (setting_of z0.problem) z0.left z0.now =
    rw (l, q.0) (let a = work_tries (setting_of z0.problem) x.left z0.now z1.now h.1 in
    let b = work_by_thins (setting_of z0.problem) z1.now (work (setting_of z0.problem) x.left) x.candidates (tries z1.now)
    (subst (λ (p : ProblemTree). Thins (setting_of p) z1.now x.candidates (tries z1.now)) q.0 x.thins) in omega arith) in
    record {
      problem = s.problem ∙ q.0;
      first = s.first ∙ q.1;
      events = rw s.problem (ap (λ x. x ++ owed (setting_of z0.problem) z0.points) e1 ∙ (rw (sym q.0, sym q.3) ch.events));
      cost = let a = ch.cost in let b : cost_left (setting_of z0.problem) z0.points ≡ cost_left (setting_of z1.problem) z1.points = rw q.0 (rw q.3 refl) in
          rw s.problem (omega (arith, e2, a, b));
      work = let a = ch.work in let b : work_left (setting_of z0.problem) z0.points ≡ work_left (setting_of z1.problem) z1.points = rw q.0 (rw q.3 refl) in
          rw s.problem (omega (arith, e3, a, b));
      healthy = λ k p. healthy_expand z0 z1 z x.left x.candidates r k h.0 h.1 x.distinct x.thins s ch p;
      forks = λ k p. tt;
    }

pub turned_retry : (z0 z : Choices) (r : Bool) → Retries z0 r z → Turned z0 false [] 0 z r
turned_retry z0 z r h = go z0.points refl h
  where
    healthy : (p : Point) (ps : List Point) (k : ℕ) → z0.points ≡ p ∷ ps → Same z0 z → Chosen (setting_of z0.problem) p.state p.left p.untried ps r z
        → (o : Option State) → z.first ≡ o → HealthyFrom o k false z0
        → HealthyFrom z.first k r z
    healthy p ps k e s ch None e2 h = let a = h.1 in cc
    healthy p ps k e s ch (Some f) e2 h =
        let a : ArePoints (setting_of z0.problem) f k (p ∷ ps) = subst (λ (x : List Point). ArePoints (setting_of z0.problem) f k x) e h.0 in
        rw e2 (rw s.problem (ch.healthy f k a.0 a.1))

    go : (qs : List Point) → z0.points ≡ qs → RetriesAt z0 qs r z → Turned z0 false [] 0 z r
    go [] e h = absurd h
    go (p ∷ ps) e h =
        let s = same z0 p.state p.left p.untried ps r z h in
        let ch = chosen z0 p.state p.left p.untried ps r z h in
        record {
          problem = s.problem;
          first = s.first;
          events = rw (e, s.problem) ch.events;
          cost = let a = ch.cost in rw (e, s.problem) (omega (arith, a));
          work = let a = ch.work in rw (e, s.problem) (omega (arith, a));
          healthy = λ k q. healthy p ps k e s ch z0.first s.first q;
          forks = λ k q. tt;
        }
