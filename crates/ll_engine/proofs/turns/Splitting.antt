-- What is left of what is owed where the oldest choice point is split off.
use Rattle.std.proofs.Common.{◌≡◌, ◌≢◌, ℕ, suc, ◌+◌, ◌-◌, ◌<◌, ◌≤◌, refl, ap, sym, ◌∙◌, subst, Bool, true, false, List, [], ◌∷◌, ◌++◌, append_assoc, arith}
use Rattle.std.proofs.Common.{map, reverse, length}
use Rattle.std.proofs.lemmas.List.{reverse-append, map-append, append-nil as append_nil}
use Rattle.std.proofs.lemmas.List.Sums.{sum_by-cons}
use Rattle.std.proofs.lemmas.List.Elements.{All-head, All-tail}
use Rattle.std.specs.List.{Contains}
use Rattle.std.specs.Prelude.{Option, Some, None, All, flat_map, sum_by}
use Rattle.ll_list_laws.proofs.CallerLemmas.{All-reverse as all_reverse}
use Rattle.ll_laws.specs.declared.Candidate.{Candidate}
use Rattle.ll_laws.specs.declared.Event.{Event}
use Rattle.ll_laws.specs.Module.{Setting}
use Rattle.ll_laws.specs.State.{State}
use Rattle.ll_laws.specs.Attempt.{tries, attempt}
use Rattle.ll_laws.specs.Search.{events, cost}
use Rattle.ll_laws.specs.Pool.{Owed}
use Rattle.ll_laws.specs.Tried.{events_from, number_from, tried_events, tried_cost, candidate_owes}
use Rattle.ll_laws.specs.Problem.{ProblemTree, setting_of}
use Rattle.ll_freeze.specs.Shown.{state_of}
use Rattle.ll_freeze.specs.Frozen.{FrozenSight, alternatives_in, sight_of}
use Rattle.ll_engine.specs.Seen.{Point, Choices}
use Rattle.ll_engine.specs.Owed.{owed, cost_left, one_if_some, open_points, work_left, if_running, owing}
use Rattle.ll_engine.specs.Healthy.{IsPoint, ArePoints, RunsFrom, HealthyFrom, Healthy}
use Rattle.ll_freeze.specs.declared.machine.Machine.{Machine}
use Rattle.ll_freeze.specs.Parts.{Parts, Base, base_of, IsGood}
use Rattle.ll_engine.specs.declared.choices.ChoicePoint.{ChoicePoint}
use Rattle.ll_engine.specs.Pointed.{Held, held_of, helds, Rises, AreMarks, AreTries, point_of, points_of, choices_at, IsKept, AreKept}
use Rattle.ll_engine.specs.Splits.{TakesOldest, SplitsTo, frozen_point}

-- older choice points stand behind

owed_behind : (beside : Setting) (ps qs : List Point) → owed beside (ps ++ qs) ≡ owed beside ps ++ owed beside qs
owed_behind beside [] qs = refl
owed_behind beside (p ∷ ps) qs =
    ap (λ x. tried_events beside p.left p.state p.untried ++ x) (owed_behind beside ps qs)
    ∙ sym (append_assoc (tried_events beside p.left p.state p.untried) (owed beside ps) (owed beside qs))

cost_behind : (beside : Setting) (ps qs : List Point) → cost_left beside (ps ++ qs) ≡ cost_left beside ps + cost_left beside qs
cost_behind beside [] qs = omega arith
cost_behind beside (p ∷ ps) qs = let e = cost_behind beside ps qs in omega (arith, e)

work_behind : (beside : Setting) (ps qs : List Point) → work_left beside (ps ++ qs) ≡ work_left beside ps + work_left beside qs
work_behind beside [] qs = omega arith
work_behind beside (p ∷ ps) qs = let e = work_behind beside ps qs in omega (arith, e)

open_behind : (ps qs : List Point) → open_points (ps ++ qs) ≡ open_points ps + open_points qs
open_behind [] qs = omega arith
open_behind (p ∷ ps) qs = let e = open_behind ps qs in omega (arith, e)

-- what a batch of candidates owes is what they owe one after the other

batch_events : (beside : Setting) (n : ℕ) (t : State) (cs : List Candidate)
    → flat_map (λ (o : Owed Event). o.events) (map (candidate_owes beside n t) cs) ≡ tried_events beside n t cs
batch_events beside n t [] = refl
batch_events beside n t (c ∷ cs) = ap (λ x. events_from (events beside n) (attempt beside t c) ++ x) (batch_events beside n t cs)

batch_cost : (beside : Setting) (n : ℕ) (t : State) (cs : List Candidate)
    → sum_by (λ (o : Owed Event). o.cost) (map (candidate_owes beside n t) cs) ≡ tried_cost beside n t cs
batch_cost beside n t [] = refl
batch_cost beside n t (c ∷ cs) =
    sum_by-cons (λ (o : Owed Event). o.cost) (candidate_owes beside n t c) (map (candidate_owes beside n t) cs)
    ∙ ap (λ x. number_from (cost beside n) (attempt beside t c) + x) (batch_cost beside n t cs)

batch_some : (beside : Setting) (n : ℕ) (t : State) (cs : List Candidate) → cs ≢ [] → 0 < length (map (candidate_owes beside n t) cs)
batch_some beside n t [] h = absurd (h refl)
batch_some beside n t (c ∷ cs) h = omega arith

one_some : (cs : List Candidate) → cs ≢ [] → one_if_some cs ≡ 1
one_some [] h = absurd (h refl)
one_some (c ∷ cs) h = refl

-- the choice points that are left have at most one fork more before them than are open

point_later : (beside : Setting) (f : State) (m n : ℕ) (p : Point) → m ≤ n → IsPoint beside f m p → IsPoint beside f n p
point_later beside f m n p l h =
    record {
      s = h.s;
      forks = h.forks;
      path = h.path;
      settled = h.settled;
      fits = let k = h.fits in omega (arith, l, k);
      distinct = h.distinct;
      pre = h.pre;
      post = h.post;
      cut = h.cut;
      thins = h.thins;
    }

one_at_most : (cs : List Candidate) → one_if_some cs ≤ 1
one_at_most [] = omega arith
one_at_most (c ∷ cs) = omega arith

fewer_open : (ps : List Point) (o : Point) → open_points (ps ++ o ∷ []) ≤ suc (open_points ps)
fewer_open ps o = let e = open_behind ps (o ∷ []) in let a = one_at_most o.untried in omega (arith, e, a)

points_left : (beside : Setting) (f : State) (k : ℕ) (ps : List Point) (o : Point) → ArePoints beside f k (ps ++ o ∷ []) → ArePoints beside f (suc k) ps
points_left beside f k [] o h = tt
points_left beside f k (p ∷ ps) o h =
    let l = fewer_open ps o in
    (point_later beside f (k + open_points (ps ++ o ∷ [])) (suc k + open_points ps) p (omega (arith, l)) h.0, points_left beside f k ps o h.1)

runs_left : (beside : Setting) (f : State) (k : ℕ) (r : Bool) (s : State) (ps : List Point) (o : Point) → RunsFrom beside f k r s (ps ++ o ∷ [])
    → RunsFrom beside f (suc k) r s ps
runs_left beside f k true s ps o h =
    let l = fewer_open ps o in let m = h.fits in record { forks = h.forks; path = h.path; fits = omega (arith, l, m) }
runs_left beside f k false s ps o h = tt

not_none : (ps : List Point) (o : Point) → ps ++ o ∷ [] ≡ [] → ⊥
not_none [] o e = cc
not_none (p ∷ ps) o e = cc

pub healthy_split : (z0 z : Choices) (b : FrozenSight) (k n : ℕ) (r : Bool) → TakesOldest z0 b z → n ≡ suc k → Healthy k r z0 → Healthy n r z
healthy_split z0 z b k n r t e h =
    let make : List Point → Choices = λ ps. record z0 { points = ps } in
    let rest : Healthy (suc k) r (make z.points) = go z0.first (subst (λ (o : Option State). HealthyFrom o k r z0) refl h) in
    subst (λ (m : ℕ). Healthy m r z) (sym e) (subst (λ (y : Choices). Healthy (suc k) r y) (sym t.same) rest)
  where
    go : (o : Option State) → HealthyFrom o k r z0 → HealthyFrom o (suc k) r (record z0 { points = z.points })
    go None q = absurd (not_none z.points t.oldest (sym t.points ∙ q.1))
    go (Some f) q = (
      points_left (setting_of z0.problem) f k z.points t.oldest (subst (λ (ps : List Point). ArePoints (setting_of z0.problem) f k ps) t.points q.0),
      runs_left (setting_of z0.problem) f k r z0.now z.points t.oldest
          (subst (λ (ps : List Point). RunsFrom (setting_of z0.problem) f k r z0.now ps) t.points q.1),
    )

-- what is owed is what is left, followed by what the batch owes
pub splits_to : (z0 z : Choices) (b : FrozenSight) (r : Bool) (m k n : ℕ) → TakesOldest z0 b z → n ≡ suc k
    → SplitsTo (owing z0 r m k false) b (owing z r m n false)
splits_to z0 z b r m k n t e =
    let ps = z.points in
    let P : Choices → Type 0 = λ y. SplitsTo (owing z0 r m k false) b (owing y r m n false) in
    let B : FrozenSight → Type 0 = λ c. SplitsTo (owing z0 r m k false) c (owing (record z0 { points = ps }) r m n false) in
    subst P (sym t.same) (subst B (sym t.batch) (of_parts ps t.oldest t.base t.depth t.points t.some))
  where
    of_parts : (ps : List Point) (o : Point) (base : Base) (depth : ℕ) → z0.points ≡ ps ++ o ∷ [] → (o.untried ≡ [] → ⊥)
        → SplitsTo (owing z0 r m k false) (frozen_point z0 o base depth) (owing (record z0 { points = ps }) r m n false)
    of_parts ps o base depth e1 h =
        let beside = setting_of z0.problem in
        let front = if_running r (events beside z0.left z0.now) [] in
        let l : suc o.left - 1 ≡ o.left = omega arith in
        let es = batch_events beside (suc o.left - 1) o.state o.untried ∙ ap (λ (x : ℕ). tried_events beside x o.state o.untried) l in
        let cs = batch_cost beside (suc o.left - 1) o.state o.untried ∙ ap (λ (x : ℕ). tried_cost beside x o.state o.untried) l in
        record {
          problem = refl;
          of = refl;
          first = refl;
          going = refl;
          points = let a = ap (λ xs. open_points xs) e1 in let c = open_behind ps (o ∷ []) in let d = one_some o.untried h in omega (arith, a, c, d);
          splits = e;
          events =
              ap (λ (xs : List Point). front ++ owed beside xs) e1
              ∙ (ap (λ (x : List Event). front ++ x) (owed_behind beside ps (o ∷ [])
              ∙ ap (λ (x : List Event). owed beside ps ++ x) (append_nil (tried_events beside o.left o.state o.untried) ∙ sym es))
              ∙ sym (append_assoc front (owed beside ps) (flat_map (λ (w : Owed Event). w.events) (alternatives_in (frozen_point z0 o base depth)))));
          cost = let a = ap (λ (xs : List Point). cost_left beside xs) e1 in let c = cost_behind beside ps (o ∷ []) in omega (arith, a, c, cs);
          some = batch_some beside (suc o.left - 1) o.state o.untried h;
          work = let a = ap (λ (xs : List Point). work_left beside xs) e1 in let c = work_behind beside ps (o ∷ []) in omega (arith, a, c);
          made = refl;
        }

-- ---- the oldest of the kept choice points

twice : {A : Type 0} (xs : List A) → reverse (reverse xs) ≡ xs
twice [] = refl
twice (x ∷ xs) = ap (λ ys. reverse ys) (reverse-append (x ∷ []) xs) ∙ (reverse-append (reverse xs) (x ∷ []) ∙ ap (λ ys. x ∷ ys) (twice xs))

still_some : (cs : List Candidate) → cs ≢ [] → reverse cs ≡ [] → ⊥
still_some cs h e = h (sym (twice cs) ∙ ap (λ xs. reverse xs) e)

oldest_last : (h : Held) (hs : List Held) → points_of (h ∷ hs) ≡ points_of hs ++ point_of h ∷ []
oldest_last h hs = ap (λ xs. map point_of xs) (reverse-append (h ∷ []) hs) ∙ map-append point_of (reverse hs) (h ∷ [])

pub takes_oldest : (first : Option State) (p : ProblemTree) (m : Parts) (h : Held) (ps hs : List Held) (b : FrozenSight) (depth : ℕ) → ps ≡ h ∷ hs → IsKept p h
    → b ≡ sight_of h.parts (reverse h.untried) false depth → TakesOldest (choices_at first p m ps) b (choices_at first p m hs)
takes_oldest first p m h ps hs b depth e k v =
    let l = k.opened.left in
    let n : h.parts.left ≡ suc (h.parts.left - 1) = omega (arith, l) in
    record {
      oldest = point_of h;
      some = still_some h.untried k.some;
      points = ap (λ xs. points_of xs) e ∙ oldest_last h hs;
      same = refl;
      base = base_of h.parts;
      depth = depth;
      batch = v ∙ (λ i. record {
        problem = k.opened.problem i;
        state = state_of h.parts;
        left = n i;
        untried = reverse h.untried;
        starts = false;
        base =
            base_of h.parts;
        depth = depth;
      });
    }

-- what is known of the oldest choice point and those after it
pub record Shifted (p : ProblemTree) (m : Machine) (ps qs : List ChoicePoint) (k : ChoicePoint) : Type 0 where
  pub good : IsGood k.mark m
  pub list : helds m ps ≡ held_of m k ∷ helds m qs
  pub marks : AreMarks m qs
  pub kept : IsKept p (held_of m k)
  pub others : AreKept p (helds m qs)

pub shifted : (p : ProblemTree) (m : Machine) (ps qs : List ChoicePoint) (k : ChoicePoint) → ps ≡ k ∷ qs → AreMarks m ps
    → AreKept p (helds m ps) → Shifted p m ps qs k
shifted p m ps qs k e a h =
    let goods : All (λ (j : ChoicePoint). IsGood j.mark m) (k ∷ qs) = subst
    (λ (ks : List ChoicePoint). All (λ (j : ChoicePoint). IsGood j.mark m) ks) e a.good in
    let rises : Rises (k ∷ qs) = subst (λ (ks : List ChoicePoint). Rises ks) e a.rise in
    let list : helds m ps ≡ held_of m k ∷ helds m qs = ap (λ ks. helds m ks) e in
    let points = subst (λ (hs : List Held). AreKept p hs) list h in
    record {
      good = All-head (λ (j : ChoicePoint). IsGood j.mark m) k qs goods;
      list = list;
      marks = record { good = All-tail (λ (j : ChoicePoint). IsGood j.mark m) k qs goods; rise = rises.1 };
      kept = All-head (IsKept p) (held_of m k) (helds m qs) points;
      others = All-tail (IsKept p) (held_of m k) (helds m qs) points;
    }

-- a choice point of a search of its own machine's problem
pub kept_own : (p : ProblemTree) (h : Held) → IsKept p h → IsKept h.parts.problem h
kept_own p h k = subst (λ (q : ProblemTree). IsKept q h) (sym k.opened.problem) k

pub reversed_tries : (m : Parts) (cs ds es : List Candidate) → ds ≡ reverse cs → es ≡ ds → AreTries m cs → AreTries m es
reversed_tries m cs ds es e f h =
    subst (λ (xs : List Candidate). AreTries m xs) (sym (f ∙ e)) (all_reverse (λ c. Contains (tries (state_of m)) c) cs h)

-- a batch that shares with as many as its depth says
pub sight_depth : (m : Parts) (lent cs : List Candidate) (n : ℕ) (f : FrozenSight) → lent ≡ cs → f ≡ sight_of m lent false n → f ≡ sight_of m cs false f.depth
sight_depth m lent cs n f e q = q ∙ (λ i. sight_of m (e i) false (sym (ap (λ (g : FrozenSight). g.depth) q) i))
