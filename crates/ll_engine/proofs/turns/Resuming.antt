-- Engines that begin with an alternative of a frozen choice point.
use Rattle.std.proofs.Common.{◌≡◌, ℕ, zero, suc, ◌+◌, ◌-◌, ◌<◌, refl, ap, sym, ◌∙◌, subst, Bool, true, false, List, [], ◌∷◌, ◌++◌, arith, map}
use Rattle.std.proofs.lemmas.List.Elements.{All-head, All-tail}
use Rattle.std.specs.Prelude.{Option, Some, None, All, slice_get, option_and_then}
use Rattle.std.specs.List.{Contains}
use Rattle.std.proofs.lemmas.List.{append-nil as append_nil}
use Rattle.ll_bank.specs.Form.{Form}
use Rattle.ll_laws.specs.declared.Candidate.{Candidate}
use Rattle.ll_laws.specs.declared.Event.{Event}
use Rattle.ll_laws.specs.Module.{Setting}
use Rattle.ll_laws.specs.Settle.{Item}
use Rattle.ll_laws.specs.State.{State}
use Rattle.ll_laws.specs.Attempt.{tries, agenda_tries, attempt}
use Rattle.ll_laws.specs.Search.{events, cost}
use Rattle.ll_laws.specs.Pool.{Owed}
use Rattle.ll_laws.specs.Tried.{events_from, number_from, candidate_owes}
use Rattle.ll_laws.specs.Problem.{ProblemTree, setting_of}
use Rattle.ll_freeze.specs.Parts.{Parts}
use Rattle.ll_freeze.specs.Shown.{state_of}
use Rattle.ll_freeze.specs.Frozen.{FrozenSight, alternatives_by, alternatives_in, problem_owes, first_by, first_in, StandsBy, FrozenStands, Thaws}
use Rattle.ll_engine.specs.Seen.{Point, Choices, Owing}
use Rattle.ll_engine.specs.Owed.{owed, cost_left, open_points, work, work_left, owing}
use Rattle.ll_engine.specs.Healthy.{Healthy, HealthyFrom, here}
use Rattle.ll_engine.specs.Turned.{is_empty, Gave}
use Rattle.ll_engine.specs.Resumes.{beginning, resumed_by, resumed, Resumes}
use Rattle.ll_engine.specs.Begun.{left_by, Begins}

-- an element of a list

all_at : {A : Type 0} (P : A → Type 0) (xs : List A) (k : ℕ) (x : A) → slice_get xs k ≡ Some x → All P xs → P x
all_at P [] k x e h = cc
all_at P (y ∷ xs) zero x e h = let same : y ≡ x = cc in subst P same (All-head P y xs h)
all_at P (y ∷ xs) (suc k) x e h = all_at P xs k x e (All-tail P y xs h)

-- a state with a candidate has a goal in front

none_in : {A : Type 0} (x : A) → Contains [] x → ⊥
none_in x h = let l = h.1 in omega (arith, l)

goal_of : (t : State) (c : Candidate) → Contains (tries t) c → is_empty t.agenda ≡ false
unfolding tries
goal_of t c h = go t.agenda h
  where
    go : (a : List (Item Form)) → Contains (agenda_tries a t.context) c → is_empty a ≡ false
    go [] q = absurd (none_in c q)
    go (i ∷ is) q = refl

-- what an alternative that is not the start is attempted with
pub record Tried (f : FrozenSight) (m : Parts) (c : Candidate) : Type 0 where
  pub goal : is_empty (state_of m).agenda ≡ false
  pub left : 0 < m.left
  pub candidate : Contains (tries (state_of m)) c

pub tried : (f : FrozenSight) (m : Parts) (k : ℕ) (c : Candidate) → Thaws f m → FrozenStands f → f.starts ≡ false → slice_get f.untried k ≡ Some c → Tried f m c
tried f m k c t s e g =
    let stands : StandsBy false f = subst (λ (b : Bool). StandsBy b f) e s in
    let has = all_at (λ d. Contains (tries f.state) d) f.untried k c g stands.1 in
    record {
      goal = ap (λ (u : State). is_empty u.agenda) t.state ∙ goal_of f.state c has;
      left = rw t.left stands.0;
      candidate = subst (λ (u : State). Contains (tries u) c) (sym t.state) has;
    }

-- ---- the engine

pub healthy_begins : (f : FrozenSight) (k : ℕ) (b : Bool) (z : Choices) → Begins f k b z → Healthy 0 b z
healthy_begins f k true z h =
    let e : z.first ≡ Some z.now = h.first ∙ h.gives.0 in
    subst (λ (o : Option State). HealthyFrom o 0 true z) (sym e) (rw h.points tt, record { forks = 0; path = here; fits = omega arith })
healthy_begins f k false z h =
    let e : z.first ≡ None = h.first ∙ h.gives in
    subst (λ (o : Option State). HealthyFrom o 0 false z) (sym e) (refl, h.points)

owing_begins : (z : Choices) (p : ProblemTree) (o : Option State) (n : ℕ) (b : Bool) → z.problem ≡ p → z.first ≡ o → Gave o n b z → z.points ≡ []
    → owing z b 0 0 false ≡ beginning p n o
owing_begins z p o n true e1 e2 g e3 =
    let beside = setting_of z.problem in
    let es : events_from (events (setting_of p) n) o ≡ events beside z.left z.now = rw (g.0, g.1, e1) refl in
    let cs : number_from (cost (setting_of p) n) o ≡ cost beside z.left z.now = rw (g.0, g.1, e1) refl in
    let ws : number_from (work (setting_of p) n) o ≡ work beside z.left z.now = rw (g.0, g.1, e1) refl in
    let ce : cost beside z.left z.now + cost_left beside z.points ≡ number_from (cost (setting_of p) n) o = let a =
    ap (λ (ps : List Point). cost_left beside ps) e3 in omega (arith, a, cs) in
    let we : work beside z.left z.now + work_left beside z.points ≡ number_from (work (setting_of p) n) o = let a =
    ap (λ (ps : List Point). work_left beside ps) e3 in omega (arith, a, ws) in
    let ee : events beside z.left z.now ++ owed beside z.points ≡ events_from (events (setting_of p) n) o =
    ap (λ (ps : List Point). events beside z.left z.now ++ owed beside ps) e3 ∙ (append_nil (events beside z.left z.now) ∙ sym es) in
    λ i. record { problem = e1 i; events = ee i; cost = ce i; points = open_points (e3 i); first = e2 i; splits = 0; work = we i; made = 0; spent = false }
owing_begins z p o n false e1 e2 g e3 =
    let beside = setting_of z.problem in
    let es : events_from (events (setting_of p) n) o ≡ [] = rw g refl in
    let cs : number_from (cost (setting_of p) n) o ≡ 0 = rw g refl in
    let ws : number_from (work (setting_of p) n) o ≡ 0 = rw g refl in
    let ce : 0 + cost_left beside z.points ≡ number_from (cost (setting_of p) n) o = let a = ap (λ (ps : List Point). cost_left beside ps) e3 in
    omega (arith, a, cs) in
    let we : 0 + work_left beside z.points ≡ number_from (work (setting_of p) n) o = let a = ap (λ (ps : List Point). work_left beside ps) e3 in
    omega (arith, a, ws) in
    let ee : owed beside z.points ≡ events_from (events (setting_of p) n) o = ap (λ (ps : List Point). owed beside ps) e3 ∙ sym es in
    λ i. record { problem = e1 i; events = ee i; cost = ce i; points = open_points (e3 i); first = e2 i; splits = 0; work = we i; made = 0; spent = false }

resumed_is : (f : FrozenSight) (k : ℕ) (s : Bool) → beginning f.problem (left_by s f) (first_by s f k) ≡ resumed_by s f k
resumed_is f k true = refl
resumed_is f k false = refl

pub resumes_with : (f : FrozenSight) (k : ℕ) (b : Bool) (z : Choices) → Begins f k b z → owing z b 0 0 false ≡ resumed f k
resumes_with f k b z h = owing_begins z f.problem (first_in f k) (left_by f.starts f) b h.problem h.first h.gives h.points ∙ resumed_is f k f.starts

-- what the alternative owes

owes_at : (beside : Setting) (n : ℕ) (t : State) (cs : List Candidate) (k : ℕ) (owes : Owed Event)
    → slice_get (map (candidate_owes beside n t) cs) k ≡ Some owes
    → (events_from (events beside n) (option_and_then (attempt beside t) (slice_get cs k)) ≡ owes.events)
    × (number_from (cost beside n) (option_and_then (attempt beside t) (slice_get cs k)) ≡ owes.cost)
owes_at beside n t [] k owes e = cc
owes_at beside n t (c ∷ cs) zero owes e =
    let same : candidate_owes beside n t c ≡ owes = cc in (ap (λ (o : Owed Event). o.events) same, ap (λ (o : Owed Event). o.cost) same)
owes_at beside n t (c ∷ cs) (suc k) owes e = owes_at beside n t cs k owes e

the_whole : (p : ProblemTree) (k : ℕ) (owes : Owed Event) → slice_get (problem_owes p ∷ []) k ≡ Some owes → problem_owes p ≡ owes
the_whole p zero owes e = cc
the_whole p (suc k) owes e = cc

resumes_by : (f : FrozenSight) (k : ℕ) (s : Bool) (owes : Owed Event) → slice_get (alternatives_by s f) k ≡ Some owes
    → Resumes f.problem owes (resumed_by s f k)
resumes_by f k true owes e =
    let same = the_whole f.problem k owes e in
    record { problem = refl; events = ap (λ (o : Owed Event). o.events) same; cost = ap (λ (o : Owed Event). o.cost) same; made = refl; going = refl }
resumes_by f k false owes e =
    let both = owes_at (setting_of f.problem) (f.left - 1) f.state f.untried k owes e in
    record { problem = refl; events = both.0; cost = both.1; made = refl; going = refl }

pub resumes_owing : (f : FrozenSight) (k : ℕ) (p : ProblemTree) (e : Owing) (owes : Owed Event) → e ≡ resumed f k → f.problem ≡ p
    → slice_get (alternatives_in f) k ≡ Some owes → Resumes p owes e
resumes_owing f k p e owes s q g =
    subst (λ (x : Owing). Resumes p owes x) (sym s) (subst (λ (x : ProblemTree). Resumes x owes (resumed f k)) q (resumes_by f k f.starts owes g))
