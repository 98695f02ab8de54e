-- What a turn does with what the whole engine is seen as.
use Rattle.std.proofs.Common.{◌≡◌, ℕ, ◌+◌, ◌-◌, ◌≤◌, refl, ap, sym, ◌∙◌, subst, Bool, true, false, List, [], ◌∷◌, arith}
use Rattle.std.specs.Prelude.{min}
use Rattle.ll_laws.specs.declared.Event.{Event}
use Rattle.ll_laws.specs.declared.Event.TheVariants.{Answer, Reached}
use Rattle.ll_laws.specs.State.{State}
use Rattle.ll_laws.specs.Problem.{ProblemTree}
use Rattle.ll_engine.specs.Seen.{Owing, Point, Choices}
use Rattle.ll_engine.specs.Owed.{owing, cost_of_choices}
use Rattle.ll_engine.specs.Healthy.{Healthy, here}
use Rattle.ll_engine.specs.Turned.{Turned, ForksKept, has_none, starting}
use Rattle.ll_engine.specs.Moves.{end_event, found_by, made_of, running_of}
use Rattle.ll_engine.specs.declared.engine.Move.{Move}
use Rattle.ll_engine.specs.declared.engine.Move.TheVariants.{Quiet, Inferred, Ends}
use Rattle.ll_engine.specs.declared.engine.Step2.TheVariants.{Moved, Event as Found, Done}
use Rattle.ll_engine.specs.Steps.{KeepsForks, Steps}

cut_same : (m k : ℕ) → m ≤ 18446744073709551615 → m ≡ min (m + ((0 + k) - k)) (18446744073709551615)
cut_same m k h = omega arith

cut_more : (m k : ℕ) → min (m + 1) (18446744073709551615) ≡ min (m + ((1 + k) - k)) (18446744073709551615)
cut_more m k = omega arith

moves : (z0 z : Choices) (was r : Bool) (m m' s n : ℕ) → Turned z0 was [] n z r
    → m' ≡ min (m + ((n + cost_of_choices r z) - cost_of_choices r z)) (18446744073709551615)
    → Steps (owing z0 was m s false) Moved (owing z r m' s false)
moves z0 z was r m m' s n t e =
    record {
      problem = t.problem;
      first = t.first;
      splits = refl;
      going = refl;
      events = t.events;
      cost = let a = t.cost in omega (arith, a);
      made = rw t.cost e;
      ends = t.work;
      forks = tt;
    }

pub quiet : (z0 z : Choices) (was r : Bool) (m s : ℕ) (w : Move) → w ≡ Quiet r → Turned z0 was (found_by w z) (made_of w) z (running_of w)
    → m ≤ 18446744073709551615
    → Steps (owing z0 was m s false) Moved (owing z r m s false)
quiet z0 z was r m s w e t h =
    let P : Move → Type 0 = λ w. Turned z0 was (found_by w z) (made_of w) z (running_of w) in
    moves z0 z was r m m s 0 (subst P e t) (cut_same m (cost_of_choices r z) h)

pub inferred : (z0 z : Choices) (was r : Bool) (m m' s : ℕ) (w : Move) → w ≡ Inferred r → Turned z0 was (found_by w z) (made_of w) z (running_of w)
    → m' ≡ min (m + 1) (18446744073709551615) → Steps (owing z0 was m s false) Moved (owing z r m' s false)
inferred z0 z was r m m' s w e t h =
    let P : Move → Type 0 = λ w. Turned z0 was (found_by w z) (made_of w) z (running_of w) in
    moves z0 z was r m m' s 1 (subst P e t) (h ∙ cut_more m (cost_of_choices r z))

keeps : (z0 z : Choices) (s : ℕ) (e : Event) → z.problem ≡ z0.problem → z.first ≡ z0.first → ForksKept z0 s (e ∷ []) z
    → (m : ℕ) → KeepsForks (Found e) (owing z false m s false)
keeps z0 z s (Answer a) e1 e2 h m = λ f e. rw e1 (h f (sym e2 ∙ e))
keeps z0 z s Reached e1 e2 h m = tt

pub ends : (z0 z : Choices) (was : Bool) (m s : ℕ) (w : Move) (a : Bool) → w ≡ Ends a → Turned z0 was (found_by w z) (made_of w) z (running_of w)
    → Healthy s was z0 → m ≤ 18446744073709551615 → Steps (owing z0 was m s false) (Found (end_event a z.now)) (owing z false m s false)
ends z0 z was m s w v e t0 h b =
    let P : Move → Type 0 = λ w. Turned z0 was (found_by w z) (made_of w) z (running_of w) in
    let t = subst P e t0 in
    record {
      problem = t.problem;
      first = t.first;
      splits = refl;
      going = refl;
      events = t.events;
      cost = let a = t.cost in omega (arith, a);
      made = rw t.cost (cut_same m (cost_of_choices false z) b);
      ends = t.work;
      forks = keeps z0 z s (end_event v z.now) t.problem t.first (t.forks s h) m;
    }

pub healthy_turn : (z0 z : Choices) (was r : Bool) (s : ℕ) (w : Move) → running_of w ≡ r → Turned z0 was (found_by w z) (made_of w) z (running_of w)
    → Healthy s was z0 → Healthy s r z
healthy_turn z0 z was r s w e t h = subst (λ (r : Bool). Healthy s r z) e (t.healthy s h)

no_points : (ps : List Point) → has_none ps ≡ true → ps ≡ []
no_points [] e = refl
no_points (p ∷ ps) e = cc

pub done : (z : Choices) (was : Bool) (m s : ℕ) → was ≡ false → has_none z.points ≡ true → m ≤ 18446744073709551615
    → Steps (owing z was m s false) Done (owing z was m s false)
done z true m s e p b = cc
done z false m s e h b =
    let p = no_points z.points h in
    record {
      problem = refl;
      first = refl;
      splits = refl;
      going = refl;
      events = refl;
      cost = omega arith;
      made = omega arith;
      ends = (refl, rw p refl, rw p refl, rw p refl);
      forks = tt;
    }

pub seen : (z : Choices) (r : Bool) (m s : ℕ) (b : Bool) (x : Owing) → owing z r m s b ≡ x → b ≡ false → owing z r m s false ≡ x
seen z r m s b x e h = ap (λ b. owing z r m s b) (sym h) ∙ e

-- a search that starts is healthy
pub healthy_start : (z : Choices) (p : ProblemTree) (s : State) → z ≡ starting p s → Healthy 0 true z
healthy_start z p s e =
    subst (λ (z : Choices). Healthy 0 true z) (sym e) (tt, record { forks = 0; path = here; fits = omega arith })
