-- Turns that take no report and neither starve nor stop the pool.
use Rattle.std.proofs.Common.{◌≡◌, ◌+◌, List, Bool, true, false, not, ◌&&◌, ◌||◌, refl, sym, ap, ◌∙◌, subst, Option, Some}
use Rattle.ll_list_laws.proofs.CallerLemmas.{some_is}
use Rattle.ll_laws.specs.declared.Event.{Event}
use Rattle.ll_laws.specs.Pool.{Owed, PoolData}
use Rattle.ll_laws.specs.Sound.{Sound}
use Rattle.ll_laws.specs.Later.{Later}
use Rattle.ll_laws.specs.CoreEvents.{CoreEvent, Claim, Publish, Report, Look, Work, Idle, Finished, Starved, Stopped, Does}
use Rattle.ll_laws.specs.CoreEvents as core
use Rattle.ll_core.specs.Laws.{IsTakenAt}
use Rattle.ll_core.specs.Given.{TakesNone, MarksNone}
use Rattle.ll_core.specs.Calls.{ClaimsAs}
use Rattle.ll_core.specs.declared.answers.Claimed.{Claimed}
use Rattle.ll_core.specs.declared.answers.Claimed.TheVariants as claims
use Rattle.ll_core.proofs.CallerLemmas.{later_itself, later_on, later_event, leaves_taken, leaves_marks}
use Rattle.ll_pool.specs.Turns.{PoolSight, SeatSight, OneTurn}
use Rattle.ll_pool.specs.declared.data.PoolProblem.{PoolProblem}
use Rattle.ll_laws.specs.Problem.{ProblemTree}
use Rattle.ll_freeze.specs.Frozen.{FrozenSight, alternatives_in}
use Rattle.ll_crew.specs.Seats.{Sat, asked, of_batch, IsSound, IsSeat, Same, Calm}

-- a mark that was not set anew
pub none_set : (quit a b c d : Bool) → a ≡ b → c ≡ d → quit || ((a && not b) || (c && not d)) ≡ quit
none_set quit a b c d e f = ap (λ x. quit || ((x && not b) || (c && not d))) e ∙ (ap (λ x. quit || ((b && not b) || (x && not d))) f ∙ settled quit b d)
  where
    settled : (q b d : Bool) → q || ((b && not b) || (d && not d)) ≡ q
    settled true b d = refl
    settled false true true = refl
    settled false true false = refl
    settled false false true = refl
    settled false false false = refl

-- ---- seats

-- a seat has then taken one turn more
pub turn_counted : {N Of : Type 0} (of : N → Of) (alternatives : N → List (Owed Event)) (change : PoolData N Event → PoolData N Event → Type 0)
    (before after : SeatSight N Of) → OneTurn of alternatives change before after → after.mine.turns ≡ before.mine.turns + 1
turn_counted {N = N} {Of = Of} of alternatives change before after t = ap (λ (s : SeatSight N Of). s.mine.turns) t.seat

pub same_itself : (s : Sat) → Same s s
same_itself s = record { table = refl; problem = refl; worker = refl; given = refl }

pub same_on : (a b c : Sat) → Same a b → Same b c → Same a c
same_on a b c f g = record { table = g.table ∙ f.table; problem = g.problem ∙ f.problem; worker = g.worker ∙ f.worker; given = g.given ∙ f.given }

pub seat_on : (pool : PoolSight) (problem : ProblemTree) (a b : Sat) → Same a b → IsSeat pool problem a → IsSeat pool problem b
seat_on pool problem a b f s = record { table = f.table ∙ s.table; problem = f.problem ∙ s.problem }

pub calm_itself : (s : Sat) → Calm s s
calm_itself s = record { same = same_itself s; quit = refl; later = later_itself s.mine.seen; taken = λ z i. ((λ t. t), (λ t. t)); sound = λ p e h. h }

pub calm_on : (a b c : Sat) → Calm a b → Calm b c → Calm a c
calm_on a b c f g =
    let fs = f.same in
    record {
      same = same_on a b c f.same g.same;
      quit = g.quit ∙ f.quit;
      later = later_on a.mine.seen b.mine.seen c.mine.seen f.later g.later;
      taken = λ z i. let t = f.taken z i in let u = g.taken (fs.worker ∙ z) i in ((λ h. u.0 (t.0 h)), (λ h. t.1 (u.1 h)));
      sound = λ p e h. g.sound p (fs.problem ∙ e) (f.sound p e h);
    }

module _ (change : PoolData FrozenSight Event → PoolData FrozenSight Event
    → Type 0) (before after : Sat) (t : OneTurn of_batch alternatives_in change before after) where
  pub turn_same : Same before after
  turn_same = record {
    table = ap (λ (s : Sat). s.table) t.seat;
    problem = ap (λ (s : Sat). s.problem) t.seat;
    worker = ap (λ (s : Sat). s.mine.worker) t.seat;
    given = ap (λ (s : Sat). s.given) t.seat;
  }

  pub turn_seen : after.mine.seen ≡ t.left
  turn_seen = ap (λ (s : Sat). s.mine.seen) t.seat

  asked_of : (problem : ProblemTree) → before.problem ≡ Some (asked problem) → (q : Option (PoolProblem ProblemTree)) → q ≡ before.problem
      → (a : PoolProblem ProblemTree) → q ≡ Some a → a ≡ asked problem
  asked_of problem is q same a e = some_is a (asked problem) (sym e ∙ (same ∙ is))

  pub found_sound : (problem : ProblemTree) → before.problem ≡ Some (asked problem) → IsSound t.found problem
  found_sound problem is = let f = t.fits in subst (λ (a : PoolProblem ProblemTree). Sound of_batch alternatives_in t.found a.of a.owes)
      (asked_of problem is before.problem refl f.asked f.is_asked) f.sound

  pub left_sound : (problem : ProblemTree) → before.problem ≡ Some (asked problem) → IsSound t.left problem
  left_sound problem is =
      let f = t.fits_left in let s = turn_same in
      subst (λ (a : PoolProblem ProblemTree). Sound of_batch alternatives_in t.left a.of a.owes)
      (asked_of problem is after.problem s.problem f.asked f.is_asked) f.sound

  pub seen_sound : (problem : ProblemTree) → before.problem ≡ Some (asked problem) → IsSound after.mine.seen problem
  seen_sound problem is = subst (λ p. IsSound p problem) (sym turn_seen) (left_sound problem is)

  module _ (e : CoreEvent FrozenSight Event) (takes_none : TakesNone e) (marks_none : MarksNone e) (does : Does alternatives_in t.found e t.left) where
    pub calm_turn : Calm before after
    calm_turn =
        let f = t.fits in
        let m = leaves_marks of_batch alternatives_in t.found t.left e does marks_none in
        record {
          same = turn_same;
          quit = ap (λ (s : Sat). s.mine.quit) t.seat ∙ none_set before.mine.quit t.left.starved t.found.starved t.left.stopped t.found.stopped m.0 m.1;
          later = subst (Later before.mine.seen) (sym turn_seen)
              (later_on before.mine.seen t.found t.left f.later (later_event alternatives_in t.found t.left e does));
          taken = λ z i. subst (λ q. (IsTakenAt before.mine.seen i → IsTakenAt q i) × (IsTakenAt q i → IsTakenAt before.mine.seen i)) (sym turn_seen)
              (let a = f.taken z i in let b = leaves_taken of_batch alternatives_in t.found t.left e does takes_none i in
              ((λ h. b.0 (a.0 h)), (λ h. a.1 (b.1 h))));
          sound = λ p is h. seen_sound p is;
        }

-- ---- calls

pub calm_claim : (answer : Claimed FrozenSight) (before after : Sat)
    → OneTurn of_batch alternatives_in (λ found left. ClaimsAs alternatives_in found before.mine.worker answer left) before after → Calm before after
calm_claim (claims.Work piece batch k) before after t = let d = t.changed in calm_turn _ before after t (Claim before.mine.worker (Work piece d.0 k)) tt tt d.2
calm_claim (claims.Idle busy) before after t = calm_turn _ before after t (Claim before.mine.worker (Idle busy)) tt tt t.changed
calm_claim claims.Finished before after t = calm_turn _ before after t (Claim before.mine.worker Finished) tt tt t.changed
calm_claim claims.Starved before after t = calm_turn _ before after t (Claim before.mine.worker Starved) tt tt t.changed
calm_claim claims.Stopped before after t = calm_turn _ before after t (Claim before.mine.worker Stopped) tt tt t.changed

pub calm_publish : (n : FrozenSight) (answer : core.PublishAnswer) (before after : Sat)
    → OneTurn of_batch alternatives_in (λ found left. Does alternatives_in found (Publish before.mine.worker n answer) left) before after → Calm before after
calm_publish n answer before after t = calm_turn _ before after t (Publish before.mine.worker n answer) tt tt t.changed

pub calm_report : (report : Owed Event) (before after : Sat)
    → OneTurn of_batch alternatives_in (λ found left. Does alternatives_in found (Report before.mine.worker report) left) before after → Calm before after
calm_report report before after t = calm_turn _ before after t (Report before.mine.worker report) tt tt t.changed

pub calm_look : (seen : core.Overview) (before after : Sat) → OneTurn of_batch alternatives_in (λ found left. Does alternatives_in found (Look seen) left)
    before after → Calm before after
calm_look seen before after t = calm_turn _ before after t (Look seen) tt tt t.changed
