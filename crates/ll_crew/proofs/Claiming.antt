-- How a claim goes, and how a worker goes on from it.
use Rattle.std.proofs.Common.{◌≡◌, refl, ap, ◌∙◌, inl, inr, Some, None}
use Rattle.ll_laws.specs.declared.Event.{Event}
use Rattle.ll_laws.specs.Pool.{PoolData}
use Rattle.ll_laws.specs.CoreEvents.{Starve, Does}
use Rattle.ll_core.specs.Calls.{ClaimsAs}
use Rattle.ll_core.specs.declared.answers.Claimed.{Claimed}
use Rattle.ll_core.specs.declared.answers.Claimed.TheVariants.{Finished, Starved, Stopped}
use Rattle.ll_order.specs.declared.outlet.Outlet.{Ghosts}
use Rattle.ll_pool.specs.Turns.{OneTurn}
use Rattle.ll_laws.specs.Problem.{ProblemTree}
use Rattle.ll_freeze.specs.Frozen.{FrozenSight, alternatives_in}
use Rattle.ll_crew.specs.Seats.{Sat, asked, of_batch, HasLeft}
use Rattle.ll_crew.specs.Leading.{StandsOf, StoppedOf, WasRefused}
use Rattle.ll_crew.specs.Turns.{Stays, KeepsPiece, LeavesPool, Ended, Fails}
use Rattle.ll_crew.specs.declared.lead.Delivery.{Delivery}
use Rattle.ll_crew.proofs.Calms.{same_itself, same_on, turn_same, turn_seen, seen_sound, calm_claim}
use Rattle.ll_crew.proofs.Goings.{stands_calm, prefix_stands}

module _ {O F : Type 0} (ways : Ghosts O F) (start : O) (problem : ProblemTree) where
  abbrev Standing : Sat → O → Delivery → Type 0
  Standing = StandsOf ways start problem

  abbrev Stopping : O → Delivery → Type 0
  Stopping = StoppedOf ways start problem

  module _ (answer : Claimed FrozenSight) (s a : Sat) (out : O) (told : Delivery)
      (t : OneTurn of_batch alternatives_in (λ found left. ClaimsAs alternatives_in found s.mine.worker answer left) s a)
      (is : s.problem ≡ Some (asked problem)) (st : Standing s out told) where
    pub claim_stands : Standing a out told
    claim_stands = stands_calm ways start problem s a out told is (calm_claim answer s a t) st

    pub claim_stays : Stays (Standing a out told) s a
    claim_stays = let c = calm_claim answer s a t in record { same = c.same; quit = c.quit; stands = claim_stands }

    leaves_with : HasLeft a → LeavesPool (Stopping out told) (WasRefused told) s a
    leaves_with left = let c = calm_claim answer s a t in record {
      same = c.same;
      left = left;
      quit = λ f. c.quit;
      stopped =
          prefix_stands ways start problem a out told claim_stands;
    }

  pub claim_starved : (s a : Sat) (out : O) (told : Delivery) → OneTurn of_batch alternatives_in
      (λ found left. ClaimsAs alternatives_in found s.mine.worker Starved left) s a → s.problem ≡ Some (asked problem) → Standing s out told
      → LeavesPool (Stopping out told) (WasRefused told) s a
  claim_starved s a out told t is st = let d = t.changed in leaves_with Starved s a out told t is st
      (inl (ap (λ (p : PoolData FrozenSight Event). p.starved) (turn_seen _ s a t ∙ d.2) ∙ d.1))

  pub claim_stopped : (s a : Sat) (out : O) (told : Delivery) → OneTurn of_batch alternatives_in
      (λ found left. ClaimsAs alternatives_in found s.mine.worker Stopped left) s a → s.problem ≡ Some (asked problem) → Standing s out told
      → LeavesPool (Stopping out told) (WasRefused told) s a
  claim_stopped s a out told t is st = let d = t.changed in leaves_with Stopped s a out told t is st
      (inr (ap (λ (p : PoolData FrozenSight Event). p.stopped) (turn_seen _ s a t ∙ d.1) ∙ d.0))

  -- nothing is untried or open
  pub claim_ended : (s a : Sat) (out : O) (told : Delivery) → OneTurn of_batch alternatives_in
      (λ found left. ClaimsAs alternatives_in found s.mine.worker Finished left) s a → s.problem ≡ Some (asked problem) → Standing s out told
      → a.mine.piece ≡ None
      → Ended (Standing a out told) problem s a
  claim_ended s a out told t is st none =
      let d = t.changed in
      record {
        stays = claim_stays Finished s a out told t is st;
        piece = none;
        sound = seen_sound _ s a t problem is;
        untried = ap (λ (p : PoolData FrozenSight Event). p.untried) (turn_seen _ s a t ∙ d.3) ∙ d.1;
        busy = ap (λ (p : PoolData FrozenSight Event). p.busy) (turn_seen _ s a t ∙ d.3) ∙ d.2;
      }

pub stays_out : (x e refused : Type 0) (s a b : Sat) → Stays x s a → LeavesPool e refused a b → LeavesPool e refused s b
stays_out x e refused s a b f g = record { same = same_on s a b f.same g.same; left = g.left; quit = λ h. g.quit h ∙ f.quit; stopped = g.stopped }

pub stays_on : (x y : Type 0) (s a b : Sat) → Stays x s a → Stays y a b → Stays y s b
stays_on x y s a b f g = record { same = same_on s a b f.same g.same; quit = g.quit ∙ f.quit; stands = g.stands }

-- it stays where it is
pub stays_here : (x : Type 0) (s : Sat) → x → Stays x s s
stays_here x s stands = record { same = same_itself s; quit = refl; stands = stands }

pub goes_stays : (x : Type 0) (s a : Sat) → KeepsPiece x s a → Stays x s a
goes_stays x s a go = record { same = go.same; quit = go.quit; stands = go.stands }

-- it goes on, and then has come to the end
pub ended_on : (x y : Type 0) (problem : ProblemTree) (s a b : Sat) → Stays x s a → Ended y problem a b → Ended y problem s b
ended_on x y problem s a b f g = record {
  stays = stays_on x y s a b f g.stays;
  piece = g.piece;
  sound = g.sound;
  untried = g.untried;
  busy = g.busy;
}

-- memory ran out: the pool is starved
pub starve_fails : {O F : Type 0} (ways : Ghosts O F) (start : O) (problem : ProblemTree) (s a b : Sat) (out : O) (told : Delivery)
    → Stays (StandsOf ways start problem a out told) s a
    → OneTurn of_batch alternatives_in (λ found left. Does alternatives_in found (Starve a.mine.worker) left) a b
    → Fails (StoppedOf ways start problem out told) s b
starve_fails ways start problem s a b out told f t = record {
  same = same_on s a b f.same (turn_same _ a b t);
  starved = ap (λ (p : PoolData FrozenSight Event). p.starved) (turn_seen _ a b t ∙ t.changed);
  stopped = prefix_stands ways start problem a out told f.stands;
}
