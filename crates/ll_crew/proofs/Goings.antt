-- How what stands goes on from turn to turn.
use Rattle.std.proofs.Common.{◌≡◌, ◌⊎◌, ℕ, ◌+◌, ◌≤◌, List, true, refl, sym, ap, ◌∙◌, subst, ⊎_elim, inl, inr, Option, Some, None}
use Rattle.std.specs.Prelude.{◌↔◌, count_by, MatchOption}
use Rattle.ll_laws.specs.declared.Event.{Event}
use Rattle.ll_laws.specs.declared.Counts.{Counts}
use Rattle.ll_laws.specs.Pool.{Owed, PoolData}
use Rattle.ll_laws.specs.Search.{cut_count, is_answer, is_reached}
use Rattle.ll_laws.specs.Sound.{Every}
use Rattle.ll_laws.specs.CoreEvents.{Ready, Events, Does}
use Rattle.ll_laws.specs.CoreEvents as core
use Rattle.ll_order.specs.declared.outlet.Outlet.{Ghosts}
use Rattle.ll_order.specs.Outlets.{Rose, Gives, Refuses}
use Rattle.ll_order.specs.declared.outlet.OutFault.{OutFault}
use Rattle.ll_order.specs.declared.outlet.OutFault.TheVariants.{Write}
use Rattle.ll_pool.specs.Turns.{OneTurn}
use Rattle.ll_laws.specs.Problem.{ProblemTree}
use Rattle.ll_freeze.specs.Frozen.{FrozenSight, alternatives_in}
use Rattle.ll_crew.specs.Seats.{Sat, asked, of_batch, Same, Calm, HasLeft}
use Rattle.ll_crew.specs.Leading.{Leads, Broke, StandsOf, StoppedOf, PrefixGiven, WasRefused}
use Rattle.ll_crew.specs.Turns.{KeepsPiece, Stays, LeavesPool}
use Rattle.ll_crew.specs.declared.lead.Delivery.{Delivery}
use Rattle.ll_crew.proofs.Calms.{same_on, turn_same, turn_seen, none_set, calm_look}
use Rattle.ll_crew.proofs.Leadings.{kept_on, leads_calm, welcome_now, leads_more, broke_now, prefix_given}

module _ {O F : Type 0} (ways : Ghosts O F) (start : O) (problem : ProblemTree) where
  abbrev Standing : Sat → O → Delivery → Type 0
  Standing = StandsOf ways start problem

  pub stands_calm : (a b : Sat) (out : O) (told : Delivery) → a.problem ≡ Some (asked problem) → Calm a b → Standing a out told → Standing b out told
  stands_calm a b out told is c st = λ l. let s = st l in let same = c.same in
      (same.worker ∙ s.0, s.1, leads_calm ways start problem out told.counts a b is s.0 c s.2)

  pub goes_calm : (s a b : Sat) (out : O) (told : Delivery) → s.problem ≡ Some (asked problem) → KeepsPiece (Standing a out told) s a → Calm a b
      → b.mine.piece ≡ a.mine.piece → KeepsPiece (Standing b out told) s b
  goes_calm s a b out told is g c piece =
      let f = g.same in
      record {
        same = same_on s a b g.same c.same;
        piece = piece ∙ g.piece;
        quit = c.quit ∙ g.quit;
        stands = stands_calm a b out told (f.problem ∙ is) c g.stands;
      }

  -- a prefix was given as long as it stands
  pub prefix_stands : (seat : Sat) (out : O) (told : Delivery) → Standing seat out told → StoppedOf ways start problem out told
  prefix_stands seat out told st = λ l. let s = st l in let leads = s.2 in let p = prefix_given seat.mine.seen problem leads.reports leads.sound leads.taken in
      (leads.kept, stopped_none told.fault s.1 (_, p.0, p.1, leads.given))
    where
      stopped_none : (f : Option OutFault) → f ≡ None → PrefixGiven ways start problem out
          → MatchOption f (PrefixGiven ways start problem out) (λ fault. Broke ways start problem out fault)
      stopped_none f e h = subst (λ o. MatchOption o (PrefixGiven ways start problem out)
          (λ fault. Broke ways start problem out fault)) (sym e) h

  module _ (s a b : Sat) (out out' : O) (told : Delivery) (report : Owed Event) (events : List Event) (cost : ℕ) (told_events : events ≡ report.events)
      (told_cost : cost ≡ report.cost)
      (t : OneTurn of_batch alternatives_in (λ found left. Does alternatives_in found (Ready (Events report)) left) a b) (is : s.problem ≡ Some (asked problem))
      (leads : told.leads ≡ true) (g : KeepsPiece (Standing a out told) s a) where
    its_problem : a.problem ≡ Some (asked problem)
    its_problem = let f = g.same in f.problem ∙ is

    stood : (a.mine.worker ≡ 0) × (told.fault ≡ None) × Leads ways start problem a.mine.seen out told.counts
    stood = g.stands leads

    pub told_welcome : Every (ways.welcome out) events
    told_welcome = subst (Every (ways.welcome out)) (sym told_events)
        (welcome_now ways start problem out told.counts a b report t its_problem stood.0 stood.2)

    ready_quit : b.mine.quit ≡ a.mine.quit
    ready_quit =
        let d = t.changed in
        ap (λ (s : Sat). s.mine.quit) t.seat
        ∙ none_set a.mine.quit t.left.starved t.found.starved t.left.stopped t.found.stopped (ap (λ (p : PoolData FrozenSight Event). p.starved) d.3)
        (ap (λ (p : PoolData FrozenSight Event). p.stopped) d.3)

    pub told_more : (counts : Counts) → b.mine.piece ≡ a.mine.piece → Gives ways.takes out events out'
        → counts.answers ≡ cut_count (told.counts.answers + count_by is_answer events)
        → counts.reached ≡ cut_count (told.counts.reached + count_by is_reached events)
        → counts.inferences ≡ cut_count (told.counts.inferences + cost) → ways.faults out ≤ ways.faults out'
        → ((e : Event) → ways.welcome out e ↔ ways.welcome out' e)
        → KeepsPiece (Standing b out' (record told { counts = counts })) s b
    told_more counts piece gives answers reached inferences kept same = record {
      same = same_on s a b g.same (turn_same _ a b t);
      piece = piece ∙ g.piece;
      quit = ready_quit ∙ g.quit;
      stands = λ l. let f = turn_same _ a b t in (
        f.worker ∙ stood.0,
        stood.1,
        leads_more ways start problem out told.counts a b report t its_problem stood.0 stood.2 out' counts
            (subst (λ es. Gives ways.takes out es out') told_events gives)
            (answers ∙ ap (λ es. cut_count (told.counts.answers + count_by is_answer es)) told_events)
            (reached ∙ ap (λ es. cut_count (told.counts.reached + count_by is_reached es)) told_events)
            (inferences ∙ ap (λ n. cut_count (told.counts.inferences + n)) told_cost) kept same,
      );
    }

    pub told_refused : (fault : OutFault) (q : Sat) → Refuses ways.takes ways.breaks out events out'
        → (fault ≡ Write → Rose (ways.faults out) (ways.faults out'))
        → ways.faults out ≤ ways.faults out' → ((e : Event) → ways.welcome out e ↔ ways.welcome out' e) → Same b q → HasLeft q
        → LeavesPool (StoppedOf ways start problem out' (record told { fault = Some fault }))
        (WasRefused (record told { fault = Some fault })) s q
    told_refused fault q refuses rose low alike same left = record {
      same = same_on s b q (same_on s a b g.same (turn_same _ a b t)) same;
      left = left;
      quit = λ none. absurd (none (leads, refl));
      stopped = λ l. let leads = stood.2 in (
        kept_on ways start out out' leads.kept low alike,
        broke_now ways start problem out told.counts a b report t its_problem stood.0 stood.2 out' fault
            (subst (λ es. Refuses ways.takes ways.breaks out es out') told_events refuses) rose,
      );
    }

  -- it leaves from where it stands
  pub leaves_calm : (s a b : Sat) (out : O) (told : Delivery) → s.problem ≡ Some (asked problem) → Standing b out told → Same s b → HasLeft b
      → b.mine.quit ≡ s.mine.quit → LeavesPool (StoppedOf ways start problem out told) (WasRefused told) s b
  leaves_calm s a b out told is st same left quit = record { same = same; left = left; quit = λ f. quit; stopped = prefix_stands b out told st }

  -- ---- a look

  module _ (s a : Sat) (out : O) (told : Delivery) (seen : core.Overview)
      (t : OneTurn of_batch alternatives_in (λ found left. Does alternatives_in found (core.Look seen) left) s a) (is : s.problem ≡ Some (asked problem))
      (st : Standing s out told) where
    pub looked : Standing a out told
    looked = stands_calm s a out told is (calm_look seen s a t) st

    pub look_goes : a.mine.piece ≡ s.mine.piece → KeepsPiece (Standing a out told) s a
    look_goes piece = let c = calm_look seen s a t in record { same = c.same; piece = piece; quit = c.quit; stands = looked }

    pub look_leaves : (seen.starved ≡ true) ⊎ (seen.stopped ≡ true) → LeavesPool (StoppedOf ways start problem out told) (WasRefused told) s a
    look_leaves marked =
        let c = calm_look seen s a t in
        leaves_calm s a a out told is looked c.same
        (⊎_elim
        (λ (h : seen.starved ≡ true). inl (ap (λ (p : PoolData FrozenSight Event). p.starved) (turn_seen _ s a t ∙ t.changed.1)
        ∙ (ap (λ (o : core.Overview). o.starved) (sym t.changed.0) ∙ h)))
        (λ (h : seen.stopped ≡ true). inr (ap (λ (p : PoolData FrozenSight Event). p.stopped) (turn_seen _ s a t ∙ t.changed.1)
        ∙ (ap (λ (o : core.Overview). o.stopped) (sym t.changed.0) ∙ h)))
        marked)
        c.quit

  -- and then it goes on, or leaves
  pub goes_on : (s a b : Sat) (x y : Type 0) → KeepsPiece x s a → KeepsPiece y a b → KeepsPiece y s b
  goes_on s a b x y f g = record { same = same_on s a b f.same g.same; piece = g.piece ∙ f.piece; quit = g.quit ∙ f.quit; stands = g.stands }

  pub goes_out : (refused : Type 0) (s a b : Sat) (x y : Type 0) → KeepsPiece x s a → LeavesPool y refused a b → LeavesPool y refused s b
  goes_out refused s a b x y f g = record { same = same_on s a b f.same g.same; left = g.left; quit = λ h. g.quit h ∙ f.quit; stopped = g.stopped }

  pub stays_goes : (s a b : Sat) (x y : Type 0) → Stays x s a → KeepsPiece y a b → Stays y s b
  stays_goes s a b x y f g = record { same = same_on s a b f.same g.same; quit = g.quit ∙ f.quit; stands = g.stands }

  pub stays_calm : (s a b : Sat) (out : O) (told : Delivery) → s.problem ≡ Some (asked problem) → Stays (Standing a out told) s a → Calm a b
      → Stays (Standing b out told) s b
  stays_calm s a b out told is f c = let same = f.same in record {
    same = same_on s a b f.same c.same;
    quit = c.quit ∙ f.quit;
    stands =
        stands_calm a b out told (same.problem ∙ is) c f.stands;
  }
