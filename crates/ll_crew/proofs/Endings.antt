-- How a search begins and ends.
use Rattle.std.proofs.Common.{◌≡◌, ℕ, ◌+◌, List, [], ◌∷◌, ◌++◌, Bool, true, refl, sym, ap, ◌∙◌, subst, append-nil, false, inl, inr}
use Rattle.std.proofs.Common.{Option, None, Some, Result, Ok, Err, IfOk, OnErr}
use Rattle.std.specs.Prelude.{count_by, MatchOption}
use Rattle.std.proofs.lemmas.List.Concat.{flat_map-append}
use Rattle.std.proofs.lemmas.List.Sums.{sum_by-append}
use Rattle.ll_list_laws.proofs.CallerLemmas.{some_is as some_same}
use Rattle.ll_laws.specs.declared.Event.{Event}
use Rattle.ll_laws.specs.declared.Counts.{Counts}
use Rattle.ll_laws.specs.Pool.{Owed, PoolData}
use Rattle.ll_laws.specs.Search.{cut_count, is_answer, is_reached}
use Rattle.ll_laws.specs.Sound.{Every, Sound}
use Rattle.ll_laws.specs.CoreEvents.{opening, reports_left}
use Rattle.ll_core.proofs.CallerLemmas.{opening_sound, cut_sum, cut_twice, every_back, opening_given, all_events, all_costs, nothing_comes, given_later}
use Rattle.ll_order.specs.declared.outlet.Outlet.{Ghosts}
use Rattle.ll_order.specs.Outlets.{Rose, Gives, GivesPrefix, Refuses, CountsOf, events_left, cost_left}
use Rattle.ll_order.specs.declared.outlet.OutFault.{OutFault}
use Rattle.ll_order.specs.declared.outlet.OutFault.TheVariants.{Write}
use Rattle.ll_order.proofs.CallerLemmas.{gives_more, refuses_more}
use Rattle.ll_pool.specs.Fits.{SeatFits}
use Rattle.ll_pool.specs.declared.data.PoolProblem.{PoolProblem}
use Rattle.ll_laws.specs.Problem.{ProblemTree}
use Rattle.ll_freeze.specs.Frozen.{FrozenSight, problem_owes, alternatives_in}
use Rattle.ll_crew.specs.Alternatives.{events_in, cost_in}
use Rattle.ll_crew.specs.Seats.{Sat, asked, of_batch, IsSound}
use Rattle.ll_crew.specs.Leading.{Kept, Leads, Broke, StandsOf, StoppedOf, PrefixGiven}
use Rattle.ll_crew.specs.Turns.{Ended}
use Rattle.ll_crew.specs.declared.lead.Delivery.{Delivery}
use Rattle.ll_crew.proofs.Leadings.{kept_itself}

module _ {O F : Type 0} (ways : Ghosts O F) (start : O) (problem : ProblemTree) where
  -- a new pool, from which nothing was taken
  pub leads_first : (root : FrozenSight) (workers : ℕ) (counts : Counts) → alternatives_in root ≡ problem_owes problem ∷ [] → of_batch root ≡ problem
      → counts.answers ≡ 0 → counts.reached ≡ 0 → counts.inferences ≡ 0 → Every (ways.welcome start) (problem_owes problem).events
      → Leads ways start problem (opening root workers) start counts
  leads_first root workers counts owes of a r i wanted = record {
    sound = subst (λ (o : ProblemTree). Sound of_batch alternatives_in (opening root workers) o (problem_owes problem)) of
        (opening_sound alternatives_in of_batch root workers (problem_owes problem) owes);
    reports = [];
    taken = opening_given of_batch alternatives_in root workers;
    given = refl;
    counted = (a, r, i);
    wanted = wanted;
    kept = kept_itself ways start;
  }

  module _ (out : O) (counts : Counts) where
    -- the pool that is closed is as far as the seat had seen
    pub leads_closed : (seat : Sat) (closed : PoolData FrozenSight Event) → SeatFits of_batch alternatives_in closed seat.problem seat.mine
        → seat.problem ≡ Some (asked problem) → seat.mine.worker ≡ 0
        → seat.mine.seen.untried ≡ 0 → seat.mine.seen.busy ≡ 0 → (l : Leads ways start problem seat.mine.seen out counts)
        → (closed.untried ≡ 0) × (closed.busy ≡ 0) × Leads ways start problem closed out counts
    leads_closed seat closed f is zero untried busy l =
        let same : f.asked ≡ asked problem = some_same f.asked (asked problem) (sym f.is_asked ∙ is) in
        let sound : IsSound closed problem = subst (λ (a : PoolProblem ProblemTree). Sound of_batch alternatives_in closed a.of a.owes) same f.sound in
        let n = nothing_comes of_batch alternatives_in seat.mine.seen closed problem (problem_owes problem) l.sound sound f.later untried busy in (
          n.2,
          n.3,
          record {
            sound = sound;
            reports = l.reports;
            taken = given_later of_batch alternatives_in seat.mine.seen closed problem (problem_owes problem) l.sound sound f.later (f.taken zero) l.reports
                l.taken;
            given = l.given;
            counted = l.counted;
            wanted = l.wanted;
            kept = l.kept;
          },
        )

    module _ (p : PoolData FrozenSight Event) (untried : p.untried ≡ 0) (busy : p.busy ≡ 0) (l : Leads ways start problem p out counts)
      where
        -- what was given and what is left is all that the problem owes
        whole : events_in l.reports ++ events_left alternatives_in p ≡ (problem_owes problem).events
        whole = sym (flat_map-append (λ (o : Owed Event). o.events) l.reports (reports_left alternatives_in p))
            ∙ all_events of_batch alternatives_in p problem (problem_owes problem) l.sound untried busy l.reports l.taken

        whole_cost : cut_count (cost_in l.reports + cost_left alternatives_in p) ≡ cut_count (problem_owes problem).cost
        whole_cost = ap cut_count (sym (sum_by-append (λ (o : Owed Event). o.cost) l.reports (reports_left alternatives_in p)))
            ∙ all_costs of_batch alternatives_in p problem (problem_owes problem) l.sound untried busy l.reports l.taken

        pub welcome_left : Every (ways.welcome out) (events_left alternatives_in p)
        welcome_left = every_back (ways.welcome out) (events_in l.reports) (events_left alternatives_in p)
            (subst (Every (ways.welcome out)) (sym whole) l.wanted)

        pub given_whole : (out' : O) → Gives ways.takes out (events_left alternatives_in p) out' → Gives ways.takes start (problem_owes problem).events out'
        given_whole out' g = subst (λ es. Gives ways.takes start es out') whole
            (gives_more ways.takes ways.breaks start out out' (events_in l.reports) (events_left alternatives_in p) l.given g)

        pub refused_whole : (out' : O) → Refuses ways.takes ways.breaks out (events_left alternatives_in p) out'
            → Refuses ways.takes ways.breaks start (problem_owes problem).events out'
        refused_whole out' r = subst (λ es. Refuses ways.takes ways.breaks start es out')
            (ap (λ es. events_in l.reports ++ es) (append-nil (events_left alternatives_in p)) ∙ whole)
            (refuses_more ways.takes ways.breaks start out out' (events_in l.reports) (events_left alternatives_in p) [] l.given r)

        one_count : (a b sum : ℕ) (xs ys : List Event) (test : Event → Bool) → a ≡ cut_count (count_by test xs) → b ≡ cut_count (count_by test ys)
            → sum ≡ cut_count (a + b) → sum ≡ cut_count (count_by test (xs ++ ys))
        one_count a b sum xs ys test e f g =
            let s : count_by test (xs ++ ys) ≡ count_by test xs + count_by test ys = sum_by-append _ xs ys in
            g ∙ (cut_sum a b (count_by test xs) (count_by test ys) (ap cut_count e ∙ cut_twice (count_by test xs))
            (ap cut_count f ∙ cut_twice (count_by test ys))
            ∙ ap cut_count (sym s))

        pub counts_whole : (rest sum : Counts) → CountsOf rest (events_left alternatives_in p) (cost_left alternatives_in p)
            → sum.answers ≡ cut_count (counts.answers + rest.answers) → sum.reached ≡ cut_count (counts.reached + rest.reached)
            → sum.inferences ≡ cut_count (counts.inferences + rest.inferences) → CountsOf sum (problem_owes problem).events (problem_owes problem).cost
        counts_whole rest sum c a r i =
            let d = l.counted in (
              one_count counts.answers rest.answers sum.answers (events_in l.reports) (events_left alternatives_in p) is_answer d.0 c.0 a
                  ∙ ap (λ es. cut_count (count_by is_answer es)) whole,
              one_count counts.reached rest.reached sum.reached (events_in l.reports) (events_left alternatives_in p) is_reached d.1 c.1 r
                  ∙ ap (λ es. cut_count (count_by is_reached es)) whole,
              i ∙ (cut_sum counts.inferences rest.inferences (cost_in l.reports) (cost_left alternatives_in p)
                  (ap cut_count d.2 ∙ cut_twice (cost_in l.reports))
                  (ap cut_count c.2 ∙ cut_twice (cost_left alternatives_in p)) ∙ whole_cost),
            )

-- the result of the caller's own work, whatever it is, is over the same seat
pub same_of : {E : Type 0} (result : Result Bool E) (ended left failed : Type 0) (same : Type 0) → (ended → same) → (left → same) → (failed → same)
    → IfOk result (λ d. d ≡ true → ended) → IfOk result (λ d. d ≡ false → left) → OnErr result failed → same
same_of (Ok true) ended left failed same f g h a b c = f (a refl)
same_of (Ok false) ended left failed same f g h a b c = g (b refl)
same_of (Err e) ended left failed same f g h a b c = h c

pub ended_of : {E : Type 0} (result : Result Bool E) (x : Bool) (ended : Type 0) → result ≡ Ok x → x ≡ true → IfOk result (λ d. d ≡ true → ended) → ended
ended_of result x ended e t a = subst (λ (r : Result Bool _). IfOk r (λ d. d ≡ true → ended)) e a t

module _ {O F : Type 0} (ways : Ghosts O F) (start : O) (problem : ProblemTree) (out : O) (told : Delivery) where
  pub closed_leads : (a b c : Sat) (closed : PoolData FrozenSight Event) → a.problem ≡ Some (asked problem) → a.mine.worker ≡ 0 → told.leads ≡ true
      → Ended (StandsOf ways start problem b out told) problem a b
      → c.problem ≡ b.problem → c.mine ≡ b.mine → SeatFits of_batch alternatives_in closed c.problem c.mine
      → (closed.untried ≡ 0) × (closed.busy ≡ 0) × Leads ways start problem closed out told.counts
  closed_leads a b c closed is zero leads e problem_is mine_is f =
      let s = e.stays in let same = s.same in let st = s.stands leads in
      let l' : Leads ways start problem c.mine.seen out told.counts =
      subst (λ m. Leads ways start problem m.seen out told.counts) (sym mine_is) st.2 in
      leads_closed ways start problem out told.counts c closed f (problem_is ∙ (same.problem ∙ is))
      (ap (λ m. m.worker) mine_is ∙ (same.worker ∙ zero)) (ap (λ m. m.seen.untried) mine_is ∙ e.untried) (ap (λ m. m.seen.busy) mine_is ∙ e.busy) l'

  -- ---- what a worker that stopped has given

  pub stopped_kept : told.leads ≡ true → StoppedOf ways start problem out told → Kept ways start out
  stopped_kept leads s = (s leads).0

  prefix_by : (f : Option OutFault) → MatchOption f (PrefixGiven ways start problem out)
      (λ fault. Broke ways start problem out fault) → GivesPrefix ways.takes ways.breaks start (problem_owes problem).events out
  prefix_by None h = inl h
  prefix_by (Some fault) h = inr h.refused

  pub stopped_prefix : told.leads ≡ true → StoppedOf ways start problem out told
      → GivesPrefix ways.takes ways.breaks start (problem_owes problem).events out
  stopped_prefix leads s = prefix_by told.fault (s leads).1

  pub stopped_write : (fault : OutFault) → told.leads ≡ true → told.fault ≡ Some fault → StoppedOf ways start problem out told
      → fault ≡ Write → Rose (ways.faults start) (ways.faults out)
  stopped_write fault leads is s =
      let b = subst (λ f. MatchOption f (PrefixGiven ways start problem out)
      (λ fault. Broke ways start problem out fault)) is (s leads).1 in b.write

-- what holds where the work was left or failed, holds where it did not come to the end
pub left_or_failed : {E : Type 0} (done : Result Bool E) (X : Type 0) → (done ≡ Ok true → ⊥) → IfOk done (λ d. d ≡ false → X) → OnErr done X → X
left_or_failed (Ok true) X not left failed = absurd (not refl)
left_or_failed (Ok false) X not left failed = left refl
left_or_failed (Err e) X not left failed = failed
