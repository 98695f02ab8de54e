-- What worker 0 has told stays told, and one report more.
use Rattle.std.proofs.Common.{◌≡◌, ℕ, ◌+◌, ◌≤◌, List, [], ◌∷◌, ◌++◌, refl, sym, ap, ◌∙◌, subst, arith, append_assoc, append-nil, le_trans, Some, None}
use Rattle.std.specs.Prelude.{◌↔◌, count_by, sum_by}
use Rattle.std.proofs.lemmas.List.Concat.{flat_map-append}
use Rattle.std.proofs.lemmas.List.Sums.{sum_by-append}
use Rattle.ll_edge.proofs.CallerLemmas.{Rose-later}
use Rattle.ll_laws.specs.declared.Event.{Event}
use Rattle.ll_laws.specs.declared.Counts.{Counts}
use Rattle.ll_laws.specs.Pool.{Owed, PoolData}
use Rattle.ll_laws.specs.Search.{cut_count, is_answer, is_reached}
use Rattle.ll_laws.specs.Sound.{Every}
use Rattle.ll_laws.specs.CoreEvents.{Ready, Events, Does}
use Rattle.ll_core.specs.Calls.{ready_answer}
use Rattle.ll_core.specs.declared.answers.Ready.{Ready as ReadyCall}
use Rattle.ll_core.specs.declared.answers.Ready.TheVariants as ready
use Rattle.ll_core.proofs.CallerLemmas.{every_more, cut_sum, cut_twice, every_back, every_front, step_given, given_in_front, given_later}
use Rattle.ll_core.specs.Given.{Given}
use Rattle.ll_order.specs.declared.outlet.Outlet.{Ghosts}
use Rattle.ll_order.specs.Outlets.{Rose, Gives, Refuses, CountsOf}
use Rattle.ll_order.specs.declared.outlet.OutFault.{OutFault}
use Rattle.ll_order.specs.declared.outlet.OutFault.TheVariants.{Write}
use Rattle.ll_order.proofs.CallerLemmas.{gives_more, refuses_more, counts_more}
use Rattle.ll_pool.specs.Turns.{OneTurn}
use Rattle.ll_laws.specs.Problem.{ProblemTree}
use Rattle.ll_freeze.specs.Frozen.{FrozenSight, problem_owes, alternatives_in}
use Rattle.ll_crew.specs.Alternatives.{events_in, cost_in}
use Rattle.ll_crew.specs.Seats.{Sat, asked, of_batch, IsSound, Calm}
use Rattle.ll_crew.specs.Leading.{Kept, Leads, Broke}
use Rattle.ll_crew.proofs.Calms.{calm_turn, found_sound, seen_sound, turn_seen}

-- the events of what was taken are the first ones of the problem
pub prefix_given : (p : PoolData FrozenSight Event) (problem : ProblemTree) (reports : List (Owed Event)) → IsSound p problem
    → Given of_batch alternatives_in p reports → (rest : List Event) × ((problem_owes problem).events ≡ events_in reports ++ rest)
prefix_given p problem reports s g = given_in_front of_batch alternatives_in p problem (problem_owes problem) reports s g

pub events_more : (reports : List (Owed Event)) (report : Owed Event) → events_in (reports ++ report ∷ []) ≡ events_in reports ++ report.events
events_more reports report = flat_map-append (λ (o : Owed Event). o.events) reports (report ∷ []) ∙ ap (λ l. events_in reports ++ l) (append-nil report.events)

pub counts_on : (counts new : Counts) (events more : List Event) (cost plus : ℕ) → CountsOf counts events cost
    → new.answers ≡ cut_count (counts.answers + count_by is_answer more) → new.reached ≡ cut_count (counts.reached + count_by is_reached more)
    → new.inferences ≡ cut_count (counts.inferences + plus)
    → CountsOf new (events ++ more) (cost + plus)
counts_on counts new events more cost plus c a r i = (
  counts_more is_answer 0 counts.answers new.answers events more (c.0 ∙ ap cut_count (zero_plus (count_by is_answer events))) a
      ∙ ap cut_count (sym (zero_plus (count_by is_answer (events ++ more)))),
  counts_more is_reached 0 counts.reached new.reached events more (c.1 ∙ ap cut_count (zero_plus (count_by is_reached events))) r
      ∙ ap cut_count (sym (zero_plus (count_by is_reached (events ++ more)))),
  i ∙ cut_sum counts.inferences plus cost plus (ap cut_count c.2 ∙ cut_twice cost) refl,
)
  where
    zero_plus : (n : ℕ) → n ≡ 0 + n
    zero_plus n = omega arith

module _ {O F : Type 0} (ways : Ghosts O F) where
  pub kept_itself : (out : O) → Kept ways out out
  kept_itself out = record { no_fewer = omega arith; same_welcome = λ e. ((λ h. h), (λ h. h)) }

  pub kept_on : (start out out' : O) → Kept ways start out → ways.faults out ≤ ways.faults out' → ((e : Event) → ways.welcome out e ↔ ways.welcome out' e)
      → Kept ways start out'
  kept_on start out out' k low same = record {
    no_fewer = le_trans k.no_fewer low;
    same_welcome = λ e. let a = k.same_welcome e in let b = same e in
        ((λ h. b.0 (a.0 h)), (λ h. a.1 (b.1 h)));
  }

module _ {O F : Type 0} (ways : Ghosts O F) (start : O) (problem : ProblemTree) (out : O) (counts : Counts) where
  pub leads_calm : (a b : Sat) → a.problem ≡ Some (asked problem) → a.mine.worker ≡ 0 → Calm a b
      → Leads ways start problem a.mine.seen out counts → Leads ways start problem b.mine.seen out counts
  leads_calm a b is zero c l = record {
    sound = c.sound problem is l.sound;
    reports = l.reports;
    taken = given_later of_batch alternatives_in a.mine.seen b.mine.seen problem (problem_owes problem) l.sound (c.sound problem is l.sound) c.later
        (c.taken zero) l.reports l.taken;
    given = l.given;
    counted = l.counted;
    wanted = l.wanted;
    kept = l.kept;
  }

  module _ (a b : Sat) (report : Owed Event) (t : OneTurn of_batch alternatives_in (λ found left. Does alternatives_in found (Ready (Events report)) left) a b)
      (is : a.problem ≡ Some (asked problem)) (zero : a.mine.worker ≡ 0)
      (l : Leads ways start problem a.mine.seen out counts) where
    taken_found : Given of_batch alternatives_in t.found l.reports
    taken_found =
        let f = t.fits in
        given_later of_batch alternatives_in a.mine.seen t.found problem (problem_owes problem) l.sound (found_sound _ a b t problem is) f.later (f.taken zero)
        l.reports l.taken

    taken_now : Given of_batch alternatives_in b.mine.seen (l.reports ++ report ∷ [])
    taken_now =
        subst (λ p. Given of_batch alternatives_in p (l.reports ++ report ∷ [])) (sym (turn_seen _ a b t))
        (step_given of_batch alternatives_in t.found t.left problem (problem_owes problem) l.reports (found_sound _ a b t problem is) taken_found
        (Ready (Events report)) tt t.changed)

    after_sound : IsSound b.mine.seen problem
    after_sound = seen_sound _ a b t problem is

    rest : List Event
    rest = (prefix_given b.mine.seen problem (l.reports ++ report ∷ []) after_sound taken_now).0

    abbrev pub parts_of : (more : List Event) → Type 0
    parts_of more = (problem_owes problem).events ≡ events_in l.reports ++ (report.events ++ more)

    parts : (more : List Event) × parts_of more
    parts =
        let p = prefix_given b.mine.seen problem (l.reports ++ report ∷ []) after_sound taken_now in
        (p.0, p.1 ∙ (ap (λ x. x ++ p.0) (events_more l.reports report) ∙ append_assoc (events_in l.reports) report.events p.0))

    -- its events are welcome
    pub welcome_now : Every (ways.welcome out) report.events
    welcome_now = every_front (ways.welcome out) report.events parts.0
        (every_back (ways.welcome out) (events_in l.reports) (report.events ++ parts.0) (subst (Every (ways.welcome out)) parts.1 l.wanted))

    -- once they were given, all that is taken was given
    pub leads_more : (out' : O) (counts' : Counts) → Gives ways.takes out report.events out'
        → counts'.answers ≡ cut_count (counts.answers + count_by is_answer report.events)
        → counts'.reached ≡ cut_count (counts.reached + count_by is_reached report.events)
        → counts'.inferences ≡ cut_count (counts.inferences + report.cost) → ways.faults out ≤ ways.faults out'
        → ((e : Event) → ways.welcome out e ↔ ways.welcome out' e)
        → Leads ways start problem b.mine.seen out' counts'
    leads_more out' counts' gives answers reached inferences kept same =
        let one : sum_by (λ (o : Owed Event). o.cost) (report ∷ []) ≡ report.cost = omega arith in
        let cost : cost_in l.reports + report.cost ≡ cost_in (l.reports ++ report ∷ []) =
        (let s = sum_by-append (λ (o : Owed Event). o.cost) l.reports (report ∷ []) in omega arith) in
        record {
          sound = after_sound;
          reports = l.reports ++ report ∷ [];
          taken = taken_now;
          given = subst (λ es. Gives ways.takes start es out') (sym (events_more l.reports report))
              (gives_more ways.takes ways.breaks start out out' (events_in l.reports) report.events l.given gives);
          counted = subst (λ es. CountsOf counts' es (cost_in (l.reports ++ report ∷ []))) (sym (events_more l.reports report))
              (subst (CountsOf counts' (events_in l.reports ++ report.events)) cost
              (counts_on counts counts' (events_in l.reports) report.events (cost_in l.reports) report.cost l.counted answers reached inferences));
          wanted = every_more (ways.welcome out) (ways.welcome out') (problem_owes problem).events (λ e h. (same e).0 h) l.wanted;
          kept = kept_on ways start out out' l.kept kept same;
        }

    -- what the outlet refused is the next of the problem's events
    pub broke_now : (out' : O) (fault : OutFault) → Refuses ways.takes ways.breaks out report.events out'
        → (fault ≡ Write → Rose (ways.faults out) (ways.faults out'))
        → Broke ways start problem out' fault
    broke_now out' fault refuses rose = record {
      refused = subst (λ es. Refuses ways.takes ways.breaks start es out') (sym parts.1)
          (refuses_more ways.takes ways.breaks start out out' (events_in l.reports) report.events parts.0 l.given refuses);
      write = λ e. (let k = l.kept in Rose-later (ways.faults start) (ways.faults out) (ways.faults out') k.no_fewer (rose e));
    }

-- ---- turns that take no report, and those that end the work

pub calm_ready : {E : Type 0} (answer : ReadyCall E) → ((report : Owed Event) → answer ≡ ready.Events report → ⊥) → (a b : Sat)
    → OneTurn of_batch alternatives_in (λ found left. Does alternatives_in found (Ready (ready_answer answer)) left) a b → Calm a b
calm_ready (ready.Events report) other a b t = absurd (other report refl)
calm_ready {E = E} (ready.NotYet None) other a b t = calm_turn _ a b t (Ready (ready_answer {E = E} (ready.NotYet None))) tt tt t.changed
calm_ready {E = E} (ready.NotYet (Some piece)) other a b t = calm_turn _ a b t (Ready (ready_answer {E = E} (ready.NotYet (Some piece)))) tt tt t.changed
calm_ready {E = E} ready.All other a b t = calm_turn _ a b t (Ready (ready_answer {E = E} ready.All)) tt tt t.changed
