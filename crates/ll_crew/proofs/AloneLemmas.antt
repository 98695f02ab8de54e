-- A search by the caller alone, step by step.
use Rattle.std.proofs.Common.{◌≡◌, ℕ, Bool, List, ◌+◌, ◌-◌, ◌≤◌, [], ◌++◌, refl, sym, ap, ◌∙◌, subst, arith}
use Rattle.std.proofs.Common.{append_assoc, append-nil, le_refl, le_trans, inl, inr}
use Rattle.std.specs.Prelude.{count_by}
use Rattle.ll_laws.specs.declared.Event.{Event}
use Rattle.ll_laws.specs.declared.Counts.{Counts}
use Rattle.ll_laws.specs.Search.{cut_count, is_answer, is_reached}
use Rattle.ll_laws.specs.Sound.{Every}
use Rattle.ll_laws.specs.Problem.{ProblemTree, problem_events, problem_cost}
use Rattle.ll_core.proofs.CallerLemmas.{every_more, every_front, every_back}
use Rattle.ll_order.specs.declared.outlet.Outlet.{Ghosts}
use Rattle.ll_order.specs.Outlets.{Gives, GivesPrefix, Refuses, CountsOf}
use Rattle.ll_order.proofs.CallerLemmas.{gives_more, refuses_more, no_count, counts_more}
use Rattle.ll_engine.specs.Seen.{Owing}
use Rattle.ll_engine.specs.Steps.{fresh}
use Rattle.ll_crew.specs.Leading.{Kept}
use Rattle.ll_crew.specs.Alone.{IsAlone}
use Rattle.ll_crew.specs.Pieces.{Stretched}

zero_plus : (n : ℕ) → 0 + n ≡ n
zero_plus n = omega arith

cost_moves : (made cost more less k : ℕ) → less ≤ cost → cut_count more ≡ cut_count (made + (cost - less)) → cut_count (made + cost) ≡ k
    → cut_count (more + less) ≡ k
cost_moves made cost more less k h e f = omega arith

module _ {O F : Type 0} (ways : Ghosts O F) (start : O) (p : ProblemTree) where
  pub alone_starts : (e : Owing) → e ≡ fresh p → Every (ways.welcome start) (problem_events p)
      → IsAlone ways start p e start (record { answers = 0; reached = 0; inferences = 0 })
  alone_starts e h w = record {
    done = [];
    giving = record {
      order = sym (ap (λ (x : Owing). x.events) h);
      given = refl;
      wanted = subst (Every (ways.welcome start)) (sym (ap (λ (x : Owing). x.events) h)) w;
      faults_kept = le_refl _;
      welcome_kept = λ x. (λ k. k, λ k. k);
    };
    counting = record { answers = no_count 0 (omega arith); reached = no_count 0 (omega arith) };
    cost = ap (λ (x : Owing). cut_count (x.made + x.cost)) h ∙ ap cut_count (let z : 0 + problem_cost p ≡ problem_cost p = omega arith in z);
    problem = ap (λ (x : Owing). x.problem) h;
  }

  module _ (engine : Owing) (out : O) (counts : Counts) (a : IsAlone ways start p engine out counts) where
    pub alone_keeps : Kept ways start out
    alone_keeps = record { no_fewer = a.giving.faults_kept; same_welcome = a.giving.welcome_kept }

    pub alone_keeps_on : (out' : O) → Kept ways out out' → Kept ways start out'
    alone_keeps_on out' k = record {
      no_fewer = le_trans a.giving.faults_kept k.no_fewer;
      same_welcome = λ x. (λ h. (k.same_welcome x).0 ((a.giving.welcome_kept x).0 h), λ h. (a.giving.welcome_kept x).1 ((k.same_welcome x).1 h));
    }

    -- what was given is a prefix
    pub alone_prefix : GivesPrefix ways.takes ways.breaks start (problem_events p) out
    alone_prefix = inl (a.done, engine.events, a.giving.order, a.giving.given)

  module _ (old new : Owing) (out : O) (counts : Counts) (a : IsAlone ways start p old out counts) where
    module _ (ended : Bool) (before es : List Event) (none : before ≡ []) (s : Stretched ended before old es new) where
      events_now : old.events ≡ es ++ new.events
      events_now = sym (s.events ∙ ap (λ l. l ++ old.events) none)

      in_order : problem_events p ≡ a.done ++ (es ++ new.events)
      in_order = a.giving.order ∙ ap (λ l. a.done ++ l) events_now

      welcome_still : Every (ways.welcome out) (es ++ new.events)
      welcome_still = subst (Every (ways.welcome out)) events_now a.giving.wanted

      pub alone_wants : Every (ways.welcome out) es
      alone_wants = every_front (ways.welcome out) es new.events welcome_still

      pub alone_goes_on : (out' : O) (counts' : Counts) → Gives ways.takes out es out' → counts'.answers ≡ cut_count (counts.answers + count_by is_answer es)
          → counts'.reached ≡ cut_count (counts.reached + count_by is_reached es) → Kept ways out out'
          → IsAlone ways start p new out' counts'
      alone_goes_on out' counts' g answers reached k = record {
        done = a.done ++ es;
        giving = record {
          order = in_order ∙ sym (append_assoc a.done es new.events);
          given = gives_more ways.takes ways.breaks start out out' a.done es a.giving.given g;
          wanted = every_more (ways.welcome out) (ways.welcome out') new.events (λ x h. (k.same_welcome x).0 h)
              (every_back (ways.welcome out) es new.events welcome_still);
          faults_kept = le_trans a.giving.faults_kept k.no_fewer;
          welcome_kept = λ x. (λ h. (k.same_welcome x).0 ((a.giving.welcome_kept x).0 h), λ h. (a.giving.welcome_kept x).1 ((k.same_welcome x).1 h));
        };
        counting = record {
          answers = counts_more is_answer 0 counts.answers counts'.answers a.done es a.counting.answers answers;
          reached = counts_more is_reached 0 counts.reached counts'.reached a.done es a.counting.reached reached;
        };
        cost = cost_moves old.made old.cost new.made new.cost (cut_count (problem_cost p)) s.cost s.made a.cost;
        problem = s.problem ∙ a.problem;
      }

      -- where the engine owes nothing more, all was given
      pub alone_ends : (out' : O) → Gives ways.takes out es out' → new.events ≡ [] → Gives ways.takes start (problem_events p) out'
      alone_ends out' g nothing =
          let all : problem_events p ≡ a.done ++ es = in_order ∙ ap (λ l. a.done ++ l) (ap (λ l. es ++ l) nothing ∙ append-nil es) in
          subst (λ l. Gives ways.takes start l out') (sym all) (gives_more ways.takes ways.breaks start out out' a.done es a.giving.given g)

      -- and all was counted
      pub alone_counts : (counts' : Counts) (made : ℕ) → made ≤ 18446744073709551615 → made ≡ new.made
          → counts'.answers ≡ cut_count (counts.answers + count_by is_answer es) → counts'.reached ≡ cut_count (counts.reached + count_by is_reached es)
          → new.events ≡ [] → new.cost ≡ 0
          → CountsOf (record { answers = counts'.answers; reached = counts'.reached; inferences = made }) (problem_events p) (problem_cost p)
      alone_counts counts' made fits is answers reached nothing free =
          let all : a.done ++ es ≡ problem_events p = sym (in_order ∙ ap (λ l. a.done ++ l) (ap (λ l. es ++ l) nothing ∙ append-nil es)) in
          let answered = counts_more is_answer 0 counts.answers counts'.answers a.done es a.counting.answers answers in
          let stopped = counts_more is_reached 0 counts.reached counts'.reached a.done es a.counting.reached reached in
          let spent : cut_count (new.made + new.cost) ≡ cut_count (problem_cost p)
          = cost_moves old.made old.cost new.made new.cost (cut_count (problem_cost p)) s.cost s.made a.cost in (
            answered ∙ ap cut_count (zero_plus (count_by is_answer (a.done ++ es)) ∙ ap (count_by is_answer) all),
            stopped ∙ ap cut_count (zero_plus (count_by is_reached (a.done ++ es)) ∙ ap (count_by is_reached) all),
            omega (arith, spent, free, is, fits),
          )

      pub alone_breaks : (out' : O) → GivesPrefix ways.takes ways.breaks out es out' → GivesPrefix ways.takes ways.breaks start (problem_events p) out'
      alone_breaks out' (inl (front, back, is, g)) =
          let order : problem_events p ≡ (a.done ++ front) ++ (back ++ new.events) =
          in_order ∙ (ap (λ l. a.done ++ (l ++ new.events)) is
          ∙ (ap (λ l. a.done ++ l) (append_assoc front back new.events) ∙ sym (append_assoc a.done front (back ++ new.events)))) in
          inl (a.done ++ front, back ++ new.events, order, gives_more ways.takes ways.breaks start out out' a.done front a.giving.given g)
      alone_breaks out' (inr r) = inr (subst (λ l. Refuses ways.takes ways.breaks start l out') (sym in_order)
          (refuses_more ways.takes ways.breaks start out out' a.done es new.events a.giving.given r))
