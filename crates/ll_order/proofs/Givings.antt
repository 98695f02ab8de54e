-- Events that are given one after the other.
use Rattle.std.proofs.Common.{◌≡◌, ℕ, ◌+◌, ◌≤◌, List, [], ◌∷◌, ◌++◌, Bool, refl, sym, ap, ◌∙◌, subst, arith, append_assoc, append-nil, Some, Ok, Err}
use Rattle.std.specs.Prelude.{count_by, flat_map, sum_by, slice_get}
use Rattle.std.proofs.Math.Nat.{min-eq_left}
use Rattle.std.proofs.lemmas.List.Sums.{sum_by-append}
use Rattle.std.proofs.lemmas.List.Concat.{flat_map-append}
use Rattle.ll_laws.specs.declared.Event.{Event}
use Rattle.ll_laws.specs.declared.Counts.{Counts}
use Rattle.ll_laws.specs.Pool.{Owed, Taken, Piece, PoolData}
use Rattle.ll_laws.specs.Search.{cut_count, is_answer, is_reached}
use Rattle.ll_laws.specs.Sound.{Shaped}
use Rattle.ll_laws.specs.Later.{Later}
use Rattle.ll_laws.specs.CoreEvents.{MayTake, Readies, Events, took, reports_left}
use Rattle.ll_laws.specs.CoreEvents as core
use Rattle.ll_core.specs.Calls.{ready_answer}
use Rattle.ll_core.specs.declared.answers.Ready.{Ready}
use Rattle.ll_core.specs.declared.answers.Ready.TheVariants as ready
use Rattle.ll_core.proofs.CallerLemmas.{cut_sum, cut_twice, later_on, later_event}
use Rattle.ll_order.specs.Outlets.{Gives, Refuses, CountsOf, events_left, cost_left}
use Rattle.ll_order.specs.Drained.{Drained, count_untaken}
use Rattle.ll_order.proofs.Lefts.{took_left, took_less, always_ready}

module _ {O : Type 0} (takes breaks : O → Event → O → Type 0) where
  pub gives_more : (before between after : O) (xs ys : List Event) → Gives takes before xs between → Gives takes between ys after
      → Gives takes before (xs ++ ys) after
  gives_more before between after [] ys g h = subst (λ u. Gives takes u ys after) g h
  gives_more before between after (x ∷ xs) ys g h = (g.0, g.1, gives_more g.0 between after xs ys g.2 h)

  -- what was given before a refusal, and what would have come behind it
  pub refuses_more : (before between after : O) (xs ys zs : List Event) → Gives takes before xs between → Refuses takes breaks between ys after
      → Refuses takes breaks before (xs ++ (ys ++ zs)) after
  refuses_more before between after xs ys zs g r = record {
    front = xs ++ r.front;
    refused = r.refused;
    back = r.back ++ zs;
    between = r.between;
    order = ap (λ l. xs ++ (l ++ zs)) r.order ∙ (ap (λ l. xs ++ l) (append_assoc r.front (r.refused ∷ r.back) zs)
        ∙ sym (append_assoc xs r.front (r.refused ∷ (r.back ++ zs))));
    given = gives_more before between r.between xs r.front g r.given;
    broke = r.broke;
  }

pub no_count : (n : ℕ) → n ≤ 18446744073709551615 → n ≡ cut_count (n + 0)
no_count n few = let e : n + 0 ≡ n = omega arith in sym (ap cut_count e ∙ min-eq_left few)

pub counts_more : (p : Event → Bool) (first some all : ℕ) (xs ys : List Event) → some ≡ cut_count (first + count_by p xs)
    → all ≡ cut_count (some + count_by p ys) → all ≡ cut_count (first + count_by p (xs ++ ys))
counts_more p first some all xs ys h g =
    let s : count_by p (xs ++ ys) ≡ count_by p xs + count_by p ys = sum_by-append _ xs ys in
    let t : (first + count_by p xs) + count_by p ys ≡ first + count_by p (xs ++ ys) = omega arith in
    g ∙ (cut_sum some (count_by p ys) (first + count_by p xs) (count_by p ys) (ap cut_count h ∙ cut_twice (first + count_by p xs)) refl ∙ ap cut_count t)

module _ {N O : Type 0} (alternatives : N → List (Owed Event)) (takes breaks : O → Event → O → Type 0) where
  pub drained_first : (p : PoolData N Event) (out : O) (counts : Counts) → counts.answers ≡ 0 → counts.reached ≡ 0 → counts.inferences ≡ 0 → p.untried ≡ 0
      → p.busy ≡ 0 → Later p p → Drained alternatives takes p out p out counts
  drained_first p out counts a r i untried busy later = record {
    reports = [];
    order = refl;
    given = refl;
    counted = (a, r, i);
    untried = untried;
    busy = busy;
    later = later;
  }

  module _ (first p q : PoolData N Event) (before out out' : O) (counts counts' : Counts) (report : Owed Event) (s : Shaped alternatives p)
      (r : Readies alternatives p (Events report) q) (d : Drained alternatives takes first before p out counts) where
    abbrev events_in : List (Owed Event) → List Event
    events_in reports = flat_map (λ (o : Owed Event). o.events) reports

    left_now : reports_left alternatives p ≡ report ∷ reports_left alternatives q
    left_now = took_left alternatives p s r.0 r.1 report r.2 ∙ ap (λ u. report ∷ reports_left alternatives u) (sym r.3)

    -- the events that are left begin with those of this report
    pub events_now : events_left alternatives p ≡ report.events ++ events_left alternatives q
    events_now = ap events_in left_now

    pub drained_more : Gives takes out report.events out' → counts'.answers ≡ cut_count (counts.answers + count_by is_answer report.events)
        → counts'.reached ≡ cut_count (counts.reached + count_by is_reached report.events)
        → counts'.inferences ≡ cut_count (counts.inferences + report.cost) → Drained alternatives takes first before q out' counts'
    drained_more gives answers reached inferences =
        let all : events_in (d.reports ++ report ∷ []) ≡ events_in d.reports ++ report.events =
        flat_map-append (λ (o : Owed Event). o.events) d.reports (report ∷ []) ∙ ap (λ l. events_in d.reports ++ l) (append-nil report.events) in
        let c = d.counted in
        let cost : sum_by (λ (o : Owed Event). o.cost) (d.reports ++ report ∷ []) ≡ sum_by (λ (o : Owed Event). o.cost) d.reports
        + sum_by (λ (o : Owed Event). o.cost) (report ∷ []) = sum_by-append (λ (o : Owed Event). o.cost) d.reports (report ∷ []) in
        let one : sum_by (λ (o : Owed Event). o.cost) (report ∷ []) ≡ report.cost = omega arith in
        let sum : sum_by (λ (o : Owed Event). o.cost) d.reports + report.cost ≡ sum_by (λ (o : Owed Event). o.cost) (d.reports ++ report ∷ []) = omega arith in
        record {
          reports = d.reports ++ report ∷ [];
          order = d.order ∙ (ap (λ l. d.reports ++ l) left_now ∙ sym (append_assoc d.reports (report ∷ []) (reports_left alternatives q)));
          given = subst (λ l. Gives takes before l out') (sym all) (gives_more takes breaks before out out' (events_in d.reports) report.events d.given gives);
          counted = (
            counts_more is_answer 0 counts.answers counts'.answers (events_in d.reports) report.events
                (c.0 ∙ from_zero (count_by is_answer (events_in d.reports))) answers
                ∙ (ap cut_count (less (count_by is_answer (events_in d.reports ++ report.events))) ∙ ap (λ l. cut_count (count_by is_answer l)) (sym all)),
            counts_more is_reached 0 counts.reached counts'.reached (events_in d.reports) report.events
                (c.1 ∙ from_zero (count_by is_reached (events_in d.reports))) reached
                ∙ (ap cut_count (less (count_by is_reached (events_in d.reports ++ report.events))) ∙ ap (λ l. cut_count (count_by is_reached l)) (sym all)),
            inferences ∙ (cut_sum counts.inferences report.cost (sum_by (λ (o : Owed Event). o.cost) d.reports) report.cost
                (ap cut_count c.2 ∙ cut_twice (sum_by (λ (o : Owed Event). o.cost) d.reports)) refl ∙ ap cut_count sum),
          );
          untried = ap (λ (u : PoolData N Event). u.untried) r.3 ∙ d.untried;
          busy = ap (λ (u : PoolData N Event). u.busy) r.3 ∙ d.busy;
          later = later_on first p q d.later (later_event alternatives p q (core.Ready (Events report)) r);
        }
      where
        less : (n : ℕ) → 0 + n ≡ n
        less n = omega arith

        from_zero : (n : ℕ) → cut_count n ≡ cut_count (0 + n)
        from_zero n = ap cut_count (sym (less n))

    pub drained_less : count_untaken q.pieces + 1 ≡ count_untaken p.pieces
    drained_less = let may = r.2 in ap (λ (u : PoolData N Event). count_untaken u.pieces + 1) r.3 ∙ took_less p.pieces r.0 r.1 report may.piece may.closed

    pub drained_refused : Refuses takes breaks out report.events out' → Refuses takes breaks before (events_left alternatives first) out'
    drained_refused refused =
        subst (λ l. Refuses takes breaks before l out') (sym
        (ap events_in (d.order ∙ ap (λ l. d.reports ++ l) left_now)
        ∙ flat_map-append (λ (o : Owed Event). o.events) d.reports (report ∷ reports_left alternatives q)))
        (refuses_more takes breaks before out out' (events_in d.reports) report.events (events_in (reports_left alternatives q)) d.given refused)

  -- nothing is left: all was given
  pub drained_all : (first p : PoolData N Event) (before out : O) (counts : Counts) → Drained alternatives takes first before p out counts
      → reports_left alternatives p ≡ []
      → Gives takes before (events_left alternatives first) out × CountsOf counts (events_left alternatives first) (cost_left alternatives first)
  drained_all first p before out counts d none =
      let all : reports_left alternatives first ≡ d.reports = d.order ∙ (ap (λ l. d.reports ++ l) none ∙ append-nil d.reports) in (
        subst (λ l. Gives takes before (flat_map (λ (o : Owed Event). o.events) l) out) (sym all) d.given,
        subst (λ l. CountsOf counts (flat_map (λ (o : Owed Event). o.events) l) (sum_by (λ (o : Owed Event). o.cost) l)) (sym all) d.counted,
      )

pub ok_not_err : {T E : Type 0} (x : T) (y : E) → Ok x ≡ Err y → ⊥
ok_not_err x y e = cc

-- where nothing is ready, everything is taken, and the pool is as it was
pub drained_end : {N E : Type 0} (alternatives : N → List (Owed Event)) (p q : PoolData N Event) (answer : Ready E)
    → ((report : Owed Event) → answer ≡ ready.Events report → ⊥) → Shaped alternatives p → p.untried ≡ 0 → p.busy ≡ 0
    → Readies alternatives p (ready_answer answer) q
    → ((i : ℕ) (x : Piece Event) → slice_get p.pieces i ≡ Some x → x.status ≡ Taken) × (q ≡ p)
drained_end alternatives p q (ready.Events report) other s untried busy r = absurd (other report refl)
drained_end alternatives p q (ready.NotYet piece) other s untried busy r = absurd (always_ready alternatives p s q piece untried busy r)
drained_end alternatives p q ready.All other s untried busy r = (r.0, r.2)
