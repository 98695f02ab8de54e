-- How far a draining has come.
use Rattle.std.specs.Prelude.{◌≡◌, ◌↔◌, ℕ, ◌+◌, ◌≤◌, List, [], ◌∷◌, ◌++◌, count_by, flat_map, sum_by, if◌then◌else◌}
use Rattle.ll_laws.specs.declared.Event.{Event}
use Rattle.ll_laws.specs.declared.Counts.{Counts}
use Rattle.ll_laws.specs.Pool.{Owed, Piece, PoolData}
use Rattle.ll_laws.specs.Search.{cut_count, is_answer, is_reached}
use Rattle.ll_laws.specs.Sound.{Every, is_taken_status}
use Rattle.ll_laws.specs.CoreEvents.{reports_left}
use Rattle.ll_laws.specs.Later.{Later}
use Rattle.ll_order.specs.Outlets.{Gives, CountsOf, events_left}

-- how many pieces are not taken
abbrev pub count_untaken : {E : Type 0} → List (Piece E) → ℕ
count_untaken [] = 0
count_untaken (x ∷ pieces) = (if is_taken_status x.status then 0 else 1) + count_untaken pieces

-- some reports were taken from the pool that was there first, given to the outlet, and counted
pub record Drained {N O : Type 0} (alternatives : N → List (Owed Event)) (takes : O → Event → O
    → Type 0) (first : PoolData N Event) (before : O) (now : PoolData N Event) (after : O) (counts : Counts) : Type 0 where
  pub reports : List (Owed Event)
  pub order : reports_left alternatives first ≡ reports ++ reports_left alternatives now
  pub given : Gives takes before (flat_map (λ (o : Owed Event). o.events) reports) after
  pub counted : CountsOf counts (flat_map (λ (o : Owed Event). o.events) reports) (sum_by (λ (o : Owed Event). o.cost) reports)
  pub untried : now.untried ≡ 0
  pub busy : now.busy ≡ 0
  pub later : Later first now

-- Some of the events were counted.
pub record Counting (first : Counts) (counts : Counts) (done : List Event) : Type 0 where
  pub answers : counts.answers ≡ cut_count (first.answers + count_by is_answer done)
  pub reached : counts.reached ≡ cut_count (first.reached + count_by is_reached done)

-- Some of the events were given to the outlet. The rest are welcome to it still.
pub record Giving {O : Type 0} (takes : O → Event → O → Type 0) (welcome : O → Event → Type 0) (faults : O
    → ℕ) (before : O) (events : List Event) (after : O) (done rest : List Event) : Type 0 where
  pub order : events ≡ done ++ rest
  pub given : Gives takes before done after
  pub wanted : Every (welcome after) rest
  pub faults_kept : faults before ≤ faults after
  pub welcome_kept : (e : Event) → welcome before e ↔ welcome after e

-- the events that are left are welcome, and the outlet is what it was where no call changes it
pub record StillWelcome {N O : Type 0} (alternatives : N → List (Owed Event)) (welcome : O → Event → Type 0) (faults : O
    → ℕ) (before : O) (now : PoolData N Event) (after : O) : Type 0 where
  pub wanted : Every (welcome after) (events_left alternatives now)
  pub quiet : faults after ≡ faults before
  pub welcome_kept : (e : Event) → welcome before e ↔ welcome after e
