-- An outlet that is given no more events once it has had enough answers.
use Rattle.std.specs.Prelude.{◌≡◌, ◌⊎◌, ◌<◌, ◌≤◌, ℕ, Bool, true, false}
use Rattle.ll_laws.specs.declared.Event.{Event}

-- what such an outlet shows: the one within, whether this has had enough, and the name of the borrow by which it is held
pub record Held (E : Type 0) : Type 0 where
  pub out : E
  pub ended : Bool
  pub lent : ℕ

module _ {E : Type 0} (takes breaks : E → Event → E → Type 0) (faults limit answers : E → ℕ) where
  -- the outlet within took the event, and has not had enough
  pub record GoesOn (before : Held E) (event : Event) (after : Held E) : Type 0 where
    pub same : after.lent ≡ before.lent
    pub faults_kept : faults before.out ≤ faults after.out
    pub going : after.ended ≡ false
    pub taken : takes before.out event after.out
    pub fewer : answers after.out < limit after.out

  -- it took the event, and has had enough
  pub record HadEnough (before : Held E) (event : Event) (after : Held E) : Type 0 where
    pub over : after.ended ≡ true
    pub taken : takes before.out event after.out
    pub enough : limit after.out ≤ answers after.out

  -- it refused the event
  pub record Declines (before : Held E) (event : Event) (after : Held E) : Type 0 where
    pub going : after.ended ≡ false
    pub broke : breaks before.out event after.out

  -- it goes no further: it has had enough by this event, or refused the event, or has had enough before
  pub record Ends (before : Held E) (event : Event) (after : Held E) : Type 0 where
    pub same : after.lent ≡ before.lent
    pub faults_kept : faults before.out ≤ faults after.out
    pub why : HadEnough before event after ⊎ (Declines before event after ⊎ (before.ended ≡ true))
