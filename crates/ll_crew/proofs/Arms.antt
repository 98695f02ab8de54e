-- What holds of a value holds in the arm that has it.
use Rattle.std.proofs.Common.{◌≡◌, ℕ, List, subst, Option, Some, None, Result, Ok, Err, IfOk}
use Rattle.std.specs.Prelude.{IfSome, IfNone}
use Rattle.std.specs.declared.sync.Arc.{Arc}
use Rattle.std.specs.declared.alloc.Global.{Global}
use Rattle.ll_laws.specs.declared.Event.{Event}
use Rattle.ll_laws.specs.Problem.{ProblemTree}
use Rattle.ll_freeze.specs.Frozen.{FrozenSight}
use Rattle.ll_engine.specs.Seen.{Owing}
use Rattle.ll_crew.specs.Seats.{Sat}
use Rattle.ll_crew.specs.Offers.{IfTaken, IfBack}
use Rattle.ll_crew.specs.declared.sharing.Offered.{Offered}
use Rattle.ll_crew.specs.declared.sharing.Offered.TheVariants.{Taken}
use Rattle.ll_crew.specs.declared.sharing.Offered.TheVariants as came
use Rattle.ll_crew.specs.Runs.{RunsTo, EndsTo, WentTo}
use Rattle.ll_crew.specs.declared.piece.Ending.{Ending}
use Rattle.ll_crew.specs.declared.piece.Ending.TheVariants as ending
use Rattle.ll_crew.specs.declared.piece.Ran.{Ran}
use Rattle.ll_crew.specs.declared.piece.Ran.TheVariants.{Back}
use Rattle.ll_crew.specs.declared.worker.ClaimOutcome.{ClaimOutcome}

pub some_of : {X : Type 0} (P : X → Type 0) (o : Option X) (x : X) → o ≡ Some x → IfSome o P → P x
some_of P o x e h = subst (λ p. IfSome p P) e h

pub none_of : {X : Type 0} {P : Type 0} (o : Option X) → o ≡ None → IfNone o P → P
none_of {X} {P} o e h = subst (λ (p : Option X). IfNone p P) e h

pub ran_back : (standing end : Type 0) (refused : Type 0) (problem : ProblemTree) (ran : Ran) (batch : Arc FrozenSight Global) (s a : Sat) (events : List Event)
    (engine : Owing) → ran ≡ Back batch → RunsTo standing end refused problem ran s a events engine
    → RunsTo standing end refused problem (Back batch) s a events engine
ran_back standing end refused problem ran batch s a events engine is r = subst (λ x. RunsTo standing end refused problem x s a events engine) is r

pub ended_partly : (standing end : Type 0) (refused : Type 0) (problem : ProblemTree) (ended : Ending) (n : ℕ) (batch : Arc FrozenSight Global) (s a : Sat)
    (events : List Event) → ended ≡ ending.Partly n batch → EndsTo standing end refused problem ended s a events
    → EndsTo standing end refused problem (ending.Partly n batch) s a events
ended_partly standing end refused problem ended n batch s a events is r = subst (λ x. EndsTo standing end refused problem x s a events) is r

pub some_on : {E : Type 0} (result : Result (Option ℕ) E) (P Q : ℕ → Type 0) → IfOk result (λ o. IfSome o P) → ((n : ℕ) → P n → Q n)
    → IfOk result (λ o. IfSome o Q)
some_on (Ok None) P Q h f = tt
some_on (Ok (Some n)) P Q h f = f n h
some_on (Err e) P Q h f = tt

pub went_as : (standing end : Type 0) (refused : Type 0) (problem : ProblemTree) (went went' : ClaimOutcome) (s a : Sat) → went ≡ went'
    → WentTo standing end refused problem went s a → WentTo standing end refused problem went' s a
went_as standing end refused problem went went' s a is r = subst (λ x. WentTo standing end refused problem x s a) is r

pub taken_of : (P : ℕ → Type 0) (offered : Offered) (others : ℕ) → offered ≡ Taken others → IfTaken offered P → P others
taken_of P offered others is h = subst (λ o. IfTaken o P) is h

pub back_of : (P : Arc FrozenSight Global → Type 0) (offered : Offered) (batch : Arc FrozenSight Global) → offered ≡ came.Back batch → IfBack offered P
    → P batch
back_of P offered batch is h = subst (λ o. IfBack o P) is h

pub ended_as : (standing end : Type 0) (refused : Type 0) (problem : ProblemTree) (ended ended' : Ending) (s a : Sat) (events : List Event) → ended ≡ ended'
    → EndsTo standing end refused problem ended s a events → EndsTo standing end refused problem ended' s a events
ended_as standing end refused problem ended ended' s a events is r = subst (λ x. EndsTo standing end refused problem x s a events) is r
