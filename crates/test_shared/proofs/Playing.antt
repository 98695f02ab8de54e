-- Seats of the tests' pools, in which nothing is owed.
use Rattle.std.proofs.Common.{◌≡◌, ℕ, zero, suc, [], ◌++◌, replicate, refl, sym, ap, ◌∙◌, subst, arith, append-nil, Option, Some, None, IsSomeAnd}
use Rattle.std.specs.Prelude.{flat_map, sum_by}
use Rattle.std.specs.declared.result.Result.{Result}
use Rattle.std.specs.declared.result.Result.TheVariants.{Ok, Err}
use Rattle.ll_laws.specs.declared.Event.{Event}
use Rattle.ll_laws.specs.Pool.{Owed}
use Rattle.ll_core.specs.declared.answers.PublishFault.{PublishFault}
use Rattle.ll_pool.specs.Turns.{EndsWith, IsRest, OwesRest}
use Rattle.test_shared.specs.Players.{nothing, OwesNothing}
use Rattle.ll_pool.specs.declared.data.OpenPiece.{OpenPiece}

no_events : (len : ℕ) → flat_map (λ (o : Owed Event). o.events) (replicate len nothing) ≡ []
no_events zero = refl
no_events (suc len) = no_events len

no_cost : (len : ℕ) → sum_by (λ (o : Owed Event). o.cost) (replicate len nothing) ≡ 0
no_cost zero = refl
no_cost (suc len) = no_cost len

ends_here : (len : ℕ) (owes : Owed Event) → EndsWith owes (replicate len nothing)
ends_here len owes = record {
  rest = owes.events;
  events = sym (append-nil owes.events) ∙ ap (λ l. owes.events ++ l) (sym (no_events len));
  cost = let z = no_cost len in omega arith;
}

pub ends : (len : ℕ) (piece : Option OpenPiece) → OwesNothing piece → IsSomeAnd piece (λ (piece : OpenPiece). EndsWith piece.owes (replicate len nothing))
ends len None h = absurd h
ends len (Some piece) h = ends_here len piece.owes

rest_is : (len : ℕ) (before after : OpenPiece) → before.owes ≡ nothing → IsRest (replicate len nothing) before after → after.owes ≡ nothing
rest_is len before after e h =
    let events : after.owes.events ≡ [] = sym (append-nil after.owes.events)
    ∙ (ap (λ l. after.owes.events ++ l) (sym (no_events len)) ∙ (h.events ∙ ap (λ (o : Owed Event). o.events) e)) in
    let z = no_cost len in let sum = h.cost in let none : before.owes.cost ≡ 0 = ap (λ (o : Owed Event). o.cost) e in
    let cost : after.owes.cost ≡ 0 = omega arith in
    λ i. record { events = events i; cost = cost i }

pub rest_owes_nothing : {N : Type 0} (len : ℕ) (answer : Result (Unit {0}) (PublishFault N)) (before after : Option OpenPiece) → OwesNothing before
    → OwesRest (replicate len nothing) answer before after → OwesNothing after
rest_owes_nothing len (Ok done) None after n h = absurd h
rest_owes_nothing len (Ok done) (Some whole) None n h = absurd h
rest_owes_nothing len (Ok done) (Some whole) (Some rest) n h = rest_is len whole rest n h
rest_owes_nothing len (Err fault) before after n h = subst OwesNothing (sym h) n
