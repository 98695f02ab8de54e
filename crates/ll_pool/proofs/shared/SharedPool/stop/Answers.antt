use Rattle.std.proofs.Common.{ap, ◌∙◌}
use Rattle.ll_laws.specs.CoreEvents.{Does, Stop, stops}
use Rattle.ll_pool.proofs.Turning.{takes_turn, may_give, piece_quiet, kept_quiet, turn_made}
use Rattle.ll_pool.proofs.shared.SharedPool.stop.Goals as goal

pub give-requires-clause-lawful : goal.give-requires-clause-lawful
give-requires-clause-lawful g c =
    let t = takes_turn g.N.Batch.of g.N.Batch.alternatives c.seat.view_is c.seat.invariant c.take-held.ensures.pass c.take-held.ensures.fits in
    may_give t c.stop.new.self (Stop, tt, tt, c.stop.ensures ∙ ap (λ t. stops t) (c.behind-held.view_is ∙ c.value.ensures.value))

pub invariant_of-seat : goal.invariant_of-seat
invariant_of-seat g c =
    let t = takes_turn g.N.Batch.of g.N.Batch.alternatives c.seat.view_is c.seat.invariant c.take-held.ensures.pass c.take-held.ensures.fits in
    kept_quiet t c.stop.new.self c.give.new.pass c.give.ensures.pass
    (Stop, tt, tt, c.stop.ensures ∙ ap (λ t. stops t) (c.behind-held.view_is ∙ c.value.ensures.value)) tt

pub returns-clause-turn : goal.returns-clause-turn
returns-clause-turn g c =
    let t = takes_turn g.N.Batch.of g.N.Batch.alternatives c.seat.view_is c.seat.invariant c.take-held.ensures.pass c.take-held.ensures.fits in
    turn_made t c.stop.new.self c.give.new.pass c.give.ensures.pass (λ found left. Does g.N.Batch.alternatives found Stop left)
    (c.stop.ensures ∙ ap (λ t. stops t) (c.behind-held.view_is ∙ c.value.ensures.value)) c.give.ensures.fits

pub returns-clause-owes : goal.returns-clause-owes
returns-clause-owes g c =
    let t = takes_turn g.N.Batch.of g.N.Batch.alternatives c.seat.view_is c.seat.invariant c.take-held.ensures.pass c.take-held.ensures.fits in
    piece_quiet t c.stop.new.self c.give.new.pass c.give.ensures.pass
    (Stop, tt, tt, c.stop.ensures ∙ ap (λ t. stops t) (c.behind-held.view_is ∙ c.value.ensures.value)) tt
