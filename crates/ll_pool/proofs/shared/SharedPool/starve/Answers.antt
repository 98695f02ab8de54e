use Rattle.std.proofs.Common.{refl, ap, ◌∙◌}
use Rattle.ll_laws.specs.CoreEvents.{Does, Starve, starves}
use Rattle.ll_pool.proofs.Turning.{takes_turn, may_give, piece_quiet, kept_quiet, turn_made}
use Rattle.ll_pool.proofs.shared.SharedPool.starve.Goals as goal

pub give-requires-clause-lawful : goal.give-requires-clause-lawful
give-requires-clause-lawful g c =
    let t = takes_turn g.N.Batch.of g.N.Batch.alternatives c.seat.view_is c.seat.invariant c.take-held.ensures.pass c.take-held.ensures.fits in
    may_give t c.starve.new.self
    (Starve c.args.seat.now.mine.worker, refl, tt, c.starve.ensures ∙ ap (λ t. starves t) (c.behind-held.view_is ∙ c.value.ensures.value))

pub invariant_of-seat : goal.invariant_of-seat
invariant_of-seat g c =
    let t = takes_turn g.N.Batch.of g.N.Batch.alternatives c.seat.view_is c.seat.invariant c.take-held.ensures.pass c.take-held.ensures.fits in
    kept_quiet t c.starve.new.self c.give.new.pass c.give.ensures.pass
    (Starve c.args.seat.now.mine.worker, refl, tt, c.starve.ensures ∙ ap (λ t. starves t) (c.behind-held.view_is ∙ c.value.ensures.value)) tt

pub returns-clause-turn : goal.returns-clause-turn
returns-clause-turn g c =
    let t = takes_turn g.N.Batch.of g.N.Batch.alternatives c.seat.view_is c.seat.invariant c.take-held.ensures.pass c.take-held.ensures.fits in
    turn_made t c.starve.new.self c.give.new.pass c.give.ensures.pass
    (λ found left. Does g.N.Batch.alternatives found (Starve c.args.seat.now.mine.worker) left)
    (c.starve.ensures ∙ ap (λ t. starves t) (c.behind-held.view_is ∙ c.value.ensures.value)) c.give.ensures.fits

pub returns-clause-owes : goal.returns-clause-owes
returns-clause-owes g c =
    let t = takes_turn g.N.Batch.of g.N.Batch.alternatives c.seat.view_is c.seat.invariant c.take-held.ensures.pass c.take-held.ensures.fits in
    piece_quiet t c.starve.new.self c.give.new.pass c.give.ensures.pass
    (Starve c.args.seat.now.mine.worker, refl, tt, c.starve.ensures ∙ ap (λ t. starves t) (c.behind-held.view_is ∙ c.value.ensures.value)) tt
