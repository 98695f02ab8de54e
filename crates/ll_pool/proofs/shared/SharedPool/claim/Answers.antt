use Rattle.std.proofs.Common.{◌∙◌}
use Rattle.ll_pool.proofs.Turning.{takes_turn, may_give}
use Rattle.ll_pool.proofs.Held.{claim_turn, claim_law, claim_owes, claim_kept, claim_made}
use Rattle.ll_pool.proofs.shared.SharedPool.claim.Goals as goal

pub give-requires-clause-lawful : goal.give-requires-clause-lawful
give-requires-clause-lawful g c =
    let h = claim_turn (takes_turn g.N.Batch.of g.N.Batch.alternatives c.seat.view_is c.seat.invariant c.take-held.ensures.pass c.take-held.ensures.fits)
    (c.behind-held.view_is ∙ c.value.ensures.value) c.claim-answer.new.self c.claim-answer.result c.claim-answer.ensures c.requires.rests in
    may_give h.turn c.claim-answer.new.self (claim_law h)

pub invariant_of-seat : goal.invariant_of-seat
invariant_of-seat g c =
    let h = claim_turn (takes_turn g.N.Batch.of g.N.Batch.alternatives c.seat.view_is c.seat.invariant c.take-held.ensures.pass c.take-held.ensures.fits)
    (c.behind-held.view_is ∙ c.value.ensures.value) c.claim-answer.new.self c.claim-answer.result c.claim-answer.ensures c.requires.rests in
    claim_kept h c.give.new.pass c.give.ensures.pass c.piece_of-seat-inside.ensures

pub returns-clause-turn : goal.returns-clause-turn
returns-clause-turn g c =
    let h = claim_turn (takes_turn g.N.Batch.of g.N.Batch.alternatives c.seat.view_is c.seat.invariant c.take-held.ensures.pass c.take-held.ensures.fits)
    (c.behind-held.view_is ∙ c.value.ensures.value) c.claim-answer.new.self c.claim-answer.result c.claim-answer.ensures c.requires.rests in
    claim_made h c.give.new.pass c.give.ensures.pass c.give.ensures.fits

pub returns-clause-owes : goal.returns-clause-owes
returns-clause-owes g c =
    let h = claim_turn (takes_turn g.N.Batch.of g.N.Batch.alternatives c.seat.view_is c.seat.invariant c.take-held.ensures.pass c.take-held.ensures.fits)
    (c.behind-held.view_is ∙ c.value.ensures.value) c.claim-answer.new.self c.claim-answer.result c.claim-answer.ensures c.requires.rests in
    claim_owes h c.give.new.pass c.give.ensures.pass
