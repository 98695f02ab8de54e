use Rattle.std.proofs.Common.{◌∙◌}
use Rattle.std.specs.Arc.{arc_value}
use Rattle.ll_pool.proofs.Turning.{takes_turn, may_give}
use Rattle.ll_pool.proofs.Held.{publish_turn, publish_law, publish_owes, publish_kept, publish_made}
use Rattle.ll_pool.proofs.shared.SharedPool.publish.Goals as goal

pub give-requires-clause-lawful : goal.give-requires-clause-lawful
give-requires-clause-lawful g c =
    let h = publish_turn (takes_turn g.N.Batch.of g.N.Batch.alternatives c.seat.view_is c.seat.invariant c.take-held.ensures.pass c.take-held.ensures.fits)
    (c.behind-held.view_is ∙ c.value.ensures.value) c.publish-answer.new.self c.in-Some.is (arc_value c.args.batch) c.publish-answer.result
    c.publish-answer.ensures.event
    c.requires.some c.requires.alike c.requires.ends in
    may_give h.turn c.publish-answer.new.self (publish_law h)

pub invariant_of-seat : goal.invariant_of-seat
invariant_of-seat g c =
    let h = publish_turn (takes_turn g.N.Batch.of g.N.Batch.alternatives c.seat.view_is c.seat.invariant c.take-held.ensures.pass c.take-held.ensures.fits)
    (c.behind-held.view_is ∙ c.value.ensures.value) c.publish-answer.new.self c.in-Some.is (arc_value c.args.batch) c.publish-answer.result
    c.publish-answer.ensures.event
    c.requires.some c.requires.alike c.requires.ends in
    publish_kept h c.give.new.pass c.give.ensures.pass

pub returns-clause-turn : goal.returns-clause-turn
returns-clause-turn g c =
    let h = publish_turn (takes_turn g.N.Batch.of g.N.Batch.alternatives c.seat.view_is c.seat.invariant c.take-held.ensures.pass c.take-held.ensures.fits)
    (c.behind-held.view_is ∙ c.value.ensures.value) c.publish-answer.new.self c.in-Some.is (arc_value c.args.batch) c.publish-answer.result
    c.publish-answer.ensures.event
    c.requires.some c.requires.alike c.requires.ends in
    publish_made h c.give.new.pass c.give.ensures.pass c.give.ensures.fits

pub returns-clause-owes : goal.returns-clause-owes
returns-clause-owes g c =
    let h = publish_turn (takes_turn g.N.Batch.of g.N.Batch.alternatives c.seat.view_is c.seat.invariant c.take-held.ensures.pass c.take-held.ensures.fits)
    (c.behind-held.view_is ∙ c.value.ensures.value) c.publish-answer.new.self c.in-Some.is (arc_value c.args.batch) c.publish-answer.result
    c.publish-answer.ensures.event
    c.requires.some c.requires.alike c.requires.ends in
    publish_owes h c.give.new.pass c.give.ensures.pass
