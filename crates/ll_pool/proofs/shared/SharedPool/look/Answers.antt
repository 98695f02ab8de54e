use Rattle.std.proofs.Common.{subst}
use Rattle.ll_laws.specs.CoreEvents.{Does, Look, Looks}
use Rattle.ll_core.specs.Calls.{overview}
use Rattle.ll_pool.proofs.Turning.{takes_turn, may_give, piece_quiet, kept_quiet, turn_made}
use Rattle.ll_pool.proofs.shared.SharedPool.look.Goals as goal

pub give-requires-clause-lawful : goal.give-requires-clause-lawful
give-requires-clause-lawful g c =
    let t = takes_turn g.N.Batch.of g.N.Batch.alternatives c.seat.view_is c.seat.invariant c.take-held.ensures.pass c.take-held.ensures.fits in
    may_give t c.value.result.now (
      Look (overview c.look-answer.result),
      tt,
      tt,
      subst (λ v. Looks g.N.Batch.alternatives v (overview c.look-answer.result) c.value.result.now) c.value.ensures.value
          (subst (λ u. Looks g.N.Batch.alternatives u (overview c.look-answer.result) u) c.look.view_is c.look-answer.ensures.event),
    )

pub invariant_of-seat : goal.invariant_of-seat
invariant_of-seat g c =
    let t = takes_turn g.N.Batch.of g.N.Batch.alternatives c.seat.view_is c.seat.invariant c.take-held.ensures.pass c.take-held.ensures.fits in
    kept_quiet t c.value.result.now c.give.new.pass c.give.ensures.pass (
      Look (overview c.look-answer.result),
      tt,
      tt,
      subst (λ v. Looks g.N.Batch.alternatives v (overview c.look-answer.result) c.value.result.now) c.value.ensures.value
          (subst (λ u. Looks g.N.Batch.alternatives u (overview c.look-answer.result) u) c.look.view_is c.look-answer.ensures.event),
    ) tt

pub returns-clause-turn : goal.returns-clause-turn
returns-clause-turn g c =
    let t = takes_turn g.N.Batch.of g.N.Batch.alternatives c.seat.view_is c.seat.invariant c.take-held.ensures.pass c.take-held.ensures.fits in
    turn_made t c.value.result.now c.give.new.pass c.give.ensures.pass
    (λ found left. Does g.N.Batch.alternatives found (Look (overview c.look-answer.result)) left)
    (subst (λ v. Looks g.N.Batch.alternatives v (overview c.look-answer.result) c.value.result.now) c.value.ensures.value
    (subst (λ u. Looks g.N.Batch.alternatives u (overview c.look-answer.result) u) c.look.view_is c.look-answer.ensures.event)) c.give.ensures.fits

pub returns-clause-owes : goal.returns-clause-owes
returns-clause-owes g c =
    let t = takes_turn g.N.Batch.of g.N.Batch.alternatives c.seat.view_is c.seat.invariant c.take-held.ensures.pass c.take-held.ensures.fits in
    piece_quiet t c.value.result.now c.give.new.pass c.give.ensures.pass (
      Look (overview c.look-answer.result),
      tt,
      tt,
      subst (λ v. Looks g.N.Batch.alternatives v (overview c.look-answer.result) c.value.result.now) c.value.ensures.value
          (subst (λ u. Looks g.N.Batch.alternatives u (overview c.look-answer.result) u) c.look.view_is c.look-answer.ensures.event),
    ) tt
