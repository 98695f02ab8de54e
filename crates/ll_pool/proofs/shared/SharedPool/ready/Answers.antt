use Rattle.std.proofs.Common.{◌∙◌, subst}
use Rattle.ll_laws.specs.CoreEvents.{Does, Ready, Readies}
use Rattle.ll_core.specs.Calls.{ready_answer}
use Rattle.ll_pool.proofs.Turning.{takes_turn, may_give, piece_quiet, kept_quiet, turn_made}
use Rattle.ll_pool.proofs.shared.SharedPool.ready.Goals as goal

pub give-requires-clause-lawful : goal.give-requires-clause-lawful
give-requires-clause-lawful g c =
    let t = takes_turn g.N.Batch.of g.N.Batch.alternatives c.seat.view_is c.seat.invariant c.take-held.ensures.pass c.take-held.ensures.fits in
    may_give t c.ready-answer.new.self (
      Ready (ready_answer c.ready-answer.result),
      c.requires.first,
      tt,
      subst (λ t. Readies g.N.Batch.alternatives t (ready_answer c.ready-answer.result) c.ready-answer.new.self) (c.behind-held.view_is ∙ c.value.ensures.value)
          c.ready-answer.ensures.event,
    )

pub invariant_of-seat : goal.invariant_of-seat
invariant_of-seat g c =
    let t = takes_turn g.N.Batch.of g.N.Batch.alternatives c.seat.view_is c.seat.invariant c.take-held.ensures.pass c.take-held.ensures.fits in
    kept_quiet t c.ready-answer.new.self c.give.new.pass c.give.ensures.pass (
      Ready (ready_answer c.ready-answer.result),
      c.requires.first,
      tt,
      subst (λ t. Readies g.N.Batch.alternatives t (ready_answer c.ready-answer.result) c.ready-answer.new.self) (c.behind-held.view_is ∙ c.value.ensures.value)
          c.ready-answer.ensures.event,
    ) tt

pub returns-clause-turn : goal.returns-clause-turn
returns-clause-turn g c =
    let t = takes_turn g.N.Batch.of g.N.Batch.alternatives c.seat.view_is c.seat.invariant c.take-held.ensures.pass c.take-held.ensures.fits in
    turn_made t c.ready-answer.new.self c.give.new.pass c.give.ensures.pass
    (λ found left. Does g.N.Batch.alternatives found (Ready (ready_answer c.ready-answer.result)) left)
    (subst (λ t. Readies g.N.Batch.alternatives t (ready_answer c.ready-answer.result) c.ready-answer.new.self) (c.behind-held.view_is ∙ c.value.ensures.value)
    c.ready-answer.ensures.event) c.give.ensures.fits

pub returns-clause-owes : goal.returns-clause-owes
returns-clause-owes g c =
    let t = takes_turn g.N.Batch.of g.N.Batch.alternatives c.seat.view_is c.seat.invariant c.take-held.ensures.pass c.take-held.ensures.fits in
    piece_quiet t c.ready-answer.new.self c.give.new.pass c.give.ensures.pass (
      Ready (ready_answer c.ready-answer.result),
      c.requires.first,
      tt,
      subst (λ t. Readies g.N.Batch.alternatives t (ready_answer c.ready-answer.result) c.ready-answer.new.self) (c.behind-held.view_is ∙ c.value.ensures.value)
          c.ready-answer.ensures.event,
    ) tt
