use Rattle.std.proofs.Common.{◌∙◌}
use Rattle.ll_pool.proofs.Turning.{takes_turn, may_give}
use Rattle.ll_pool.proofs.Held.{report_turn, report_law, report_owes, report_kept, report_made}
use Rattle.ll_pool.proofs.shared.SharedPool.report.Goals as goal

pub give-requires-clause-lawful : goal.give-requires-clause-lawful
give-requires-clause-lawful g c =
    let h = report_turn (takes_turn g.N.Batch.of g.N.Batch.alternatives c.seat.view_is c.seat.invariant c.take-held.ensures.pass c.take-held.ensures.fits)
    (c.behind-held.view_is ∙ c.value.ensures.value) c.report.new.self c.in-Some.is c.args.report c.report.ensures c.requires.whole in
    may_give h.turn c.report.new.self (report_law h)

pub invariant_of-seat : goal.invariant_of-seat
invariant_of-seat g c =
    let h = report_turn (takes_turn g.N.Batch.of g.N.Batch.alternatives c.seat.view_is c.seat.invariant c.take-held.ensures.pass c.take-held.ensures.fits)
    (c.behind-held.view_is ∙ c.value.ensures.value) c.report.new.self c.in-Some.is c.args.report c.report.ensures c.requires.whole in
    report_kept h c.give.new.pass c.give.ensures.pass

pub returns-clause-turn : goal.returns-clause-turn
returns-clause-turn g c =
    let h = report_turn (takes_turn g.N.Batch.of g.N.Batch.alternatives c.seat.view_is c.seat.invariant c.take-held.ensures.pass c.take-held.ensures.fits)
    (c.behind-held.view_is ∙ c.value.ensures.value) c.report.new.self c.in-Some.is c.args.report c.report.ensures c.requires.whole in
    report_made h c.give.new.pass c.give.ensures.pass c.give.ensures.fits

pub returns-clause-owes : goal.returns-clause-owes
returns-clause-owes g c =
    let h = report_turn (takes_turn g.N.Batch.of g.N.Batch.alternatives c.seat.view_is c.seat.invariant c.take-held.ensures.pass c.take-held.ensures.fits)
    (c.behind-held.view_is ∙ c.value.ensures.value) c.report.new.self c.in-Some.is c.args.report c.report.ensures c.requires.whole in
    report_owes h c.give.new.pass c.give.ensures.pass
