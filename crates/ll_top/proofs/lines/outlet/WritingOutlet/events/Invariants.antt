use Rattle.std.specs.Prelude.{Some, take, drop, map}
use Rattle.ll_top.specs.lines.Running.{Taking, holding}
use Rattle.ll_top.proofs.lines.outlet.WritingOutlet.events.Given as goal

abbrev pub invariant-loop-event : goal.invariant-loop-event
invariant-loop-event g l =
    let told = g.E.Notice.stands_for in
    Taking
    (λ w. holding w.problem.now w.proofs w.answers (Some (g.O.Sink.taken w.sink.now)) (g.O.Sink.faults w.sink.now) w.failed w.sink.ghost_name
    w.waiting.now.items)
    l.initial.self (map told l.fn.events.items) (map told (take l.event-index l.fn.events.items)) (map told (drop l.event-index l.fn.events.items)) l.self
