use Rattle.std.specs.Prelude.{◌≡◌, map}
use Rattle.ll_order.specs.Drained.{Giving}
use Rattle.ll_order.proofs.outlet.Outlet.events.Given as goal

abbrev pub invariant-loop-event : goal.invariant-loop-event
invariant-loop-event g l =
    let told = g.Self.Found.Notice.stands_for in
    Giving g.Self.Outlet.takes g.Self.Outlet.welcome g.Self.Outlet.faults l.initial.self (map told l.fn.events.items) l.self (map told l.yielded)
    (map told l.event-iterator.rest.items)
    × (g.Self.Outlet.faults l.self ≡ g.Self.Outlet.faults l.initial.self)
