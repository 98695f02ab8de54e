use Rattle.std.proofs.Common.{ap, subst, sym, arith}
use Rattle.std.specs.Prelude.{map}
use Rattle.ll_crew.proofs.AloneLemmas.{alone_starts, alone_wants, alone_goes_on, alone_ends, alone_counts, alone_breaks}
use Rattle.ll_crew.proofs.AloneLemmas.{alone_keeps, alone_keeps_on, alone_prefix}
use Rattle.ll_crew.proofs.alone.search_alone.Goals as goal

pub stretches-init : goal.stretches-init
stretches-init g c =
    alone_starts g.O.Outlet c.args.out.now c.args.problem.now c.in-Ok.engine
    c.in-Ok.ensures c.requires.welcome

pub give_some-requires-clause-welcome : goal.give_some-requires-clause-welcome
give_some-requires-clause-welcome g c κs within =
    alone_wants g.O.Outlet c.args.out.now c.args.problem.now c.stretches.engine
    c.stretch.new.engine c.stretches.out c.stretches.counts c.stretches.invariant c.in-Ok-stretch.done
    (map g.O.Found.Notice.stands_for c.new-events.result.items)
    (map g.O.Found.Notice.stands_for c.stretch.new.events.items)
    (ap (map g.O.Found.Notice.stands_for) c.new-events.ensures.items) c.in-Ok-stretch.ensures

pub stretches-preserved : goal.stretches-preserved
stretches-preserved g c =
    let v = c.in-Ok-give_some.ensures in
    alone_goes_on g.O.Outlet c.args.out.now c.args.problem.now c.stretches.engine
    c.stretch.new.engine c.stretches.out c.stretches.counts c.stretches.invariant c.in-Ok-stretch.done
    (map g.O.Found.Notice.stands_for c.new-events.result.items)
    (map g.O.Found.Notice.stands_for c.stretch.new.events.items)
    (ap (map g.O.Found.Notice.stands_for) c.new-events.ensures.items) c.in-Ok-stretch.ensures c.give_some.new.out
    c.in-Ok-give_some.more v.given v.answers v.reached v.kept

pub returns-then-done-clause-given : goal.returns-then-done-clause-given
returns-then-done-clause-given g c =
    alone_ends g.O.Outlet c.args.out.now c.args.problem.now c.stretches.engine
    c.stretch.new.engine c.stretches.out c.stretches.counts c.stretches.invariant c.in-Ok-stretch.done
    (map g.O.Found.Notice.stands_for c.new-events.result.items)
    (map g.O.Found.Notice.stands_for c.stretch.new.events.items)
    (ap (map g.O.Found.Notice.stands_for) c.new-events.ensures.items) c.in-Ok-stretch.ensures c.give_some.new.out c.in-Ok-give_some.ensures.given
    (c.in-Ok-stretch.ensures.ended c.if-done.true).0

pub returns-in-Err-clause-refused : goal.returns-in-Err-clause-refused
returns-in-Err-clause-refused g c =
    alone_breaks g.O.Outlet c.args.out.now c.args.problem.now c.stretches.engine
    c.stretch.new.engine c.stretches.out c.stretches.counts c.stretches.invariant c.in-Ok-stretch.done
    (map g.O.Found.Notice.stands_for c.new-events.result.items)
    (map g.O.Found.Notice.stands_for c.stretch.new.events.items)
    (ap (map g.O.Found.Notice.stands_for) c.new-events.ensures.items) c.in-Ok-stretch.ensures c.give_some.new.out c.in-Err.ensures.refused

pub returns-in_default-stretch-clause-refused : goal.returns-in_default-stretch-clause-refused
returns-in_default-stretch-clause-refused g c =
    alone_prefix g.O.Outlet c.args.out.now c.args.problem.now c.stretches.engine
    c.stretches.out c.stretches.counts c.stretches.invariant

pub returns-in_default-stretch-clause-write : goal.returns-in_default-stretch-clause-write
returns-in_default-stretch-clause-write g c = λ e. absurd (cc)

pub returns-in_default-stretch-clause-kept : goal.returns-in_default-stretch-clause-kept
returns-in_default-stretch-clause-kept g c =
    alone_keeps g.O.Outlet c.args.out.now c.args.problem.now c.stretches.engine
    c.stretches.out c.stretches.counts c.stretches.invariant

pub returns-in-Err-clause-kept : goal.returns-in-Err-clause-kept
returns-in-Err-clause-kept g c =
    alone_keeps_on g.O.Outlet c.args.out.now c.args.problem.now c.stretches.engine
    c.stretches.out c.stretches.counts c.stretches.invariant c.give_some.new.out c.give_some.ensures.kept

pub returns-then-done-clause-kept : goal.returns-then-done-clause-kept
returns-then-done-clause-kept g c =
    alone_keeps_on g.O.Outlet c.args.out.now c.args.problem.now c.stretches.engine
    c.stretches.out c.stretches.counts c.stretches.invariant c.give_some.new.out c.give_some.ensures.kept

pub returns-in_default-stretch-clause-given : goal.returns-in_default-stretch-clause-given
returns-in_default-stretch-clause-given g c = _

pub returns-in_default-stretch-clause-counts : goal.returns-in_default-stretch-clause-counts
returns-in_default-stretch-clause-counts g c = _

pub returns-in-Err-clause-given : goal.returns-in-Err-clause-given
returns-in-Err-clause-given g c = _

pub returns-in-Err-clause-counts : goal.returns-in-Err-clause-counts
returns-in-Err-clause-counts g c = _

pub returns-then-done-clause-refused : goal.returns-then-done-clause-refused
returns-then-done-clause-refused g c = _

pub stretch-requires-clause-suits : goal.stretch-requires-clause-suits
stretch-requires-clause-suits g c κs within = subst (λ p. g.O.Found.Notice.suits p) (sym c.stretches.invariant.problem) c.requires.suits

pub start_with-requires-clause-valid : goal.start_with-requires-clause-valid
start_with-requires-clause-valid g c = c.requires.valid

pub start_with-requires-clause-index : goal.start_with-requires-clause-index
start_with-requires-clause-index g c = c.requires.index

pub returns-then-done-clause-counts : goal.returns-then-done-clause-counts
returns-then-done-clause-counts g c =
    let v = c.in-Ok-give_some.ensures in let ended = c.in-Ok-stretch.ensures.ended c.if-done.true in
    alone_counts g.O.Outlet c.args.out.now c.args.problem.now c.stretches.engine
    c.stretch.new.engine c.stretches.out c.stretches.counts c.stretches.invariant c.in-Ok-stretch.done
    (map g.O.Found.Notice.stands_for c.new-events.result.items)
    (map g.O.Found.Notice.stands_for c.stretch.new.events.items)
    (ap (map g.O.Found.Notice.stands_for) c.new-events.ensures.items) c.in-Ok-stretch.ensures c.in-Ok-give_some.more c.cost.result (omega arith)
    c.cost.ensures v.answers v.reached ended.0 ended.1
