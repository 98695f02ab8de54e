use Rattle.std.proofs.Common.{◌≡◌, ◌<◌, length, ap, ◌∙◌, arith, rules}
use Rattle.std.specs.Prelude.{slice_get, map}
use Rattle.std.specs.Arc.{arc_value}
use Rattle.std.proofs.lemmas.Result.{IfOk-from_err}
use Rattle.ll_list_laws.proofs.CallerLemmas.{OnErr-always}
use Rattle.ll_freeze.specs.Frozen.{FrozenSight, alternatives_in}
use Rattle.ll_crew.proofs.Calms.{seat_on}
use Rattle.ll_crew.proofs.Claiming.{stays_on, stays_out, goes_stays}
use Rattle.ll_crew.specs.Workers.{Standing}
use Rattle.ll_crew.proofs.Arms.{none_of}
use Rattle.ll_crew.proofs.Holding.{holds_on}
use Rattle.ll_crew.proofs.Finishing.{at_place, runs_more}
use Rattle.ll_crew.proofs.piece.run_batch.Goals as goal

pub loop-k-preserved : goal.loop-k-preserved
loop-k-preserved g c =
    let i = c.loop-k.invariant in
    let len : c.len-k-end.result ≡ length (alternatives_in (arc_value c.args.rest.now.batch)) = cc (c.len-k-end.ensures, c.deref.ensures) in
    let low : c.loop-k.k < length (alternatives_in (arc_value c.args.rest.now.batch)) = omega (arith, c.loop-k-test.true) in
    let at = at_place (alternatives_in (arc_value c.args.rest.now.batch)) c.loop-k.k low in
    let same : arc_value c.in_ok-shared.shared ≡ arc_value c.args.rest.now.batch = search rules in
    let one = (rw c.in-Some.is at c.in_ok-more.ensures.some) at.0 (ap (λ (b : FrozenSight). slice_get (alternatives_in b) c.loop-k.k) same ∙ at.1) in (
      holds_on _ _ _ i.0 c.run_one.ensures.holds,
      c.in_ok-more.ensures.kept,
      runs_more (Standing g.O.Outlet c.args.job.now c.loop-k.worker) (Standing g.O.Outlet c.args.job.now c.run_one.new.worker)
          c.args.worker.now.seat.now c.loop-k.worker.seat.now c.run_one.new.worker.seat.now (map g.O.Found.Notice.stands_for c.args.events.now.items)
          c.args.rest.now.inferences
          (alternatives_in (arc_value c.args.rest.now.batch)) c.loop-k.k
          at.0
          (map g.O.Found.Notice.stands_for c.loop-k.events.items) (map g.O.Found.Notice.stands_for c.run_one.new.events.items) c.loop-k.inferences
          c.in-Some.more c.saturating_add-inferences.result at.1 i.2 one
          c.saturating_add-inferences.ensures,
    )

pub returns-in_err-shared-clause-holds : goal.returns-in_err-shared-clause-holds
returns-in_err-shared-clause-holds g c = let i = c.loop-k.invariant in i.0

pub returns-in_err-shared-clause-kept : goal.returns-in_err-shared-clause-kept
returns-in_err-shared-clause-kept g c = IfOk-from_err c.from_residual.result _ c.from_residual.ensures.0

pub returns-in_err-shared-clause-some : goal.returns-in_err-shared-clause-some
returns-in_err-shared-clause-some g c = IfOk-from_err c.from_residual.result _ c.from_residual.ensures.0

pub returns-in_err-shared-clause-none : goal.returns-in_err-shared-clause-none
returns-in_err-shared-clause-none g c = IfOk-from_err c.from_residual.result _ c.from_residual.ensures.0

pub returns-in_err-shared-clause-failed : goal.returns-in_err-shared-clause-failed
returns-in_err-shared-clause-failed g c =
    let i = c.loop-k.invariant in let runs = i.2 in let goes = runs.goes in
    OnErr-always c.from_residual.result (goes_stays _ c.args.worker.now.seat.now c.loop-k.worker.seat.now goes)

pub run_one-requires-clause-suits : goal.run_one-requires-clause-suits
run_one-requires-clause-suits g c κs within = c.requires.suits

pub run_one-requires-clause-seat : goal.run_one-requires-clause-seat
run_one-requires-clause-seat g c κs within =
    let i = c.loop-k.invariant in let runs = i.2 in let goes = runs.goes in
    seat_on c.args.job.now.pool.now c.args.job.now.problem.now c.args.worker.now.seat.now c.loop-k.worker.seat.now goes.same c.requires.seat

pub run_one-requires-clause-stands : goal.run_one-requires-clause-stands
run_one-requires-clause-stands g c κs within = let i = c.loop-k.invariant in let runs = i.2 in let goes = runs.goes in goes.stands

pub run_one-requires-clause-kept : goal.run_one-requires-clause-kept
run_one-requires-clause-kept g c κs within = let i = c.loop-k.invariant in i.1

pub returns-in_err-more-clause-holds : goal.returns-in_err-more-clause-holds
returns-in_err-more-clause-holds g c = let i = c.loop-k.invariant in holds_on _ _ _ i.0 c.run_one.ensures.holds

pub returns-in_err-more-clause-kept : goal.returns-in_err-more-clause-kept
returns-in_err-more-clause-kept g c = IfOk-from_err c.from_residual-in_err-more.result _ c.from_residual-in_err-more.ensures.0

pub returns-in_err-more-clause-some : goal.returns-in_err-more-clause-some
returns-in_err-more-clause-some g c = IfOk-from_err c.from_residual-in_err-more.result _ c.from_residual-in_err-more.ensures.0

pub returns-in_err-more-clause-none : goal.returns-in_err-more-clause-none
returns-in_err-more-clause-none g c = IfOk-from_err c.from_residual-in_err-more.result _ c.from_residual-in_err-more.ensures.0

pub returns-in_err-more-clause-failed : goal.returns-in_err-more-clause-failed
returns-in_err-more-clause-failed g c =
    let i = c.loop-k.invariant in let runs = i.2 in let goes = runs.goes in
    OnErr-always c.from_residual-in_err-more.result
    (stays_on _ _ c.args.worker.now.seat.now c.loop-k.worker.seat.now c.run_one.new.worker.seat.now
    (goes_stays _ c.args.worker.now.seat.now c.loop-k.worker.seat.now goes) c.in_err-more.ensures.failed)

pub returns-in_default-clause-holds : goal.returns-in_default-clause-holds
returns-in_default-clause-holds g c = let i = c.loop-k.invariant in holds_on _ _ _ i.0 c.run_one.ensures.holds

pub returns-in_default-clause-kept : goal.returns-in_default-clause-kept
returns-in_default-clause-kept g c = c.in_ok-more.ensures.kept

pub returns-clause-holds : goal.returns-clause-holds
returns-clause-holds g c = let i = c.loop-k.invariant in i.0

pub returns-clause-kept : goal.returns-clause-kept
returns-clause-kept g c = let i = c.loop-k.invariant in i.1

pub returns-in_default-clause-some : goal.returns-in_default-clause-some
returns-in_default-clause-some g c = _

pub returns-in_default-clause-failed : goal.returns-in_default-clause-failed
returns-in_default-clause-failed g c = _

pub returns-clause-none : goal.returns-clause-none
returns-clause-none g c = _

pub returns-clause-failed : goal.returns-clause-failed
returns-clause-failed g c = _

pub returns-in_default-clause-none : goal.returns-in_default-clause-none
returns-in_default-clause-none g c =
    let i = c.loop-k.invariant in let runs = i.2 in
    stays_out _ _ _ c.args.worker.now.seat.now c.loop-k.worker.seat.now c.run_one.new.worker.seat.now
    (goes_stays _ c.args.worker.now.seat.now c.loop-k.worker.seat.now runs.goes) (none_of c.in_ok-more.field-0 c.in_default.is c.in_ok-more.ensures.none)
