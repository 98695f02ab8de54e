use Rattle.std.proofs.Common.{◌∙◌, refl}
use Rattle.ll_crew.specs.Turns.{Stays}
use Rattle.ll_crew.specs.Leading.{Stands, Stopped, WasRefused}
use Rattle.ll_crew.proofs.Calms.{calm_report}
use Rattle.ll_crew.proofs.Goings.{stands_calm, stays_goes}
use Rattle.ll_crew.proofs.Claiming.{stays_out}
use Rattle.ll_crew.proofs.lead.report.Goals as goal

pub tell-requires-clause-stands : goal.tell-requires-clause-stands
tell-requires-clause-stands g c κs within =
    let seat = c.requires.seat in
    stands_calm g.O.Outlet c.args.job.now.start.now.value c.args.job.now.problem.now
    c.args.worker.now.seat.now c.report.new.seat c.args.worker.now.out.now c.args.worker.now.told.now seat.problem
    (calm_report _ c.args.worker.now.seat.now c.report.new.seat c.report.ensures.turn) c.requires.stands

pub returns-clause-holds : goal.returns-clause-holds
returns-clause-holds g c = record { leads = c.tell.ensures.leads; seat = refl; told = refl; kept = refl; out = refl }

pub returns-clause-done : goal.returns-clause-done
returns-clause-done g c = λ e.
    let seat = c.requires.seat in
    let calm = calm_report _ c.args.worker.now.seat.now c.report.new.seat c.report.ensures.turn in
    let st : Stays (Stands g.O.Outlet c.args.job.now
    c.report.new.seat c.args.worker.now.out.now c.args.worker.now.told.now) c.args.worker.now.seat.now c.report.new.seat =
    record {
      same = calm.same;
      quit = calm.quit;
      stands = stands_calm g.O.Outlet c.args.job.now.start.now.value
          c.args.job.now.problem.now c.args.worker.now.seat.now c.report.new.seat c.args.worker.now.out.now
          c.args.worker.now.told.now seat.problem calm c.requires.stands;
    } in
    let go = c.tell.ensures.on e in (
      stays_goes g.O.Outlet c.args.job.now.start.now.value c.args.job.now.problem.now
          c.args.worker.now.seat.now c.report.new.seat c.tell.new.seat (Stands g.O.Outlet c.args.job.now c.report.new.seat
          c.args.worker.now.out.now c.args.worker.now.told.now)
          (Stands g.O.Outlet c.args.job.now
          c.tell.new.seat c.tell.new.out c.tell.new.told) st go,
      go.piece ∙ c.report.ensures.owes,
    )

pub returns-clause-left : goal.returns-clause-left
returns-clause-left g c = λ e.
    let seat = c.requires.seat in
    let calm = calm_report _ c.args.worker.now.seat.now c.report.new.seat c.report.ensures.turn in
    let st : Stays (Stands g.O.Outlet c.args.job.now
    c.report.new.seat c.args.worker.now.out.now c.args.worker.now.told.now) c.args.worker.now.seat.now c.report.new.seat =
    record {
      same = calm.same;
      quit = calm.quit;
      stands = stands_calm g.O.Outlet c.args.job.now.start.now.value
          c.args.job.now.problem.now c.args.worker.now.seat.now c.report.new.seat c.args.worker.now.out.now
          c.args.worker.now.told.now seat.problem calm c.requires.stands;
    } in
    stays_out (Stands g.O.Outlet c.args.job.now
    c.report.new.seat c.args.worker.now.out.now c.args.worker.now.told.now)
    (Stopped g.O.Outlet c.args.job.now
    c.tell.new.out c.tell.new.told) (WasRefused c.tell.new.told) c.args.worker.now.seat.now c.report.new.seat c.tell.new.seat
    st (c.tell.ensures.left e)
