use Rattle.std.proofs.lemmas.Result.{IfOk-from_err}
use Rattle.std.specs.Prelude.{map}
use Rattle.std.proofs.Common.{ap, ◌∙◌, refl, true, false, subst, sym}
use Rattle.std.specs.Arc.{arc_value}
use Rattle.ll_list_laws.proofs.CallerLemmas.{OnOk-weaker, OnErr-weaker}
use Rattle.ll_laws.specs.Search.{cut_count}
use Rattle.ll_freeze.specs.Frozen.{alternatives_in}
use Rattle.ll_crew.specs.Leading.{WasRefused}
use Rattle.ll_crew.specs.Runs.{RunsTo, EndsTo}
use Rattle.ll_crew.specs.declared.piece.Ran.TheVariants.{Back}
use Rattle.ll_crew.specs.declared.piece.Ending.{Ending}
use Rattle.ll_crew.specs.declared.piece.Ending.TheVariants as ending
use Rattle.ll_crew.proofs.Goings.{stays_goes}
use Rattle.ll_crew.proofs.Claiming.{stays_on, stays_out}
use Rattle.ll_crew.specs.Workers.{Standing, Stopping}
use Rattle.ll_crew.proofs.Arms.{ran_back}
use Rattle.ll_crew.proofs.Finishing.{all_lacks, chosen_holds, chosen_on, chosen_fails, done_of}
use Rattle.ll_crew.proofs.piece.run_to_end.Goals as goal
use Rattle.ll_crew.proofs.piece.run_to_end.Goals.{In-Back}

came_back : (g : _) (c : In-Back g)
    → RunsTo (Standing g.O.Outlet c.args.job.now c.run.new.worker)
    (Stopping g.O.Outlet c.args.job.now c.run.new.worker)
    (WasRefused c.run.new.worker.told.now) c.args.job.now.problem.now (Back c.in-Back.batch) c.args.worker.now.seat.now c.run.new.worker.seat.now
    (map g.O.Found.Notice.stands_for c.run.new.events.items) c.run.new.engine
came_back g c = ran_back _ _ _ _ c.in_ok-run.field-0 c.in-Back.batch _ _ _ _ c.in-Back.is c.in_ok-run.ensures.ran

pub returns-in-Back-clause-ends : goal.returns-in-Back-clause-ends
returns-in-Back-clause-ends g c =
    let first = came_back g (goal.at.returns-in-Back-clause-ends g c).In-Back in
    let e = c.run_alone-done.ensures in let o = c.choose.ensures in
    chosen_holds (λ (x : Ending). EndsTo (Standing g.O.Outlet c.args.job.now c.run_alone-done.new.worker)
    (Stopping g.O.Outlet c.args.job.now c.run_alone-done.new.worker)
    (WasRefused c.run_alone-done.new.worker.told.now) c.args.job.now.problem.now x c.args.worker.now.seat.now c.run_alone-done.new.worker.seat.now
    (map g.O.Found.Notice.stands_for c.run_alone-done.new.events.items))
    c.run_alone-done.result c.choose.result (ending.Partly c.cost-in-Back.result c.in-Back.batch) ending.Left o.yes o.no o.failed
    (λ is.
    let alone = done_of _ c.run_alone-done.result true is e.done refl in let go = alone.goes in (
      stays_goes g.O.Outlet c.args.job.now.start.now.value c.args.job.now.problem.now
          c.args.worker.now.seat.now c.run.new.worker.seat.now c.run_alone-done.new.worker.seat.now
          (Standing g.O.Outlet c.args.job.now c.run.new.worker)
          (Standing g.O.Outlet c.args.job.now c.run_alone-done.new.worker) first.0 go,
      all_lacks c.run.new.worker.seat.now.mine.piece c.run_alone-done.new.worker.seat.now.mine.piece (map g.O.Found.Notice.stands_for c.run.new.events.items)
          (map g.O.Found.Notice.stands_for c.run_alone-done.new.events.items) c.run.new.engine
          (alternatives_in (arc_value c.in-Back.batch)) c.cost-in-Back.result go.piece first.1 alone.whole
          (ap cut_count c.cost-in-Back.ensures ∙ alone.made),
      first.2,
    ))
    (λ is. stays_out _ _ (WasRefused c.run_alone-done.new.worker.told.now) c.args.worker.now.seat.now c.run.new.worker.seat.now
    c.run_alone-done.new.worker.seat.now
    first.0 (done_of _ c.run_alone-done.result false is e.left refl))

pub returns-in-Back-clause-problem : goal.returns-in-Back-clause-problem
returns-in-Back-clause-problem g c =
    let e = c.run_alone-done.ensures in let o = c.choose.ensures in
    chosen_on _ c.run_alone-done.result c.choose.result o.failed
    (OnOk-weaker c.run_alone-done.result (λ is. is ∙ c.in_ok-run.ensures.problem) e.problem)

pub returns-in-Back-clause-failed : goal.returns-in-Back-clause-failed
returns-in-Back-clause-failed g c =
    let first = came_back g (goal.at.returns-in-Back-clause-failed g c).In-Back in
    let e = c.run_alone-done.ensures in let o = c.choose.ensures in
    chosen_fails _ c.run_alone-done.result c.choose.result (ending.Partly c.cost-in-Back.result c.in-Back.batch) ending.Left o.yes o.no
    (OnErr-weaker c.run_alone-done.result (λ f. stays_on _ _ c.args.worker.now.seat.now c.run.new.worker.seat.now c.run_alone-done.new.worker.seat.now
    first.0 f) e.failed)

pub returns-in_err-run-clause-problem : goal.returns-in_err-run-clause-problem
returns-in_err-run-clause-problem g c = IfOk-from_err c.from_residual.result _ c.from_residual.ensures.0

pub returns-in_err-run-clause-ends : goal.returns-in_err-run-clause-ends
returns-in_err-run-clause-ends g c = IfOk-from_err c.from_residual.result _ c.from_residual.ensures.0

pub returns-in-Done-clause-failed : goal.returns-in-Done-clause-failed
returns-in-Done-clause-failed g c = _

pub returns-in-Left-clause-failed : goal.returns-in-Left-clause-failed
returns-in-Left-clause-failed g c = _

pub run-requires-clause-suits : goal.run-requires-clause-suits
run-requires-clause-suits g c κs within = c.requires.suits

pub run-requires-clause-seat : goal.run-requires-clause-seat
run-requires-clause-seat g c κs within = c.requires.seat

pub run-requires-clause-stands : goal.run-requires-clause-stands
run-requires-clause-stands g c κs within = c.requires.stands

pub run-requires-clause-owes : goal.run-requires-clause-owes
run-requires-clause-owes g c κs within = c.requires.owes

pub run_alone-done-requires-clause-suits : goal.run_alone-done-requires-clause-suits
run_alone-done-requires-clause-suits g c κs within =
    subst g.O.Found.Notice.suits (sym c.in_ok-run.ensures.problem) c.requires.suits
