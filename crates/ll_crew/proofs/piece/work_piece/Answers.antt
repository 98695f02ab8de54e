use Rattle.std.proofs.Common.{sym, subst}
use Rattle.std.proofs.lemmas.Bool.{true≢false}
use Rattle.std.proofs.lemmas.Result.{IfOk-from_err}
use Rattle.ll_list_laws.proofs.CallerLemmas.{OnErr-always}
use Rattle.ll_crew.specs.Leading.{WasRefused}
use Rattle.ll_crew.specs.Pieces.{IsKeptOf}
use Rattle.ll_crew.proofs.Claiming.{stays_here, stays_on, stays_out}
use Rattle.ll_crew.proofs.Holding.{holds_itself, holds_on}
use Rattle.ll_crew.proofs.Arms.{some_of, none_of}
use Rattle.ll_crew.proofs.piece.work_piece.Goals as goal

pub returns-in_err-batch-clause-holds : goal.returns-in_err-batch-clause-holds
returns-in_err-batch-clause-holds g c = holds_itself _

pub returns-in_err-batch-clause-kept : goal.returns-in_err-batch-clause-kept
returns-in_err-batch-clause-kept g c = IfOk-from_err c.from_residual.result _ c.from_residual.ensures.0

pub returns-in_err-batch-clause-done : goal.returns-in_err-batch-clause-done
returns-in_err-batch-clause-done g c = IfOk-from_err c.from_residual.result _ c.from_residual.ensures.0

pub returns-in_err-batch-clause-left : goal.returns-in_err-batch-clause-left
returns-in_err-batch-clause-left g c = IfOk-from_err c.from_residual.result _ c.from_residual.ensures.0

pub returns-in_err-batch-clause-failed : goal.returns-in_err-batch-clause-failed
returns-in_err-batch-clause-failed g c = OnErr-always c.from_residual.result (stays_here _ c.args.worker.now.seat.now c.requires.stands)

pub returns-in-Ok-Some-clause-holds : goal.returns-in-Ok-Some-clause-holds
returns-in-Ok-Some-clause-holds g c = holds_on _ _ _ c.run_piece.ensures.holds c.report.ensures.holds

pub returns-in-Ok-Some-clause-kept : goal.returns-in-Ok-Some-clause-kept
returns-in-Ok-Some-clause-kept g c = subst (IsKeptOf c.args.job.now.problem.now) (sym c.report.ensures.kept) c.in-Ok-Some.ensures.kept

pub returns-in-Ok-Some-clause-done : goal.returns-in-Ok-Some-clause-done
returns-in-Ok-Some-clause-done g c = λ e.
    let reports = some_of _ c.in-Ok-Some.field-0 c.in-Ok-Some.inferences c.in-Ok-Some.field-0-is c.in-Ok-Some.ensures.some in
    let done = c.report.ensures.done e in
    (stays_on _ _ c.args.worker.now.seat.now c.run_piece.new.worker.seat.now c.report.new.worker.seat.now reports.stays done.0, done.1)

pub returns-in-Ok-Some-clause-left : goal.returns-in-Ok-Some-clause-left
returns-in-Ok-Some-clause-left g c = λ e.
    let reports = some_of _ c.in-Ok-Some.field-0 c.in-Ok-Some.inferences c.in-Ok-Some.field-0-is c.in-Ok-Some.ensures.some in
    stays_out _ _ (WasRefused c.report.new.worker.told.now) c.args.worker.now.seat.now c.run_piece.new.worker.seat.now c.report.new.worker.seat.now
    reports.stays (c.report.ensures.left e)

pub returns-in-Ok-None-clause-holds : goal.returns-in-Ok-None-clause-holds
returns-in-Ok-None-clause-holds g c = c.run_piece.ensures.holds

pub returns-in-Ok-None-clause-kept : goal.returns-in-Ok-None-clause-kept
returns-in-Ok-None-clause-kept g c = c.in-Ok-None.ensures.kept

pub returns-in-Ok-None-clause-done : goal.returns-in-Ok-None-clause-done
returns-in-Ok-None-clause-done g c = λ e. absurd (true≢false (sym e))

pub returns-in-Ok-None-clause-left : goal.returns-in-Ok-None-clause-left
returns-in-Ok-None-clause-left g c = λ e. none_of c.in-Ok-None.field-0 c.in-Ok-None.field-0-is c.in-Ok-None.ensures.none

pub returns-in-Err-clause-holds : goal.returns-in-Err-clause-holds
returns-in-Err-clause-holds g c = c.run_piece.ensures.holds

pub returns-in-Err-clause-failed : goal.returns-in-Err-clause-failed
returns-in-Err-clause-failed g c = c.in-Err.ensures.failed

pub returns-in-Ok-Some-clause-failed : goal.returns-in-Ok-Some-clause-failed
returns-in-Ok-Some-clause-failed g c = _

pub returns-in-Ok-None-clause-failed : goal.returns-in-Ok-None-clause-failed
returns-in-Ok-None-clause-failed g c = _

pub returns-in-Err-clause-kept : goal.returns-in-Err-clause-kept
returns-in-Err-clause-kept g c = _

pub returns-in-Err-clause-done : goal.returns-in-Err-clause-done
returns-in-Err-clause-done g c = _

pub returns-in-Err-clause-left : goal.returns-in-Err-clause-left
returns-in-Err-clause-left g c = _

pub run_piece-requires-clause-suits : goal.run_piece-requires-clause-suits
run_piece-requires-clause-suits g c κs within = c.requires.suits

pub run_piece-requires-clause-seat : goal.run_piece-requires-clause-seat
run_piece-requires-clause-seat g c κs within = c.requires.seat

pub run_piece-requires-clause-stands : goal.run_piece-requires-clause-stands
run_piece-requires-clause-stands g c κs within = c.requires.stands

pub run_piece-requires-clause-kept : goal.run_piece-requires-clause-kept
run_piece-requires-clause-kept g c κs within = c.requires.kept
