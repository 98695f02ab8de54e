use Rattle.std.proofs.lemmas.Result.{IfOk-from_err}
use Rattle.ll_list_laws.proofs.CallerLemmas.{OnErr-always}
use Rattle.ll_crew.specs.declared.piece.Ending.TheVariants as ending
use Rattle.ll_crew.proofs.Holding.{holds_on}
use Rattle.ll_crew.proofs.Arms.{ended_as}
use Rattle.ll_crew.proofs.Finishing.{partly_reports}
use Rattle.ll_crew.proofs.piece.run_piece.Goals as goal

pub returns-in_err-inferences-clause-holds : goal.returns-in_err-inferences-clause-holds
returns-in_err-inferences-clause-holds g c = c.run_claimed.ensures.holds

pub returns-in_err-inferences-clause-kept : goal.returns-in_err-inferences-clause-kept
returns-in_err-inferences-clause-kept g c = IfOk-from_err c.from_residual.result _ c.from_residual.ensures.0

pub returns-in_err-inferences-clause-some : goal.returns-in_err-inferences-clause-some
returns-in_err-inferences-clause-some g c = IfOk-from_err c.from_residual.result _ c.from_residual.ensures.0

pub returns-in_err-inferences-clause-none : goal.returns-in_err-inferences-clause-none
returns-in_err-inferences-clause-none g c = IfOk-from_err c.from_residual.result _ c.from_residual.ensures.0

pub returns-in_err-inferences-clause-failed : goal.returns-in_err-inferences-clause-failed
returns-in_err-inferences-clause-failed g c = OnErr-always c.from_residual.result c.in_err-inferences.ensures.failed

pub returns-in-Partly-clause-holds : goal.returns-in-Partly-clause-holds
returns-in-Partly-clause-holds g c = holds_on _ _ _ c.run_claimed.ensures.holds c.run_batch-ran.ensures.holds

pub returns-in-Whole-clause-holds : goal.returns-in-Whole-clause-holds
returns-in-Whole-clause-holds g c = c.run_claimed.ensures.holds

pub returns-in-Whole-clause-kept : goal.returns-in-Whole-clause-kept
returns-in-Whole-clause-kept g c = c.in_ok-inferences.ensures.kept

pub returns-in-Left-clause-holds : goal.returns-in-Left-clause-holds
returns-in-Left-clause-holds g c = c.run_claimed.ensures.holds

pub returns-in-Left-clause-kept : goal.returns-in-Left-clause-kept
returns-in-Left-clause-kept g c = c.in_ok-inferences.ensures.kept

pub returns-in-Whole-clause-some : goal.returns-in-Whole-clause-some
returns-in-Whole-clause-some g c =
    ended_as _ _ _ _ c.in_ok-inferences.field-0 (ending.Whole c.in-Whole.inferences) _ _ _ c.in-Whole.is c.in_ok-inferences.ensures.ends

pub returns-in-Left-clause-none : goal.returns-in-Left-clause-none
returns-in-Left-clause-none g c =
    ended_as _ _ _ _ c.in_ok-inferences.field-0 ending.Left _ _ _ c.in-Left.is c.in_ok-inferences.ensures.ends

pub returns-in-Partly-clause-kept : goal.returns-in-Partly-clause-kept
returns-in-Partly-clause-kept g c = c.run_batch-ran.ensures.kept

pub returns-in-Partly-clause-some : goal.returns-in-Partly-clause-some
returns-in-Partly-clause-some g c =
    partly_reports _ _ _ _ _ c.in_ok-inferences.field-0 c.in-Partly.inferences c.in-Partly.back c.args.worker.now.seat.now c.run_claimed.new.worker.seat.now
    c.run_batch-ran.new.worker.seat.now _ _ c.run_batch-ran.result c.in-Partly.is c.in_ok-inferences.ensures.ends c.run_batch-ran.ensures.some

pub returns-in-Whole-clause-none : goal.returns-in-Whole-clause-none
returns-in-Whole-clause-none g c = _

pub returns-in-Whole-clause-failed : goal.returns-in-Whole-clause-failed
returns-in-Whole-clause-failed g c = _

pub returns-in-Left-clause-some : goal.returns-in-Left-clause-some
returns-in-Left-clause-some g c = _

pub returns-in-Left-clause-failed : goal.returns-in-Left-clause-failed
returns-in-Left-clause-failed g c = _

pub run_claimed-requires-clause-suits : goal.run_claimed-requires-clause-suits
run_claimed-requires-clause-suits g c κs within = c.requires.suits

pub run_claimed-requires-clause-seat : goal.run_claimed-requires-clause-seat
run_claimed-requires-clause-seat g c κs within = c.requires.seat

pub run_claimed-requires-clause-stands : goal.run_claimed-requires-clause-stands
run_claimed-requires-clause-stands g c κs within = c.requires.stands

pub run_claimed-requires-clause-kept : goal.run_claimed-requires-clause-kept
run_claimed-requires-clause-kept g c κs within = c.requires.kept

pub run_claimed-requires-clause-owes : goal.run_claimed-requires-clause-owes
run_claimed-requires-clause-owes g c κs within = c.requires.owes

pub run_claimed-requires-clause-of : goal.run_claimed-requires-clause-of
run_claimed-requires-clause-of g c κs within = c.requires.of

pub run_claimed-requires-clause-none : goal.run_claimed-requires-clause-none
run_claimed-requires-clause-none g c κs within = c.requires.none

pub run_batch-ran-requires-clause-suits : goal.run_batch-ran-requires-clause-suits
run_batch-ran-requires-clause-suits g c κs within = c.requires.suits
