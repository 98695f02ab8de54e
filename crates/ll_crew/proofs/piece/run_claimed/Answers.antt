use Rattle.std.proofs.lemmas.Result.{IfOk-from_err}
use Rattle.std.proofs.Common.{subst, sym}
use Rattle.ll_list_laws.proofs.CallerLemmas.{OnOk-weaker}
use Rattle.ll_crew.specs.Pieces.{IsKeptOf}
use Rattle.ll_crew.proofs.piece.run_claimed.Goals as goal

pub returns-clause-kept : goal.returns-clause-kept
returns-clause-kept g c =
    OnOk-weaker c.run_to_end-ending.result (λ e. subst (IsKeptOf c.args.job.now.problem.now) (sym c.keep.ensures) e) c.run_to_end-ending.ensures.problem

pub returns-in_err-engine-clause-kept : goal.returns-in_err-engine-clause-kept
returns-in_err-engine-clause-kept g c = IfOk-from_err c.from_residual.result _ c.from_residual.ensures.0

pub returns-in_err-engine-clause-ends : goal.returns-in_err-engine-clause-ends
returns-in_err-engine-clause-ends g c = IfOk-from_err c.from_residual.result _ c.from_residual.ensures.0

pub engine_for-requires-clause-kept : goal.engine_for-requires-clause-kept
engine_for-requires-clause-kept g c κs within = c.requires.kept

pub engine_for-requires-clause-of : goal.engine_for-requires-clause-of
engine_for-requires-clause-of g c κs within = c.requires.of

pub run_to_end-ending-requires-clause-suits : goal.run_to_end-ending-requires-clause-suits
run_to_end-ending-requires-clause-suits g c κs within = c.requires.suits

pub run_to_end-ending-requires-clause-stands : goal.run_to_end-ending-requires-clause-stands
run_to_end-ending-requires-clause-stands g c κs within = c.requires.stands
