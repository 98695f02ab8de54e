use Rattle.std.proofs.lemmas.Result.{IfOk-from_err}
use Rattle.ll_cover.proofs.Covers.{passing_begins}
use Rattle.ll_cover.proofs.covering.cover.Goals as goal

pub first_cover-requires-clause-begins : goal.first_cover-requires-clause-begins
first_cover-requires-clause-begins c = passing_begins c.args.problem.now c.args.derivation.now c.in_ok-engine.engine c.in_ok-engine.ensures

pub returns-in_err-engine-clause-named : goal.returns-in_err-engine-clause-named
returns-in_err-engine-clause-named c = IfOk-from_err c.from_residual.result _ c.from_residual.ensures.0

pub returns-in_err-engine-clause-first : goal.returns-in_err-engine-clause-first
returns-in_err-engine-clause-first c = IfOk-from_err c.from_residual.result _ c.from_residual.ensures.0
