use Rattle.std.proofs.lemmas.Result.{err_from_is_err_and}
use Rattle.ll_top.proofs.verdicts.CheckLemmas.{small-bound, run-texts-refused}
use Rattle.ll_top.proofs.checks.checking.finding_of.Goals as goal

pub returns-in_err-problem : goal.returns-in_err-problem
returns-in_err-problem c =
    let p = err_from_is_err_and c.from_residual.result c.from_residual.ensures.1 in
    rw (p.1, p.2) (run-texts-refused c.args.program.now c.args.query.now c.args.proof.now c.args.bound _ c.in_err-problem.ensures.judges)

pub returns : goal.returns
returns c = c.finding_over-finding.ensures c.args.program.now c.args.query.now (rw c.unwrap_or.ensures at c.in_ok-problem.ensures.judges)

pub problem_of-requires-clause-bound : goal.problem_of-requires-clause-bound
problem_of-requires-clause-bound c = rw c.unwrap_or.ensures (small-bound c.args.bound c.requires.bound)
