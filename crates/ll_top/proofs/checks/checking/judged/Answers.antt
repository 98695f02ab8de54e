use Rattle.ll_top.proofs.verdicts.CheckLemmas.{told-no}
use Rattle.ll_top.proofs.checks.checking.judged.Goals as goal

pub returns-in-No : goal.returns-in-No
returns-in-No c = told-no c.args.problem.now c.args.derivation.now c.in-No.node c.in-No.reason c.requires.whole (rw c.in-No.is at c.in_ok-check.ensures)

pub check-requires-clause-valid : goal.check-requires-clause-valid
check-requires-clause-valid c = c.requires.valid

pub check-requires-clause-whole : goal.check-requires-clause-whole
check-requires-clause-whole c = c.requires.whole

pub covered-requires-clause-valid : goal.covered-requires-clause-valid
covered-requires-clause-valid c = c.requires.valid

pub covered-requires-clause-whole : goal.covered-requires-clause-whole
covered-requires-clause-whole c = c.requires.whole
