use Rattle.std.proofs.Common.{rules}
use Rattle.ll_freeze.specs.Parts.{parts_of}
use Rattle.ll_freeze.proofs.CallerLemmas.{later_same}
use Rattle.ll_engine.proofs.turns.Resuming.{tried}
use Rattle.ll_engine.proofs.resume.begin.Goals as goal

pub attempt-requires-clause-goal : goal.attempt-requires-clause-goal
attempt-requires-clause-goal c =
    let t = tried c.args.frozen.now (parts_of c.args.machine.now) c.args.k c.candidate.result c.requires.thaws c.is_start.ensures.stands (search rules)
    c.candidate.ensures in t.goal

pub attempt-requires-clause-candidate : goal.attempt-requires-clause-candidate
attempt-requires-clause-candidate c =
    let t = tried c.args.frozen.now (parts_of c.args.machine.now) c.args.k c.candidate.result c.requires.thaws c.is_start.ensures.stands (search rules)
    c.candidate.ensures in t.candidate

pub returns-then-is_start-clause-later : goal.returns-then-is_start-clause-later
returns-then-is_start-clause-later c = later_same c.args.machine.now

pub returns-then-is_start-clause-begins : goal.returns-then-is_start-clause-begins
returns-then-is_start-clause-begins c = search rules

pub candidate-requires : goal.candidate-requires
candidate-requires c = search rules

pub returns-clause-begins : goal.returns-clause-begins
returns-clause-begins c = search rules

pub returns-clause-later : goal.returns-clause-later
returns-clause-later c = search rules
