use Rattle.std.proofs.Common.{rules}
use Rattle.ll_freeze.specs.Parts.{parts_of}
use Rattle.ll_engine.proofs.machine.Showing.{flagged, unflagged}
use Rattle.ll_engine.proofs.answer.answers.Goals as goal

pub returns-then-flag : goal.returns-then-flag
returns-then-flag c = flagged (parts_of c.args.machine.now) c.flag.result c.flag.ensures (search rules)

pub returns-else-flag : goal.returns-else-flag
returns-else-flag c = unflagged (parts_of c.args.machine.now) c.flag.result c.any_live.result c.flag.ensures (search rules) c.any_live.ensures
