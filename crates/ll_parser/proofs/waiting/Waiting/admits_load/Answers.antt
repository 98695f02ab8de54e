use Rattle.ll_parser.proofs.machines.Newest.{admits-none, admits-newest}
use Rattle.ll_parser.proofs.waiting.Waiting.admits_load.Goals as goal

pub returns-in-None : goal.returns-in-None
returns-in-None c = admits-none c.args.self.now (rw c.deref.ensures.value at c.in-None.ensures)

pub returns-in-Some : goal.returns-in-Some
returns-in-Some c = admits-newest c.args.self.now c.in-Some.frame (rw c.deref.ensures.value at c.in-Some.ensures) c.loads_above.result c.loads_above.ensures
