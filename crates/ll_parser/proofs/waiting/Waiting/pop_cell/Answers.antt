use Rattle.ll_parser.proofs.machines.Newest.{no-cell-none, no-cell-other}
use Rattle.ll_parser.proofs.waiting.Waiting.pop_cell.Goals as goal

pub returns-in-None-clause-none : goal.returns-in-None-clause-none
returns-in-None-clause-none c = no-cell-none c.args.self.now (rw c.deref.ensures.value at c.in-None.ensures)

pub returns-in_default : goal.returns-in_default
returns-in_default c = record {
  none = no-cell-other c.args.self.now c.in-Some.frame (rw c.deref.ensures.value at c.in-Some.ensures) c.in_default.not-Cell;
  some = tt;
  grows = λ later e. e;
}
