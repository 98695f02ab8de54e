use Rattle.ll_freeze.specs.Parts.{parts_of}
use Rattle.ll_engine.proofs.machine.Showing.{empty_of}
use Rattle.ll_engine.proofs.answer.is_empty.Goals as goal

pub returns : goal.returns
returns c = empty_of (parts_of c.args.machine.now) c.item.result c.is_none.result c.is_none.ensures c.item.ensures.none
