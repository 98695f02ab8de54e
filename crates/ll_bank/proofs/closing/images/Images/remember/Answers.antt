use Rattle.std.proofs.lemmas.Result.{IfOk-from_err}
use Rattle.std.specs.HashMap.{get}
use Rattle.ll_bank.specs.Closing.{same_spot}
use Rattle.ll_bank.proofs.closes.Known.{adds_put}
use Rattle.ll_bank.proofs.closing.images.Images.remember.Goals as goal

pub returns-in_ok-insert : goal.returns-in_ok-insert
returns-in_ok-insert c =
    adds_put (get same_spot c.args.self.now.places) (get same_spot c.insert.new.self) (c.args.task.place, c.args.task.level) c.args.image
    c.in_ok-insert.ensures.updates.0

pub returns-in_err-insert : goal.returns-in_err-insert
returns-in_err-insert c = IfOk-from_err c.from_residual.result _ c.from_residual.ensures.0
