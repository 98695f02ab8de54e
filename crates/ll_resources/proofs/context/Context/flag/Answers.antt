use Rattle.std.proofs.Common.{ap}
use Rattle.ll_resources.specs.History.{History}
use Rattle.ll_resources.proofs.context.Context.flag.Goals as goal

pub returns : goal.returns
returns g c = ap (λ (h : History g.row.C.Denot). h.present.flag) c.self.view_is
