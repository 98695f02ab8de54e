use Rattle.std.proofs.Common.{length, ap, arith}
use Rattle.ll_resources.specs.History.{History}
use Rattle.ll_resources.specs.Raw.{raw}
use Rattle.ll_resources.proofs.RawLemmas.{entries-count}
use Rattle.ll_resources.proofs.context.Context.entry.Goals as goal

pub entry-requires : goal.entry-requires
entry-requires g c =
    let n = entries-count (raw c.self.inside.state) in
    let v = ap (λ (h : History g.row.C.Denot). length h.present.entries) c.self.view_is in
    omega (arith, n, v, c.requires)
