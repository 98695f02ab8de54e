use Rattle.ll_resources.proofs.ChangeLemmas.{well-now}
use Rattle.ll_resources.proofs.context.Context.keyed.Goals as goal

pub keyed-requires : goal.keyed-requires
keyed-requires g c = let w = well-now c.self.inside.changes.items c.self.inside.state c.self.invariant in w.chained
