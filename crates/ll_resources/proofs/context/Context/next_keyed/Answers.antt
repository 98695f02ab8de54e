use Rattle.ll_resources.proofs.ChangeLemmas.{well-now}
use Rattle.ll_resources.proofs.context.Context.next_keyed.Goals as goal

pub next_keyed-requires : goal.next_keyed-requires
next_keyed-requires g c = let w = well-now c.self.inside.changes.items c.self.inside.state c.self.invariant in w.chained
