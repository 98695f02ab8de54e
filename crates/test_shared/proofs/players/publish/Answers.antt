use Rattle.std.proofs.Common.{sym, subst, length}
use Rattle.ll_laws.specs.CoreEvents.{IsOpenAt, with_batch}
use Rattle.ll_core.proofs.CallerLemmas.{change_at}
use Rattle.test_shared.proofs.players.publish.Goals as goal

pub returns-clause-open : goal.returns-clause-open
returns-clause-open g c =
    let o = c.requires in let f = with_batch (length c.args.pool.now.batches) in
    subst (λ v. IsOpenAt v c.args.piece) (sym c.in-Ok.ensures.event.1) (f o.0, change_at c.args.piece f c.args.pool.now.pieces o.0 o.1, o.2)
