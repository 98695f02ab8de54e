use Rattle.std.proofs.Common.{subst}
use Rattle.ll_core.proofs.CallerLemmas.{every_more}
use Rattle.ll_pool.specs.Fits.{SeatFits}
use Rattle.ll_freeze.specs.Frozen.{alternatives_in}
use Rattle.ll_crew.specs.Seats.{Sat, of_batch}
use Rattle.ll_crew.specs.Crews.{IsBack, MayJoin}
use Rattle.ll_crew.proofs.pool.close.Goals as goal

pub join_all-requires-clause-others : goal.join_all-requires-clause-others
join_all-requires-clause-others g c κs within =
    let others = c.requires.others in
    (every_more (IsBack c.args.pool) (MayJoin c.args.pool) c.args.others.items (λ s back. (back.table, back.done)) others.0, others.1)

pub returns : goal.returns
returns g c = subst (λ (s : Sat). SeatFits of_batch alternatives_in c.close.result s.problem s.mine) c.join_all.ensures c.close.ensures
