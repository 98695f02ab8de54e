use Rattle.std.proofs.lemmas.Result.{IfOk-from_err}
use Rattle.std.proofs.Common.{sym, subst}
use Rattle.std.specs.Arc.{arc_value}
use Rattle.ll_pool.specs.Fits.{SeatFits, first_seat}
use Rattle.ll_pool.proofs.Owing.{first_fits}
use Rattle.ll_pool.proofs.shared.SharedPool.new.Goals as goal

pub new-requires-2 : goal.new-requires-2
new-requires-2 g c =
    subst (λ p. SeatFits g.N.Batch.of g.N.Batch.alternatives p (first_seat g.N.Batch.of g.N.Batch.alternatives p).0
    (first_seat g.N.Batch.of g.N.Batch.alternatives p).1) (sym c.in_ok-pool.ensures)
    (first_fits g.N.Batch.of g.N.Batch.alternatives (arc_value c.args.root) c.args.workers c.requires.workers.0 c.requires.workers.1 c.requires.one)

pub returns-in_err-pool-clause-workers : goal.returns-in_err-pool-clause-workers
returns-in_err-pool-clause-workers g c = IfOk-from_err c.from_residual.result _ c.from_residual.ensures.0

pub returns-in_err-pool-clause-seat : goal.returns-in_err-pool-clause-seat
returns-in_err-pool-clause-seat g c = IfOk-from_err c.from_residual.result _ c.from_residual.ensures.0

pub returns-clause-workers : goal.returns-clause-workers
returns-clause-workers g c = _

pub returns-clause-seat : goal.returns-clause-seat
returns-clause-seat g c = _
