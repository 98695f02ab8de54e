use Rattle.std.proofs.lemmas.Result.{IfOk-from_err}
use Rattle.ll_crew.proofs.Gathering.{begun_more}
use Rattle.ll_crew.proofs.pool.seats.Goals as goal

pub loop-worker-preserved : goal.loop-worker-preserved
loop-worker-preserved g c =
    begun_more c.args.pool.now c.args.first.now.problem c.args.first.now.mine.seen c.loop-worker.worker c.loop-worker.first c.seat.new.from c.seat.result
    c.loop-worker.all.items c.push.new.self.items c.loop-worker.invariant c.seat.ensures.kept c.seat.ensures.new c.in_ok-push.ensures.items

pub returns-in_err-push-clause-ok : goal.returns-in_err-push-clause-ok
returns-in_err-push-clause-ok g c = IfOk-from_err c.from_residual.result _ c.from_residual.ensures.0
