use Rattle.std.proofs.Common.{sym}
use Rattle.std.proofs.lemmas.Bool.{true≢false}
use Rattle.std.proofs.lemmas.Result.{IfOk-from_err}
use Rattle.ll_list_laws.proofs.CallerLemmas.{OnErr-always}
use Rattle.ll_crew.specs.Leading.{WasRefused}
use Rattle.ll_crew.specs.declared.worker.ClaimOutcome.TheVariants as went
use Rattle.ll_crew.proofs.Calms.{seat_on}
use Rattle.ll_crew.proofs.Claiming.{stays_on, stays_out, ended_on}
use Rattle.ll_crew.specs.Workers.{Standing, Stopping}
use Rattle.ll_crew.proofs.Holding.{holds_on}
use Rattle.ll_crew.proofs.Arms.{went_as}
use Rattle.ll_crew.proofs.worker.work_with.Goals as goal

pub returns-in_err-claim_one-clause-failed : goal.returns-in_err-claim_one-clause-failed
returns-in_err-claim_one-clause-failed g c =
    let i = c.claims.invariant in
    OnErr-always c.from_residual.result
    (stays_on (Standing g.O.Outlet c.args.job.now c.claims.worker)
    (Standing g.O.Outlet c.args.job.now c.claim_one.new.worker) c.args.worker.now.seat.now c.claims.worker.seat.now
    c.claim_one.new.worker.seat.now i.1 c.in_err-claim_one.ensures.failed)

pub claims-preserved-in-Worked-1 : goal.claims-preserved-in-Worked-1
claims-preserved-in-Worked-1 g c =
    let i = c.claims.invariant in
    let w = went_as (Standing g.O.Outlet c.args.job.now c.claim_one.new.worker)
    (Stopping g.O.Outlet c.args.job.now c.claim_one.new.worker) (WasRefused c.claim_one.new.worker.told.now) c.args.job.now.problem.now
    c.in_ok-claim_one.field-0 went.Worked c.claims.worker.seat.now c.claim_one.new.worker.seat.now c.in-Worked.is c.in_ok-claim_one.ensures.went in (
      holds_on _ _ _ i.0 c.claim_one.ensures.holds,
      stays_on (Standing g.O.Outlet c.args.job.now c.claims.worker)
          (Standing g.O.Outlet c.args.job.now c.claim_one.new.worker) c.args.worker.now.seat.now c.claims.worker.seat.now
          c.claim_one.new.worker.seat.now i.1 w.0,
      w.1,
      c.in_ok-claim_one.ensures.kept,
    )

pub claims-preserved : goal.claims-preserved
claims-preserved g c =
    let i = c.claims.invariant in
    let w = went_as (Standing g.O.Outlet c.args.job.now c.claim_one.new.worker)
    (Stopping g.O.Outlet c.args.job.now c.claim_one.new.worker) (WasRefused c.claim_one.new.worker.told.now) c.args.job.now.problem.now
    c.in_ok-claim_one.field-0 went.Idle c.claims.worker.seat.now c.claim_one.new.worker.seat.now c.in-Idle.is c.in_ok-claim_one.ensures.went in (
      holds_on _ _ _ i.0 c.claim_one.ensures.holds,
      stays_on (Standing g.O.Outlet c.args.job.now c.claims.worker)
          (Standing g.O.Outlet c.args.job.now c.claim_one.new.worker) c.args.worker.now.seat.now c.claims.worker.seat.now
          c.claim_one.new.worker.seat.now i.1 w.0,
      w.1,
      c.in_ok-claim_one.ensures.kept,
    )

pub returns-in-Left-clause-left : goal.returns-in-Left-clause-left
returns-in-Left-clause-left g c = λ f.
    let i = c.claims.invariant in
    stays_out (Standing g.O.Outlet c.args.job.now c.claims.worker)
    (Stopping g.O.Outlet c.args.job.now c.claim_one.new.worker) (WasRefused c.claim_one.new.worker.told.now)
    c.args.worker.now.seat.now c.claims.worker.seat.now c.claim_one.new.worker.seat.now i.1
    (went_as (Standing g.O.Outlet c.args.job.now c.claim_one.new.worker)
    (Stopping g.O.Outlet c.args.job.now c.claim_one.new.worker) (WasRefused c.claim_one.new.worker.told.now) c.args.job.now.problem.now
    c.in_ok-claim_one.field-0 went.Left c.claims.worker.seat.now c.claim_one.new.worker.seat.now c.in-Left.is c.in_ok-claim_one.ensures.went)

pub claim_one-requires-clause-suits : goal.claim_one-requires-clause-suits
claim_one-requires-clause-suits g c κs within = c.requires.suits

pub claim_one-requires-clause-seat : goal.claim_one-requires-clause-seat
claim_one-requires-clause-seat g c κs within =
    let i = c.claims.invariant in let stays = i.1 in let can = c.requires.seat in
    record {
      seat = seat_on c.args.job.now.pool.now c.args.job.now.problem.now c.args.worker.now.seat.now c.claims.worker.seat.now stays.same
          can.seat;
      rests = i.2;
    }

pub claim_one-requires-clause-stands : goal.claim_one-requires-clause-stands
claim_one-requires-clause-stands g c κs within = let i = c.claims.invariant in let stays = i.1 in stays.stands

pub claim_one-requires-clause-kept : goal.claim_one-requires-clause-kept
claim_one-requires-clause-kept g c κs within = let i = c.claims.invariant in i.3

pub returns-in_err-claim_one-clause-holds : goal.returns-in_err-claim_one-clause-holds
returns-in_err-claim_one-clause-holds g c = let i = c.claims.invariant in holds_on _ _ _ i.0 c.claim_one.ensures.holds

pub returns-in_err-claim_one-clause-done : goal.returns-in_err-claim_one-clause-done
returns-in_err-claim_one-clause-done g c = IfOk-from_err c.from_residual.result _ c.from_residual.ensures.0

pub returns-in_err-claim_one-clause-left : goal.returns-in_err-claim_one-clause-left
returns-in_err-claim_one-clause-left g c = IfOk-from_err c.from_residual.result _ c.from_residual.ensures.0

pub returns-in-Ended-clause-holds : goal.returns-in-Ended-clause-holds
returns-in-Ended-clause-holds g c = let i = c.claims.invariant in holds_on _ _ _ i.0 c.claim_one.ensures.holds

pub returns-in-Ended-clause-left : goal.returns-in-Ended-clause-left
returns-in-Ended-clause-left g c = λ e. absurd (true≢false e)

pub returns-in-Left-clause-holds : goal.returns-in-Left-clause-holds
returns-in-Left-clause-holds g c = let i = c.claims.invariant in holds_on _ _ _ i.0 c.claim_one.ensures.holds

pub returns-in-Left-clause-done : goal.returns-in-Left-clause-done
returns-in-Left-clause-done g c = λ e. absurd (true≢false (sym e))

pub returns-in-Ended-clause-done : goal.returns-in-Ended-clause-done
returns-in-Ended-clause-done g c = λ e.
    let i = c.claims.invariant in
    ended_on _ (Standing g.O.Outlet c.args.job.now c.claim_one.new.worker) c.args.job.now.problem.now c.args.worker.now.seat.now
    c.claims.worker.seat.now c.claim_one.new.worker.seat.now i.1
    (went_as (Standing g.O.Outlet c.args.job.now c.claim_one.new.worker)
    (Stopping g.O.Outlet c.args.job.now c.claim_one.new.worker) (WasRefused c.claim_one.new.worker.told.now) c.args.job.now.problem.now
    c.in_ok-claim_one.field-0 went.Ended c.claims.worker.seat.now c.claim_one.new.worker.seat.now c.in-Ended.is c.in_ok-claim_one.ensures.went)

pub returns-in-Ended-clause-failed : goal.returns-in-Ended-clause-failed
returns-in-Ended-clause-failed g c = _

pub returns-in-Left-clause-failed : goal.returns-in-Left-clause-failed
returns-in-Left-clause-failed g c = _
