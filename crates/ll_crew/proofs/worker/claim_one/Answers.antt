use Rattle.std.proofs.Common.{◌∙◌, refl, arith}
use Rattle.std.proofs.lemmas.Result.{IfOk-from_err}
use Rattle.std.specs.Arc.{arc_value}
use Rattle.ll_list_laws.proofs.CallerLemmas.{OnErr-always}
use Rattle.ll_core.specs.declared.answers.Claimed.TheVariants as claims
use Rattle.ll_crew.specs.Leading.{Stands, Stopped, WasRefused}
use Rattle.ll_freeze.specs.Frozen.{alternatives_in}
use Rattle.ll_crew.specs.Seats.{of_batch}
use Rattle.ll_crew.proofs.Calms.{turn_counted, seat_on, calm_claim, found_sound}
use Rattle.ll_crew.proofs.Goings.{stays_goes}
use Rattle.ll_crew.proofs.Claiming.{stays_on, stays_out}
use Rattle.ll_crew.proofs.Claiming.{claim_stands, claim_stays, claim_ended, claim_starved, claim_stopped}
use Rattle.ll_crew.specs.Workers.{Standing, Stopping}
use Rattle.ll_crew.proofs.worker.claim_one.Goals as goal

pub work_piece-requires-clause-stands : goal.work_piece-requires-clause-stands
work_piece-requires-clause-stands g c κs within =
    let can = c.requires.seat in let seat = can.seat in
    claim_stands g.O.Outlet c.args.job.now.start.now.value c.args.job.now.problem.now
    (claims.Work c.in-Work.piece c.in-Work.batch c.in-Work.k) c.args.worker.now.seat.now c.claim.new.seat c.args.worker.now.out.now c.args.worker.now.told.now
    c.in-Work.ensures.turn
    seat.problem c.requires.stands

pub returns-then-branch-clause-went : goal.returns-then-branch-clause-went
returns-then-branch-clause-went g c =
    let can = c.requires.seat in let seat = can.seat in
    let done = c.in_ok-work_piece-in-Work.ensures.done c.if-branch.true in (
      stays_on (Stands g.O.Outlet c.args.job.now
          c.claim.new.seat c.args.worker.now.out.now c.args.worker.now.told.now)
          (Standing g.O.Outlet c.args.job.now c.work_piece.new.worker) c.args.worker.now.seat.now
          c.claim.new.seat c.work_piece.new.worker.seat.now
          (claim_stays g.O.Outlet c.args.job.now.start.now.value c.args.job.now.problem.now
          (claims.Work c.in-Work.piece c.in-Work.batch c.in-Work.k) c.args.worker.now.seat.now c.claim.new.seat c.args.worker.now.out.now
          c.args.worker.now.told.now c.in-Work.ensures.turn
          seat.problem c.requires.stands) done.0,
      done.1,
    )

pub tell-requires-clause-stands : goal.tell-requires-clause-stands
tell-requires-clause-stands g c κs within =
    let can = c.requires.seat in let seat = can.seat in
    claim_stands g.O.Outlet c.args.job.now.start.now.value c.args.job.now.problem.now
    (claims.Idle c.in-Idle.busy) c.args.worker.now.seat.now c.claim.new.seat c.args.worker.now.out.now c.args.worker.now.told.now c.in-Idle.ensures.turn
    seat.problem c.requires.stands

pub returns-then-tell-clause-went : goal.returns-then-tell-clause-went
returns-then-tell-clause-went g c =
    let can = c.requires.seat in let seat = can.seat in
    let go = c.tell.ensures.on c.if-tell.true in (
      stays_goes g.O.Outlet c.args.job.now.start.now.value c.args.job.now.problem.now
          c.args.worker.now.seat.now c.claim.new.seat c.tell.new.seat
          (Stands g.O.Outlet c.args.job.now c.claim.new.seat c.args.worker.now.out.now c.args.worker.now.told.now)
          (Stands g.O.Outlet c.args.job.now
          c.tell.new.seat c.tell.new.out c.tell.new.told)
          (claim_stays g.O.Outlet c.args.job.now.start.now.value c.args.job.now.problem.now
          (claims.Idle c.in-Idle.busy) c.args.worker.now.seat.now c.claim.new.seat c.args.worker.now.out.now c.args.worker.now.told.now
          c.in-Idle.ensures.turn seat.problem
          c.requires.stands) go,
      go.piece ∙ c.in-Idle.ensures.owes,
    )

pub returns-in-Finished-clause-went : goal.returns-in-Finished-clause-went
returns-in-Finished-clause-went g c =
    let can = c.requires.seat in let seat = can.seat in
    claim_ended g.O.Outlet c.args.job.now.start.now.value c.args.job.now.problem.now
    c.args.worker.now.seat.now c.claim.new.seat c.args.worker.now.out.now c.args.worker.now.told.now c.in-Finished.ensures.turn seat.problem c.requires.stands
    c.in-Finished.ensures.owes

pub returns-in-Starved-clause-went : goal.returns-in-Starved-clause-went
returns-in-Starved-clause-went g c =
    let can = c.requires.seat in let seat = can.seat in
    claim_starved g.O.Outlet c.args.job.now.start.now.value c.args.job.now.problem.now
    c.args.worker.now.seat.now c.claim.new.seat c.args.worker.now.out.now c.args.worker.now.told.now c.in-Starved.ensures.turn seat.problem c.requires.stands

pub returns-in-Stopped-clause-went : goal.returns-in-Stopped-clause-went
returns-in-Stopped-clause-went g c =
    let can = c.requires.seat in let seat = can.seat in
    claim_stopped g.O.Outlet c.args.job.now.start.now.value c.args.job.now.problem.now
    c.args.worker.now.seat.now c.claim.new.seat c.args.worker.now.out.now c.args.worker.now.told.now c.in-Stopped.ensures.turn seat.problem c.requires.stands

pub returns-in_err-work_piece-in-Work-clause-failed : goal.returns-in_err-work_piece-in-Work-clause-failed
returns-in_err-work_piece-in-Work-clause-failed g c =
    let can = c.requires.seat in let seat = can.seat in
    OnErr-always c.from_residual.result
    (stays_on (Stands g.O.Outlet c.args.job.now
    c.claim.new.seat c.args.worker.now.out.now c.args.worker.now.told.now)
    (Standing g.O.Outlet c.args.job.now c.work_piece.new.worker) c.args.worker.now.seat.now
    c.claim.new.seat c.work_piece.new.worker.seat.now
    (claim_stays g.O.Outlet c.args.job.now.start.now.value c.args.job.now.problem.now
    (claims.Work c.in-Work.piece c.in-Work.batch c.in-Work.k) c.args.worker.now.seat.now c.claim.new.seat c.args.worker.now.out.now c.args.worker.now.told.now
    c.in-Work.ensures.turn seat.problem c.requires.stands) c.in_err-work_piece-in-Work.ensures.failed)

pub returns-else-branch-clause-went : goal.returns-else-branch-clause-went
returns-else-branch-clause-went g c =
    let can = c.requires.seat in let seat = can.seat in
    stays_out (Stands g.O.Outlet c.args.job.now
    c.claim.new.seat c.args.worker.now.out.now c.args.worker.now.told.now)
    (Stopping g.O.Outlet c.args.job.now c.work_piece.new.worker) (WasRefused c.work_piece.new.worker.told.now)
    c.args.worker.now.seat.now c.claim.new.seat c.work_piece.new.worker.seat.now
    (claim_stays g.O.Outlet c.args.job.now.start.now.value c.args.job.now.problem.now
    (claims.Work c.in-Work.piece c.in-Work.batch c.in-Work.k) c.args.worker.now.seat.now c.claim.new.seat c.args.worker.now.out.now c.args.worker.now.told.now
    c.in-Work.ensures.turn seat.problem c.requires.stands) (c.in_ok-work_piece-in-Work.ensures.left c.if-branch.false)

pub returns-else-tell-clause-went : goal.returns-else-tell-clause-went
returns-else-tell-clause-went g c =
    let can = c.requires.seat in let seat = can.seat in
    stays_out (Stands g.O.Outlet c.args.job.now
    c.claim.new.seat c.args.worker.now.out.now c.args.worker.now.told.now)
    (Stopped g.O.Outlet c.args.job.now
    c.tell.new.out c.tell.new.told) (WasRefused c.tell.new.told)
    c.args.worker.now.seat.now c.claim.new.seat c.tell.new.seat
    (claim_stays g.O.Outlet c.args.job.now.start.now.value c.args.job.now.problem.now
    (claims.Idle c.in-Idle.busy) c.args.worker.now.seat.now c.claim.new.seat c.args.worker.now.out.now c.args.worker.now.told.now
    c.in-Idle.ensures.turn seat.problem c.requires.stands) (c.tell.ensures.left c.if-tell.false)

pub returns-in_err-work_piece-in-Work-clause-holds : goal.returns-in_err-work_piece-in-Work-clause-holds
returns-in_err-work_piece-in-Work-clause-holds g c = let h = c.work_piece.ensures.holds in record
    { leads = h.leads; seat = h.seat; told = h.told; kept = h.kept; out = h.out }

pub returns-in_err-work_piece-in-Work-clause-kept : goal.returns-in_err-work_piece-in-Work-clause-kept
returns-in_err-work_piece-in-Work-clause-kept g c = IfOk-from_err c.from_residual.result _ c.from_residual.ensures.0

pub returns-in_err-work_piece-in-Work-clause-went : goal.returns-in_err-work_piece-in-Work-clause-went
returns-in_err-work_piece-in-Work-clause-went g c = IfOk-from_err c.from_residual.result _ c.from_residual.ensures.0

pub returns-then-branch-clause-holds : goal.returns-then-branch-clause-holds
returns-then-branch-clause-holds g c =
    let h = c.work_piece.ensures.holds in record { leads = h.leads; seat = h.seat; told = h.told; kept = h.kept; out = h.out }

pub returns-then-branch-clause-kept : goal.returns-then-branch-clause-kept
returns-then-branch-clause-kept g c = c.in_ok-work_piece-in-Work.ensures.kept

pub returns-then-tell-clause-holds : goal.returns-then-tell-clause-holds
returns-then-tell-clause-holds g c = record { leads = c.tell.ensures.leads; seat = refl; told = refl; kept = refl; out = refl }

pub returns-then-tell-clause-kept : goal.returns-then-tell-clause-kept
returns-then-tell-clause-kept g c = c.requires.kept

pub returns-else-branch-clause-holds : goal.returns-else-branch-clause-holds
returns-else-branch-clause-holds g c =
    let h = c.work_piece.ensures.holds in record { leads = h.leads; seat = h.seat; told = h.told; kept = h.kept; out = h.out }

pub returns-else-branch-clause-kept : goal.returns-else-branch-clause-kept
returns-else-branch-clause-kept g c = c.in_ok-work_piece-in-Work.ensures.kept

pub returns-else-tell-clause-holds : goal.returns-else-tell-clause-holds
returns-else-tell-clause-holds g c = record { leads = c.tell.ensures.leads; seat = refl; told = refl; kept = refl; out = refl }

pub returns-else-tell-clause-kept : goal.returns-else-tell-clause-kept
returns-else-tell-clause-kept g c = c.requires.kept

pub returns-in-Finished-clause-holds : goal.returns-in-Finished-clause-holds
returns-in-Finished-clause-holds g c = record { leads = refl; seat = refl; told = refl; kept = refl; out = refl }

pub returns-in-Finished-clause-kept : goal.returns-in-Finished-clause-kept
returns-in-Finished-clause-kept g c = c.requires.kept

pub returns-in-Starved-clause-holds : goal.returns-in-Starved-clause-holds
returns-in-Starved-clause-holds g c = record { leads = refl; seat = refl; told = refl; kept = refl; out = refl }

pub returns-in-Starved-clause-kept : goal.returns-in-Starved-clause-kept
returns-in-Starved-clause-kept g c = c.requires.kept

pub returns-in-Stopped-clause-holds : goal.returns-in-Stopped-clause-holds
returns-in-Stopped-clause-holds g c = record { leads = refl; seat = refl; told = refl; kept = refl; out = refl }

pub returns-in-Stopped-clause-kept : goal.returns-in-Stopped-clause-kept
returns-in-Stopped-clause-kept g c = c.requires.kept

pub work_piece-requires-clause-suits : goal.work_piece-requires-clause-suits
work_piece-requires-clause-suits g c κs within = c.requires.suits

pub work_piece-requires-clause-kept : goal.work_piece-requires-clause-kept
work_piece-requires-clause-kept g c κs within = c.requires.kept

pub claim-requires-clause-own : goal.claim-requires-clause-own
claim-requires-clause-own g c κs within = let can = c.requires.seat in let seat = can.seat in seat.table

pub claim-requires-clause-rests : goal.claim-requires-clause-rests
claim-requires-clause-rests g c κs within = let can = c.requires.seat in can.rests

pub work_piece-requires-clause-seat : goal.work_piece-requires-clause-seat
work_piece-requires-clause-seat g c κs within =
    let can = c.requires.seat in
    let calm = calm_claim (claims.Work c.in-Work.piece c.in-Work.batch c.in-Work.k) c.args.worker.now.seat.now c.claim.new.seat c.in-Work.ensures.turn in
    seat_on c.args.job.now.pool.now c.args.job.now.problem.now c.args.worker.now.seat.now c.claim.new.seat calm.same can.seat

pub tell-requires-clause-seat : goal.tell-requires-clause-seat
tell-requires-clause-seat g c κs within =
    let can = c.requires.seat in
    let calm = calm_claim (claims.Idle c.in-Idle.busy) c.args.worker.now.seat.now c.claim.new.seat c.in-Idle.ensures.turn in
    seat_on c.args.job.now.pool.now c.args.job.now.problem.now c.args.worker.now.seat.now c.claim.new.seat calm.same can.seat

pub returns-in_err-work_piece-in-Work-clause-turns : goal.returns-in_err-work_piece-in-Work-clause-turns
returns-in_err-work_piece-in-Work-clause-turns g c = IfOk-from_err c.from_residual.result _ c.from_residual.ensures.0

pub returns-then-tell-clause-turns : goal.returns-then-tell-clause-turns
returns-then-tell-clause-turns g c =
    let n = turn_counted of_batch alternatives_in _ c.args.worker.now.seat.now c.claim.new.seat c.in-Idle.ensures.turn in
    let told = c.tell.ensures.turns in omega arith

pub work_piece-requires-clause-of : goal.work_piece-requires-clause-of
work_piece-requires-clause-of g c κs within =
    let can = c.requires.seat in let seat = can.seat in
    let turn = c.in-Work.ensures.turn in
    let sound = found_sound _ c.args.worker.now.seat.now c.claim.new.seat turn c.args.job.now.problem.now seat.problem in
    sound.alike turn.changed.0 (arc_value c.in-Work.batch) turn.changed.1
