use Rattle.std.specs.Prelude.{map, IfSome, IfNone}
use Rattle.std.proofs.Common.{◌≡◌, ℕ, ◌∙◌, subst, sym, refl, true, false, Option, Some, None}
use Rattle.std.proofs.lemmas.Result.{IfOk-from_err}
use Rattle.ll_list_laws.proofs.CallerLemmas.{OnOk-weaker, OnErr-always}
use Rattle.ll_laws.specs.declared.Event.{Event}
use Rattle.ll_laws.specs.Pool.{Owed}
use Rattle.ll_crew.specs.Leading.{WasRefused}
use Rattle.ll_crew.specs.Turns.{LeavesPool}
use Rattle.ll_crew.specs.Pieces.{IsKeptOf, IsOwed}
use Rattle.ll_crew.specs.Runs.{RunsOne}
use Rattle.ll_crew.proofs.Claiming.{stays_here}
use Rattle.ll_crew.specs.Workers.{Standing, Stopping}
use Rattle.ll_crew.proofs.Finishing.{one_run, chosen_holds, chosen_on, chosen_fails, done_of}
use Rattle.ll_crew.proofs.piece.run_one.Goals as goal

pub returns-in_err-engine-clause-holds : goal.returns-in_err-engine-clause-holds
returns-in_err-engine-clause-holds g c = record { leads = refl; seat = refl; told = refl; kept = refl; out = refl }

pub returns-in_err-engine-clause-kept : goal.returns-in_err-engine-clause-kept
returns-in_err-engine-clause-kept g c = IfOk-from_err c.from_residual.result _ c.from_residual.ensures.0

pub returns-in_err-engine-clause-some : goal.returns-in_err-engine-clause-some
returns-in_err-engine-clause-some g c = IfOk-from_err c.from_residual.result _ c.from_residual.ensures.0

pub returns-in_err-engine-clause-none : goal.returns-in_err-engine-clause-none
returns-in_err-engine-clause-none g c = IfOk-from_err c.from_residual.result _ c.from_residual.ensures.0

pub returns-in_err-engine-clause-failed : goal.returns-in_err-engine-clause-failed
returns-in_err-engine-clause-failed g c = OnErr-always c.from_residual.result (stays_here _ c.args.worker.now.seat.now c.requires.stands)

pub returns-clause-holds : goal.returns-clause-holds
returns-clause-holds g c = let h = c.run_alone-done.ensures.holds in record { leads = h.leads; seat = h.seat; told = h.told; kept = h.kept; out = h.out }

pub returns-clause-kept : goal.returns-clause-kept
returns-clause-kept g c =
    let alone = c.run_alone-done.ensures in let chosen = c.choose.ensures in
    chosen_on _ c.run_alone-done.result c.choose.result chosen.failed
    (OnOk-weaker c.run_alone-done.result
    (λ is. subst (IsKeptOf c.args.job.now.problem.now) (sym c.keep.ensures) (is ∙ c.in_ok-engine.ensures.problem)) alone.problem)

pub returns-clause-some : goal.returns-clause-some
returns-clause-some g c =
    let alone = c.run_alone-done.ensures in let chosen = c.choose.ensures in
    chosen_holds
    (λ (x : Option ℕ). IfSome x (λ n. (owes : Owed Event) → IsOwed c.args.claimed owes → RunsOne
    (Standing g.O.Outlet c.args.job.now c.run_alone-done.new.worker)
    c.args.worker.now.seat.now c.run_alone-done.new.worker.seat.now (map g.O.Found.Notice.stands_for c.args.events.now.items) owes
    (map g.O.Found.Notice.stands_for c.run_alone-done.new.events.items) n))
    c.run_alone-done.result c.choose.result (Some c.cost-inferences.result) None chosen.yes chosen.no chosen.failed
    (λ is owes at. one_run _ _ _ owes _ _ _ _ _ _ (c.in_ok-engine.ensures.owes owes at) (done_of _ c.run_alone-done.result true is alone.done refl)
    c.cost-inferences.ensures)
    (λ is. tt)

pub returns-clause-none : goal.returns-clause-none
returns-clause-none g c =
    let alone = c.run_alone-done.ensures in let chosen = c.choose.ensures in
    chosen_holds
    (λ (x : Option ℕ). IfNone x (LeavesPool
    (Stopping g.O.Outlet c.args.job.now c.run_alone-done.new.worker) (WasRefused c.run_alone-done.new.worker.told.now)
    c.args.worker.now.seat.now
    c.run_alone-done.new.worker.seat.now))
    c.run_alone-done.result c.choose.result (Some c.cost-inferences.result) None chosen.yes chosen.no chosen.failed
    (λ is. tt) (λ is. done_of _ c.run_alone-done.result false is alone.left refl)

pub returns-clause-failed : goal.returns-clause-failed
returns-clause-failed g c =
    let chosen = c.choose.ensures in
    chosen_fails _ c.run_alone-done.result c.choose.result (Some c.cost-inferences.result) None chosen.yes chosen.no c.run_alone-done.ensures.failed

pub engine_for-requires-clause-kept : goal.engine_for-requires-clause-kept
engine_for-requires-clause-kept g c κs within = c.requires.kept

pub engine_for-requires-clause-inside : goal.engine_for-requires-clause-inside
engine_for-requires-clause-inside g c κs within = c.requires.inside

pub engine_for-requires-clause-of : goal.engine_for-requires-clause-of
engine_for-requires-clause-of g c κs within = c.requires.of

pub run_alone-done-requires-clause-suits : goal.run_alone-done-requires-clause-suits
run_alone-done-requires-clause-suits g c κs within = subst g.O.Found.Notice.suits (sym c.in_ok-engine.ensures.problem) c.requires.suits

pub run_alone-done-requires-clause-seat : goal.run_alone-done-requires-clause-seat
run_alone-done-requires-clause-seat g c κs within = c.requires.seat

pub run_alone-done-requires-clause-stands : goal.run_alone-done-requires-clause-stands
run_alone-done-requires-clause-stands g c κs within = c.requires.stands
