use Rattle.std.specs.Prelude.{map, IsSome, IsNone}
use Rattle.std.proofs.Common.{◌∙◌, refl, sym, arith, rules, subst}
use Rattle.std.proofs.lemmas.Bool.{true≢false}
use Rattle.std.proofs.lemmas.Result.{IfOk-from_err}
use Rattle.ll_list_laws.proofs.CallerLemmas.{OnErr-always}
use Rattle.ll_crew.specs.Leading.{WasRefused}
use Rattle.ll_crew.proofs.Calms.{same_itself, seat_on}
use Rattle.ll_crew.proofs.Claiming.{goes_stays, stays_out}
use Rattle.ll_crew.proofs.Goings.{goes_on}
use Rattle.ll_crew.proofs.Holding.{holds_itself}
use Rattle.ll_crew.proofs.Running.{stretching_starts, stretch_on, stretch_last}
use Rattle.ll_crew.proofs.piece.run_alone.Goals as goal

pub stretches-init : goal.stretches-init
stretches-init g c = (
  holds_itself _,
  record { same = same_itself c.args.worker.now.seat.now; piece = refl; quit = refl; stands = c.requires.stands },
  stretching_starts (map g.O.Found.Notice.stands_for c.args.events.now.items) c.args.engine.now,
)

pub returns-in_err-stretch-clause-holds : goal.returns-in_err-stretch-clause-holds
returns-in_err-stretch-clause-holds g c = let i = c.stretches.invariant in i.0

pub returns-in_err-stretch-clause-problem : goal.returns-in_err-stretch-clause-problem
returns-in_err-stretch-clause-problem g c = IfOk-from_err c.from_residual.result _ c.from_residual.ensures.0

pub returns-in_err-stretch-clause-done : goal.returns-in_err-stretch-clause-done
returns-in_err-stretch-clause-done g c = IfOk-from_err c.from_residual.result _ c.from_residual.ensures.0

pub returns-in_err-stretch-clause-left : goal.returns-in_err-stretch-clause-left
returns-in_err-stretch-clause-left g c = IfOk-from_err c.from_residual.result _ c.from_residual.ensures.0

pub returns-in_err-stretch-clause-failed : goal.returns-in_err-stretch-clause-failed
returns-in_err-stretch-clause-failed g c =
    let i = c.stretches.invariant in
    OnErr-always c.from_residual.result (goes_stays _ c.args.worker.now.seat.now c.stretches.worker.seat.now i.1)

pub returns-then-branch-clause-holds : goal.returns-then-branch-clause-holds
returns-then-branch-clause-holds g c = let i = c.stretches.invariant in i.0

pub returns-then-branch-clause-problem : goal.returns-then-branch-clause-problem
returns-then-branch-clause-problem g c =
    let i = c.stretches.invariant in let first = i.2 in let last = c.in_ok-stretch.ensures in last.problem ∙ first.problem

pub returns-then-branch-clause-done : goal.returns-then-branch-clause-done
returns-then-branch-clause-done g c = λ e.
    let i = c.stretches.invariant in let last = stretch_last c.in_ok-stretch.field-0 (map g.O.Found.Notice.stands_for c.args.events.now.items)
    (map g.O.Found.Notice.stands_for c.stretches.events.items) (map g.O.Found.Notice.stands_for c.stretch.new.events.items)
    c.args.engine.now c.stretches.engine c.stretch.new.engine i.2 c.if-branch.true c.in_ok-stretch.ensures in
    record { goes = i.1; whole = last.0; made = last.1 }

pub returns-then-branch-clause-left : goal.returns-then-branch-clause-left
returns-then-branch-clause-left g c = λ e. absurd (true≢false e)

pub look-requires-clause-seat : goal.look-requires-clause-seat
look-requires-clause-seat g c κs within =
    let i = c.stretches.invariant in let goes = i.1 in
    seat_on c.args.job.now.pool.now c.args.job.now.problem.now c.args.worker.now.seat.now c.stretches.worker.seat.now goes.same c.requires.seat

pub look-requires-clause-stands : goal.look-requires-clause-stands
look-requires-clause-stands g c κs within = let i = c.stretches.invariant in let goes = i.1 in goes.stands

pub returns-then-is_none-clause-holds : goal.returns-then-is_none-clause-holds
returns-then-is_none-clause-holds g c = let i = c.stretches.invariant in
    (let h = i.0 in record { leads = c.look.ensures.leads ∙ h.leads; seat = h.seat; told = h.told; kept = h.kept; out = h.out })

pub returns-then-is_none-clause-problem : goal.returns-then-is_none-clause-problem
returns-then-is_none-clause-problem g c =
    let i = c.stretches.invariant in let first = i.2 in let last = c.in_ok-stretch.ensures in last.problem ∙ first.problem

pub returns-then-is_none-clause-done : goal.returns-then-is_none-clause-done
returns-then-is_none-clause-done g c = λ e. absurd (true≢false (sym e))

pub returns-then-is_none-clause-left : goal.returns-then-is_none-clause-left
returns-then-is_none-clause-left g c = λ e.
    let i = c.stretches.invariant in
    let none : IsNone c.look.result = search rules in
    stays_out _ _ (WasRefused c.look.new.told) c.args.worker.now.seat.now c.stretches.worker.seat.now c.look.new.seat
    (goes_stays _ c.args.worker.now.seat.now c.stretches.worker.seat.now i.1) (c.look.ensures.left none)

pub stretches-preserved : goal.stretches-preserved
stretches-preserved g c =
    let i = c.stretches.invariant in
    let some : IsSome c.look.result = search rules in
    let last = c.in_ok-stretch.ensures in
    let less = last.less c.if-branch.false in (
      (let h = i.0 in record { leads = c.look.ensures.leads ∙ h.leads; seat = h.seat; told = h.told; kept = h.kept; out = h.out }),
      goes_on g.O.Outlet c.args.job.now.start.now.value c.args.job.now.problem.now
          c.args.worker.now.seat.now c.stretches.worker.seat.now c.look.new.seat _ _ i.1 (c.look.ensures.on some),
      stretch_on c.in_ok-stretch.field-0 (map g.O.Found.Notice.stands_for c.args.events.now.items)
          (map g.O.Found.Notice.stands_for c.stretches.events.items) (map g.O.Found.Notice.stands_for c.stretch.new.events.items)
          c.args.engine.now c.stretches.engine c.stretch.new.engine i.2 last (omega arith),
    )

pub returns-then-branch-clause-failed : goal.returns-then-branch-clause-failed
returns-then-branch-clause-failed g c = _

pub returns-then-is_none-clause-failed : goal.returns-then-is_none-clause-failed
returns-then-is_none-clause-failed g c = _

pub stretch-requires-clause-suits : goal.stretch-requires-clause-suits
stretch-requires-clause-suits g c κs within = subst g.O.Found.Notice.suits (sym c.stretches.invariant.2.problem) c.requires.suits
