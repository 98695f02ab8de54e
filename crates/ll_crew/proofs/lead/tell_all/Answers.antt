use Rattle.std.specs.Prelude.{map}
use Rattle.std.proofs.Common.{ap, refl, Err, le_refl, arith}
use Rattle.ll_laws.specs.declared.Event.{Event}
use Rattle.ll_laws.specs.Pool.{Owed}
use Rattle.ll_freeze.specs.Frozen.{alternatives_in}
use Rattle.ll_crew.specs.Seats.{of_batch}
use Rattle.ll_crew.proofs.Calms.{turn_counted}
use Rattle.ll_crew.proofs.Leadings.{calm_ready}
use Rattle.ll_crew.proofs.Goings.{goes_calm, told_welcome, told_more, told_refused}
use Rattle.ll_crew.proofs.lead.tell_all.Goals as goal

pub loop-init : goal.loop-init
loop-init g c = (
  c.requires.leads,
  record {
    same = record { table = refl; problem = refl; worker = refl; given = refl };
    piece = refl;
    quit = refl;
    stands = c.requires.stands;
  },
  le_refl c.args.seat.now.mine.turns,
)

pub returns-in_default : goal.returns-in_default
returns-in_default g c =
    let i = c.loop.invariant in
    record {
      leads = i.0;
      on = λ e. goes_calm g.O.Outlet c.args.job.now.start.now.value c.args.job.now.problem.now
          c.args.seat.now c.loop.seat c.ready.new.seat c.loop.out c.loop.told c.requires.seat.problem i.1
          (calm_ready c.ready.result c.in_default.not-Events c.loop.seat c.ready.new.seat c.ready.ensures.turn) c.ready.ensures.owes;
      left = λ f. absurd (cc);
      turns = let n = turn_counted of_batch alternatives_in _ c.loop.seat c.ready.new.seat c.ready.ensures.turn in let before = i.2 in omega arith;
    }

pub give-requires-clause-welcome : goal.give-requires-clause-welcome
give-requires-clause-welcome g c κs within =
    let i = c.loop.invariant in
    told_welcome g.O.Outlet c.args.job.now.start.now.value c.args.job.now.problem.now
    c.args.seat.now c.loop.seat c.ready.new.seat c.loop.out c.loop.out c.loop.told c.in-Events.report
    (map g.O.Found.Notice.stands_for c.report.inside.events.items)
    c.report.inside.inferences
    (ap (λ (o : Owed Event). o.events) c.report.view_is) (ap (λ (o : Owed Event). o.cost) c.report.view_is) c.in-Events.ensures.turn c.requires.seat.problem i.0
    i.1

pub loop-preserved : goal.loop-preserved
loop-preserved g c =
    let i = c.loop.invariant in let ok = c.in-Ok.ensures in (
      i.0,
      told_more g.O.Outlet c.args.job.now.start.now.value c.args.job.now.problem.now
          c.args.seat.now c.loop.seat c.ready.new.seat c.loop.out c.give.new.out c.loop.told c.in-Events.report
          (map g.O.Found.Notice.stands_for c.report.inside.events.items)
          c.report.inside.inferences
          (ap (λ (o : Owed Event). o.events) c.report.view_is) (ap (λ (o : Owed Event). o.cost) c.report.view_is) c.in-Events.ensures.turn
          c.requires.seat.problem i.0 i.1
          (record { answers = c.in-Ok.counts.answers; reached = c.in-Ok.counts.reached; inferences = c.saturating_add-inferences.result })
          c.in-Events.ensures.owes ok.given ok.answers ok.reached c.saturating_add-inferences.ensures ok.faults_kept ok.welcome_kept,
      let n = turn_counted of_batch alternatives_in _ c.loop.seat c.ready.new.seat c.in-Events.ensures.turn in let before = i.2 in omega arith,
    )

pub returns-in-Err-clause-leads : goal.returns-in-Err-clause-leads
returns-in-Err-clause-leads g c = c.loop.invariant.0

pub returns-in-Err-clause-left : goal.returns-in-Err-clause-left
returns-in-Err-clause-left g c = λ f.
    let i = c.loop.invariant in let err = c.in-Err.ensures in let same = c.quit.ensures.same in
    told_refused g.O.Outlet c.args.job.now.start.now.value c.args.job.now.problem.now
    c.args.seat.now c.loop.seat c.ready.new.seat c.loop.out c.give.new.out c.loop.told c.in-Events.report
    (map g.O.Found.Notice.stands_for c.report.inside.events.items)
    c.report.inside.inferences
    (ap (λ (o : Owed Event). o.events) c.report.view_is) (ap (λ (o : Owed Event). o.cost) c.report.view_is) c.in-Events.ensures.turn c.requires.seat.problem i.0
    i.1
    c.in-Err.fault c.quit.new.seat err.refused (λ e. err.write (ap Err e)) err.faults_kept err.welcome_kept
    (record { table = same.0; problem = same.1; worker = same.2; given = same.3 }) c.quit.ensures.left

pub returns-in-Err-clause-turns : goal.returns-in-Err-clause-turns
returns-in-Err-clause-turns g c =
    let i = c.loop.invariant in
    let n = turn_counted of_batch alternatives_in _ c.loop.seat c.ready.new.seat c.in-Events.ensures.turn in
    let before = i.2 in let quit = c.quit.ensures.turns in omega arith
