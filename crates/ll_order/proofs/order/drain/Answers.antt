use Rattle.std.proofs.Common.{◌≡◌, ℕ, ◌+◌, ◌∙◌, sym, ap, subst, refl, arith, le_of_eq, slice_get, Some}
use Rattle.std.specs.Prelude.{count_by, map}
use Rattle.ll_laws.specs.declared.Event.{Event}
use Rattle.ll_laws.specs.Pool.{Owed, Taken, Piece, PoolData}
use Rattle.ll_laws.specs.Search.{cut_count, is_answer, is_reached}
use Rattle.ll_laws.specs.Sound.{Every}
use Rattle.ll_laws.specs.Later.{Later}
use Rattle.ll_laws.specs.CoreEvents.{Ready, Events}
use Rattle.ll_core.proofs.CallerLemmas.{every_more, every_back, every_front, later_itself, later_on, later_event}
use Rattle.ll_order.specs.Outlets.{Gives, Refuses, events_left}
use Rattle.ll_order.proofs.Lefts.{none_left_all}
use Rattle.ll_order.proofs.Givings.{drained_first, drained_more, drained_less, drained_refused, drained_all, drained_end, events_now, ok_not_err}
use Rattle.ll_order.proofs.order.drain.Goals as goal

pub loop-report-init : goal.loop-report-init
loop-report-init g c = (
  drained_first g.N.Batch.alternatives g.O.Outlet.takes g.O.Outlet.breaks c.args.pool.now c.args.out.now _ refl refl refl c.requires.done.0 c.requires.done.1
      (later_itself c.args.pool.now),
  record { wanted = c.requires.welcome; quiet = refl; welcome_kept = λ e. (λ h. h, λ h. h) },
)

pub give-requires-clause-welcome : goal.give-requires-clause-welcome
give-requires-clause-welcome g c =
    let r = c.in-Events.ensures in let i = c.loop-report.invariant in let w = i.1 in
    let now = events_now g.N.Batch.alternatives g.O.Outlet.takes g.O.Outlet.breaks _ c.loop-report.pool c.ready.new.self _ c.loop-report.out c.loop-report.out
    c.loop-report.counts c.loop-report.counts c.in-Events.report r.shaped r.event i.0 in
    let told : map g.O.Found.Notice.stands_for c.report.inside.events.items ≡ c.in-Events.report.events = ap (λ (o : Owed Event). o.events) c.report.view_is in
    λ _ _. subst (Every (g.O.Outlet.welcome c.loop-report.out)) (sym told)
    (every_front (g.O.Outlet.welcome c.loop-report.out) c.in-Events.report.events (events_left g.N.Batch.alternatives c.ready.new.self)
    (subst (Every (g.O.Outlet.welcome c.loop-report.out)) now w.wanted))

pub returns-in-Err-clause-refused : goal.returns-in-Err-clause-refused
returns-in-Err-clause-refused g c =
    let r = c.in-Events.ensures in let i = c.loop-report.invariant in
    let told : map g.O.Found.Notice.stands_for c.report.inside.events.items ≡ c.in-Events.report.events = ap (λ (o : Owed Event). o.events) c.report.view_is in
    drained_refused g.N.Batch.alternatives g.O.Outlet.takes g.O.Outlet.breaks _ c.loop-report.pool c.ready.new.self _ c.loop-report.out c.give.new.out
    c.loop-report.counts c.loop-report.counts c.in-Events.report r.shaped r.event i.0
    (subst (λ l. Refuses g.O.Outlet.takes g.O.Outlet.breaks c.loop-report.out l c.give.new.out) told c.in-Err.ensures.refused)

pub returns-in-Err-clause-later : goal.returns-in-Err-clause-later
returns-in-Err-clause-later g c =
    let r = c.in-Events.ensures in let i = c.loop-report.invariant in let d = i.0 in
    later_on c.args.pool.now c.loop-report.pool c.ready.new.self d.later
    (later_event g.N.Batch.alternatives c.loop-report.pool c.ready.new.self (Ready (Events c.in-Events.report)) r.event)

pub loop-report-smaller : goal.loop-report-smaller
loop-report-smaller g c =
    let r = c.in-Events.ensures in let i = c.loop-report.invariant in
    let less = drained_less g.N.Batch.alternatives g.O.Outlet.takes g.O.Outlet.breaks _ c.loop-report.pool c.ready.new.self _ c.loop-report.out
    c.loop-report.out c.loop-report.counts c.loop-report.counts c.in-Events.report r.shaped r.event i.0 in
    omega arith

pub loop-report-preserved : goal.loop-report-preserved
loop-report-preserved g c =
    let r = c.in-Events.ensures in let i = c.loop-report.invariant in let w = i.1 in
    let now = events_now g.N.Batch.alternatives g.O.Outlet.takes g.O.Outlet.breaks _ c.loop-report.pool c.ready.new.self _ c.loop-report.out c.loop-report.out
    c.loop-report.counts c.loop-report.counts c.in-Events.report r.shaped r.event i.0 in
    let told : map g.O.Found.Notice.stands_for c.report.inside.events.items ≡ c.in-Events.report.events = ap (λ (o : Owed Event). o.events) c.report.view_is in
    let cost : c.report.inside.inferences ≡ c.in-Events.report.cost = ap (λ (o : Owed Event). o.cost) c.report.view_is in
    let ok = c.in-Ok.ensures in
    let kept = ok.welcome_kept in (
      drained_more g.N.Batch.alternatives g.O.Outlet.takes g.O.Outlet.breaks _ c.loop-report.pool c.ready.new.self _ c.loop-report.out c.give.new.out
          c.loop-report.counts
          (record { answers = c.in-Ok.given.answers; reached = c.in-Ok.given.reached; inferences = c.saturating_add-inferences.result }) c.in-Events.report
          r.shaped r.event i.0
          (subst (λ l. Gives g.O.Outlet.takes c.loop-report.out l c.give.new.out) told ok.given)
          (ok.answers ∙ ap (λ l. cut_count (c.loop-report.counts.answers + count_by is_answer l)) told)
          (ok.reached ∙ ap (λ l. cut_count (c.loop-report.counts.reached + count_by is_reached l)) told)
          (c.saturating_add-inferences.ensures ∙ ap (λ n. cut_count (c.loop-report.counts.inferences + n)) cost),
      record {
        wanted = every_more (g.O.Outlet.welcome c.loop-report.out) (g.O.Outlet.welcome c.give.new.out) (events_left g.N.Batch.alternatives c.ready.new.self)
            (λ e h. (kept e).0 h)
            (every_back (g.O.Outlet.welcome c.loop-report.out) c.in-Events.report.events (events_left g.N.Batch.alternatives c.ready.new.self)
            (subst (Every (g.O.Outlet.welcome c.loop-report.out)) now w.wanted));
        quiet = ok.quiet (ok_not_err _ _) ∙ w.quiet;
        welcome_kept = λ e. (λ h. (kept e).0 ((w.welcome_kept e).0 h), λ h. (w.welcome_kept e).1 ((kept e).1 h));
      },
    )

pub returns : goal.returns
returns g c =
    let i = c.loop-report.invariant in let d = i.0 in let w = i.1 in
    let end = drained_end g.N.Batch.alternatives c.loop-report.pool c.ready.new.self c.ready.result c.in_default.not-Events c.ready.ensures.shaped d.untried
    d.busy c.ready.ensures.event in
    let all = drained_all g.N.Batch.alternatives g.O.Outlet.takes g.O.Outlet.breaks c.args.pool.now c.loop-report.pool c.args.out.now c.loop-report.out
    c.loop-report.counts d (none_left_all g.N.Batch.alternatives c.loop-report.pool end.0) in
    record {
      given = all.0;
      counts = all.1;
      all = subst (λ (u : PoolData _ Event). (i : ℕ) (x : Piece Event) → slice_get u.pieces i ≡ Some x → x.status ≡ Taken) (sym end.1) end.0;
      refused = tt;
      write = λ e. absurd (ok_not_err _ _ e);
      quiet = λ _. w.quiet;
      faults_kept = le_of_eq (sym w.quiet);
      welcome_kept = w.welcome_kept;
      later = subst (Later c.args.pool.now) (sym end.1) d.later;
    }
