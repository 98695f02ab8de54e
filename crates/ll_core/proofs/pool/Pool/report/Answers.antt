use Rattle.std.proofs.Common.{◌<◌, ◌∙◌, map, ap, refl, subst, sym, length}
use Rattle.std.specs.Arc.{arc_value}
use Rattle.ll_laws.specs.Pool.{Closed}
use Rattle.ll_laws.specs.CoreEvents.{with_status, reported}
use Rattle.ll_laws.specs.CoreEvents.{IsOpenAt}
use Rattle.ll_core.specs.Slots.{stop_in}
use Rattle.ll_core.specs.declared.room.State.TheVariants as state
use Rattle.ll_core.proofs.sound.Wholes.{whole_reported}
use Rattle.ll_core.proofs.sound.Forming.{slot_changed, busy_some, report_forms, report_is, slot_below}
use Rattle.ll_core.proofs.pool.Pool.report.Goals as goal

pub overflow_sub-self : goal.overflow_sub-self
overflow_sub-self g c = busy_some _ _ _ _ _ _ _ c.self.invariant.formed (subst (λ v. IsOpenAt v c.args.piece) (sym c.self.view_is) c.requires)

pub invariant_of-self : goal.invariant_of-self
invariant_of-self g c =
    let o = subst (λ v. IsOpenAt v c.args.piece) (sym c.self.view_is) c.requires in
    let i = c.self.inside in
    let w = slot_changed (with_status (Closed c.args.report)) i.pieces.items c.args.piece c.index_mut.result.now
    (record {
      batch = c.index_mut.result.now.batch;
      k = c.index_mut.result.now.k;
      worker = c.index_mut.result.now.worker;
      published =
          c.index_mut.result.now.published;
      state = state.Closed c.args.report;
    }) (slot_below _ _ _ o.1) c.index_mut.ensures.value refl in
    whole_reported g.N.Batch.alternatives _ i.starts.items (map stop_in i.stack.items) _ 0 _ i.waiting.items c.args.piece o.0 c.args.report c.self.invariant o.1
    o.2 _
    (report_is (map arc_value i.batches.items) i.pieces.items _ (length i.waiting.items) i.workers i.busy i.starved i.stopped c.args.piece c.args.report w)
    (report_forms _ _ _ _ _ _ _ _ c.args.report c.self.invariant.formed o w)

pub returns : goal.returns
returns g c =
    let o = subst (λ v. IsOpenAt v c.args.piece) (sym c.self.view_is) c.requires in
    let i = c.self.inside in
    report_is (map arc_value i.batches.items) i.pieces.items _ (length i.waiting.items) i.workers i.busy i.starved i.stopped c.args.piece c.args.report
    (slot_changed (with_status (Closed c.args.report)) _ c.args.piece _ _ (slot_below _ _ _ o.1) c.index_mut.ensures.value refl)
    ∙ ap (λ v. reported v c.args.piece c.args.report) c.self.view_is

pub index_mut-requires : goal.index_mut-requires
index_mut-requires g c =
    let o = subst (λ v. IsOpenAt v c.args.piece) (sym c.self.view_is) c.requires in
    subst (λ k. c.args.piece < k) (sym c.self.inside.pieces.ok.0) (slot_below c.self.inside.pieces.items c.args.piece o.0 o.1)
