use Rattle.std.proofs.Common.{arith, ap, get_or, set, false, ◌∙◌}
use Rattle.ll_resources.specs.Raw.{Raw, raw}
use Rattle.ll_resources.proofs.ChangeLemmas.{back-picked}
use Rattle.ll_resources.proofs.state.State.pick.Goals as goal

pub returns-clause-leads : goal.returns-clause-leads
returns-clause-leads g c = record {
  back = ap (λ bs. let s : Raw g.row.C.Denot = record (raw c.args.self.now) { live = set bs c.slot_of-at.result c.mark_in-live.result } in
      s) c.set_mark.ensures.mark
      ∙ back-picked c.slot_of-at.result c.mark_in-live.result (raw c.args.self.now)
      (λ l. c.mark_in-live.ensures ∙ ap (λ xs. get_or xs c.slot_of-at.result false) c.as_slice.ensures.value);
  room = record { entries = omega arith; live = omega (arith, c.set_mark.ensures.room); keys = omega arith };
}
