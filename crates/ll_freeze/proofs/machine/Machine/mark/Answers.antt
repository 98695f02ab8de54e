use Rattle.std.proofs.Common.{refl, ◌∙◌}
use Rattle.ll_freeze.proofs.Marks.{IsNow, now_good, now_parts, now_last, cells_within}
use Rattle.ll_freeze.proofs.machine.Machine.mark.Goals as goal

pub mark-requires : goal.mark-requires
mark-requires c = cells_within c.args.self.now.store.bank c.args.self.now.store.cells.cells c.requires.bound

pub returns : goal.returns
returns c =
    let m = c.args.self.now in
    let h : IsNow _ m =
    record {
      store = record { good = c.mark.ensures.good; state = c.mark.ensures.state };
      store_last = c.mark.ensures.last;
      context = record { good = c.mark-2.ensures.good; state = c.mark-2.ensures.state };
      context_last = c.mark-2.ensures.last;
      agenda = c.len.ensures;
      top = refl;
      inside = c.requires.top;
      left = refl;
      eigens = refl;
      terms = c.len-2.ensures ∙ m.terms.ok.0;
      steps = c.len-3.ensures ∙ m.steps.ok.0;
    } in
    record { good = now_good _ m h; parts = now_parts _ m h; last = now_last _ m h }
