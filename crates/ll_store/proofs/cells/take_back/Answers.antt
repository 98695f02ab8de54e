use Rattle.std.proofs.Common.{◌≡◌, ◌-◌, suc, map, drop, ap, subst, ◌∙◌, arith}
use Rattle.ll_store.specs.Cells.{taken_back, before}
use Rattle.ll_store.specs.Packed.{cell_of, change_of}
use Rattle.ll_store.proofs.PackedLemmas.{back-more}
use Rattle.ll_store.proofs.cells.take_back.Goals as goal

pub loop-at-preserved : goal.loop-at-preserved
loop-at-preserved c =
    let at : c.loop-at.at ≡ suc (c.loop-at.at - 1) = omega arith in
    record {
      from = omega arith;
      within = let w = c.loop-at.invariant.within in omega arith;
      cells = c.take_one_back.ensures
          ∙ (ap (λ d. taken_back d (map cell_of c.loop-at.cells.items)) c.change.ensures
          ∙ back-more c.args.changes.now (c.loop-at.at - 1) _ (map cell_of c.args.cells.now.items) (map cell_of c.loop-at.cells.items) (let w =
          c.loop-at.invariant.within in omega arith)
          (subst (λ n. map cell_of c.loop-at.cells.items ≡ before (drop n (map change_of c.args.changes.now)) (map cell_of c.args.cells.now.items)) at
          c.loop-at.invariant.cells));
    }
