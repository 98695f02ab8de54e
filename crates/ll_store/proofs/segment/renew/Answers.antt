use Rattle.std.proofs.Common.{arith, map, refl, ap, ◌∙◌}
use Rattle.ll_store.specs.Packed.{cell_of}
use Rattle.ll_store.proofs.SegmentLemmas.{renew-step}
use Rattle.std.proofs.lemmas.List.{take_all}
use Rattle.ll_store.specs.Segments.{renewed_of, renew}
use Rattle.ll_store.proofs.segment.renew.Goals as goal

pub loop-renewal-preserved : goal.loop-renewal-preserved
loop-renewal-preserved c =
    renew-step c.args.renewed.now c.loop-renewal.renewal-index _ (map cell_of c.args.cells.now.items) (map cell_of c.loop-renewal.cells.items)
    (map cell_of c.set_slot.new.cells.items) c.var.result (omega arith) c.loop-renewal.invariant c.var.ensures c.set_slot.ensures

pub loop-renewal-init : goal.loop-renewal-init
loop-renewal-init c = refl

pub returns : goal.returns
returns c =
    c.loop-renewal.invariant
    ∙ ap (λ rs. renew (map renewed_of rs) (map cell_of c.args.cells.now.items))
    (take_all c.loop-renewal.renewal-index c.args.renewed.now c.loop-renewal-test.false)
