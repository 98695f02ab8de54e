use Rattle.std.proofs.Common.{ap, ◌∙◌, sym, refl, arith, map}
use Rattle.std.proofs.lemmas.List.{length-map}
use Rattle.ll_store.specs.Packed.{cell_of}
use Rattle.ll_store.proofs.CellLemmas.{update-set, update-past}
use Rattle.ll_store.proofs.PackedLemmas.{map-updated}
use Rattle.ll_store.proofs.segment.set_slot.Goals as goal

pub returns-then-at-len : goal.returns-then-at-len
returns-then-at-len c =
    ap (map cell_of) (update-set c.args.cells.now.items c.args.at (λ s. c.args.slot) c.args.slot
    (omega (arith, c.if-at-len.true, c.len.ensures, c.args.cells.now.ok)))
    ∙ map-updated cell_of (λ s. c.args.slot) (λ d. cell_of c.args.slot) c.args.cells.now.items c.args.at (λ s. refl)

pub returns-else-at-len : goal.returns-else-at-len
returns-else-at-len c =
    let n = length-map c.args.cells.now.items cell_of in
    sym (update-past (map cell_of c.args.cells.now.items) c.args.at (λ d. cell_of c.args.slot)
    (omega (arith, n, c.if-at-len.false, c.len.ensures, c.args.cells.now.ok)))
