use Rattle.ll_store.specs.Stored.{stored}
use Rattle.ll_store.proofs.SegmentLemmas.{leads-states}
use Rattle.ll_store.proofs.store.Store.segment.Goals as goal

pub returns : goal.returns
returns c =
    leads-states (record { cells = c.in_ok-cells.cells; tail = c.in_ok-nodes.nodes }) (stored c.args.self.now) c.args.from c.args.to c.requires.from
    c.requires.order c.in_ok-cells.ensures c.in_ok-nodes.ensures.nodes
    c.in_ok-nodes.ensures.sizes.0 c.in_ok-nodes.ensures.sizes.1
