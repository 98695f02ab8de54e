use Rattle.std.proofs.Common.{subst}
use Rattle.ll_store.specs.declared.store.Store.{Store}
use Rattle.ll_store.specs.Stored.{stored}
use Rattle.ll_store.specs.Segments.{SegmentSight, Continues}
use Rattle.ll_store.proofs.SegmentLemmas.{marks-segment}
use Rattle.ll_store.proofs.store.Store.take_over.Goals as goal

pub returns-clause-marks : goal.returns-clause-marks
returns-clause-marks c =
    let new : Store = record { bank = c.extend.new.self; cells = c.extend-2.new.self } in
    marks-segment c.args.segment.now (stored c.args.self.now) (stored new) c.requires c.in_ok-extend.ensures.keeps
    (subst (λ (s : SegmentSight). Continues s.cells c.args.self.now.cells c.extend-2.new.self) c.segment.view_is c.in_ok-extend-2.ensures.continues)
