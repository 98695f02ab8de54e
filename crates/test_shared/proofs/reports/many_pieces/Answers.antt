use Rattle.test_shared.proofs.reports.many_pieces.Goals as goal
use Rattle.test_shared.proofs.reports.many_pieces.Goals.{then-i-pieces+in_ok-batch_of-2+in_ok-batch_of-3, else-i-pieces}

pub report-requires-after_bounds : goal.report-requires-after_bounds
report-requires-after_bounds g c κs =
    elim c.if-i-pieces.branch [
      | then-i-pieces+in_ok-batch_of-2+in_ok-batch_of-3 w ↦ rw w.pool-is w.publish-then-i-pieces.ensures.open
      | else-i-pieces w ↦ rw w.pool-is c.work-piece.ensures.open
    ]
