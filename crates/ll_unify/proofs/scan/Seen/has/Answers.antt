use Rattle.std.proofs.Common.{◌<◌, length, arith}
use Rattle.ll_unify.proofs.Scans.{known-at}
use Rattle.ll_unify.proofs.scan.Seen.has.Goals as goal

pub returns-then-slot-len : goal.returns-then-slot-len
returns-then-slot-len c = let b : c.index-slot.result.now < length c.args.self.now.places.items = omega arith in
    known-at c.args.self.now.places.items c.index.result.now c.args.at c.index-slot.result.now b c.index.ensures

pub returns-then-at-len : goal.returns-then-at-len
returns-then-at-len c = _

pub returns-else-slot-len : goal.returns-else-slot-len
returns-else-slot-len c = _
