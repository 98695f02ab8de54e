use Rattle.std.proofs.Common.{arith}
use Rattle.ll_make.proofs.Growing.{goals_more}
use Rattle.ll_make.proofs.numbered.write_goals.Goals as goal

pub loop-k-preserved : goal.loop-k-preserved
loop-k-preserved c =
    let more = goals_more c.args.text.now.items c.loop-k.k (omega arith) in
    let wrote = c.in_ok-write_numbered-2.ensures in
    cc
