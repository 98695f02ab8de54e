use Rattle.std.proofs.Common.{arith}
use Rattle.std.proofs.lemmas.List.{take_rest}
use Rattle.ll_edge.proofs.Writing.{taken_more}
use Rattle.ll_edge.proofs.sink.write_all.Goals as goal

pub loop-done-preserved : goal.loop-done-preserved
loop-done-preserved g c =
    let answer = c.in_ok-taken.ensures in (
      taken_more c.loop-done.invariant.0 _ _ _ (take_rest c.args.piece.now c.loop-done.done) answer.fits answer.takes,
      omega (arith, answer.faults_kept, c.loop-done.invariant.1),
    )
