use Rattle.ll_edge.proofs.Counting.{faults_none_taken, faults_failed, faults_some_taken}
use Rattle.ll_edge.proofs.real.StdSinkSink.TheImpl.Goals as goal

pub write-tells : goal.write-tells
write-tells g c = record {
  faults_kept = c.ensures.faults_kept;
  fits = c.ensures.fits;
  takes = c.ensures.takes;
  none_taken = faults_none_taken c.args.self.now.faults c.new.self.now.faults c.args.piece.now c.result c.ensures.counts;
  failed = faults_failed c.args.self.now.faults c.new.self.now.faults c.args.piece.now c.result c.ensures.counts;
  no_fault = faults_some_taken c.args.self.now.faults c.new.self.now.faults c.args.piece.now c.result c.ensures.counts;
}
