use Rattle.std.proofs.Common.{refl}
use Rattle.ll_edge.proofs.Counting.{counts_failed, counts_absent, counts_no_fault, counts_no_absence, counts_absent_alone, counts_failed_alone}
use Rattle.ll_edge.proofs.real.FileShelfShelf.TheImpl.Goals as goal

pub read-tells : goal.read-tells
read-tells g c = record {
  same_texts = refl;
  faults_kept = c.ensures.faults_kept;
  absences_kept = c.ensures.absences_kept;
  failed = counts_failed c.args.self.now.counts c.new.self.now.counts c.result c.ensures.counts;
  absent = counts_absent c.args.self.now.counts c.new.self.now.counts c.result c.ensures.counts;
  no_fault = counts_no_fault c.args.self.now.counts c.new.self.now.counts c.result c.ensures.counts;
  no_absence = counts_no_absence c.args.self.now.counts c.new.self.now.counts c.result c.ensures.counts;
  absent_alone = counts_absent_alone c.args.self.now.counts c.new.self.now.counts c.result c.ensures.counts;
  failed_alone = counts_failed_alone c.args.self.now.counts c.new.self.now.counts c.result c.ensures.counts;
  fits = c.ensures.fits;
  logs = c.ensures.logs;
}
