use Rattle.std.proofs.Common.{◌≡◌, ℕ, ◌+◌, List, length, refl, arith, ap, Err}
use Rattle.ll_edge.specs.Log.{Reads, Hands, NoText, Unreadable}
use Rattle.ll_edge.proofs.CallerLemmas.{ended_reads, told_whole, told_absent, told_longer}
use Rattle.ll_top.proofs.texts.preparing.read.Goals as goal

pub returns-in-Ok-clause-refused : goal.returns-in-Ok-clause-refused
returns-in-Ok-clause-refused g c = _

pub returns-in-Err-Absent-clause-read : goal.returns-in-Err-Absent-clause-read
returns-in-Err-Absent-clause-read g c = _

pub returns-in-Err-Failed-clause-read : goal.returns-in-Err-Failed-clause-read
returns-in-Err-Failed-clause-read g c = _

pub returns-in-Err-TooLong-clause-read : goal.returns-in-Err-TooLong-clause-read
returns-in-Err-TooLong-clause-read g c = _

pub returns-in-Err-OutOfMemory-clause-read : goal.returns-in-Err-OutOfMemory-clause-read
returns-in-Err-OutOfMemory-clause-read g c = _

pub returns-in-Err-OutOfMemory-clause-refused : goal.returns-in-Err-OutOfMemory-clause-refused
returns-in-Err-OutOfMemory-clause-refused g c = _

pub returns-in-Ok-clause-kept : goal.returns-in-Ok-clause-kept
returns-in-Ok-clause-kept g c = c.read_text.ensures.kept

pub returns-in-Err-Absent-clause-kept : goal.returns-in-Err-Absent-clause-kept
returns-in-Err-Absent-clause-kept g c = c.read_text.ensures.kept

pub returns-in-Err-Failed-clause-kept : goal.returns-in-Err-Failed-clause-kept
returns-in-Err-Failed-clause-kept g c = c.read_text.ensures.kept

pub returns-in-Err-TooLong-clause-kept : goal.returns-in-Err-TooLong-clause-kept
returns-in-Err-TooLong-clause-kept g c = c.read_text.ensures.kept

pub returns-in-Err-OutOfMemory-clause-kept : goal.returns-in-Err-OutOfMemory-clause-kept
returns-in-Err-OutOfMemory-clause-kept g c = c.read_text.ensures.kept

pub returns-in-Ok-clause-read : goal.returns-in-Ok-clause-read
returns-in-Ok-clause-read g c = λ told fits. record {
  found = told_whole told fits c.in-Ok.ensures.reading;
  within = omega
      (arith, c.in-Ok.ensures.within_limit, c.in-Ok.text.ok);
}

ends-absent : (g : _) (c : goal.In-Err-Absent g)
    → (bytes : List ℕ) × Reads c.args.name.now (g.F.Shelf.log c.args.shelf.now) (g.F.Shelf.log c.read_text.new.shelf) bytes NoText
ends-absent g c = rw c.in-Err-Absent.field-0-is at c.in-Err-Absent.ensures.reading

ends-failed : (g : _) (c : goal.In-Err-Failed g)
    → (bytes : List ℕ) × Reads c.args.name.now (g.F.Shelf.log c.args.shelf.now) (g.F.Shelf.log c.read_text.new.shelf) bytes Unreadable
ends-failed g c = rw c.in-Err-Failed.field-0-is at c.in-Err-Failed.ensures.reading

ends-longer : (g : _) (c : goal.In-Err-TooLong g)
    → (bytes : List ℕ) × Hands c.args.name.now (g.F.Shelf.log c.args.shelf.now) (g.F.Shelf.log c.read_text.new.shelf) bytes × (length bytes ≡ 16777216 + 1)
ends-longer g c = rw c.in-Err-TooLong.field-0-is at c.in-Err-TooLong.ensures.reading

pub returns-in-Ok-clause-reads : goal.returns-in-Ok-clause-reads
returns-in-Ok-clause-reads g c = c.in-Ok.ensures.reading

pub returns-in-Err-Absent-clause-reads : goal.returns-in-Err-Absent-clause-reads
returns-in-Err-Absent-clause-reads g c = _

pub returns-in-Err-Failed-clause-reads : goal.returns-in-Err-Failed-clause-reads
returns-in-Err-Failed-clause-reads g c = _

pub returns-in-Err-TooLong-clause-reads : goal.returns-in-Err-TooLong-clause-reads
returns-in-Err-TooLong-clause-reads g c = _

pub returns-in-Err-OutOfMemory-clause-reads : goal.returns-in-Err-OutOfMemory-clause-reads
returns-in-Err-OutOfMemory-clause-reads g c = _

pub returns-in-Err-Absent-clause-refused : goal.returns-in-Err-Absent-clause-refused
returns-in-Err-Absent-clause-refused g c =
    let ended = ends-absent g c in λ told fits.
    (refl, (record { rose = c.in-Err-Absent.ensures.absent (ap Err c.in-Err-Absent.field-0-is); ended = ended_reads ended.1 }, told_absent told fits ended.1))

pub returns-in-Err-Failed-clause-refused : goal.returns-in-Err-Failed-clause-refused
returns-in-Err-Failed-clause-refused g c =
    let ended = ends-failed g c in λ told fits.
    (refl, record { rose = c.in-Err-Failed.ensures.failed (ap Err c.in-Err-Failed.field-0-is); ended = ended_reads ended.1 })

pub returns-in-Err-TooLong-clause-refused : goal.returns-in-Err-TooLong-clause-refused
returns-in-Err-TooLong-clause-refused g c = let ended = ends-longer g c in λ told fits. (refl, told_longer told 16777216 fits ended.1 ended.2)

pub returns-in-Ok-clause-shelf_told : goal.returns-in-Ok-clause-shelf_told
returns-in-Ok-clause-shelf_told g c = record { faults_told = c.in-Ok.ensures.failed_alone; absences_told = c.in-Ok.ensures.absent_alone }

pub returns-in-Err-Absent-clause-shelf_told : goal.returns-in-Err-Absent-clause-shelf_told
returns-in-Err-Absent-clause-shelf_told g c = record {
  faults_told = rw c.in-Err-Absent.field-0-is at c.in-Err-Absent.ensures.failed_alone;
  absences_told = tt;
}

pub returns-in-Err-Failed-clause-shelf_told : goal.returns-in-Err-Failed-clause-shelf_told
returns-in-Err-Failed-clause-shelf_told g c = record {
  faults_told = tt;
  absences_told = rw c.in-Err-Failed.field-0-is at c.in-Err-Failed.ensures.absent_alone;
}

pub returns-in-Err-TooLong-clause-shelf_told : goal.returns-in-Err-TooLong-clause-shelf_told
returns-in-Err-TooLong-clause-shelf_told g c = record {
  faults_told = rw c.in-Err-TooLong.field-0-is at c.in-Err-TooLong.ensures.failed_alone;
  absences_told = rw c.in-Err-TooLong.field-0-is at c.in-Err-TooLong.ensures.absent_alone;
}

pub returns-in-Err-OutOfMemory-clause-shelf_told : goal.returns-in-Err-OutOfMemory-clause-shelf_told
returns-in-Err-OutOfMemory-clause-shelf_told g c = record {
  faults_told = rw c.in-Err-OutOfMemory.field-0-is at c.in-Err-OutOfMemory.ensures.failed_alone;
  absences_told = rw c.in-Err-OutOfMemory.field-0-is at c.in-Err-OutOfMemory.ensures.absent_alone;
}
