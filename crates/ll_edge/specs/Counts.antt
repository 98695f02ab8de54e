-- Counts of what went wrong outside: they never fall, and stop at the end of their 64 bits.
use Rattle.std.specs.Prelude.{◌≡◌, ℕ, ◌+◌, ◌<◌, ◌⊎◌, ◌==◌, ◌&&◌, nat_lt, min, if◌then◌else◌, List, length, Result, Ok, Err}
use Rattle.ll_edge.specs.declared.shelf.Got.{Got}
use Rattle.ll_edge.specs.declared.shelf.Got.TheVariants.{Bytes, Absent, Failed}
use Rattle.ll_edge.specs.declared.sink.WriteFailed.{WriteFailed}

-- the greatest count
abbrev pub last_count : ℕ
last_count = 18446744073709551615

-- the count rose: it is greater after than before, or stands at the greatest count
abbrev pub Rose : ℕ → ℕ → Type 0
Rose before after = (before < after) ⊎ (after ≡ last_count)

-- the count one higher, where that is possible
abbrev pub counted_up : ℕ → ℕ
counted_up count = min (count + 1) last_count

-- what a shelf counts: the calls that failed, and those that found no text of the name
pub record Counts : Type 0 where
  pub faults : ℕ
  pub absences : ℕ

-- a shelf's counts after this answer
abbrev pub counts_after : Counts → Got → Counts
counts_after counts (Bytes n) = counts
counts_after counts Absent = record counts { absences = counted_up counts.absences }
counts_after counts Failed = record counts { faults = counted_up counts.faults }

-- a sink's count after this answer to a piece: a refusal is a fault, and so is to take nothing of a piece that is not empty
abbrev pub faults_after : ℕ → List ℕ → Result ℕ WriteFailed → ℕ
faults_after faults piece (Ok n) = if n == 0 && nat_lt 0 (length piece) then counted_up faults else faults
faults_after faults piece (Err refusal) = counted_up faults
