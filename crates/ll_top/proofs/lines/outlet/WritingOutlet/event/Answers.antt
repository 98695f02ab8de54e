use Rattle.ll_top.proofs.writing.WaitingLemmas.{err_on}
use Rattle.std.proofs.Common.{refl, inl, le_refl}
use Rattle.ll_edge.proofs.CallerLemmas.{no_front}
use Rattle.ll_top.proofs.lines.outlet.WritingOutlet.event.Goals as goal

pub returns-in_default-clause-refused : goal.returns-in_default-clause-refused
returns-in_default-clause-refused g c =
    record { same = record { problem = refl; proofs = refl; lent = refl; faults = le_refl _; tells = inl (refl, refl) }; written = no_front _ _ }

pub returns-in_default-clause-taken : goal.returns-in_default-clause-taken
returns-in_default-clause-taken g c = _

pub returns-in_default-write_all-clause-taken : goal.returns-in_default-write_all-clause-taken
returns-in_default-write_all-clause-taken g c = _

pub returns-clause-refused : goal.returns-clause-refused
returns-clause-refused g c = _

pub write-made-requires-clause-valid : goal.write-made-requires-clause-valid
write-made-requires-clause-valid g c = c.requires.0.valid

pub write-made-requires-clause-found : goal.write-made-requires-clause-found
write-made-requires-clause-found g c = c.requires.0.among

pub write-made-requires-clause-all : goal.write-made-requires-clause-all
write-made-requires-clause-all g c = c.requires.0.all

pub returns-in_default-clause-faults_kept : goal.returns-in_default-clause-faults_kept
returns-in_default-clause-faults_kept g c = le_refl _

pub returns-in_default-write_all-clause-faults_kept : goal.returns-in_default-write_all-clause-faults_kept
returns-in_default-write_all-clause-faults_kept g c = c.write_all.ensures.faults_kept

pub returns-clause-faults_kept : goal.returns-clause-faults_kept
returns-clause-faults_kept g c = c.write_all.ensures.faults_kept

pub returns-in_default-clause-welcome_kept : goal.returns-in_default-clause-welcome_kept
returns-in_default-clause-welcome_kept g c = λ e. (λ h. h, λ h. h)

pub returns-in_default-write_all-clause-welcome_kept : goal.returns-in_default-write_all-clause-welcome_kept
returns-in_default-write_all-clause-welcome_kept g c = λ e. (λ h. h, λ h. h)

pub returns-clause-welcome_kept : goal.returns-clause-welcome_kept
returns-clause-welcome_kept g c = λ e. (λ h. h, λ h. h)

pub returns-in_default-write_all-clause-write : goal.returns-in_default-write_all-clause-write
returns-in_default-write_all-clause-write g c = λ _. c.in_default-write_all.ensures.failed

pub returns-clause-write : goal.returns-clause-write
returns-clause-write g c = λ e. err_on _ _ e tt

pub returns-in_default-clause-quiet : goal.returns-in_default-clause-quiet
returns-in_default-clause-quiet g c = λ _. refl

pub returns-in_default-write_all-clause-quiet : goal.returns-in_default-write_all-clause-quiet
returns-in_default-write_all-clause-quiet g c = λ other. absurd (other refl)

pub returns-clause-quiet : goal.returns-clause-quiet
returns-clause-quiet g c = λ _. c.in-Ok-write_all.ensures.no_fault
