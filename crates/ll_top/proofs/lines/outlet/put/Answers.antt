use Rattle.ll_top.proofs.writing.WaitingLemmas.{err_on, err_cause, fault_is, out_of_memory_apart}
use Rattle.ll_top.proofs.writing.RunLemmas.{on_ok_map, on_err_map}
use Rattle.std.proofs.lemmas.List.{append-nil}
use Rattle.std.proofs.Common.{sym, [], le_refl, ◌++◌, ap, ◌∙◌}
use Rattle.ll_edge.proofs.CallerLemmas.{append_known-nil, first-cut}
use Rattle.ll_top.proofs.lines.outlet.put.Goals as goal

pub returns-then-len-lt-FULL-clause-put : goal.returns-then-len-lt-FULL-clause-put
returns-then-len-lt-FULL-clause-put g c = record {
  flushed = [];
  written = sym (append_known-nil _);
  order = c.in-Ok.ensures.items;
}

pub returns-in_default-clause-put : goal.returns-in_default-clause-put
returns-in_default-clause-put g c = _

pub returns-then-len-lt-FULL-clause-none : goal.returns-then-len-lt-FULL-clause-none
returns-then-len-lt-FULL-clause-none g c = _

pub returns-then-len-lt-FULL-clause-cut : goal.returns-then-len-lt-FULL-clause-cut
returns-then-len-lt-FULL-clause-cut g c = _

pub returns-in_default-clause-faults_kept : goal.returns-in_default-clause-faults_kept
returns-in_default-clause-faults_kept g c = c.refuse.ensures.faults_kept

pub returns-in_default-clause-none : goal.returns-in_default-clause-none
returns-in_default-clause-none g c = c.refuse.ensures.none

pub returns-in_default-clause-cut : goal.returns-in_default-clause-cut
returns-in_default-clause-cut g c = first-cut _ _ _ _ (rw c.in_default.ensures.items at c.refuse.ensures.cut)

pub returns-in_default-clause-write : goal.returns-in_default-clause-write
returns-in_default-clause-write g c = λ e. c.refuse.ensures.write (fault_is _ _ e)

pub returns-then-len-lt-FULL-clause-faults_kept : goal.returns-then-len-lt-FULL-clause-faults_kept
returns-then-len-lt-FULL-clause-faults_kept g c = le_refl _

pub returns-clause-faults_kept : goal.returns-clause-faults_kept
returns-clause-faults_kept g c = c.write_waiting.ensures.faults_kept

pub returns-clause-put : goal.returns-clause-put
returns-clause-put g c =
    on_ok_map c.write_waiting.result _ _ c.write_waiting.ensures.written (λ written. record {
      flushed = c.extend_from_slice.new.self.items;
      written = written;
      order = ap (λ left. c.extend_from_slice.new.self.items ++ left) c.write_waiting.ensures.none ∙ (append-nil _ ∙ c.in-Ok.ensures.items);
    })

pub returns-clause-none : goal.returns-clause-none
returns-clause-none g c = on_err_map c.write_waiting.result _ _ c.write_waiting.ensures.write (λ _. c.write_waiting.ensures.none)

pub returns-clause-cut : goal.returns-clause-cut
returns-clause-cut g c = on_err_map c.write_waiting.result _ _ c.write_waiting.ensures.cut (λ both. rw c.in-Ok.ensures.items at both.1)

pub returns-clause-write : goal.returns-clause-write
returns-clause-write g c = λ e. err_on _ _ e c.write_waiting.ensures.write

pub returns-then-len-lt-FULL-clause-write : goal.returns-then-len-lt-FULL-clause-write
returns-then-len-lt-FULL-clause-write g c = λ e. err_on _ _ e tt

pub returns-in_default-clause-memory : goal.returns-in_default-clause-memory
returns-in_default-clause-memory g c = λ e. (c.refuse.ensures.memory (fault_is _ _ e)).0

pub returns-clause-memory : goal.returns-clause-memory
returns-clause-memory g c = λ e. out_of_memory_apart (err_cause _ _ _ e c.write_waiting.ensures.cause)

pub returns-then-len-lt-FULL-clause-memory : goal.returns-then-len-lt-FULL-clause-memory
returns-then-len-lt-FULL-clause-memory g c = λ e. err_on _ _ e tt
