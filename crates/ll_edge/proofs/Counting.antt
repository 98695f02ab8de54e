-- What the counts of a shelf and a sink say of an answer.
use Rattle.std.proofs.Common.{◌≡◌, ℕ, ◌<◌, ◌≤◌, List, Result, Ok, Err, length, inl, inr, refl, ap, arith, IfOk, OnErr}
use Rattle.std.proofs.lemmas.Bool.{cases_lt}
use Rattle.std.proofs.lemmas.Bool.Decides.{nat_tests}
use Rattle.ll_edge.specs.Counts.{last_count, Rose, counted_up, Counts, counts_after, faults_after}
use Rattle.ll_edge.specs.Texts.{IfBytes}
use Rattle.ll_edge.specs.declared.shelf.Got.{Got}
use Rattle.ll_edge.specs.declared.shelf.Got.TheVariants.{Bytes, Absent, Failed}
use Rattle.ll_edge.specs.declared.sink.WriteFailed.{WriteFailed}

-- a count that goes one higher rose
pub Rose-counted_up : (count : ℕ) → Rose count (counted_up count)
Rose-counted_up count =
    elim (cases_lt count last_count) [ inl below ↦ inl (omega arith) | inr past ↦ inr (omega arith) ]

-- a count that rose at the end of several calls rose in all of them
pub Rose-later : (first before after : ℕ) → first ≤ before → Rose before after → Rose first after
Rose-later first before after kept (inl more) = inl (omega arith)
Rose-later first before after kept (inr last) = inr last

pub counts_failed : (before after : Counts) (answer : Got) → after ≡ counts_after before answer → answer ≡ Failed → Rose before.faults after.faults
counts_failed before after answer e failed = rw (e, failed) (Rose-counted_up before.faults)

pub counts_absent : (before after : Counts) (answer : Got) → after ≡ counts_after before answer → answer ≡ Absent → Rose before.absences after.absences
counts_absent before after answer e absent = rw (e, absent) (Rose-counted_up before.absences)

pub faults_none_taken : (before after : ℕ) (piece : List ℕ) (answer : Result ℕ WriteFailed) → after ≡ faults_after before piece answer
    → IfOk answer (λ n. n ≡ 0 → 0 < length piece → Rose before after)
faults_none_taken before after piece (Err refusal) e = tt
faults_none_taken before after piece (Ok n) e =
    λ none some. let counted : after ≡ counted_up before = grind (arith, nat_tests) in rw counted (Rose-counted_up before)

pub faults_failed : (before after : ℕ) (piece : List ℕ) (answer : Result ℕ WriteFailed) → after ≡ faults_after before piece answer
    → OnErr answer (Rose before after)
faults_failed before after piece (Ok n) e = tt
faults_failed before after piece (Err refusal) e = rw e (Rose-counted_up before)

-- an answer of bytes counts nothing
pub counts_no_fault : (before after : Counts) (answer : Got) → after ≡ counts_after before answer → IfBytes answer (λ _. after.faults ≡ before.faults)
counts_no_fault before after (Bytes n) e = ap (λ c. c.faults) e
counts_no_fault before after Absent e = tt
counts_no_fault before after Failed e = tt

pub counts_no_absence : (before after : Counts) (answer : Got) → after ≡ counts_after before answer → IfBytes answer (λ _. after.absences ≡ before.absences)
counts_no_absence before after (Bytes n) e = ap (λ c. c.absences) e
counts_no_absence before after Absent e = tt
counts_no_absence before after Failed e = tt

-- nor does an absence count a fault, or a failure an absence
pub counts_absent_alone : (before after : Counts) (answer : Got) → after ≡ counts_after before answer → answer ≡ Absent → after.faults ≡ before.faults
counts_absent_alone before after answer e absent = rw (e, absent) refl

pub counts_failed_alone : (before after : Counts) (answer : Got) → after ≡ counts_after before answer → answer ≡ Failed
    → after.absences ≡ before.absences
counts_failed_alone before after answer e failed = rw (e, failed) refl

-- an answer that takes some of a piece counts nothing
pub faults_some_taken : (before after : ℕ) (piece : List ℕ) (answer : Result ℕ WriteFailed) → after ≡ faults_after before piece answer
    → IfOk answer (λ n. 0 < n → after ≡ before)
faults_some_taken before after piece (Err refusal) e = tt
faults_some_taken before after piece (Ok n) e = λ some. grind (arith, nat_tests)
