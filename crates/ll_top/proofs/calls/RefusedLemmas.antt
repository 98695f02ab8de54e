-- From a refusal to the status and the text of a call.
use Rattle.std.proofs.Common.{◌≡◌, ◌≤◌, ◌<◌, ℕ, refl, sym, subst, List, arith}
use Rattle.std.specs.Prelude.{Option, Err}
use Rattle.ll_edge.specs.Counts.{Rose}
use Rattle.ll_edge.specs.Texts.{Texts}
use Rattle.ll_edge.proofs.CallerLemmas.{Rose-later}
use Rattle.ll_top.specs.declared.texts.judge.Role.{Role}
use Rattle.ll_top.specs.declared.texts.judge.Role.TheVariants.{Program, Query, Proof}
use Rattle.ll_top.specs.declared.texts.refusing.TextRefusal.{TextRefusal}
use Rattle.ll_top.specs.declared.texts.refusing.Refusal.{Refusal}
use Rattle.ll_top.specs.declared.texts.refusing.Refusal.TheVariants.{Text, Unwritable, OutOfMemory}
use Rattle.ll_top.specs.texts.CallEnds.{Ends, unwritable, no_memory}
use Rattle.ll_top.specs.texts.Endings.{cause_of}
use Rattle.ll_top.specs.texts.Faults.{cause_status, fault_text}
use Rattle.ll_top.specs.texts.Outcome.{name_of, RunFails}
use Rattle.ll_top.specs.texts.Told.{ShelfTold, StatusTold, WritesBy}
use Rattle.ll_top.proofs.judging.OutcomeLemmas.{refuses-later, refused-ends}
use Rattle.ll_top.proofs.judging.ToldLemmas.{status-unwritable, status-memory, status-refused}
use Rattle.ll_top.specs.forms.Words.{RunWords, SessionWords, DeepenWords}
use Rattle.ll_top.specs.declared.run.Found.{Found}
use Rattle.ll_top.specs.Deepening.{DeepenComesTo, deepen_failed}
use Rattle.ll_top.specs.DeepenEnds.{first_run, DeepenRefuses}
use Rattle.ll_top.specs.Endings.{RunEnds, status_of_found}
use Rattle.ll_top.specs.Outcome.{status_of_run, text_of_run, RunComesTo, ran, failed}
use Rattle.ll_laws.specs.Output.{run_status}
use Rattle.ll_top.specs.forms.Making.{MadeRunWords}
use Rattle.ll_top.specs.MadeEnds.{MadeRunEnds}
use Rattle.ll_top.specs.MadeRuns.{MadeRunComesTo, last_line}
use Rattle.ll_top.specs.OwnEnds.{EndsOwn, NoneFails}
use Rattle.ll_top.specs.Refused.{named, EndsRefused}
use Rattle.ll_top.specs.SessionEnds.{name_in_session, RefusesText}
use Rattle.ll_top.specs.Sessions.{SessionFails, SessionComesTo, session_failed}
use Rattle.ll_top.proofs.calls.ProvedLemmas.{refused-past}

-- the names of a run's texts, and of a session's
run-named : (run : RunWords) (role : Role) → name_of run role ≡ named run.program run.query role
run-named run Program = refl
run-named run Query = refl
run-named run Proof = refl

session-named : (session : SessionWords) (role : Role) → name_in_session session role ≡ named session.program session.queries role
session-named session Program = refl
session-named session Query = refl
session-named session Proof = refl

-- a call that refuses something has no status of one that ended
pub refusal-past : (name : Role → List ℕ) (failed untouched : Type 0) (before after : Option (List ℕ)) (status : ℕ) (e : Refusal)
    → EndsRefused name failed untouched before after status e → status ≤ 2 → ⊥
refusal-past name w u before after status (Text role refusal) r small = refused-past (cause_of (name role) refusal) w before after status r small
refusal-past name w u before after status Unwritable r small = let s = r.0 in omega arith
refusal-past name w u before after status OutOfMemory r small = let s = r.0 in omega arith

-- its status tells the faults outside
pub refusal-told : {S K A : Type 0} (faults absences : S → ℕ) (write_faults : K → ℕ) (before after : S) (from middle to : K) (name : Role → List ℕ)
    (failed : Type 0) (told later : Option (List ℕ)) (status : ℕ) (e : Refusal)
    → ShelfTold {A = A} faults absences before after (Err e) → WritesBy (write_faults from) (write_faults middle) e
    → (write_faults middle < write_faults to → status ≡ 6) → EndsRefused name failed (to ≡ middle) told later status e
    → StatusTold faults absences write_faults before after from to status
refusal-told faults absences write_faults before after from middle to name w told later status (Text role refusal) h still f r =
    status-refused (name role) role refusal (cause_of (name role) refusal) w told later status h still f refl r
refusal-told faults absences write_faults before after from middle to name w told later status Unwritable h still f r =
    subst (λ n. StatusTold faults absences write_faults before after from to n) (sym r.0) status-unwritable
refusal-told faults absences write_faults before after from middle to name w told later status OutOfMemory h still f r =
    subst (λ n. StatusTold faults absences write_faults before after from to n) (sym r.0)
    (subst (λ k. StatusTold faults absences write_faults before after from k 10) (sym r.1) (status-memory h still))

pub refusal-write : (from middle to : ℕ) (name : Role → List ℕ) (failed untouched : Type 0) (told later : Option (List ℕ)) (status : ℕ) (e : Refusal)
    → WritesBy from middle e → (middle < to → status ≡ 6) → EndsRefused name failed untouched told later status e → from < to → status ≡ 6
refusal-write from middle to name w u told later status (Text role refusal) still f r more = f (omega arith)
refusal-write from middle to name w u told later status Unwritable still f r more = r.0
refusal-write from middle to name w u told later status OutOfMemory still f r more = f (omega arith)

-- it ends as one that comes to its cause, or that was cut off
module _ {S A : Type 0} (faults : S → ℕ) (written : S → Option (List ℕ)) (start middle after : S) (kept : faults start ≤ faults middle) (name : Role → List ℕ)
    (status : ℕ) where
  own-refused : (Comes : ℕ → List ℕ → Type 0) (status_of : A → ℕ) (Fails : Role → TextRefusal → Type 0) (e : Refusal)
      → ((role : Role) (refusal : TextRefusal) → Fails role refusal
      → Comes (cause_status (cause_of (name role) refusal)) (fault_text (cause_of (name role) refusal)))
      → EndsOwn Comes status_of Fails (Rose (faults start) (faults middle)) (written start) (written middle) (Err e)
      → EndsRefused name (Rose (faults middle) (faults after)) (after ≡ middle) (written middle) (written after) status e
      → Ends Comes (Rose (faults start) (faults after)) (written start) (written after) status
  own-refused Comes status_of Fails (Text role refusal) f h r =
      let cause = cause_of (name role) refusal in
      refused-ends Comes (Rose (faults start) (faults after)) (written start) (written middle) (written after) cause status (f role refusal h.0) h.1
      (refuses-later cause (Rose (faults middle) (faults after)) (Rose (faults start) (faults after)) (written middle) (written after) status
      (Rose-later (faults start) (faults middle) (faults after) kept) r)
  own-refused Comes status_of Fails Unwritable f h r =
      subst (λ s. Ends Comes (Rose (faults start) (faults s)) (written start) (written s) status) (sym r.1) (unwritable h.0 h.1 h.2 h.3 r.0 h.4)
  own-refused Comes status_of Fails OutOfMemory f h r =
      subst (λ s. Ends Comes (Rose (faults start) (faults s)) (written start) (written s) status) (sym r.1) (no_memory r.0 h)

module _ {S : Type 0} (faults : S → ℕ) (written : S → Option (List ℕ)) (start middle after : S) (kept : faults start ≤ faults middle) (status : ℕ)
    (told : Option Texts) (absence read_failed : List ℕ → Type 0) (e : Refusal) where
  -- a run
  pub run-refused : (run : RunWords) → RunEnds told absence read_failed (Rose (faults start) (faults middle)) run (written start) (written middle) (Err e)
      → EndsRefused (named run.program run.query) (Rose (faults middle) (faults after)) (after ≡ middle) (written middle) (written after) status e
      → Ends (RunComesTo told absence read_failed run) (Rose (faults start) (faults after)) (written start) (written after) status
  run-refused run h r = own-refused {A = Found} faults written start middle after kept (named run.program run.query) status
      (RunComesTo told absence read_failed run) status_of_found (λ role refusal. RunFails told absence read_failed run (cause_of (name_of run role) refusal)) e
      (λ role refusal f. let cause = cause_of (named run.program run.query role) refusal in
      failed cause (subst (λ n. RunFails told absence read_failed run (cause_of n refusal)) (run-named run role) f) refl refl) (own e h) r
    where
      own : (e : Refusal) → RunEnds told absence read_failed (Rose (faults start) (faults middle)) run (written start) (written middle) (Err e)
          → EndsOwn {A = Found} (RunComesTo told absence read_failed run) status_of_found
          (λ role refusal. RunFails told absence read_failed run (cause_of (name_of run role) refusal))
          (Rose (faults start) (faults middle)) (written start) (written middle) (Err e)
      own (Text role refusal) h = h
      own Unwritable h = (status_of_run run.first h.0, text_of_run run.first run.proofs h.0, ran h.0 h.1 refl refl, h.2, h.3)
      own OutOfMemory h = h

  -- a session
  pub session-refused : {A : Type 0} (status_of : A → ℕ) (session : SessionWords)
      → EndsOwn (SessionComesTo told absence read_failed session) status_of (RefusesText told absence read_failed session)
      (Rose (faults start) (faults middle)) (written start) (written middle) (Err e)
      → EndsRefused (named session.program session.queries) (Rose (faults middle) (faults after)) (after ≡ middle) (written middle) (written after) status e
      → Ends (SessionComesTo told absence read_failed session) (Rose (faults start) (faults after)) (written start) (written after) status
  session-refused status_of session h r = own-refused faults written start middle after kept (named session.program session.queries) status
      (SessionComesTo told absence read_failed session) status_of (RefusesText told absence read_failed session) e
      (λ role refusal f. let cause = cause_of (named session.program session.queries role) refusal in
      session_failed cause (subst (λ n. SessionFails told absence read_failed session (cause_of n refusal)) (session-named session role) f) refl refl) h r

  -- a deepening
  pub deepen-refused : (deepen : DeepenWords) → EndsOwn {A = Found} (DeepenComesTo told absence read_failed deepen) status_of_found
      (DeepenRefuses told absence read_failed deepen) (Rose (faults start) (faults middle)) (written start) (written middle) (Err e)
      → EndsRefused (named deepen.program deepen.query) (Rose (faults middle) (faults after)) (after ≡ middle) (written middle) (written after) status e
      → Ends (DeepenComesTo told absence read_failed deepen) (Rose (faults start) (faults after)) (written start) (written after) status
  deepen-refused deepen h r = own-refused faults written start middle after kept (named deepen.program deepen.query) status
      (DeepenComesTo told absence read_failed deepen) status_of_found (DeepenRefuses told absence read_failed deepen) e
      (λ role refusal f. let cause = cause_of (named deepen.program deepen.query role) refusal in
      deepen_failed cause (subst (λ n. RunFails told absence read_failed (first_run deepen) (cause_of n refusal))
      (run-named (first_run deepen) role) f) refl refl)
      h r

-- a run of a program that is made, which has no fault
pub made-refused : {S : Type 0} (faults : S → ℕ) (written : S → Option (List ℕ)) (start middle after : S) → faults start ≤ faults middle
    → (name : Role → List ℕ) (status : ℕ) (run : MadeRunWords) (e : Refusal)
    → MadeRunEnds (Rose (faults start) (faults middle)) run (written start) (written middle) (Err e)
    → EndsRefused name (Rose (faults middle) (faults after)) (after ≡ middle) (written middle) (written after) status e
    → Ends (MadeRunComesTo run) (Rose (faults start) (faults after)) (written start) (written after) status
made-refused faults written start middle after kept name status run e h r =
    own-refused {A = Found} faults written start middle after kept name status (MadeRunComesTo run) status_of_found NoneFails e (λ role refusal f. absurd f)
    (own e h) r
  where
    own : (e : Refusal) → MadeRunEnds (Rose (faults start) (faults middle)) run (written start) (written middle) (Err e)
        → EndsOwn {A = Found} (MadeRunComesTo run) status_of_found NoneFails (Rose (faults start) (faults middle)) (written start) (written middle) (Err e)
    own (Text role refusal) h = absurd h
    own Unwritable h =
        (run_status h.0, last_line h.0, record { problem = h.0; asks = h.1; status_is = refl; is = refl }, h.2, h.3)
    own OutOfMemory h = h
