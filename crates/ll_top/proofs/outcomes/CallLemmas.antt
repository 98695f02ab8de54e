-- What a call comes to, from the way its command ended, and what that says.
use Rattle.std.proofs.Common.{◌≡◌, ◌⊎◌, ◌≤◌, ℕ, refl, ap, sym, subst, ◌∙◌, Bool, true, false, List, [], ◌∷◌, inl, inr, arith}
use Rattle.std.specs.Prelude.{Option, None, Some, is_some, IfSome, if◌then◌else◌}
use Rattle.std.specs.Io.KnownBytes.{append_known}
use Rattle.std.specs.List.{list_any}
use Rattle.ll_edge.specs.Texts.{Texts}
use Rattle.ll_laws.specs.Problem.{ProblemTree, problem_events}
use Rattle.ll_laws.specs.Search.{is_answer, is_reached}
use Rattle.ll_laws.specs.Output.{run_status, status_by}
use Rattle.ll_top.specs.forms.Words.{RunWords, SessionWords, DeepenWords, CheckWords, ConvertWords, FitsForm, cover_form, IsCheckForm, IsInForm}
use Rattle.ll_top.specs.forms.Words.{IsRun, IsSession}
use Rattle.ll_top.specs.forms.Words.{IsDeepen, IsPrint, IsCheck, IsConvert, IsMake, IsMadeRun, IsBadWord}
use Rattle.ll_top.proofs.verdicts.ProvedLemmas.{cause-not-zero}
use Rattle.ll_top.specs.Making.{MakeComesTo}
use Rattle.ll_top.specs.forms.Making.{MakeWords, MadeRunWords}
use Rattle.ll_top.specs.MadeRuns.{MadeRunComesTo}
use Rattle.ll_top.specs.texts.Faults.{Cause, Usage, Absent, Unreadable, Oversized, OversizedAs, Faulty, fault_text, cause_status}
use Rattle.ll_top.specs.texts.Outcome.{AnyName, NoName, ReadFails, absent as is_absent, unreadable as is_unreadable, oversized as is_oversized}
use Rattle.ll_top.specs.texts.Outcome.{run_texts, RunFails}
use Rattle.ll_top.specs.texts.Outcome.{not_read, faulty, PrintFails, source_not_read, faulty_source, PrintComesTo, printed, print_failed, RunAsks}
use Rattle.ll_top.specs.Outcome.{RunComesTo, ran, failed, front_events, status_of_run, text_of_run, whole_text}
use Rattle.ll_top.specs.checks.Outcome.{name_in_check, check_texts, CheckFails, texts_not_read, faulty_text, CheckComesTo, shown, refuted, covered, too_long}
use Rattle.ll_top.specs.checks.Outcome.{counting, check_failed, IsDenied, IsCoveredCall, IsUncoveredCall}
use Rattle.ll_top.specs.Sessions.{SessionFails, session_not_read, faulty_program, SessionComesTo, replied, session_failed}
use Rattle.ll_top.specs.Deepening.{run_within, DeepenComesTo, deepened, deepen_failed}
use Rattle.ll_top.specs.texts.Converting.{ConvertFails, proof_not_read, faulty_proof, too_long_as, ConvertComesTo, converted, convert_failed}
use Rattle.ll_top.specs.Calls.{ComesTo, misused, runs, sessions, deepens, prints, checks, converts, makes, runs_made, Completes, Headline}
use Rattle.ll_top.specs.texts.CallEnds.{AppendsOwn, nothing, front, Ends, whole, unwritable, no_memory}
use Rattle.ll_top.specs.texts.Endings.{Refuses, line, cut}
use Rattle.ll_top.specs.forms.CommandKinds.{Kind, nothing as no_kind, a_run, a_session, a_deepening, a_print, a_check, a_conversion, a_make}
use Rattle.ll_top.specs.forms.CommandKinds.{a_made_run, kind_of}
use Rattle.ll_top.proofs.wording.FirstWords.{run-kind, session-kind, deepen-kind, print-kind, cover-kind, checked-kind}
use Rattle.ll_top.proofs.wording.FirstWords.{convert-kind, make-kind, made-run-kind, checked-in-form, check-not-cover, bad-not-in-form}
use Rattle.ll_top.proofs.wording.FirstWords.{run-in-form, session-in-form, deepen-in-form, print-in-form, convert-in-form, make-in-form, made-run-in-form}

-- what a call appends of its own, with more causes or another text
pub own-more : (Comes Other : ℕ → List ℕ → Type 0) (before after : Option (List ℕ)) → ((s : ℕ) (t : List ℕ) → Comes s t → Other s t)
    → AppendsOwn Comes before after → AppendsOwn Other before after
own-more Comes Other before after f (nothing e) = nothing e
own-more Comes Other before after f (front s t c a) = front s t (f s t c) a

-- ---- from a command to the call

-- what its command comes to, a call comes to
pub ends-as : (Comes Other : ℕ → List ℕ → Type 0) → ((s : ℕ) (t : List ℕ) → Comes s t → Other s t)
    → (write_failed : Type 0) (before after : Option (List ℕ)) (status : ℕ) → Ends Comes write_failed before after status
    → Ends Other write_failed before after status
ends-as Comes Other f w before after status (whole text c a) = whole text (f status text c) a
ends-as Comes Other f w before after status (unwritable meant text c h s a) = unwritable meant text (f meant text c) h s a
ends-as Comes Other f w before after status (no_memory s a) = no_memory s (own-more Comes Other before after f a)

module _ (words : List (List ℕ)) (told : Option Texts) (absence read_failed : List ℕ → Type 0) (write_failed : Type 0) (before after : Option (List ℕ))
    (status : ℕ) where
  abbrev pub CallEnds : Type 0
  CallEnds = Ends (ComesTo words told absence read_failed) write_failed before after status

  pub run-call : (run : RunWords) → IsRun words run → Ends (RunComesTo told absence read_failed run) write_failed before after status → CallEnds
  run-call run r h = ends-as (RunComesTo told absence read_failed run) (ComesTo words told absence read_failed) (λ s t c. runs run r c) write_failed before
      after status h

  pub session-call : (session : SessionWords) → IsSession words session
      → Ends (SessionComesTo told absence read_failed session) write_failed before after status → CallEnds
  session-call session r h = ends-as (SessionComesTo told absence read_failed session) (ComesTo words told absence read_failed) (λ s t c. sessions session r c)
      write_failed before after status h

  pub deepen-call : (deepen : DeepenWords) → IsDeepen words deepen → Ends (DeepenComesTo told absence read_failed deepen) write_failed before after status
      → CallEnds
  deepen-call deepen r h = ends-as (DeepenComesTo told absence read_failed deepen) (ComesTo words told absence read_failed) (λ s t c. deepens deepen r c)
      write_failed before after status h

  pub print-call : (name : List ℕ) → IsPrint words name → Ends (PrintComesTo told absence read_failed name) write_failed before after status → CallEnds
  print-call name p h = ends-as (PrintComesTo told absence read_failed name) (ComesTo words told absence read_failed) (λ s t c. prints name p c) write_failed
      before after status h

  pub check-call : (check : CheckWords) → IsCheck words check → Ends (CheckComesTo told absence read_failed check) write_failed before after status → CallEnds
  check-call check r h = ends-as (CheckComesTo told absence read_failed check) (ComesTo words told absence read_failed) (λ s t c. checks check r c) write_failed
      before after status h

  pub convert-call : (convert : ConvertWords) → IsConvert words convert
      → Ends (ConvertComesTo told absence read_failed convert) write_failed before after status → CallEnds
  convert-call convert r h = ends-as (ConvertComesTo told absence read_failed convert) (ComesTo words told absence read_failed) (λ s t c. converts convert r c)
      write_failed before after status h

  pub make-call : (make : MakeWords) → IsMake words make → Ends (MakeComesTo make) write_failed before after status → CallEnds
  make-call make r h = ends-as (MakeComesTo make) (ComesTo words told absence read_failed) (λ s t c. makes make r c) write_failed before after status h

  pub made-run-call : (run : MadeRunWords) → IsMadeRun words run → Ends (MadeRunComesTo run) write_failed before after status → CallEnds
  made-run-call run r h = ends-as (MadeRunComesTo run) (ComesTo words told absence read_failed) (λ s t c. runs_made run r c) write_failed before after status h

  -- words in no form
  pub usage-call : (number : ℕ) → IsBadWord words number → Refuses (Usage number) write_failed before after status → CallEnds
  usage-call number b (line s a) = whole (fault_text (Usage number)) (misused number b s refl) a
  usage-call number b (cut s w a) = unwritable 3 (fault_text (Usage number)) (misused number b refl refl) w s a

-- ---- which command

module _ (words : List (List ℕ)) (told : Option Texts) (absence read_failed : List ℕ → Type 0) (status : ℕ) (text : List ℕ) where
  abbrev pub is_misuse : ComesTo words told absence read_failed status text → Bool
  is_misuse (misused n b s t) = true
  is_misuse c = false

  abbrev pub comes_kind : ComesTo words told absence read_failed status text → Kind
  comes_kind (misused n b s t) = no_kind
  comes_kind (runs run r c) = a_run
  comes_kind (sessions session r c) = a_session
  comes_kind (deepens deepen r c) = a_deepening
  comes_kind (prints name r c) = a_print
  comes_kind (checks check r c) = a_check
  comes_kind (converts convert r c) = a_conversion
  comes_kind (makes make r c) = a_make
  comes_kind (runs_made run r c) = a_made_run

  pub comes-kind : (c : ComesTo words told absence read_failed status text) → is_misuse c ≡ false → kind_of words ≡ comes_kind c
  comes-kind (misused n b s t) h = cc
  comes-kind (runs run r c) h = run-kind words r.form
  comes-kind (sessions session r c) h = session-kind words r.form
  comes-kind (deepens deepen r c) h = deepen-kind words r.form
  comes-kind (prints name r c) h = print-kind words r.form
  comes-kind (checks check r c) h = checked-kind words check.bound r.form
  comes-kind (converts convert r c) h = convert-kind words r.form
  comes-kind (makes make r c) h = make-kind words make.kind r.form
  comes-kind (runs_made run r c) h = made-run-kind words run.make.kind r.form

  pub comes-in-form : (c : ComesTo words told absence read_failed status text) → is_misuse c ≡ false → IsInForm words
  comes-in-form (misused n b s t) h = cc
  comes-in-form (runs run r c) h = run-in-form words r.form
  comes-in-form (sessions session r c) h = session-in-form words r.form
  comes-in-form (deepens deepen r c) h = deepen-in-form words r.form
  comes-in-form (prints name r c) h = print-in-form words r.form
  comes-in-form (checks check r c) h = checked-in-form words check.bound r.form
  comes-in-form (converts convert r c) h = convert-in-form words r.form
  comes-in-form (makes make r c) h = make-in-form words make.kind r.form
  comes-in-form (runs_made run r c) h = made-run-in-form words run.make.kind r.form

-- ---- statuses

small-status : (a r : Bool) → status_by a r ≤ 2
small-status true r = omega arith
small-status false true = omega arith
small-status false false = omega arith

pub run-small : (p : ProblemTree) → run_status p ≤ 2
run-small p = small-status (list_any is_answer (problem_events p)) (list_any is_reached (problem_events p))

run-of-small : (first : Option ℕ) (p : ProblemTree) → status_of_run first p ≤ 2
run-of-small first p = by_end (is_some (front_events first p)) (run-small p)
  where
    by_end : (b : Bool) → run_status p ≤ 2 → (if b then 0 else run_status p) ≤ 2
    by_end true h = omega arith
    by_end false h = h

-- what a status says of a command
record Says (absence read_failed : List ℕ → Type 0) (status : ℕ) : Type 0 where
  used : status ≡ 3 → ⊥
  absent : status ≡ 4 → (name : List ℕ) × absence name
  unreadable : status ≡ 5 → (name : List ℕ) × read_failed name
  cut_off : status ≡ 6 → ⊥

-- and of one that judges no derivation
record Unjudged (absence read_failed : List ℕ → Type 0) (status : ℕ) : Type 0 where
  says : Says absence read_failed status
  undenied : status ≡ 9 → ⊥
  uncounted : status ≡ 11 → ⊥

module _ (told : Option Texts) (absence read_failed : List ℕ → Type 0) where
  small-says : (status : ℕ) → status ≤ 2 → Unjudged absence read_failed status
  small-says status l = record {
    says = record { used = λ e. omega arith; absent = λ e. absurd (omega arith); unreadable = λ e. absurd (omega arith); cut_off = λ e. omega arith };
    undenied = λ e. omega arith;
    uncounted = λ e. omega arith;
  }

  fault-says : (status : ℕ) → 7 ≤ status → status ≤ 8 → Unjudged absence read_failed status
  fault-says status l g = record {
    says = record { used = λ e. omega arith; absent = λ e. absurd (omega arith); unreadable = λ e. absurd (omega arith); cut_off = λ e. omega arith };
    undenied = λ e. omega arith;
    uncounted = λ e. omega arith;
  }

  unread-says : (names : List (List ℕ)) (cause : Cause) → ReadFails told absence read_failed names cause → Unjudged absence read_failed (cause_status cause)
  unread-says names (Absent name) (is_absent n r a f) = record {
    says = record { used = λ e. omega arith; absent = λ e. (n, a); unreadable = λ e. absurd (omega arith); cut_off = λ e. omega arith };
    undenied = λ e. omega arith;
    uncounted = λ e. omega arith;
  }
  unread-says names (Unreadable name) (is_unreadable n r f) = record {
    says = record { used = λ e. omega arith; absent = λ e. absurd (omega arith); unreadable = λ e. (n, f); cut_off = λ e. omega arith };
    undenied = λ e. omega arith;
    uncounted = λ e. omega arith;
  }
  unread-says names (Oversized name) (is_oversized n r f) = fault-says 8 (omega arith) (omega arith)
  unread-says names (Usage number) f = elim f [ ]
  unread-says names (OversizedAs name version) f = elim f [ ]
  unread-says names (Faulty name fault) f = elim f [ ]

  run-cause-says : (run : RunWords) (cause : Cause) → RunFails told absence read_failed run cause → Unjudged absence read_failed (cause_status cause)
  run-cause-says run cause (not_read c r) = unread-says (run_texts run) c r
  run-cause-says run _ (faulty p q role g a b h) = fault-says 7 (omega arith) (omega arith)

  session-cause-says : (session : SessionWords) (cause : Cause) → SessionFails told absence read_failed session cause
      → Unjudged absence read_failed (cause_status cause)
  session-cause-says session cause (session_not_read c r) = unread-says (session.program ∷ session.queries ∷ []) c r
  session-cause-says session _ (faulty_program p t f a b h) = fault-says 7 (omega arith) (omega arith)

  print-cause-says : (name : List ℕ) (cause : Cause) → PrintFails told absence read_failed name cause → Unjudged absence read_failed (cause_status cause)
  print-cause-says name cause (source_not_read c r) = unread-says (name ∷ []) c r
  print-cause-says name cause (faulty_source p f h t) = fault-says 7 (omega arith) (omega arith)

  check-cause-says : (check : CheckWords) (cause : Cause) → CheckFails told absence read_failed check cause → Unjudged absence read_failed (cause_status cause)
  check-cause-says check cause (texts_not_read c r) = unread-says (check_texts check) c r
  check-cause-says check cause (faulty_text p q s role f h k l t) = fault-says 7 (omega arith) (omega arith)

  convert-cause-says : (convert : ConvertWords) (cause : Cause) → ConvertFails told absence read_failed convert cause
      → Unjudged absence read_failed (cause_status cause)
  convert-cause-says convert cause (proof_not_read c r) = unread-says (convert.proof ∷ []) c r
  convert-cause-says convert _ (faulty_proof p f h k) = fault-says 7 (omega arith) (omega arith)
  convert-cause-says convert _ (too_long_as p t h k l) = fault-says 8 (omega arith) (omega arith)

  at-status : (status other : ℕ) → status ≡ other → Unjudged absence read_failed other → Unjudged absence read_failed status
  at-status status other e u = subst (Unjudged absence read_failed) (sym e) u

  run-comes-says : (run : RunWords) (status : ℕ) (text : List ℕ) → RunComesTo told absence read_failed run status text → Unjudged absence read_failed status
  run-comes-says run status text (ran p a s t) = at-status status (status_of_run run.first p) s
      (small-says (status_of_run run.first p) (run-of-small run.first p))
  run-comes-says run status text (failed cause f s t) = at-status status (cause_status cause) s (run-cause-says run cause f)

  session-comes-says : (session : SessionWords) (status : ℕ) (text : List ℕ) → SessionComesTo told absence read_failed session status text
      → Unjudged absence read_failed status
  session-comes-says session status text (replied q a s t) = at-status status 0 s (small-says 0 (omega arith))
  session-comes-says session status text (session_failed cause f s t) = at-status status (cause_status cause) s (session-cause-says session cause f)

  deepen-comes-says : (deepen : DeepenWords) (status : ℕ) (text : List ℕ) → DeepenComesTo told absence read_failed deepen status text
      → Unjudged absence read_failed status
  deepen-comes-says deepen status text (deepened n p a d s t) = at-status status (run_status p) s (small-says (run_status p) (run-small p))
  deepen-comes-says deepen status text (deepen_failed cause f s t) =
      at-status status (cause_status cause) s (run-cause-says (run_within deepen deepen.series.from) cause f)

  print-comes-says : (name : List ℕ) (status : ℕ) (text : List ℕ) → PrintComesTo told absence read_failed name status text → Unjudged absence read_failed status
  print-comes-says name status text (printed p s) = at-status status 0 s (small-says 0 (omega arith))
  print-comes-says name status text (print_failed cause f s t) = at-status status (cause_status cause) s (print-cause-says name cause f)

  convert-comes-says : (convert : ConvertWords) (status : ℕ) (text : List ℕ) → ConvertComesTo told absence read_failed convert status text
      → Unjudged absence read_failed status
  convert-comes-says convert status text (converted p h k l s) = at-status status 0 s (small-says 0 (omega arith))
  convert-comes-says convert status text (convert_failed cause f s t) = at-status status (cause_status cause) s (convert-cause-says convert cause f)

  made-comes-says : (run : MadeRunWords) (status : ℕ) (text : List ℕ) → MadeRunComesTo run status text → Unjudged absence read_failed status
  made-comes-says run status text h = at-status status (run_status h.problem) h.status_is (small-says (run_status h.problem) (run-small h.problem))

  judged-says : (status : ℕ) → (status ≡ 9) ⊎ (status ≡ 11) → Says absence read_failed status
  judged-says status (inl s) = record {
    used = λ e. omega arith;
    absent = λ e. absurd (omega arith);
    unreadable = λ e. absurd (omega arith);
    cut_off =
        λ e. omega arith;
  }
  judged-says status (inr s) = record {
    used = λ e. omega arith;
    absent = λ e. absurd (omega arith);
    unreadable = λ e. absurd (omega arith);
    cut_off =
        λ e. omega arith;
  }

  check-comes-says : (check : CheckWords) (status : ℕ) (text : List ℕ) → CheckComesTo told absence read_failed check status text
      → Says absence read_failed status
  check-comes-says check status text (shown p d c g h s t) = (at-status status 0 s (small-says 0 (omega arith))).says
  check-comes-says check status text (covered p d n c g h s t) = (at-status status 0 s (small-says 0 (omega arith))).says
  check-comes-says check status text (refuted p d n r g h s t) = judged-says status (inl s)
  check-comes-says check status text (too_long p d c g h s t) = judged-says status (inr s)
  check-comes-says check status text (counting p d n c g h s t) = judged-says status (inr s)
  check-comes-says check status text (check_failed cause f s t) = (at-status status (cause_status cause) s (check-cause-says check cause f)).says

module _ (words : List (List ℕ)) (told : Option Texts) (absence read_failed : List ℕ → Type 0) where
  -- a call that judges no derivation
  abbrev judges : (status : ℕ) (text : List ℕ) → ComesTo words told absence read_failed status text → Bool
  judges status text (misused n b s t) = true
  judges status text (checks check r c) = true
  judges status text c = false

  unjudged : (status : ℕ) (text : List ℕ) (c : ComesTo words told absence read_failed status text) → judges status text c ≡ false
      → Unjudged absence read_failed status
  unjudged status text (misused n b s t) h = cc
  unjudged status text (runs run r c) h = run-comes-says told absence read_failed run status text c
  unjudged status text (sessions session r c) h = session-comes-says told absence read_failed session status text c
  unjudged status text (deepens deepen r c) h = deepen-comes-says told absence read_failed deepen status text c
  unjudged status text (prints name r c) h = print-comes-says told absence read_failed name status text c
  unjudged status text (checks check r c) h = cc
  unjudged status text (converts convert r c) h = convert-comes-says told absence read_failed convert status text c
  unjudged status text (makes make r c) h = at-status told absence read_failed status 0 c.succeeds (small-says told absence read_failed 0 (omega arith))
  unjudged status text (runs_made run r c) h = made-comes-says told absence read_failed run status text c

  comes-says : (status : ℕ) (text : List ℕ) (c : ComesTo words told absence read_failed status text)
      → is_misuse words told absence read_failed status text c ≡ false → Says absence read_failed status
  comes-says status text (misused n b s t) h = cc
  comes-says status text (checks check r c) h = check-comes-says told absence read_failed check status text c
  comes-says status text c h = (unjudged status text c refl).says

  -- status 9 comes of a derivation that does not show the query, and of nothing else
  comes-denied : (status : ℕ) (text : List ℕ) → status ≡ 9 → ComesTo words told absence read_failed status text → IsDenied words told
  comes-denied status text e (misused number b s t) = absurd (omega arith)
  comes-denied status text e (checks check c (refuted p d n r g h s t)) =
      record { check = check; is_check = c; problem = p; derivation = d; gives = g; not_shown = h.not_shown }
  comes-denied status text e (checks check c (shown p d b g h s t)) = absurd (omega arith)
  comes-denied status text e (checks check c (covered p d n b g h s t)) = absurd (omega arith)
  comes-denied status text e (checks check c (too_long p d b g h s t)) = absurd (omega arith)
  comes-denied status text e (checks check c (counting p d n b g h s t)) = absurd (omega arith)
  comes-denied status text e (checks check c (check_failed cause f s t)) =
      absurd ((check-cause-says told absence read_failed check cause f).undenied (sym s ∙ e))
  comes-denied status text e c = absurd ((unjudged status text c refl).undenied e)

  -- the words of a cover have a bound
  cover-bound : (bound : Option ℕ) → FitsForm cover_form words → IsCheckForm words bound → is_some bound ≡ false → ⊥
  cover-bound None f g e = check-not-cover words g f
  cover-bound (Some bound) f g e = cc

  comes-covered : FitsForm cover_form words → (status : ℕ) (text : List ℕ) → status ≡ 0 → ComesTo words told absence read_failed status text
      → IsCoveredCall words told
  comes-covered f status text e (misused number b s t) = absurd (omega arith)
  comes-covered f status text e (checks check c (covered p d n b g h s t)) =
      record { check = check; is_check = c; problem = p; derivation = d; gives = g; number = n; covered = h }
  comes-covered f status text e (checks check c (shown p d b g h s t)) = absurd (cover-bound check.bound f c.form b)
  comes-covered f status text e (checks check c (refuted p d n r g h s t)) = absurd (omega arith)
  comes-covered f status text e (checks check c (too_long p d b g h s t)) = absurd (omega arith)
  comes-covered f status text e (checks check c (counting p d n b g h s t)) = absurd (omega arith)
  comes-covered f status text e (checks check c (check_failed cause h s t)) = absurd (cause-not-zero cause (sym s ∙ e))
  comes-covered f status text e c = absurd (let k = sym (cover-kind words f) ∙ comes-kind words told absence read_failed status text c refl in cc)

  comes-uncovered : (status : ℕ) (text : List ℕ) → status ≡ 11 → ComesTo words told absence read_failed status text → IsUncoveredCall words told
  comes-uncovered status text e (misused number b s t) = absurd (omega arith)
  comes-uncovered status text e (checks check c (too_long p d b g h s t)) =
      record { check = check; is_check = c; problem = p; derivation = d; gives = g; why = inl h }
  comes-uncovered status text e (checks check c (counting p d n b g h s t)) =
      record { check = check; is_check = c; problem = p; derivation = d; gives = g; why = inr (n, h) }
  comes-uncovered status text e (checks check c (shown p d b g h s t)) = absurd (omega arith)
  comes-uncovered status text e (checks check c (refuted p d n r g h s t)) = absurd (omega arith)
  comes-uncovered status text e (checks check c (covered p d n b g h s t)) = absurd (omega arith)
  comes-uncovered status text e (checks check c (check_failed cause f s t)) =
      absurd ((check-cause-says told absence read_failed check cause f).uncounted (sym s ∙ e))
  comes-uncovered status text e c = absurd ((unjudged status text c refl).uncounted e)

  -- ---- what the status of a call says

  module _ (write_failed : Type 0) (before after : Option (List ℕ)) (status : ℕ) where
    pub call-usage : Ends (ComesTo words told absence read_failed) write_failed before after status → status ≡ 3 → IsInForm words → ⊥
    call-usage (whole text c a) e f = by c
      where
        by : ComesTo words told absence read_failed status text → ⊥
        by (misused n b s t) = bad-not-in-form words n b f
        by c = (comes-says status text c refl).used e
    call-usage (unwritable meant text c w s a) e f = omega arith
    call-usage (no_memory s a) e f = omega arith

    pub call-absent : Ends (ComesTo words told absence read_failed) write_failed before after status → status ≡ 4 → (name : List ℕ) × absence name
    call-absent (whole text c a) e = by c
      where
        by : ComesTo words told absence read_failed status text → (name : List ℕ) × absence name
        by (misused n b s t) = absurd (omega arith)
        by c = (comes-says status text c refl).absent e
    call-absent (unwritable meant text c w s a) e = absurd (omega arith)
    call-absent (no_memory s a) e = absurd (omega arith)

    pub call-unreadable : Ends (ComesTo words told absence read_failed) write_failed before after status → status ≡ 5 → (name : List ℕ) × read_failed name
    call-unreadable (whole text c a) e = by c
      where
        by : ComesTo words told absence read_failed status text → (name : List ℕ) × read_failed name
        by (misused n b s t) = absurd (omega arith)
        by c = (comes-says status text c refl).unreadable e
    call-unreadable (unwritable meant text c w s a) e = absurd (omega arith)
    call-unreadable (no_memory s a) e = absurd (omega arith)

    pub call-unwritable : Ends (ComesTo words told absence read_failed) write_failed before after status → status ≡ 6 → write_failed
    call-unwritable (whole text c a) e = by c
      where
        by : ComesTo words told absence read_failed status text → write_failed
        by (misused n b s t) = absurd (omega arith)
        by c = absurd ((comes-says status text c refl).cut_off e)
    call-unwritable (unwritable meant text c w s a) e = w
    call-unwritable (no_memory s a) e = absurd (omega arith)

    pub call-denied : Ends (ComesTo words told absence read_failed) write_failed before after status → status ≡ 9 → IsDenied words told
    call-denied (whole text c a) e = comes-denied status text e c
    call-denied (unwritable meant text c w s a) e = absurd (omega arith)
    call-denied (no_memory s a) e = absurd (omega arith)

    pub call-covered : Ends (ComesTo words told absence read_failed) write_failed before after status → FitsForm cover_form words → status ≡ 0
        → IsCoveredCall words told
    call-covered (whole text c a) f e = comes-covered f status text e c
    call-covered (unwritable meant text c w s a) f e = absurd (omega arith)
    call-covered (no_memory s a) f e = absurd (omega arith)

    pub call-uncovered : Ends (ComesTo words told absence read_failed) write_failed before after status → status ≡ 11 → IsUncoveredCall words told
    call-uncovered (whole text c a) e = comes-uncovered status text e c
    call-uncovered (unwritable meant text c w s a) e = absurd (omega arith)
    call-uncovered (no_memory s a) e = absurd (omega arith)

-- ---- completeness

-- where the texts are told and no read failed, absences need no count
module _ (texts : Texts) (absence read_failed : List ℕ → Type 0) (no_fault : (name : List ℕ) → read_failed name → ⊥) where
  told-unread : (names : List (List ℕ)) (cause : Cause) → ReadFails (Some texts) absence read_failed names cause
      → ReadFails (Some texts) AnyName NoName names cause
  told-unread names _ (is_absent a r w e) = is_absent a r tt e
  told-unread names _ (is_unreadable a r w) = absurd (no_fault a w)
  told-unread names _ (is_oversized a r l) = is_oversized a r l

  told-fails : (run : RunWords) (cause : Cause) → RunFails (Some texts) absence read_failed run cause → RunFails (Some texts) AnyName NoName run cause
  told-fails run _ (not_read c r) = not_read c (told-unread (run_texts run) c r)
  told-fails run _ (faulty p q role g h k t) = faulty p q role g h k t

  told-run : (run : RunWords) (status : ℕ) (text : List ℕ) → RunComesTo (Some texts) absence read_failed run status text
      → RunComesTo (Some texts) AnyName NoName run status text
  told-run run status text (ran p a e f) = ran p a e f
  told-run run status text (failed c h e f) = failed c (told-fails run c h) e f

  told-session : (session : SessionWords) (status : ℕ) (text : List ℕ) → SessionComesTo (Some texts) absence read_failed session status text
      → SessionComesTo (Some texts) AnyName NoName session status text
  told-session session status text (replied q a e f) = replied q a e f
  told-session session status text (session_failed _ (session_not_read c r) e f) =
      session_failed c (session_not_read c (told-unread (session.program ∷ session.queries ∷ []) c r)) e f
  told-session session status text (session_failed _ (faulty_program p t g h k x) e f) =
      session_failed (Faulty session.program g) (faulty_program p t g h k x) e f

  told-deepen : (deepen : DeepenWords) (status : ℕ) (text : List ℕ) → DeepenComesTo (Some texts) absence read_failed deepen status text
      → DeepenComesTo (Some texts) AnyName NoName deepen status text
  told-deepen deepen status text (deepened n p a d e f) = deepened n p a d e f
  told-deepen deepen status text (deepen_failed c h e f) = deepen_failed c (told-fails (run_within deepen deepen.series.from) c h) e f

  told-print : (name : List ℕ) (status : ℕ) (text : List ℕ) → PrintComesTo (Some texts) absence read_failed name status text
      → PrintComesTo (Some texts) AnyName NoName name status text
  told-print name status text (printed p e) = printed p e
  told-print name status text (print_failed _ (source_not_read c r) e f) = print_failed c (source_not_read c (told-unread (name ∷ []) c r)) e f
  told-print name status text (print_failed _ (faulty_source p g h t) e f) = print_failed (Faulty name g) (faulty_source p g h t) e f

  told-check : (check : CheckWords) (status : ℕ) (text : List ℕ) → CheckComesTo (Some texts) absence read_failed check status text
      → CheckComesTo (Some texts) AnyName NoName check status text
  told-check check status text (shown p d b g h e f) = shown p d b g h e f
  told-check check status text (covered p d n b g h e f) = covered p d n b g h e f
  told-check check status text (too_long p d b g h e f) = too_long p d b g h e f
  told-check check status text (counting p d n b g h e f) = counting p d n b g h e f
  told-check check status text (refuted p d n r g h e f) = refuted p d n r g h e f
  told-check check status text (check_failed _ (texts_not_read c r) e f) = check_failed c (texts_not_read c (told-unread (check_texts check) c r)) e f
  told-check check status text (check_failed _ (faulty_text p q s role g h k l t) e f) =
      check_failed (Faulty (name_in_check check role) g) (faulty_text p q s role g h k l t) e f

  told-convert : (convert : ConvertWords) (status : ℕ) (text : List ℕ) → ConvertComesTo (Some texts) absence read_failed convert status text
      → ConvertComesTo (Some texts) AnyName NoName convert status text
  told-convert convert status text (converted p h k l s) = converted p h k l s
  told-convert convert status text (convert_failed _ (proof_not_read c r) e f) = convert_failed c (proof_not_read c (told-unread (convert.proof ∷ []) c r)) e f
  told-convert convert status text (convert_failed c (faulty_proof p g h k) e f) = convert_failed c (faulty_proof p g h k) e f
  told-convert convert status text (convert_failed c (too_long_as p t h k l) e f) = convert_failed c (too_long_as p t h k l) e f

  told-comes : (words : List (List ℕ)) (status : ℕ) (text : List ℕ) → ComesTo words (Some texts) absence read_failed status text
      → ComesTo words (Some texts) AnyName NoName status text
  told-comes words status text (misused n b e f) = misused n b e f
  told-comes words status text (runs run r c) = runs run r (told-run run status text c)
  told-comes words status text (sessions session r c) = sessions session r (told-session session status text c)
  told-comes words status text (deepens deepen r c) = deepens deepen r (told-deepen deepen status text c)
  told-comes words status text (prints name p c) = prints name p (told-print name status text c)
  told-comes words status text (checks check h c) = checks check h (told-check check status text c)
  told-comes words status text (converts convert h c) = converts convert h (told-convert convert status text c)
  told-comes words status text (makes make h c) = makes make h c
  told-comes words status text (runs_made run h c) = runs_made run h c

module _
    (one : (words : List (List ℕ)) (texts : Texts) (status other : ℕ) (text more : List ℕ) → ComesTo words (Some texts) AnyName NoName status text
    → ComesTo words (Some texts) AnyName NoName other more → (status ≡ other) × (text ≡ more))
    (words : List (List ℕ)) (told : Option Texts) (absence read_failed : List ℕ → Type 0) (write_failed : Type 0) (before after : Option (List ℕ))
    (status : ℕ) where
  pub completes : (any_failed : Type 0) → ((name : List ℕ) → read_failed name → any_failed)
      → Ends (ComesTo words told absence read_failed) write_failed before after status → Completes words told any_failed write_failed before after status
  completes any_failed rose (whole text c a) = λ texts meant other e read written m.
      let own = told-comes texts absence read_failed (λ name h. read (rose name h)) words status text (subst
      (λ t. ComesTo words t absence read_failed status text) e c) in
      let same = one words texts status meant text other own m in
      inl (same.0, a ∙ ap (λ t. append_known before t) same.1)
  completes any_failed rose (unwritable meant text c w s a) = λ texts other t e read written m. absurd (written w)
  completes any_failed rose (no_memory s a) = λ texts meant t e read written m. inr s

-- ---- the headline

-- where no read failed by its status, absences need no count
module _ (texts : Texts) (absence read_failed : List ℕ → Type 0) where
  calm-unread : (names : List (List ℕ)) (cause : Cause) → (cause_status cause ≡ 5 → ⊥) → ReadFails (Some texts) absence read_failed names cause
      → ReadFails (Some texts) AnyName NoName names cause
  calm-unread names _ apart (is_absent a r w e) = is_absent a r tt e
  calm-unread names _ apart (is_unreadable a r w) = absurd (apart refl)
  calm-unread names _ apart (is_oversized a r l) = is_oversized a r l

  calm-fails : (run : RunWords) (cause : Cause) → (cause_status cause ≡ 5 → ⊥) → RunFails (Some texts) absence read_failed run cause
      → RunFails (Some texts) AnyName NoName run cause
  calm-fails run _ apart (not_read c r) = not_read c (calm-unread (run_texts run) c apart r)
  calm-fails run _ apart (faulty p q role g h k t) = faulty p q role g h k t

  calm-run : (run : RunWords) (status : ℕ) (text : List ℕ) → (status ≡ 5 → ⊥) → RunComesTo (Some texts) absence read_failed run status text
      → RunComesTo (Some texts) AnyName NoName run status text
  calm-run run status text apart (ran p a e f) = ran p a e f
  calm-run run status text apart (failed c h e f) = failed c (calm-fails run c (λ five. apart (e ∙ five)) h) e f

  -- a call with the words of a run comes to what the run comes to
  calm-comes : (words : List (List ℕ)) (run : RunWords) (status : ℕ) (text : List ℕ) → IsRun words run → (status ≡ 5 → ⊥)
      → ComesTo words (Some texts) absence read_failed status text
      → ComesTo words (Some texts) AnyName NoName status text
  calm-comes words run status text r apart (runs other o c) = runs other o (calm-run other status text apart c)
  calm-comes words run status text r apart (misused n b e f) = absurd (bad-not-in-form words n b (run-in-form words r.form))
  calm-comes words run status text r apart c = absurd (let k = sym (run-kind words r.form)
      ∙ comes-kind words (Some texts) absence read_failed status text c refl in cc)

-- what a run comes to whose texts ask a problem
whole-run : (texts : Texts) (run : RunWords) (p : ProblemTree) → run.first ≡ None → RunAsks (Some texts) run p
    → RunComesTo (Some texts) AnyName NoName run (run_status p) (whole_text run.proofs p)
whole-run texts run p e a = ran p a (ap (λ first. status_of_run first p) (sym e)) (ap (λ first. text_of_run first run.proofs p) (sym e))

module _
    (one : (words : List (List ℕ)) (texts : Texts) (status other : ℕ) (text more : List ℕ) → ComesTo words (Some texts) AnyName NoName status text
    → ComesTo words (Some texts) AnyName NoName other more → (status ≡ other) × (text ≡ more))
    (words : List (List ℕ)) (told : Option Texts) (absence read_failed : List ℕ → Type 0) (write_failed : Type 0) (before after : Option (List ℕ))
    (status : ℕ) where
  pub heads : Ends (ComesTo words told absence read_failed) write_failed before after status → Headline words told before after status
  heads (whole text c a) = λ run texts p r first e asks five six ten.
      let own = calm-comes texts absence read_failed words run status text r five (subst (λ t. ComesTo words t absence read_failed status text) e c) in
      let same = one words texts status (run_status p) text (whole_text run.proofs p) own (runs run r (whole-run texts run p first asks)) in
      (a ∙ ap (λ t. append_known before t) same.1, same.0)
  heads (unwritable meant text c w s a) = λ run texts p r first e asks five six ten. absurd (six s)
  heads (no_memory s a) = λ run texts p r first e asks five six ten. absurd (ten s)

-- ---- a call that may not be served

module _ (words : List (List ℕ)) (told : Option Texts) (absence read_failed : List ℕ → Type 0) (write_failed : Type 0) (before after : Option (List ℕ))
    (answer : Option ℕ)
    (ends : IfSome answer (Ends (ComesTo words told absence read_failed) write_failed before after)) where
  at-status_of : (status : ℕ) → answer ≡ Some status → Ends (ComesTo words told absence read_failed) write_failed before after status
  at-status_of status e = subst (λ o. IfSome o (Ends (ComesTo words told absence read_failed) write_failed before after)) e ends

  pub plain-usage : answer ≡ Some 3 → IsInForm words → ⊥
  plain-usage e f = call-usage words told absence read_failed write_failed before after 3 (at-status_of 3 e) refl f

  pub plain-absent : answer ≡ Some 4 → (name : List ℕ) × absence name
  plain-absent e = call-absent words told absence read_failed write_failed before after 4 (at-status_of 4 e) refl

  pub plain-unreadable : answer ≡ Some 5 → (name : List ℕ) × read_failed name
  plain-unreadable e = call-unreadable words told absence read_failed write_failed before after 5 (at-status_of 5 e) refl

  pub plain-unwritable : answer ≡ Some 6 → write_failed
  plain-unwritable e = call-unwritable words told absence read_failed write_failed before after 6 (at-status_of 6 e) refl

  pub plain-denied : answer ≡ Some 9 → IsDenied words told
  plain-denied e = call-denied words told absence read_failed write_failed before after 9 (at-status_of 9 e) refl

  pub plain-covered : FitsForm cover_form words → answer ≡ Some 0 → IsCoveredCall words told
  plain-covered f e = call-covered words told absence read_failed write_failed before after 0 (at-status_of 0 e) f refl

  pub plain-uncovered : answer ≡ Some 11 → IsUncoveredCall words told
  plain-uncovered e = call-uncovered words told absence read_failed write_failed before after 11 (at-status_of 11 e) refl

  pub plain-completes : ((words : List (List ℕ)) (texts : Texts) (status other : ℕ) (text more : List ℕ) → ComesTo words (Some texts) AnyName NoName status text
      → ComesTo words (Some texts) AnyName NoName other more → (status ≡ other) × (text ≡ more))
      → (any_failed : Type 0) → ((name : List ℕ) → read_failed name → any_failed)
      → IfSome answer (Completes words told any_failed write_failed before after)
  plain-completes one any_failed rose = by answer ends
    where
      by : (o : Option ℕ) → IfSome o (Ends (ComesTo words told absence read_failed) write_failed before after)
          → IfSome o (Completes words told any_failed write_failed before after)
      by None h = tt
      by (Some status) h = completes one words told absence read_failed write_failed before after status any_failed rose h

-- a status that is one of two
pub plain-misused : (status first second : ℕ) → (Some status ≡ Some first) ⊎ (Some status ≡ Some second) → (status ≡ first) ⊎ (status ≡ second)
plain-misused status first second (inl e) = inl cc
plain-misused status first second (inr e) = inr cc

-- words in no form end with one of two
pub usage-misused : (number : ℕ) (write_failed : Type 0) (before after : Option (List ℕ)) (status : ℕ)
    → Refuses (Usage number) write_failed before after status → (Some status ≡ Some 3) ⊎ (Some status ≡ Some 6)
usage-misused number write_failed before after status (line s a) = inl (ap (λ n. Some n) s)
usage-misused number write_failed before after status (cut s w a) = inr (ap (λ n. Some n) s)
