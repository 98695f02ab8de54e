-- From the way a run and a make end to the status and the text.
use Rattle.std.proofs.Common.{◌≡◌, ℕ, refl, sym, subst, ◌∙◌, List}
use Rattle.std.specs.Prelude.{Option, Some, Result, Ok, Err, IfOk, IfErr, OnOk, OnErr, IsErrAnd}
use Rattle.std.specs.Io.KnownBytes.{append_known}
use Rattle.ll_list_laws.proofs.CallerLemmas.{some_is}
use Rattle.ll_edge.specs.Counts.{Rose}
use Rattle.ll_edge.specs.Pieces.{AppendsFront}
use Rattle.ll_edge.specs.Log.{Entry}
use Rattle.ll_edge.specs.Texts.{Texts}
use Rattle.ll_laws.specs.Problem.{ProblemTree}
use Rattle.ll_laws.specs.Valid.{IsValid}
use Rattle.ll_top.specs.declared.run.Found.{Found}
use Rattle.ll_top.specs.declared.texts.refusing.Refusal.{Refusal}
use Rattle.ll_top.specs.declared.texts.refusing.Refusal.TheVariants.{Text, Unwritable, OutOfMemory}
use Rattle.ll_top.specs.forms.Words.{RunWords}
use Rattle.ll_top.specs.Making.{make_text, MakeComesTo}
use Rattle.ll_top.specs.forms.Making.{MakeWords}
use Rattle.ll_top.specs.texts.Outcome.{RunAsks, ReadsWhatAsks}
use Rattle.ll_top.specs.Outcome.{status_of_run, text_of_run, RunComesTo, ran}
use Rattle.ll_top.specs.texts.CallEnds.{nothing, front, Ends, unwritable, whole}
use Rattle.ll_top.specs.texts.Endings.{Prepares}
use Rattle.ll_top.specs.Endings.{RunEnds, status_of_found}
use Rattle.ll_top.specs.Reads.{RunReads}
use Rattle.ll_top.specs.Running.{IsRunRefusal}

-- ---- a run

-- no problem was made
prepare-ended : (told : Option Texts) (absence read_failed : List ℕ → Type 0) (write_failed : Type 0) (run : RunWords) (before : Option (List ℕ)) (e : Refusal)
    → Prepares told absence read_failed run (Err e) → RunEnds told absence read_failed write_failed run before before (Err e)
prepare-ended told absence read_failed write_failed run before (Text role refusal) h = (h, refl)
prepare-ended told absence read_failed write_failed run before Unwritable h = absurd h
prepare-ended told absence read_failed write_failed run before OutOfMemory h = nothing refl

pub not-prepared : (told : Option Texts) (absence read_failed : List ℕ → Type 0) (write_failed : Type 0) (run : RunWords) (before : Option (List ℕ))
    (r : Result Found Refusal)
    (e : Refusal) → IsErrAnd r (λ x. x ≡ e) → Prepares told absence read_failed run (Err e)
    → RunEnds told absence read_failed write_failed run before before r
not-prepared told absence read_failed write_failed run before (Ok x) e p h = absurd p
not-prepared told absence read_failed write_failed run before (Err x) e p h =
    subst (λ y. RunEnds told absence read_failed write_failed run before before (Err y)) (sym p)
    (prepare-ended told absence read_failed write_failed run before e h)

-- a problem was made, and run
run-ended : (told : Option Texts) (absence read_failed : List ℕ → Type 0) (run : RunWords) (p : ProblemTree) (faults more : ℕ) (before after : Option (List ℕ))
    (r : Result Found Refusal) → RunAsks told run p → IsValid p
    → IfOk r (λ found. status_of_found found ≡ status_of_run run.first p) → OnOk r (after ≡ append_known before (text_of_run run.first run.proofs p))
    → IfErr r (IsRunRefusal faults more)
    → OnErr r (AppendsFront before (text_of_run run.first run.proofs p) after) → RunEnds told absence read_failed (Rose faults more) run before after r
run-ended told absence read_failed run p n m b a (Ok _) u v s t f e = (p, u, v, s, t)
run-ended told absence read_failed run p n m b a (Err Unwritable) u v s t f e = (p, u, f, e)
run-ended told absence read_failed run p n m b a (Err OutOfMemory) u v s t f e =
    front (status_of_run run.first p) (text_of_run run.first run.proofs p) (ran p u refl refl) e
run-ended told absence read_failed run p n m b a (Err (Text role refusal)) u v s t f e = absurd f

-- the same, where it is known how many answers are wanted
pub run-ended-as : (told : Option Texts) (absence read_failed : List ℕ → Type 0) (run : RunWords) (first : Option ℕ) (p : ProblemTree) (faults more : ℕ)
    (before after : Option (List ℕ)) (r : Result Found Refusal) → run.first ≡ first → RunAsks told run p → IsValid p
    → IfOk r (λ found. status_of_found found ≡ status_of_run first p) → OnOk r (after ≡ append_known before (text_of_run first run.proofs p))
    → IfErr r (IsRunRefusal faults more)
    → OnErr r (AppendsFront before (text_of_run first run.proofs p) after) → RunEnds told absence read_failed (Rose faults more) run before after r
run-ended-as told absence read_failed run first p n m b a r is u v s t f e =
    run-ended told absence read_failed run p n m b a r u v (subst (λ x. IfOk r (λ found. status_of_found found ≡ status_of_run x p)) (sym is) s)
    (subst (λ x. OnOk r (a ≡ append_known b (text_of_run x run.proofs p))) (sym is) t) f
    (subst (λ x. OnErr r (AppendsFront b (text_of_run x run.proofs p) a)) (sym is) e)

-- what a run read, and what the sink took, where it ended
pub run-reads : (run : RunWords) (before after : List Entry) (taken later : List ℕ) (p : ProblemTree) (r : Result Found Refusal)
    → ReadsWhatAsks run before after p → IfOk r (λ found. status_of_found found ≡ status_of_run run.first p)
    → OnOk r (Some later ≡ append_known (Some taken) (text_of_run run.first run.proofs p))
    → IfOk r (λ found. RunReads run before after taken later (status_of_found found))
run-reads run before after taken later p (Ok done) reads s t = record { problem = p; reads = reads; takes = some_is _ _ t; status_is = s }
run-reads run before after taken later p (Err e) reads s t = tt

module _ (told : Option Texts) (absence read_failed : List ℕ → Type 0) (write_failed : Type 0) (run : RunWords) (before after : Option (List ℕ)) where
  -- its text was written
  pub found-ends : (found : Found) (status : ℕ) → status ≡ status_of_found found → RunEnds told absence read_failed write_failed run before after (Ok found)
      → Ends (RunComesTo told absence read_failed run) write_failed before after status
  found-ends _ status e h = whole (text_of_run run.first run.proofs h.0) (ran h.0 h.1 (e ∙ h.3) refl) h.4

-- ---- a make

module _ (make : MakeWords) (write_failed : Type 0) (before after : Option (List ℕ)) where
  pub made-ends : after ≡ append_known before (make_text make) → Ends (MakeComesTo make) write_failed before after 0
  made-ends w = whole (make_text make) (record { succeeds = refl; is = refl }) w

  pub made-cut : write_failed → AppendsFront before (make_text make) after → Ends (MakeComesTo make) write_failed before after 6
  made-cut f a = unwritable 0 (make_text make) (record { succeeds = refl; is = refl }) f refl a
