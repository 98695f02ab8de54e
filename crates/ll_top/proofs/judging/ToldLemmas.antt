-- What a refusal and a status tell of the counts of faults outside.
use Rattle.std.proofs.Common.{◌≡◌, ◌<◌, ◌⊎◌, ℕ, List, refl, sym, subst, ap, ◌∙◌, inl, inr, arith}
use Rattle.std.specs.Prelude.{Option, Result, Ok, Err, MatchResult}
use Rattle.ll_top.specs.declared.texts.judge.Role.{Role}
use Rattle.ll_top.specs.declared.texts.refusing.TextRefusal.{TextRefusal}
use Rattle.ll_top.specs.declared.texts.refusing.TextRefusal.TheVariants as text
use Rattle.ll_top.specs.declared.texts.refusing.Refusal.{Refusal}
use Rattle.ll_top.specs.declared.texts.refusing.Refusal.TheVariants.{Text, Unwritable, OutOfMemory}
use Rattle.ll_top.specs.texts.Faults.{Cause, cause_status}
use Rattle.ll_top.specs.texts.Endings.{cause_of, Refuses, line, cut}
use Rattle.ll_top.specs.texts.Told.{FaultsBy, AbsencesBy, WritesBy, ShelfTold, SinkTold, StatusTold}

-- counts that stand still tell nothing, whatever the refusal
faults-still : (before after : ℕ) (e : Refusal) → after ≡ before → FaultsBy before after e
faults-still before after (Text role text.Absent) h = h
faults-still before after (Text role text.Unreadable) h = tt
faults-still before after (Text role text.Oversized) h = h
faults-still before after (Text role (text.Faulty fault)) h = h
faults-still before after Unwritable h = h
faults-still before after OutOfMemory h = h

absences-still : (before after : ℕ) (e : Refusal) → after ≡ before → AbsencesBy before after e
absences-still before after (Text role text.Absent) h = tt
absences-still before after (Text role text.Unreadable) h = h
absences-still before after (Text role text.Oversized) h = h
absences-still before after (Text role (text.Faulty fault)) h = h
absences-still before after Unwritable h = h
absences-still before after OutOfMemory h = h

writes-still : (before after : ℕ) (e : Refusal) → after ≡ before → WritesBy before after e
writes-still before after (Text role refusal) h = h
writes-still before after Unwritable h = tt
writes-still before after OutOfMemory h = h

pub sink-still : {A : Type 0} (before after : ℕ) (r : Result A Refusal) → after ≡ before → SinkTold before after r
sink-still before after (Ok x) h = h
sink-still before after (Err e) h = writes-still before after e h

-- a call that writes, after one that wrote
pub sink-later : {A : Type 0} (before middle after : ℕ) (r : Result A Refusal) → middle ≡ before → SinkTold middle after r → SinkTold before after r
sink-later before middle after r e h = subst (λ n. MatchResult r (λ _. after ≡ n) (WritesBy n after)) e h

module _ {S : Type 0} {faults absences : S → ℕ} where
  pub shelf-still : {A : Type 0} {before after : S} (r : Result A Refusal) → faults after ≡ faults before → absences after ≡ absences before
      → ShelfTold faults absences before after r
  shelf-still (Ok x) h k = record { faults_told = h; absences_told = k }
  shelf-still {before} {after} (Err e) h k = record {
    faults_told = faults-still (faults before) (faults after) e h;
    absences_told = absences-still (absences before) (absences after) e k;
  }

  -- a call that is given its texts, after one that read them
  pub shelf-read : {A B : Type 0} {before after : S} {x : B} (r : Result A Refusal) → ShelfTold faults absences before after (Ok x)
      → ShelfTold faults absences before after r
  shelf-read r read = shelf-still r read.faults_told read.absences_told

  -- a call that reads, after one that read
  pub shelf-later : {A B : Type 0} {first before after : S} {x : B} (r : Result A Refusal) → ShelfTold faults absences first before (Ok x)
      → ShelfTold faults absences before after r → ShelfTold faults absences first after r
  shelf-later {after} r read h = record {
    faults_told = subst (λ n. MatchResult r (λ _. faults after ≡ n) (FaultsBy n (faults after))) read.faults_told h.faults_told;
    absences_told = subst (λ n. MatchResult r (λ _. absences after ≡ n) (AbsencesBy n (absences after))) read.absences_told h.absences_told;
  }

  -- a refusal is passed on
  pub shelf-refused : {A B : Type 0} {before after : S} {e : Refusal} → ShelfTold {A = A} faults absences before after (Err e)
      → ShelfTold {A = B} faults absences before after (Err e)
  shelf-refused h = record { faults_told = h.faults_told; absences_told = h.absences_told }

  -- ---- the status

  module _ {K : Type 0} {write_faults : K → ℕ} where
    -- where no count rose, any status
    pub status-quiet : {before after : S} {from to : K} (status : ℕ) → faults after ≡ faults before → absences after ≡ absences before
        → write_faults to ≡ write_faults from → StatusTold faults absences write_faults before after from to status
    status-quiet status h k w = record {
      write_failed = λ more. absurd (omega arith);
      read_failed = λ more. absurd (omega arith);
      absent = λ more. absurd (omega arith);
    }

    -- where no shelf was called
    pub status-shelfless : {shelf : S} {from to : K} (status : ℕ) → (write_faults from < write_faults to → status ≡ 6)
        → StatusTold faults absences write_faults shelf shelf from to status
    status-shelfless status f = record {
      write_failed = f;
      read_failed = λ more. absurd (omega arith);
      absent = λ more. absurd (omega arith);
    }

    -- what was done
    pub status-done : {A : Type 0} {before after : S} {from to : K} {x : A} (status : ℕ) → ShelfTold faults absences before after (Ok x)
        → write_faults to ≡ write_faults from → StatusTold faults absences write_faults before after from to status
    status-done status h w = status-quiet status h.faults_told h.absences_told w

    -- a write failed
    pub status-unwritable : {before after : S} {from to : K} → StatusTold faults absences write_faults before after from to 6
    status-unwritable = record { write_failed = λ _. refl; read_failed = λ _. inr refl; absent = λ _. inr refl }

    -- memory ran out
    pub status-memory : {A : Type 0} {before after : S} {from to : K} → ShelfTold {A = A} faults absences before after (Err OutOfMemory)
        → write_faults to ≡ write_faults from → StatusTold faults absences write_faults before after from to 10
    status-memory h w = status-quiet 10 h.faults_told h.absences_told w

    -- a fault line was written that tells no fault of the shelf, or a write failed
    pub status-lined : {A : Type 0} {before after : S} {from to : K} {x : A} {written : ℕ} (status : ℕ) → ShelfTold faults absences before after (Ok x)
        → written ≡ write_faults from → (written < write_faults to → status ≡ 6)
        → StatusTold faults absences write_faults before after from to status
    status-lined status h w f = record {
      write_failed = λ more. f (omega arith);
      read_failed = λ more. let e = h.faults_told in absurd (omega arith);
      absent = λ more. let e = h.absences_told in absurd (omega arith);
    }

    -- a text was refused, and the line of the cause written, or a write failed
    pub status-refused : {A : Type 0} {before after : S} {from to : K} {written : ℕ} (name : List ℕ) (role : Role) (refusal : TextRefusal) (cause : Cause)
        (failed : Type 0) (told later : Option (List ℕ)) (status : ℕ) → ShelfTold {A = A} faults absences before after (Err (Text role refusal))
        → written ≡ write_faults from → (written < write_faults to → status ≡ 6) → cause ≡ cause_of name refusal
        → Refuses cause failed told later status → StatusTold faults absences write_faults before after from to status
    status-refused {before} {after} name role refusal cause failed told later status h w f same r = record {
      write_failed = λ more. f (omega arith);
      read_failed = λ more. by r (read refusal h.faults_told more);
      absent = λ more. by r (none refusal h.absences_told more);
    }
      where
        by : {n : ℕ} → Refuses cause failed told later status → cause_status (cause_of name refusal) ≡ n → (status ≡ n) ⊎ (status ≡ 6)
        by (line s a) e = inl (s ∙ (ap cause_status same ∙ e))
        by (cut s g a) e = inr s

        read : (refusal : TextRefusal) → FaultsBy (faults before) (faults after) (Text role refusal) → faults before < faults after
            → cause_status (cause_of name refusal) ≡ 5
        read text.Absent k more = absurd (omega arith)
        read text.Unreadable k more = refl
        read text.Oversized k more = absurd (omega arith)
        read (text.Faulty fault) k more = absurd (omega arith)

        none : (refusal : TextRefusal) → AbsencesBy (absences before) (absences after) (Text role refusal) → absences before < absences after
            → cause_status (cause_of name refusal) ≡ 4
        none text.Absent k more = refl
        none text.Unreadable k more = absurd (omega arith)
        none text.Oversized k more = absurd (omega arith)
        none (text.Faulty fault) k more = absurd (omega arith)
