-- What the end of a call tells of the counts of faults outside.
use Rattle.std.specs.Prelude.{◌≡◌, ◌<◌, ◌⊎◌, ⊤, ℕ, Result, MatchResult}
use Rattle.ll_top.specs.declared.texts.refusing.TextRefusal.TheVariants as text
use Rattle.ll_top.specs.declared.texts.refusing.Refusal.{Refusal}
use Rattle.ll_top.specs.declared.texts.refusing.Refusal.TheVariants.{Text, Unwritable, OutOfMemory}

-- a shelf's count of calls that failed, by a refusal: it stands still, unless a text can't be read
abbrev pub FaultsBy : ℕ → ℕ → Refusal → Type 0
FaultsBy before after (Text role text.Absent) = after ≡ before
FaultsBy before after (Text role text.Unreadable) = ⊤
FaultsBy before after (Text role text.Oversized) = after ≡ before
FaultsBy before after (Text role (text.Faulty fault)) = after ≡ before
FaultsBy before after Unwritable = after ≡ before
FaultsBy before after OutOfMemory = after ≡ before

-- its count of calls that found no text: it stands still, unless there is no text of a name
abbrev pub AbsencesBy : ℕ → ℕ → Refusal → Type 0
AbsencesBy before after (Text role text.Absent) = ⊤
AbsencesBy before after (Text role text.Unreadable) = after ≡ before
AbsencesBy before after (Text role text.Oversized) = after ≡ before
AbsencesBy before after (Text role (text.Faulty fault)) = after ≡ before
AbsencesBy before after Unwritable = after ≡ before
AbsencesBy before after OutOfMemory = after ≡ before

-- a sink's count of faults, by a refusal: it stands still, unless the sink failed
abbrev pub WritesBy : ℕ → ℕ → Refusal → Type 0
WritesBy before after (Text role refusal) = after ≡ before
WritesBy before after Unwritable = ⊤
WritesBy before after OutOfMemory = after ≡ before

-- A shelf's counts stand still, unless the refusal is that a text can't be read, or that there is none.
pub record ShelfTold {S A : Type 0} (faults absences : S → ℕ) (before after : S) (result : Result A Refusal) : Type 0 where
  pub faults_told : MatchResult result (λ _. faults after ≡ faults before) (FaultsBy (faults before) (faults after))
  pub absences_told : MatchResult result (λ _. absences after ≡ absences before) (AbsencesBy (absences before) (absences after))

-- A sink's count stands still, unless the refusal is that the sink failed.
abbrev pub SinkTold : {A : Type 0} → ℕ → ℕ → Result A Refusal → Type 0
SinkTold before after result = MatchResult result (λ _. after ≡ before) (WritesBy before after)

-- The status tells each fault outside. It is 6 where a sink's count of faults is greater after the call than before. Else it is 5 where that of a
-- shelf's failed calls is, and 4 where that of the calls that found no text is.
pub record StatusTold {S K : Type 0} (faults absences : S → ℕ) (write_faults : K → ℕ) (before after : S) (from to : K) (status : ℕ) : Type 0 where
  pub write_failed : write_faults from < write_faults to → status ≡ 6
  pub read_failed : faults before < faults after → (status ≡ 5) ⊎ (status ≡ 6)
  pub absent : absences before < absences after → (status ≡ 4) ⊎ (status ≡ 6)
