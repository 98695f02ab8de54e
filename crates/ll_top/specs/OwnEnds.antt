-- How a call ended, before any fault line is written.
use Rattle.std.specs.Prelude.{◌≡◌, ℕ, List, Option, Result, Ok, Err}
use Rattle.std.specs.Io.KnownBytes.{append_known}
use Rattle.ll_edge.specs.Pieces.{AppendsFront}
use Rattle.ll_top.specs.declared.texts.judge.Role.{Role}
use Rattle.ll_top.specs.declared.texts.refusing.TextRefusal.{TextRefusal}
use Rattle.ll_top.specs.declared.texts.refusing.Refusal.{Refusal}
use Rattle.ll_top.specs.declared.texts.refusing.Refusal.TheVariants.{Text, Unwritable, OutOfMemory}
use Rattle.ll_top.specs.texts.CallEnds.{AppendsOwn}

-- What a call did that comes to this, and what it answers: it wrote its whole text; or it refuses one of its texts, and wrote nothing; or a
-- write failed, or memory ran out, and a prefix of its text was written.
abbrev pub EndsOwn : {A : Type 0} → (ℕ → List ℕ → Type 0) → (A → ℕ) → (Role → TextRefusal → Type 0) → Type 0 → Option (List ℕ) → Option (List ℕ)
    → Result A Refusal → Type 0
EndsOwn Comes status_of Fails write_failed before after (Ok done) = (text : List ℕ) × Comes (status_of done) text × (after ≡ append_known before text)
EndsOwn Comes status_of Fails write_failed before after (Err (Text role refusal)) = Fails role refusal × (after ≡ before)
EndsOwn Comes status_of Fails write_failed before after (Err Unwritable) =
    (meant : ℕ) × (text : List ℕ) × Comes meant text × write_failed × AppendsFront before text after
EndsOwn Comes status_of Fails write_failed before after (Err OutOfMemory) = AppendsOwn Comes before after

-- no text is refused
abbrev pub NoneFails : Role → TextRefusal → Type 0
NoneFails role refusal = ⊥
