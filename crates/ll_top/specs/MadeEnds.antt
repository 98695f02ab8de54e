-- How a run of a program that is made ends, before any fault line is written.
use Rattle.std.specs.Prelude.{◌≡◌, ℕ, List, Option, Result, Ok, Err}
use Rattle.std.specs.Io.KnownBytes.{append_known}
use Rattle.ll_edge.specs.Pieces.{AppendsFront}
use Rattle.ll_laws.specs.Problem.{ProblemTree}
use Rattle.ll_laws.specs.Output.{run_status}
use Rattle.ll_top.specs.declared.run.Found.{Found}
use Rattle.ll_top.specs.declared.texts.refusing.Refusal.{Refusal}
use Rattle.ll_top.specs.declared.texts.refusing.Refusal.TheVariants.{Text, Unwritable, OutOfMemory}
use Rattle.ll_top.specs.forms.Making.{MadeRunWords}
use Rattle.ll_top.specs.MadeRuns.{MadeAsks, last_line, MadeRunComesTo}
use Rattle.ll_top.specs.texts.CallEnds.{AppendsOwn}
use Rattle.ll_top.specs.Endings.{status_of_found}

abbrev pub MadeRunEnds : Type 0 → MadeRunWords → Option (List ℕ) → Option (List ℕ) → Result Found Refusal → Type 0
MadeRunEnds write_failed run before after (Ok found) = (p : ProblemTree) × MadeAsks run p × (status_of_found found ≡ run_status p)
    × (after ≡ append_known before (last_line p))
MadeRunEnds write_failed run before after (Err (Text role refusal)) = ⊥
MadeRunEnds write_failed run before after (Err Unwritable) = (p : ProblemTree) × MadeAsks run p × write_failed × AppendsFront before (last_line p) after
MadeRunEnds write_failed run before after (Err OutOfMemory) = AppendsOwn (MadeRunComesTo run) before after
