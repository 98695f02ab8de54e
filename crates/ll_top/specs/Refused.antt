-- How a call ends that refuses something.
use Rattle.std.specs.Prelude.{◌≡◌, ℕ, List, [], Option}
use Rattle.ll_top.specs.declared.texts.judge.Role.{Role}
use Rattle.ll_top.specs.declared.texts.judge.Role.TheVariants.{Program, Query, Proof}
use Rattle.ll_top.specs.declared.texts.refusing.Refusal.{Refusal}
use Rattle.ll_top.specs.declared.texts.refusing.Refusal.TheVariants.{Text, Unwritable, OutOfMemory}
use Rattle.ll_top.specs.texts.Endings.{cause_of, Refuses}

-- the name of a text of a call that has a program and a query, and no derivation
abbrev pub named : List ℕ → List ℕ → Role → List ℕ
named program query Program = program
named program query Query = query
named program query Proof = []

-- What is done of a refusal, and the status: the line of the cause is written where a text is refused, and else nothing is touched.
abbrev pub EndsRefused : (Role → List ℕ) → Type 0 → Type 0 → Option (List ℕ) → Option (List ℕ) → ℕ → Refusal → Type 0
EndsRefused name write_failed untouched before after status (Text role refusal) = Refuses (cause_of (name role) refusal) write_failed before after status
EndsRefused name write_failed untouched before after status Unwritable = (status ≡ 6) × untouched
EndsRefused name write_failed untouched before after status OutOfMemory = (status ≡ 10) × untouched
