-- The forms of a command's words.
use Rattle.std.specs.Prelude.{◌≡◌, ◌⊎◌, ℕ, ◌+◌, ◌<◌, ◌≤◌, Bool, true, false, ◌&&◌, not, List, [], ◌∷◌, length, filter, nat_eq, nat_le, slice_get, Option, Some}
use Rattle.std.specs.Prelude.{None, is_some, if◌then◌else◌, codes, map, option_map, IfSome}
use Rattle.std.specs.Borrow.{Bor}
use Rattle.ll_top.specs.declared.forms.words.RunCommand.{RunCommand}
use Rattle.ll_top.specs.declared.forms.words.SessionCommand.{SessionCommand}
use Rattle.ll_top.specs.declared.forms.words.DeepenCommand.{DeepenCommand}
use Rattle.ll_top.specs.declared.forms.words.ConvertCommand.{ConvertCommand}
use Rattle.ll_top.specs.declared.forms.words.CheckCommand.{CheckCommand}
use Rattle.ll_top.specs.declared.forms.making.MakeCommand.{MakeCommand}
use Rattle.ll_top.specs.declared.forms.making.MadeRunCommand.{MadeRunCommand}
use Rattle.ll_top.specs.declared.forms.words.Command.{Command}
use Rattle.ll_top.specs.declared.forms.words.Command.TheVariants.{Run, Session, Deepen, Print, Check, Convert, Make, MadeRun}
use Rattle.std.specs.Str.{bytes_eq}
use Rattle.std.specs.Char.{is_ascii_digit}
use Rattle.std.specs.Str.Parse.{digits_value}
use Rattle.std.specs.List.{list_all, list_any, starts_with}
use Rattle.ll_deepen.specs.declared.series.Series.{Series}
use Rattle.ll_deepen.specs.Deciding.{IsSeries}
use Rattle.ll_make.specs.declared.kind.MakeKind.{MakeKind}
use Rattle.ll_make.specs.declared.kind.MakeKind.TheVariants.{Perm, Choice, Chain}
use Rattle.ll_make.specs.Kinds.{least_number, greatest_number, InRange as FitsKind}
use Rattle.ll_top.specs.forms.Begins.{IsFirstBad}
use Rattle.ll_top.specs.forms.Making.{kind_word, MakeWords, MadeRunWords}

-- the words as bytes
abbrev pub word_texts : List (Bor (List ℕ)) → List (List ℕ)
word_texts words = map (λ w. w.now) words

-- the word is this text
abbrev pub is_word : List ℕ → List ℕ → Bool
is_word word text = bytes_eq word text

-- a name: a word that is not empty and does not begin with `--`
abbrev pub is_name_word : List ℕ → Bool
is_name_word [] = false
is_name_word (b ∷ bs) = not (starts_with nat_eq (b ∷ bs) (codes "--"))

-- a number: one to nine ASCII digits
abbrev pub is_number_word : List ℕ → Bool
is_number_word word = not (nat_eq (length word) 0) && nat_le (length word) 9 && list_all is_ascii_digit word

-- a value that is not below the least nor above the greatest
abbrev pub value_within : ℕ → ℕ → ℕ → Option ℕ
value_within least greatest value = if nat_le least value && nat_le value greatest then Some value else None

-- the value of a word that is a number from the least to the greatest
abbrev pub number_from : ℕ → ℕ → List ℕ → Option ℕ
number_from least greatest word = if is_number_word word then value_within least greatest (digits_value 10 word) else None

-- ---- forms

-- what stands at one word of a form: this word, a name, or a number from the least to the greatest
pub data Part : Type 0 where
  ThisWord : List ℕ → Part
  AnyName : Part
  NumberFrom : ℕ → ℕ → Part

-- the word may stand there
abbrev pub is_part : Part → List ℕ → Bool
is_part (ThisWord text) word = is_word word text
is_part AnyName word = is_name_word word
is_part (NumberFrom least greatest) word = is_some (number_from least greatest word)

-- an option: its word, what stands behind it, and whether it may lack
pub record OptionForm : Type 0 where
  pub word : List ℕ
  pub values : List Part
  pub may_lack : Bool

-- a form: its words in their order, and the options behind them
pub record Form : Type 0 where
  pub parts : List Part
  pub options : List OptionForm

-- an option among options, and the others
pub data TakesOption (o : OptionForm) : List OptionForm → List OptionForm → Type 0 where
  here : {first : OptionForm} {os : List OptionForm} → first ≡ o → TakesOption o (first ∷ os) os
  behind : {first : OptionForm} {os others : List OptionForm} → TakesOption o os others → TakesOption o (first ∷ os) (first ∷ others)

-- words are in a form: one for each of its parts, and then its options in any order, each once, where one that may lack may be left out
pub data FitsParts : List Part → List OptionForm → List (List ℕ) → Type 0 where
  part : {p : Part} {ps : List Part} {os : List OptionForm} {w : List ℕ} {ws : List (List ℕ)} → is_part p w ≡ true
      → FitsParts ps os ws → FitsParts (p ∷ ps) os (w ∷ ws)
  option : {o : OptionForm} {os others : List OptionForm} {w : List ℕ} {ws : List (List ℕ)} → TakesOption o os others
      → w ≡ o.word → FitsParts o.values others ws
      → FitsParts [] os (w ∷ ws)
  done : {os : List OptionForm} → list_all (λ o. o.may_lack) os ≡ true → FitsParts [] os []

abbrev pub FitsForm : Form → List (List ℕ) → Type 0
FitsForm form words = FitsParts form.parts form.options words

-- words are in one of these forms
abbrev pub FitsSome : List Form → List (List ℕ) → Type 0
FitsSome [] words = ⊥
FitsSome (form ∷ others) words = FitsForm form words ⊎ FitsSome others words

-- ---- the forms of today

-- the greatest bound, and the greatest number of workers
abbrev pub greatest_bound : ℕ
greatest_bound = 1000000

abbrev pub greatest_workers : ℕ
greatest_workers = 64

-- `--bound N`
abbrev pub bound_option : OptionForm
bound_option = record { word = codes "--bound"; values = NumberFrom 0 greatest_bound ∷ []; may_lack = false }

-- `--workers W`
abbrev pub workers_option : OptionForm
workers_option = record { word = codes "--workers"; values = NumberFrom 1 greatest_workers ∷ []; may_lack = false }

-- `--proofs`
abbrev pub proofs_option : OptionForm
proofs_option = record { word = codes "--proofs"; values = []; may_lack = true }

-- the greatest number of answers that words ask for
abbrev pub greatest_first : ℕ
greatest_first = 999999999

-- `--first K`
abbrev pub first_option : OptionForm
first_option = record { word = codes "--first"; values = NumberFrom 1 greatest_first ∷ []; may_lack = true }

-- `run PROGRAM QUERY --bound N --workers W [--proofs] [--first K]`
abbrev pub run_form : Form
run_form = record { parts = ThisWord (codes "run") ∷ AnyName ∷ AnyName ∷ []; options = bound_option ∷ workers_option ∷ proofs_option ∷ first_option ∷ [] }

-- `session PROGRAM QUERIES --bound N --workers W [--proofs]`
abbrev pub session_form : Form
session_form = record { parts = ThisWord (codes "session") ∷ AnyName ∷ AnyName ∷ []; options = bound_option ∷ workers_option ∷ proofs_option ∷ [] }

-- `--from A`, where A is at most m
abbrev pub from_option : ℕ → OptionForm
from_option m = record { word = codes "--from"; values = NumberFrom 0 m ∷ []; may_lack = false }

-- `--by B`
abbrev pub by_option : OptionForm
by_option = record { word = codes "--by"; values = NumberFrom 1 greatest_bound ∷ []; may_lack = false }

-- `--to C`, where C is at least m
abbrev pub to_option : ℕ → OptionForm
to_option m = record { word = codes "--to"; values = NumberFrom m greatest_bound ∷ []; may_lack = false }

-- `deepen PROGRAM QUERY --from A --by B --to C --workers W [--proofs]`, where A is at most m, and C is at least m
abbrev pub deepen_form : ℕ → Form
deepen_form m =
    record {
      parts = ThisWord (codes "deepen") ∷ AnyName ∷ AnyName ∷ [];
      options =
          from_option m ∷ by_option ∷ to_option m ∷ workers_option ∷ proofs_option ∷ [];
    }

-- words are in the form of a deepening, whose first bound is at most its last one
abbrev pub IsDeepenForm : List (List ℕ) → Type 0
IsDeepenForm words = (m : ℕ) × (m ≤ greatest_bound) × FitsForm (deepen_form m) words

-- `--to V`
abbrev pub version_option : OptionForm
version_option = record { word = codes "--to"; values = NumberFrom 1 2 ∷ []; may_lack = false }

-- `convert PROOF --to V`
abbrev pub convert_form : Form
convert_form = record { parts = ThisWord (codes "convert") ∷ AnyName ∷ []; options = version_option ∷ [] }

-- `print PROGRAM`
abbrev pub print_form : Form
print_form = record { parts = ThisWord (codes "print") ∷ AnyName ∷ []; options = [] }

-- `check PROGRAM QUERY PROOF`
abbrev pub check_form : Form
check_form = record { parts = ThisWord (codes "check") ∷ AnyName ∷ AnyName ∷ AnyName ∷ []; options = [] }

-- `cover PROGRAM QUERY PROOF --bound N`
abbrev pub cover_form : Form
cover_form = record { parts = ThisWord (codes "cover") ∷ AnyName ∷ AnyName ∷ AnyName ∷ []; options = bound_option ∷ [] }

-- `make KIND N`, of this kind
abbrev pub make_parts : MakeKind → List Part
make_parts kind = ThisWord (codes "make") ∷ ThisWord (kind_word kind) ∷ NumberFrom (least_number kind) (greatest_number kind) ∷ []

abbrev pub make_form : MakeKind → Form
make_form kind = record { parts = make_parts kind; options = [] }

-- `make KIND N --bound B --workers W`, of this kind
abbrev pub made_options : List OptionForm
made_options = bound_option ∷ workers_option ∷ []

abbrev pub made_run_form : MakeKind → Form
made_run_form kind = record { parts = make_parts kind; options = made_options }

-- the forms but that of a deepening
abbrev pub forms : List Form
forms =
    run_form ∷ session_form ∷ print_form ∷ check_form ∷ cover_form ∷ convert_form ∷ make_form Perm ∷ make_form Choice ∷ make_form Chain ∷ made_run_form Perm
    ∷ made_run_form Choice ∷ made_run_form Chain ∷ []

-- words are in a form
abbrev pub IsInForm : List (List ℕ) → Type 0
IsInForm words = FitsSome forms words ⊎ IsDeepenForm words

-- words are in a form that has the option `--workers`, as that of a deepening has
abbrev pub has_workers : Form → Bool
has_workers form = list_any (λ o. is_word o.word (codes "--workers")) form.options

abbrev pub IsInWorkersForm : List (List ℕ) → Type 0
IsInWorkersForm words = FitsSome (filter has_workers forms) words ⊎ IsDeepenForm words

-- the word of this number, counted from 1, is the first one through which no form's words begin; it is one past the last where they end early
pub record IsBadWord (words : List (List ℕ)) (number : ℕ) : Type 0 where
  pub place : ℕ
  pub is : number ≡ place + 1
  pub bad : IsFirstBad IsInForm words place

-- ---- what words ask for

-- what the words `run PROGRAM QUERY --bound N --workers W [--proofs] [--first K]` ask for: all answers, or the first K
pub record RunWords : Type 0 where
  pub program : List ℕ
  pub query : List ℕ
  pub bound : ℕ
  pub workers : ℕ
  pub proofs : Bool
  pub first : Option ℕ

-- what the words `session PROGRAM QUERIES --bound N --workers W [--proofs]` ask for
pub record SessionWords : Type 0 where
  pub program : List ℕ
  pub queries : List ℕ
  pub bound : ℕ
  pub workers : ℕ
  pub proofs : Bool

-- what the words `deepen PROGRAM QUERY --from A --by B --to C --workers W [--proofs]` ask for
pub record DeepenWords : Type 0 where
  pub program : List ℕ
  pub query : List ℕ
  pub series : Series
  pub workers : ℕ
  pub proofs : Bool

-- what the words `convert PROOF --to V` ask for
pub record ConvertWords : Type 0 where
  pub proof : List ℕ
  pub version : ℕ

-- the number in the word behind the first one that is this text
abbrev pub number_behind : List ℕ → List (List ℕ) → Option ℕ
number_behind text [] = None
number_behind text (w ∷ []) = None
number_behind text (w ∷ v ∷ ws) = if is_word w text then Some (digits_value 10 v) else number_behind text (v ∷ ws)

-- some word is this text
abbrev pub has_word : List ℕ → List (List ℕ) → Bool
has_word text words = list_any (λ w. is_word w text) words

-- the number of answers that `--first` asks for, or nothing where it lacks
abbrev pub HasFirst : List (List ℕ) → Option ℕ → Type 0
HasFirst words None = has_word (codes "--first") words ≡ false
HasFirst words (Some k) = number_behind (codes "--first") words ≡ Some k

-- Words are in the form of a run, and ask for this. The word of an option stands behind the names: no name begins with `--`, and no value does.
pub record IsRun (words : List (List ℕ)) (run : RunWords) : Type 0 where
  pub form : FitsForm run_form words
  pub program : slice_get words 1 ≡ Some run.program
  pub query : slice_get words 2 ≡ Some run.query
  pub bound : number_behind (codes "--bound") words ≡ Some run.bound
  pub workers : number_behind (codes "--workers") words ≡ Some run.workers
  pub proofs : has_word (codes "--proofs") words ≡ run.proofs
  pub first : HasFirst words run.first

-- words are in the form of a session, and ask for this
pub record IsSession (words : List (List ℕ)) (session : SessionWords) : Type 0 where
  pub form : FitsForm session_form words
  pub program : slice_get words 1 ≡ Some session.program
  pub queries : slice_get words 2 ≡ Some session.queries
  pub bound : number_behind (codes "--bound") words ≡ Some session.bound
  pub workers : number_behind (codes "--workers") words ≡ Some session.workers
  pub proofs : has_word (codes "--proofs") words ≡ session.proofs

-- words are in the form of a deepening, and ask for this
pub record IsDeepen (words : List (List ℕ)) (deepen : DeepenWords) : Type 0 where
  pub form : IsDeepenForm words
  pub program : slice_get words 1 ≡ Some deepen.program
  pub query : slice_get words 2 ≡ Some deepen.query
  pub from_is : number_behind (codes "--from") words ≡ Some deepen.series.from
  pub by_is : number_behind (codes "--by") words ≡ Some deepen.series.by
  pub to_is : number_behind (codes "--to") words ≡ Some deepen.series.to
  pub workers : number_behind (codes "--workers") words ≡ Some deepen.workers
  pub proofs : has_word (codes "--proofs") words ≡ deepen.proofs

-- words are in the form of a conversion, and ask for this
pub record IsConvert (words : List (List ℕ)) (convert : ConvertWords) : Type 0 where
  pub form : FitsForm convert_form words
  pub proof : slice_get words 1 ≡ Some convert.proof
  pub version : number_behind (codes "--to") words ≡ Some convert.version

-- words are in the form of a print, and this is the name of its program
pub record IsPrint (words : List (List ℕ)) (name : List ℕ) : Type 0 where
  pub form : FitsForm print_form words
  pub program : slice_get words 1 ≡ Some name

-- What the words `check PROGRAM QUERY PROOF` ask for, or the words `cover PROGRAM QUERY PROOF --bound N`. These have a bound: they also ask
-- which answer of the search with this bound covers the derivation.
pub record CheckWords : Type 0 where
  pub program : List ℕ
  pub query : List ℕ
  pub proof : List ℕ
  pub bound : Option ℕ

-- words are in the form of a check where there is no bound, and otherwise in that of a cover, whose last word is the bound
abbrev pub IsCheckForm : List (List ℕ) → Option ℕ → Type 0
IsCheckForm words None = FitsForm check_form words
IsCheckForm words (Some bound) = FitsForm cover_form words × (option_map (digits_value 10) (slice_get words 5) ≡ Some bound)

-- words are in the form of a check or of a cover, with these names of its texts, and this bound
pub record IsCheck (words : List (List ℕ)) (check : CheckWords) : Type 0 where
  pub form : IsCheckForm words check.bound
  pub program : slice_get words 1 ≡ Some check.program
  pub query : slice_get words 2 ≡ Some check.query
  pub proof : slice_get words 3 ≡ Some check.proof

-- words are in the form of a make of this kind, and this is their number
pub record IsMake (words : List (List ℕ)) (make : MakeWords) : Type 0 where
  pub form : FitsForm (make_form make.kind) words
  pub number : option_map (digits_value 10) (slice_get words 2) ≡ Some make.number

-- words are in the form of a run of a make of this kind, and ask for this
pub record IsMadeRun (words : List (List ℕ)) (run : MadeRunWords) : Type 0 where
  pub form : FitsForm (made_run_form run.make.kind) words
  pub number : option_map (digits_value 10) (slice_get words 2) ≡ Some run.make.number
  pub bound : number_behind (codes "--bound") words ≡ Some run.bound
  pub workers : number_behind (codes "--workers") words ≡ Some run.workers

-- what the program's record of a run shows
abbrev pub shown_words : RunCommand → RunWords
shown_words c = record { program = c.program.now; query = c.query.now; bound = c.bound; workers = c.workers; proofs = c.proofs; first = c.first }

-- what the program's record of a session shows
abbrev pub shown_session : SessionCommand → SessionWords
shown_session c = record { program = c.program.now; queries = c.queries.now; bound = c.bound; workers = c.workers; proofs = c.proofs }

-- what the program's record of a deepening shows
abbrev pub shown_deepen : DeepenCommand → DeepenWords
shown_deepen c = record { program = c.program.now; query = c.query.now; series = c.series; workers = c.workers; proofs = c.proofs }

-- what the program's record of a conversion shows
abbrev pub shown_convert : ConvertCommand → ConvertWords
shown_convert c = record { proof = c.proof.now; version = c.version }

-- what the program's record of a check or a cover shows
abbrev pub shown_check : CheckCommand → CheckWords
shown_check c = record { program = c.program.now; query = c.query.now; proof = c.proof.now; bound = c.bound }

-- what the program's record of a make shows
abbrev pub shown_make : MakeCommand → MakeWords
shown_make c = record { kind = c.kind; number = c.number }

-- what the program's record of a run of a make shows
abbrev pub shown_made_run : MadeRunCommand → MadeRunWords
shown_made_run c = record { make = shown_make c.make; bound = c.bound; workers = c.workers }

-- words ask for this command
abbrev pub IsCommand : List (List ℕ) → Command → Type 0
IsCommand words (Run run) = IsRun words (shown_words run)
IsCommand words (Session session) = IsSession words (shown_session session)
IsCommand words (Deepen deepen) = IsDeepen words (shown_deepen deepen)
IsCommand words (Print name) = IsPrint words name.now
IsCommand words (Check check) = IsCheck words (shown_check check)
IsCommand words (Convert convert) = IsConvert words (shown_convert convert)
IsCommand words (Make make) = IsMake words (shown_make make)
IsCommand words (MadeRun run) = IsMadeRun words (shown_made_run run)

-- a number of workers
abbrev pub IsWorkerCount : ℕ → Type 0
IsWorkerCount n = (0 < n) × (n ≤ greatest_workers)

-- a version of the text of a derivation
abbrev pub IsVersion : ℕ → Type 0
IsVersion version = (version ≡ 1) ⊎ (version ≡ 2)

-- A command's bound, where it has one, is not past the greatest, nor is the number of its workers, and the number of a make fits its kind.
-- The first answers that a run asks for are one at least. The bounds of a deepening are a series, and a conversion is to a version that there is.
abbrev pub IsBounded : Command → Type 0
IsBounded (Run run) = (run.bound ≤ greatest_bound) × IsWorkerCount run.workers × IfSome run.first (λ first. 0 < first)
IsBounded (Session session) = (session.bound ≤ greatest_bound) × IsWorkerCount session.workers
IsBounded (Deepen deepen) = IsSeries deepen.series × IsWorkerCount deepen.workers
IsBounded (Print name) = Unit {0}
IsBounded (Check check) = IfSome check.bound (λ bound. bound ≤ greatest_bound)
IsBounded (Convert convert) = IsVersion convert.version
IsBounded (Make make) = FitsKind make.kind make.number
IsBounded (MadeRun run) = FitsKind run.make.kind run.make.number × (run.bound ≤ greatest_bound) × IsWorkerCount run.workers
