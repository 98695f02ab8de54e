-- How the words of a form are read: by the word that they begin with, and from part to part.
use Rattle.std.specs.Prelude.{◌≡◌, ℕ, ◌+◌, true, false, List, slice_get, Option, Some, None, IsSomeAnd, IfSome, codes}
use Rattle.ll_top.specs.declared.forms.words.Command.{Command}
use Rattle.ll_top.specs.declared.forms.words.Command.TheVariants as command
use Rattle.ll_top.specs.declared.forms.words.FormWord.{FormWord}
use Rattle.ll_top.specs.declared.forms.words.FormWord.TheVariants.{Run, Session, Deepen, Print, Check, Cover, Convert, Make}
use Rattle.ll_top.specs.forms.Begins.{IsFirstBad}
use Rattle.ll_top.specs.forms.Words.{Part, is_part, is_word, Form, FitsForm}

-- the word at this place may stand for the part
abbrev pub HasPart : List (List ℕ) → ℕ → Part → Type 0
HasPart words at p = IsSomeAnd (slice_get words at) (λ w. is_part p w ≡ true)

-- there is no such word
abbrev pub LacksPart : List (List ℕ) → ℕ → Part → Type 0
LacksPart words at p = IfSome (slice_get words at) (λ w. is_part p w ≡ false)

-- the word of this number is the first one through which no words of the form begin
pub record IsBadFormWord (form : Form) (words : List (List ℕ)) (number : ℕ) : Type 0 where
  pub place : ℕ
  pub is : number ≡ place + 1
  pub bad : IsFirstBad (FitsForm form) words place

-- what the words of a form begin with
abbrev pub form_word : FormWord → List ℕ
form_word Run = codes "run"
form_word Session = codes "session"
form_word Deepen = codes "deepen"
form_word Print = codes "print"
form_word Check = codes "check"
form_word Cover = codes "cover"
form_word Convert = codes "convert"
form_word Make = codes "make"

-- no form begins with this word
abbrev pub IsNoFormWord : List ℕ → Type 0
IsNoFormWord word = (form : FormWord) → is_word word (form_word form) ≡ false

-- how many search for a command, where it says so
abbrev pub workers_of : Command → Option ℕ
workers_of (command.Run run) = Some run.workers
workers_of (command.Session session) = Some session.workers
workers_of (command.Deepen deepen) = Some deepen.workers
workers_of (command.MadeRun run) = Some run.workers
workers_of c = None
