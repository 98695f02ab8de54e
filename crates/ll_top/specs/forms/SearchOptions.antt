-- How the words of a run, of a session and of a deepening are read: up to some word, with the values of the options that were come to.
use Rattle.std.specs.Prelude.{◌≡◌, ℕ, ◌+◌, ◌≤◌, Bool, true, false, not, List, [], ◌∷◌, length, map, filter, take, slice_get, All, Option, Some, None, is_some}
use Rattle.std.specs.Prelude.{unwrap_or, IfSome, MatchOption, codes}
use Rattle.std.specs.List.{list_any}
use Rattle.ll_top.specs.declared.forms.searches.SearchForm.{SearchForm}
use Rattle.ll_top.specs.declared.forms.searches.SearchForm.TheVariants.{Run, Session, Deepen}
use Rattle.ll_top.specs.declared.forms.searches.SearchOption.{SearchOption}
use Rattle.ll_top.specs.declared.forms.searches.SearchOption.TheVariants.{Bound, Workers, Proofs, First, From, By, To}
use Rattle.ll_top.specs.declared.forms.searches.SearchOptions.{SearchOptions}
use Rattle.ll_top.specs.forms.Begins.{IsFirstBad, Leads}
use Rattle.ll_top.specs.forms.Words.{ThisWord, AnyName, is_word, OptionForm, Form}
use Rattle.ll_top.specs.forms.Words.{FitsParts, FitsForm, bound_option, workers_option, proofs_option, first_option}
use Rattle.ll_top.specs.forms.Words.{from_option, by_option, to_option, number_behind, has_word, greatest_bound, greatest_workers, greatest_first}

-- ---- the three forms

-- the word of an option
abbrev pub option_word : SearchOption → List ℕ
option_word Bound = codes "--bound"
option_word Workers = codes "--workers"
option_word Proofs = codes "--proofs"
option_word First = codes "--first"
option_word From = codes "--from"
option_word By = codes "--by"
option_word To = codes "--to"

-- an option, where the first bound of a deepening is at most m, and the last one at least m
abbrev pub option_form : ℕ → SearchOption → OptionForm
option_form m Bound = bound_option
option_form m Workers = workers_option
option_form m Proofs = proofs_option
option_form m First = first_option
option_form m From = from_option m
option_form m By = by_option
option_form m To = to_option m

-- the word of a form, and its options
abbrev pub search_word : SearchForm → List ℕ
search_word Run = codes "run"
search_word Session = codes "session"
search_word Deepen = codes "deepen"

abbrev pub options_of : SearchForm → List SearchOption
options_of Run = Bound ∷ Workers ∷ Proofs ∷ First ∷ []
options_of Session = Bound ∷ Workers ∷ Proofs ∷ []
options_of Deepen = From ∷ By ∷ To ∷ Workers ∷ Proofs ∷ []

abbrev pub search_form : SearchForm → ℕ → Form
search_form form m = record { parts = ThisWord (search_word form) ∷ AnyName ∷ AnyName ∷ []; options = map (option_form m) (options_of form) }

-- words are in the form
abbrev pub IsSearchForm : SearchForm → List (List ℕ) → Type 0
IsSearchForm form words = (m : ℕ) × (m ≤ greatest_bound) × FitsForm (search_form form m) words

-- the word of this number is the first one through which no words of the form begin
pub record IsBadSearchWord (form : SearchForm) (words : List (List ℕ)) (number : ℕ) : Type 0 where
  pub place : ℕ
  pub is : number ≡ place + 1
  pub bad : IsFirstBad (IsSearchForm form) words place

-- ---- options that were read

-- both are the same option
abbrev pub same_option : SearchOption → SearchOption → Bool
same_option o p = is_word (option_word o) (option_word p)

-- the form has the option
abbrev pub offers : SearchForm → SearchOption → Bool
offers form o = list_any (same_option o) (options_of form)

-- an option without a number has the value 0 once it was read
abbrev pub flag : Bool → Option ℕ
flag false = None
flag true = Some 0

-- the value of an option, or nothing where it was not come to
abbrev pub value : SearchOptions → SearchOption → Option ℕ
value options Bound = options.bound
value options Workers = options.workers
value options Proofs = flag options.proofs
value options First = options.first
value options From = options.from
value options By = options.by
value options To = options.to

-- none was read
abbrev pub no_options : SearchOptions
no_options = record { bound = None; workers = None; proofs = false; first = None; from = None; by = None; to = None }

-- one more was read, with this value
abbrev pub with_value : SearchOptions → SearchOption → ℕ → SearchOptions
with_value options Bound v = record options { bound = Some v }
with_value options Workers v = record options { workers = Some v }
with_value options Proofs v = record options { proofs = true }
with_value options First v = record options { first = Some v }
with_value options From v = record options { from = Some v }
with_value options By v = record options { by = Some v }
with_value options To v = record options { to = Some v }

-- the option was not come to
abbrev pub is_unread : SearchOptions → SearchOption → Bool
is_unread options o = not (is_some (value options o))

-- the options that are still to be read
abbrev pub options_left : SearchForm → SearchOptions → List SearchOption
options_left form options = filter (is_unread options) (options_of form)

-- the form has the option, and it was not come to
abbrev pub IsLeft : SearchForm → SearchOptions → SearchOption → Type 0
IsLeft form options o = (offers form o ≡ true) × (value options o ≡ None)

-- a number stands behind the option
abbrev pub has_number : SearchOption → Bool
has_number Proofs = false
has_number o = true

-- What the number of an option may be: the first bound of a deepening is not past the last one where this was read, and the last one is not
-- in front of the first one where that was read.
abbrev pub least_in : SearchOptions → SearchOption → ℕ
least_in options Bound = 0
least_in options Workers = 1
least_in options Proofs = 0
least_in options First = 1
least_in options From = 0
least_in options By = 1
least_in options To = unwrap_or options.from 0

abbrev pub greatest_in : SearchOptions → SearchOption → ℕ
greatest_in options Bound = greatest_bound
greatest_in options Workers = greatest_workers
greatest_in options Proofs = 0
greatest_in options First = greatest_first
greatest_in options From = unwrap_or options.to greatest_bound
greatest_in options By = greatest_bound
greatest_in options To = greatest_bound

-- ---- words that were read

-- an option stands among words, with this number behind it where it has one
abbrev pub IsFound : List (List ℕ) → SearchOption → ℕ → Type 0
IsFound words Proofs v = has_word (codes "--proofs") words ≡ true
IsFound words o v = number_behind (option_word o) words ≡ Some v

-- the value of an option, or nothing where it does not stand among the first words
abbrev pub IsValue : List (List ℕ) → SearchOption → ℕ → Option ℕ → Type 0
IsValue words o at found = MatchOption found (All (λ w. is_word w (option_word o) ≡ false) (take at words)) (IsFound words o)

-- a number that an option may have
abbrev pub IsWithin : SearchOption → ℕ → Type 0
IsWithin o v = (least_in no_options o ≤ v) × (v ≤ greatest_in no_options o)

-- m is a bound, the first bound is at most m, and the last one at least m, where they were read
pub record IsBetween (options : SearchOptions) (m : ℕ) : Type 0 where
  pub small : m ≤ greatest_bound
  pub from : IfSome options.from (λ a. a ≤ m)
  pub to : IfSome options.to (λ c. m ≤ c)

-- what may follow: the options that are still to be read
abbrev pub Follows : SearchForm → SearchOptions → List (List ℕ) → Type 0
Follows form options words = (m : ℕ) × IsBetween options m × FitsParts [] (map (option_form m) (options_left form options)) words

-- the words up to this place were read: those in front of the options, and options with these values
pub record IsReadTo (words : List (List ℕ)) (form : SearchForm) (options : SearchOptions) (at : ℕ) : Type 0 where
  pub leads : Leads (IsSearchForm form) (Follows form options) words at
  pub values : (o : SearchOption) → IsValue words o at (value options o)
  pub within : (o : SearchOption) → IfSome (value options o) (IsWithin o)
  pub middle : ℕ
  pub between : IsBetween options middle

-- all words were read: two names, and options with these values
pub record IsSearch (words : List (List ℕ)) (form : SearchForm) (first second : List ℕ) (options : SearchOptions) : Type 0 where
  pub first_is : slice_get words 1 ≡ Some first
  pub second_is : slice_get words 2 ≡ Some second
  pub read : IsReadTo words form options (length words)
