-- How the words of a make are read.
use Rattle.std.specs.Prelude.{◌≡◌, ◌⊎◌, ℕ, ◌+◌, false, List, [], drop, take, slice_get, All, Some, IfSome, codes}
use Rattle.ll_make.specs.declared.kind.MakeKind.{MakeKind}
use Rattle.ll_top.specs.forms.Begins.{IsFirstBad, Leads}
use Rattle.ll_top.specs.forms.Making.{kind_word}
use Rattle.ll_top.specs.forms.Words.{Part, is_word, FitsParts, make_parts, made_options, number_behind}

-- words are in a form with these words in order, and with the options of a make or with none
abbrev pub FitsEither : List Part → List (List ℕ) → Type 0
FitsEither parts words = FitsParts parts [] words ⊎ FitsParts parts made_options words

-- words are in a form of a make of some kind
abbrev pub IsMakeForm : List (List ℕ) → Type 0
IsMakeForm words = (kind : MakeKind) × FitsEither (make_parts kind) words

-- the word of this number is the first one through which no make begins
pub record IsBadMakeWord (words : List (List ℕ)) (number : ℕ) : Type 0 where
  pub place : ℕ
  pub is : number ≡ place + 1
  pub bad : IsFirstBad IsMakeForm words place

-- the word is that of no kind
abbrev pub IsNoKind : List ℕ → Type 0
IsNoKind word = (kind : MakeKind) → is_word word (kind_word kind) ≡ false

-- no word of a kind stands there
abbrev pub LacksKind : List (List ℕ) → ℕ → Type 0
LacksKind words at = IfSome (slice_get words at) IsNoKind

-- ---- the options of a run of a make

-- the first three words were read, more stand behind them, and these are to be the options
pub record IsAtOptions (words : List (List ℕ)) : Type 0 where
  pub leads : Leads IsMakeForm (FitsParts [] made_options) words 3
  pub no_bound : All (λ w. is_word w (codes "--bound") ≡ false) (take 3 words)
  pub no_workers : All (λ w. is_word w (codes "--workers") ≡ false) (take 3 words)

-- the words behind the third are the two options, with these numbers
pub record HasOptions (words : List (List ℕ)) (bound workers : ℕ) : Type 0 where
  pub form : FitsParts [] made_options (drop 3 words)
  pub bound_is : number_behind (codes "--bound") words ≡ Some bound
  pub workers_is : number_behind (codes "--workers") words ≡ Some workers
