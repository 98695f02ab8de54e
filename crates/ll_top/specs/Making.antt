-- What the words that ask for a program of a kind come to.
use Rattle.std.specs.Prelude.{◌≡◌, ℕ, List}
use Rattle.ll_make.specs.Programs.{program_text}
use Rattle.ll_top.specs.forms.Making.{MakeWords}

-- the text of the program that is asked for
abbrev pub make_text : MakeWords → List ℕ
make_text make = program_text make.kind make.number

-- what they come to: the whole text of the program, and status 0
pub record MakeComesTo (make : MakeWords) (status : ℕ) (text : List ℕ) : Type 0 where
  pub succeeds : status ≡ 0
  pub is : text ≡ make_text make
