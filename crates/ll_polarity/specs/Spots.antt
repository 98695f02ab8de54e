-- What stands where a term is read, as its tree sees it.
use Rattle.std.specs.Prelude.{ℕ, List}
use Rattle.ll_bank.specs.Term.{Term}
use Rattle.ll_bank.specs.Form.{Form}
use Rattle.ll_parser.specs.Nodes.{Node, raw_at}
use Rattle.ll_parser.specs.Raw.{Raw}
use Rattle.ll_parser.specs.declared.RawAt.{RawAt}
use Rattle.ll_polarity.specs.declared.front.Met as code
use Rattle.ll_polarity.specs.declared.text.Spot.{Spot}
use Rattle.ll_polarity.specs.Scope.{meaning}
use Rattle.ll_polarity.specs.Reading.{Read, read_name}
use Rattle.ll_polarity.specs.Numbered.{text_of}
use Rattle.ll_polarity.specs.Built.{built_term, built_terms, built_form, arguments}
use Rattle.ll_polarity.specs.Standing.{StandsIn, met_of, around}
use Rattle.ll_polarity.specs.Calls.{Site, IsReady}
use Rattle.ll_polarity.specs.Frames.{left_built, right_built}
use Rattle.ll_polarity.specs.Grounds.{ground}

-- the texts of the names, and the nodes of the raw trees
abbrev pub texts_of : Spot → List (List ℕ)
texts_of s = s.text.now.names.now

abbrev pub forms_of : Spot → List Node
forms_of s = s.text.now.forms.now

abbrev pub site : Spot → Site
site s = record { texts = texts_of s; forms = forms_of s; around = around s.place s.binders.now.scope }

abbrev pub Stands : Spot → Type 0
Stands s = StandsIn (texts_of s) s.binders.now s.place

-- the place is that of a raw tree that can be read there
abbrev pub CanRead : Spot → ℕ → Type 0
CanRead s at = IsReady (texts_of s) (forms_of s) at

-- the raw tree at a place
abbrev pub raw_in : Spot → ℕ → Raw
raw_in s at = raw_at (texts_of s) (forms_of s) at

-- what a name with this number stands for, after what was met
abbrev pub name_at : Spot → code.Met → ℕ → Read Term
name_at s met name =
    let text = text_of (texts_of s) name in read_name (meaning s.binders.now.scope text) (met_of (texts_of s) met) text

-- the term at a place, and the arguments of the name or the load there
abbrev pub term_at : Spot → code.Met → ℕ → Read Term
term_at s met at = built_term (site s).around (met_of (texts_of s) met) (raw_in s at)

abbrev pub args_at : Spot → code.Met → ℕ → Read (List Term)
args_at s met at = built_terms (site s).around (met_of (texts_of s) met) (arguments (raw_in s at))

-- the formula there, and the two sides of a whole-number goal
abbrev pub form_at : Spot → code.Met → ℕ → Read Form
form_at s met at = built_form (ground s.text.now).modules (site s).around (met_of (texts_of s) met) (raw_in s at)

abbrev pub left_at : Spot → code.Met → RawAt → Read Term
left_at s met l = left_built (ground s.text.now) (site s).around (met_of (texts_of s) met) l

abbrev pub right_at : Spot → code.Met → RawAt → RawAt → Read Term
right_at s met l r = right_built (ground s.text.now) (site s).around (met_of (texts_of s) met) l r
