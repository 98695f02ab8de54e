-- The fronts of formulas whose other parts are being put in, and what comes of them.
use Rattle.std.specs.Prelude.{◌≡◌, ℕ, ◌<◌, ◌+◌, ◌*◌, List, [], ◌∷◌, ◌++◌}
use Rattle.ll_bank.specs.Term.{Term}
use Rattle.ll_bank.specs.Form.{Form, Bang, Forall, Exists, Use}
use Rattle.ll_bank.specs.Nodes.{Nodes, term_trees, form_tree, HasForm, AllInTerms}
use Rattle.ll_parser.specs.declared.RawAt.{RawAt}
use Rattle.ll_parser.specs.Nodes.{Node, raw_at}
use Rattle.ll_parser.specs.Weights.{weight}
use Rattle.ll_polarity.specs.declared.put_forms.Frame.{Frame}
use Rattle.ll_polarity.specs.declared.put_forms.Frame.TheVariants as frame
use Rattle.ll_polarity.specs.declared.put_forms.Step.{Step}
use Rattle.ll_polarity.specs.declared.put_forms.Step.TheVariants as step
use Rattle.ll_polarity.specs.Reading.{Met, Read, joined}
use Rattle.ll_polarity.specs.Numbered.{text_of}
use Rattle.ll_polarity.specs.Built.{Around, inside, built_term, built_form}
use Rattle.ll_polarity.specs.Calls.{IsReady}

-- where a formula is put together: the texts of the names, the nodes of the raw trees, and the places of modules by their names
pub record Ground : Type 0 where
  pub texts : List (List ℕ)
  pub forms : List Node
  pub modules : List ℕ → ℕ

-- what is put together of the left side of a whole-number goal, and of the right one behind it
abbrev pub left_built : Ground → Around → Met → RawAt → Read Term
left_built g a met l = built_term a met (raw_at g.texts g.forms l.0)

abbrev pub right_built : Ground → Around → Met → RawAt → RawAt → Read Term
right_built g a met l r = built_term a (left_built g a met l).met (raw_at g.texts g.forms r.0)

-- what is round the part that a front waits for
abbrev pub within : Ground → Around → Frame → Around
within g a frame.Braces = a
within g a (frame.Forall n) = inside (text_of g.texts n) a
within g a (frame.Exists n) = inside (text_of g.texts n) a
within g a (frame.Left o r) = a
within g a (frame.Right o f) = a
within g a (frame.Load m ts) = a

abbrev pub within_all : Ground → Around → List Frame → Around
within_all g a [] = a
within_all g a (f ∷ fs) = within_all g (within g a f) fs

-- what a front makes of the part that it waits for
abbrev pub wraps : Ground → Nodes → Around → Frame → Read Form → Read Form
wraps g bank a frame.Braces t = record { it = Bang t.it; met = t.met }
wraps g bank a (frame.Forall n) t = record { it = Forall t.it; met = t.met }
wraps g bank a (frame.Exists n) t = record { it = Exists t.it; met = t.met }
wraps g bank a (frame.Left o r) t = let u = built_form g.modules a t.met (raw_at g.texts g.forms r.0) in record { it = joined o t.it u.it; met = u.met }
wraps g bank a (frame.Right o f) t = record { it = joined o (form_tree bank f.0) t.it; met = t.met }
wraps g bank a (frame.Load m ts) t = record { it = Use m (term_trees bank ts.items) t.it; met = t.met }

abbrev pub wrapped : Ground → Nodes → Around → List Frame → Read Form → Read Form
wrapped g bank a [] t = t
wrapped g bank a (f ∷ fs) t = wraps g bank a f (wrapped g bank (within g a f) fs t)

-- what comes next
abbrev pub comes : Ground → Nodes → Around → Step → Met → Read Form
comes g bank a (step.Read at) met = built_form g.modules a met (raw_at g.texts g.forms at.0)
comes g bank a (step.Give f) met = record { it = form_tree bank f.0; met = met }

abbrev pub FrameFits : Ground → Nodes → Frame → Type 0
FrameFits g bank frame.Braces = Unit {0}
FrameFits g bank (frame.Forall n) = Unit {0}
FrameFits g bank (frame.Exists n) = Unit {0}
FrameFits g bank (frame.Left o r) = IsReady g.texts g.forms r.0
FrameFits g bank (frame.Right o f) = HasForm bank f.0
FrameFits g bank (frame.Load m ts) = AllInTerms bank ts.items

-- the parts of a front that are put in are in the bank
abbrev pub FrameHas : Nodes → Frame → Type 0
FrameHas bank frame.Braces = Unit {0}
FrameHas bank (frame.Forall n) = Unit {0}
FrameHas bank (frame.Exists n) = Unit {0}
FrameHas bank (frame.Left o r) = Unit {0}
FrameHas bank (frame.Right o f) = HasForm bank f.0
FrameHas bank (frame.Load m ts) = AllInTerms bank ts.items

abbrev pub FramesFit : Ground → Nodes → List Frame → Type 0
FramesFit g bank [] = Unit {0}
FramesFit g bank (f ∷ fs) = FrameFits g bank f × FramesFit g bank fs

abbrev pub StepFits : Ground → Nodes → Step → Type 0
StepFits g bank (step.Read at) = IsReady g.texts g.forms at.0
StepFits g bank (step.Give f) = HasForm bank f.0

-- how much is left to do
abbrev pub frame_left : Ground → Frame → ℕ
frame_left g frame.Braces = 1
frame_left g (frame.Forall n) = 1
frame_left g (frame.Exists n) = 1
frame_left g (frame.Left o r) = 1 + 5 * weight (raw_at g.texts g.forms r.0)
frame_left g (frame.Right o f) = 1
frame_left g (frame.Load m ts) = 1

abbrev pub frames_left : Ground → List Frame → ℕ
frames_left g [] = 0
frames_left g (f ∷ fs) = frame_left g f + frames_left g fs

abbrev pub step_left : Ground → Step → ℕ
step_left g (step.Read at) = 5 * weight (raw_at g.texts g.forms at.0)
step_left g (step.Give f) = 2

-- some fronts were put on, and what comes next with these is what was to come
pub record Advances (g : Ground) (new : Nodes) (a : Around) (was : Read Form) (left : ℕ) (old later : List Frame) (next : Step) (met : Met) (now : Around) :
    Type 0 where
  pub pushed : List Frame
  pub waiting : later ≡ old ++ pushed
  pub means : wrapped g new a pushed (comes g new now next met) ≡ was
  pub standing : now ≡ within_all g a pushed
  pub fits : FramesFit g new pushed
  pub step : StepFits g new next
  pub less : frames_left g pushed + step_left g next < left
