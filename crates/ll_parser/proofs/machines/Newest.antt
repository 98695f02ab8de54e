-- What the newest frame decides: whether a level takes it, whether it is a cell, and which bracket closes there.
use Rattle.std.proofs.Common.{◌≡◌, ℕ, Bool, true, false, List, [], ◌∷◌, ◌++◌, take, refl, sym, ◌∙◌, ap}
use Rattle.ll_lexer.specs.declared.Place.{Place}
use Rattle.ll_parser.specs.declared.Level.{Level}
use Rattle.ll_parser.specs.declared.RawAt.{RawAt}
use Rattle.ll_parser.specs.declared.waiting.Prefix.{Prefix}
use Rattle.ll_parser.specs.declared.waiting.Prefix.TheVariants as prefix
use Rattle.ll_parser.specs.declared.waiting.Frame.{Frame}
use Rattle.ll_parser.specs.declared.waiting.Frame.TheVariants as frame
use Rattle.ll_parser.specs.declared.waiting.Waiting.{Waiting}
use Rattle.ll_parser.specs.Raw.{Raw}
use Rattle.ll_parser.specs.Flat.{Pending, taken, reduce, gather, admits_load}
use Rattle.ll_parser.specs.Nodes.{Node, raw_trees}
use Rattle.ll_parser.specs.Waiting.{known, prefix_view, frame_view, left, pending, waiting, tree, waiting_below, IsSound, IsNode, Grows, HasNoCell, TakesNone}
use Rattle.ll_parser.proofs.stored.Shown.{pending-snoc}

-- the newest frame, with what is below it
abbrev pub HasNewest : Waiting → Frame → Type 0
HasNewest w f = (rest : List Frame) × (w.frames.items ≡ rest ++ f ∷ [])

pub pending-none : (texts : List (List ℕ)) (nodes : List Node) (args : List RawAt) (fs : List Frame) → fs ≡ [] → pending texts nodes args fs ≡ []
unfolding pending
pending-none texts nodes args fs e = ap (pending texts nodes args) e

pub pending-newest : (texts : List (List ℕ)) (args : List RawAt) (w : Waiting) (f : Frame) (t : HasNewest w f)
    → pending texts w.forms args w.frames.items ≡ frame_view texts (raw_trees texts w.forms) args f ∷ pending texts w.forms (left args f) t.0
pending-newest texts args w f (rest, e) = ap (pending texts w.forms args) e ∙ pending-snoc texts w.forms args rest f

-- ---- loads

pub admits-none : (w : Waiting) → w.frames.items ≡ [] → (texts : List (List ℕ)) (from : ℕ) → true ≡ admits_load (waiting_below texts w from)
admits-none w e texts from = rw (pending-none texts w.forms (take from w.args.items) w.frames.items e) refl

pub admits-newest : (w : Waiting) (f : Frame) → HasNewest w f → (b : Bool)
    → ((texts : List (List ℕ)) (trees : List Raw) (args : List RawAt) (ps : List Pending) → b ≡ admits_load (frame_view texts trees args f ∷ ps))
    → (texts : List (List ℕ)) (from : ℕ) → b ≡ admits_load (waiting_below texts w from)
admits-newest w f t b h texts from = rw (pending-newest texts (take from w.args.items) w f t) (h _ _ _ _)

-- ---- fronts of formulas

pub takes-none : (level : Level) (w : Waiting) → w.frames.items ≡ [] → TakesNone level w w
takes-none level w e = record { same = refl; reduces = λ texts r. rw (pending-none (known texts) w.forms w.args.items w.frames.items e) refl }

stays : (level : Level) (r : Raw) (p : Pending) (ps : List Pending) → taken level p ≡ false → reduce level r (p ∷ ps) ≡ (r, p ∷ ps)
stays level r p ps e = rw e refl

takes-stays : (level : Level) (w : Waiting) (f : Frame) → HasNewest w f
    → ((texts : List (List ℕ)) (trees : List Raw) (args : List RawAt) → taken level (frame_view texts trees args f) ≡ false) → TakesNone level w w
takes-stays level w f t h = record {
  same = refl;
  reduces = λ texts r. rw (pending-newest (known texts) w.args.items w f t)
      (stays level r (frame_view (known texts) (raw_trees (known texts) w.forms) w.args.items f) (pending (known texts) w.forms (left w.args.items f) t.0)
      (h (known texts) (raw_trees (known texts) w.forms) w.args.items));
}

pub takes-not : (level : Level) (w : Waiting) (f : Frame) (p : Prefix) → HasNewest w f → f ≡ frame.Front p
    → ((texts : List (List ℕ)) (trees : List Raw) (args : List RawAt) → false ≡ taken level (prefix_view texts trees args p)) → TakesNone level w w
takes-not level w f p t e h = takes-stays level w f t (λ texts trees args. ap (λ z. taken level (frame_view texts trees args z)) e ∙ sym (h texts trees args))

no-front : (level : Level) (f : Frame) → ((p : Prefix) → f ≡ frame.Front p → ⊥) → (texts : List (List ℕ)) (trees : List Raw) (args : List RawAt)
    → taken level (frame_view texts trees args f) ≡ false
no-front level (frame.Front p) h texts trees args = absurd (h p refl)
no-front level frame.Bracket h texts trees args = refl
no-front level (frame.Brace at) h texts trees args = refl
no-front level (frame.Atom x from) h texts trees args = refl
no-front level (frame.Application x from) h texts trees args = refl
no-front level frame.Group h texts trees args = refl
no-front level (frame.Cell at l) h texts trees args = refl
no-front level (frame.Sum o at first) h texts trees args = refl
no-front level (frame.Product at first) h texts trees args = refl
no-front level (frame.Is at first) h texts trees args = refl
no-front level (frame.Comparison o at first) h texts trees args = refl
no-front level frame.NumberGroup h texts trees args = refl
no-front level frame.LeadGroup h texts trees args = refl

pub takes-other : (level : Level) (w : Waiting) (f : Frame) → HasNewest w f → ((p : Prefix) → f ≡ frame.Front p → ⊥) → TakesNone level w w
takes-other level w f t h = takes-stays level w f t (no-front level f h)

-- after some steps of the loop the same is left to be reduced
pub record Reducing (level : Level) (old new : Waiting) (i j : RawAt) : Type 0 where
  pub fits : IsSound new
  pub grows : Grows old.forms new.forms
  pub inside : IsNode new j
  pub same : (texts : List (List ℕ)) → reduce level (tree (known texts) new j) (waiting (known texts) new)
      ≡ reduce level (tree (known texts) old i) (waiting (known texts) old)

-- ---- cells

pub no-cell-none : (w : Waiting) → w.frames.items ≡ [] → HasNoCell w w
no-cell-none w e = record { same = refl; gathers = λ texts r. rw (pending-none (known texts) w.forms w.args.items w.frames.items e) refl }

no-cell : (f : Frame) → ((at : Place) (l : RawAt) → f ≡ frame.Cell at l → ⊥)
    → (texts : List (List ℕ)) (trees : List Raw) (args : List RawAt) (ps : List Pending) (r : Raw)
    → gather r (frame_view texts trees args f ∷ ps) ≡ (r, frame_view texts trees args f ∷ ps)
no-cell (frame.Front (prefix.Operator o at l)) h texts trees args ps r = refl
no-cell (frame.Front (prefix.Load at name from)) h texts trees args ps r = refl
no-cell (frame.Front (prefix.Quantifier q at name)) h texts trees args ps r = refl
no-cell frame.Bracket h texts trees args ps r = refl
no-cell (frame.Brace at) h texts trees args ps r = refl
no-cell (frame.Atom x from) h texts trees args ps r = refl
no-cell (frame.Application x from) h texts trees args ps r = refl
no-cell frame.Group h texts trees args ps r = refl
no-cell (frame.Cell at l) h texts trees args ps r = absurd (h at l refl)
no-cell (frame.Sum o at first) h texts trees args ps r = refl
no-cell (frame.Product at first) h texts trees args ps r = refl
no-cell (frame.Is at first) h texts trees args ps r = refl
no-cell (frame.Comparison o at first) h texts trees args ps r = refl
no-cell frame.NumberGroup h texts trees args ps r = refl
no-cell frame.LeadGroup h texts trees args ps r = refl

pub no-cell-other : (w : Waiting) (f : Frame) → HasNewest w f → ((at : Place) (l : RawAt) → f ≡ frame.Cell at l → ⊥) → HasNoCell w w
no-cell-other w f t h = record {
  same = refl;
  gathers = λ texts r. rw (pending-newest (known texts) w.args.items w f t)
      (no-cell f h (known texts) (raw_trees (known texts) w.forms) w.args.items (pending (known texts) w.forms (left w.args.items f) t.0) r);
}

-- after some steps of the loop the same is left to be gathered
pub record Gathering (old new : Waiting) (i j : RawAt) : Type 0 where
  pub fits : IsSound new
  pub grows : Grows old.forms new.forms
  pub inside : IsNode new j
  pub same : (texts : List (List ℕ)) → gather (tree (known texts) new j) (waiting (known texts) new)
      ≡ gather (tree (known texts) old i) (waiting (known texts) old)
