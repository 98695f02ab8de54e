-- Where no bracket of its kind is the newest, nothing closes.
use Rattle.std.proofs.Common.{◌≡◌, ℕ, List, [], ◌∷◌, Option, Some, None, refl, ◌∙◌, ap}
use Rattle.ll_lexer.specs.declared.Place.{Place}
use Rattle.ll_parser.specs.declared.Level.TheVariants.{Close}
use Rattle.ll_parser.specs.declared.RawAt.{RawAt}
use Rattle.ll_parser.specs.declared.waiting.Word.{Word}
use Rattle.ll_parser.specs.declared.waiting.Prefix.TheVariants as prefix
use Rattle.ll_parser.specs.declared.waiting.Frame.{Frame}
use Rattle.ll_parser.specs.declared.waiting.Frame.TheVariants as frame
use Rattle.ll_parser.specs.declared.waiting.Waiting.{Waiting}
use Rattle.ll_parser.specs.Raw.{Raw}
use Rattle.ll_parser.specs.Flat.{Pending, close_bracket, close_brace, close_term, reduce, end_with}
use Rattle.ll_parser.specs.Nodes.{raw_trees}
use Rattle.ll_parser.specs.Waiting.{known, frame_view, left, pending, waiting, tree, Reduced}
use Rattle.ll_parser.proofs.machines.Newest.{HasNewest, pending-none, pending-newest}

-- what answers none where nothing waits, and where the newest frame is of another kind
module _ {A : Type 0} (close : Raw → List Pending → Option A) (w : Waiting) where
  pub closes-none : w.frames.items ≡ [] → ((r : Raw) → close r [] ≡ None) → (r : List (List ℕ) → Raw) (texts : List (List ℕ))
      → close (r (known texts)) (waiting (known texts) w) ≡ None
  closes-none e h r texts = rw (pending-none (known texts) w.forms w.args.items w.frames.items e) (h (r (known texts)))

  pub closes-not : (f : Frame) → HasNewest w f → ((texts : List (List ℕ)) (trees : List Raw) (args : List RawAt) (ps : List Pending) (r : Raw)
      → close r (frame_view texts trees args f ∷ ps) ≡ None)
      → (r : List (List ℕ) → Raw) (texts : List (List ℕ)) → close (r (known texts)) (waiting (known texts) w) ≡ None
  closes-not f t h r texts =
      rw (pending-newest (known texts) w.args.items w f t) (h (known texts) (raw_trees (known texts) w.forms) w.args.items
      (pending (known texts) w.forms (left w.args.items f) t.0) (r (known texts)))

pub no-bracket : (f : Frame) → (f ≡ frame.Bracket → ⊥) → (texts : List (List ℕ)) (trees : List Raw) (args : List RawAt) (ps : List Pending) (r : Raw)
    → close_bracket r (frame_view texts trees args f ∷ ps) ≡ None
no-bracket (frame.Front (prefix.Operator o at l)) h texts trees args ps r = refl
no-bracket (frame.Front (prefix.Load at name from)) h texts trees args ps r = refl
no-bracket (frame.Front (prefix.Quantifier q at name)) h texts trees args ps r = refl
no-bracket frame.Bracket h texts trees args ps r = absurd (h refl)
no-bracket (frame.Brace at) h texts trees args ps r = refl
no-bracket (frame.Atom x from) h texts trees args ps r = refl
no-bracket (frame.Application x from) h texts trees args ps r = refl
no-bracket frame.Group h texts trees args ps r = refl
no-bracket (frame.Cell at l) h texts trees args ps r = refl
no-bracket (frame.Sum o at first) h texts trees args ps r = refl
no-bracket (frame.Product at first) h texts trees args ps r = refl
no-bracket (frame.Is at first) h texts trees args ps r = refl
no-bracket (frame.Comparison o at first) h texts trees args ps r = refl
no-bracket frame.NumberGroup h texts trees args ps r = refl
no-bracket frame.LeadGroup h texts trees args ps r = refl

pub no-brace : (f : Frame) → ((at : Place) → f ≡ frame.Brace at → ⊥)
    → (texts : List (List ℕ)) (trees : List Raw) (args : List RawAt) (ps : List Pending) (r : Raw) → close_brace r (frame_view texts trees args f ∷ ps) ≡ None
no-brace (frame.Front (prefix.Operator o at l)) h texts trees args ps r = refl
no-brace (frame.Front (prefix.Load at name from)) h texts trees args ps r = refl
no-brace (frame.Front (prefix.Quantifier q at name)) h texts trees args ps r = refl
no-brace frame.Bracket h texts trees args ps r = refl
no-brace (frame.Brace at) h texts trees args ps r = absurd (h at refl)
no-brace (frame.Atom x from) h texts trees args ps r = refl
no-brace (frame.Application x from) h texts trees args ps r = refl
no-brace frame.Group h texts trees args ps r = refl
no-brace (frame.Cell at l) h texts trees args ps r = refl
no-brace (frame.Sum o at first) h texts trees args ps r = refl
no-brace (frame.Product at first) h texts trees args ps r = refl
no-brace (frame.Is at first) h texts trees args ps r = refl
no-brace (frame.Comparison o at first) h texts trees args ps r = refl
no-brace frame.NumberGroup h texts trees args ps r = refl
no-brace frame.LeadGroup h texts trees args ps r = refl

pub no-term : (f : Frame) → ((x : Word) (from : ℕ) → f ≡ frame.Atom x from → ⊥) → ((x : Word) (from : ℕ) → f ≡ frame.Application x from → ⊥)
    → (f ≡ frame.Group → ⊥)
    → (texts : List (List ℕ)) (trees : List Raw) (args : List RawAt) (ps : List Pending) (r : Raw) → close_term r (frame_view texts trees args f ∷ ps) ≡ None
no-term (frame.Front (prefix.Operator o at l)) h i j texts trees args ps r = refl
no-term (frame.Front (prefix.Load at name from)) h i j texts trees args ps r = refl
no-term (frame.Front (prefix.Quantifier q at name)) h i j texts trees args ps r = refl
no-term frame.Bracket h i j texts trees args ps r = refl
no-term (frame.Brace at) h i j texts trees args ps r = refl
no-term (frame.Atom x from) h i j texts trees args ps r = absurd (h x from refl)
no-term (frame.Application x from) h i j texts trees args ps r = absurd (i x from refl)
no-term frame.Group h i j texts trees args ps r = absurd (j refl)
no-term (frame.Cell at l) h i j texts trees args ps r = refl
no-term (frame.Sum o at first) h i j texts trees args ps r = refl
no-term (frame.Product at first) h i j texts trees args ps r = refl
no-term (frame.Is at first) h i j texts trees args ps r = refl
no-term (frame.Comparison o at first) h i j texts trees args ps r = refl
no-term frame.NumberGroup h i j texts trees args ps r = refl
no-term frame.LeadGroup h i j texts trees args ps r = refl

-- the end of a formula
module _ (old new : Waiting) (i j : RawAt) (r : Reduced Close old new i j) where
  end-with : (o : Option Raw) (texts : List (List ℕ)) → end_with (tree (known texts) new j) (waiting (known texts) new) ≡ o
      → (let q = reduce Close (tree (known texts) old i) (waiting (known texts) old) in end_with q.0 q.1) ≡ o
  end-with o texts e = ap (λ (q : Raw × List Pending). end_with q.0 q.1) (r.reduces texts) ∙ e

  pub ends : new.frames.items ≡ [] → (texts : List (List ℕ))
      → (let q = reduce Close (tree (known texts) old i) (waiting (known texts) old) in end_with q.0 q.1) ≡ Some (tree (known texts) new j)
  ends e texts = end-with (Some (tree (known texts) new j)) texts (rw (pending-none (known texts) new.forms new.args.items new.frames.items e) refl)

  pub ends-not : (f : Frame) → HasNewest new f → (texts : List (List ℕ))
      → (let q = reduce Close (tree (known texts) old i) (waiting (known texts) old) in end_with q.0 q.1) ≡ None
  ends-not f t texts = end-with None texts (rw (pending-newest (known texts) new.args.items new f t) refl)
