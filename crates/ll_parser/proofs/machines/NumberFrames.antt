-- What the newest frame decides where an expression ends: whether a sign takes it, whether a goal waits for it, and which bracket closes.
use Rattle.std.proofs.Common.{◌≡◌, ℕ, List, [], ◌∷◌, length, drop, None, refl, sym, ◌∙◌, ap, arith, length-drop}
use Rattle.std.specs.Prelude.{slice_index_or}
use Rattle.ll_lexer.specs.declared.Place.{Place}
use Rattle.ll_parser.specs.declared.SumOp.{SumOp}
use Rattle.ll_parser.specs.declared.TestOp.{TestOp}
use Rattle.ll_parser.specs.declared.Named.{Named}
use Rattle.ll_parser.specs.declared.RawAt.{RawAt}
use Rattle.ll_parser.specs.declared.waiting.Prefix.TheVariants as prefix
use Rattle.ll_parser.specs.declared.waiting.Frame.{Frame}
use Rattle.ll_parser.specs.declared.waiting.Frame.TheVariants as frame
use Rattle.ll_parser.specs.declared.waiting.Waiting.{Waiting}
use Rattle.ll_parser.specs.Tokens.{Tok}
use Rattle.ll_parser.specs.Raw.{Raw, sign_raw}
use Rattle.ll_parser.specs.Grammar.{Word}
use Rattle.ll_parser.specs.Flat.{Pending, take_product, take_sum, after_word, close_number, end_expression, final_expression}
use Rattle.ll_parser.specs.Nodes.{identifier, raw_trees, raw_at}
use Rattle.ll_parser.specs.Waiting.{known, args_view, frame_view, left, pending, waiting}
use Rattle.ll_parser.specs.Waiting.{tree, args_from, FitsBelow, IsBuilt, EndsWith, PoppedSign, TakesNothing}
use Rattle.ll_parser.specs.Waiting.{HasNoGoal}
use Rattle.ll_parser.proofs.machines.Newest.{HasNewest, pending-none, pending-newest}

-- ---- signs

-- what takes nothing where nothing waits, and where the newest frame is of another kind
module _ (take : Raw → List Pending → Raw × List Pending) (w : Waiting) where
  pub takes-none : w.frames.items ≡ [] → ((r : Raw) → take r [] ≡ (r, [])) → TakesNothing take w w
  takes-none e h = record { same = refl; takes = λ texts r. rw (pending-none (known texts) w.forms w.args.items w.frames.items e) (h r) }

  pub takes-not : (f : Frame) → HasNewest w f
      → ((texts : List (List ℕ)) (trees : List Raw) (args : List RawAt) (ps : List Pending) (r : Raw)
      → take r (frame_view texts trees args f ∷ ps) ≡ (r, frame_view texts trees args f ∷ ps)) → TakesNothing take w w
  takes-not f t h = record {
    same = refl;
    takes = λ texts r. rw (pending-newest (known texts) w.args.items w f t)
        (h (known texts) (raw_trees (known texts) w.forms) w.args.items (pending (known texts) w.forms (left w.args.items f) t.0) r);
  }

pub no-product : (f : Frame) → ((at : Place) (l : RawAt) → f ≡ frame.Product at l → ⊥)
    → (texts : List (List ℕ)) (trees : List Raw) (args : List RawAt) (ps : List Pending) (r : Raw)
    → take_product r (frame_view texts trees args f ∷ ps) ≡ (r, frame_view texts trees args f ∷ ps)
no-product (frame.Front (prefix.Operator o at l)) h texts trees args ps r = refl
no-product (frame.Front (prefix.Load at name from)) h texts trees args ps r = refl
no-product (frame.Front (prefix.Quantifier q at name)) h texts trees args ps r = refl
no-product frame.Bracket h texts trees args ps r = refl
no-product (frame.Brace at) h texts trees args ps r = refl
no-product (frame.Atom x from) h texts trees args ps r = refl
no-product (frame.Application x from) h texts trees args ps r = refl
no-product frame.Group h texts trees args ps r = refl
no-product (frame.Cell at l) h texts trees args ps r = refl
no-product (frame.Sum o at l) h texts trees args ps r = refl
no-product (frame.Product at l) h texts trees args ps r = absurd (h at l refl)
no-product (frame.Is at l) h texts trees args ps r = refl
no-product (frame.Comparison o at l) h texts trees args ps r = refl
no-product frame.NumberGroup h texts trees args ps r = refl
no-product frame.LeadGroup h texts trees args ps r = refl

pub no-sum : (f : Frame) → ((o : SumOp) (at : Place) (l : RawAt) → f ≡ frame.Sum o at l → ⊥)
    → (texts : List (List ℕ)) (trees : List Raw) (args : List RawAt) (ps : List Pending) (r : Raw)
    → take_sum r (frame_view texts trees args f ∷ ps) ≡ (r, frame_view texts trees args f ∷ ps)
no-sum (frame.Front (prefix.Operator o at l)) h texts trees args ps r = refl
no-sum (frame.Front (prefix.Load at name from)) h texts trees args ps r = refl
no-sum (frame.Front (prefix.Quantifier q at name)) h texts trees args ps r = refl
no-sum frame.Bracket h texts trees args ps r = refl
no-sum (frame.Brace at) h texts trees args ps r = refl
no-sum (frame.Atom x from) h texts trees args ps r = refl
no-sum (frame.Application x from) h texts trees args ps r = refl
no-sum frame.Group h texts trees args ps r = refl
no-sum (frame.Cell at l) h texts trees args ps r = refl
no-sum (frame.Sum o at l) h texts trees args ps r = absurd (h o at l refl)
no-sum (frame.Product at l) h texts trees args ps r = refl
no-sum (frame.Is at l) h texts trees args ps r = refl
no-sum (frame.Comparison o at l) h texts trees args ps r = refl
no-sum frame.NumberGroup h texts trees args ps r = refl
no-sum frame.LeadGroup h texts trees args ps r = refl

-- a sign was taken off, and its term was built
pub sign-taken : (take : Raw → List Pending → Raw × List Pending) (old mid new : Waiting) (sign : List ℕ) (left i j : RawAt) (n : Named)
    → PoppedSign take sign old mid n.at left
    → IsBuilt mid new j (λ texts. sign_raw (identifier texts n).text n.at (tree texts mid left) (tree texts mid i)) (λ texts. waiting texts mid)
    → ((texts : List (List ℕ)) → slice_index_or (known texts) n.name [] ≡ sign) → EndsWith take old new i j
sign-taken take old mid new sign left i j n p b e = record {
  fits = b.leaves.fits;
  inside = b.leaves.inside;
  takes = λ texts. p.takes texts (tree (known texts) old i) ∙ (λ k. (sym (built texts) k, sym (b.leaves.waits texts) k));
}
  where
    built : (texts : List (List ℕ)) → tree (known texts) new j ≡ sign_raw sign n.at (tree (known texts) mid left) (tree (known texts) old i)
    built texts =
        b.leaves.is texts
        ∙ ap (λ z. sign_raw z n.at (tree (known texts) mid left) (tree (known texts) mid i)) (e texts)
        ∙ ap (λ z. sign_raw sign n.at (tree (known texts) mid left) (raw_at (known texts) z i.0)) p.forms

-- ---- goals

pub no-goal-none : (w : Waiting) → w.frames.items ≡ [] → HasNoGoal w w
no-goal-none w e = record {
  same = refl;
  goes_on = λ texts r t. rw (pending-none (known texts) w.forms w.args.items w.frames.items e) refl;
  ends = λ texts r. rw (pending-none (known texts) w.forms w.args.items w.frames.items e) refl;
}

no-goal-on : (f : Frame) → ((at : Place) (l : RawAt) → f ≡ frame.Is at l → ⊥) → ((o : TestOp) (at : Place) (l : RawAt) → f ≡ frame.Comparison o at l → ⊥)
    → (texts : List (List ℕ)) (trees : List Raw) (args : List RawAt) (ps : List Pending) (r : Raw) (t : Tok)
    → end_expression r (frame_view texts trees args f ∷ ps) t ≡ close_number r (frame_view texts trees args f ∷ ps) t
no-goal-on (frame.Front (prefix.Operator o at l)) h i texts trees args ps r t = refl
no-goal-on (frame.Front (prefix.Load at name from)) h i texts trees args ps r t = refl
no-goal-on (frame.Front (prefix.Quantifier q at name)) h i texts trees args ps r t = refl
no-goal-on frame.Bracket h i texts trees args ps r t = refl
no-goal-on (frame.Brace at) h i texts trees args ps r t = refl
no-goal-on (frame.Atom x from) h i texts trees args ps r t = refl
no-goal-on (frame.Application x from) h i texts trees args ps r t = refl
no-goal-on frame.Group h i texts trees args ps r t = refl
no-goal-on (frame.Cell at l) h i texts trees args ps r t = refl
no-goal-on (frame.Sum o at l) h i texts trees args ps r t = refl
no-goal-on (frame.Product at l) h i texts trees args ps r t = refl
no-goal-on (frame.Is at l) h i texts trees args ps r t = absurd (h at l refl)
no-goal-on (frame.Comparison o at l) h i texts trees args ps r t = absurd (i o at l refl)
no-goal-on frame.NumberGroup h i texts trees args ps r t = refl
no-goal-on frame.LeadGroup h i texts trees args ps r t = refl

no-goal-end : (f : Frame) → ((at : Place) (l : RawAt) → f ≡ frame.Is at l → ⊥) → ((o : TestOp) (at : Place) (l : RawAt) → f ≡ frame.Comparison o at l → ⊥)
    → (texts : List (List ℕ)) (trees : List Raw) (args : List RawAt) (ps : List Pending) (r : Raw)
    → final_expression r (frame_view texts trees args f ∷ ps) ≡ None
no-goal-end (frame.Front (prefix.Operator o at l)) h i texts trees args ps r = refl
no-goal-end (frame.Front (prefix.Load at name from)) h i texts trees args ps r = refl
no-goal-end (frame.Front (prefix.Quantifier q at name)) h i texts trees args ps r = refl
no-goal-end frame.Bracket h i texts trees args ps r = refl
no-goal-end (frame.Brace at) h i texts trees args ps r = refl
no-goal-end (frame.Atom x from) h i texts trees args ps r = refl
no-goal-end (frame.Application x from) h i texts trees args ps r = refl
no-goal-end frame.Group h i texts trees args ps r = refl
no-goal-end (frame.Cell at l) h i texts trees args ps r = refl
no-goal-end (frame.Sum o at l) h i texts trees args ps r = refl
no-goal-end (frame.Product at l) h i texts trees args ps r = refl
no-goal-end (frame.Is at l) h i texts trees args ps r = absurd (h at l refl)
no-goal-end (frame.Comparison o at l) h i texts trees args ps r = absurd (i o at l refl)
no-goal-end frame.NumberGroup h i texts trees args ps r = refl
no-goal-end frame.LeadGroup h i texts trees args ps r = refl

pub no-goal-other : (w : Waiting) (f : Frame) → HasNewest w f → ((at : Place) (l : RawAt) → f ≡ frame.Is at l → ⊥)
    → ((o : TestOp) (at : Place) (l : RawAt) → f ≡ frame.Comparison o at l → ⊥) → HasNoGoal w w
no-goal-other w f t h i = record {
  same = refl;
  goes_on = λ texts r u. rw (pending-newest (known texts) w.args.items w f t)
      (no-goal-on f h i (known texts) (raw_trees (known texts) w.forms) w.args.items (pending (known texts) w.forms (left w.args.items f) t.0) r u);
  ends = λ texts r. rw (pending-newest (known texts) w.args.items w f t)
      (no-goal-end f h i (known texts) (raw_trees (known texts) w.forms) w.args.items (pending (known texts) w.forms (left w.args.items f) t.0) r);
}

-- ---- brackets

pub no-number : (f : Frame) → (f ≡ frame.NumberGroup → ⊥) → (f ≡ frame.LeadGroup → ⊥) → (t : Tok)
    → (texts : List (List ℕ)) (trees : List Raw) (args : List RawAt) (ps : List Pending) (r : Raw)
    → close_number r (frame_view texts trees args f ∷ ps) t ≡ None
no-number (frame.Front (prefix.Operator o at l)) h i t texts trees args ps r = refl
no-number (frame.Front (prefix.Load at name from)) h i t texts trees args ps r = refl
no-number (frame.Front (prefix.Quantifier q at name)) h i t texts trees args ps r = refl
no-number frame.Bracket h i t texts trees args ps r = refl
no-number (frame.Brace at) h i t texts trees args ps r = refl
no-number (frame.Atom x from) h i t texts trees args ps r = refl
no-number (frame.Application x from) h i t texts trees args ps r = refl
no-number frame.Group h i t texts trees args ps r = refl
no-number (frame.Cell at l) h i t texts trees args ps r = refl
no-number (frame.Sum o at l) h i t texts trees args ps r = refl
no-number (frame.Product at l) h i t texts trees args ps r = refl
no-number (frame.Is at l) h i t texts trees args ps r = refl
no-number (frame.Comparison o at l) h i t texts trees args ps r = refl
no-number frame.NumberGroup h i t texts trees args ps r = absurd (h refl)
no-number frame.LeadGroup h i t texts trees args ps r = absurd (i refl)

-- ---- atoms

-- an atom with arguments is no plain term
pub has-arguments : (w : Waiting) (from : ℕ) → FitsBelow w from → (length w.args.items ≡ from → ⊥)
    → (x : Word) (ps : List Pending) (t : Tok) (texts : List (List ℕ)) → after_word x (args_from texts w from) ps t ≡ None
has-arguments w from fits h x ps t texts = by_rest (drop from w.args.items) refl
  where
    by_rest : (xs : List RawAt) → drop from w.args.items ≡ xs → after_word x (args_view (raw_trees texts w.forms) xs) ps t ≡ None
    by_rest [] e =
        let l : length (drop from w.args.items) ≡ 0 = ap length e in
        let k = fits.within in absurd (h (omega (arith, length-drop from w.args.items)))
    by_rest (a ∷ xs) e = refl
