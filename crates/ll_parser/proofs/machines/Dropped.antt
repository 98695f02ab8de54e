-- What is left where the newest frame was taken off: a head with one more argument, a group, or the goal of an expression.
use Rattle.std.proofs.Common.{◌≡◌, ◌<◌, ◌+◌, ◌++◌, ℕ, List, [], ◌∷◌, length, Option, Some, None, drop, refl, sym, ◌∙◌, ap, subst}
use Rattle.std.proofs.Common.{arith, length-append, length-drop}
use Rattle.ll_lexer.specs.declared.Place.{Place}
use Rattle.ll_parser.specs.declared.TestOp.{TestOp}
use Rattle.ll_parser.specs.declared.Level.TheVariants.{Close}
use Rattle.ll_parser.specs.declared.RawAt.{RawAt}
use Rattle.ll_parser.specs.declared.waiting.Word.{Word}
use Rattle.ll_parser.specs.declared.waiting.Frame.{Frame}
use Rattle.ll_parser.specs.declared.waiting.Frame.TheVariants as frame
use Rattle.ll_parser.specs.declared.waiting.Waiting.{Waiting}
use Rattle.ll_parser.specs.declared.symbols.Symbol.{Symbol}
use Rattle.ll_parser.specs.declared.symbols.Symbol.TheVariants as symbol
use Rattle.ll_parser.specs.declared.formulas.Mode.{Mode}
use Rattle.ll_parser.specs.Raw.{Raw, none, raws_then, is_goal}
use Rattle.ll_parser.specs.Grammar.{test_raw}
use Rattle.ll_parser.specs.Flat.{Pending, Flat, part, term_part, close_term, close_group, operate, reduce, end_with, end_expression, final_expression}
use Rattle.ll_parser.specs.Nodes.{raw_trees, raw_at}
use Rattle.ll_parser.specs.Symbols.{symbol_tok}
use Rattle.ll_parser.specs.Waiting.{known, word_view, args_view, pushed, waiting, waiting_below, tree, args_from, IsSound, FitsBelow, IsNode, Dropped, HasMore}
use Rattle.ll_parser.specs.Waiting.{Added, IsBuilt, IsGoal, Gives, GivesTree}
use Rattle.ll_parser.proofs.machines.Newest.{HasNewest}

pub some-frame : (w : Waiting) (f : Frame) → HasNewest w f → 0 < length w.frames.items
some-frame w f (rest, e) = let l : length w.frames.items ≡ length rest + 1 = ap length e ∙ length-append rest (f ∷ []) in omega arith

module _ (old mid : Waiting) where
  pub dropped : (f g : Frame) → HasNewest old f → f ≡ g → ((rest : List Frame) (f : Frame) → old.frames.items ≡ rest ++ f ∷ [] → Dropped old mid f)
      → Dropped old mid g
  dropped f g (rest, e) is h = h rest g (e ∙ ap (λ (z : Frame). rest ++ z ∷ []) is)

  pub still-node : (f : Frame) (i : RawAt) → Dropped old mid f → IsNode old i → IsNode mid i
  still-node f i d inside = subst (λ z. i.0 < length z) (sym d.forms) inside

  still-tree : (f : Frame) (i : RawAt) → Dropped old mid f → (texts : List (List ℕ)) → tree (known texts) mid i ≡ tree (known texts) old i
  still-tree f i d texts = ap (λ z. raw_at (known texts) z i.0) d.forms

  -- `)` behind a term
  module _ (fits : IsSound old) (i : RawAt) where
    module _ (new : Waiting) (more : (n : ℕ) → FitsBelow mid n → HasMore mid new n (λ texts. tree texts mid i)) where
      arguments : (f : Frame) → Dropped old mid f → (n : ℕ) → FitsBelow mid n → (texts : List (List ℕ))
          → raws_then (args_from (known texts) mid n) (tree (known texts) old i) ≡ args_from (known texts) new n
      arguments f d n w texts =
          sym ((more n w).arguments texts ∙ ap (raws_then (args_from (known texts) mid n)) (still-tree f i d texts))

      pub closes-atom : (x : Word) (from : ℕ) → Dropped old mid (frame.Atom x from)
          → FitsBelow new from × ((texts : List (List ℕ)) → close_term (tree (known texts) old i) (waiting (known texts) old)
          ≡ Some (part (word_view (known texts) x) (args_from (known texts) new from) (waiting_below (known texts) new from)))
      closes-atom x from d =
          let w = (d.can fits).fits in let m = more from w in (
            m.fits,
            λ texts. ap (close_term (tree (known texts) old i)) (d.waits texts)
                ∙ (λ k. Some (part (word_view (known texts) x) (arguments (frame.Atom x from) d from w texts k) (sym (m.waits texts) k))),
          )

      pub closes-application : (x : Word) (from : ℕ) → Dropped old mid (frame.Application x from)
          → FitsBelow new from × ((texts : List (List ℕ)) → close_term (tree (known texts) old i) (waiting (known texts) old)
          ≡ Some (term_part (word_view (known texts) x) (args_from (known texts) new from) (waiting_below (known texts) new from)))
      closes-application x from d =
          let w = (d.can fits).fits in let m = more from w in (
            m.fits,
            λ texts. ap (close_term (tree (known texts) old i)) (d.waits texts)
                ∙ (λ k. Some (term_part (word_view (known texts) x) (arguments (frame.Application x from) d from w texts k) (sym (m.waits texts) k))),
          )

    -- brackets round a term or an expression
    pub closes-group : (f : Frame) (take : Raw → List Pending → Flat) → Dropped old mid f → IsSound mid → IsNode old i
        → (close : List (List ℕ) → Raw → List Pending → Option Flat)
        → ((texts : List (List ℕ)) (r : Raw) → close texts r (pushed (known texts) mid f) ≡ Some (take r (waiting (known texts) mid)))
        → (IsSound mid × IsNode mid i) × ((texts : List (List ℕ)) → close texts (tree (known texts) old i) (waiting (known texts) old)
        ≡ Some (take (tree (known texts) mid i) (waiting (known texts) mid)))
    closes-group f take d w inside close h = (
      (w, still-node f i d inside),
      λ texts. ap (close texts (tree (known texts) old i)) (d.waits texts) ∙ h texts (tree (known texts) old i)
          ∙ ap (λ z. Some (take z (waiting (known texts) mid))) (sym (still-tree f i d texts)),
    )

  -- the goal of an expression
  module _ (new : Waiting) (fits : IsSound old) (left i j : RawAt) where
    pub ends-is : (at : Place) → Dropped old mid (frame.Is at left) → Added mid new j (λ texts. is_goal at (tree texts mid left) (tree texts mid i))
        → IsGoal old new i j
    ends-is at d a =
        let w = (d.can fits).fits in
        let is : (texts : List (List ℕ)) → is_goal at (tree (known texts) mid left) (tree (known texts) old i) ≡ tree (known texts) new j =
        λ texts. ap (is_goal at (tree (known texts) mid left)) (sym (still-tree (frame.Is at left) i d texts)) ∙ sym (a.is texts) in
        record {
          fits = a.fits w;
          inside = a.inside;
          goes_on = λ texts t. ap (λ ps. end_expression (tree (known texts) old i) ps t) (d.waits texts)
              ∙ (λ k. operate (is texts k) (sym (a.waits texts w) k) t);
          ends = λ texts. ap (final_expression (tree (known texts) old i)) (d.waits texts)
              ∙ (λ k. let q = reduce Close (is texts k) (sym (a.waits texts w) k) in end_with q.0 q.1);
        }

    pub ends-test : (op : TestOp) (at : Place) → Dropped old mid (frame.Comparison op at left)
        → IsBuilt mid new j (λ texts. test_raw op at (tree texts mid left) (tree texts mid i)) (λ texts. waiting texts mid) → IsGoal old new i j
    ends-test op at d b =
        let is : (texts : List (List ℕ)) → test_raw op at (tree (known texts) mid left) (tree (known texts) old i) ≡ tree (known texts) new j =
        λ texts. ap (test_raw op at (tree (known texts) mid left)) (sym (still-tree (frame.Comparison op at left) i d texts)) ∙ sym (b.leaves.is texts) in
        record {
          fits = b.leaves.fits;
          inside = b.leaves.inside;
          goes_on = λ texts t. ap (λ ps. end_expression (tree (known texts) old i) ps t) (d.waits texts)
              ∙ (λ k. operate (is texts k) (sym (b.leaves.waits texts) k) t);
          ends = λ texts. ap (final_expression (tree (known texts) old i)) (d.waits texts)
              ∙ (λ k. let q = reduce Close (is texts k) (sym (b.leaves.waits texts) k) in end_with q.0 q.1);
        }

-- another name for the tree that is given
pub regiven : (w : Waiting) (p q : List (List ℕ) → Option Raw) → ((texts : List (List ℕ)) → q (known texts) ≡ p (known texts)) → (o : Option RawAt)
    → GivesTree w o p → GivesTree w o q
regiven w p q e None g = λ texts. e texts ∙ g texts
regiven w p q e (Some at) g = (g.0, λ texts. e texts ∙ g.1 texts)

-- another name for the state that is given
pub same-gives : (w : Waiting) (p q : List (List ℕ) → Option Flat) → ((texts : List (List ℕ)) → q (known texts) ≡ p (known texts)) → (o : Option Mode)
    → Gives w o p → Gives w o q
same-gives w p q e None g = λ texts. e texts ∙ g texts
same-gives w p q e (Some m) g = (g.0, λ texts. e texts ∙ g.1 texts)

-- no other token closes a bracket
pub no-bracket-end : (texts : List (List ℕ)) (x : Flat) (s : Symbol) → ((at : Place) → s ≡ symbol.ParenRight at → ⊥)
    → close_group x (symbol_tok texts s) ≡ None
no-bracket-end texts x (symbol.ParenRight at) h = absurd (h at refl)
no-bracket-end texts x _ h = refl

-- no argument waits from the end on
pub no-arguments : (w : Waiting) (from : ℕ) → length w.args.items ≡ from → (texts : List (List ℕ)) → args_from texts w from ≡ none
no-arguments w from h texts = by_rest (drop from w.args.items) refl
  where
    by_rest : (xs : List RawAt) → drop from w.args.items ≡ xs → args_view (raw_trees texts w.forms) xs ≡ none
    by_rest [] e = refl
    by_rest (a ∷ xs) e = let l : length (drop from w.args.items) ≡ length (a ∷ xs) = ap length e in absurd (omega (arith, length-drop from w.args.items))
