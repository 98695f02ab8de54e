-- What a step that hands on leaves: a front that is built, a turn of a loop, a bracket that closes, and tokens that begin nothing.
use Rattle.std.proofs.Common.{◌≡◌, ◌<◌, ℕ, true, List, [], ◌∷◌, ◌++◌, length, Option, Some, None, take, refl, sym, ◌∙◌, ap, subst, append_assoc}
use Rattle.std.proofs.Math.Seq.{take-length}
use Rattle.ll_lexer.specs.declared.Place.{Place}
use Rattle.ll_parser.specs.declared.Named.{Named}
use Rattle.ll_parser.specs.declared.Level.{Level}
use Rattle.ll_parser.specs.declared.RawAt.{RawAt}
use Rattle.ll_parser.specs.declared.waiting.Prefix.{Prefix}
use Rattle.ll_parser.specs.declared.waiting.Frame.TheVariants as frame
use Rattle.ll_parser.specs.declared.waiting.Waiting.{Waiting}
use Rattle.ll_parser.specs.declared.symbols.Symbol.{Symbol}
use Rattle.ll_parser.specs.declared.symbols.Symbol.TheVariants as symbol
use Rattle.ll_parser.specs.Raw.{Raw, RawList, none, head, braces, cons_raw}
use Rattle.ll_parser.specs.Grammar.{Word, word_identifier}
use Rattle.ll_parser.specs.Flat.{Pending, want, term_want, term_part, whole, build, taken, reduce, gather, close_brace, operate, term_operate, after_plain}
use Rattle.ll_parser.specs.Flat.{flat_step, part, after_item, take_both, end_expression}
use Rattle.ll_parser.specs.Nodes.{Node, raw_trees, raw_at}
use Rattle.ll_parser.specs.Symbols.{symbol_tok}
use Rattle.ll_parser.specs.Waiting.{known, prefix_view, prefix_left, base, pending, waiting}
use Rattle.ll_parser.specs.Waiting.{waiting_below, tree, args_from, IsSound, FitsBelow, IsNode, CanWait}
use Rattle.ll_parser.specs.Waiting.{Extends, Grows, Added, Dropped, IsBuilt, Popped, TakesNone, Reduced, PoppedCell, HasNoCell, Gathered}
use Rattle.ll_parser.proofs.machines.Dropped.{no-arguments}
use Rattle.ll_parser.proofs.machines.Newest.{Reducing, Gathering}

-- one more node
pub grows-one : (old new : List Node) (n : Node) → new ≡ old ++ n ∷ [] → Grows old new
grows-one old new n e later x = record { more = n ∷ x.more; is = x.is ∙ (ap (λ z. z ++ x.more) e ∙ append_assoc old (n ∷ []) x.more) }

-- ---- the front of a formula, with its operand

module _ (old new : Waiting) (operand i : RawAt) where
  abbrev pub Builds : Prefix → Type 0
  Builds p = IsBuilt old new i (λ texts. build (prefix_view texts (raw_trees texts old.forms) old.args.items p) (tree texts old operand))
      (λ texts. pending texts old.forms (prefix_left old.args.items p) old.frames.items)

  pub front-built : (front p : Prefix) → front ≡ p → base (length old.args.items) (frame.Front p) ≡ length old.args.items
      → prefix_left old.args.items p ≡ old.args.items → CanWait old (frame.Front front)
      → Added old new i (λ texts. build (prefix_view texts (raw_trees texts old.forms) old.args.items p) (tree texts old operand)) → Builds front
  front-built front p e b l can a =
      let w : IsSound old = subst (FitsBelow old) b (subst (λ q. FitsBelow old (base (length old.args.items) (frame.Front q))) e can.fits) in
      subst Builds (sym e) (record {
        leaves = record {
          fits = a.fits w;
          inside = a.inside;
          is = a.is;
          waits = λ texts. a.waits texts w ∙ ap (λ z. pending (known texts) old.forms z old.frames.items) (sym l);
        };
        frames = a.frames;
      })

-- ---- the turns of the loop that reduces

pub reducing-begins : (level : Level) (w : Waiting) (at : RawAt) → IsSound w → IsNode w at → Reducing level w w at at
reducing-begins level w at fits inside = record { fits = fits; grows = λ later e. e; inside = inside; same = λ texts. refl }

pub popped-node : (level : Level) (w rest : Waiting) (front : Prefix) (at : RawAt) → Popped level w rest front → IsNode w at → IsNode rest at
popped-node level w rest front at p inside = subst (λ z. at.0 < length z) (sym p.forms) inside

module _ (level : Level) (old w : Waiting) (first at : RawAt) (inv : Reducing level old w first at) (rest : Waiting) where
  pub reducing-more : (front : Prefix) → Popped level w rest front → Grows w.forms rest.forms → (new : Waiting) (i : RawAt)
      → Builds rest new at i front → Grows rest.forms new.forms → Reducing level old new first i
  reducing-more front p g new i b h = record {
    fits = b.leaves.fits;
    grows = λ later e. inv.grows later (g later (h later e));
    inside = b.leaves.inside;
    same = λ texts. (λ k. reduce level (b.leaves.is texts k) (b.leaves.waits texts k))
        ∙ (sym (p.reduces texts (tree (known texts) rest at))
        ∙ (ap (λ z. reduce level (raw_at (known texts) z at.0) (waiting (known texts) w)) p.forms ∙ inv.same texts));
  }

  pub reducing-less : (front : Prefix) → Popped level w rest front → (new : Waiting) (i : RawAt) → Builds rest new at i front
      → length new.frames.items < length w.frames.items
  reducing-less front p new i b = subst (λ z. length z < length w.frames.items) (sym b.frames) p.smaller

  pub reducing-ends : TakesNone level w rest → Reduced level old rest first at
  reducing-ends t = subst (λ z. Reduced level old z first at) (sym t.same)
      (record { fits = inv.fits; inside = inv.inside; reduces = λ texts. sym (inv.same texts) ∙ t.reduces texts (tree (known texts) w at) })

-- a front that the level takes
pub popped : (level : Level) (old new : Waiting) (p : Prefix) → IsSound old → Dropped old new (frame.Front p)
    → ((texts : List (List ℕ)) (trees : List Raw) (args : List RawAt) → true ≡ taken level (prefix_view texts trees args p)) → Popped level old new p
popped level old new p fits d h = record {
  can = d.can fits;
  forms = d.forms;
  reduces = λ texts r. ap (reduce level r) (d.waits texts)
      ∙ takes level r (prefix_view (known texts) (raw_trees (known texts) new.forms) new.args.items p)
      (pending (known texts) new.forms (prefix_left new.args.items p) new.frames.items)
      (sym (h (known texts) (raw_trees (known texts) new.forms) new.args.items));
  smaller = d.smaller;
}
  where
    takes : (level : Level) (r : Raw) (x : Pending) (ps : List Pending) → taken level x ≡ true → reduce level r (x ∷ ps) ≡ reduce level (build x r) ps
    takes level r x ps e = rw e refl

-- ---- the turns of the loop that gathers

pub gathering-begins : (w : Waiting) (at : RawAt) → IsSound w → IsNode w at → Gathering w w at at
gathering-begins w at fits inside = record { fits = fits; grows = λ later e. e; inside = inside; same = λ texts. refl }

module _ (old w : Waiting) (first at : RawAt) (inv : Gathering old w first at) (rest : Waiting) where
  pub gathering-node : (sign : Place) (left : RawAt) → PoppedCell w rest sign left → IsNode rest at
  gathering-node sign left p = subst (λ z. at.0 < length z) (sym p.forms) inv.inside

  pub gathering-more : (sign : Place) (left : RawAt) → PoppedCell w rest sign left → Grows w.forms rest.forms → (new : Waiting) (i : RawAt)
      → IsBuilt rest new i (λ texts. cons_raw sign (tree texts rest left) (tree texts rest at)) (λ texts. waiting texts rest)
      → Grows rest.forms new.forms → Gathering old new first i
  gathering-more sign left p g new i b h = record {
    fits = b.leaves.fits;
    grows = λ later e. inv.grows later (g later (h later e));
    inside = b.leaves.inside;
    same = λ texts. (λ k. gather (b.leaves.is texts k) (b.leaves.waits texts k))
        ∙ (sym (p.gathers texts (tree (known texts) rest at))
        ∙ (ap (λ z. gather (raw_at (known texts) z at.0) (waiting (known texts) w)) p.forms ∙ inv.same texts));
  }

  pub gathering-less : (sign : Place) (left : RawAt) → PoppedCell w rest sign left → (new : Waiting) → new.frames.items ≡ rest.frames.items
      → length new.frames.items < length w.frames.items
  gathering-less sign left p new e = subst (λ z. length z < length w.frames.items) (sym e) p.smaller

  pub gathering-ends : HasNoCell w rest → Gathered old rest first at
  gathering-ends t = subst (λ z. Gathered old z first at) (sym t.same)
      (record { fits = inv.fits; inside = inv.inside; gathers = λ texts. sym (inv.same texts) ∙ t.gathers texts (tree (known texts) w at) })

-- ---- brackets

pub brace-closes : (old mid : Waiting) (i : RawAt) (at : Place) → Dropped old mid (frame.Brace at) → (texts : List (List ℕ))
    → close_brace (tree (known texts) old i) (waiting (known texts) old)
    ≡ Some (whole (braces at (tree (known texts) mid i)) (waiting (known texts) mid))
brace-closes old mid i at d texts =
    ap (close_brace (tree (known texts) old i)) (d.waits texts)
    ∙ ap (λ z. Some (whole (braces at (raw_at (known texts) z i.0)) (waiting (known texts) mid))) (sym d.forms)

-- ---- no argument waits yet

pub begins : (w : Waiting) (from : ℕ) → from ≡ length w.args.items → IsSound w → FitsBelow w from
begins w from e fits = subst (FitsBelow w) (sym e) fits

pub begins-args : (w : Waiting) (from : ℕ) → from ≡ length w.args.items → (texts : List (List ℕ)) → none ≡ args_from texts w from
begins-args w from e texts = sym (no-arguments w from (sym e) texts)

pub begins-waits : (w : Waiting) (from : ℕ) → from ≡ length w.args.items → (texts : List (List ℕ)) → waiting texts w ≡ waiting_below texts w from
begins-waits w from e texts = ap (λ z. pending texts w.forms z w.frames.items) (sym (ap (λ k. take k w.args.items) e ∙ take-length w.args.items))

-- ---- tokens that mean nothing

pub no-plain : (s : Symbol) → ((at : Place) → s ≡ symbol.Star at → ⊥) → ((at : Place) → s ≡ symbol.Plus at → ⊥) → ((at : Place) → s ≡ symbol.Minus at → ⊥)
    → ((at : Place) → s ≡ symbol.Less at → ⊥) → ((at : Place) → s ≡ symbol.Most at → ⊥) → ((at : Place) → s ≡ symbol.Is at → ⊥)
    → (texts : List (List ℕ)) (r : Raw) (ps : List Pending) → after_plain r ps (symbol_tok texts s) ≡ None
no-plain (symbol.Star at) a b c d e f texts r ps = absurd (a at refl)
no-plain (symbol.Plus at) a b c d e f texts r ps = absurd (b at refl)
no-plain (symbol.Minus at) a b c d e f texts r ps = absurd (c at refl)
no-plain (symbol.Less at) a b c d e f texts r ps = absurd (d at refl)
no-plain (symbol.Most at) a b c d e f texts r ps = absurd (e at refl)
no-plain (symbol.Is at) a b c d e f texts r ps = absurd (f at refl)
no-plain _ a b c d e f texts r ps = refl

pub no-term-begin : (s : Symbol) → ((n : Named) → s ≡ symbol.Name n → ⊥) → ((n : Named) → s ≡ symbol.Variable n → ⊥)
    → ((at : Place) → s ≡ symbol.Any at → ⊥) → ((at : Place) (z : _) → s ≡ symbol.Number at z → ⊥) → ((at : Place) → s ≡ symbol.ParenLeft at → ⊥)
    → (texts : List (List ℕ)) (ps : List Pending) → flat_step (term_want ps) (symbol_tok texts s) ≡ None
no-term-begin (symbol.Name n) a b c d e texts ps = absurd (a n refl)
no-term-begin (symbol.Variable n) a b c d e texts ps = absurd (b n refl)
no-term-begin (symbol.Any at) a b c d e texts ps = absurd (c at refl)
no-term-begin (symbol.Number at z) a b c d e texts ps = absurd (d at z refl)
no-term-begin (symbol.ParenLeft at) a b c d e texts ps = absurd (e at refl)
no-term-begin _ a b c d e texts ps = refl

pub no-operand : (s : Symbol) → ((n : Named) → s ≡ symbol.Name n → ⊥) → ((n : Named) → s ≡ symbol.Variable n → ⊥)
    → ((at : Place) → s ≡ symbol.Any at → ⊥) → ((at : Place) (z : _) → s ≡ symbol.Number at z → ⊥) → ((at : Place) → s ≡ symbol.True at → ⊥)
    → ((at : Place) → s ≡ symbol.Erase at → ⊥) → ((at : Place) → s ≡ symbol.Forall at → ⊥) → ((at : Place) → s ≡ symbol.Exists at → ⊥)
    → ((at : Place) → s ≡ symbol.ParenLeft at → ⊥) → ((at : Place) → s ≡ symbol.BraceLeft at → ⊥)
    → (texts : List (List ℕ)) (ps : List Pending) → flat_step (want ps) (symbol_tok texts s) ≡ None
no-operand (symbol.Name n) a b c d e f g h i j texts ps = absurd (a n refl)
no-operand (symbol.Variable n) a b c d e f g h i j texts ps = absurd (b n refl)
no-operand (symbol.Any at) a b c d e f g h i j texts ps = absurd (c at refl)
no-operand (symbol.Number at z) a b c d e f g h i j texts ps = absurd (d at z refl)
no-operand (symbol.True at) a b c d e f g h i j texts ps = absurd (e at refl)
no-operand (symbol.Erase at) a b c d e f g h i j texts ps = absurd (f at refl)
no-operand (symbol.Forall at) a b c d e f g h i j texts ps = absurd (g at refl)
no-operand (symbol.Exists at) a b c d e f g h i j texts ps = absurd (h at refl)
no-operand (symbol.ParenLeft at) a b c d e f g h i j texts ps = absurd (i at refl)
no-operand (symbol.BraceLeft at) a b c d e f g h i j texts ps = absurd (j at refl)
no-operand _ a b c d e f g h i j texts ps = refl

pub no-operator : (s : Symbol) → ((at : Place) → s ≡ symbol.Comma at → ⊥) → ((at : Place) → s ≡ symbol.Ampersand at → ⊥)
    → ((at : Place) → s ≡ symbol.Semicolon at → ⊥) → ((at : Place) → s ≡ symbol.Lolli at → ⊥) → ((at : Place) → s ≡ symbol.RightArrow at → ⊥)
    → ((at : Place) → s ≡ symbol.ColonDash at → ⊥) → ((at : Place) → s ≡ symbol.LeftArrow at → ⊥) → ((at : Place) → s ≡ symbol.ParenRight at → ⊥)
    → ((at : Place) → s ≡ symbol.BraceRight at → ⊥)
    → (texts : List (List ℕ)) (r : Raw) (ps : List Pending) → operate r ps (symbol_tok texts s) ≡ None
no-operator (symbol.Comma at) a b c d e f g h i texts r ps = absurd (a at refl)
no-operator (symbol.Ampersand at) a b c d e f g h i texts r ps = absurd (b at refl)
no-operator (symbol.Semicolon at) a b c d e f g h i texts r ps = absurd (c at refl)
no-operator (symbol.Lolli at) a b c d e f g h i texts r ps = absurd (d at refl)
no-operator (symbol.RightArrow at) a b c d e f g h i texts r ps = absurd (e at refl)
no-operator (symbol.ColonDash at) a b c d e f g h i texts r ps = absurd (f at refl)
no-operator (symbol.LeftArrow at) a b c d e f g h i texts r ps = absurd (g at refl)
no-operator (symbol.ParenRight at) a b c d e f g h i texts r ps = absurd (h at refl)
no-operator (symbol.BraceRight at) a b c d e f g h i texts r ps = absurd (i at refl)
no-operator _ a b c d e f g h i texts r ps = refl

pub no-term-operator : (s : Symbol) → ((at : Place) → s ≡ symbol.Cons at → ⊥) → ((at : Place) → s ≡ symbol.ParenRight at → ⊥)
    → (texts : List (List ℕ)) (r : Raw) (ps : List Pending) → term_operate r ps (symbol_tok texts s) ≡ None
no-term-operator (symbol.Cons at) a b texts r ps = absurd (a at refl)
no-term-operator (symbol.ParenRight at) a b texts r ps = absurd (b at refl)
no-term-operator _ a b texts r ps = refl

-- a token that is no argument stands behind the whole application
pub application-ends : (s : Symbol) → ((n : Named) → s ≡ symbol.Name n → ⊥) → ((n : Named) → s ≡ symbol.Variable n → ⊥)
    → ((at : Place) → s ≡ symbol.Any at → ⊥) → ((at : Place) (z : _) → s ≡ symbol.Number at z → ⊥) → ((at : Place) → s ≡ symbol.ParenLeft at → ⊥)
    → (texts : List (List ℕ)) (w : Word) (rs : RawList) (ps : List Pending)
    → flat_step (term_part w rs ps) (symbol_tok texts s) ≡ term_operate (head (word_identifier w) rs) ps (symbol_tok texts s)
application-ends (symbol.Name n) a b c d e texts w rs ps = absurd (a n refl)
application-ends (symbol.Variable n) a b c d e texts w rs ps = absurd (b n refl)
application-ends (symbol.Any at) a b c d e texts w rs ps = absurd (c at refl)
application-ends (symbol.Number at z) a b c d e texts w rs ps = absurd (d at z refl)
application-ends (symbol.ParenLeft at) a b c d e texts w rs ps = absurd (e at refl)
application-ends _ a b c d e texts w rs ps = refl

-- a token that is no argument, no arrow of a load and no sign of numbers stands behind the whole atom
pub atom-ends : (s : Symbol) → ((n : Named) → s ≡ symbol.Name n → ⊥) → ((n : Named) → s ≡ symbol.Variable n → ⊥)
    → ((at : Place) → s ≡ symbol.Any at → ⊥) → ((at : Place) (z : _) → s ≡ symbol.Number at z → ⊥) → ((at : Place) → s ≡ symbol.ParenLeft at → ⊥)
    → ((at : Place) → s ≡ symbol.LoadArrow at → ⊥) → ((at : Place) → s ≡ symbol.Is at → ⊥) → ((at : Place) → s ≡ symbol.Most at → ⊥)
    → ((at : Place) → s ≡ symbol.Less at → ⊥) → ((at : Place) → s ≡ symbol.Plus at → ⊥) → ((at : Place) → s ≡ symbol.Minus at → ⊥)
    → ((at : Place) → s ≡ symbol.Star at → ⊥)
    → (texts : List (List ℕ)) (w : Word) (rs : RawList) (ps : List Pending)
    → flat_step (part w rs ps) (symbol_tok texts s) ≡ operate (head (word_identifier w) rs) ps (symbol_tok texts s)
atom-ends (symbol.Name n) a b c d e f g h i j k l texts w rs ps = absurd (a n refl)
atom-ends (symbol.Variable n) a b c d e f g h i j k l texts w rs ps = absurd (b n refl)
atom-ends (symbol.Any at) a b c d e f g h i j k l texts w rs ps = absurd (c at refl)
atom-ends (symbol.Number at z) a b c d e f g h i j k l texts w rs ps = absurd (d at z refl)
atom-ends (symbol.ParenLeft at) a b c d e f g h i j k l texts w rs ps = absurd (e at refl)
atom-ends (symbol.LoadArrow at) a b c d e f g h i j k l texts w rs ps = absurd (f at refl)
atom-ends (symbol.Is at) a b c d e f g h i j k l texts w rs ps = absurd (g at refl)
atom-ends (symbol.Most at) a b c d e f g h i j k l texts w rs ps = absurd (h at refl)
atom-ends (symbol.Less at) a b c d e f g h i j k l texts w rs ps = absurd (i at refl)
atom-ends (symbol.Plus at) a b c d e f g h i j k l texts w rs ps = absurd (j at refl)
atom-ends (symbol.Minus at) a b c d e f g h i j k l texts w rs ps = absurd (k at refl)
atom-ends (symbol.Star at) a b c d e f g h i j k l texts w rs ps = absurd (l at refl)
atom-ends _ a b c d e f g h i j k l texts w rs ps = refl

-- a token that is no sign of an expression stands behind the whole one
pub unit-ends : (s : Symbol) → ((at : Place) → s ≡ symbol.Star at → ⊥) → ((at : Place) → s ≡ symbol.Plus at → ⊥)
    → ((at : Place) → s ≡ symbol.Minus at → ⊥)
    → (texts : List (List ℕ)) (r : Raw) (ps : List Pending)
    → after_item r ps (symbol_tok texts s) ≡ (let q = take_both r ps in end_expression q.0 q.1 (symbol_tok texts s))
unit-ends (symbol.Star at) a b c texts r ps = absurd (a at refl)
unit-ends (symbol.Plus at) a b c texts r ps = absurd (b at refl)
unit-ends (symbol.Minus at) a b c texts r ps = absurd (c at refl)
unit-ends _ a b c texts r ps = refl
