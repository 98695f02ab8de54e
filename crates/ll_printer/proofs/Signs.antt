-- What is printed of a node by what is seen of it, where only some signs count.
use Rattle.std.proofs.Common.{◌≡◌, ℕ, Bool, false, List, [], Bor, refl, ap, codes}
use Rattle.std.specs.Prelude.{ℤ}
use Rattle.ll_parser.specs.declared.Named.{Named}
use Rattle.ll_parser.specs.declared.Op.{Op}
use Rattle.ll_parser.specs.declared.RawAt.{RawAt}
use Rattle.ll_parser.specs.declared.RawNode.{RawNode}
use Rattle.ll_parser.specs.declared.RawNode.TheVariants as seen
use Rattle.ll_parser.specs.Nodes.{Node, raw_at}
use Rattle.ll_parser.specs.Seen.{IsRawNode}
use Rattle.ll_parser.specs.Printed.{Rank, is_pair, has_arguments, term_text, expr_text}
use Rattle.ll_printer.specs.Parts.{needs_brackets, operator_text}

module _ (names : List (List ℕ)) (nodes : List Node) (at : ℕ) where
  -- a term is printed as `_` where it is neither a head nor a number, and so is an expression
  pub other-text : (view : RawNode) → IsRawNode nodes at view → ((n : Named) (args : Bor (List RawAt)) → view ≡ seen.Head n args → ⊥)
      → ((z : ℤ) → view ≡ seen.Int z → ⊥) → (term_text (raw_at names nodes at) ≡ codes "_") × (expr_text (raw_at names nodes at) ≡ codes "_")
  other-text seen.True is no_head no_int = (ap term_text (is.tree names), ap expr_text (is.tree names))
  other-text seen.Erase is no_head no_int = (ap term_text (is.tree names), ap expr_text (is.tree names))
  other-text (seen.Braces g) is no_head no_int = (ap term_text (is.tree names), ap expr_text (is.tree names))
  other-text (seen.Forall n g) is no_head no_int = (ap term_text (is.tree names), ap expr_text (is.tree names))
  other-text (seen.Exists n g) is no_head no_int = (ap term_text (is.tree names), ap expr_text (is.tree names))
  other-text (seen.Load n args g) is no_head no_int = (ap term_text (is.tree names), ap expr_text (is.tree names))
  other-text (seen.Binary o f g) is no_head no_int = (ap term_text (is.tree names), ap expr_text (is.tree names))
  other-text seen.Any is no_head no_int = (ap term_text (is.tree names), ap expr_text (is.tree names))
  other-text (seen.Is f g) is no_head no_int = (ap term_text (is.tree names), ap expr_text (is.tree names))
  other-text (seen.Less f g) is no_head no_int = (ap term_text (is.tree names), ap expr_text (is.tree names))
  other-text (seen.Most f g) is no_head no_int = (ap term_text (is.tree names), ap expr_text (is.tree names))
  other-text (seen.Head n args) is no_head no_int = absurd (no_head n args refl)
  other-text (seen.Int z) is no_head no_int = absurd (no_int z refl)

  -- nothing but a head has arguments, is a pair or has an operator
  pub headless : (view : RawNode) → IsRawNode nodes at view → ((n : Named) (args : Bor (List RawAt)) → view ≡ seen.Head n args → ⊥)
      → (has_arguments (raw_at names nodes at) ≡ false) × (is_pair (raw_at names nodes at) ≡ false) × (operator_text (raw_at names nodes at) ≡ [])
  headless seen.True is no_head = (ap has_arguments (is.tree names), ap is_pair (is.tree names), ap operator_text (is.tree names))
  headless seen.Erase is no_head = (ap has_arguments (is.tree names), ap is_pair (is.tree names), ap operator_text (is.tree names))
  headless (seen.Braces g) is no_head = (ap has_arguments (is.tree names), ap is_pair (is.tree names), ap operator_text (is.tree names))
  headless (seen.Forall n g) is no_head = (ap has_arguments (is.tree names), ap is_pair (is.tree names), ap operator_text (is.tree names))
  headless (seen.Exists n g) is no_head = (ap has_arguments (is.tree names), ap is_pair (is.tree names), ap operator_text (is.tree names))
  headless (seen.Load n args g) is no_head = (ap has_arguments (is.tree names), ap is_pair (is.tree names), ap operator_text (is.tree names))
  headless (seen.Binary o f g) is no_head = (ap has_arguments (is.tree names), ap is_pair (is.tree names), ap operator_text (is.tree names))
  headless seen.Any is no_head = (ap has_arguments (is.tree names), ap is_pair (is.tree names), ap operator_text (is.tree names))
  headless (seen.Is f g) is no_head = (ap has_arguments (is.tree names), ap is_pair (is.tree names), ap operator_text (is.tree names))
  headless (seen.Less f g) is no_head = (ap has_arguments (is.tree names), ap is_pair (is.tree names), ap operator_text (is.tree names))
  headless (seen.Most f g) is no_head = (ap has_arguments (is.tree names), ap is_pair (is.tree names), ap operator_text (is.tree names))
  headless (seen.Int z) is no_head = (ap has_arguments (is.tree names), ap is_pair (is.tree names), ap operator_text (is.tree names))
  headless (seen.Head n args) is no_head = absurd (no_head n args refl)

  -- brackets stand round quantifiers, loads and operators alone
  pub unbracketed : (s : Rank) (f : Bool) (view : RawNode) → IsRawNode nodes at view → ((n : Named) (g : RawAt) → view ≡ seen.Forall n g → ⊥)
      → ((n : Named) (g : RawAt) → view ≡ seen.Exists n g → ⊥)
      → ((n : Named) (args : Bor (List RawAt)) (g : RawAt) → view ≡ seen.Load n args g → ⊥)
      → ((o : Op) (l r : RawAt) → view ≡ seen.Binary o l r → ⊥) → needs_brackets s f (raw_at names nodes at) ≡ false
  unbracketed s f seen.True is _ _ _ _ = ap (needs_brackets s f) (is.tree names)
  unbracketed s f seen.Erase is _ _ _ _ = ap (needs_brackets s f) (is.tree names)
  unbracketed s f (seen.Braces g) is _ _ _ _ = ap (needs_brackets s f) (is.tree names)
  unbracketed s f seen.Any is _ _ _ _ = ap (needs_brackets s f) (is.tree names)
  unbracketed s f (seen.Is l r) is _ _ _ _ = ap (needs_brackets s f) (is.tree names)
  unbracketed s f (seen.Less l r) is _ _ _ _ = ap (needs_brackets s f) (is.tree names)
  unbracketed s f (seen.Most l r) is _ _ _ _ = ap (needs_brackets s f) (is.tree names)
  unbracketed s f (seen.Int z) is _ _ _ _ = ap (needs_brackets s f) (is.tree names)
  unbracketed s f (seen.Head n args) is _ _ _ _ = ap (needs_brackets s f) (is.tree names)
  unbracketed s f (seen.Forall n g) is none _ _ _ = absurd (none n g refl)
  unbracketed s f (seen.Exists n g) is _ none _ _ = absurd (none n g refl)
  unbracketed s f (seen.Load n args g) is _ _ none _ = absurd (none n args g refl)
  unbracketed s f (seen.Binary o l r) is _ _ _ none = absurd (none o l r refl)
