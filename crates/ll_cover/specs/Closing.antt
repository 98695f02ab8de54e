-- What makes a term closed.
use Rattle.std.specs.Prelude.{◌≡◌, ℕ, ◌<◌, Bool, true, List, length, All}
use Rattle.std.specs.List.{list_all}
use Rattle.ll_bank.specs.declared.At.{At}
use Rattle.ll_bank.specs.Term.{is_closed}
use Rattle.ll_bank.specs.Nodes.{Nodes, term_tree, term_trees}

-- the places are below this one, and the term there is closed exactly where theirs are
pub record ArePartsOf (bank : Nodes) (at : ℕ) (args : List At) : Type 0 where
  pub closed : is_closed (term_tree bank at) ≡ list_all is_closed (term_trees bank args)
  pub lower : All (λ a. a.0 < at) args

-- some places wait: the term is closed exactly where theirs are
pub record IsClosedBy (bank : Nodes) (at : ℕ) (waits : ℕ → Bool) : Type 0 where
  pub inside : (k : ℕ) → waits k ≡ true → k < length bank.terms
  pub enough : ((k : ℕ) → waits k ≡ true → is_closed (term_tree bank k) ≡ true) → is_closed (term_tree bank at) ≡ true
  pub needed : is_closed (term_tree bank at) ≡ true → (k : ℕ) → waits k ≡ true → is_closed (term_tree bank k) ≡ true
