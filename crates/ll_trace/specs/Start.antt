-- Where the walk along a branch starts.
use Rattle.std.specs.Prelude.{◌≡◌, ℕ, suc, List, [], ◌∷◌, map}
use Rattle.ll_bank.specs.declared.FormAt.{FormAt}
use Rattle.ll_laws.specs.declared.Clause.{Clause}
use Rattle.ll_laws.specs.declared.Kind.{Kind}
use Rattle.ll_laws.specs.declared.Kind.TheVariants.{Linear, Unbounded}
use Rattle.ll_trace.specs.declared.walk.Goal.TheVariants.{Plain}
use Rattle.ll_trace.specs.declared.walk.Walker.{Walker}

-- the query is to be proved, the clauses have their places as labels, and the terms of so many variables are used
pub record IsAtStart (goal : FormAt) (clauses : List Clause) (asked : ℕ) (w : Walker) : Type 0 where
  pub goals : w.goals.items ≡ Plain goal ∷ []
  pub loaded : w.clauses.items ≡ map (λ c. c.form) clauses
  pub eigens : w.eigens ≡ 0
  pub used : w.used ≡ asked

-- a label, where the kind is linear
abbrev pub with_label : Kind → ℕ → List ℕ → List ℕ
with_label Linear n ns = n ∷ ns
with_label Unbounded n ns = ns

-- the places of linear clauses, from n on
abbrev pub linear_labels : ℕ → List Clause → List ℕ
linear_labels n [] = []
linear_labels n (c ∷ cs) = with_label c.kind n (linear_labels (suc n) cs)
