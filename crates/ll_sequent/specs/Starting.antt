-- The sequent of a query.
use Rattle.std.specs.Prelude.{◌≡◌, ℕ, suc, if◌then◌else◌, List, [], ◌∷◌, All, slice_index_or}
use Rattle.ll_bank.specs.Term.{Term, Var}
use Rattle.ll_bank.specs.Form.{Form, sub_form}
use Rattle.ll_laws.specs.declared.Clause.{Clause}
use Rattle.ll_laws.specs.declared.Kind.{Kind}
use Rattle.ll_laws.specs.declared.Kind.TheVariants.{Linear, Unbounded}
use Rattle.ll_laws.specs.Module.{ModuleTree, ClauseTree}
use Rattle.ll_laws.specs.Valid.{GoalSide, ClauseSide}
use Rattle.ll_laws.specs.Verdict.{same_kind, labelled}
use Rattle.ll_sequent.specs.declared.sequents.Resource.{Resource}
use Rattle.ll_sequent.specs.declared.sequents.Start.{Start}
use Rattle.ll_sequent.specs.Sequents.{SequentTree, sequent_in, IsSound}
use Rattle.ll_sequent.specs.Judging.{Holds}

-- the terms for variables: the first ones have theirs, and others stay
abbrev pub values : List Term → ℕ → Term
values ts x = slice_index_or ts x (Var x)

-- the clauses of one kind, with their places from n on as labels
abbrev pub of_kind : Kind → ℕ → List Clause → List Resource
of_kind k n [] = []
of_kind k n (c ∷ cs) = if same_kind k c.kind then record { label = n; form = c.form } ∷ of_kind k (suc n) cs else of_kind k (suc n) cs

-- the clauses by their places in the text, and the goal with terms in place of its variables
abbrev pub root_of : List ClauseTree → Form → List Term → SequentTree
root_of clauses goal ts = record { free = labelled Unbounded 0 clauses; bounded = labelled Linear 0 clauses; goal = sub_form (values ts) goal }

-- the goal and the clauses are sound
pub record AreSound (modules : List ModuleTree) (clauses : List ClauseTree) (goal : Form) : Type 0 where
  pub asked : IsSound modules GoalSide [] goal
  pub program : All (λ (c : ClauseTree). IsSound modules ClauseSide [] c.form) clauses

-- the start shows the root, and all that is asked of its formulas holds
pub record IsRoot (modules : List ModuleTree) (clauses : List ClauseTree) (goal : Form) (ts : List Term) (start : Start) : Type 0 where
  pub shows : sequent_in start.bank start.free.items start.root ≡ root_of clauses goal ts
  pub holds : Holds modules start.bank start.free.items start.root
