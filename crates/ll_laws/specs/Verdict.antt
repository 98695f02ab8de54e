-- What a derivation shows of a problem, and its first fault.
use Rattle.std.specs.Prelude.{◌≡◌, ℕ, suc, Bool, true, false, List, [], ◌∷◌, length, nat_eq, slice_index_or, if◌then◌else◌, Some}
use Rattle.ll_bank.specs.Term.{Term, Var}
use Rattle.ll_bank.specs.Form.{Form, sub_form}
use Rattle.ll_laws.specs.declared.Kind.{Kind}
use Rattle.ll_laws.specs.declared.Kind.TheVariants.{Linear, Unbounded}
use Rattle.ll_laws.specs.Module.{ClauseTree}
use Rattle.ll_laws.specs.Problem.{ProblemTree, setting_of}
use Rattle.ll_laws.specs.Shows.{Tree, Labelled, Shows}
use Rattle.ll_laws.specs.Fault.{Checked, Fault, fault}
use Rattle.ll_laws.specs.Line.{DerivationLines, trees_of}

-- the two kinds are one
abbrev pub same_kind : Kind → Kind → Bool
same_kind Linear Linear = true
same_kind Unbounded Unbounded = true
same_kind _ _ = false

-- the clauses of one kind, with their places from n on as labels
abbrev pub labelled : Kind → ℕ → List ClauseTree → List Labelled
labelled k n [] = []
labelled k n (c ∷ cs) = if same_kind k c.kind then record { label = n; clause = c.form } ∷ labelled k (suc n) cs else labelled k (suc n) cs

-- the program's unbounded clauses, and its linear ones, by their places in the text
abbrev pub root_free : ProblemTree → List Labelled
root_free p = labelled Unbounded 0 p.clauses

abbrev pub root_bounded : ProblemTree → List Labelled
root_bounded p = labelled Linear 0 p.clauses

-- the query with terms in place of its variables
abbrev pub instantiated_goal : ProblemTree → List Term → Form
instantiated_goal p ts = sub_form (λ x. slice_index_or ts x (Var x)) p.goal

-- the tree shows the query, with these terms for its variables, from the program
abbrev pub TreeShows : ProblemTree → Tree → List Term → Type 0
TreeShows p x ts = Shows (setting_of p) x (root_free p) (root_bounded p) (instantiated_goal p ts)

-- the derivation is a whole tree that shows the query with a term for each of its variables
pub record DerivationShows (p : ProblemTree) (d : DerivationLines) : Type 0 where
  pub tree : Tree
  pub is_tree : trees_of d.nodes ≡ Some (tree ∷ [])
  pub count : length d.asked ≡ length p.asked
  pub shows : TreeShows p tree d.asked

-- the first node of a tree that does not fit, with its first reason; node 0 and reason 11 where the terms for the query's variables
-- are too few or too many
abbrev pub first_fault : ProblemTree → DerivationLines → Tree → Checked
first_fault p d x =
    if nat_eq (length d.asked) (length p.asked) then fault (setting_of p) 1 x (root_free p) (root_bounded p) (instantiated_goal p d.asked) else Fault 0 11
