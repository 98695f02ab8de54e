-- Terms and formulas of a bank with values in place of their variables, each at its image.
use Rattle.std.specs.Prelude.{ℕ, ◌<◌, List, length, slice_index_or}
use Rattle.ll_bank.specs.declared.At.{At}
use Rattle.ll_bank.specs.declared.FormAt.{FormAt}
use Rattle.ll_bank.specs.Term.{Term, sub}
use Rattle.ll_bank.specs.Form.{sub_form}
use Rattle.ll_bank.specs.Nodes.{Nodes, term_tree, form_tree, HasTerm, HasForm, ShowsTerm, ShowsForm}
use Rattle.ll_sequent.specs.Starting.{values}

-- the place of a term, and its image, which shows the term with values in place of its variables
pub record IsTermImage (bank : Nodes) (ts : List Term) (at : ℕ) (image : At) : Type 0 where
  pub inside : HasTerm bank at
  pub shows : ShowsTerm bank image.0 (sub (values ts) (term_tree bank at))

-- the same of a formula
pub record IsFormImage (bank : Nodes) (ts : List Term) (at : ℕ) (image : FormAt) : Type 0 where
  pub inside : HasForm bank at
  pub shows : ShowsForm bank image.0 (sub_form (values ts) (form_tree bank at))

-- the images of the first terms, each at the number of its place
abbrev pub AreTermImages : Nodes → List Term → List At → Type 0
AreTermImages bank ts images = (k : ℕ) (d : At) → k < length images → IsTermImage bank ts k (slice_index_or images k d)

-- and of the first formulas
abbrev pub AreFormImages : Nodes → List Term → List FormAt → Type 0
AreFormImages bank ts images = (k : ℕ) (d : FormAt) → k < length images → IsFormImage bank ts k (slice_index_or images k d)
