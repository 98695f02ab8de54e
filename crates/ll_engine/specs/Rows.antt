-- What inferences that take no leaf make of a machine.
use Rattle.std.specs.Prelude.{◌≡◌, suc, List, [], ◌∷◌, ◌++◌, length, None}
use Rattle.ll_bank.specs.declared.At.{At}
use Rattle.ll_bank.specs.declared.FormAt.{FormAt}
use Rattle.ll_bank.specs.declared.Head.TheVariants.{Eigen}
use Rattle.ll_bank.specs.Term.{Var, Con}
use Rattle.ll_bank.specs.Form.{Form, instantiate}
use Rattle.ll_bank.specs.Nodes.{term_trees, form_tree, ShowsTerm, ShowsForm, Extends}
use Rattle.ll_laws.specs.declared.Module.{Module}
use Rattle.ll_laws.specs.Module.{unfold_load}
use Rattle.ll_laws.specs.Shown.{module_tree}
use Rattle.ll_agenda.specs.Frames.{HasTop}
use Rattle.ll_laws.specs.declared.Step.{Step}
use Rattle.ll_laws.specs.declared.Step.TheVariants.{Plain}
use Rattle.ll_freeze.specs.Parts.{Parts}
use Rattle.ll_freeze.specs.declared.machine.Item.{Item}
use Rattle.ll_freeze.specs.Shown.{items_of, closed_goal}

-- the later machine is the earlier one with these items in front of the rest, after one step more
pub record GoesOn (old : Parts) (front rest : List Item) (step : Step) (new : Parts) : Type 0 where
  pub same : new ≡ record old { agenda = new.agenda; top = new.top; left = new.left; steps = new.steps }
  pub top : HasTop new.agenda new.top
  pub items : items_of new ≡ front ++ rest
  pub steps : new.steps ≡ old.steps ++ step ∷ []
  pub left : suc new.left ≡ old.left

-- the later machine is the earlier one with a place that shows this formula as the goal in front of the rest, after one step more; its
-- bank has more places
pub record PutsInFront (old : Parts) (f : Form) (rest : List Item) (new : Parts) : Type 0 where
  pub problem : new.problem ≡ old.problem
  pub modules : new.modules ≡ old.modules
  pub resources : new.resources ≡ old.resources
  pub bank : Extends old.bank new.bank
  pub goal : FormAt
  pub shows : ShowsForm new.bank goal.0 f
  pub top : HasTop new.agenda new.top
  pub items : items_of new ≡ closed_goal goal ∷ rest
  pub steps : new.steps ≡ old.steps ++ Plain ∷ []
  pub left : suc new.left ≡ old.left

-- the body of a `forall`, with the next eigenvariable in place of its bound place, is the goal in front
pub record OpensForall (old : Parts) (body : FormAt) (rest : List Item) (new : Parts) : Type 0 where
  pub opens : PutsInFront old (instantiate (form_tree old.bank body.0) (Con (Eigen old.eigens))) rest new
  pub bound : new.bound ≡ old.bound
  pub levels : new.levels ≡ old.levels
  pub terms : new.terms ≡ old.terms
  pub eigens : new.eigens ≡ suc old.eigens

-- the body of an `exists`, with the next variable in place of its bound place, is the goal in front
pub record OpensExists (old : Parts) (body : FormAt) (rest : List Item) (new : Parts) : Type 0 where
  pub opens : PutsInFront old (instantiate (form_tree old.bank body.0) (Var (length old.levels))) rest new
  pub bound : new.bound ≡ old.bound ++ None ∷ []
  pub levels : new.levels ≡ old.levels ++ old.eigens ∷ []
  pub value : At
  pub shows : ShowsTerm new.bank value.0 (Var (length old.levels))
  pub terms : new.terms ≡ old.terms ++ value ∷ []
  pub eigens : new.eigens ≡ old.eigens

-- the goal that a load of this module with these arguments stands for is the goal in front
pub record Loads (old : Parts) (d : Module) (args : List At) (body : FormAt) (rest : List Item) (new : Parts) : Type 0 where
  pub opens : PutsInFront old (unfold_load (module_tree old.bank d) (term_trees old.bank args) (form_tree old.bank body.0)) rest new
  pub bound : new.bound ≡ old.bound
  pub levels : new.levels ≡ old.levels
  pub terms : new.terms ≡ old.terms
  pub eigens : new.eigens ≡ old.eigens
