-- A bank as its lists of nodes, and the trees that its places show.
use Rattle.std.specs.Prelude.{◌≡◌, ℕ, ◌<◌, ◌≤◌, ◌++◌, ℤ, List, [], ◌∷◌, length, map, take, All, sum_by, slice_index_or}
use Rattle.ll_bank.specs.declared.Head.{Head}
use Rattle.ll_bank.specs.declared.At.{At}
use Rattle.ll_bank.specs.declared.BankSize.{BankSize}
use Rattle.ll_bank.specs.declared.TermView.{TermView}
use Rattle.ll_bank.specs.declared.TermView.TheVariants.{Var as VarView, Int as IntView, App as AppView}
use Rattle.ll_bank.specs.declared.FormNode.{FormNode}
use Rattle.ll_bank.specs.declared.FormNode.TheVariants.{Top as TopView, One as OneView, Atom as AtomView, With as WithView, Tensor as TensorView}
use Rattle.ll_bank.specs.declared.FormNode.TheVariants.{Plus as PlusView, Bang as BangView, Lolli as LolliView, Imp as ImpView, Forall as ForallView}
use Rattle.ll_bank.specs.declared.FormNode.TheVariants.{Exists as ExistsView, Use as UseView, Is as IsView, Less as LessView, Most as MostView}
use Rattle.ll_bank.specs.Term.{Term, Var, Int, app}
use Rattle.ll_bank.specs.Form.{Form, Top, One, Atom, With, Tensor, Plus, Bang, Lolli, Imp, Forall, Exists, Use, Num, Relation, Is, Less, Most}

-- a term's outermost sign: a variable, a whole number, or a head with the places of its arguments
pub data TermNode : Type 0 where
  VarNode : ℕ → TermNode
  IntNode : ℤ → TermNode
  AppNode : Head → List ℕ → TermNode

-- a formula's outermost sign, with the places of the terms and formulas under it
pub data FormulaNode : Type 0 where
  TopNode : FormulaNode
  OneNode : FormulaNode
  AtomNode : ℕ → FormulaNode
  WithNode : ℕ → ℕ → FormulaNode
  TensorNode : ℕ → ℕ → FormulaNode
  PlusNode : ℕ → ℕ → FormulaNode
  BangNode : ℕ → FormulaNode
  LolliNode : ℕ → ℕ → FormulaNode
  ImpNode : ℕ → ℕ → FormulaNode
  ForallNode : ℕ → FormulaNode
  ExistsNode : ℕ → FormulaNode
  UseNode : ℕ → List ℕ → ℕ → FormulaNode
  NumNode : Relation → ℕ → ℕ → FormulaNode

-- a bank: its nodes of terms and of formulas, each at its place
pub record Nodes : Type 0 where
  pub terms : List TermNode
  pub forms : List FormulaNode

-- the bank without nodes
abbrev pub no_nodes : Nodes
no_nodes = record { terms = []; forms = [] }

-- the trees of nodes in turn, each built over the trees of the nodes before it
abbrev pub grow : {N T : Type 0} → (List T → N → T) → List T → List N → List T
grow build trees [] = trees
grow build trees (n ∷ ns) = grow build (trees ++ build trees n ∷ []) ns

-- the term at a place of a list, or some term past its end
abbrev pub term_in : List Term → ℕ → Term
term_in trees at = slice_index_or trees at (Var 0)

-- the term that a node builds over a list of terms
abbrev pub build_term : List Term → TermNode → Term
build_term trees (VarNode n) = Var n
build_term trees (IntNode z) = Int z
build_term trees (AppNode h args) = app h (map (term_in trees) args)

-- the formula at a place of a list, or some formula past its end
abbrev pub form_in : List Form → ℕ → Form
form_in trees at = slice_index_or trees at Top

-- the formula that a node builds over the terms at places and a list of formulas
abbrev pub build_form : (ℕ → Term) → List Form → FormulaNode → Form
build_form term trees TopNode = Top
build_form term trees OneNode = One
build_form term trees (AtomNode a) = Atom (term a)
build_form term trees (WithNode f g) = With (form_in trees f) (form_in trees g)
build_form term trees (TensorNode f g) = Tensor (form_in trees f) (form_in trees g)
build_form term trees (PlusNode f g) = Plus (form_in trees f) (form_in trees g)
build_form term trees (BangNode f) = Bang (form_in trees f)
build_form term trees (LolliNode f g) = Lolli (form_in trees f) (form_in trees g)
build_form term trees (ImpNode f g) = Imp (form_in trees f) (form_in trees g)
build_form term trees (ForallNode f) = Forall (form_in trees f)
build_form term trees (ExistsNode f) = Exists (form_in trees f)
build_form term trees (UseNode m args f) = Use m (map term args) (form_in trees f)
build_form term trees (NumNode r t u) = Num r (term t) (term u)

-- the term that a place of the bank shows
unfoldable pub term_tree : Nodes → ℕ → Term
term_tree nodes at = term_in (grow build_term [] nodes.terms) at

-- the formula that a place of the bank shows
unfoldable pub form_tree : Nodes → ℕ → Form
form_tree nodes at = form_in (grow (build_form (term_tree nodes)) [] nodes.forms) at

-- the terms that places of the bank show
abbrev pub term_trees : Nodes → List At → List Term
term_trees nodes args = map (λ a. term_tree nodes a.0) args

-- the place of a term is in the bank
abbrev pub HasTerm : Nodes → ℕ → Type 0
HasTerm nodes at = at < length nodes.terms

-- the place of a formula is in the bank
abbrev pub HasForm : Nodes → ℕ → Type 0
HasForm nodes at = at < length nodes.forms

-- each place of a term is in the bank
abbrev pub AllInTerms : Nodes → List At → Type 0
AllInTerms nodes args = All (λ a. a.0 < length nodes.terms) args

-- the place is in the bank and shows this term
pub record ShowsTerm (nodes : Nodes) (at : ℕ) (t : Term) : Type 0 where
  pub inside : HasTerm nodes at
  pub tree : term_tree nodes at ≡ t

-- the place is in the bank and shows this formula
pub record ShowsForm (nodes : Nodes) (at : ℕ) (f : Form) : Type 0 where
  pub inside : HasForm nodes at
  pub tree : form_tree nodes at ≡ f

-- ---- nodes over lower ones

-- the arguments of a term are below a place
abbrev pub IsTermBelow : ℕ → TermNode → Type 0
IsTermBelow at (VarNode n) = Unit {0}
IsTermBelow at (IntNode z) = Unit {0}
IsTermBelow at (AppNode h args) = All (λ a. a < at) args

-- the terms of a formula are below one place, and its formulas below another
abbrev pub IsFormBelow : ℕ → ℕ → FormulaNode → Type 0
IsFormBelow terms at TopNode = Unit {0}
IsFormBelow terms at OneNode = Unit {0}
IsFormBelow terms at (AtomNode a) = a < terms
IsFormBelow terms at (WithNode f g) = (f < at) × (g < at)
IsFormBelow terms at (TensorNode f g) = (f < at) × (g < at)
IsFormBelow terms at (PlusNode f g) = (f < at) × (g < at)
IsFormBelow terms at (BangNode f) = f < at
IsFormBelow terms at (LolliNode f g) = (f < at) × (g < at)
IsFormBelow terms at (ImpNode f g) = (f < at) × (g < at)
IsFormBelow terms at (ForallNode f) = f < at
IsFormBelow terms at (ExistsNode f) = f < at
IsFormBelow terms at (UseNode m args f) = All (λ a. a < terms) args × (f < at)
IsFormBelow terms at (NumNode r t u) = (t < terms) × (u < terms)

-- each node has its parts at lower places
pub record IsWellFounded (nodes : Nodes) : Type 0 where
  pub terms : (at : ℕ) (d : TermNode) → at < length nodes.terms → IsTermBelow at (slice_index_or nodes.terms at d)
  pub forms : (at : ℕ) (d : FormulaNode) → at < length nodes.forms → IsFormBelow (length nodes.terms) at (slice_index_or nodes.forms at d)

-- ---- sizes

-- the number of a term's arguments
abbrev pub argument_count : TermNode → ℕ
argument_count (AppNode h args) = length args
argument_count _ = 0

-- the number of a load's arguments; other formulas have none
abbrev pub load_argument_count : FormulaNode → ℕ
load_argument_count (UseNode m args f) = length args
load_argument_count _ = 0

-- the numbers of terms, of formulas, and of the arguments of each
abbrev pub size_of : Nodes → BankSize
size_of nodes = record {
  terms = length nodes.terms;
  forms = length nodes.forms;
  arguments = sum_by argument_count nodes.terms;
  load_arguments = sum_by load_argument_count nodes.forms;
}

-- the first nodes, as many as the size counts
abbrev pub front : Nodes → BankSize → Nodes
front nodes size = record { terms = take size.terms nodes.terms; forms = take size.forms nodes.forms }

-- the bank has this size: its first nodes are that many, with that many arguments, and have all their parts among themselves
pub record HasSize (nodes : Nodes) (size : BankSize) : Type 0 where
  pub counts : size_of (front nodes size) ≡ size
  pub whole : IsWellFounded (front nodes size)

-- no number of the first size is past that of the second
pub record IsNotPast (size other : BankSize) : Type 0 where
  pub terms : size.terms ≤ other.terms
  pub forms : size.forms ≤ other.forms
  pub arguments : size.arguments ≤ other.arguments
  pub load_arguments : size.load_arguments ≤ other.load_arguments

-- ---- a bank before and after

-- the later bank has the nodes of the earlier one and more behind them, its old places show the trees that they showed, and it has each
-- size that the earlier one had
pub record Extends (old new : Nodes) : Type 0 where
  pub more_terms : List TermNode
  pub more_forms : List FormulaNode
  pub terms : new.terms ≡ old.terms ++ more_terms
  pub forms : new.forms ≡ old.forms ++ more_forms
  pub same_forms : (at : ℕ) → HasForm old at → form_tree new at ≡ form_tree old at
  pub sizes : (size : BankSize) → HasSize old size → HasSize new size

-- a term more, behind the others
abbrev pub with_term : Nodes → TermNode → Nodes
with_term nodes node = record { terms = nodes.terms ++ node ∷ []; forms = nodes.forms }

-- a formula more, behind the others
abbrev pub with_form : Nodes → FormulaNode → Nodes
with_form nodes node = record { terms = nodes.terms; forms = nodes.forms ++ node ∷ [] }

-- the new bank has exactly the places of a size of the old one, with the trees that they show there, and each size of the old one that is
-- not past this one
pub record IsCutTo (size : BankSize) (old new : Nodes) : Type 0 where
  pub places : size_of new ≡ size
  pub trees : Extends new old
  pub sizes : (other : BankSize) → HasSize old other → IsNotPast other size → HasSize new other

-- the formula that a sign with the places of its parts builds over the trees of the bank
abbrev pub form_of : Nodes → FormNode → Form
form_of nodes TopView = Top
form_of nodes OneView = One
form_of nodes (AtomView a) = Atom (term_tree nodes a.0)
form_of nodes (WithView f g) = With (form_tree nodes f.0) (form_tree nodes g.0)
form_of nodes (TensorView f g) = Tensor (form_tree nodes f.0) (form_tree nodes g.0)
form_of nodes (PlusView f g) = Plus (form_tree nodes f.0) (form_tree nodes g.0)
form_of nodes (BangView f) = Bang (form_tree nodes f.0)
form_of nodes (LolliView f g) = Lolli (form_tree nodes f.0) (form_tree nodes g.0)
form_of nodes (ImpView f g) = Imp (form_tree nodes f.0) (form_tree nodes g.0)
form_of nodes (ForallView f) = Forall (form_tree nodes f.0)
form_of nodes (ExistsView f) = Exists (form_tree nodes f.0)
form_of nodes (UseView m args f) = Use m (term_trees nodes args.now) (form_tree nodes f.0)
form_of nodes (IsView t u) = Num Is (term_tree nodes t.0) (term_tree nodes u.0)
form_of nodes (LessView t u) = Num Less (term_tree nodes t.0) (term_tree nodes u.0)
form_of nodes (MostView t u) = Num Most (term_tree nodes t.0) (term_tree nodes u.0)

-- places as numbers
abbrev pub places : List At → List ℕ
places ats = map (λ a. a.0) ats

-- the node that is seen of a term
abbrev pub node_of_term : TermView → TermNode
node_of_term (VarView n) = VarNode n
node_of_term (IntView z) = IntNode z
node_of_term (AppView h args) = AppNode h (places args.now)

-- the node that is seen of a formula
abbrev pub node_of : FormNode → FormulaNode
node_of TopView = TopNode
node_of OneView = OneNode
node_of (AtomView a) = AtomNode a.0
node_of (WithView f g) = WithNode f.0 g.0
node_of (TensorView f g) = TensorNode f.0 g.0
node_of (PlusView f g) = PlusNode f.0 g.0
node_of (BangView f) = BangNode f.0
node_of (LolliView f g) = LolliNode f.0 g.0
node_of (ImpView f g) = ImpNode f.0 g.0
node_of (ForallView f) = ForallNode f.0
node_of (ExistsView f) = ExistsNode f.0
node_of (UseView m args f) = UseNode m (places args.now) f.0
node_of (IsView t u) = NumNode Is t.0 u.0
node_of (LessView t u) = NumNode Less t.0 u.0
node_of (MostView t u) = NumNode Most t.0 u.0

-- the parts of a sign lie below these numbers of terms and of formulas
abbrev pub HasPartsBelow : ℕ → ℕ → FormNode → Type 0
HasPartsBelow terms forms TopView = Unit {0}
HasPartsBelow terms forms OneView = Unit {0}
HasPartsBelow terms forms (AtomView a) = a.0 < terms
HasPartsBelow terms forms (WithView f g) = (f.0 < forms) × (g.0 < forms)
HasPartsBelow terms forms (TensorView f g) = (f.0 < forms) × (g.0 < forms)
HasPartsBelow terms forms (PlusView f g) = (f.0 < forms) × (g.0 < forms)
HasPartsBelow terms forms (BangView f) = f.0 < forms
HasPartsBelow terms forms (LolliView f g) = (f.0 < forms) × (g.0 < forms)
HasPartsBelow terms forms (ImpView f g) = (f.0 < forms) × (g.0 < forms)
HasPartsBelow terms forms (ForallView f) = f.0 < forms
HasPartsBelow terms forms (ExistsView f) = f.0 < forms
HasPartsBelow terms forms (UseView m args f) = All (λ a. a.0 < terms) args.now × (f.0 < forms)
HasPartsBelow terms forms (IsView t u) = (t.0 < terms) × (u.0 < terms)
HasPartsBelow terms forms (LessView t u) = (t.0 < terms) × (u.0 < terms)
HasPartsBelow terms forms (MostView t u) = (t.0 < terms) × (u.0 < terms)

-- the parts of a sign are places of the bank
abbrev pub HasParts : Nodes → FormNode → Type 0
HasParts nodes view = HasPartsBelow (length nodes.terms) (length nodes.forms) view

-- what is seen at the place of a term is what its tree begins with, and arguments lie at lower places
abbrev pub IsTermView : Nodes → ℕ → TermView → Type 0
IsTermView nodes at (VarView n) = term_tree nodes at ≡ Var n
IsTermView nodes at (IntView z) = term_tree nodes at ≡ Int z
IsTermView nodes at (AppView h args) = (term_tree nodes at ≡ app h (term_trees nodes args.now)) × All (λ a. a.0 < at) args.now

-- what is seen at the place of a formula is what its tree begins with; its formulas lie at lower places, its terms in the bank
pub record IsFormView (nodes : Nodes) (at : ℕ) (view : FormNode) : Type 0 where
  pub tree : form_tree nodes at ≡ form_of nodes view
  pub parts : HasPartsBelow (length nodes.terms) at view
