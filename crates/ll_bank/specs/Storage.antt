-- How flat vectors hold nodes.
use Rattle.std.specs.Prelude.{◌≡◌, ℕ, ◌+◌, ◌≤◌, List, [], ◌∷◌, length, map, All, slice_range, FitsSigned, Option, Some, None}
use Rattle.std.specs.Int.{w64}
use Rattle.ll_bank.specs.declared.At.{At}
use Rattle.ll_bank.specs.declared.FormNode.{FormNode}
use Rattle.ll_bank.specs.declared.FormNode.TheVariants.{Top as TopView, One as OneView, Atom as AtomView, With as WithView, Tensor as TensorView}
use Rattle.ll_bank.specs.declared.FormNode.TheVariants.{Plus as PlusView, Bang as BangView, Lolli as LolliView, Imp as ImpView, Forall as ForallView}
use Rattle.ll_bank.specs.declared.FormNode.TheVariants.{Exists as ExistsView, Use as UseView, Is as IsView, Less as LessView, Most as MostView}
use Rattle.ll_bank.specs.declared.flat.Span.{Span}
use Rattle.ll_bank.specs.declared.flat.StoredTerm.{StoredTerm}
use Rattle.ll_bank.specs.declared.flat.StoredTerm.TheVariants.{Var as StoredVar, Int as StoredInt, App as StoredApp}
use Rattle.ll_bank.specs.declared.flat.StoredForm.{StoredForm}
use Rattle.ll_bank.specs.declared.flat.StoredForm.TheVariants.{Top as StoredTop, One as StoredOne, Atom as StoredAtom, With as StoredWith}
use Rattle.ll_bank.specs.declared.flat.StoredForm.TheVariants.{Tensor as StoredTensor, Plus as StoredPlus, Bang as StoredBang, Lolli as StoredLolli}
use Rattle.ll_bank.specs.declared.flat.StoredForm.TheVariants.{Imp as StoredImp, Forall as StoredForall, Exists as StoredExists, Use as StoredUse}
use Rattle.ll_bank.specs.declared.flat.StoredForm.TheVariants.{Is as StoredIs, Less as StoredLess, Most as StoredMost}
use Rattle.ll_bank.specs.Nodes.{Nodes, TermNode, VarNode, IntNode, AppNode, FormulaNode, TopNode, OneNode, AtomNode, WithNode, TensorNode, PlusNode, BangNode}
use Rattle.ll_bank.specs.Nodes.{LolliNode, ImpNode, ForallNode, ExistsNode, UseNode, NumNode, places}
use Rattle.ll_bank.specs.Form.{Is, Less, Most}
use Rattle.ll_bank.specs.Kept.{DeepNodes}

-- the children of a span
abbrev pub children_of : List At → Span → List At
children_of children span = slice_range children span.from span.to

-- the node of a stored term
abbrev pub term_node : List At → StoredTerm → TermNode
term_node children (StoredVar n) = VarNode n
term_node children (StoredInt z) = IntNode z
term_node children (StoredApp d h args) = AppNode h (places (children_of children args))

-- the node of a stored formula
abbrev pub form_node : List At → StoredForm → FormulaNode
form_node children StoredTop = TopNode
form_node children StoredOne = OneNode
form_node children (StoredAtom a) = AtomNode a.0
form_node children (StoredWith f g) = WithNode f.0 g.0
form_node children (StoredTensor f g) = TensorNode f.0 g.0
form_node children (StoredPlus f g) = PlusNode f.0 g.0
form_node children (StoredBang f) = BangNode f.0
form_node children (StoredLolli f g) = LolliNode f.0 g.0
form_node children (StoredImp f g) = ImpNode f.0 g.0
form_node children (StoredForall f) = ForallNode f.0
form_node children (StoredExists f) = ExistsNode f.0
form_node children (StoredUse m args f) = UseNode m (places (children_of children args)) f.0
form_node children (StoredIs t u) = NumNode Is t.0 u.0
form_node children (StoredLess t u) = NumNode Less t.0 u.0
form_node children (StoredMost t u) = NumNode Most t.0 u.0

-- all nodes that are stored
abbrev pub nodes_of : List At → List At → List StoredTerm → List StoredForm → Nodes
nodes_of arguments load_arguments terms forms = record { terms = map (term_node arguments) terms; forms = map (form_node load_arguments) forms }

-- the depth of a stored term
abbrev pub stored_term_depth : StoredTerm → ℕ
stored_term_depth (StoredApp d h args) = d
stored_term_depth _ = 0

-- and with the depth of each term
abbrev pub deep_of : List At → List At → List StoredTerm → List StoredForm → DeepNodes
deep_of arguments load_arguments terms forms = record { nodes = nodes_of arguments load_arguments terms forms; depths = map stored_term_depth terms }

-- the span of so many children from a place on
abbrev pub span_from : ℕ → ℕ → Span
span_from from count = record { from = from; to = from + count }

-- how a formula is stored, its arguments from a place on
abbrev pub stored_as : ℕ → FormNode → StoredForm
stored_as from TopView = StoredTop
stored_as from OneView = StoredOne
stored_as from (AtomView a) = StoredAtom a
stored_as from (WithView f g) = StoredWith f g
stored_as from (TensorView f g) = StoredTensor f g
stored_as from (PlusView f g) = StoredPlus f g
stored_as from (BangView f) = StoredBang f
stored_as from (LolliView f g) = StoredLolli f g
stored_as from (ImpView f g) = StoredImp f g
stored_as from (ForallView f) = StoredForall f
stored_as from (ExistsView f) = StoredExists f
stored_as from (UseView m args f) = StoredUse m (span_from from (length args.now)) f
stored_as from (IsView t u) = StoredIs t u
stored_as from (LessView t u) = StoredLess t u
stored_as from (MostView t u) = StoredMost t u

-- the arguments of a load; other formulas have none
abbrev pub load_arguments_of : FormNode → List At
load_arguments_of (UseView m args f) = args.now
load_arguments_of _ = []

-- a span lies within the children
abbrev pub IsWithin : List At → Span → Type 0
IsWithin children span = (span.from ≤ span.to) × (span.to ≤ length children)

-- the arguments of a stored term lie within the children, and a whole number has 64 bits
abbrev pub IsTermStored : List At → StoredTerm → Type 0
IsTermStored children (StoredVar n) = Unit {0}
IsTermStored children (StoredInt z) = FitsSigned w64 z
IsTermStored children (StoredApp d h args) = IsWithin children args

-- the arguments of a stored load lie within the children
abbrev pub IsFormStored : List At → StoredForm → Type 0
IsFormStored children (StoredUse m args f) = IsWithin children args
IsFormStored children _ = Unit {0}

-- where a stored term has its arguments
abbrev pub term_span : StoredTerm → Option Span
term_span (StoredApp d h args) = Some args
term_span _ = None

-- where a stored load has its arguments
abbrev pub form_span : StoredForm → Option Span
form_span (StoredUse m args f) = Some args
form_span _ = None

-- spans follow one another, from one place to another
abbrev pub AreInTurn : ℕ → List (Option Span) → ℕ → Type 0
AreInTurn from [] to = from ≡ to
AreInTurn from (None ∷ spans) to = AreInTurn from spans to
AreInTurn from (Some span ∷ spans) to = (span.from ≡ from) × (span.from ≤ span.to) × AreInTurn span.to spans to

-- the vectors hold nodes: each has its arguments among the children, and the nodes have theirs in turn
pub record IsStored (arguments load_arguments : List At) (terms : List StoredTerm) (forms : List StoredForm) : Type 0 where
  pub each_term : All (IsTermStored arguments) terms
  pub each_form : All (IsFormStored load_arguments) forms
  pub term_spans : AreInTurn 0 (map term_span terms) (length arguments)
  pub form_spans : AreInTurn 0 (map form_span forms) (length load_arguments)
