-- Clauses and modules as contracts see them, and the goal that a module load stands for.
use Rattle.std.specs.Prelude.{ℕ, zero, suc, List, [], ◌∷◌, map, reverse, Some}
use Rattle.ll_bank.specs.Term.{Term, Env}
use Rattle.ll_bank.specs.Form.{Form, Lolli, Imp, Forall, close_form}
use Rattle.ll_laws.specs.declared.Kind.{Kind}
use Rattle.ll_laws.specs.declared.Kind.TheVariants.{Linear, Unbounded}
use Rattle.ll_laws.specs.Number.{Operators}

-- a clause with its kind
pub record ClauseTree : Type 0 where
  pub kind : Kind
  pub form : Form

-- a module; its clauses stand under one quantifier for each local, and inside these under one for each parameter
pub record ModuleTree : Type 0 where
  pub name : ℕ
  pub params : ℕ
  pub locals : ℕ
  pub clauses : List ClauseTree

-- what a search looks at beside its state: the modules that loads name, by their places, and the operators of expressions
pub record Setting : Type 0 where
  pub modules : List ModuleTree
  pub operators : Operators

-- a goal with one clause loaded for it
abbrev pub load : Kind → Form → Form → Form
load Linear r g = Lolli r g
load Unbounded r g = Imp r g

-- a goal with clauses loaded for it, the first one first, their bound places closed by an environment
abbrev pub load_all : Env → List ClauseTree → Form → Form
load_all e [] g = g
load_all e (c ∷ cs) g = load c.kind (close_form e c.form) (load_all e cs g)

-- a goal under so many universal quantifiers
abbrev pub forall_all : ℕ → Form → Form
forall_all zero g = g
forall_all (suc n) g = Forall (forall_all n g)

-- the goal that a load of the module with these arguments stands for, round the goal g
abbrev pub unfold_load : ModuleTree → List Term → Form → Form
unfold_load m ts g = forall_all m.locals (load_all (map (λ t. Some t) (reverse ts)) m.clauses g)
