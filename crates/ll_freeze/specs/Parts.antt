-- What a machine holds, and what it held at a mark.
use Rattle.std.specs.Prelude.{◌≡◌, ◌≤◌, ◌++◌, ℕ, List, length, take, Option}
use Rattle.ll_bank.specs.declared.At.{At}
use Rattle.ll_bank.specs.declared.FormAt.{FormAt}
use Rattle.ll_bank.specs.Nodes.{Nodes}
use Rattle.ll_unify.specs.Bindings.{Table}
use Rattle.ll_store.specs.Tables.{table_of}
use Rattle.ll_store.specs.Stored.{stored, state_at, IsGood as IsGoodMark, IsBefore as IsStoreBefore, KeepsMarks as KeepsStoreMarks}
use Rattle.ll_laws.specs.declared.Module.{Module}
use Rattle.ll_laws.specs.declared.Step.{Step}
use Rattle.ll_laws.specs.Problem.{ProblemTree}
use Rattle.ll_agenda.specs.declared.agenda.Top.{Top}
use Rattle.ll_agenda.specs.Frames.{Frames}
use Rattle.ll_resources.specs.Resources.{Resources}
use Rattle.ll_resources.specs.History.{HasMark, IsNotPast, KeepsMarks as KeepsContextMarks, state_at as context_at}
use Rattle.ll_freeze.specs.declared.machine.Machine.{Machine}
use Rattle.ll_freeze.specs.declared.machine.Item.{Item}
use Rattle.ll_freeze.specs.declared.mark.ChoiceMark.{ChoiceMark}

-- the parts of a machine
pub record Parts : Type 0 where
  pub problem : ProblemTree
  pub modules : List Module
  pub bank : Nodes
  -- what each variable is bound to, and its level
  pub bound : List (Option At)
  pub levels : List ℕ
  pub resources : Resources FormAt
  pub agenda : Frames Item
  pub top : Top
  pub left : ℕ
  pub eigens : ℕ
  pub terms : List At
  pub steps : List Step

-- the bindings and levels of a machine
abbrev pub table : Parts → Table
table m = record { bound = m.bound; levels = m.levels }

-- what terms and formulas are read in: the places of a bank, and what each variable is bound to, with its level
pub record Base : Type 0 where
  pub bank : Nodes
  pub bound : List (Option At)
  pub levels : List ℕ

abbrev pub base_of : Parts → Base
base_of m = record { bank = m.bank; bound = m.bound; levels = m.levels }

abbrev pub parts_of : Machine → Parts
parts_of m =
    record {
      problem = m.problem.now;
      modules = m.modules.now;
      bank = m.store.bank;
      bound = (table_of m.store.cells.cells).bound;
      levels = (table_of m.store.cells.cells).levels;
      resources = m.context.present;
      agenda = m.agenda;
      top = m.top;
      left = m.left;
      eigens = m.eigens;
      terms = m.terms.items;
      steps = m.steps.items;
    }

-- the parts that a machine had at a mark: a function of what it holds now
abbrev pub parts_at : ChoiceMark → Machine → Parts
parts_at k m =
    record {
      problem = m.problem.now;
      modules = m.modules.now;
      bank = (state_at k.store (stored m.store)).nodes;
      bound = (table_of (state_at k.store (stored m.store)).cells).bound;
      levels = (table_of (state_at k.store (stored m.store)).cells).levels;
      resources = context_at k.context m.context;
      agenda = take k.agenda m.agenda;
      top = k.top;
      left = k.left;
      eigens = k.eigens;
      terms = take k.terms m.terms.items;
      steps = take k.steps m.steps.items;
    }

-- the machine can go back to the mark
pub record IsGood (k : ChoiceMark) (m : Machine) : Type 0 where
  pub store : IsGoodMark k.store (stored m.store)
  pub context : HasMark k.context m.context
  pub agenda : k.agenda ≤ length m.agenda
  pub top : k.top.place ≤ k.agenda
  pub terms : k.terms ≤ length m.terms.items
  pub steps : k.steps ≤ length m.steps.items

-- the mark is a good one, and stands for these parts
pub record StandsFor (k : ChoiceMark) (p : Parts) (m : Machine) : Type 0 where
  pub good : IsGood k m
  pub parts : parts_at k m ≡ p

-- each good mark stays good, with its parts
abbrev pub KeepsMarks : Machine → Machine → Type 0
KeepsMarks old new = (k : ChoiceMark) → IsGood k old → StandsFor k (parts_at k old) new

-- no number of a mark is past that of another
pub record IsBefore (k other : ChoiceMark) : Type 0 where
  pub store : IsStoreBefore k.store other.store
  pub context : IsNotPast k.context other.context
  pub agenda : k.agenda ≤ other.agenda
  pub terms : k.terms ≤ other.terms
  pub steps : k.steps ≤ other.steps

-- each good mark with no number past this one's stays good, with its parts
abbrev pub KeepsMarksTo : ChoiceMark → Machine → Machine → Type 0
KeepsMarksTo last old new = (k : ChoiceMark) → IsBefore k last → IsGood k old → StandsFor k (parts_at k old) new

-- The later machine is of the same problem, and has what the earlier one has and more: so each good mark stays good, with its parts.
pub record Later (old new : Machine) : Type 0 where
  pub problem : new.problem.now ≡ old.problem.now
  pub modules : new.modules.now ≡ old.modules.now
  pub store : KeepsStoreMarks (stored old.store) (stored new.store)
  pub context : KeepsContextMarks old.context new.context
  pub frames : Frames Item
  pub agenda : new.agenda ≡ old.agenda ++ frames
  pub more_terms : List At
  pub terms : new.terms.items ≡ old.terms.items ++ more_terms
  pub more_steps : List Step
  pub steps : new.steps.items ≡ old.steps.items ++ more_steps
