-- What has been read of a program or of a query, as the machines over raw trees have it.
use Rattle.std.specs.Prelude.{◌≡◌, ℕ, ◌<◌, List, [], length, All, Option, Some, None, option_map}
use Rattle.ll_parser.specs.declared.RawAt.{RawAt}
use Rattle.ll_parser.specs.declared.RawClause.{RawClause}
use Rattle.ll_parser.specs.declared.RawModule.{RawModule}
use Rattle.ll_parser.specs.declared.texts.Phase.{Phase}
use Rattle.ll_parser.specs.declared.texts.Phase.TheVariants as phase
use Rattle.ll_parser.specs.declared.texts.Stage.{Stage}
use Rattle.ll_parser.specs.declared.texts.Stage.TheVariants as stage
use Rattle.ll_parser.specs.declared.texts.Draft.{Draft}
use Rattle.ll_parser.specs.declared.waiting.Waiting.{Waiting}
use Rattle.ll_parser.specs.Raw.{Raw, ModuleTree, ProgramTree}
use Rattle.ll_parser.specs.FlatText.{Phase as FlatPhase, boundary, wanting, inside, heading, params, localizing, locals, FlatProgram, add_clause, close_module}
use Rattle.ll_parser.specs.FlatText.{FlatQuery, asking, ended}
use Rattle.ll_parser.specs.Nodes.{Node, shown_clause, shown_module, shown_program}
use Rattle.ll_parser.specs.Waiting.{known, tree, mode_view, IsSound, IsNode, IsNew, ModeFits}

-- ---- queries

abbrev pub stage_view : List (List ℕ) → Waiting → Stage → FlatQuery
stage_view texts w (stage.Formula m) = asking (mode_view texts w m)
stage_view texts w (stage.Ended at) = ended (tree texts w at)

abbrev pub StageFits : Waiting → Stage → Type 0
StageFits w (stage.Formula m) = ModeFits w m
StageFits w (stage.Ended at) = IsSound w × IsNode w at

-- the next state is that of the stage, or there is none, whatever the texts of the names are
abbrev pub GivesStage : Waiting → Option Stage → (List (List ℕ) → Option FlatQuery) → Type 0
GivesStage w None next = (texts : List (List ℕ)) → next (known texts) ≡ None
GivesStage w (Some s) next = StageFits w s × ((texts : List (List ℕ)) → next (known texts) ≡ Some (stage_view (known texts) w s))

-- the tree of the query is that at the place, or there is none
abbrev pub GivesQuery : Waiting → Option RawAt → (List (List ℕ) → Option Raw) → Type 0
GivesQuery w None next = (texts : List (List ℕ)) → next (known texts) ≡ None
GivesQuery w (Some at) next = IsNode w at × ((texts : List (List ℕ)) → next (known texts) ≡ Some (tree (known texts) w at))

-- ---- programs

abbrev pub phase_view : List (List ℕ) → Waiting → Phase → FlatPhase
phase_view texts w phase.Boundary = boundary
phase_view texts w phase.Marked = wanting
phase_view texts w (phase.Clause linear m) = inside linear (mode_view texts w m)
phase_view texts w phase.Heading = heading
phase_view texts w phase.Params = params
phase_view texts w phase.Local = localizing
phase_view texts w phase.Locals = locals

-- the clauses and modules that are closed
abbrev pub whole_view : List (List ℕ) → Draft → ProgramTree
whole_view texts d = shown_program texts d.waiting.forms d.clauses.items d.modules.items

-- the module at work
abbrev pub current_view : List (List ℕ) → Draft → Option ModuleTree
current_view texts d = option_map (shown_module texts d.waiting.forms) d.current

abbrev pub draft_view : List (List ℕ) → Draft → Phase → FlatProgram
draft_view texts d p = record { whole = whole_view texts d; current = current_view texts d; phase = phase_view texts d.waiting p }

-- nothing waits
pub record IsIdle (w : Waiting) : Type 0 where
  pub fits : IsSound w
  pub frames : w.frames.items ≡ []

abbrev pub PhaseFits : Waiting → Phase → Type 0
PhaseFits w phase.Boundary = IsIdle w
PhaseFits w phase.Marked = IsIdle w
PhaseFits w (phase.Clause linear m) = ModeFits w m
PhaseFits w phase.Heading = IsIdle w
PhaseFits w phase.Params = IsIdle w
PhaseFits w phase.Local = IsIdle w
PhaseFits w phase.Locals = IsIdle w

-- the formulas of clauses are nodes
abbrev pub ClausesFit : List Node → List RawClause → Type 0
ClausesFit nodes clauses = All (λ c. c.form.0 < length nodes) clauses

abbrev pub ModuleFits : List Node → RawModule → Type 0
ModuleFits nodes m = ClausesFit nodes m.clauses.items

-- those of the module at work too, if there is one
abbrev pub CurrentFits : List Node → Option RawModule → Type 0
CurrentFits nodes None = Unit {0}
CurrentFits nodes (Some m) = ModuleFits nodes m

-- the formulas of all clauses so far are nodes
pub record DraftFits (d : Draft) : Type 0 where
  pub clauses : ClausesFit d.waiting.forms d.clauses.items
  pub modules : All (ModuleFits d.waiting.forms) d.modules.items
  pub current : CurrentFits d.waiting.forms d.current

-- the next state is that of the phase, or there is none, whatever the texts of the names are
abbrev pub GivesPhase : Draft → Option Phase → (List (List ℕ) → Option FlatProgram) → Type 0
GivesPhase d None next = (texts : List (List ℕ)) → next (known texts) ≡ None
GivesPhase d (Some p) next = DraftFits d × PhaseFits d.waiting p × ((texts : List (List ℕ)) → next (known texts) ≡ Some (draft_view (known texts) d p))

-- a clause was added, to the module at work if there is one
pub record AddsClause (old new : Draft) (c : RawClause) : Type 0 where
  pub fits : DraftFits new
  pub waiting : new.waiting ≡ old.waiting
  pub is : (texts : List (List ℕ)) → draft_view (known texts) new phase.Boundary
      ≡ add_clause (whole_view (known texts) old) (current_view (known texts) old) (shown_clause (known texts) old.waiting.forms c)

-- the module at work was put to the others
pub record ClosesModule (old new : Draft) : Type 0 where
  pub fits : DraftFits new
  pub waiting : new.waiting ≡ old.waiting
  pub none : new.current ≡ None
  pub is : (texts : List (List ℕ)) → whole_view (known texts) new ≡ close_module (whole_view (known texts) old) (current_view (known texts) old)

-- nothing has been read
pub record IsNewDraft (d : Draft) : Type 0 where
  pub waiting : IsNew d.waiting
  pub clauses : d.clauses.items ≡ []
  pub modules : d.modules.items ≡ []
  pub current : d.current ≡ None
