-- What the clauses and modules so far show stays while nodes are added, and what a token outside of a formula does.
use Rattle.std.proofs.Common.{◌≡◌, ℕ, ◌<◌, ◌≤◌, Bool, true, false, List, [], ◌∷◌, ◌++◌, length, map, All, get_or, Option, Some, None, option_map}
use Rattle.std.proofs.Common.{refl, sym, subst, ◌∙◌, ap, append-nil, arith, length-append}
use Rattle.std.proofs.lemmas.List.{map-append}
use Rattle.std.proofs.lemmas.List.Elements.{All-push}
use Rattle.ll_list_laws.proofs.CallerLemmas.{map_same_on as same_map}
use Rattle.ll_lexer.specs.declared.Place.{Place}
use Rattle.ll_bank.proofs.CallerLemmas.{grow_kept}
use Rattle.ll_parser.specs.declared.RawAt.{RawAt}
use Rattle.ll_parser.specs.declared.RawClause.{RawClause}
use Rattle.ll_parser.specs.declared.RawModule.{RawModule}
use Rattle.ll_parser.specs.declared.symbols.Symbol.{Symbol}
use Rattle.ll_parser.specs.declared.symbols.Symbol.TheVariants as symbol
use Rattle.ll_parser.specs.declared.formulas.Mode.{Mode}
use Rattle.ll_parser.specs.declared.formulas.Mode.TheVariants as mode
use Rattle.ll_parser.specs.declared.texts.Phase.{Phase}
use Rattle.ll_parser.specs.declared.texts.Phase.TheVariants as phase
use Rattle.ll_parser.specs.declared.texts.Draft.{Draft}
use Rattle.ll_parser.specs.declared.texts.Stage.{Stage}
use Rattle.ll_parser.specs.declared.texts.Stage.TheVariants as stages
use Rattle.ll_parser.specs.declared.waiting.Waiting.{Waiting}
use Rattle.ll_parser.specs.Raw.{Raw, truth, ClauseTree, ModuleTree, ProgramTree}
use Rattle.ll_parser.specs.Flat.{Pending, Flat, want, flat_step}
use Rattle.ll_parser.specs.FlatText.{boundary, inside, FlatProgram, add_clause, close_module, enter, end_clause, phase_step, program_step, asking, query_start}
use Rattle.ll_parser.specs.FlatText.{query_step, program_start, program_final}
use Rattle.ll_parser.specs.Nodes.{Node, identifier, build_raw, raw_trees, raw_at, shown_clause, shown_module, shown_program}
use Rattle.ll_parser.specs.Symbols.{symbol_tok}
use Rattle.ll_parser.specs.Waiting.{known, waiting, tree, mode_view, Extends, Grows, IsSound, Gives, GivesTree}
use Rattle.ll_parser.specs.Drafts.{whole_view, current_view, draft_view, IsIdle, PhaseFits, ClausesFit, ModuleFits, CurrentFits, DraftFits, GivesPhase}
use Rattle.ll_parser.specs.Drafts.{AddsClause, ClosesModule, stage_view, GivesStage}
use Rattle.ll_parser.proofs.machines.Newest.{pending-none}

-- ---- more nodes

module _ (texts : List (List ℕ)) (nodes more : List Node) where
  raw_at-more : (i : ℕ) → i < length nodes → raw_at texts (nodes ++ more) i ≡ raw_at texts nodes i
  unfolding raw_trees
  raw_at-more i h = grow_kept (build_raw texts) nodes more i (truth (record { line = 1; column = 1 })) h

  clause-more : (c : RawClause) → c.form.0 < length nodes → shown_clause texts (nodes ++ more) c ≡ shown_clause texts nodes c
  clause-more c h = ap (λ (r : Raw). let t : ClauseTree = record { linear = c.linear; form = r } in t) (raw_at-more c.form.0 h)

  clauses-more : (cs : List RawClause) → ClausesFit nodes cs → map (shown_clause texts (nodes ++ more)) cs ≡ map (shown_clause texts nodes) cs
  clauses-more cs h = same_map (shown_clause texts (nodes ++ more)) (shown_clause texts nodes) (λ c. c.form.0 < length nodes) cs clause-more h

  module-more : (m : RawModule) → ModuleFits nodes m → shown_module texts (nodes ++ more) m ≡ shown_module texts nodes m
  module-more m h =
      ap (λ (cs : List ClauseTree). let t : ModuleTree = record {
        name = identifier texts m.name;
        params = map (identifier texts) m.params.items;
        locals =
            map (identifier texts) m.locals.items;
        clauses = cs;
      } in t)
      (clauses-more m.clauses.items h)

  modules-more : (ms : List RawModule) → All (ModuleFits nodes) ms → map (shown_module texts (nodes ++ more)) ms ≡ map (shown_module texts nodes) ms
  modules-more ms h = same_map (shown_module texts (nodes ++ more)) (shown_module texts nodes) (ModuleFits nodes) ms module-more h

  program-more : (cs : List RawClause) (ms : List RawModule) → ClausesFit nodes cs → All (ModuleFits nodes) ms
      → shown_program texts (nodes ++ more) cs ms ≡ shown_program texts nodes cs ms
  program-more cs ms h g = λ i. record { clauses = clauses-more cs h i; modules = modules-more ms g i }

  current-more : (o : Option RawModule) → CurrentFits nodes o → option_map (shown_module texts (nodes ++ more)) o ≡ option_map (shown_module texts nodes) o
  current-more None h = refl
  current-more (Some m) h = ap Some (module-more m h)

clauses-fit : (nodes later : List Node) → length nodes ≤ length later → (cs : List RawClause) → ClausesFit nodes cs → ClausesFit later cs
clauses-fit nodes later le cs h = λ i d l. let b = h i d l in omega arith

current-fits : (nodes later : List Node) → length nodes ≤ length later → (o : Option RawModule) → CurrentFits nodes o → CurrentFits later o
current-fits nodes later le None h = tt
current-fits nodes later le (Some m) h = clauses-fit nodes later le m.clauses.items h

-- the draft after a formula's nodes were added
module _ (d : Draft) (w : Waiting) (fits : DraftFits d) (grows : Grows d.waiting.forms w.forms) where
  longer : Extends d.waiting.forms w.forms
  longer = grows w.forms (record { more = []; is = sym (append-nil w.forms) })

  long : length d.waiting.forms ≤ length w.forms
  long = let e = ap length longer.is in let l = length-append d.waiting.forms longer.more in omega arith

  after : Draft
  after = record { waiting = w; clauses = d.clauses; modules = d.modules; current = d.current }

  pub after-fits : DraftFits (record { waiting = w; clauses = d.clauses; modules = d.modules; current = d.current })
  after-fits = record {
    clauses = clauses-fit d.waiting.forms w.forms long d.clauses.items fits.clauses;
    modules = λ i m l. clauses-fit d.waiting.forms w.forms long (get_or d.modules.items i m).clauses.items (fits.modules i m l);
    current = current-fits d.waiting.forms w.forms long d.current fits.current;
  }

  pub after-whole : (texts : List (List ℕ)) → shown_program texts w.forms d.clauses.items d.modules.items ≡ whole_view texts d
  after-whole texts = ap (λ ns. shown_program texts ns d.clauses.items d.modules.items) longer.is
      ∙ program-more texts d.waiting.forms longer.more d.clauses.items d.modules.items fits.clauses fits.modules

  pub after-current : (texts : List (List ℕ)) → option_map (shown_module texts w.forms) d.current ≡ current_view texts d
  after-current texts = ap (λ ns. option_map (shown_module texts ns) d.current) longer.is
      ∙ current-more texts d.waiting.forms longer.more d.current fits.current

  -- a token in a formula
  pub entered : (linear : Bool) (m : Mode) (next : List (List ℕ) → Option Flat) → Gives w (Some m) next
      → GivesPhase (record { waiting = w; clauses = d.clauses; modules = d.modules; current = d.current }) (Some (phase.Clause linear m))
      (λ texts. enter (whole_view texts d) (current_view texts d) linear (next texts))
  entered linear m next g = (
    after-fits,
    g.0,
    λ texts. ap (enter (whole_view (known texts) d) (current_view (known texts) d) linear) (g.1 texts)
        ∙ (λ i. Some (record {
          whole = sym (after-whole (known texts)) i;
          current = sym (after-current (known texts)) i;
          phase =
              inside linear (mode_view (known texts) w m);
        })),
  )

  -- the end of a clause
  pub ended-clause : (linear : Bool) (at : RawAt) (next : List (List ℕ) → Option Raw) → GivesTree w (Some at) next → (new : Draft)
      → AddsClause (record { waiting = w; clauses = d.clauses; modules = d.modules; current = d.current }) new (record { linear = linear; form = at })
      → GivesPhase new (Some phase.Boundary) (λ texts. end_clause (whole_view texts d) (current_view texts d) linear (next texts))
  ended-clause linear at next g new a = (
    a.fits,
    subst IsIdle (sym a.waiting) (record { fits = g.0.0; frames = g.0.2 }),
    λ texts. ap (end_clause (whole_view (known texts) d) (current_view (known texts) d) linear) (g.1 texts)
        ∙ (λ i. Some (add_clause (sym (after-whole (known texts)) i) (sym (after-current (known texts)) i)
        (record { linear = linear; form = tree (known texts) w at })))
        ∙ ap Some (sym (a.is texts)),
  )

-- ---- what stands for one answer stands for an equal one

pub same-phase : (d : Draft) (o : Option Phase) (f g : List (List ℕ) → Option FlatProgram) → ((texts : List (List ℕ)) → f (known texts) ≡ g (known texts))
    → GivesPhase d o g → GivesPhase d o f
same-phase d None f g e h = λ texts. e texts ∙ h texts
same-phase d (Some p) f g e h = (h.0, h.1, λ texts. e texts ∙ h.2 texts)

-- a formula begins where nothing waits
pub begins-idle : (w : Waiting) → IsIdle w → (texts : List (List ℕ)) → waiting texts w ≡ []
begins-idle w i texts = pending-none texts w.forms w.args.items w.frames.items i.frames

-- a token that is no word of a program begins a clause
pub begins-clause : (texts : List (List ℕ)) (w : ProgramTree) (m : Option ModuleTree) (s : Symbol) → ((at : Place) → s ≡ symbol.Module at → ⊥)
    → ((at : Place) → s ≡ symbol.Local at → ⊥) → ((at : Place) → s ≡ symbol.Linear at → ⊥)
    → phase_step w m boundary (symbol_tok texts s) ≡ enter w m false (flat_step (want []) (symbol_tok texts s))
begins-clause texts w m (symbol.Module at) h i j = absurd (h at refl)
begins-clause texts w m (symbol.Local at) h i j = absurd (i at refl)
begins-clause texts w m (symbol.Linear at) h i j = absurd (j at refl)
begins-clause texts w m _ h i j = refl

-- and with a query
pub asks-on : (texts : List (List ℕ)) (x : Flat) (s : Symbol) → ((at : Place) → s ≡ symbol.Dot at → ⊥)
    → query_step (asking x) (symbol_tok texts s) ≡ option_map asking (flat_step x (symbol_tok texts s))
asks-on texts x (symbol.Dot at) h = absurd (h at refl)
asks-on texts x _ h = refl

pub asks-next : (old new : Waiting) (stage : Stage) (m : Mode) → stage ≡ stages.Formula m → (next : Mode) (s : Symbol) → ((at : Place) → s ≡ symbol.Dot at → ⊥)
    → Gives new (Some next) (λ texts. flat_step (mode_view texts old m) (symbol_tok texts s))
    → GivesStage new (Some (stages.Formula next)) (λ texts. query_step (stage_view texts old stage) (symbol_tok texts s))
asks-next old new stage m e next s h g = (
  g.0,
  λ texts. ap (λ z. query_step (stage_view (known texts) old z) (symbol_tok (known texts) s)) e ∙ asks-on (known texts) (mode_view (known texts) old m) s h
      ∙ ap (option_map asking) (g.1 texts),
)

-- a token behind `LINEAR` begins a marked clause
pub marked-next : (d new : Draft) (o : Option Phase) (p : Phase) → p ≡ phase.Marked → PhaseFits d.waiting p → (s : Symbol)
    → GivesPhase new o (λ texts. enter (whole_view texts d) (current_view texts d) true (flat_step (want (waiting texts d.waiting)) (symbol_tok texts s)))
    → GivesPhase new o (λ texts. program_step (draft_view texts d p) (symbol_tok texts s))
marked-next d new o p e fits s g =
    same-phase new o (λ texts. program_step (draft_view texts d p) (symbol_tok texts s))
    (λ texts. enter (whole_view texts d) (current_view texts d) true (flat_step (want (waiting texts d.waiting)) (symbol_tok texts s)))
    (λ texts. ap (λ z. program_step (draft_view (known texts) d z) (symbol_tok (known texts) s)) e
    ∙ ap (λ (ps : List Pending). enter (whole_view (known texts) d) (current_view (known texts) d) true (flat_step (want ps) (symbol_tok (known texts) s)))
    (sym (begins-idle d.waiting (subst (PhaseFits d.waiting) e fits) (known texts))))
    g

-- ---- the end of a module

-- none is at work
pub closes-none : (d : Draft) (o : Option RawModule) → DraftFits d → d.current ≡ None → o ≡ None
    → ClosesModule d (record { waiting = d.waiting; clauses = d.clauses; modules = d.modules; current = o })
closes-none d o fits none left = record {
  fits = record { clauses = fits.clauses; modules = fits.modules; current = subst (CurrentFits d.waiting.forms) (sym left) tt };
  waiting = refl;
  none = left;
  is = λ texts. ap (λ m. close_module (whole_view (known texts) d) (option_map (shown_module (known texts) d.waiting.forms) m)) (sym none);
}

-- the one at work was put to the others
pub closes-some : (d new : Draft) (m : RawModule) → DraftFits d → d.current ≡ Some m → new.current ≡ None → new.waiting ≡ d.waiting
    → new.clauses.items ≡ d.clauses.items → new.modules.items ≡ d.modules.items ++ m ∷ [] → ClosesModule d new
closes-some d new m fits some left waiting clauses modules = record {
  fits = record {
    clauses = subst (λ (w : Waiting). ClausesFit w.forms new.clauses.items) (sym waiting) (subst (ClausesFit d.waiting.forms) (sym clauses) fits.clauses);
    modules = subst (λ (w : Waiting). All (ModuleFits w.forms) new.modules.items) (sym waiting)
        (subst (All (ModuleFits d.waiting.forms)) (sym modules)
        (All-push (ModuleFits d.waiting.forms) d.modules.items m fits.modules (subst (CurrentFits d.waiting.forms) some fits.current)));
    current = subst (CurrentFits new.waiting.forms) (sym left) tt;
  };
  waiting = waiting;
  none = left;
  is = λ texts.
      (λ i. shown_program (known texts) (waiting i).forms (clauses i) (modules i))
      ∙ ((λ i. record {
        clauses = map (shown_clause (known texts) d.waiting.forms) d.clauses.items;
        modules = map-append (shown_module (known texts) d.waiting.forms) d.modules.items (m ∷ []) i;
      })
      ∙ ap (λ o. close_module (whole_view (known texts) d) (option_map (shown_module (known texts) d.waiting.forms) o)) (sym some));
}

-- ---- before the first token

pub fits-none : (w : Waiting) → w.forms ≡ [] → w.args.items ≡ [] → w.frames.items ≡ [] → IsSound w
fits-none w forms args frames = rw (forms, args, frames) (record { args = λ k a l. absurd (omega arith); within = omega arith; frames = tt })

pub idle-none : (w : Waiting) → w.forms ≡ [] → w.args.items ≡ [] → w.frames.items ≡ [] → IsIdle w
idle-none w forms args frames = record { fits = fits-none w forms args frames; frames = frames }

pub draft-none : (d : Draft) → d.clauses.items ≡ [] → d.modules.items ≡ [] → d.current ≡ None → DraftFits d
draft-none d clauses modules current = record {
  clauses = rw clauses (λ k a l. absurd (omega arith));
  modules = rw modules (λ k a l. absurd (omega arith));
  current = rw current tt;
}

pub query-none : (w : Waiting) → w.frames.items ≡ [] → (texts : List (List ℕ)) → stage_view texts w (stages.Formula mode.Operand) ≡ query_start
query-none w e texts = ap (λ (ps : List Pending). asking (want ps)) (pending-none texts w.forms w.args.items w.frames.items e)

pub program-none : (d : Draft) → d.clauses.items ≡ [] → d.modules.items ≡ [] → d.current ≡ None → (texts : List (List ℕ))
    → draft_view texts d phase.Boundary ≡ program_start
program-none d clauses modules current texts = rw (clauses, modules, current) refl

-- ---- behind the last token

pub closed-program : (d new : Draft) (p : Phase) → p ≡ phase.Boundary → ClosesModule d new → (texts : List (List ℕ))
    → program_final (draft_view (known texts) d p) ≡ Some (whole_view (known texts) new)
closed-program d new p e c texts = ap (λ z. program_final (draft_view (known texts) d z)) e ∙ ap Some (sym (c.is texts))

pub no-boundary : (d : Draft) (p : Phase) → (p ≡ phase.Boundary → ⊥) → (texts : List (List ℕ)) → program_final (draft_view (known texts) d p) ≡ None
no-boundary d phase.Boundary h texts = absurd (h refl)
no-boundary d phase.Marked h texts = refl
no-boundary d (phase.Clause linear m) h texts = refl
no-boundary d phase.Heading h texts = refl
no-boundary d phase.Params h texts = refl
no-boundary d phase.Local h texts = refl
no-boundary d phase.Locals h texts = refl
