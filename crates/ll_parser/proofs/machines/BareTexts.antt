-- Places do not steer the machines for programs and queries: tokens that are the same, places aside, are read as trees that are the same, places aside.
use Rattle.std.proofs.Common.{◌≡◌, ℕ, suc, ◌-◌, ◌≤◌, Bool, true, false, cond, List, [], ◌∷◌, map, take, Option, Some, None, option_and_then, option_map, refl}
use Rattle.std.proofs.Common.{sym, ◌∙◌, ap, subst}
use Rattle.std.proofs.lemmas.List.{map-append, take-map}
use Rattle.ll_parser.specs.Tokens.{Identifier, Tok, name, variable, module_word, local_word, linear_word, dot, paren_left, paren_right, brace_left, brace_right}
use Rattle.ll_parser.specs.Raw.{Raw, ClauseTree, ModuleTree, ProgramTree}
use Rattle.ll_parser.specs.Text.{Language, programs, queries}
use Rattle.ll_parser.specs.Reads.{Derives, open_after, Within, Reads}
use Rattle.ll_parser.specs.Flat.{Flat, want, flat_step, flat_final}
use Rattle.ll_parser.specs.FlatText.{run_by, Phase, boundary, wanting, inside, heading, params, localizing, locals, FlatProgram, close_module, add_clause}
use Rattle.ll_parser.specs.FlatText.{add_param, add_local, admits_local, enter, end_clause, phase_step, program_start, program_step, program_final, FlatQuery}
use Rattle.ll_parser.specs.FlatText.{asking, ended, query_start, query_step, query_final}
use Rattle.ll_parser.specs.Bare.{bare_identifier, bare_tok, bare_raw, bare_clause, bare_module, bare_program}
use Rattle.ll_parser.proofs.machines.Bare.{bare_flat, step-bare, final-bare}
use Rattle.ll_parser.proofs.machines.Decides.{Decides, behind_of, derives, derived}
use Rattle.ll_parser.proofs.machines.Programs.{decides-programs}
use Rattle.ll_parser.proofs.machines.Queries.{decides-queries}

-- ---- any machine that places do not steer

open-bare : (ts : List Tok) (n : ℕ) → open_after n (map bare_tok ts) ≡ open_after n ts
open-bare [] n = refl
open-bare (paren_left at ∷ ts) n = open-bare ts (suc n)
open-bare (brace_left at ∷ ts) n = open-bare ts (suc n)
open-bare (paren_right at ∷ ts) n = open-bare ts (n - 1)
open-bare (brace_right at ∷ ts) n = open-bare ts (n - 1)
open-bare (_ ∷ ts) n = open-bare ts n

within-bare : (limit : ℕ) (ts us : List Tok) → map bare_tok ts ≡ map bare_tok us → Within limit ts → Within limit us
within-bare limit ts us e h k =
    let f : open_after 0 (take k ts) ≡ open_after 0 (take k us) =
    sym (open-bare (take k ts) 0) ∙ ap (open_after 0) (sym (take-map bare_tok k ts) ∙ ap (take k) e ∙ take-map bare_tok k us) ∙ open-bare (take k us) 0 in
    subst (λ z. z ≤ limit) f (h k)

module _ (l : Language) (F : Type 0) (begin : F) (next : F → Tok → Option F) (end : F → Option l.Tree) (d : Decides l F begin next end) (bare : F
    → F) (bare_tree : l.Tree → l.Tree) (begins : bare begin ≡ begin) (steps : (s : F) (t : Tok)
    → next (bare s) (bare_tok t) ≡ option_map bare (next s t)) (ends : (s : F) → end (bare s) ≡ option_map bare_tree (end s)) where
  next-bare : (o : Option F) (ts : List Tok) → ((s : F) → run_by next (bare s) (map bare_tok ts) ≡ option_map bare (run_by next s ts))
      → option_and_then (λ n. run_by next n (map bare_tok ts)) (option_map bare o) ≡ option_map bare (option_and_then (λ n. run_by next n ts) o)
  next-bare None ts ih = refl
  next-bare (Some s) ts ih = ih s

  run-bare : (ts : List Tok) (s : F) → run_by next (bare s) (map bare_tok ts) ≡ option_map bare (run_by next s ts)
  run-bare [] s = refl
  run-bare (t ∷ ts) s = ap (option_and_then (λ n. run_by next n (map bare_tok ts))) (steps s t) ∙ next-bare (next s t) ts (run-bare ts)

  begin-bare : (ts : List Tok) → run_by next begin (map bare_tok ts) ≡ option_map bare (run_by next begin ts)
  begin-bare ts = ap (λ z. run_by next z (map bare_tok ts)) (sym begins) ∙ run-bare ts begin

  derives-bare : (ts us : List Tok) (r : l.Tree) → map bare_tok ts ≡ map bare_tok us → Derives l ts r
      → (q : l.Tree) × Derives l us q × (bare_tree q ≡ bare_tree r)
  derives-bare ts us r e h =
      let x = derived l F begin next end d ts r h in
      let y = behind_of bare (run_by next begin us) (bare x.0) (sym (begin-bare us) ∙ ap (run_by next begin) (sym e) ∙ begin-bare ts ∙ ap (option_map bare) x.1)
      in
      let q = behind_of bare_tree (end y.0) (bare_tree r) (sym (ends y.0) ∙ ap end y.2 ∙ ends x.0 ∙ ap (option_map bare_tree) x.2) in
      (q.0, derives l F begin next end d us y.0 q.0 y.1 q.1, q.2)

  reads-same : (limit : ℕ) (ts us : List Tok) (r : l.Tree) → map bare_tok ts ≡ map bare_tok us → Reads l limit ts r
      → (q : l.Tree) × Reads l limit us q × (bare_tree q ≡ bare_tree r)
  reads-same limit ts us r e h = let k = derives-bare ts us r e h.0 in (k.0, (k.1, within-bare limit ts us e h.1), k.2)

-- ---- programs

abbrev bare_phase : Phase → Phase
bare_phase boundary = boundary
bare_phase wanting = wanting
bare_phase (inside k s) = inside k (bare_flat s)
bare_phase heading = heading
bare_phase params = params
bare_phase localizing = localizing
bare_phase locals = locals

abbrev bare_state : FlatProgram → FlatProgram
bare_state p = record { whole = bare_program p.whole; current = option_map bare_module p.current; phase = bare_phase p.phase }

close-bare : (w : ProgramTree) (m : Option ModuleTree) → close_module (bare_program w) (option_map bare_module m) ≡ bare_program (close_module w m)
close-bare w None = refl
close-bare w (Some m) = ap (λ z. record { clauses = map bare_clause w.clauses; modules = z }) (sym (map-append bare_module w.modules (m ∷ [])))

clause-bare : (w : ProgramTree) (m : Option ModuleTree) (c : ClauseTree)
    → add_clause (bare_program w) (option_map bare_module m) (bare_clause c) ≡ bare_state (add_clause w m c)
clause-bare w None c = ap (λ z. record { whole = record { clauses = z; modules = map bare_module w.modules }; current = None; phase = boundary })
    (sym (map-append bare_clause w.clauses (c ∷ [])))
clause-bare w (Some m) c = ap (λ z. record {
  whole = bare_program w;
  current =
      Some (record { name = bare_identifier m.name; params = map bare_identifier m.params; locals = map bare_identifier m.locals; clauses = z });
  phase =
      boundary;
}) (sym (map-append bare_clause m.clauses (c ∷ [])))

param-bare : (w : ProgramTree) (m : Option ModuleTree) (n : Identifier)
    → add_param (bare_program w) (option_map bare_module m) (bare_identifier n) ≡ option_map bare_state (add_param w m n)
param-bare w None n = refl
param-bare w (Some m) n =
    ap (λ z. Some (record {
      whole = bare_program w;
      current =
          Some (record { name = bare_identifier m.name; params = z; locals = map bare_identifier m.locals; clauses = map bare_clause m.clauses });
      phase = params;
    }))
    (sym (map-append bare_identifier m.params (n ∷ [])))

local-bare : (w : ProgramTree) (m : Option ModuleTree) (n : Identifier)
    → add_local (bare_program w) (option_map bare_module m) (bare_identifier n) ≡ option_map bare_state (add_local w m n)
local-bare w None n = refl
local-bare w (Some m) n =
    ap (λ z. Some (record {
      whole = bare_program w;
      current =
          Some (record { name = bare_identifier m.name; params = map bare_identifier m.params; locals = z; clauses = map bare_clause m.clauses });
      phase = locals;
    }))
    (sym (map-append bare_identifier m.locals (n ∷ [])))

admits-bare : (m : Option ModuleTree) → admits_local (option_map bare_module m) ≡ admits_local m
admits-bare None = refl
admits-bare (Some m) = by_clauses m.clauses
  where
    by_clauses : (cs : List ClauseTree)
        → admits_local (Some (record {
          name = bare_identifier m.name;
          params = map bare_identifier m.params;
          locals = map bare_identifier m.locals;
          clauses =
              map bare_clause cs;
        })) ≡ admits_local (Some (record { name = m.name; params = m.params; locals = m.locals; clauses = cs }))
    by_clauses [] = refl
    by_clauses (c ∷ cs) = refl

localizing-bare : (v : Bool) (w : ProgramTree) (m : Option ModuleTree)
    → cond v (Some (record { whole = bare_program w; current = option_map bare_module m; phase = localizing })) None
    ≡ option_map bare_state (cond v (Some (record { whole = w; current = m; phase = localizing })) None)
localizing-bare true w m = refl
localizing-bare false w m = refl

enter-bare : (w : ProgramTree) (m : Option ModuleTree) (k : Bool) (o : Option Flat)
    → enter (bare_program w) (option_map bare_module m) k (option_map bare_flat o) ≡ option_map bare_state (enter w m k o)
enter-bare w m k None = refl
enter-bare w m k (Some s) = refl

end-bare : (w : ProgramTree) (m : Option ModuleTree) (k : Bool) (o : Option Raw)
    → end_clause (bare_program w) (option_map bare_module m) k (option_map bare_raw o) ≡ option_map bare_state (end_clause w m k o)
end-bare w m k None = refl
end-bare w m k (Some r) = ap (λ z. let o : Option FlatProgram = Some z in o) (clause-bare w m (record { linear = k; form = r }))

formula-bare : (w : ProgramTree) (m : Option ModuleTree) (k : Bool) (s : Flat) (t : Tok)
    → enter (bare_program w) (option_map bare_module m) k (flat_step (bare_flat s) (bare_tok t)) ≡ option_map bare_state (enter w m k (flat_step s t))
formula-bare w m k s t = ap (enter (bare_program w) (option_map bare_module m) k) (step-bare s t) ∙ enter-bare w m k (flat_step s t)

phase-bare : (w : ProgramTree) (m : Option ModuleTree) (p : Phase) (t : Tok)
    → phase_step (bare_program w) (option_map bare_module m) (bare_phase p) (bare_tok t) ≡ option_map bare_state (phase_step w m p t)
phase-bare w m boundary (linear_word at) = refl
phase-bare w m boundary (module_word at) = ap (λ z. Some (record { whole = z; current = None; phase = heading })) (close-bare w m)
phase-bare w m boundary (local_word at) = ap (λ v. cond v (Some (record { whole = bare_program w; current = option_map bare_module m; phase = localizing }))
    None) (admits-bare m) ∙ localizing-bare (admits_local m) w m
phase-bare w m boundary t = formula-bare w m false (want []) t
phase-bare w m wanting t = formula-bare w m true (want []) t
phase-bare w m (inside k s) (dot at) = ap (end_clause (bare_program w) (option_map bare_module m) k) (final-bare s) ∙ end-bare w m k (flat_final s)
phase-bare w m (inside k s) t = formula-bare w m k s t
phase-bare w m heading (name n) = refl
phase-bare w m heading _ = refl
phase-bare w m params (variable n) = param-bare w m n
phase-bare w m params (dot at) = refl
phase-bare w m params _ = refl
phase-bare w m localizing (name n) = local-bare w m n
phase-bare w m localizing _ = refl
phase-bare w m locals (name n) = local-bare w m n
phase-bare w m locals (dot at) = refl
phase-bare w m locals _ = refl

program-ends : (w : ProgramTree) (m : Option ModuleTree) (p : Phase)
    → program_final (bare_state (record { whole = w; current = m; phase = p }))
    ≡ option_map bare_program (program_final (record { whole = w; current = m; phase = p }))
program-ends w m boundary = ap (λ z. let o : Option ProgramTree = Some z in o) (close-bare w m)
program-ends w m wanting = refl
program-ends w m (inside k s) = refl
program-ends w m heading = refl
program-ends w m params = refl
program-ends w m localizing = refl
program-ends w m locals = refl

pub program-same : (limit : ℕ) (ts us : List Tok) (p : ProgramTree) → map bare_tok ts ≡ map bare_tok us → Reads programs limit ts p
    → (q : ProgramTree) × Reads programs limit us q × (bare_program q ≡ bare_program p)
program-same = reads-same programs FlatProgram program_start program_step program_final decides-programs bare_state bare_program refl
    (λ s t. phase-bare s.whole s.current s.phase t) (λ s. program-ends s.whole s.current s.phase)

-- ---- queries

abbrev bare_query : FlatQuery → FlatQuery
bare_query (asking s) = asking (bare_flat s)
bare_query (ended r) = ended (bare_raw r)

asking-bare : (o : Option Flat) → option_map asking (option_map bare_flat o) ≡ option_map bare_query (option_map asking o)
asking-bare None = refl
asking-bare (Some s) = refl

ended-bare : (o : Option Raw) → option_map ended (option_map bare_raw o) ≡ option_map bare_query (option_map ended o)
ended-bare None = refl
ended-bare (Some r) = refl

query-bare : (q : FlatQuery) (t : Tok) → query_step (bare_query q) (bare_tok t) ≡ option_map bare_query (query_step q t)
query-bare (asking s) (dot at) = ap (option_map ended) (final-bare s) ∙ ended-bare (flat_final s)
query-bare (asking s) t = ap (option_map asking) (step-bare s t) ∙ asking-bare (flat_step s t)
query-bare (ended r) _ = refl

query-ends : (q : FlatQuery) → query_final (bare_query q) ≡ option_map bare_raw (query_final q)
query-ends (asking s) = final-bare s
query-ends (ended r) = refl

pub query-same : (limit : ℕ) (ts us : List Tok) (r : Raw) → map bare_tok ts ≡ map bare_tok us → Reads queries limit ts r
    → (q : Raw) × Reads queries limit us q × (bare_raw q ≡ bare_raw r)
query-same = reads-same queries FlatQuery query_start query_step query_final decides-queries bare_query bare_raw refl query-bare query-ends
