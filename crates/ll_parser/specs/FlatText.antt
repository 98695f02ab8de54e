-- The machines for programs and for queries over raw trees: the machine for one formula, and what stands round it.
use Rattle.std.specs.Prelude.{◌≡◌, ℕ, ◌≤◌, take, Bool, true, false, cond, List, [], ◌∷◌, ◌++◌, Option, Some, None, option_and_then, option_map}
use Rattle.ll_parser.specs.Tokens.{Identifier, Tok, name, variable, module_word, local_word, linear_word, dot}
use Rattle.ll_parser.specs.Raw.{Raw, ClauseTree, ModuleTree, ProgramTree}
use Rattle.ll_parser.specs.Reads.{open_after, Within}
use Rattle.ll_parser.specs.Flat.{Flat, want, flat_step, flat_final}

-- a machine over tokens in turn
abbrev pub run_by : {S : Type 0} → (S → Tok → Option S) → S → List Tok → Option S
run_by step s [] = Some s
run_by step s (t ∷ ts) = option_and_then (λ next. run_by step next ts) (step s t)

-- ---- programs

-- where in a program the tokens so far end
pub data Phase : Type 0 where
  boundary : Phase
  wanting : Phase
  inside : Bool → Flat → Phase
  heading : Phase
  params : Phase
  localizing : Phase
  locals : Phase

-- What has been read of a program: its clauses and the modules that are closed, the module at work, and the phase. Between
-- clauses it is `boundary`; after `LINEAR`, `wanting`; in a clause, `inside` with its mark; after `MODULE`, `heading`, and after
-- the module's name, `params`; after `LOCAL`, `localizing`, and after a name of that line, `locals`.
pub record FlatProgram : Type 0 where
  pub whole : ProgramTree
  pub current : Option ModuleTree
  pub phase : Phase

-- nothing
abbrev pub no_program : ProgramTree
no_program = record { clauses = []; modules = [] }

-- a program begins
abbrev pub program_start : FlatProgram
program_start = record { whole = no_program; current = None; phase = boundary }

-- a module of this name, as it begins
abbrev pub new_module : Identifier → ModuleTree
new_module n = record { name = n; params = []; locals = []; clauses = [] }

-- the modules with the one at work
abbrev pub with_current : List ModuleTree → Option ModuleTree → List ModuleTree
with_current ms None = ms
with_current ms (Some m) = ms ++ m ∷ []

-- the program with the module at work closed
abbrev pub close_module : ProgramTree → Option ModuleTree → ProgramTree
close_module w m = record { clauses = w.clauses; modules = with_current w.modules m }

-- a clause is the program's own before the first module, and the module's at work after it
abbrev pub add_clause : ProgramTree → Option ModuleTree → ClauseTree → FlatProgram
add_clause w None c = record { whole = record { clauses = w.clauses ++ c ∷ []; modules = w.modules }; current = None; phase = boundary }
add_clause w (Some m) c = record {
  whole = w;
  current = Some (record { name = m.name; params = m.params; locals = m.locals; clauses = m.clauses ++ c ∷ [] });
  phase = boundary;
}

-- the next parameter of the module at work
abbrev pub add_param : ProgramTree → Option ModuleTree → Identifier → Option FlatProgram
add_param w None n = None
add_param w (Some m) n = Some (record {
  whole = w;
  current =
      Some (record { name = m.name; params = m.params ++ n ∷ []; locals = m.locals; clauses = m.clauses });
  phase = params;
})

-- the next local constant of the module at work
abbrev pub add_local : ProgramTree → Option ModuleTree → Identifier → Option FlatProgram
add_local w None n = None
add_local w (Some m) n = Some (record {
  whole = w;
  current =
      Some (record { name = m.name; params = m.params; locals = m.locals ++ n ∷ []; clauses = m.clauses });
  phase = locals;
})

-- there are no clauses
abbrev pub has_none : List ClauseTree → Bool
has_none [] = true
has_none (c ∷ cs) = false

-- `LOCAL` stands only in a module, before its first clause
abbrev pub admits_local : Option ModuleTree → Bool
admits_local None = false
admits_local (Some m) = has_none m.clauses

-- a step of the formula in a clause
abbrev pub enter : ProgramTree → Option ModuleTree → Bool → Option Flat → Option FlatProgram
enter w m mark None = None
enter w m mark (Some s) = Some (record { whole = w; current = m; phase = inside mark s })

-- the dot behind the formula of a clause
abbrev pub end_clause : ProgramTree → Option ModuleTree → Bool → Option Raw → Option FlatProgram
end_clause w m mark None = None
end_clause w m mark (Some r) = Some (add_clause w m (record { linear = mark; form = r }))

-- what a token does to a program, by the phase
abbrev pub phase_step : ProgramTree → Option ModuleTree → Phase → Tok → Option FlatProgram
phase_step w m boundary (linear_word at) = Some (record { whole = w; current = m; phase = wanting })
phase_step w m boundary (module_word at) = Some (record { whole = close_module w m; current = None; phase = heading })
phase_step w m boundary (local_word at) = cond (admits_local m) (Some (record { whole = w; current = m; phase = localizing })) None
phase_step w m boundary t = enter w m false (flat_step (want []) t)
phase_step w m wanting t = enter w m true (flat_step (want []) t)
phase_step w m (inside mark s) (dot at) = end_clause w m mark (flat_final s)
phase_step w m (inside mark s) t = enter w m mark (flat_step s t)
phase_step w m heading (name n) = Some (record { whole = w; current = Some (new_module n); phase = params })
phase_step w m heading _ = None
phase_step w m params (variable n) = add_param w m n
phase_step w m params (dot at) = Some (record { whole = w; current = m; phase = boundary })
phase_step w m params _ = None
phase_step w m localizing (name n) = add_local w m n
phase_step w m localizing _ = None
phase_step w m locals (name n) = add_local w m n
phase_step w m locals (dot at) = Some (record { whole = w; current = m; phase = boundary })
phase_step w m locals _ = None

-- what a token does to a program
abbrev pub program_step : FlatProgram → Tok → Option FlatProgram
program_step p t = phase_step p.whole p.current p.phase t

-- the whole program, by the phase
abbrev pub phase_final : ProgramTree → Option ModuleTree → Phase → Option ProgramTree
phase_final w m boundary = Some (close_module w m)
phase_final w m _ = None

-- the whole program, if the tokens may end here
abbrev pub program_final : FlatProgram → Option ProgramTree
program_final p = phase_final p.whole p.current p.phase

-- a program after tokens
abbrev pub program_run : FlatProgram → List Tok → Option FlatProgram
program_run p ts = run_by program_step p ts

-- ---- queries

-- what has been read of a query: in its formula, or behind its dot
pub data FlatQuery : Type 0 where
  asking : Flat → FlatQuery
  ended : Raw → FlatQuery

-- a query begins
abbrev pub query_start : FlatQuery
query_start = asking (want [])

-- what a token does to a query
abbrev pub query_step : FlatQuery → Tok → Option FlatQuery
query_step (asking s) (dot at) = option_map ended (flat_final s)
query_step (asking s) t = option_map asking (flat_step s t)
query_step (ended r) _ = None

-- the whole query, if the tokens may end here
abbrev pub query_final : FlatQuery → Option Raw
query_final (asking s) = flat_final s
query_final (ended r) = Some r

-- a query after tokens
abbrev pub query_run : FlatQuery → List Tok → Option FlatQuery
query_run q ts = run_by query_step q ts

-- ---- what holds between two tokens

-- After the first i tokens the machine stands at x, and so many brackets are open; the limit was not passed.
pub record Taken {S : Type 0} (begin : S) (step : S → Tok → Option S) (limit : ℕ) (ts : List Tok) (i : ℕ) (x : S) (depth : ℕ) : Type 0 where
  pub run : run_by step begin (take i ts) ≡ Some x
  pub depth_is : depth ≡ open_after 0 (take i ts)
  pub below : depth ≤ limit
  pub within : Within limit (take i ts)
