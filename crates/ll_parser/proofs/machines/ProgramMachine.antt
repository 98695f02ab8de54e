-- The machine for programs over parse trees: the machine for one formula, and what stands round it.
use Rattle.std.proofs.Common.{List, [], ◌∷◌, ◌++◌, Option, Some, None}
use Rattle.ll_lexer.specs.declared.Place.{Place}
use Rattle.ll_parser.specs.Tokens.{Identifier, Tok, name, variable, module_word, local_word, linear_word, dot}
use Rattle.ll_parser.specs.Text.{Clause, plain, linear, Local, Heading, Module, Program}
use Rattle.ll_parser.proofs.machines.Machine.{State, Closed, closed, step, final, start}
use Rattle.ll_parser.proofs.machines.Decides.{parse_by}

-- what has been read whole: the program's clauses, the modules before, and the module at work
pub data Done : Type 0 where
  top : List Clause → Done
  within : List Clause → List Module → Heading → List Local → List Clause → Done

pub data Mark : Type 0 where
  unmarked : Mark
  marked : Place → Mark

pub data Reading : Type 0 where
  boundary : Done → Reading
  wanting : Place → Done → Reading
  inside : Mark → Done → State → Reading
  heading : Place → List Clause → List Module → Reading
  params : Place → Identifier → List Identifier → List Clause → List Module → Reading
  localizing : Place → List Clause → List Module → Heading → List Local → Reading
  locals : Place → Identifier → List Identifier → List Clause → List Module → Heading → List Local → Reading

abbrev pub marked_clause : Mark → Closed → Place → Clause
marked_clause unmarked (closed f) end = plain f end
marked_clause (marked at) (closed f) end = linear at f end

abbrev pub add_clause : Done → Clause → Done
add_clause (top cs) c = top (cs ++ c ∷ [])
add_clause (within cs ms h ls ds) c = within cs ms h ls (ds ++ c ∷ [])

abbrev pub next_module : Place → Done → Reading
next_module at (top cs) = heading at cs []
next_module at (within cs ms h ls ds) = heading at cs (ms ++ record { heading = h; locals = ls; clauses = ds } ∷ [])

abbrev pub next_local : Place → Done → Option Reading
next_local at (top cs) = None
next_local at (within cs ms h ls []) = Some (localizing at cs ms h ls)
next_local at (within cs ms h ls (d ∷ ds)) = None

abbrev pub enter : Mark → Done → Option State → Option Reading
enter m d None = None
enter m d (Some s) = Some (inside m d s)

abbrev pub end_clause : Mark → Done → Option Closed → Place → Option Reading
end_clause m d None end = None
end_clause m d (Some f) end = Some (boundary (add_clause d (marked_clause m f end)))

abbrev pub move : Reading → Tok → Option Reading
move (boundary d) (linear_word at) = Some (wanting at d)
move (boundary d) (module_word at) = Some (next_module at d)
move (boundary d) (local_word at) = next_local at d
move (boundary d) t = enter unmarked d (step start t)
move (wanting at d) t = enter (marked at) d (step start t)
move (inside m d s) (dot end) = end_clause m d (final s) end
move (inside m d s) t = enter m d (step s t)
move (heading at cs ms) (name n) = Some (params at n [] cs ms)
move (heading at cs ms) _ = None
move (params at n ns cs ms) (variable x) = Some (params at n (ns ++ x ∷ []) cs ms)
move (params at n ns cs ms) (dot end) = Some (boundary (within cs ms (record { word = at; name = n; params = ns; end = end }) [] []))
move (params at n ns cs ms) _ = None
move (localizing at cs ms h ls) (name n) = Some (locals at n [] cs ms h ls)
move (localizing at cs ms h ls) _ = None
move (locals at n ns cs ms h ls) (name x) = Some (locals at n (ns ++ x ∷ []) cs ms h ls)
move (locals at n ns cs ms h ls) (dot end) = Some (boundary (within cs ms h (ls ++ record { word = at; first = n; others = ns; end = end } ∷ []) []))
move (locals at n ns cs ms h ls) _ = None

abbrev pub whole_program : Done → Program
whole_program (top cs) = record { clauses = cs; modules = [] }
whole_program (within cs ms h ls ds) = record { clauses = cs; modules = ms ++ record { heading = h; locals = ls; clauses = ds } ∷ [] }

abbrev pub ending : Reading → Option Program
ending (boundary d) = Some (whole_program d)
ending _ = None

abbrev pub read : Reading → List Tok → Option Program
read r ts = parse_by move ending r ts
