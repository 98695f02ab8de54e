-- The machine for programs over parse trees decides the programs: the machine over raw trees does the same.
use Rattle.std.proofs.Common.{◌≡◌, Bool, true, false, List, [], ◌∷◌, ◌++◌, map, Option, Some, None, option_map, refl, sym, ◌∙◌, ap, append_assoc, append-nil}
use Rattle.std.proofs.lemmas.List.{map-append}
use Rattle.ll_lexer.specs.declared.Place.{Place}
use Rattle.ll_parser.specs.Tokens.{Tok, name, variable, module_word, local_word, linear_word, dot}
use Rattle.ll_parser.specs.Raw.{ModuleTree, ProgramTree}
use Rattle.ll_parser.specs.Text.{Clause, plain, linear, Local, Heading, Module, clause_tree, locals_of, module_tree, program_tree, programs}
use Rattle.ll_parser.specs.Flat.{want, flat_step}
use Rattle.ll_parser.specs.FlatText.{FlatProgram, Phase, program_start, enter, end_clause, program_step, program_final}
use Rattle.ll_parser.specs.FlatText as f
use Rattle.ll_parser.proofs.machines.Machine.{State, Closed, closed, step, final, start}
use Rattle.ll_parser.proofs.machines.Agrees.{flat, closed_raw, step-agrees, final-agrees}
use Rattle.ll_parser.proofs.machines.ProgramMachine as m
use Rattle.ll_parser.proofs.machines.ProgramMachine.{Done, top, within, Mark, unmarked, marked, Reading, boundary, wanting, inside, heading, params}
use Rattle.ll_parser.proofs.machines.ProgramMachine.{localizing, locals, marked_clause, next_module, next_local, move, whole_program, ending}
use Rattle.ll_parser.proofs.machines.ProgramFound.{program-found}
use Rattle.ll_parser.proofs.machines.ProgramAdds.{tokens_so_far, move-extends, ending-tokens, can_stop}
use Rattle.ll_parser.proofs.machines.Decides.{Decides}

-- clauses and closed modules
abbrev flat_whole : List Clause → List Module → ProgramTree
flat_whole cs ms = record { clauses = map clause_tree cs; modules = map module_tree ms }

-- a module at work
abbrev flat_module : Heading → List Local → List Clause → ModuleTree
flat_module h ls ds = record { name = h.name; params = h.params; locals = locals_of ls; clauses = map clause_tree ds }

abbrev done_whole : Done → ProgramTree
done_whole (top cs) = flat_whole cs []
done_whole (within cs ms h ls ds) = flat_whole cs ms

abbrev done_module : Done → Option ModuleTree
done_module (top cs) = None
done_module (within cs ms h ls ds) = Some (flat_module h ls ds)

abbrev is_marked : Mark → Bool
is_marked unmarked = false
is_marked (marked at) = true

abbrev flat_program : Reading → FlatProgram
flat_program (boundary d) = record { whole = done_whole d; current = done_module d; phase = f.boundary }
flat_program (wanting at d) = record { whole = done_whole d; current = done_module d; phase = f.wanting }
flat_program (inside k d s) = record { whole = done_whole d; current = done_module d; phase = f.inside (is_marked k) (flat s) }
flat_program (heading at cs ms) = record { whole = flat_whole cs ms; current = None; phase = f.heading }
flat_program (params at n ns cs ms) = record {
  whole = flat_whole cs ms;
  current = Some (record { name = n; params = ns; locals = []; clauses = [] });
  phase =
      f.params;
}
flat_program (localizing at cs ms h ls) = record { whole = flat_whole cs ms; current = Some (flat_module h ls []); phase = f.localizing }
flat_program (locals at n ns cs ms h ls) = record {
  whole = flat_whole cs ms;
  current =
      Some (record { name = h.name; params = h.params; locals = locals_of ls ++ n ∷ ns; clauses = [] });
  phase = f.locals;
}

-- ---- lists with one more

locals-then : (ls : List Local) (l : Local) → locals_of (ls ++ l ∷ []) ≡ locals_of ls ++ l.first ∷ l.others
locals-then [] l = ap (λ z. l.first ∷ z) (append-nil l.others)
locals-then (k ∷ ls) l = ap (λ z. k.first ∷ (k.others ++ z)) (locals-then ls l)
    ∙ ap (λ z. k.first ∷ z) (sym (append_assoc k.others (locals_of ls) (l.first ∷ l.others)))

-- ---- steps

enter-agrees : (k : Mark) (d : Done) (o : Option State) → enter (done_whole d) (done_module d) (is_marked k) (option_map flat o)
    ≡ option_map flat_program (m.enter k d o)
enter-agrees k d None = refl
enter-agrees k d (Some s) = refl

add-agrees : (k : Mark) (d : Done) (c : Closed) (end : Place)
    → f.add_clause (done_whole d) (done_module d) (record { linear = is_marked k; form = closed_raw c })
    ≡ flat_program (boundary (m.add_clause d (marked_clause k c end)))
add-agrees unmarked (top cs) (closed g) end = ap (λ z. record { whole = record { clauses = z; modules = [] }; current = None; phase = f.boundary })
    (sym (map-append clause_tree cs (plain g end ∷ [])))
add-agrees (marked at) (top cs) (closed g) end = ap (λ z. record { whole = record { clauses = z; modules = [] }; current = None; phase = f.boundary })
    (sym (map-append clause_tree cs (linear at g end ∷ [])))
add-agrees unmarked (within cs ms h ls ds) (closed g) end = ap
    (λ z. record {
      whole = flat_whole cs ms;
      current = Some (record { name = h.name; params = h.params; locals = locals_of ls; clauses = z });
      phase =
          f.boundary;
    }) (sym (map-append clause_tree ds (plain g end ∷ [])))
add-agrees (marked at) (within cs ms h ls ds) (closed g) end =
    ap (λ z. record {
      whole = flat_whole cs ms;
      current = Some (record { name = h.name; params = h.params; locals = locals_of ls; clauses = z });
      phase =
          f.boundary;
    }) (sym (map-append clause_tree ds (linear at g end ∷ [])))

end-agrees : (k : Mark) (d : Done) (o : Option Closed) (end : Place)
    → end_clause (done_whole d) (done_module d) (is_marked k) (option_map closed_raw o) ≡ option_map flat_program (m.end_clause k d o end)
end-agrees k d None end = refl
end-agrees k d (Some c) end = ap Some (add-agrees k d c end)

close-agrees : (d : Done) → f.close_module (done_whole d) (done_module d) ≡ program_tree (whole_program d)
close-agrees (top cs) = refl
close-agrees (within cs ms h ls ds) = ap (λ z. record { clauses = map clause_tree cs; modules = z })
    (sym (map-append module_tree ms (record { heading = h; locals = ls; clauses = ds } ∷ [])))

module-agrees : (at : Place) (d : Done) → record { whole = f.close_module (done_whole d) (done_module d); current = None; phase = f.heading }
    ≡ flat_program (next_module at d)
module-agrees at (top cs) = refl
module-agrees at (within cs ms h ls ds) = ap (λ z. record { whole = record { clauses = map clause_tree cs; modules = z }; current = None; phase = f.heading })
    (sym (map-append module_tree ms (record { heading = h; locals = ls; clauses = ds } ∷ [])))

local-agrees : (at : Place) (d : Done) → program_step (flat_program (boundary d)) (local_word at) ≡ option_map flat_program (next_local at d)
local-agrees at (top cs) = refl
local-agrees at (within cs ms h ls []) = refl
local-agrees at (within cs ms h ls (d ∷ ds)) = refl

begin-agrees : (k : Mark) (d : Done) (t : Tok) → enter (done_whole d) (done_module d) (is_marked k) (flat_step (want []) t)
    ≡ option_map flat_program (m.enter k d (step start t))
begin-agrees k d t = ap (enter (done_whole d) (done_module d) (is_marked k)) (step-agrees start t) ∙ enter-agrees k d (step start t)

inside-agrees : (k : Mark) (d : Done) (s : State) (t : Tok) → enter (done_whole d) (done_module d) (is_marked k) (flat_step (flat s) t)
    ≡ option_map flat_program (m.enter k d (step s t))
inside-agrees k d s t = ap (enter (done_whole d) (done_module d) (is_marked k)) (step-agrees s t) ∙ enter-agrees k d (step s t)

move-agrees : (r : Reading) (t : Tok) → program_step (flat_program r) t ≡ option_map flat_program (move r t)
move-agrees (boundary d) (linear_word at) = refl
move-agrees (boundary d) (module_word at) = ap Some (module-agrees at d)
move-agrees (boundary d) (local_word at) = local-agrees at d
move-agrees (boundary d) t = begin-agrees unmarked d t
move-agrees (wanting at d) t = begin-agrees (marked at) d t
move-agrees (inside k d s) (dot end) = ap (end_clause (done_whole d) (done_module d) (is_marked k)) (final-agrees s) ∙ end-agrees k d (final s) end
move-agrees (inside k d s) t = inside-agrees k d s t
move-agrees (heading at cs ms) (name n) = refl
move-agrees (heading at cs ms) _ = refl
move-agrees (params at n ns cs ms) (variable x) = refl
move-agrees (params at n ns cs ms) (dot end) = refl
move-agrees (params at n ns cs ms) _ = refl
move-agrees (localizing at cs ms h ls) (name n) = refl
move-agrees (localizing at cs ms h ls) _ = refl
move-agrees (locals at n ns cs ms h ls) (name x) = ap (λ z. Some
    (record { whole = flat_whole cs ms; current = Some (record { name = h.name; params = h.params; locals = z; clauses = [] }); phase = f.locals }))
    (append_assoc (locals_of ls) (n ∷ ns) (x ∷ []))
move-agrees (locals at n ns cs ms h ls) (dot end) = ap (λ z.
    Some (record { whole = flat_whole cs ms; current = Some (record { name = h.name; params = h.params; locals = z; clauses = [] }); phase = f.boundary }))
    (sym (locals-then ls (record { word = at; first = n; others = ns; end = end })))
move-agrees (locals at n ns cs ms h ls) _ = refl

ending-agrees : (r : Reading) → program_final (flat_program r) ≡ option_map program_tree (ending r)
ending-agrees (boundary d) = ap Some (close-agrees d)
ending-agrees (wanting at d) = refl
ending-agrees (inside k d s) = refl
ending-agrees (heading at cs ms) = refl
ending-agrees (params at n ns cs ms) = refl
ending-agrees (localizing at cs ms h ls) = refl
ending-agrees (locals at n ns cs ms h ls) = refl

pub decides-programs : Decides programs FlatProgram program_start program_step program_final
decides-programs = record {
  State = Reading;
  start = boundary (top []);
  step = move;
  final = ending;
  found = program-found;
  so_far = tokens_so_far;
  nothing = refl;
  adds = move-extends;
  has_all = ending-tokens;
  completes = λ r. let c = can_stop r in (c.more, c.program, c.reads);
  flat = flat_program;
  begins_flat = refl;
  steps_flat = move-agrees;
  ends_flat = ending-agrees;
}
