-- What has been read of a program, as tokens: each token adds itself, and what is read has these tokens. Each state can be completed.
use Rattle.std.proofs.Common.{◌≡◌, List, [], ◌∷◌, ◌++◌, Option, Some, None, option_and_then, refl, sym, ◌∙◌, ap, append_assoc, append-nil, subst, IfSome}
use Rattle.ll_lexer.specs.declared.Place.{Place}
use Rattle.ll_parser.specs.Tokens.{Identifier, Tok, name, variable, true_word, module_word, local_word, linear_word, dot}
use Rattle.ll_parser.specs.Text.{Clause, plain, linear, Local, Module, Program, clause_tokens, names, variables, local_tokens, heading_tokens, clauses_tokens}
use Rattle.ll_parser.specs.Text.{locals_tokens, module_tokens, modules_tokens, program_tokens}
use Rattle.ll_parser.proofs.machines.Machine.{State, Closed, closed, step, final, parse, run, start}
use Rattle.ll_parser.proofs.machines.Sound.{so_far, step-adds}
use Rattle.ll_parser.proofs.machines.Viable.{closed_tokens, final-tokens, can_end, run-parse}
use Rattle.ll_parser.proofs.machines.ProgramMachine.{Done, top, within, Mark, unmarked, marked, Reading, boundary, wanting, inside, heading, params}
use Rattle.ll_parser.proofs.machines.ProgramMachine.{localizing, locals, marked_clause, add_clause, next_module, next_local, enter, end_clause, move}
use Rattle.ll_parser.proofs.machines.ProgramMachine.{whole_program, ending, read}
use Rattle.ll_parser.proofs.machines.ProgramFound.{run-inside, split-parse}

abbrev pub done_tokens : Done → List Tok
done_tokens (top cs) = clauses_tokens cs
done_tokens (within cs ms h ls ds) = clauses_tokens cs ++ (modules_tokens ms ++ (heading_tokens h ++ (locals_tokens ls ++ clauses_tokens ds)))

abbrev pub mark_tokens : Mark → List Tok
mark_tokens unmarked = []
mark_tokens (marked at) = linear_word at ∷ []

abbrev pub tokens_so_far : Reading → List Tok
tokens_so_far (boundary d) = done_tokens d
tokens_so_far (wanting at d) = done_tokens d ++ linear_word at ∷ []
tokens_so_far (inside k d s) = done_tokens d ++ (mark_tokens k ++ so_far s)
tokens_so_far (heading at cs ms) = clauses_tokens cs ++ (modules_tokens ms ++ module_word at ∷ [])
tokens_so_far (params at n ns cs ms) = clauses_tokens cs ++ (modules_tokens ms ++ module_word at ∷ name n ∷ variables ns)
tokens_so_far (localizing at cs ms h ls) = done_tokens (within cs ms h ls []) ++ local_word at ∷ []
tokens_so_far (locals at n ns cs ms h ls) = done_tokens (within cs ms h ls []) ++ local_word at ∷ name n ∷ names ns

clauses-append : (xs ys : List Clause) → clauses_tokens (xs ++ ys) ≡ clauses_tokens xs ++ clauses_tokens ys
clauses-append [] ys = refl
clauses-append (x ∷ xs) ys = ap (λ z. clause_tokens x ++ z) (clauses-append xs ys)
    ∙ sym (append_assoc (clause_tokens x) (clauses_tokens xs) (clauses_tokens ys))

modules-append : (xs ys : List Module) → modules_tokens (xs ++ ys) ≡ modules_tokens xs ++ modules_tokens ys
modules-append [] ys = refl
modules-append (x ∷ xs) ys = ap (λ z. module_tokens x ++ z) (modules-append xs ys)
    ∙ sym (append_assoc (module_tokens x) (modules_tokens xs) (modules_tokens ys))

locals-append : (xs ys : List Local) → locals_tokens (xs ++ ys) ≡ locals_tokens xs ++ locals_tokens ys
locals-append [] ys = refl
locals-append (x ∷ xs) ys = ap (λ z. local_tokens x ++ z) (locals-append xs ys) ∙ sym (append_assoc (local_tokens x) (locals_tokens xs) (locals_tokens ys))

names-append : (xs ys : List Identifier) → names (xs ++ ys) ≡ names xs ++ names ys
names-append [] ys = refl
names-append (x ∷ xs) ys = ap (λ z. name x ∷ z) (names-append xs ys)

variables-append : (xs ys : List Identifier) → variables (xs ++ ys) ≡ variables xs ++ variables ys
variables-append [] ys = refl
variables-append (x ∷ xs) ys = ap (λ z. variable x ∷ z) (variables-append xs ys)

add-clause-tokens : (d : Done) (c : Clause) → done_tokens (add_clause d c) ≡ done_tokens d ++ clause_tokens c
add-clause-tokens (top cs) c = clauses-append cs (c ∷ []) ∙ simp append-nil
add-clause-tokens (within cs ms h ls ds) c = simp (clauses-append ds (c ∷ []), append-nil, append_assoc)

abbrev pub Extends : List Tok → Tok → Option Reading → Type 0
Extends xs t o = IfSome o (λ next. tokens_so_far next ≡ xs ++ t ∷ [])

enter-extends : (k : Mark) (d : Done) (xs : List Tok) (t : Tok) (o : Option State) → IfSome o (λ next. so_far next ≡ xs ++ t ∷ [])
    → Extends (done_tokens d ++ (mark_tokens k ++ xs)) t (enter k d o)
enter-extends k d xs t None h = tt
enter-extends k d xs t (Some n) h = simp (h, append_assoc)

end-extends : (k : Mark) (d : Done) (xs : List Tok) (end : Place) (o : Option Closed) → IfSome o (λ f. closed_tokens f ≡ xs)
    → Extends (done_tokens d ++ (mark_tokens k ++ xs)) (dot end) (end_clause k d o end)
end-extends k d xs end None h = tt
end-extends unmarked d xs end (Some (closed f)) h = add-clause-tokens d (plain f end) ∙ simp (h, append_assoc)
end-extends (marked at) d xs end (Some (closed f)) h = add-clause-tokens d (linear at f end) ∙ simp (h, append_assoc)

next-module-extends : (at : Place) (d : Done) → tokens_so_far (next_module at d) ≡ done_tokens d ++ module_word at ∷ []
next-module-extends at (top cs) = refl
next-module-extends at (within cs ms h ls ds) = simp (modules-append ms (record { heading = h; locals = ls; clauses = ds } ∷ []), append-nil, append_assoc)

next-local-extends : (at : Place) (d : Done) → Extends (done_tokens d) (local_word at) (next_local at d)
next-local-extends at (top cs) = tt
next-local-extends at (within cs ms h ls []) = refl
next-local-extends at (within cs ms h ls (d ∷ ds)) = tt

start-extends : (d : Done) (t : Tok) → Extends (done_tokens d) t (enter unmarked d (step start t))
start-extends d t = subst (λ xs. Extends xs t (enter unmarked d (step start t))) (append-nil (done_tokens d))
    (enter-extends unmarked d [] t (step start t) (step-adds start t))

pub move-extends : (r : Reading) (t : Tok) → Extends (tokens_so_far r) t (move r t)
move-extends (boundary d) (linear_word at) = refl
move-extends (boundary d) (module_word at) = next-module-extends at d
move-extends (boundary d) (local_word at) = next-local-extends at d
move-extends (boundary d) t = start-extends d t
move-extends (wanting at d) t = enter-extends (marked at) d [] t (step start t) (step-adds start t)
move-extends (inside k d s) (dot end) = end-extends k d (so_far s) end (final s) (final-tokens s)
move-extends (inside k d s) t = enter-extends k d (so_far s) t (step s t) (step-adds s t)
move-extends (heading at cs ms) (name n) = simp append_assoc
move-extends (heading at cs ms) _ = tt
move-extends (params at n ns cs ms) (variable x) = simp (variables-append ns (x ∷ []), append_assoc)
move-extends (params at n ns cs ms) (dot end) = simp (append_assoc, append-nil)
move-extends (params at n ns cs ms) _ = tt
move-extends (localizing at cs ms h ls) (name n) = simp append_assoc
move-extends (localizing at cs ms h ls) _ = tt
move-extends (locals at n ns cs ms h ls) (name x) = simp (names-append ns (x ∷ []), append_assoc)
move-extends (locals at n ns cs ms h ls) (dot end) = simp (
  locals-append ls (record { word = at; first = n; others = ns; end = end } ∷ []),
  append_assoc,
  append-nil,
)
move-extends (locals at n ns cs ms h ls) _ = tt

whole-tokens : (d : Done) → program_tokens (whole_program d) ≡ done_tokens d
whole-tokens (top cs) = append-nil (clauses_tokens cs)
whole-tokens (within cs ms h ls ds) = simp (modules-append ms (record { heading = h; locals = ls; clauses = ds } ∷ []), append-nil, append_assoc)

pub ending-tokens : (r : Reading) → IfSome (ending r) (λ p. program_tokens p ≡ tokens_so_far r)
ending-tokens (boundary d) = whole-tokens d
ending-tokens (wanting at d) = tt
ending-tokens (inside k d s) = tt
ending-tokens (heading at cs ms) = tt
ending-tokens (params at n ns cs ms) = tt
ending-tokens (localizing at cs ms h ls) = tt
ending-tokens (locals at n ns cs ms h ls) = tt

somewhere : Place
somewhere = record { line = 1; column = 1 }

pub record CanStop (r : Reading) : Type 0 where
  pub more : List Tok
  pub program : Program
  pub reads : read r more ≡ Some program

parse-split : (ts : List Tok) (s : State) → parse s ts ≡ option_and_then final (run s ts)
parse-split ts s = ap (parse s) (sym (append-nil ts)) ∙ run-parse ts [] s

pub can_stop : (r : Reading) → CanStop r
can_stop (boundary d) = record { more = []; program = whole_program d; reads = refl }
can_stop (wanting at d) = record { more = true_word somewhere ∷ dot somewhere ∷ []; program = _; reads = refl }
can_stop (inside k d s) =
    let c = can_end s in
    let x = split-parse (run s c.more) c.formula (sym (parse-split c.more s) ∙ c.parses) in
    record {
      more = c.more ++ dot somewhere ∷ [];
      program = whole_program (add_clause d (marked_clause k c.formula somewhere));
      reads = run-inside c.more k d s x.0 (dot somewhere ∷ []) x.1 ∙ ap (λ z. option_and_then (λ next. read next []) (end_clause k d z somewhere)) x.2;
    }
can_stop (heading at cs ms) = record { more = name (record { text = []; at = somewhere }) ∷ dot somewhere ∷ []; program = _; reads = refl }
can_stop (params at n ns cs ms) = record { more = dot somewhere ∷ []; program = _; reads = refl }
can_stop (localizing at cs ms h ls) = record { more = name (record { text = []; at = somewhere }) ∷ dot somewhere ∷ []; program = _; reads = refl }
can_stop (locals at n ns cs ms h ls) = record { more = dot somewhere ∷ []; program = _; reads = refl }
