-- Each program is found again from its tokens.
use Rattle.std.proofs.Common.{◌≡◌, Bool, List, [], ◌∷◌, ◌++◌, Option, Some, None, option_and_then, refl, sym, ◌∙◌, ap, append_assoc, append-nil}
use Rattle.ll_lexer.specs.declared.Place.{Place}
use Rattle.ll_parser.specs.Tokens.{Identifier, Tok, name, module_word, local_word, linear_word, dot}
use Rattle.ll_parser.specs.Grammar.{Formula, formula_tokens}
use Rattle.ll_parser.specs.Text.{Clause, plain, linear, Local, Heading, Module, Program, clause_tokens, names, variables, local_tokens, clauses_tokens}
use Rattle.ll_parser.specs.Text.{locals_tokens, modules_tokens, program_tokens}
use Rattle.ll_parser.proofs.machines.Machine as m
use Rattle.ll_parser.proofs.machines.Machine.{State, Closed, closed, step, final, parse, run, start}
use Rattle.ll_parser.proofs.machines.Complete.{found}
use Rattle.ll_parser.proofs.machines.Viable.{run-parse}
use Rattle.ll_parser.proofs.machines.ProgramMachine.{Done, top, within, Mark, unmarked, marked, Reading, boundary, wanting, inside, heading, params, locals}
use Rattle.ll_parser.proofs.machines.ProgramMachine.{marked_clause, add_clause, enter, end_clause, move, read}

-- a dot is no token of a formula, and no word of a program begins one
pub no-dot : (s : State) (end : Place) → step s (dot end) ≡ None
no-dot (m.want s k) end = refl
no-dot (m.whole p s k) end = refl
no-dot (m.binder q at s k) end = refl
no-dot (m.slash q at w s k) end = refl
no-dot (m.term_want cs tk b) end = refl
no-dot (m.term_whole a cs tk b) end = refl
no-dot (m.led l s k) end = refl
no-dot (m.lead_want h s k) end = refl
no-dot (m.expr_want h a s k) end = refl
no-dot (m.expr_whole e i s k) end = refl

inside-moves : (k : Mark) (d : Done) (s n : State) (t : Tok) → step s t ≡ Some n → move (inside k d s) t ≡ Some (inside k d n)
inside-moves k d s n (dot end) e = let h : None ≡ Some n = sym (no-dot s end) ∙ e in absurd cc
inside-moves k d s n t e = ap (enter k d) e

boundary-moves : (d : Done) (n : State) (t : Tok) → step start t ≡ Some n → move (boundary d) t ≡ Some (inside unmarked d n)
boundary-moves d n (linear_word at) e = absurd cc
boundary-moves d n (module_word at) e = absurd cc
boundary-moves d n (local_word at) e = absurd cc
boundary-moves d n t e = ap (enter unmarked d) e

wanting-moves : (at : Place) (d : Done) (n : State) (t : Tok) → step start t ≡ Some n → move (wanting at d) t ≡ Some (inside (marked at) d n)
wanting-moves at d n t e = ap (enter (marked at) d) e

pub split-run : (o : Option State) (ts : List Tok) (n : State) → option_and_then (λ x. run x ts) o ≡ Some n → (x : State) × (o ≡ Some x) × (run x ts ≡ Some n)
split-run None ts n e = absurd cc
split-run (Some x) ts n e = (x, refl, e)

pub run-inside : (xs : List Tok) (k : Mark) (d : Done) (s n : State) (ts : List Tok) → run s xs ≡ Some n
    → read (inside k d s) (xs ++ ts) ≡ read (inside k d n) ts
run-inside [] k d s n ts e = let h : s ≡ n = cc in ap (λ z. read (inside k d z) ts) h
run-inside (t ∷ xs) k d s n ts e =
    let x = split-run (step s t) xs n e in
    ap (option_and_then (λ next. read next (xs ++ ts))) (inside-moves k d s x.0 t x.1) ∙ run-inside xs k d x.0 n ts x.2

pub split-parse : (o : Option State) (f : Closed) → option_and_then final o ≡ Some f → (n : State) × (o ≡ Some n) × (final n ≡ Some f)
split-parse None f e = absurd cc
split-parse (Some n) f e = (n, refl, e)

parse-run : (ts : List Tok) → parse start ts ≡ option_and_then final (run start ts)
parse-run ts = ap (parse start) (sym (append-nil ts)) ∙ run-parse ts [] start

pub formula-runs : {o : Bool} (f : Formula o) → (n : State) × (run start (formula_tokens f) ≡ Some n) × (final n ≡ Some (closed f))
formula-runs f = split-parse (run start (formula_tokens f)) (closed f) (sym (parse-run (formula_tokens f)) ∙ found f)

-- a formula and its dot, where a clause may begin
entered : (xs : List Tok) (r : Reading) (k : Mark) (d : Done) (n : State) (f : Closed) (end : Place) (ts : List Tok)
    → ((s : State) (t : Tok) → step start t ≡ Some s → move r t ≡ Some (inside k d s)) → run start xs ≡ Some n → final n ≡ Some f
    → read r (xs ++ dot end ∷ ts) ≡ read (boundary (add_clause d (marked_clause k f end))) ts
entered [] r k d n f end ts enters e h = let z : start ≡ n = cc in let y : None ≡ Some f = ap final z ∙ h in absurd cc
entered (t ∷ xs) r k d n f end ts enters e h =
    let x = split-run (step start t) xs n e in
    ap (option_and_then (λ next. read next (xs ++ dot end ∷ ts))) (enters x.0 t x.1)
    ∙ run-inside xs k d x.0 n (dot end ∷ ts) x.2
    ∙ ap (λ z. option_and_then (λ next. read next ts) (end_clause k d z end)) h

clause-read : (c : Clause) (d : Done) (ts : List Tok) → read (boundary d) (clause_tokens c ++ ts) ≡ read (boundary (add_clause d c)) ts
clause-read (plain f end) d ts =
    let x = formula-runs f in
    ap (read (boundary d)) (append_assoc (formula_tokens f) (dot end ∷ []) ts)
    ∙ entered (formula_tokens f) (boundary d) unmarked d x.0 (closed f) end ts (boundary-moves d) x.1 x.2
clause-read (linear at f end) d ts =
    let x = formula-runs f in
    ap (read (wanting at d)) (append_assoc (formula_tokens f) (dot end ∷ []) ts)
    ∙ entered (formula_tokens f) (wanting at d) (marked at) d x.0 (closed f) end ts (wanting-moves at d) x.1 x.2

abbrev add_clauses : Done → List Clause → Done
add_clauses d [] = d
add_clauses d (c ∷ cs) = add_clauses (add_clause d c) cs

clauses-read : (cs : List Clause) (d : Done) (ts : List Tok) → read (boundary d) (clauses_tokens cs ++ ts) ≡ read (boundary (add_clauses d cs)) ts
clauses-read [] d ts = refl
clauses-read (c ∷ cs) d ts =
    ap (read (boundary d)) (append_assoc (clause_tokens c) (clauses_tokens cs) ts)
    ∙ clause-read c d (clauses_tokens cs ++ ts) ∙ clauses-read cs (add_clause d c) ts

add-top : (cs ds : List Clause) → add_clauses (top cs) ds ≡ top (cs ++ ds)
add-top cs [] = ap top (sym (append-nil cs))
add-top cs (d ∷ ds) = add-top (cs ++ d ∷ []) ds ∙ ap top (append_assoc cs (d ∷ []) ds)

add-within : (cs : List Clause) (ms : List Module) (h : Heading) (ls : List Local) (es ds : List Clause)
    → add_clauses (within cs ms h ls es) ds ≡ within cs ms h ls (es ++ ds)
add-within cs ms h ls es [] = ap (within cs ms h ls) (sym (append-nil es))
add-within cs ms h ls es (d ∷ ds) = add-within cs ms h ls (es ++ d ∷ []) ds ∙ ap (within cs ms h ls) (append_assoc es (d ∷ []) ds)

params-read : (ns : List Identifier) (at : Place) (n : Identifier) (ys : List Identifier) (cs : List Clause) (ms : List Module) (end : Place) (ts : List Tok)
    → read (params at n ys cs ms) (variables ns ++ dot end ∷ ts)
    ≡ read (boundary (within cs ms (record { word = at; name = n; params = ys ++ ns; end = end }) [] [])) ts
params-read [] at n ys cs ms end ts = ap (λ z. read (boundary (within cs ms (record { word = at; name = n; params = z; end = end }) [] [])) ts)
    (sym (append-nil ys))
params-read (x ∷ ns) at n ys cs ms end ts = params-read ns at n (ys ++ x ∷ []) cs ms end ts
    ∙ ap (λ z. read (boundary (within cs ms (record { word = at; name = n; params = z; end = end }) [] [])) ts) (append_assoc ys (x ∷ []) ns)

head-read : (h : Heading) (cs : List Clause) (ms : List Module) (ts : List Tok)
    → read (heading h.word cs ms) (name h.name ∷ ((variables h.params ++ dot h.end ∷ []) ++ ts)) ≡ read (boundary (within cs ms h [] [])) ts
head-read h cs ms ts = ap (read (params h.word h.name [] cs ms)) (append_assoc (variables h.params) (dot h.end ∷ []) ts)
    ∙ params-read h.params h.word h.name [] cs ms h.end ts

names-read : (ns : List Identifier) (at : Place) (n : Identifier) (ys : List Identifier) (cs : List Clause) (ms : List Module) (h : Heading) (ls : List Local)
    (end : Place) (ts : List Tok) → read (locals at n ys cs ms h ls) (names ns ++ dot end ∷ ts)
    ≡ read (boundary (within cs ms h (ls ++ record { word = at; first = n; others = ys ++ ns; end = end } ∷ []) [])) ts
names-read [] at n ys cs ms h ls end ts = ap (λ z. read (boundary (within cs ms h (ls ++ record { word = at; first = n; others = z; end = end } ∷ []) [])) ts)
    (sym (append-nil ys))
names-read (x ∷ ns) at n ys cs ms h ls end ts = names-read ns at n (ys ++ x ∷ []) cs ms h ls end ts
    ∙ ap (λ z. read (boundary (within cs ms h (ls ++ record { word = at; first = n; others = z; end = end } ∷ []) [])) ts) (append_assoc ys (x ∷ []) ns)

local-read : (l : Local) (cs : List Clause) (ms : List Module) (h : Heading) (ls : List Local) (ts : List Tok)
    → read (boundary (within cs ms h ls [])) (local_tokens l ++ ts) ≡ read (boundary (within cs ms h (ls ++ l ∷ []) [])) ts
local-read l cs ms h ls ts = ap (read (locals l.word l.first [] cs ms h ls)) (append_assoc (names l.others) (dot l.end ∷ []) ts)
    ∙ names-read l.others l.word l.first [] cs ms h ls l.end ts

locals-read : (ls ks : List Local) (cs : List Clause) (ms : List Module) (h : Heading) (ts : List Tok)
    → read (boundary (within cs ms h ks [])) (locals_tokens ls ++ ts) ≡ read (boundary (within cs ms h (ks ++ ls) [])) ts
locals-read [] ks cs ms h ts = ap (λ z. read (boundary (within cs ms h z [])) ts) (sym (append-nil ks))
locals-read (l ∷ ls) ks cs ms h ts =
    ap (read (boundary (within cs ms h ks []))) (append_assoc (local_tokens l) (locals_tokens ls) ts)
    ∙ local-read l cs ms h ks (locals_tokens ls ++ ts) ∙ locals-read ls (ks ++ l ∷ []) cs ms h ts
    ∙ ap (λ z. read (boundary (within cs ms h z [])) ts) (append_assoc ks (l ∷ []) ls)

-- the body of a module, after its head word was taken
module-read : (m : Module) (cs : List Clause) (ms : List Module) (ts : List Tok)
    → read (heading m.heading.word cs ms) (name m.heading.name
    ∷ ((variables m.heading.params ++ dot m.heading.end ∷ []) ++ ((locals_tokens m.locals ++ clauses_tokens m.clauses) ++ ts)))
    ≡ read (boundary (within cs ms m.heading m.locals m.clauses)) ts
module-read m cs ms ts =
    head-read m.heading cs ms ((locals_tokens m.locals ++ clauses_tokens m.clauses) ++ ts)
    ∙ ap (read (boundary (within cs ms m.heading [] []))) (append_assoc (locals_tokens m.locals) (clauses_tokens m.clauses) ts)
    ∙ locals-read m.locals [] cs ms m.heading (clauses_tokens m.clauses ++ ts)
    ∙ clauses-read m.clauses (within cs ms m.heading m.locals []) ts
    ∙ ap (λ z. read (boundary z) ts) (add-within cs ms m.heading m.locals [] m.clauses)

modules-read : (xs : List Module) (cs : List Clause) (ms : List Module) (h : Heading) (ls : List Local) (ds : List Clause)
    → read (boundary (within cs ms h ls ds)) (modules_tokens xs)
    ≡ Some (record { clauses = cs; modules = ms ++ record { heading = h; locals = ls; clauses = ds } ∷ xs })
modules-read [] cs ms h ls ds = refl
modules-read (x ∷ xs) cs ms h ls ds =
    let ns : List Module = ms ++ record { heading = h; locals = ls; clauses = ds } ∷ [] in
    ap (λ z. read (heading x.heading.word cs ns) (name x.heading.name ∷ z))
    (append_assoc (variables x.heading.params ++ dot x.heading.end ∷ []) (locals_tokens x.locals ++ clauses_tokens x.clauses) (modules_tokens xs))
    ∙ module-read x cs ns (modules_tokens xs)
    ∙ modules-read xs cs ns x.heading x.locals x.clauses
    ∙ ap (λ z. Some (record { clauses = cs; modules = z })) (append_assoc ms (record { heading = h; locals = ls; clauses = ds } ∷ []) (x ∷ xs))

top-read : (xs : List Module) (cs : List Clause) → read (boundary (top cs)) (modules_tokens xs) ≡ Some (record { clauses = cs; modules = xs })
top-read [] cs = refl
top-read (x ∷ xs) cs =
    ap (λ z. read (heading x.heading.word cs []) (name x.heading.name ∷ z))
    (append_assoc (variables x.heading.params ++ dot x.heading.end ∷ []) (locals_tokens x.locals ++ clauses_tokens x.clauses) (modules_tokens xs))
    ∙ module-read x cs [] (modules_tokens xs)
    ∙ modules-read xs cs [] x.heading x.locals x.clauses

pub program-found : (p : Program) → read (boundary (top [])) (program_tokens p) ≡ Some p
program-found p =
    clauses-read p.clauses (top []) (modules_tokens p.modules)
    ∙ ap (λ z. read (boundary z) (modules_tokens p.modules)) (add-top [] p.clauses)
    ∙ top-read p.modules p.clauses
