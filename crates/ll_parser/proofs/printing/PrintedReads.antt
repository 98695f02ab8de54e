-- What is printed of a whole program is read again as this program, and its tokens can stand in a text.
use Rattle.std.proofs.Common.{◌≡◌, ℕ, Bool, true, false, List, [], ◌∷◌, ◌++◌, map, All, refl, sym, ◌∙◌, ap, subst, append-nil}
use Rattle.std.proofs.lemmas.List.Elements.{All-from_recursion, recursion_from_All}
use Rattle.ll_parser.specs.Tokens.{Identifier, dot, IsSpelled}
use Rattle.ll_parser.specs.Raw.{ProgramTree}
use Rattle.ll_parser.specs.Grammar.{Formula, formula_tokens, formula_raw}
use Rattle.ll_parser.specs.Text.{Clause, plain, linear, Local, Heading, Module, Program, clause_tokens, names, variables, local_tokens, heading_tokens}
use Rattle.ll_parser.specs.Text.{clauses_tokens, locals_tokens, module_tokens, modules_tokens, program_tokens, clause_tree, locals_of, module_tree}
use Rattle.ll_parser.specs.Text.{program_tree, programs}
use Rattle.ll_parser.specs.Reads.{Within, Reads, IsWhole}
use Rattle.ll_parser.proofs.printing.PrintedTree.{somewhere, last_formula, ending, printed_clause, printed_locals, printed_module, printed_program}
use Rattle.ll_parser.proofs.printing.Printable.{Spelled, spelled-split, spelled-join, formula-printable}
use Rattle.ll_parser.proofs.printing.PrintedForms.{last-formula-kept, ending-kept}
use Rattle.ll_parser.proofs.printing.PrintedSpelled.{ending-spelled}
use Rattle.ll_parser.proofs.machines.Room.{ClauseRoom, ClausesRoom, ModulesRoom, ProgramRoom, program-room, program-within}
use Rattle.ll_parser.proofs.printing.PrintedRoom.{formula-ending}

-- ---- the same tree

formula-same : {o : Bool} (f : Formula o) → Spelled (formula_tokens f) → formula_raw (last_formula (ending (formula_raw f))) ≡ formula_raw f
formula-same f s = last-formula-kept (ending (formula_raw f)) ∙ ending-kept (formula_raw f) (formula-printable f s)

clause-same : (c : Clause) → Spelled (clause_tokens c) → clause_tree (printed_clause (clause_tree c)) ≡ clause_tree c
clause-same (plain f end) s = ap (λ z. record { linear = false; form = z }) (formula-same f (spelled-split (formula_tokens f) (dot end ∷ []) s).0)
clause-same (linear at f end) s = ap (λ z. record { linear = true; form = z }) (formula-same f (spelled-split (formula_tokens f) (dot end ∷ []) s.1).0)

clauses-same : (cs : List Clause) → Spelled (clauses_tokens cs) → map clause_tree (map printed_clause (map clause_tree cs)) ≡ map clause_tree cs
clauses-same [] s = refl
clauses-same (c ∷ cs) s =
    let k = spelled-split (clause_tokens c) (clauses_tokens cs) s in
    ap (λ z. z ∷ map clause_tree (map printed_clause (map clause_tree cs))) (clause-same c k.0) ∙ ap (λ z. clause_tree c ∷ z) (clauses-same cs k.1)

locals-same : (ns : List Identifier) → locals_of (printed_locals ns) ≡ ns
locals-same [] = refl
locals-same (n ∷ ns) = ap (λ z. n ∷ z) (append-nil ns)

-- the parts of a module whose tokens can stand in a text
module-parts : (m : Module) → Spelled (module_tokens m) → Spelled (heading_tokens m.heading) × Spelled (locals_tokens m.locals)
    × Spelled (clauses_tokens m.clauses)
module-parts m s =
    let k = spelled-split (heading_tokens m.heading) (locals_tokens m.locals ++ clauses_tokens m.clauses) s in
    let j = spelled-split (locals_tokens m.locals) (clauses_tokens m.clauses) k.1 in (k.0, j.0, j.1)

module-same : (m : Module) → Spelled (module_tokens m) → module_tree (printed_module (module_tree m)) ≡ module_tree m
module-same m s =
    ap (λ z. record {
      name = m.heading.name;
      params = m.heading.params;
      locals = z;
      clauses =
          map clause_tree (map printed_clause (map clause_tree m.clauses));
    }) (locals-same (locals_of m.locals))
    ∙ ap (λ z. record { name = m.heading.name; params = m.heading.params; locals = locals_of m.locals; clauses = z })
    (clauses-same m.clauses (module-parts m s).2)

modules-same : (ms : List Module) → Spelled (modules_tokens ms) → map module_tree (map printed_module (map module_tree ms)) ≡ map module_tree ms
modules-same [] s = refl
modules-same (m ∷ ms) s =
    let k = spelled-split (module_tokens m) (modules_tokens ms) s in
    ap (λ z. z ∷ map module_tree (map printed_module (map module_tree ms))) (module-same m k.0) ∙ ap (λ z. module_tree m ∷ z) (modules-same ms k.1)

program-kept : (p : Program) → Spelled (program_tokens p) → program_tree (printed_program (program_tree p)) ≡ program_tree p
program-kept p s =
    let k = spelled-split (clauses_tokens p.clauses) (modules_tokens p.modules) s in
    ap (λ z. record { clauses = z; modules = map module_tree (map printed_module (map module_tree p.modules)) }) (clauses-same p.clauses k.0)
    ∙ ap (λ z. record { clauses = map clause_tree p.clauses; modules = z }) (modules-same p.modules k.1)

-- ---- tokens that can stand in a text

clause-spelled : (c : Clause) → Spelled (clause_tokens c) → Spelled (clause_tokens (printed_clause (clause_tree c)))
clause-spelled (plain f end) s =
    let k = (spelled-split (formula_tokens f) (dot end ∷ []) s).0 in
    spelled-join (formula_tokens (last_formula (ending (formula_raw f)))) (dot somewhere ∷ []) (ending-spelled (formula_raw f) (formula-printable f k)) (tt, tt)
clause-spelled (linear at f end) s =
    let k = (spelled-split (formula_tokens f) (dot end ∷ []) s.1).0 in (
      tt,
      spelled-join (formula_tokens (last_formula (ending (formula_raw f)))) (dot somewhere ∷ []) (ending-spelled (formula_raw f) (formula-printable f k))
          (tt, tt),
    )

clauses-spelled : (cs : List Clause) → Spelled (clauses_tokens cs) → Spelled (clauses_tokens (map printed_clause (map clause_tree cs)))
clauses-spelled [] s = tt
clauses-spelled (c ∷ cs) s =
    let k = spelled-split (clause_tokens c) (clauses_tokens cs) s in
    spelled-join (clause_tokens (printed_clause (clause_tree c))) (clauses_tokens (map printed_clause (map clause_tree cs))) (clause-spelled c k.0)
    (clauses-spelled cs k.1)

names-join : (xs ys : List Identifier) → Spelled (names xs) → Spelled (names ys) → Spelled (names (xs ++ ys))
names-join [] ys h k = k
names-join (x ∷ xs) ys h k = (h.0, names-join xs ys h.1 k)

locals-names : (ls : List Local) → Spelled (locals_tokens ls) → Spelled (names (locals_of ls))
locals-names [] s = tt
locals-names (l ∷ ls) s =
    let k = spelled-split (local_tokens l) (locals_tokens ls) s in
    (k.0.1.0, names-join l.others (locals_of ls) (spelled-split (names l.others) (dot l.end ∷ []) k.0.1.1).0 (locals-names ls k.1))

locals-spelled : (ns : List Identifier) → Spelled (names ns) → Spelled (locals_tokens (printed_locals ns))
locals-spelled [] s = tt
locals-spelled (n ∷ ns) s = (tt, (s.0, spelled-join (names ns ++ dot somewhere ∷ []) [] (spelled-join (names ns) (dot somewhere ∷ []) s.1 (tt, tt)) tt))

heading-spelled : (h : Heading) → Spelled (heading_tokens h)
    → Spelled (heading_tokens (record { word = somewhere; name = h.name; params = h.params; end = somewhere }))
heading-spelled h s =
    (tt, (s.1.0, spelled-join (variables h.params) (dot somewhere ∷ []) (spelled-split (variables h.params) (dot h.end ∷ []) s.1.1).0 (tt, tt)))

module-spelled : (m : Module) → Spelled (module_tokens m) → Spelled (module_tokens (printed_module (module_tree m)))
module-spelled m s =
    let k = module-parts m s in
    spelled-join (heading_tokens (record { word = somewhere; name = m.heading.name; params = m.heading.params; end = somewhere }))
    (locals_tokens (printed_locals (locals_of m.locals)) ++ clauses_tokens (map printed_clause (map clause_tree m.clauses)))
    (heading-spelled m.heading k.0)
    (spelled-join (locals_tokens (printed_locals (locals_of m.locals))) (clauses_tokens (map printed_clause (map clause_tree m.clauses)))
    (locals-spelled (locals_of m.locals) (locals-names m.locals k.1)) (clauses-spelled m.clauses k.2))

modules-spelled : (ms : List Module) → Spelled (modules_tokens ms) → Spelled (modules_tokens (map printed_module (map module_tree ms)))
modules-spelled [] s = tt
modules-spelled (m ∷ ms) s =
    let k = spelled-split (module_tokens m) (modules_tokens ms) s in
    spelled-join (module_tokens (printed_module (module_tree m))) (modules_tokens (map printed_module (map module_tree ms))) (module-spelled m k.0)
    (modules-spelled ms k.1)

program-spelled : (p : Program) → Spelled (program_tokens p) → Spelled (program_tokens (printed_program (program_tree p)))
program-spelled p s =
    let k = spelled-split (clauses_tokens p.clauses) (modules_tokens p.modules) s in
    spelled-join (clauses_tokens (map printed_clause (map clause_tree p.clauses))) (modules_tokens (map printed_module (map module_tree p.modules)))
    (clauses-spelled p.clauses k.0) (modules-spelled p.modules k.1)

-- ---- room for brackets

clause-room : (n : ℕ) (c : Clause) → Spelled (clause_tokens c) → ClauseRoom n c → ClauseRoom n (printed_clause (clause_tree c))
clause-room n (plain f end) s h = formula-ending f n (spelled-split (formula_tokens f) (dot end ∷ []) s).0 h
clause-room n (linear at f end) s h = formula-ending f n (spelled-split (formula_tokens f) (dot end ∷ []) s.1).0 h

clauses-room : (n : ℕ) (cs : List Clause) → Spelled (clauses_tokens cs) → ClausesRoom n cs → ClausesRoom n (map printed_clause (map clause_tree cs))
clauses-room n [] s h = tt
clauses-room n (c ∷ cs) s h = let k = spelled-split (clause_tokens c) (clauses_tokens cs) s in (clause-room n c k.0 h.0, clauses-room n cs k.1 h.1)

modules-room : (n : ℕ) (ms : List Module) → Spelled (modules_tokens ms) → ModulesRoom n ms → ModulesRoom n (map printed_module (map module_tree ms))
modules-room n [] s h = tt
modules-room n (m ∷ ms) s h = let k = spelled-split (module_tokens m) (modules_tokens ms) s in
    (clauses-room n m.clauses (module-parts m k.0).2 h.0, modules-room n ms k.1 h.1)

program-printed-room : (n : ℕ) (p : Program) → Spelled (program_tokens p) → ProgramRoom n p → ProgramRoom n (printed_program (program_tree p))
program-printed-room n p s h = let k = spelled-split (clauses_tokens p.clauses) (modules_tokens p.modules) s in
    (clauses-room n p.clauses k.0 h.0, modules-room n p.modules k.1 h.1)

-- ---- reading back

-- what is printed of what a program's tokens are read as
reads-printed : (limit : ℕ) (p : Program) → Spelled (program_tokens p) → Within limit (program_tokens p)
    → Reads programs limit (program_tokens (printed_program (program_tree p))) (program_tree p)
reads-printed limit p s w = (
  (printed_program (program_tree p), refl, program-kept p s),
  program-within limit (printed_program (program_tree p)) (program-printed-room limit p s (program-room limit p w)),
)

pub printed-reads : (tree : ProgramTree) → IsWhole programs tree → Reads programs 1000 (program_tokens (printed_program tree)) tree
printed-reads tree (ts, few, spelled, ((p, e, f), w)) =
    let s : Spelled (program_tokens p) = subst Spelled (sym e) (recursion_from_All IsSpelled ts spelled) in
    subst (λ z. Reads programs 1000 (program_tokens (printed_program z)) z) f (reads-printed 1000 p s (subst (Within 1000) (sym e) w))

pub printed-spelled : (tree : ProgramTree) → IsWhole programs tree → All IsSpelled (program_tokens (printed_program tree))
printed-spelled tree (ts, few, spelled, ((p, e, f), w)) =
    let s : Spelled (program_tokens p) = subst Spelled (sym e) (recursion_from_All IsSpelled ts spelled) in
    subst (λ z. All IsSpelled (program_tokens (printed_program z))) f
    (All-from_recursion IsSpelled (program_tokens (printed_program (program_tree p))) (program-spelled p s))
