-- The text by levels is the text of the parse tree that is printed: whole programs.
use Rattle.std.proofs.Common.{◌≡◌, ℕ, Bool, false, List, [], ◌∷◌, ◌++◌, map, codes, refl, sym, ◌∙◌, ap, subst, append-nil}
use Rattle.std.proofs.lemmas.List.Elements.{recursion_from_All}
use Rattle.ll_parser.specs.Tokens.{Identifier, dot, IsSpelled}
use Rattle.ll_parser.specs.Raw.{ProgramTree}
use Rattle.ll_parser.specs.Grammar.{Formula, formula_tokens, formula_raw}
use Rattle.ll_parser.specs.Text.{Clause, plain, linear, Module, Program, clause_tokens, heading_tokens, clauses_tokens, locals_tokens, module_tokens}
use Rattle.ll_parser.specs.Text.{modules_tokens, program_tokens, clause_tree, locals_of, module_tree, program_tree, programs}
use Rattle.ll_parser.specs.Reads.{IsWhole}
use Rattle.ll_parser.proofs.printing.PrintedTree.{last_formula, ending, printed_clause, printed_locals, printed_module, printed_program}
use Rattle.ll_parser.specs.Printed.{line_end, names_text, clauses, formula_text, clauses_text, locals_text, modules_text, program_text}
use Rattle.ll_parser.proofs.printing.Written.{formula_bytes, clauses_bytes, locals_bytes, modules_bytes, program_bytes}
use Rattle.ll_parser.proofs.printing.Printable.{Spelled, spelled-split, formula-printable}
use Rattle.ll_parser.proofs.printing.FormulaTexts.{formula-ending-shown}

formula-text : {o : Bool} (f : Formula o) → Spelled (formula_tokens f)
    → formula_bytes (last_formula (ending (formula_raw f))) ≡ formula_text clauses false (formula_raw f)
formula-text f s = formula-ending-shown (formula_raw f) (formula-printable f s)

clauses-text : (cs : List Clause) → Spelled (clauses_tokens cs) → clauses_bytes (map printed_clause (map clause_tree cs)) ≡ clauses_text (map clause_tree cs)
clauses-text [] s = refl
clauses-text (plain f end ∷ cs) s =
    let k = spelled-split (clause_tokens (plain f end)) (clauses_tokens cs) s in
    ap (λ z. (z ++ line_end) ++ clauses_bytes (map printed_clause (map clause_tree cs)))
    (formula-text f (spelled-split (formula_tokens f) (dot end ∷ []) k.0).0)
    ∙ ap (λ z. (formula_text clauses false (formula_raw f) ++ line_end) ++ z) (clauses-text cs k.1)
clauses-text (linear at f end ∷ cs) s =
    let k = spelled-split (clause_tokens (linear at f end)) (clauses_tokens cs) s in
    ap (λ z. (codes "LINEAR" ++ (codes " " ++ (z ++ line_end))) ++ clauses_bytes (map printed_clause (map clause_tree cs)))
    (formula-text f (spelled-split (formula_tokens f) (dot end ∷ []) k.0.1).0)
    ∙ ap (λ z. (codes "LINEAR" ++ (codes " " ++ (formula_text clauses false (formula_raw f) ++ line_end))) ++ z) (clauses-text cs k.1)

locals-text : (ns : List Identifier) → locals_bytes (printed_locals ns) ≡ locals_text ns
locals-text [] = refl
locals-text (n ∷ ns) = append-nil (codes "LOCAL" ++ names_text (n ∷ ns))

module-clauses : (m : Module) → Spelled (module_tokens m) → Spelled (clauses_tokens m.clauses)
module-clauses m s =
    let k = spelled-split (heading_tokens m.heading) (locals_tokens m.locals ++ clauses_tokens m.clauses) s in
    (spelled-split (locals_tokens m.locals) (clauses_tokens m.clauses) k.1).1

modules-text : (ms : List Module) → Spelled (modules_tokens ms) → modules_bytes (map printed_module (map module_tree ms)) ≡ modules_text (map module_tree ms)
modules-text [] s = refl
modules-text (m ∷ ms) s =
    let k = spelled-split (module_tokens m) (modules_tokens ms) s in
    let first : List ℕ = codes "MODULE" ++ names_text (m.heading.name ∷ m.heading.params) in
    ap (λ z. (first ++ (z ++ clauses_bytes (map printed_clause (map clause_tree m.clauses)))) ++ modules_bytes (map printed_module (map module_tree ms)))
    (locals-text (locals_of m.locals))
    ∙ ap (λ z. (first ++ (locals_text (locals_of m.locals) ++ z)) ++ modules_bytes (map printed_module (map module_tree ms)))
    (clauses-text m.clauses (module-clauses m k.0))
    ∙ ap (λ z. (first ++ (locals_text (locals_of m.locals) ++ clauses_text (map clause_tree m.clauses))) ++ z) (modules-text ms k.1)

program-text-of : (p : Program) → Spelled (program_tokens p) → program_bytes (printed_program (program_tree p)) ≡ program_text (program_tree p)
program-text-of p s =
    let k = spelled-split (clauses_tokens p.clauses) (modules_tokens p.modules) s in
    ap (λ z. z ++ modules_bytes (map printed_module (map module_tree p.modules))) (clauses-text p.clauses k.0)
    ∙ ap (λ z. clauses_text (map clause_tree p.clauses) ++ z) (modules-text p.modules k.1)

pub program-text : (tree : ProgramTree) → IsWhole programs tree → program_bytes (printed_program tree) ≡ program_text tree
program-text tree (ts, few, spelled, ((p, e, f), w)) =
    let s : Spelled (program_tokens p) = subst Spelled (sym e) (recursion_from_All IsSpelled ts spelled) in
    subst (λ z. program_bytes (printed_program z) ≡ program_text z) f (program-text-of p s)
